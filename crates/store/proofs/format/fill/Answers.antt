-- `format::fill` meets its contract: words that are all 0, with nine stores, make the formatted store. Assumes nothing.
use Prim.Native.Nat.{ℕ, ◌+◌, ◌-◌}
use mathlib.Core.List.{List}
use mathlib.Core.Path.{◌≡◌, sym, ◌∙◌, ap}
use native.Mathlib.Omega.{arith}
use lib.ListN.{set, replicate, replicate-append-replicate}
use Rattle.model.specs.Program.{memory_words, entry}
use Rattle.model.specs.Store.{store_mark, control_at, memory_at, log_at, queue_at, store_length, store_contents, formatted}
use Rattle.store.proofs.format.fill.Goals as goal

filled : (p : List ℕ) (l q : ℕ) {s : List ℕ} {log queue : ℕ}
    → s ≡ replicate (store_length (memory_words p) l q) 0
    → log ≡ log_at (memory_words p)
    → queue ≡ queue_at (memory_words p) l
    → set (set (set (set (set (set (set (set (set s 0 store_mark) 1 (memory_words p)) 2 l) 3 q) 4 control_at) 5 memory_at) 6 log) 7 queue) 9 (entry p)
    ≡ formatted p l q
unfolding formatted store_contents
filled p l q zeros log queue =
    let rest = store_length (memory_words p) l q - 10 in
    let e : store_length (memory_words p) l q ≡ 10 + rest = omega arith in
    rw (zeros, log, queue, ap (λ (n : ℕ). replicate n 0) e ∙ sym (replicate-append-replicate {A = ℕ} 10 rest 0))

pub returns : goal.returns
unfolding store_mark
returns c =
    let a = c.args in
    filled a.program.now a.log_pairs a.queue_records (c.fill.ensures.after (λ y e. e) ∙ ap (λ (n : ℕ). replicate n 0) c.requires.store_len)
    c.log_start.ensures
    c.queue_start.ensures
