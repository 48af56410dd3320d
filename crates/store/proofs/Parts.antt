-- The parts of a store, each `take n (drop a s)`: what a word of a part is in the store, and what a store to a part that was lent
-- is to the whole. Assumes nothing.
use Prim.Native.Nat.{ℕ, ◌+◌, ◌-◌, ◌*◌, ◌<◌, ◌≤◌}
use mathlib.Core.List.{List}
use mathlib.Core.Path.{◌≡◌, sym, ◌∙◌, ap}
use native.Mathlib.Omega.{arith}
use borrow.Rule.Slice.PartMut.{mid_of, put_mid, set_mid_at, mid_len}
use lib.ListN.{length, take, drop, set}
use lib.Seq.{get_or-take, get_or-drop}
use Rattle.model.specs.Program.{word}
use Rattle.model.specs.Store.{view, log_at}
use Rattle.model.specs.Accepted.{Shaped}

pub word_part : (s : List ℕ) (a n i : ℕ) → i < n → word s (a + i) ≡ word (take n (drop a s)) i
word_part s a n i h = sym (get_or-take n (drop a s) i 0 h ∙ get_or-drop a s i 0)

module _ (s : List ℕ) (h : Shaped s) where
  pub log-word : (i : ℕ) → i < 2 * word s 2 → word s (word s 6 + i) ≡ word (view s).log i
  log-word i l = rw h.log_start (word_part s (log_at (word s 1)) (2 * word s 2) i l)

  pub queue-word : (i : ℕ) → i < 2 * (word s 3 + 1) → word s (word s 7 + i) ≡ word (view s).queue i
  queue-word i l = rw h.queue_start (word_part s _ (2 * (word s 3 + 1)) i l)

  -- the log part, as it is lent
  pub log_part : mid_of (word s 6) (word s 7 - word s 6) s ≡ (view s).log
  log_part =
      let e : word s 7 - word s 6 ≡ 2 * word s 2 = omega arith in
      rw (e, h.log_start)

  -- the store when the log part is back, with one word written
  pub log_written : (i v : ℕ) (log : List ℕ)
      → i < 2 * word s 2
      → log ≡ set (mid_of (word s 6) (word s 7 - word s 6) s) i v
      → put_mid (word s 6) (word s 7 - word s 6) s log ≡ set s (log_at (word s 1) + i) v
  log_written i v log l e =
      let inside : word s 7 ≤ length s = omega arith in
      let long : i < length (mid_of (word s 6) (word s 7 - word s 6) s) = rw (mid_len (word s 6) (word s 7) s inside) (omega arith) in
      rw e (set_mid_at (word s 6) (word s 7 - word s 6) i s v long ∙ ap (λ (a : ℕ). set s (a + i) v) h.log_start)

pub ruleset word_in_part = (log-word, queue-word)
