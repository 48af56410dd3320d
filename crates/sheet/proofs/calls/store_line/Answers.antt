-- `calls::store_line` meets its contract: the memory's words, where the contents are sound. Assumes nothing.
use Prim.Native.Nat.{ℕ, ◌+◌, ◌-◌}
use mathlib.Core.List.{List, []}
use mathlib.Core.Path.{◌≡◌, ap, ◌∙◌}
use native.Mathlib.Omega.{arith}
use lib.ListN.{take, drop}
use Rattle.model.specs.Program.{word}
use Rattle.text.proofs.TextLaws.{puts_nothing}
use Rattle.sheet.specs.Sheet.{memory_line}
use Rattle.sheet.proofs.calls.store_line.Goals as goal

pub returns-then-words-gt1024 : goal.returns-then-words-gt1024
returns-then-words-gt1024 c =
    record {
      printed = [];
      puts = puts_nothing _ _;
      short = omega arith;
      memory = λ most start inside. absurd (omega (arith, c.word-words.ensures));
    }

pub returns : goal.returns
returns c =
    let s = c.args.store.now in
    record {
      printed = _;
      puts = c.memory_line.ensures.puts;
      short = omega (arith, c.memory_line.ensures.upper_bound, c.if-words-gt1024.false);
      memory =
          λ most start inside.
          let count : c.word-start.result + c.word-words.result - c.word-start.result ≡ word s 1 = omega (arith, c.word-words.ensures) in
          ap (λ (l : List ℕ). memory_line c.args.number l)
          (ap (λ (k : ℕ). take k (drop c.word-start.result s)) count ∙ ap (λ (k : ℕ). take (word s 1) (drop k s)) (c.word-start.ensures ∙ start));
    }
