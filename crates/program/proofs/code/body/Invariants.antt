-- `code::body` meets its contract. The invariant: what is left of the body decides the answer. The measure is how many
-- instructions are left. Assumes nothing.
use Prim.Native.Nat.{◌-◌, ◌≤◌}
use mathlib.Core.Path.{◌≡◌}
use Rattle.model.specs.Check.{instruction_rule, body_rule}
use Rattle.model.specs.Program.{instructions}
use Rattle.model.specs.Test.{each}
use Rattle.program.proofs.code.body.Given as goal

abbrev pub invariant-loop-instruction : goal.invariant-loop-instruction
invariant-loop-instruction l = (l.instruction-end ≡ instructions l.program l.body_number) × (l.instruction ≤ l.instruction-end) × (each (instruction_rule l.program l.body_number) l.instruction (l.instruction-end - l.instruction) ≡ body_rule l.program l.body_number)
