-- The column "uses" of document 01's opcode table, read off the bounds of its fields: a register is below 8, an unused field below 1.
-- Assumes nothing.
use Rattle.std.specs.Prelude.{ℕ, Bool, false, not, eqb, leb}
use Rattle.model.specs.Program.{Bounds, bounds}
use Rattle.model.specs.Test.{◌and◌}

abbrev fields : ℕ → Bounds
fields op = bounds 0 0 0 false op

unfoldable pub uses_a : ℕ → Bool
uses_a op = eqb (fields op).a 8

unfoldable pub uses_b : ℕ → Bool
uses_b op = eqb (fields op).b 8

unfoldable pub uses_k : ℕ → Bool
uses_k op = not (eqb (fields op).k 1)

-- JUMP, JZ and JLT: "to instruction k of this body"
unfoldable pub is_jump : ℕ → Bool
is_jump op = leb 12 op and leb op 14

-- GO: "task k is next"
abbrev pub go_opcode : ℕ
go_opcode = 15
