-- `statements::named` meets its contract. Assumes nothing.
use native.Mathlib.Omega.{arith}
use Rattle.tokens.proofs.LineLaws.{name_most}
use Rattle.tokens.proofs.statements.named.Goals as goal

pub overflow_add-result : goal.overflow_add-result
overflow_add-result c = record { fits = omega (arith, name_most c.loop-byte.value c.loop-byte.byte-index c.loop-byte.invariant.small_value (omega arith)) }
