-- `mistakes::label_word` meets its contract. Assumes nothing.
use mathlib.Core.Path.{sym, ◌∙◌}
use Rattle.assembly.proofs.LineLaws.{jump_in}
use Rattle.assembly.specs.Lines.{as_line}
use Rattle.assembly.proofs.mistakes.label_word.Goals as goal

pub operand_of-requires : goal.operand_of-requires
operand_of-requires c = jump_in (as_line c.args.line) (sym c.is_jump.ensures ∙ c.if-is_jump.true)
