-- `emit::put_instruction` meets its contract. Assumes nothing.
use mathlib.Core.Path.{sym, ap, ◌∙◌}
use native.Mathlib.Omega.{arith}
use Rattle.assembly.proofs.LineLaws.{line_in, one-instruction}
use Rattle.assembly.specs.Lines.{line_at, is_instruction}
use Rattle.tokens.specs.Tokens.{all_numbers}
use Rattle.assembly.proofs.emit.put_instruction.Goals as goal

pub put-requires : goal.put-requires
put-requires c =
    let instruction = ap is_instruction (line_in c.args.lines.now c.args.i _ c.requires.start_le_i.1) ∙ sym c.is_instruction.ensures ∙ c.if-is_instruction.true in
    omega (arith, c.requires.room_left, one-instruction (line_at (all_numbers c.args.lines.now) c.args.i) instruction)
