-- `emit::put_row` meets its contract. Assumes nothing.
use mathlib.Core.Path.{sym, ap, ◌∙◌}
use native.Mathlib.Omega.{arith}
use Rattle.assembly.proofs.LineLaws.{line_in, one-body}
use Rattle.assembly.specs.Lines.{line_at, is_body}
use Rattle.tokens.specs.Tokens.{all_numbers}
use Rattle.assembly.proofs.emit.put_row.Goals as goal

pub put-requires : goal.put-requires
put-requires c =
    let body = ap is_body (line_in c.args.lines.now c.args.i _ c.requires.i_in_bounds) ∙ sym c.is_body.ensures ∙ c.if-is_body.true in
    omega (arith, c.requires.room_left, one-body (line_at (all_numbers c.args.lines.now) c.args.i) body)
