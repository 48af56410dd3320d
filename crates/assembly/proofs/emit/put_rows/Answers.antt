-- `emit::put_rows` meets its contract. Assumes nothing.
use mathlib.Core.Path.{◌≡◌, refl, ap, ◌∙◌}
use native.Mathlib.Numerals.{add-one}
use native.Mathlib.Omega.{arith}
use lib.ListN.{length}
use Prim.Native.Nat.{ℕ}
use Rattle.text.proofs.TextLaws.{puts_nothing, puts_then}
use Rattle.assembly.proofs.LineLaws.{count_room, count_next, lines_whole}
use Rattle.assembly.proofs.WordLaws.{row-length}
use Rattle.assembly.specs.Lines.{lines_at, body_line, count, count_from}
use Rattle.assembly.specs.Words.{rows}
use Rattle.tokens.specs.Tokens.{all_numbers}
use Rattle.assembly.proofs.emit.put_rows.Goals as goal

pub loop-i-init : goal.loop-i-init
unfolding rows lines_at count_from
loop-i-init c = record { same_length = refl; end_is = omega arith; puts = puts_nothing c.args.words.now c.args.at }

pub put_row-end-requires-clause-room_left : goal.put_row-end-requires-clause-room_left
put_row-end-requires-clause-room_left c =
    omega (arith, c.requires.room_left, c.loop-i.invariant.same_length, c.loop-i.invariant.end_is, count_room body_line c.args.lines.now c.loop-i.i (omega arith))

pub loop-i-preserved : goal.loop-i-preserved
unfolding rows
loop-i-preserved c =
    let room = all_numbers c.args.lines.now in
    let i = c.loop-i.i in
    record {
      same_length = c.put_row-end.auto.words ∙ c.loop-i.invariant.same_length;
      end_is = omega (arith, c.put_row-end.ensures.ends, row-length room (length c.args.lines.now) i, count_next body_line room i, c.loop-i.invariant.end_is);
      puts = rw add-one (puts_then c.loop-i.invariant.puts c.put_row-end.ensures);
    }

pub returns-clause-value : goal.returns-clause-value
returns-clause-value c =
    let ls = c.args.lines.now in
    let last : c.loop-i.i ≡ length ls = omega arith in
    omega (arith, c.loop-i.invariant.end_is, ap (λ (k : ℕ). count body_line (lines_at (all_numbers ls) 0 k)) last, ap (count body_line) (lines_whole ls))
