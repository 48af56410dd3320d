-- `emit::put_bodies` meets its contract. Assumes nothing.
use mathlib.Core.Path.{refl, ap, ◌∙◌}
use native.Mathlib.Numerals.{add-one}
use native.Mathlib.Omega.{arith}
use lib.ListN.{length}
use Prim.Native.Nat.{ℕ}
use Rattle.text.proofs.TextLaws.{puts_nothing, puts_then, puts_as}
use Rattle.assembly.proofs.LineLaws.{count_room, count_next}
use Rattle.assembly.proofs.MistakeLaws.{start_next}
use Rattle.assembly.proofs.WordLaws.{instruction-length}
use Rattle.assembly.specs.Lines.{line_at, lines_at, instruction_line, count_from, body_start}
use Rattle.assembly.specs.Words.{instruction_words, body_words}
use Rattle.tokens.specs.Tokens.{all_numbers}
use Rattle.assembly.proofs.emit.put_bodies.Goals as goal

pub loop-i-init : goal.loop-i-init
unfolding body_words lines_at count_from body_start
loop-i-init c = record { same_length = refl; end_is = omega arith; puts = puts_nothing c.args.words.now c.args.at; start_le_i = omega arith; start = refl }

pub put_instruction-end-requires-clause-room_left : goal.put_instruction-end-requires-clause-room_left
put_instruction-end-requires-clause-room_left c =
    omega (arith, c.requires.room_left, c.loop-i.invariant.same_length, c.loop-i.invariant.end_is, count_room instruction_line c.args.lines.now c.loop-i.i (omega arith))

pub loop-i-preserved : goal.loop-i-preserved
unfolding body_words
loop-i-preserved c =
    let room = all_numbers c.args.lines.now in
    let n = length c.args.lines.now in
    let i = c.loop-i.i in
    let of-line = ap (λ (s : ℕ). instruction_words room n s (line_at room i)) c.loop-i.invariant.start in
    record {
      same_length = c.put_instruction-end.auto.words ∙ c.loop-i.invariant.same_length;
      end_is = omega (arith, c.put_instruction-end.ensures.ends, instruction-length room n c.loop-i.start (line_at room i), count_next instruction_line room i, c.loop-i.invariant.end_is);
      puts = rw add-one (puts_then c.loop-i.invariant.puts (puts_as c.put_instruction-end.ensures of-line));
      start_le_i = c.next_start-start.ensures.upper_bound;
      start = start_next _ _ _ _ c.loop-i.invariant.start c.next_start-start.ensures.value;
    }
