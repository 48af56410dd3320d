-- Worked rows of the sheet. proofs/Rows.antt has the theorem, in which the checker computes every row from the definitions.
use Rattle.std.specs.Prelude.{ℕ, ◌/◌, ◌%◌, ◌≡◌, List, [], ◌∷◌, ◌++◌, set}
use Prim.Native.String.{String}
use Rattle.model.specs.Starred.{counting}
use Rattle.sheet.specs.Sheet.{sheet}
use Rattle.text.specs.Ascii.{ascii}

-- program.img of these words
unfoldable pub image_of : List ℕ → List ℕ
image_of [] = []
image_of (w ∷ ws) = (w % 256) ∷ (w / 256) ∷ image_of ws

-- the sheet of an image, and that of the counting program
abbrev pub SheetIs : List ℕ → String → String → Type 0
SheetIs image schedule printed = sheet image (ascii schedule) ≡ ascii printed

abbrev pub CountingSheetIs : String → String → Type 0
CountingSheetIs schedule printed = SheetIs (image_of counting) schedule printed

pub record SheetRows : Type 0 where
  -- "For the counting program, b, nine s, c, b, ten s, c prints .."
  pub example :
      CountingSheetIs "b\ns\ns\ns\ns\ns\ns\ns\ns\ns\nc\nb\ns\ns\ns\ns\ns\ns\ns\ns\ns\ns\nc\n" "call memory\n11 0000 0000\n23 0001 0000\n"
  -- "the last line feed may be missing"
  pub no_last_line_feed : CountingSheetIs "b\ns\ns\ns\ns\ns\ns\ns\ns\ns\ns\nc" "call memory\n12 0001 0000\n"
  -- an event with its data, cut at its commit store: "in hex of either case", "in four capital hex digits"
  pub event : CountingSheetIs "b\np01aBc\ns\ns\ns\ns\ns\ns\ns\ns\ns\nc\n" "call memory\n12 0000 1ABC\n"
  -- the sheet's device goes on from the cut, not from the recovery of the copy
  pub goes_on_off : CountingSheetIs "b\nc\ns\nb\n" "call memory\n2 0000 0000\n3 refused 22 0 0\n"
  -- "an odd byte count is 1", "a missing file is empty"
  pub odd_count : SheetIs (image_of counting ++ (0 ∷ [])) "b\n" "call memory\n0 refused 1 0 0\n"
  pub missing_file : SheetIs [] "b\n" "call memory\n0 refused 1 0 0\n"
  -- "A program that the check refuses prints the header, then such a line with call 0, and no more.": T 33, an instruction
  pub refused_program : SheetIs (image_of (set counting 1 33)) "B\n" "call memory\n0 refused 3 1 0\n"
  pub refused_instruction : SheetIs (image_of (set counting 24 0x0200)) "b\nc\n" "call memory\n0 refused 5 1 1\n"
  -- no input at all, and a single line feed
  pub no_input : CountingSheetIs "" "call memory\n"
  pub line-feed : CountingSheetIs "\n" "call memory\n1 unread\n"
  -- an unreadable call "ends the sheet": a capital letter, a CR, a space, a digit too many and too few, no digit
  pub capital : CountingSheetIs "b\nB\nc\n" "call memory\n2 unread\n"
  pub carriage_return : CountingSheetIs "b\r\nc\n" "call memory\n1 unread\n"
  pub spaced : CountingSheetIs "c\np 00000\nc\n" "call memory\n1 0000 0000\n2 unread\n"
  pub long_post : CountingSheetIs "p000000\nc\n" "call memory\n1 unread\n"
  pub short_post : CountingSheetIs "p0000\nc\n" "call memory\n1 unread\n"
  pub no_digit : CountingSheetIs "p000g0\nc\n" "call memory\n1 unread\n"
  -- "A refused call prints its number, "refused", the refusal's number and its two place words": off, no such event, a full queue once the event
  -- has begun; on
  pub refused_step : CountingSheetIs "s\nc\n" "call memory\n1 refused 22 0 0\n2 0000 0000\n"
  pub refused_post : CountingSheetIs "b\np10000\nc\n" "call memory\n2 refused 8 0 0\n3 0000 0000\n"
  pub queue_full : CountingSheetIs "b\np00007\ns\ns\ns\ns\np00008\n" "call memory\n7 refused 21 0 0\n"
  -- N7: "prints the call's number, "dropped", event and data in decimal": that of the accepting step, which comes behind the head store. Where a cut
  -- comes between, no line tells it.
  pub dropped : CountingSheetIs "b\np01abc\ns\ns\ns\np00008\ns\ns\ns\ns\n" "call memory\n10 dropped 0 6844\n"
  pub dropped_and_cut : CountingSheetIs "b\np01abc\ns\ns\ns\np00008\ns\ns\ns\nc\n" "call memory\n10 0000 0000\n"
  pub refused_boot : CountingSheetIs "b\nb\n" "call memory\n2 refused 26 0 0\n"
