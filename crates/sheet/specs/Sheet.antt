-- Document 02, N1, "Exam sheets from a schedule": from the bytes of program.img and of the schedule to the bytes of the sheet. A number
-- below 256 is a byte; `code` is a character's. Assumes nothing.
use Prim.Native.Char.{code}
use Rattle.std.specs.Prelude.{ℕ, ◌+◌, ◌*◌, List, [], ◌∷◌, ◌++◌, eqb, leb, length, Option, Some, None, Ok, Err}
use Rattle.image.specs.Image.{program_of, image_check}
use Rattle.model.specs.Answer.{RefusalNumber, refusal}
use Rattle.model.specs.Burst.{single}
use Rattle.model.specs.Calls.{Call, Boot, Step, Cut, Post, call, Recovery, recovered, refused, unfinished, recovery}
use Rattle.model.specs.Demand3.{recovery_steps}
use Rattle.model.specs.Device.{off}
use Rattle.model.specs.Program.{word}
use Rattle.model.specs.Store.{view, formatted, settled}
use Rattle.model.specs.Test.{pick, ◌and◌}
use Rattle.model.specs.Types.{Checked}
use Rattle.model.specs.declared.Answer.{Answer}
use Rattle.model.specs.declared.Device.{Device}
use Rattle.text.specs.Ascii.{ascii}
use Rattle.text.specs.Text.{decimal, spaced, digit, hex_words}

-- ---- "b boot, s step, c cut, p, an event digit and four data digits, in hex of either case, unspaced"

unfoldable pub letter : ℕ → Option Call
letter byte = pick (eqb byte (code "b")) (Some Boot) (pick (eqb byte (code "s")) (Some Step) (pick (eqb byte (code "c")) (Some Cut) None))

unfoldable pub posting : ℕ → ℕ → ℕ → ℕ → ℕ → Option Call
posting event first second third fourth =
    pick (leb event 15 and leb first 15 and leb second 15 and leb third 15 and leb fourth 15)
    (Some (Post (single event (4096 * first + 256 * second + 16 * third + fourth))))
    None

unfoldable pub post_of : List ℕ → Option Call
post_of line =
    pick (eqb (word line 0) (code "p"))
    (posting (digit (word line 1)) (digit (word line 2)) (digit (word line 3)) (digit (word line 4)) (digit (word line 5)))
    None

-- the call of a line, if the line can be read
unfoldable pub scheduled : List ℕ → Option Call
scheduled line = pick (eqb (length line) 1) (letter (word line 0)) (pick (eqb (length line) 6) (post_of line) None)

-- ---- "Calls stand one to a line (the last line feed may be missing)"

abbrev pub line_feed : ℕ
line_feed = code "\n"

-- a last line without its line feed, if there is a byte of it
unfoldable pub last_line : List ℕ → List (List ℕ)
last_line [] = []
last_line (byte ∷ bytes) = (byte ∷ bytes) ∷ []

-- the lines of the bytes that follow, where a line has begun
unfoldable pub lines_from : List ℕ → List ℕ → List (List ℕ)
lines_from begun [] = last_line begun
lines_from begun (byte ∷ bytes) = pick (eqb byte line_feed) (begun ∷ lines_from [] bytes) (lines_from (begun ++ (byte ∷ [])) bytes)

-- ---- Words: "in four capital hex digits, all parted by single spaces"

-- each behind a space: `hex_words` (crates/text)

-- ---- The sheet's lines

-- "call memory"
unfoldable pub header : List ℕ
header = ascii "call memory\n"

-- "for each cut the call's number in decimal and the words that uncut recovery would leave"
unfoldable pub memory_left : Recovery → List ℕ
memory_left (recovered n s) = (view s).memory
memory_left (refused r) = []
memory_left unfinished = []

unfoldable pub memory_line : ℕ → List ℕ → List ℕ
memory_line n memory = decimal n ++ hex_words memory ++ (line_feed ∷ [])

-- what uncut recovery, with as many steps as it takes, leaves of the store s
unfoldable pub recovered_memory : List ℕ → List ℕ → List ℕ
recovered_memory p s = memory_left (recovery p (recovery_steps (view s)) s)

-- "A refused call prints its number, "refused", the refusal's number and its two place words in decimal."
unfoldable pub refused_line : ℕ → RefusalNumber → List ℕ
refused_line n r =
    decimal n
    ++ ascii " refused"
    ++ spaced r.number
    ++ spaced r.first
    ++ spaced r.second
    ++ (line_feed ∷ [])

-- N7: for a dropped record "the call's number, "dropped", event and data in decimal"
unfoldable pub dropped_line : ℕ → ℕ → ℕ → List ℕ
dropped_line n event datum = decimal n ++ ascii " dropped" ++ spaced event ++ spaced datum ++ (line_feed ∷ [])

-- the line of an answer to call n, which is no cut: none, unless it is refused or tells a dropped record
unfoldable pub answer_line : ℕ → Answer → List ℕ
answer_line n Answer.Done = []
answer_line n (Answer.Chosen b) = []
answer_line n Answer.Worked = []
answer_line n Answer.Stored = []
answer_line n (Answer.Committed b) = []
answer_line n (Answer.Accepted None) = []
answer_line n (Answer.Accepted (Some dropped)) = dropped_line n dropped.event dropped.datum
answer_line n (Answer.Refused r) = refused_line n (refusal r)

-- "An unreadable call prints its number and "unread""
unfoldable pub unread_line : ℕ → List ℕ
unread_line n = decimal n ++ ascii " unread\n"

-- the line of call c, of number n, which is no cut
unfoldable pub other_line : List ℕ → List ℕ → Device → ℕ → Call → List ℕ
other_line p s d n c = answer_line n (call p s d c).answer

unfoldable pub call_line : List ℕ → List ℕ → Device → ℕ → Call → List ℕ
call_line p s d n Boot = other_line p s d n Boot
call_line p s d n Step = other_line p s d n Step
call_line p s d n Cut = memory_line n (recovered_memory p s)
call_line p s d n (Post rs) = other_line p s d n (Post rs)

-- ---- The sheet

-- what a line that can be read prints, or one that can't
unfoldable pub if_read : Option Call → (Call → List ℕ) → List ℕ → List ℕ
if_read None read unread = unread
if_read (Some c) read unread = read c

-- the lines of program p from call n on, with the store s and the device d: an unreadable call "ends the sheet"
unfoldable pub sheet_lines : List ℕ → List ℕ → Device → ℕ → List (List ℕ) → List ℕ
sheet_lines p s d n [] = []
sheet_lines p s d n (line ∷ lines) =
    if_read (scheduled line)
    (λ c. call_line p s d n c ++ sheet_lines p (settled s (call p s d c).write) (call p s d c).device (n + 1) lines)
    (unread_line n)

-- "A program that the check refuses prints the header, then such a line with call 0, and no more."
unfoldable pub if_checked : Checked → List ℕ → List ℕ
if_checked (Ok _) accepted = accepted
if_checked (Err r) accepted = refused_line 0 (refusal r)

-- "It prints "call memory", then for each cut .."; calls "are numbered from 1"; "L and Q are 1"
unfoldable pub sheet : List ℕ → List ℕ → List ℕ
sheet image schedule =
    let p = program_of image in
    header ++ if_checked (image_check image) (sheet_lines p (formatted p 1 1) off 1 (lines_from [] schedule))
