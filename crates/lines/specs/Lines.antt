-- Document 02, N3: line tables, what their check refuses, and what raising a line does. A table is words; row i is the four from word 4 × i
-- on. A level is covered by a row of its line whose low and high level it lies between, both included. Good tables are said level by
-- level, as the request says them; Claims.antt says what that comes to. Assumes nothing.
use Rattle.std.specs.Prelude.{ℕ, zero, suc, ◌+◌, ◌*◌, ◌/◌, Bool, List, [], ◌∷◌, eqb, leb, ltb, length}
use Rattle.model.specs.Burst.{single}
use Rattle.model.specs.Calls.{Call, Post}
use Rattle.model.specs.Device.{post}
use Rattle.model.specs.Program.{word}
use Rattle.model.specs.Test.{pick, ◌and◌, must, ◌then◌, each}
use Rattle.model.specs.declared.Answer.{Answer}
use Rattle.model.specs.Types.{Checked, Err, None, Ok, Option, Result, Some}
use Rattle.model.specs.declared.Device.{Device}
use Rattle.model.specs.declared.Refusal.{Refusal}
use Rattle.lines.specs.declared.RaiseResult.{RaiseResult}

-- ---- "a table of at most 64 rows of four words: line (0 to 15), low level, high level, event (65535 for none)"

abbrev pub line : List ℕ → ℕ → ℕ
line t i = word t (4 * i)

abbrev pub low : List ℕ → ℕ → ℕ
low t i = word t (4 * i + 1)

abbrev pub high : List ℕ → ℕ → ℕ
high t i = word t (4 * i + 2)

abbrev pub event : List ℕ → ℕ → ℕ
event t i = word t (4 * i + 3)

unfoldable pub no_event : ℕ
no_event = 65535

-- how many rows there are, an incomplete one at the end among them
abbrev pub rows : List ℕ → ℕ
rows t = (length t + 3) / 4

-- ---- "30 a 65th or incomplete row, a line past 15 or low above high (place: first such row, from 0)"

unfoldable pub row_rule : List ℕ → ℕ → Checked
row_rule t i =
    must (ltb i 64) (Refusal.LinesRow i)
    then must (leb (4 * i + 4) (length t)) (Refusal.LinesRow i)
    then must (leb (line t i) 15) (Refusal.LinesRow i)
    then must (leb (low t i) (high t i)) (Refusal.LinesRow i)

unfoldable pub row_rules : List ℕ → Checked
row_rules t = each (row_rule t) 0 (rows t)

-- ---- "For each named line, levels 0 to 65535 are covered with no gap and no overlap."

-- how many of the numbers below k pass the test
unfoldable pub count : (ℕ → Bool) → ℕ → ℕ
count f zero = 0
count f (suc k) = pick (f k) (suc (count f k)) (count f k)

unfoldable pub is_of : List ℕ → ℕ → ℕ → Bool
is_of t n i = eqb (line t i) n

unfoldable pub named : List ℕ → ℕ → Bool
named t n = leb 1 (count (is_of t n) (rows t))

unfoldable pub covers : List ℕ → ℕ → ℕ → ℕ → Bool
covers t n x i = eqb (line t i) n and leb (low t i) x and leb x (high t i)

-- how many rows cover level x of line n
unfoldable pub coverage : List ℕ → ℕ → ℕ → ℕ
coverage t n x = count (covers t n x) (rows t)

-- "31 an uncovered level, 32 a level covered twice (place: line, lowest level)"
unfoldable pub gap_rule : List ℕ → ℕ → ℕ → Checked
gap_rule t n x = must (leb 1 (coverage t n x)) (Refusal.LinesGap n x)

unfoldable pub overlap_rule : List ℕ → ℕ → ℕ → Checked
overlap_rule t n x = must (leb (coverage t n x) 1) (Refusal.LinesOverlap n x)

unfoldable pub lines : ℕ
lines = 16

unfoldable pub levels : ℕ
levels = 65536

-- a rule at every level of line n, if it is named
unfoldable pub line_rule : List ℕ → (ℕ → ℕ → Checked) → ℕ → Checked
line_rule t rule n = pick (named t n) (each (rule n) 0 levels) (Ok tt)

-- "over all lines in rising order"
unfoldable pub line_rules : List ℕ → (ℕ → ℕ → Checked) → Checked
line_rules t rule = each (line_rule t rule) 0 lines

-- "checked in that order .., 31 over all lines in rising order, then 32 likewise"
unfoldable pub check : List ℕ → Checked
check t = row_rules t then line_rules t (gap_rule t) then line_rules t (overlap_rule t)

-- ---- "Raising a line posts the row's event with the level as data; a line without rows, or event 65535, posts nothing and says so."

-- the first of the numbers from i on, of which there are k, that passes the test; i + k where none does
unfoldable pub first : (ℕ → Bool) → ℕ → ℕ → ℕ
first f i zero = i
first f i (suc k) = pick (f i) i (first f (suc i) k)

-- the row that covers level x of line n
unfoldable pub row_of : List ℕ → ℕ → ℕ → ℕ
row_of t n x = first (covers t n x) 0 (rows t)

-- its event, and none where no row does
unfoldable pub event_of : List ℕ → ℕ → ℕ → ℕ
event_of t n x = pick (ltb (row_of t n x) (rows t)) (event t (row_of t n x)) no_event

-- what raising a line posts: the table's refusal; nothing; or an event
abbrev pub Posting : Type 0
Posting = Result (Option ℕ) Refusal

-- what raising line n at level x posts: "checked .. before any post"; the table alone decides it
unfoldable pub posting_of : Checked → ℕ → Posting
posting_of (Err r) e = Err r
posting_of (Ok _) e = pick (eqb e no_event) (Ok None) (Ok (Some e))

unfoldable pub posting : List ℕ → ℕ → ℕ → Posting
posting t n x = posting_of (check t) (event_of t n x)

abbrev pub raise_result : Option Answer → Device → RaiseResult
raise_result a d = record { answer = a; device = d }

unfoldable pub raise_of : List ℕ → List ℕ → Device → ℕ → Posting → RaiseResult
raise_of p s d x (Err r) = raise_result (Some (Answer.Refused r)) d
raise_of p s d x (Ok None) = raise_result None d
raise_of p s d x (Ok (Some e)) = raise_result (Some (post p s d (single e x)).answer) (post p s d (single e x)).device

-- raising line n of table t at level x, on program p, store s and device d
unfoldable pub raise : List ℕ → List ℕ → Device → List ℕ → ℕ → ℕ → RaiseResult
raise p s d t n x = raise_of p s d x (posting t n x)

-- ---- The calls of demand 3's list that a raise is: one that posts is that post, any other is none of them.

unfoldable pub posting_calls : ℕ → Posting → List Call
posting_calls x (Err r) = []
posting_calls x (Ok None) = []
posting_calls x (Ok (Some e)) = Post (single e x) ∷ []

unfoldable pub raise_calls : List ℕ → ℕ → ℕ → List Call
raise_calls t n x = posting_calls x (posting t n x)
