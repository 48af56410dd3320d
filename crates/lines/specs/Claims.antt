-- What is claimed of line tables, for all words, as statements; proofs/All.antt has the theorems. A good table is said without counting: of each
-- named line every level from 0 to 65535 is in exactly one row. The check accepts the good tables and no others; a refusal names the
-- first row, or the lowest line with its lowest level. A raise is the post of the row's event, or no call at all. Assumes nothing.
use Rattle.std.specs.Prelude.{ℕ, ◌+◌, ◌*◌, ◌≤◌, ◌<◌, List, ◌⊎◌, ◌≢◌, ◌≡◌, length}
use Rattle.model.specs.Burst.{single}
use Rattle.model.specs.Calls.{after_calls}
use Rattle.model.specs.Device.{post}
use Rattle.model.specs.declared.Answer.{Answer}
use Rattle.model.specs.Types.{Err, None, Ok, Some}
use Rattle.model.specs.declared.Device.{Device}
use Rattle.model.specs.declared.Refusal.{Refusal}
use Rattle.lines.specs.Lines.{line, low, high, event, rows, levels, no_event, check, raise_result, raise, raise_calls}

-- ---- Good tables

-- "at most 64 rows of four words: line (0 to 15), low level, high level"; not "low above high"
pub record GoodRow (t : List ℕ) (i : ℕ) : Type 0 where
  pub at_most_64 : i < 64
  pub complete : 4 * i + 4 ≤ length t
  pub line_to_15 : line t i ≤ 15
  pub low_to_high : low t i ≤ high t i

-- line n has a row
abbrev pub Named : List ℕ → ℕ → Type 0
Named t n = (i : ℕ) × (i < rows t) × (line t i ≡ n)

-- row i covers level x of line n
pub record Covers (t : List ℕ) (n x i : ℕ) : Type 0 where
  pub there : i < rows t
  pub line_is : line t i ≡ n
  pub from_low : low t i ≤ x
  pub to_high : x ≤ high t i

abbrev pub Covered : List ℕ → ℕ → ℕ → Type 0
Covered t n x = (i : ℕ) × Covers t n x i

abbrev pub CoveredTwice : List ℕ → ℕ → ℕ → Type 0
CoveredTwice t n x = (i : ℕ) × (j : ℕ) × (i < j) × Covers t n x i × Covers t n x j

-- just one row covers it
abbrev pub InOneRow : List ℕ → ℕ → ℕ → Type 0
InOneRow t n x = (i : ℕ) × Covers t n x i × ((j : ℕ) → Covers t n x j → j ≡ i)

-- "For each named line, levels 0 to 65535 are covered with no gap and no overlap."
pub record Good (t : List ℕ) : Type 0 where
  pub good_rows : (i : ℕ) → i < rows t → GoodRow t i
  pub in_one_row : (n x : ℕ) → Named t n → x < levels → InOneRow t n x

abbrev pub AcceptedIsGood : Type 0
AcceptedIsGood = (t : List ℕ) → check t ≡ Ok tt → Good t

abbrev pub GoodIsAccepted : Type 0
GoodIsAccepted = (t : List ℕ) → Good t → check t ≡ Ok tt

-- ---- Refused tables

-- 30: "place: first such row"
pub record FirstBadRow (t : List ℕ) (i : ℕ) : Type 0 where
  pub there : i < rows t
  pub bad : GoodRow t i → ⊥
  pub before : (j : ℕ) → j < i → GoodRow t j

-- 31: "place: line, lowest level", "over all lines in rising order"; no row is bad
pub record LowestGap (t : List ℕ) (n x : ℕ) : Type 0 where
  pub good_rows : (i : ℕ) → i < rows t → GoodRow t i
  pub named : Named t n
  pub level : x < levels
  pub gap : Covered t n x → ⊥
  pub below : (y : ℕ) → y < x → Covered t n y
  pub lines_before : (m y : ℕ) → m < n → Named t m → y < levels → Covered t m y

-- "then 32 likewise": no line has a gap
pub record LowestOverlap (t : List ℕ) (n x : ℕ) : Type 0 where
  pub good_rows : (i : ℕ) → i < rows t → GoodRow t i
  pub no_gap : (m y : ℕ) → Named t m → y < levels → Covered t m y
  pub overlap : CoveredTwice t n x
  pub below : (y : ℕ) → y < x → CoveredTwice t n y → ⊥
  pub lines_before : (m y : ℕ) → m < n → y < levels → CoveredTwice t m y → ⊥

-- what is so where the check refuses with this
pub data Blames (t : List ℕ) : Refusal → Type 0 where
  row : (i : ℕ) → FirstBadRow t i → Blames t (Refusal.LinesRow i)
  gap : (n x : ℕ) → LowestGap t n x → Blames t (Refusal.LinesGap n x)
  overlap : (n x : ℕ) → LowestOverlap t n x → Blames t (Refusal.LinesOverlap n x)

abbrev pub RefusedIsBlamed : Type 0
RefusedIsBlamed = (t : List ℕ) (r : Refusal) → check t ≡ Err r → Blames t r

-- ---- Raising line n of table t at level x, on program p, store s and device d

-- "Raising a line posts the row's event with the level as data": of the one row that covers it; the answer and the device state are the post's, and
-- the store by RaiseIsItsCalls
abbrev pub RaisePosts : Type 0
RaisePosts =
    (p s : List ℕ) (d : Device) (t : List ℕ) (n x i : ℕ) → check t ≡ Ok tt → x < levels → Covers t n x i → event t i ≢ no_event
    → raise p s d t n x ≡ raise_result (Some (post p s d (single (event t i) x)).answer) (post p s d (single (event t i) x)).device

-- "a line without rows, or event 65535, posts nothing and says so"
abbrev pub RaisePostsNothing : Type 0
RaisePostsNothing =
    (p s : List ℕ) (d : Device) (t : List ℕ) (n x : ℕ) → check t ≡ Ok tt → x < levels
    → (Named t n → ⊥) ⊎ ((i : ℕ) × Covers t n x i × (event t i ≡ no_event)) → raise p s d t n x ≡ raise_result None d

-- "checked .. before any post"
abbrev pub RaiseChecksFirst : Type 0
RaiseChecksFirst =
    (p s : List ℕ) (d : Device) (t : List ℕ) (n x : ℕ) (r : Refusal) → check t ≡ Err r
    → raise p s d t n x ≡ raise_result (Some (Answer.Refused r)) d

-- In demand 3's list a raise is its `raise_calls`: the post, if it posts, and otherwise no call. Store and device are then as these leave them.
abbrev pub RaiseIsItsCalls : Type 0
RaiseIsItsCalls =
    (p s : List ℕ) (d : Device) (t : List ℕ) (n x : ℕ)
    → after_calls p s d (raise_calls t n x) ≡ record { store = s; device = (raise p s d t n x).device }
