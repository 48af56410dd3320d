-- What the inner functions of the check of a table promise: of rows that 30 accepts, the lowest level of a gap, and the lowest place that
-- rows share. No promise to a host rests on this. Assumes nothing.
use Rattle.std.specs.Prelude.{ℕ, ◌+◌, ◌*◌, ◌≤◌, ◌<◌, Bool, List, ◌≡◌, eqb, leb, length}
use Rattle.model.specs.Test.{pick, ◌and◌}
use Rattle.model.specs.Types.{Ok}
use Rattle.lines.specs.declared.levels.Row.{Row}
use Rattle.lines.specs.Lines.{line, low, high, event, rows, coverage, gap_rule, overlap_rule, line_rules}

-- row i
abbrev pub row_at : List ℕ → ℕ → Row
row_at t i = record { line = line t i; low = low t i; high = high t i; event = event t i }

-- what 30 gives
pub record Whole (t : List ℕ) : Type 0 where
  pub words : length t ≡ 4 * rows t
  pub most : rows t ≤ 64
  pub named_lines : (i : ℕ) → i < rows t → line t i ≤ 15
  pub in_order : (i : ℕ) → i < rows t → low t i ≤ high t i

-- Row i goes on where the rows before it end: those are of lines below n, the last of them has the levels below x of line n - 1, and a line
-- that has them all is followed by a higher one.
unfoldable pub follows : List ℕ → ℕ → ℕ → ℕ → Bool
follows t i n x = pick (eqb x 65536) (leb n (line t i) and eqb (low t i) 0) (eqb (line t i + 1) n and eqb (low t i) x)

-- neither 31 nor 32
pub record Partitioned (t : List ℕ) : Type 0 where
  pub no_gaps : line_rules t (gap_rule t) ≡ Ok tt
  pub no_overlaps : line_rules t (overlap_rule t) ≡ Ok tt

-- r is the least number of which P holds, if one is below b; else it is b
pub record Least (P : ℕ → Type 0) (b r : ℕ) : Type 0 where
  pub most : r ≤ b
  pub found : r < b → P r
  pub least : (k : ℕ) → P k → r ≤ k

abbrev pub Gap : List ℕ → ℕ → ℕ → Type 0
Gap t n x = coverage t n x ≡ 0

-- rows i and j cover level x of line n
pub record Share (t : List ℕ) (i j n x : ℕ) : Type 0 where
  pub level : x < 65536
  pub line_is : line t i ≡ n
  pub same_line : line t j ≡ n
  pub from_low : low t i ≤ x
  pub to_high : x ≤ high t i
  pub from_other_low : low t j ≤ x
  pub to_other_high : x ≤ high t j

-- level x of line n is place 65536 × n + x; place z is one that rows i and j share, i and one of the first k, two of the first k
abbrev pub SharedAt : List ℕ → ℕ → ℕ → ℕ → Type 0
SharedAt t i j z = (n : ℕ) × (x : ℕ) × Share t i j n x × (z ≡ 65536 * n + x)

abbrev pub SharedBelow : List ℕ → ℕ → ℕ → ℕ → Type 0
SharedBelow t i k z = (j : ℕ) × (j < k) × SharedAt t i j z

abbrev pub SharedAmong : List ℕ → ℕ → ℕ → Type 0
SharedAmong t k z = (i : ℕ) × (i < k) × SharedBelow t i i z
