-- Worked rows of line tables: what the check finds, level by level, and what raising posts. They hold the definitions where no theorem would
-- notice another meaning. proofs/LinesRows.antt has the theorem, in which the checker computes every row from the definitions.
use Rattle.std.specs.Prelude.{ℕ, zero, suc, ◌≡◌, List, [], ◌∷◌, ◌++◌}
use Rattle.model.specs.Types.{Err, None, Ok, Some}
use Rattle.model.specs.declared.Refusal.{Refusal}
use Rattle.lines.specs.Lines.{coverage, gap_rule, levels, line_rules, check, posting, event_of, posting_of, row_rules}

-- a row: its line, its low and high level, its event
abbrev pub band : ℕ → ℕ → ℕ → ℕ → List ℕ
band n low high e = n ∷ low ∷ high ∷ e ∷ []

abbrev pub RefusesWith : List ℕ → Refusal → Type 0
RefusesWith t r = check t ≡ Err r

-- of rows that 30 accepts
abbrev pub GapIs : List ℕ → ℕ → ℕ → Type 0
GapIs t n x = line_rules t (gap_rule t) ≡ Err (Refusal.LinesGap n x)

-- k rows of line 0, each of every level
unfoldable pub whole_rows : ℕ → List ℕ
whole_rows zero = []
whole_rows (suc k) = band 0 0 65535 0 ++ whole_rows k

-- a soil probe: line 0 tells moisture and is silent from 30000 on, line 1 tells pulses of a water meter
unfoldable pub probe : List ℕ
probe = band 0 0 29999 0 ++ band 0 30000 65535 65535 ++ band 1 0 65535 1

pub record LinesRows : Type 0 where
  -- a level's rows: both ends of a row are its own, and at a border that two rows have the level counts twice; no row
  pub low_end : coverage probe 0 30000 ≡ 1
  pub high_end : coverage probe 0 29999 ≡ 1
  pub other_lines_apart : coverage probe 1 30000 ≡ 1
  pub border_twice : coverage (band 6 0 9 0 ++ band 6 9 65535 0) 6 9 ≡ 2
  pub no_row : check [] ≡ Ok tt
  -- "a 65th or incomplete row": rows are looked at in order, whatever is wrong with them; a 65th that is incomplete is row 64
  pub row_64 : RefusesWith (whole_rows 65) (Refusal.LinesRow 64)
  pub incomplete_64 : RefusesWith (whole_rows 64 ++ (7 ∷ [])) (Refusal.LinesRow 64)
  pub rows_64 : row_rules (whole_rows 64) ≡ Ok tt
  pub one_word : RefusesWith (3 ∷ []) (Refusal.LinesRow 0)
  pub three_words : RefusesWith (band 0 0 65535 0 ++ (1 ∷ 0 ∷ 65535 ∷ [])) (Refusal.LinesRow 1)
  -- "a line past 15 or low above high": the first such row, and before any gap
  pub line_15 : row_rules (band 15 0 65535 0) ≡ Ok tt
  pub line_16 : RefusesWith (band 0 5 65535 0 ++ band 16 0 65535 0) (Refusal.LinesRow 1)
  pub low_is_high : row_rules (band 2 7 7 0) ≡ Ok tt
  pub low_above : RefusesWith (band 2 8 7 0 ++ band 16 0 0 0) (Refusal.LinesRow 0)
  pub first_of_two : RefusesWith (band 16 0 0 0 ++ band 2 8 7 0) (Refusal.LinesRow 0)
  -- "31 .., then 32": a gap comes before an overlap below it
  pub gap_first : RefusesWith (band 1 0 6 0 ++ band 1 3 8 0) (Refusal.LinesGap 1 9)
  -- "31 an uncovered level .. (place: line, lowest level)", of "levels 0 to 65535": at the start, in the middle, the last one
  pub levels_are : levels ≡ 65536
  pub gap_at_65535 : gap_rule (band 4 0 65534 0) 4 65535 ≡ Err (Refusal.LinesGap 4 65535)
  pub gap_at_0 : GapIs (band 3 1 65535 0) 3 0
  pub gap_of_one : GapIs (band 3 0 9 0 ++ band 3 11 65535 0) 3 10
  -- "over all lines in rising order", not the table's; a silent row covers as any other
  pub lowest_line : GapIs (band 8 2 65535 0 ++ band 5 4 65535 0) 5 0
  pub silent_covers : GapIs (band 4 0 9 65535) 4 10
  -- what is posted: the event of the level's row, the silent row's none, a line without rows none, a line above 15 none; the check's refusal first
  pub first_level : event_of probe 0 0 ≡ 0
  pub last_of_band : event_of probe 0 29999 ≡ 0
  pub silent : event_of probe 0 30000 ≡ 65535
  pub another_line : event_of probe 1 65535 ≡ 1
  pub no_rows : event_of probe 2 7 ≡ 65535
  pub past_15 : event_of probe 16 7 ≡ 65535
  pub event_posted : posting_of (Ok tt) 65534 ≡ Ok (Some 65534)
  pub none_posted : posting_of (Ok tt) 65535 ≡ Ok None
  pub refused_first : posting (band 3 1 65535 0) 7 7 ≡ Err (Refusal.LinesGap 3 0)
