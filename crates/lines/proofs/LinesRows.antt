-- The worked rows: one theorem, whose rows the checker computes from the definitions. Assumes nothing.
use mathlib.Core.Path.{refl}
use Rattle.model.specs.Test.{pick, must, each, in_turn, both}
use Rattle.lines.specs.Lines.{no_event, row_rule, row_rules, count, is_of, named, covers, coverage, gap_rule, overlap_rule, lines, levels, line_rule, line_rules, check, first, row_of, event_of, posting_of, posting}
use Rattle.lines.specs.LinesRows.{LinesRows, whole_rows, probe}

pub lines_rows : LinesRows
unfolding pick both must in_turn each no_event row_rule row_rules count is_of named covers coverage gap_rule overlap_rule lines levels line_rule line_rules check first row_of event_of posting_of posting whole_rows probe
lines_rows =
    record {
      low_end = refl;
      high_end = refl;
      other_lines_apart = refl;
      border_twice = refl;
      no_row = refl;
      row_64 = refl;
      incomplete_64 = refl;
      rows_64 = refl;
      one_word = refl;
      three_words = refl;
      line_15 = refl;
      line_16 = refl;
      low_is_high = refl;
      low_above = refl;
      first_of_two = refl;
      gap_first = refl;
      levels_are = refl;
      gap_at_65535 = refl;
      gap_at_0 = refl;
      gap_of_one = refl;
      lowest_line = refl;
      silent_covers = refl;
      first_level = refl;
      last_of_band = refl;
      silent = refl;
      another_line = refl;
      no_rows = refl;
      past_15 = refl;
      event_posted = refl;
      none_posted = refl;
      refused_first = refl;
    }
