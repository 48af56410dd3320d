-- The worked rows of the sheet: one theorem, which the checker computes from the definitions. Assumes nothing.
use mathlib.Core.Path.{refl}
use Rattle.image.specs.Image.{low_first, first_words, program_of, image_check}
use Rattle.model.proofs.Definitions.{definitions}
use Rattle.model.specs.Starred.{counting}
use Rattle.sheet.specs.Sheet.{letter, posting, post_of, scheduled, last_line, lines_from, header, memory_left, memory_line, recovered_memory, refused_line, dropped_line, answer_line, unread_line, other_line, call_line, if_read, sheet_lines, if_checked, sheet}
use Rattle.sheet.specs.SheetRows.{image_of, SheetRows}
use Rattle.text.specs.Text.{decimal_of, decimal, spaced, digit, hex_digit, hex_word, hex_words}

pub sheet-rows : SheetRows
unfolding definitions counting image_of low_first first_words program_of image_check digit letter posting post_of scheduled last_line lines_from decimal_of decimal spaced hex_digit hex_word hex_words header memory_left memory_line recovered_memory refused_line dropped_line answer_line unread_line other_line call_line if_read sheet_lines if_checked sheet
sheet-rows =
    record {
      example = refl;
      no_last_line_feed = refl;
      event = refl;
      goes_on_off = refl;
      odd_count = refl;
      missing_file = refl;
      refused_program = refl;
      refused_instruction = refl;
      no_input = refl;
      line-feed = refl;
      capital = refl;
      carriage_return = refl;
      spaced = refl;
      long_post = refl;
      short_post = refl;
      no_digit = refl;
      refused_step = refl;
      refused_post = refl;
      queue_full = refl;
      dropped = refl;
      dropped_and_cut = refl;
      refused_boot = refl;
    }
