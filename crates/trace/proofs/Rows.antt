-- The worked rows of what is printed: one theorem, which the checker computes from the definitions. Assumes nothing.
use mathlib.Core.Path.{refl}
use Rattle.model.specs.Test.{pick}
use Rattle.script.specs.Script.{names}
use Rattle.text.specs.Text.{decimal_of, decimal, spaced, hex_digit, hex_word, hex_words}
use Rattle.trace.specs.Trace.{aligned, padded, shown_counts, shown_numbers, call_text, body_text, accepted_text, refused_text, answer_texts, answer_text, answer_cell, control_names, pair_name, word_name, stored_column, columns, stored_cells, cells, line, call_line, wrong_texts, unread_line, header, labelled, parted, refused_part, decimal_cells, words_line, memory_lines, memory_part, field, fields, control_columns, commit_columns, control_part, queue_line, queue_lines, empty_line, queue_part, recovery_line}
use Rattle.trace.specs.TraceRows.{small, TraceRows}

pub trace_rows : TraceRows
unfolding pick names decimal_of decimal spaced hex_digit hex_word hex_words aligned padded shown_counts shown_numbers call_text body_text accepted_text refused_text answer_texts answer_text answer_cell control_names pair_name word_name stored_column columns stored_cells cells line call_line wrong_texts unread_line header labelled parted refused_part decimal_cells words_line memory_lines memory_part field fields control_columns commit_columns control_part queue_line queue_lines empty_line queue_part recovery_line small
trace_rows =
    record {
      heading = refl;
      step_stored = refl;
      step_stored_cells = refl;
      control_stored = refl;
      run_spent = refl;
      full = refl;
      program_set = refl;
      store_set_cells = refl;
      burst_posted = refl;
      raise_refused = refl;
      dropped = refl;
      log_address = refl;
      log_value = refl;
      queue_event = refl;
      queue_data = refl;
      unread = refl;
      unread_cells = refl;
      memory-shown = refl;
      memory_cells = refl;
      memory_refused = refl;
      control-shown = refl;
      control_cells = refl;
      queue-shown = refl;
      queue_cells = refl;
      queue_empty = refl;
      recovered = refl;
    }
