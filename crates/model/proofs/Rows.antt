-- The worked rows: one theorem, whose tables the checker computes from the definitions. Assumes nothing.
use mathlib.Core.Path.{refl}
use Rattle.model.proofs.Definitions.{definitions}
use Rattle.model.specs.CallRows.{outcomes, places_of_words, rooms, schedules, stores_after, open_numbers, memories, waiting_records, countings, run_rows, recoveries, numbers, summary, drops, serial_runs, begun_bodies, bursts, next_bodies, counts, tests}
use Rattle.model.specs.ProgramRows.{meanings, fields, if_accepted, accepted_of, opcodes, programs, formats, formatted_stores}
use Rattle.model.specs.Rows.{Rows}
use Rattle.model.specs.Sample.{computed, expected, sample, controls}
use Rattle.model.specs.Starred.{counting}
use Rattle.model.specs.StateRows.{contents, broken_words, control_words, orders, states, uses}

pub rows : Rows
unfolding definitions counting computed expected sample controls meanings fields if_accepted accepted_of opcodes programs formats formatted_stores contents broken_words control_words orders states uses outcomes places_of_words rooms schedules stores_after open_numbers memories waiting_records countings run_rows recoveries numbers summary drops serial_runs begun_bodies bursts next_bodies counts tests
rows =
    record {
      instructions_do = refl;
      fields_end = refl;
      opcodes_stand = refl;
      programs_checked = refl;
      formats_checked = refl;
      formatting_sets = refl;
      contents_met = refl;
      control_met = refl;
      control_ordered = refl;
      state_met = refl;
      step_uses = refl;
      calls_do = refl;
      words_lie = refl;
      room_left = refl;
      calls_answer = refl;
      numbers_open = refl;
      memories_change = refl;
      records_wait = refl;
      totals_count = refl;
      runs_end = refl;
      recoveries_end = refl;
      numbers_told = refl;
      serial-runs = refl;
      bodies_begun = refl;
      bodies_next = refl;
      bursts_came = refl;
      claims_count = refl;
      claims_test = refl;
    }
