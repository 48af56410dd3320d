-- The worked rows, gathered: programs, stores and device states written out, and beside each what document 01 says comes of it. They hold the
-- definitions where no theorem would notice another meaning: which operand is subtracted, which field must be 0, which place a refusal
-- names. proofs/Rows.antt has the theorem, in which the checker computes every table.
use Rattle.model.specs.CallRows.{begun_bodies, bursts, countings, counts, memories, next_bodies, numbers, open_numbers, outcomes, places_of_words, recoveries, rooms, run_rows, schedules, serial_runs, tests, waiting_records}
use Rattle.model.specs.ProgramRows.{fields, formats, formatted_stores, meanings, opcodes, programs}
use Rattle.model.specs.Sample.{Holds}
use Rattle.model.specs.StateRows.{contents, control_words, orders, states, uses}

pub record Rows : Type 0 where
  -- "opcode .. uses .. meaning"
  pub instructions_do : Holds meanings
  -- "a and b name registers 0 to 7. Unused fields are 0; a jump's k is below its body's count, GO's below T."
  pub fields_end : Holds fields
  -- "Opcodes 17 to 255 are refused. GO stands only in tasks, DONE only in events. A body's last instruction is JUMP, GO or DONE."
  pub opcodes_stand : Holds opcodes
  -- "check 1 to 5"
  pub programs_checked : Holds programs
  -- "format 1 to 5, 9, 6 (only the length)"
  pub formats_checked : Holds formats
  -- "Formatting sets the contents, word 9 to the entry task and all else to 0."
  pub formatting_sets : Holds formatted_stores
  -- "6: store contents or length wrong, or M unlike the program's."
  pub contents_met : Holds contents
  -- "7: control .. Place"; N2: "the lowest word of any broken rule"
  pub control_met : Holds control_words
  -- "for a step or post the lowest at that place of the order"
  pub control_ordered : Holds orders
  -- "25: state unlike program or store"
  pub state_met : Holds states
  -- "a step then checks what it uses"
  pub step_uses : Holds uses
  -- "A step makes at most one store. First that applies"
  pub calls_do : Holds outcomes
  -- "Contents first. Words 0 to 7 .."
  pub words_lie : Holds places_of_words
  -- "full means the slot after tail is head"
  pub room_left : Holds rooms
  -- "transactions are sequences of tasks closed to events"; "full means the slot after tail is head"
  pub calls_answer : Holds schedules
  pub numbers_open : Holds open_numbers
  pub memories_change : Holds memories
  pub records_wait : Holds waiting_records
  -- "bodies committed, events accepted, stores made; 32 bits, staying at the largest value"
  pub totals_count : Holds countings
  -- "Run repeats steps up to a budget"
  pub runs_end : Holds run_rows
  -- "Uncut recovery"
  pub recoveries_end : Holds recoveries
  -- "A refusal returns its number and a place"
  pub numbers_told : Holds numbers
  -- "The serial run has the program and reads the calls with their answers"
  pub serial-runs : Holds serial_runs
  -- N4: "a boot .. takes up the begun body"
  pub bodies_begun : Holds begun_bodies
  pub bodies_next : Holds next_bodies
  -- N6: "accepted by one tail store, in order"
  pub bursts_came : Holds bursts
  -- "boot 26; step 22, 23, 24; post 8, 20, 21, 22, 33"
  pub claims_count : Holds counts
  pub claims_test : Holds tests
