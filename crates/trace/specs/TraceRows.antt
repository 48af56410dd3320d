-- Worked rows of what is printed. proofs/Rows.antt has the theorem, in which the checker computes every row from the definitions.
use Rattle.std.specs.Prelude.{ℕ, true, false, List, [], ◌∷◌, ◌++◌, ◌≡◌}
use Rattle.script.specs.Script.{step_call, burst_call, run_call, raise_call, set_program_call, set_store_call, number_form}
use Rattle.text.specs.Ascii.{ascii}
use Rattle.trace.specs.Trace.{padded, answer_text, nothing_stored, name_in, header, call_line, unread_line, refused_part, memory_part, control_part, record_of, queue_part, recovery_line}

-- two memory words, a log pair and room for a record; one memory word was stored
unfoldable pub small : List ℕ
small =
    0xC0A2 ∷ 2 ∷ 1 ∷ 1 ∷ 8 ∷ 17 ∷ 19 ∷ 21
    ∷ 0 ∷ 3 ∷ 7 ∷ 1 ∷ 2 ∷ 5 ∷ 0 ∷ 1 ∷ 1
    ∷ 1 ∷ 0
    ∷ 0 ∷ 65535
    ∷ 0 ∷ 0 ∷ 0 ∷ 0
    ∷ []

pub record TraceRows : Type 0 where
  -- the heading stands above its columns
  pub heading : header false ≡ ascii "  line  " ++ padded 18 (ascii "call") ++ padded 20 (ascii "answer") ++ ascii "stored\n"
  pub step_stored :
      call_line false 12 step_call 0 0 0 (3 ∷ 0 ∷ 0 ∷ 0 ∷ 0 ∷ 17 ∷ []) small ≡ ascii "    12  step              stored              17 memory 0 = 1\n"
  pub step_stored_cells : call_line true 12 step_call 0 0 0 (3 ∷ 0 ∷ 0 ∷ 0 ∷ 0 ∷ 17 ∷ []) small ≡ ascii "12\tstep\tstored\t17\tmemory 0\t1\n"
  pub control_stored :
      call_line false 13 step_call 0 0 0 (4 ∷ 1 ∷ 2 ∷ 0 ∷ 0 ∷ 13 ∷ []) small ≡ ascii "    13  step              committed event 2   13 pending open = 5\n"
  pub run_spent : call_line false 3 run_call 20 0 20 (7 ∷ 0 ∷ 0 ∷ 0 ∷ 0 ∷ nothing_stored ∷ []) small ≡ ascii "     3  run 20            20 steps, spent\n"
  -- a text as long as its columns, and longer
  pub full : padded 4 (ascii "step") ++ padded 4 (ascii "burst") ≡ ascii "step burst "
  pub program_set : call_line false 5 set_program_call 1000 4095 0 (0 ∷ 0 ∷ 0 ∷ 0 ∷ 0 ∷ nothing_stored ∷ []) small ≡ ascii "     5  set-program 1000 4095\n"
  pub store_set_cells : call_line true 5 set_store_call 8 1 0 (0 ∷ 0 ∷ 0 ∷ 0 ∷ 0 ∷ nothing_stored ∷ []) small ≡ ascii "5\tset-store 8 1\t\t\t\t\n"
  pub burst_posted : call_line false 6 burst_call 2 0 0 (0 ∷ 0 ∷ 0 ∷ 0 ∷ 0 ∷ nothing_stored ∷ []) small ≡ ascii "     6  burst 2           done\n"
  pub raise_refused : call_line false 7 raise_call 15 4095 0 (6 ∷ 0 ∷ 21 ∷ 0 ∷ 0 ∷ nothing_stored ∷ []) small ≡ ascii "     7  raise 15 4095     refused 21 0 0\n"
  pub dropped : answer_text (5 ∷ 1 ∷ 1 ∷ 5 ∷ 0 ∷ []) ≡ ascii "accepted, dropped 1 5"
  -- the words behind memory: a log pair, then slots
  pub log_address : name_in small 19 ≡ ascii "address 0"
  pub log_value : name_in small 20 ≡ ascii "value 0"
  pub queue_event : name_in small 23 ≡ ascii "event 1"
  pub queue_data : name_in small 24 ≡ ascii "data 1"
  pub unread : unread_line false 9 number_form ≡ ascii "     9  unread            a number has only digits\n"
  pub unread_cells : unread_line true 9 number_form ≡ ascii "9\tunread\ta number has only digits\t\t\t\n"
  -- nine words are two lines
  pub memory-shown :
      memory_part false 12 (ascii "memory") (1 ∷ 0 ∷ 0 ∷ 0 ∷ 0 ∷ 0 ∷ 0 ∷ 2 ∷ 2748 ∷ [])
      ≡ ascii "    memory 0  0001 0000 0000 0000 0000 0000 0000 0002\n    memory 8  0ABC\n"
  pub memory_cells :
      memory_part true 12 (ascii "memory") (1 ∷ 0 ∷ 0 ∷ 0 ∷ 0 ∷ 0 ∷ 0 ∷ 2 ∷ 2748 ∷ [])
      ≡ ascii "12\tmemory\t0\t1\t0\t0\t0\t0\t0\t0\t2\n12\tmemory\t8\t2748\n"
  pub memory_refused : refused_part false 12 (ascii "memory") (6 ∷ 0 ∷ 6 ∷ 0 ∷ 0 ∷ []) ≡ ascii "    memory refused 6 0 0\n"
  pub control-shown :
      control_part false 12 small
      ≡ ascii "    control phase 0, task 3, open 7, begun 1, head 0, tail 1\n    commit count 1, pending 2, pending open 5\n"
  pub control_cells : control_part true 12 small ≡ ascii "12\tcontrol\t0\t3\t7\t1\t2\t5\t0\t1\t1\n"
  pub queue-shown :
      queue_part false 12 (ascii "queue") (record_of 0 5 ∷ record_of 1 9 ∷ []) ≡ ascii "    queue 0 event 0, data 5\n    queue 1 event 1, data 9\n"
  pub queue_cells : queue_part true 12 (ascii "queue") (record_of 0 5 ∷ record_of 1 9 ∷ []) ≡ ascii "12\tqueue\t0\t0\t5\n12\tqueue\t1\t1\t9\n"
  pub queue_empty : queue_part true 12 (ascii "recovery queue") [] ≡ ascii "12\trecovery queue\tempty\n"
  pub recovered : recovery_line false 12 5 3 7 ≡ ascii "    recovery 5 steps, task 3, open 7\n"
