-- The definitions of specs/ under one name: where a theorem says `unfolding definitions`, the checker computes with all of them.
use Rattle.model.specs.Answer.{refusal}
use Rattle.model.specs.AllOrNone.{way_after, came_from, joined, committed_event, committed_events, events_of, gone_records, committed_of, dropped_of}
use Rattle.model.specs.Burst.{is_burst, records_at, record_words, burst_words, known_events, events_rule}
use Rattle.model.specs.Turns.{begun_after, begun_from, oldest_or, next_body}
use Rattle.model.specs.Test.{pick, must, each, in_turn, both, either}
use Rattle.model.specs.Program.{program_mark, decode, bounds, may_be_last, signed, unsigned, shifted, less, effect, effect_at, new_open, body_number}
use Rattle.model.specs.Check.{contents_rule, rows_inside_rule, limits, due, row_rule, rows, row_usable, fields_fit, last_one_fits, instruction_rule, body_rule, check}
use Rattle.model.specs.Store.{store_mark, store_contents, index, settled, find_from, find, slot_after, forward, ring_word, first_waiting, distance, room, slot, records_from, waiting, formatted, sizes_rule, format_check, format_store, format, store_rule}
use Rattle.model.specs.Control.{obey, obey_all, up_to, phase_rule, task_rule, open_rule, open_serving, count_rule, pending_task_rule, head_rule, tail_rule, begun_rule, begun_event_rule, pending_head_rule, pending_move_rule, pending_open_rule, address_rule, start_kept, between, record_rule, control_rules, rules, early_of, early_rules}
use Rattle.model.specs.Device.{fresh, with_place, with_handler, judged, storing, record_stores, task_stores, event_stores, task_last_stores, event_last_stores, last_stores, kind_of, begun_of, data_for, started, eligible, may_run, end_stores, place_sound, fits, records_sound, handler_sound, is_fresh, zeros, device_sound, look, boot_check, taken_up, boot, cut, is_at_rest, post_check, post, burst_length, handler_step, pair_sound, copy_step, record_sound, event_next, choosing, choose_step, head_sound, named_row, open_sound, head_is, ends, saves, place_fits, body_sound, shown, save_step, act, save_rest, place_step, next_step, step, may_drop, takes, set_to_work, drop_step, dropped_record}
use Rattle.model.specs.Calls.{call, history, after_calls, steps, count_by, unless_refused, more_by, one_if, is_commit, is_accept, accepted_events, is_store, counted, events_accepted, run_from, run, finish, recovery}
use Rattle.model.specs.Serial.{serial_start, advance, walk, walk_body, after_task, after_event, serve_oldest, run_body, after_done, with_records, accept, tell, and_then, serial_from, serial, no_post, unchanged, after_post, drop_oldest, after_stored, after_drop}
use Rattle.model.specs.Claims.{running_rule, place_rule, used_rules, in_order, uncut}
use Rattle.model.specs.Demand3.{is_in, may_meet, recovery_steps, is_completion}

unfoldable pub definitions : Unit {0}
unfolding refusal pick both either must in_turn each program_mark decode bounds may_be_last signed unsigned shifted less effect effect_at new_open body_number contents_rule rows_inside_rule limits due row_rule rows row_usable fields_fit last_one_fits instruction_rule body_rule check store_mark store_contents index settled find_from find slot_after forward ring_word first_waiting distance room slot records_from waiting formatted sizes_rule format_check format_store format store_rule is_burst records_at record_words burst_words known_events events_rule obey obey_all up_to phase_rule task_rule open_rule open_serving count_rule pending_task_rule head_rule tail_rule begun_rule begun_event_rule pending_head_rule pending_move_rule pending_open_rule address_rule start_kept between record_rule control_rules rules early_of early_rules fresh with_place with_handler judged storing record_stores task_stores event_stores task_last_stores event_last_stores last_stores kind_of begun_of data_for started eligible may_run end_stores place_sound fits records_sound may_drop handler_sound is_fresh zeros device_sound look boot_check taken_up boot cut is_at_rest takes post_check set_to_work post burst_length handler_step drop_step dropped_record pair_sound copy_step record_sound event_next choosing choose_step head_sound named_row open_sound head_is ends saves place_fits body_sound shown save_step act save_rest place_step next_step step call history after_calls steps unless_refused more_by one_if is_commit is_accept accepted_events is_store counted events_accepted run_from run finish recovery serial_start advance walk walk_body no_post after_task after_event serve_oldest run_body with_records unchanged after_post after_done accept after_drop drop_oldest after_stored tell and_then serial_from serial is_in may_meet recovery_steps is_completion count_by running_rule place_rule used_rules in_order uncut begun_after begun_from oldest_or next_body way_after came_from joined committed_event committed_events events_of gone_records committed_of dropped_of
definitions = tt
