-- The starred cases of document 01: one theorem, whose rows the checker computes from the definitions. Assumes nothing.
use mathlib.Core.Path.{refl}
use Rattle.model.proofs.Definitions.{definitions}
use Rattle.model.specs.Starred.{counting, with_task, answer, steps_of, store_of, Starred}

pub starred : Starred
unfolding definitions counting with_task answer steps_of store_of
starred =
    record {
      program_words = refl;
      program_accepted = refl;
      word_5_wrong = refl;
      five_words = refl;
      number_1 = refl;
      thirty_three_tasks = refl;
      number_3 = refl;
      last_instruction = refl;
      number_5 = refl;
      load_1 = refl;
      load_2 = refl;
      nine_steps = refl;
      ten_steps = refl;
      five_recovery_steps = refl;
      step_ten = refl;
      step_fourteen = refl;
      step_fifteen = refl;
      three_steps = refl;
      post_at_once = refl;
      four_steps = refl;
      event-begun = refl;
      post_once_begun = refl;
      post_before_commit = refl;
      commit = refl;
      post_before_head = refl;
      post_after_head = refl;
      number_21 = refl;
      post_again = refl;
      number_20 = refl;
      not_accepted = refl;
      not_chosen = refl;
      head_stored = refl;
      not_last = refl;
      one_slot = refl;
      shr_lowest = refl;
      shr_highest = refl;
      shr_16 = refl;
      jlt_lowest = refl;
      jlt_highest = refl;
      loadx = refl;
      number_23 = refl;
      save_twice = refl;
      save_to_two = refl;
      number_24 = refl;
    }
