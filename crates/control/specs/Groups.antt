-- The rules of 7 in the groups that the code goes through: those of words 10 to 12 that speak in phases 1 and 2 alone, those of the
-- log's addresses, those of the records.
use Rattle.std.specs.Prelude.{ℕ, ◌+◌, List, [], ◌∷◌}
use Rattle.model.specs.Control.{Rule, up_to, open_serving, count_rule, pending_task_rule, pending_head_rule, pending_move_rule, address_rule, record_rule}
use Rattle.model.specs.Store.{Store}

abbrev pub commit_rules : List ℕ → Store → List Rule
commit_rules p v = open_serving v ∷ count_rule v ∷ pending_task_rule p v ∷ pending_head_rule v ∷ pending_move_rule v ∷ []

abbrev pub address_rules : List ℕ → Store → List Rule
address_rules p v = up_to (address_rule p v) v.log_pairs

abbrev pub record_rules : List ℕ → Store → List Rule
record_rules p v = up_to (record_rule p v) (v.queue_records + 1)
