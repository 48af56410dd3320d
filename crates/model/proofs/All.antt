-- All that is claimed of the definitions (specs/Demand3.antt, specs/Claims.antt), with the theorems. The order of 7's rules stands first, then
-- demand 3, then the rows: the prover begins with this file, the first by name, and goes through the others in this order, so a wrong
-- definition is refused there at its own fact, and not at a law that repeats the definitions (DeviceLaws, Passed). Assumes nothing.
use Rattle.model.proofs.Lowest.{first_is_lowest, lowest_is_one}
use Rattle.model.proofs.Demand3.{demand3}
use Rattle.model.proofs.Observed.{observed}
use Rattle.model.proofs.Turns.{bodies-take-turns, begun_has_its_turn}
use Rattle.model.proofs.AllOrNone.{bursts_come_whole}
use Rattle.model.proofs.CameLaws.{all_or_none}
use Rattle.model.proofs.Starred.{starred}
use Rattle.model.proofs.Rows.{rows}
use Rattle.model.proofs.RingLaws.{full_is_no_room}
use Rattle.model.proofs.SerialLaws.{serial_determined, tasks_follow}
use Rattle.model.proofs.CallLaws.{run_is_steps, totals_are_counts, recovery_by_calls}
use Rattle.model.proofs.Refused.{refused_changes_nothing}
use Rattle.model.proofs.LowestCalls.{place_is_lowest}
use Rattle.model.proofs.Stores.{store_is_told}
use Rattle.model.proofs.Repeats.{refusal_stays}
use Rattle.model.proofs.Words.{words_stay_words, format_stays_words}
use Rattle.model.proofs.LookStays.{look_stays}
use Rattle.model.specs.AllOrNone.{BurstsComeWhole, AllOrNone}
use Rattle.model.specs.Claims.{RefusedChangesNothing, WordsStayWords, FormatStaysWords, RefusalStays, FirstIsLowest, LowestIsOne, PlaceIsLowest, RunIsSteps, TotalsAreCounts, RecoveryByCalls, LookStays, StoreIsTold, FullIsNoRoom}
use Rattle.model.specs.Demand3.{Demand3, SerialDetermined, TasksFollow, ObservedByCalls}
use Rattle.model.specs.Rows.{Rows}
use Rattle.model.specs.Starred.{Starred}
use Rattle.model.specs.Turns.{BodiesTakeTurns, BegunHasItsTurn}

-- of 7's rules
pub of_rules : FirstIsLowest × LowestIsOne
of_rules = (first_is_lowest, lowest_is_one)

-- of a list of calls on a fresh store
pub of_lists : Demand3 × ObservedByCalls × SerialDetermined × TasksFollow
of_lists = (demand3, observed, serial_determined, tasks_follow)

-- of the bodies of such a list
pub of_turns : BodiesTakeTurns × BegunHasItsTurn
of_turns = (bodies-take-turns, begun_has_its_turn)

-- of its bursts
pub of_bursts : BurstsComeWhole × AllOrNone
of_bursts = (bursts_come_whole, all_or_none)

-- of worked cases
pub of_cases : Starred × Rows
of_cases = (starred, rows)

-- of run, totals and recovery
pub of_runs : RunIsSteps × TotalsAreCounts × RecoveryByCalls
of_runs = (run_is_steps, totals_are_counts, recovery_by_calls)

-- of one call, for all words and device states
pub of_calls : RefusedChangesNothing × StoreIsTold × FullIsNoRoom × PlaceIsLowest × RefusalStays × WordsStayWords × FormatStaysWords × LookStays
of_calls = (refused_changes_nothing, store_is_told, full_is_no_room, place_is_lowest, refusal_stays, words_stay_words, format_stays_words, look_stays)
