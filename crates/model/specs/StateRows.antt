-- Worked rows of what is refused: in the store's contents (6), in its control words (7), in the device state (25), and what a step checks of what it uses.
use Rattle.std.specs.Prelude.{ℕ, true, false, List, [], ◌∷◌, ◌++◌, map, get_or, set, take}
use Rattle.model.specs.Burst.{single}
use Rattle.model.specs.Calls.{Call, Boot, Step, Cut, Post}
use Rattle.model.specs.Claims.{in_order}
use Rattle.model.specs.Control.{Rule, broken, rules}
use Rattle.model.specs.Device.{boot, post, step}
use Rattle.model.specs.Store.{view, formatted}
use Rattle.model.specs.Test.{pick}
use Rattle.model.specs.Types.{Answer, Body, Device, Dropping, Free, Half, Place, Refusal, Replacing, Resting, Run}
use Rattle.model.specs.Sample.{Row, ◌⇒◌, accepted, at, begun_at, cleared, closed, controls, device_with, event1, event_begun, event_commit, off_value, on_value, opened, registers, sample, task1, task_begun, task_commit, two_pairs, with_instruction, working, working_as}

-- ---- What boot, a step and a post meet in the program and in the store's contents (6)

-- the device off for boot, on and without a body for a step and a post
abbrev meets : List ℕ → List ℕ → List Answer
meets p s = (boot p s off_value).answer ∷ (step p s on_value).answer ∷ (post p s on_value (single 0 9)).answer ∷ []

-- all three are refused; boot alone is refused; none is
abbrev all_refused : Refusal → List Answer
all_refused r = Answer.Refused r ∷ Answer.Refused r ∷ Answer.Refused r ∷ []

abbrev boot_refused : Refusal → Answer → List Answer
boot_refused r a = Answer.Refused r ∷ a ∷ Answer.Done ∷ []

abbrev none_refused : Answer → List Answer
none_refused a = Answer.Done ∷ a ∷ Answer.Done ∷ []

unfoldable pub contents : List (Row (List Answer))
contents =
    meets sample opened ⇒ none_refused (Answer.Chosen (Body.Task 1))
    -- 1, 2 and 3 in each call, 4 and 5 in boot
    ∷ meets (take 50 sample) opened ⇒ all_refused Refusal.ProgramLength
    ∷ meets (set sample 0 0) opened ⇒ all_refused Refusal.ProgramMark
    ∷ meets (set sample 2 17) opened ⇒ all_refused (Refusal.ProgramSize 2)
    ∷ meets (set sample 10 0) opened ⇒ boot_refused (Refusal.Row 1) (Answer.Chosen (Body.Task 1))
    ∷ meets (set sample 29 0x1100) opened ⇒ boot_refused (Refusal.Instruction 1 0) (Answer.Chosen (Body.Task 1))
    -- "6: store contents or length wrong, or M unlike the program's"
    ∷ meets sample (set opened 0 0xC0B1) ⇒ all_refused Refusal.StoreContents
    ∷ meets sample (set opened 1 5) ⇒ all_refused Refusal.StoreContents
    ∷ meets (set sample 3 7) opened ⇒ all_refused Refusal.StoreContents
    ∷ meets sample (formatted sample 0 3) ⇒ all_refused Refusal.StoreContents
    ∷ meets sample (formatted sample 65 3) ⇒ all_refused Refusal.StoreContents
    ∷ meets sample (formatted sample 2 0) ⇒ all_refused Refusal.StoreContents
    ∷ meets sample (formatted sample 2 33) ⇒ all_refused Refusal.StoreContents
    ∷ meets sample (formatted sample 1 1) ⇒ none_refused (Answer.Chosen (Body.Task 1))
    ∷ meets sample (formatted sample 64 32) ⇒ none_refused (Answer.Chosen (Body.Task 1))
    ∷ meets sample (set opened 4 9) ⇒ all_refused Refusal.StoreContents
    ∷ meets sample (set opened 0 0xC0A1) ⇒ all_refused Refusal.StoreContents
    ∷ meets sample (set opened 5 16) ⇒ all_refused Refusal.StoreContents
    ∷ meets sample (set opened 6 24) ⇒ all_refused Refusal.StoreContents
    ∷ meets sample (set opened 7 28) ⇒ all_refused Refusal.StoreContents
    ∷ meets sample (take 34 opened) ⇒ all_refused Refusal.StoreContents
    ∷ meets sample (opened ++ 0 ∷ []) ⇒ all_refused Refusal.StoreContents
    ∷ meets sample [] ⇒ all_refused Refusal.StoreContents
    -- "1, 2, 3, 6, 7": with two faults, the first
    ∷ meets (set sample 4 5) (set opened 0 0) ⇒ all_refused (Refusal.ProgramSize 4)
    ∷ meets sample (set (set opened 0 0) 8 3) ⇒ all_refused Refusal.StoreContents
    ∷ []

-- ---- 7: the words of the rules that a store breaks, and what each call meets

unfoldable pub broken_words : List Rule → List ℕ
broken_words [] = []
broken_words (r ∷ rs) = pick (broken r) (r.word ∷ broken_words rs) (broken_words rs)

-- with the answers of a boot, of a step and of a post
pub record Findings : Type 0 where
  pub broken : List ℕ
  pub booted : Answer
  pub stepped : Answer
  pub posted : Answer

abbrev finds : List ℕ → Findings
finds s =
    record {
      broken = broken_words (rules sample (view s));
      booted = (boot sample s off_value).answer;
      stepped = (step sample s on_value).answer;
      posted = (post sample s on_value (single 0 9)).answer;
    }

abbrev meets7 : ℕ → Answer
meets7 w = Answer.Refused (Refusal.Control w)

-- no rule is broken; those of these words are, and boot meets the lowest of them, which stands first here: step and post meet it, too; they meet
-- another, the lowest of their early look; a post meets none
abbrev sound : Answer → Findings
sound a = record { broken = []; booted = Answer.Done; stepped = a; posted = Answer.Done }

abbrev breaks : List ℕ → Answer → Answer → Findings
breaks ws stepped posted = record { broken = ws; booted = meets7 (get_or ws 0 0); stepped = stepped; posted = posted }

abbrev early : List ℕ → Findings
early ws = breaks ws (meets7 (get_or ws 0 0)) (meets7 (get_or ws 0 0))

abbrev early_at : ℕ → List ℕ → Findings
early_at w ws = breaks ws (meets7 w) (meets7 w)

abbrev late : List ℕ → Answer → Findings
late ws a = breaks ws a Answer.Done

-- no rule is broken, but a step and a post meet 25
abbrev unlike : Findings
unlike = record { broken = []; booted = Answer.Done; stepped = Answer.Refused Refusal.State; posted = Answer.Refused Refusal.State }

abbrev begun_with : ℕ → List ℕ → List ℕ
begun_with n s = set s 16 n

unfoldable pub control_words : List (Row Findings)
control_words =
    -- phase 0: 8 phase, 9 task, 10 open, 11 count, 12 pending, 13 pending open, 14 head, 15 tail; word 16 is 0
    finds (controls 0 1 8 9 9 9 0 2) ⇒ sound (Answer.Chosen (Body.Task 1))
    ∷ finds (controls 0 1 0 9 9 9 0 2) ⇒ sound (Answer.Chosen (Body.Event 0))
    ∷ finds (controls 0 4 9 0 0 0 3 3) ⇒ sound (Answer.Chosen (Body.Task 4))
    ∷ finds (controls 0 5 9 0 0 0 0 2) ⇒ early (9 ∷ [])
    ∷ finds (controls 0 1 9 0 0 0 0 2) ⇒ late (10 ∷ []) (Answer.Chosen (Body.Task 1))
    ∷ finds (controls 0 4 8 0 0 0 0 2) ⇒ late (10 ∷ []) (Answer.Chosen (Body.Task 4))
    ∷ finds (controls 0 1 0 0 0 0 4 2) ⇒ early (14 ∷ [])
    ∷ finds (controls 0 1 0 0 0 0 2 4) ⇒ early (15 ∷ [])
    -- "each waiting record's event below E", with records from slot 0 up to slot 2, from slot 3 up to slot 1, and with none
    ∷ finds (set (controls 0 1 0 0 0 0 0 2) 27 2) ⇒ late (27 ∷ []) (Answer.Refused (Refusal.Control 27))
    ∷ finds (set (controls 0 1 0 0 0 0 0 2) 29 2) ⇒ late (29 ∷ []) (Answer.Chosen (Body.Event 0))
    ∷ finds (set (set (controls 0 1 0 0 0 0 0 2) 31 2) 33 2) ⇒ sound (Answer.Chosen (Body.Event 0))
    ∷ finds (set (set (controls 0 1 8 0 0 0 3 1) 27 2) 33 2) ⇒ late (27 ∷ 33 ∷ []) (Answer.Chosen (Body.Task 1))
    ∷ finds (set (set (controls 0 1 8 0 0 0 3 1) 29 2) 31 2) ⇒ sound (Answer.Chosen (Body.Task 1))
    ∷ finds (set (set (controls 0 1 0 0 0 0 1 1) 27 2) 29 2) ⇒ sound (Answer.Chosen (Body.Task 1))
    ∷ finds (set (controls 0 1 0 0 0 0 4 2) 27 2) ⇒ early (14 ∷ [])
    ∷ finds (set (controls 0 1 0 0 0 0 0 4) 29 2) ⇒ early (15 ∷ [])
    -- "8 at most 2"; "a rule that needs a broken word is passed over"
    ∷ finds (set (controls 3 1 9 9 9 9 0 2) 27 2) ⇒ early (8 ∷ [])
    ∷ finds (controls 3 5 9 9 9 9 4 4) ⇒ early (8 ∷ 9 ∷ 14 ∷ 15 ∷ [])
    -- phase 1: "10 is free"; "12 below T and 13 is 0 or task 12's number"
    ∷ finds (controls 1 1 77 2 2 8 0 2) ⇒ sound Answer.Stored
    ∷ finds (controls 1 1 0 2 4 9 0 2) ⇒ sound Answer.Stored
    ∷ finds (controls 1 1 0 2 4 0 0 2) ⇒ sound Answer.Stored
    ∷ finds (controls 1 5 0 2 4 0 0 2) ⇒ early (9 ∷ [])
    ∷ finds (controls 1 1 0 2 5 9 0 2) ⇒ early (12 ∷ [])
    ∷ finds (controls 1 1 0 2 2 9 0 2) ⇒ late (13 ∷ []) Answer.Stored
    ∷ finds (controls 1 1 0 2 2 8 4 4) ⇒ early (14 ∷ 15 ∷ [])
    ∷ finds (set (controls 1 1 0 2 2 8 0 2) 29 2) ⇒ late (29 ∷ []) Answer.Stored
    -- "11 at most L and the first n log addresses below M"
    ∷ finds (set (controls 1 1 0 3 2 8 0 2) 23 6) ⇒ early (11 ∷ [])
    ∷ finds (set (controls 1 1 0 2 2 8 0 2) 23 6) ⇒ late (23 ∷ []) (Answer.Refused (Refusal.Control 23))
    ∷ finds (set (controls 1 1 0 2 2 8 0 2) 25 6) ⇒ late (25 ∷ []) Answer.Stored
    ∷ finds (set (controls 1 1 0 1 2 8 0 2) 25 6) ⇒ sound Answer.Stored
    ∷ finds (set (controls 0 1 8 2 2 8 0 2) 23 6) ⇒ sound (Answer.Chosen (Body.Task 1))
    -- phase 2: "10 is 0"; "12 at most Q and equals 14, or is the slot after it with the queue not empty"
    ∷ finds (controls 2 1 0 2 1 77 0 2) ⇒ sound Answer.Stored
    ∷ finds (controls 2 1 0 2 0 0 0 2) ⇒ sound Answer.Stored
    ∷ finds (controls 2 1 0 2 0 0 0 0) ⇒ sound Answer.Stored
    ∷ finds (controls 2 1 0 2 0 0 3 1) ⇒ sound Answer.Stored
    ∷ finds (controls 2 5 0 2 1 0 0 2) ⇒ early (9 ∷ [])
    ∷ finds (controls 2 1 8 2 1 0 0 2) ⇒ early (10 ∷ [])
    ∷ finds (controls 2 1 0 2 2 0 0 2) ⇒ early (12 ∷ [])
    ∷ finds (controls 2 1 0 2 1 0 0 0) ⇒ early (12 ∷ [])
    -- "at most Q needs no other word, the rest needs 14 and 15": two rules of word 12 are broken, one is, none is
    ∷ finds (controls 2 1 0 2 4 0 3 1) ⇒ early (12 ∷ 12 ∷ [])
    ∷ finds (controls 2 1 0 2 9 0 4 1) ⇒ early (12 ∷ 14 ∷ [])
    ∷ finds (controls 2 1 0 2 9 0 0 4) ⇒ early (12 ∷ 15 ∷ [])
    ∷ finds (controls 2 1 0 2 9 0 4 4) ⇒ early (12 ∷ 14 ∷ 15 ∷ [])
    ∷ finds (controls 2 1 0 2 2 0 4 1) ⇒ early (14 ∷ [])
    ∷ finds (controls 2 1 0 2 2 0 0 4) ⇒ early (15 ∷ [])
    ∷ finds (set (controls 2 1 0 3 1 0 0 2) 23 6) ⇒ early (11 ∷ [])
    ∷ finds (set (controls 2 1 0 2 1 0 0 2) 23 6) ⇒ late (23 ∷ []) (Answer.Refused (Refusal.Control 23))
    ∷ finds (set (controls 2 1 0 2 1 0 0 2) 25 6) ⇒ late (25 ∷ []) Answer.Stored
    -- "The waiting records run to tail from head, in phase 2 from word 12"
    ∷ finds (set (controls 2 1 0 2 1 0 0 2) 27 2) ⇒ sound Answer.Stored
    ∷ finds (set (controls 2 1 0 2 1 0 0 2) 29 2) ⇒ late (29 ∷ []) Answer.Stored
    ∷ finds (set (controls 2 1 0 2 2 0 0 3) 31 2) ⇒ early (12 ∷ [])
    -- "the lowest word of any broken rule, and for a step or post the lowest at that place of the order"
    ∷ finds (controls 2 5 8 3 9 0 4 4) ⇒ early (9 ∷ 10 ∷ 11 ∷ 12 ∷ 14 ∷ 15 ∷ [])
    ∷ finds (controls 1 5 0 3 5 9 4 4) ⇒ early (9 ∷ 11 ∷ 12 ∷ 14 ∷ 15 ∷ [])
    ∷ finds (controls 0 1 9 0 0 0 4 2) ⇒ early_at 14 (10 ∷ 14 ∷ [])
    ∷ finds (controls 1 1 0 2 2 9 0 4) ⇒ early_at 15 (13 ∷ 15 ∷ [])
    ∷ finds (set (set (controls 1 1 0 2 2 9 0 2) 25 6) 27 2) ⇒ late (13 ∷ 25 ∷ 27 ∷ []) Answer.Stored
    ∷ finds (set (set (controls 1 1 0 2 2 8 0 2) 25 6) 23 6) ⇒ late (23 ∷ 25 ∷ []) (meets7 23)
    ∷ finds (set (set (controls 1 1 0 2 2 8 0 2) 23 6) 27 2) ⇒ late (23 ∷ 27 ∷ []) (meets7 23)
    ∷ finds (set (set (controls 0 1 0 0 0 0 3 1) 27 2) 33 2) ⇒ late (27 ∷ 33 ∷ []) (meets7 33)
    -- N4: "word 16 at most 2", in each phase; a device that runs no body isn't what a 1 or a 2 says in phase 0
    ∷ finds (begun_with 3 (controls 0 1 0 0 0 0 0 2)) ⇒ early (16 ∷ [])
    ∷ finds (begun_with 3 (controls 1 1 0 2 2 8 0 2)) ⇒ early (16 ∷ [])
    ∷ finds (begun_with 3 (controls 2 1 0 2 1 0 0 2)) ⇒ early (16 ∷ [])
    ∷ finds (begun_with 3 (controls 3 5 0 0 0 0 4 4)) ⇒ early (8 ∷ 9 ∷ 14 ∷ 15 ∷ 16 ∷ [])
    ∷ finds (set (begun_with 3 (controls 0 1 0 0 0 0 0 2)) 27 2) ⇒ early (16 ∷ 27 ∷ [])
    ∷ finds (begun_with 1 (controls 0 1 0 0 0 0 0 2)) ⇒ unlike
    ∷ finds (begun_with 2 (controls 0 1 0 0 0 0 0 2)) ⇒ unlike
    ∷ finds (begun_with 1 (controls 0 1 8 0 0 0 1 1)) ⇒ unlike
    -- "in phase 0 a 2 needs a queue not empty and word 10 at 0"; in phases 1 and 2 word 16 is free up to 2
    ∷ finds (begun_with 2 (controls 0 1 0 0 0 0 1 1)) ⇒ early (16 ∷ [])
    ∷ finds (begun_with 2 (controls 0 1 8 0 0 0 0 2)) ⇒ early (16 ∷ [])
    ∷ finds (begun_with 2 (controls 0 1 9 0 0 0 0 2)) ⇒ early_at 16 (10 ∷ 16 ∷ [])
    ∷ finds (begun_with 2 (controls 0 1 8 0 0 0 4 2)) ⇒ early (14 ∷ [])
    ∷ finds (begun_with 2 (controls 0 1 8 0 0 0 0 4)) ⇒ early (15 ∷ [])
    ∷ finds (begun_with 2 (controls 3 1 8 0 0 0 1 1)) ⇒ early (8 ∷ [])
    ∷ finds (begun_with 2 (controls 1 1 8 2 2 8 1 1)) ⇒ sound Answer.Stored
    ∷ finds (begun_with 1 (controls 2 1 0 1 0 0 0 0)) ⇒ sound Answer.Stored
    ∷ finds (begun_with 2 (controls 2 1 0 1 0 0 0 0)) ⇒ sound Answer.Stored
    ∷ []

-- ---- The words of 7's rules that a call looks at, those at one place of the order together

abbrev asks_of : List ℕ → Place → Call → List (List ℕ)
asks_of s x c = map (map (λ (r : Rule). r.word)) (in_order sample (view s) (at x) c)

abbrev early_words : List ℕ
early_words = 8 ∷ 9 ∷ 10 ∷ 11 ∷ 12 ∷ 12 ∷ 12 ∷ 14 ∷ 15 ∷ 16 ∷ 16 ∷ []

unfoldable pub orders : List (Row (List (List ℕ)))
orders =
    -- "boot 1 to 7"
    asks_of closed (Free 0) Boot ⇒ ((8 ∷ 9 ∷ 10 ∷ 10 ∷ 11 ∷ 12 ∷ 12 ∷ 12 ∷ 13 ∷ 14 ∷ 15 ∷ 16 ∷ 16 ∷ 23 ∷ 25 ∷ 27 ∷ 29 ∷ 31 ∷ 33 ∷ []) ∷ [])
    -- "without the parts of 7 .. that need a row, .. a log pair or a record"
    ∷ asks_of closed (Free 0) (Post (single 0 9)) ⇒ (early_words ∷ [])
    -- "a chosen record (7)", "the rest of 7 .. for these and a log pair"
    ∷ asks_of closed (Free 0) Step ⇒ (early_words ∷ (33 ∷ []) ∷ [])
    ∷ asks_of closed (event1 0) Step ⇒ (early_words ∷ (33 ∷ []) ∷ [])
    ∷ asks_of opened (task1 0) Step ⇒ (early_words ∷ (10 ∷ []) ∷ [])
    ∷ asks_of opened (Half (Body.Task 1) 1) Step ⇒ (early_words ∷ (10 ∷ []) ∷ [])
    ∷ asks_of task_commit (Free 1) Step ⇒ (early_words ∷ (25 ∷ []) ∷ [])
    -- "A cut refuses nothing."
    ∷ asks_of opened (task1 0) Cut ⇒ []
    ∷ []

-- ---- "25: state unlike program or store": the answers of a step and of a post

abbrev looked : List ℕ → Device → List Answer
looked s d = (step sample s d).answer ∷ (post sample s d (single 0 9)).answer ∷ []

-- the same on the store with the device's body begun
abbrev running : List ℕ → Device → List Answer
running s d = looked (begun_at d.place s) d

-- both meet it; the step alone meets it; neither does
abbrev both : Refusal → List Answer
both r = Answer.Refused r ∷ Answer.Refused r ∷ []

abbrev step_alone : List Answer
step_alone = Answer.Refused Refusal.State ∷ Answer.Done ∷ []

abbrev neither : Answer → List Answer
neither a = a ∷ Answer.Done ∷ []

-- a running body beside a handler at rest
abbrev with_burst : List ℕ → Device
with_burst ws = record { on = true; registers = registers; place = task1 0; count = 1; handler = Resting; burst = ws }

-- neither does, and the post meets 20
abbrev is_busy : Answer → List Answer
is_busy a = a ∷ Answer.Refused Refusal.HandlerBusy ∷ []

-- the records of slots 2, 3 and 0 waiting
abbrev full_at2 : List ℕ
full_at2 = controls 0 1 8 0 0 0 2 1

unfoldable pub states : List (Row (List Answer))
states =
    -- "body or instruction out of range"
    running opened (at (task1 3)) ⇒ neither Answer.Stored
    ∷ running opened (at (task1 4)) ⇒ step_alone
    ∷ running opened (at (Half (Body.Task 1) 4)) ⇒ step_alone
    ∷ running opened (at (Run (Body.Task 5) 0 0)) ⇒ both Refusal.State
    ∷ running closed (at (event1 0)) ⇒ neither Answer.Stored
    ∷ running closed (at (event1 2)) ⇒ step_alone
    ∷ running (set closed 33 2) (at (Run (Body.Event 2) 0 0)) ⇒ both Refusal.State
    -- "log count above L"
    ∷ running opened (two_pairs (task1 0)) ⇒ neither Answer.Worked
    ∷ running opened (device_with true registers (task1 0) 3 Resting) ⇒ both Refusal.State
    ∷ running task_commit (device_with true registers (Free 0) 3 Resting) ⇒ both Refusal.State
    -- "commit place past its last store": n is 2, and 1
    ∷ running task_commit (at (Free 5)) ⇒ neither Answer.Stored
    ∷ running task_commit (at (Free 6)) ⇒ both Refusal.State
    ∷ running event_commit (at (Free 3)) ⇒ neither Answer.Stored
    ∷ running event_commit (at (Free 4)) ⇒ both Refusal.State
    ∷ running opened (at (Run (Body.Task 1) 3 3)) ⇒ neither (Answer.Committed (Body.Task 1))
    ∷ running opened (at (Run (Body.Task 1) 3 4)) ⇒ both Refusal.State
    ∷ running closed (at (Run (Body.Event 1) 1 2)) ⇒ neither (Answer.Committed (Body.Event 1))
    ∷ running closed (at (Run (Body.Event 1) 1 3)) ⇒ both Refusal.State
    -- "or phase disagreeing; a body running in phase 1 or 2"
    ∷ running opened (at (Free 0)) ⇒ neither (Answer.Chosen (Body.Task 1))
    ∷ running opened (at (Free 1)) ⇒ both Refusal.State
    ∷ running task_commit (at (task1 0)) ⇒ both Refusal.State
    ∷ running task_commit (at (Half (Body.Task 1) 1)) ⇒ both Refusal.State
    ∷ running event_commit (at (event1 0)) ⇒ both Refusal.State
    ∷ running event_commit (at (Half (Body.Event 1) 0)) ⇒ both Refusal.State
    -- "a commit begun in phase 0 without a body at GO or DONE"
    ∷ running opened (at (Run (Body.Task 1) 3 1)) ⇒ neither Answer.Stored
    ∷ running opened (at (Run (Body.Task 1) 0 1)) ⇒ step_alone
    ∷ running opened (at (Run (Body.Task 1) 1 1)) ⇒ step_alone
    ∷ running closed (at (Run (Body.Event 1) 1 1)) ⇒ neither Answer.Stored
    ∷ running closed (at (Run (Body.Event 1) 0 1)) ⇒ step_alone
    -- "half a SAVE without a SAVE or with L pairs"
    ∷ running opened (at (Half (Body.Task 1) 1)) ⇒ neither Answer.Stored
    ∷ running opened (at (Half (Body.Task 1) 0)) ⇒ step_alone
    ∷ running opened (at (Half (Body.Task 1) 3)) ⇒ step_alone
    ∷ running closed (at (Half (Body.Event 1) 1)) ⇒ step_alone
    ∷ running opened (two_pairs (Half (Body.Task 1) 1)) ⇒ both Refusal.State
    -- "in phase 0 a running body that isn't word 9's task, nor the event of a record at head with word 10 at 0"
    ∷ running opened (at (Run (Body.Task 0) 0 0)) ⇒ both Refusal.State
    ∷ running opened (at (Run (Body.Task 2) 0 0)) ⇒ both Refusal.State
    ∷ running opened (at (Half (Body.Task 2) 0)) ⇒ both Refusal.State
    ∷ running (controls 0 2 8 0 0 0 3 1) (at (Run (Body.Task 2) 0 0)) ⇒ neither Answer.Stored
    ∷ running opened (at (event1 0)) ⇒ both (Refusal.Control 16)
    ∷ looked (task_begun opened) (at (event1 0)) ⇒ both Refusal.State
    ∷ running (controls 0 1 0 0 0 0 3 3) (at (event1 0)) ⇒ both (Refusal.Control 16)
    ∷ looked (controls 0 1 0 0 0 0 3 3) (at (event1 0)) ⇒ both Refusal.State
    ∷ running closed (at (Run (Body.Event 0) 0 0)) ⇒ step_alone
    ∷ running closed (at (Half (Body.Event 0) 0)) ⇒ step_alone
    ∷ running closed (at (Half (Body.Event 1) 0)) ⇒ neither Answer.Stored
    -- N4: "In phase 0, 25 also meets a device that is on and doesn't run just what word 16 says": which event that is, a step alone sees
    ∷ looked opened (at (task1 0)) ⇒ both Refusal.State
    ∷ looked (task_begun opened) (at (task1 0)) ⇒ neither Answer.Worked
    ∷ looked (event_begun closed) (at (task1 0)) ⇒ both Refusal.State
    ∷ looked opened (at (Half (Body.Task 1) 1)) ⇒ both Refusal.State
    ∷ looked (event_begun closed) (at (Half (Body.Task 1) 1)) ⇒ both Refusal.State
    ∷ looked closed (at (event1 0)) ⇒ both Refusal.State
    ∷ looked (task_begun closed) (at (event1 0)) ⇒ both Refusal.State
    ∷ looked (event_begun closed) (at (event1 0)) ⇒ neither Answer.Stored
    ∷ looked (task_begun closed) (at (Half (Body.Event 1) 0)) ⇒ both Refusal.State
    ∷ looked (event_begun closed) (at (Run (Body.Event 0) 0 0)) ⇒ step_alone
    ∷ looked (task_begun opened) (at (Free 0)) ⇒ both Refusal.State
    ∷ looked (event_begun closed) (at (Free 0)) ⇒ both Refusal.State
    ∷ looked (task_begun opened) off_value ⇒ both Refusal.PowerOff
    ∷ looked (event_begun closed) off_value ⇒ both Refusal.PowerOff
    ∷ looked (task_begun task_commit) (at (Free 5)) ⇒ neither Answer.Stored
    ∷ looked (event_begun task_commit) (at (Free 0)) ⇒ neither Answer.Stored
    -- "a handler at work with the queue full or its event not below E"
    ∷ running opened (working (at (task1 0)) 1 0 (1 ∷ 66 ∷ [])) ⇒ is_busy Answer.Stored
    ∷ running opened (working (at (task1 0)) 1 0 (2 ∷ 66 ∷ [])) ⇒ both Refusal.State
    ∷ running (controls 0 1 8 0 0 0 2 1) (working (at (task1 0)) 1 2 (1 ∷ 66 ∷ [])) ⇒ both Refusal.State
    -- N7: "Of a handler about to drop, 25 asks instead of room a full queue .. and neither word 16 nor the phase at 2"; after its head store room, as of any
    ∷ running full_at2 (working_as Dropping (at (task1 0)) (1 ∷ 66 ∷ [])) ⇒ is_busy Answer.Stored
    ∷ running full_at2 (working_as Dropping (at (task1 0)) (2 ∷ 66 ∷ [])) ⇒ both Refusal.State
    ∷ running opened (working_as Dropping (at (task1 0)) (1 ∷ 66 ∷ [])) ⇒ both Refusal.State
    ∷ running (controls 0 1 0 0 0 0 2 1) (working_as Dropping (at (Run (Body.Event 0) 0 0)) (1 ∷ 66 ∷ [])) ⇒ both Refusal.State
    ∷ looked full_at2 (working_as Dropping on_value (1 ∷ 66 ∷ [])) ⇒ is_busy Answer.Stored
    ∷ looked (controls 1 1 8 2 2 8 2 1) (working_as Dropping (at (Free 1)) (1 ∷ 66 ∷ [])) ⇒ is_busy Answer.Stored
    ∷ looked (event_begun (controls 1 1 8 2 2 8 2 1)) (working_as Dropping (at (Free 1)) (1 ∷ 66 ∷ [])) ⇒ both Refusal.State
    ∷ looked (controls 2 1 0 0 3 0 2 1) (working_as Dropping (at (Free 0)) (1 ∷ 66 ∷ [])) ⇒ both Refusal.State
    ∷ looked (controls 2 1 0 0 2 0 2 1) (working_as Dropping (at (Free 2)) (1 ∷ 66 ∷ [])) ⇒ both Refusal.State
    ∷ running opened (working_as (Replacing 0) (at (task1 0)) (1 ∷ 66 ∷ [])) ⇒ is_busy Answer.Stored
    ∷ running full_at2 (working_as (Replacing 0) (at (task1 0)) (1 ∷ 66 ∷ [])) ⇒ both Refusal.State
    ∷ running opened (working_as (Replacing 2) (at (task1 0)) (2 ∷ 66 ∷ [])) ⇒ both Refusal.State
    ∷ running opened (working_as (Replacing 3) (at (task1 0)) (1 ∷ 66 ∷ [])) ⇒ both Refusal.State
    ∷ looked full_at2 (working_as Dropping off_value (1 ∷ 66 ∷ [])) ⇒ both Refusal.State
    -- one at rest has no burst
    ∷ running opened (with_burst (set cleared 0 1)) ⇒ both Refusal.State
    ∷ running opened (with_burst (set cleared 7 1)) ⇒ both Refusal.State
    -- N6: "a handler whose burst doesn't fit": room for one, two and three
    ∷ running opened (working (at (task1 0)) 2 0 (1 ∷ 66 ∷ 0 ∷ 67 ∷ [])) ⇒ both Refusal.State
    ∷ running (controls 0 1 8 0 0 0 3 0) (working (at (task1 0)) 2 0 (1 ∷ 66 ∷ 0 ∷ 67 ∷ [])) ⇒ is_busy Answer.Stored
    ∷ running (controls 0 1 8 0 0 0 3 0) (working (at (task1 0)) 3 0 (1 ∷ 66 ∷ 0 ∷ 67 ∷ 1 ∷ 68 ∷ [])) ⇒ both Refusal.State
    ∷ running (controls 0 1 8 0 0 0 3 3) (working (at (task1 0)) 3 0 (1 ∷ 66 ∷ 0 ∷ 67 ∷ 1 ∷ 68 ∷ [])) ⇒ is_busy Answer.Stored
    ∷ running (controls 0 1 8 0 0 0 3 3) (working (at (task1 0)) 4 0 (1 ∷ 66 ∷ 0 ∷ 67 ∷ 1 ∷ 68 ∷ 0 ∷ 69 ∷ [])) ⇒ both Refusal.State
    -- "is past its tail store"
    ∷ running opened (working (at (task1 0)) 1 2 (1 ∷ 66 ∷ [])) ⇒ is_busy accepted
    ∷ running opened (working (at (task1 0)) 1 3 (1 ∷ 66 ∷ [])) ⇒ both Refusal.State
    ∷ running (controls 0 1 8 0 0 0 3 3) (working (at (task1 0)) 3 6 (1 ∷ 66 ∷ 0 ∷ 67 ∷ 1 ∷ 68 ∷ [])) ⇒ is_busy accepted
    ∷ running (controls 0 1 8 0 0 0 3 3) (working (at (task1 0)) 3 7 (1 ∷ 66 ∷ 0 ∷ 67 ∷ 1 ∷ 68 ∷ [])) ⇒ both Refusal.State
    -- "or has a length or an event out of range": an event that is stored, too
    ∷ running opened (working (at (task1 0)) 0 0 []) ⇒ both Refusal.State
    ∷ looked (formatted sample 2 9) (working on_value 4 0 (1 ∷ 66 ∷ 0 ∷ 67 ∷ 1 ∷ 68 ∷ 0 ∷ 69 ∷ [])) ⇒ is_busy Answer.Stored
    ∷ looked (formatted sample 2 9) (working on_value 5 0 (1 ∷ 66 ∷ 0 ∷ 67 ∷ 1 ∷ 68 ∷ 0 ∷ 69 ∷ [])) ⇒ both Refusal.State
    ∷ looked (formatted sample 2 9) (working on_value 4 0 (1 ∷ 66 ∷ 0 ∷ 67 ∷ 1 ∷ 68 ∷ 2 ∷ 69 ∷ [])) ⇒ both Refusal.State
    ∷ looked (formatted sample 2 9) (working on_value 4 7 (2 ∷ 66 ∷ 0 ∷ 67 ∷ 1 ∷ 68 ∷ 0 ∷ 69 ∷ [])) ⇒ both Refusal.State
    -- "off unlike its fixed value"
    ∷ running opened off_value ⇒ both Refusal.PowerOff
    ∷ running opened (device_with false (set cleared 0 1) (Free 0) 0 Resting) ⇒ both Refusal.State
    ∷ running opened (device_with false (set cleared 7 1) (Free 0) 0 Resting) ⇒ both Refusal.State
    ∷ running task_commit (device_with false cleared (Free 1) 0 Resting) ⇒ both Refusal.State
    ∷ running opened (device_with false cleared (task1 0) 0 Resting) ⇒ both Refusal.State
    ∷ running opened (device_with false cleared (Half (Body.Task 1) 1) 0 Resting) ⇒ both Refusal.State
    ∷ running opened (device_with false cleared (Free 0) 1 Resting) ⇒ both Refusal.State
    ∷ running opened (working off_value 1 0 (1 ∷ 66 ∷ [])) ⇒ both Refusal.State
    ∷ running opened (record { on = false; registers = cleared; place = Free 0; count = 0; handler = Resting; burst = set cleared 7 1 }) ⇒ both Refusal.State
    -- "7, 25, 22": with two faults, the first
    ∷ running (set opened 8 3) (at (Free 1)) ⇒ both (Refusal.Control 8)
    ∷ []

-- ---- "a step then checks what it uses"

abbrev asks : List ℕ → List ℕ → Place → Answer
asks p s x = (step p (begun_at x s) (at x)).answer

-- with an open number that isn't task 1's
abbrev pub wrong_open : List ℕ
wrong_open = controls 0 1 9 7 7 7 3 1

unfoldable pub uses : List (Row Answer)
uses =
    -- "a chosen record (7)"
    asks (set sample 25 0) (set closed 33 2) (event1 0) ⇒ Answer.Refused (Refusal.Control 33)
    ∷ asks (set sample 1 32) (set closed 33 2) (event1 0) ⇒ Answer.Refused (Refusal.Control 33)
    -- "the body's row (4: rows past the program, its limits, and its body behind the rows and inside the total)"
    ∷ asks (set (set sample 1 32) 10 0) opened (task1 0) ⇒ Answer.Refused (Refusal.Row 0)
    ∷ asks (set sample 10 0) opened (task1 0) ⇒ Answer.Refused (Refusal.Row 1)
    ∷ asks (set sample 11 255) (controls 0 1 255 7 7 7 3 1) (task1 0) ⇒ Answer.Worked
    ∷ asks (set sample 11 256) (controls 0 1 256 7 7 7 3 1) (task1 0) ⇒ Answer.Refused (Refusal.Row 1)
    ∷ asks (set sample 26 1) closed (event1 0) ⇒ Answer.Refused (Refusal.Row 6)
    ∷ asks (set sample 9 27) opened (task1 0) ⇒ Answer.Stored
    ∷ asks (set sample 9 26) opened (task1 0) ⇒ Answer.Refused (Refusal.Row 1)
    ∷ asks (set sample 9 43) opened (task1 0) ⇒ Answer.Stored
    ∷ asks (set sample 9 44) opened (task1 0) ⇒ Answer.Refused (Refusal.Row 1)
    ∷ asks (set sample 13 0) opened (task1 2) ⇒ Answer.Worked
    -- "the instruction (5)"
    ∷ asks (set sample 33 0x1100) opened (task1 1) ⇒ Answer.Stored
    ∷ asks (set sample 33 0x1100) opened (task1 2) ⇒ Answer.Refused (Refusal.Instruction 1 2)
    ∷ asks (set (set sample 29 0x1100) 10 0) opened (task1 0) ⇒ Answer.Refused (Refusal.Row 1)
    ∷ asks (set sample 31 0x0810) opened (Half (Body.Task 1) 1) ⇒ Answer.Refused Refusal.State
    ∷ asks (set sample 31 0x0818) opened (Half (Body.Task 1) 1) ⇒ Answer.Refused (Refusal.Instruction 1 1)
    ∷ asks (set sample 49 0x0C00) closed (event1 1) ⇒ Answer.Worked
    ∷ asks (set sample 49 0x0F00) closed (event1 1) ⇒ Answer.Refused (Refusal.Instruction 6 1)
    ∷ asks (set (set sample 35 0x0200) 36 0) opened (task1 3) ⇒ Answer.Refused (Refusal.Instruction 1 3)
    -- "at GO task k's row (4)"
    ∷ asks (set sample 13 0) opened (task1 3) ⇒ Answer.Refused (Refusal.Row 2)
    ∷ asks (set sample 12 26) opened (Run (Body.Task 1) 3 3) ⇒ Answer.Refused (Refusal.Row 2)
    ∷ asks (set (set sample 13 0) 35 0x0F10) opened (task1 3) ⇒ Answer.Refused (Refusal.Instruction 1 3)
    -- "the rest of 7"
    ∷ asks sample wrong_open (task1 0) ⇒ Answer.Refused (Refusal.Control 10)
    ∷ asks sample wrong_open (Half (Body.Task 1) 1) ⇒ Answer.Refused (Refusal.Control 10)
    ∷ asks (set sample 13 0) wrong_open (task1 3) ⇒ Answer.Refused (Refusal.Row 2)
    ∷ asks (set sample 29 0x1100) wrong_open (task1 0) ⇒ Answer.Refused (Refusal.Instruction 1 0)
    -- "then of 25"
    ∷ asks sample wrong_open (task1 4) ⇒ Answer.Refused (Refusal.Control 10)
    ∷ asks sample wrong_open (Run (Body.Task 1) 0 1) ⇒ Answer.Refused (Refusal.Control 10)
    ∷ asks (with_instruction 0x0830 2) opened (Run (Body.Task 1) 2 1) ⇒ Answer.Refused Refusal.State
    ∷ asks (with_instruction 0x0C00 0) opened (Run (Body.Task 1) 2 1) ⇒ Answer.Refused Refusal.State
    ∷ asks (with_instruction 0x0B31 4) opened (Run (Body.Task 1) 2 1) ⇒ Answer.Refused Refusal.State
    -- "and a log pair"
    ∷ asks sample (set task_commit 23 6) (Free 1) ⇒ Answer.Stored
    ∷ asks sample (set task_commit 25 6) (Free 1) ⇒ Answer.Refused (Refusal.Control 25)
    ∷ asks sample (set (set task_commit 23 6) 25 6) (Free 1) ⇒ Answer.Refused (Refusal.Control 25)
    -- "then 23, 24": L pairs are in the log, for addresses 2 and 3
    ∷ (step (with_instruction 0x0930 3) (task_begun opened) (two_pairs (task1 2))).answer ⇒ Answer.Stored
    ∷ (step (with_instruction 0x0930 5) (task_begun opened) (two_pairs (task1 2))).answer ⇒ Answer.Refused Refusal.LogFull
    ∷ (step (with_instruction 0x0B31 4) (task_begun opened) (two_pairs (task1 2))).answer ⇒ Answer.Refused Refusal.Address
    ∷ []
