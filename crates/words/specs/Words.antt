-- Device states, answers and refusals as words, for a boundary that no enum crosses; include/runtime.h has the forms for C.
-- What a case doesn't have is 0. A refusal's number and place are those of the model's Answer.antt. Words that aren't the words
-- of some device state stand for none: `Back`, `Forth` and `Other` say that a device state has one form. Assumes nothing.
use Rattle.std.specs.Prelude.{ℕ, Bool, true, false, List, [], ◌∷◌, ◌++◌, ◌≡◌, eqb, leb, ltb, length}
use Rattle.model.specs.Answer.{refusal}
use Rattle.model.specs.Claims.{ZeroBehind}
use Rattle.model.specs.Device.{off, with_handler}
use Rattle.model.specs.Program.{word}
use Rattle.model.specs.Test.{pick, ◌and◌}
use Rattle.model.specs.Types.{Checked, Option, Some, None, Ok, Err}
use Rattle.model.specs.declared.Answer.{Answer}
use Rattle.model.specs.declared.Body.{Body}
use Rattle.model.specs.declared.Device.{Device}
use Rattle.model.specs.declared.Handler.{Handler}
use Rattle.model.specs.declared.Handler.TheVariants.{Resting, Storing, Dropping, Replacing}
use Rattle.model.specs.declared.Place.{Place}
use Rattle.model.specs.declared.Place.TheVariants.{Free, Run, Half}
use Rattle.model.specs.declared.Record.{Record}
use Rattle.model.specs.declared.Refusal.{Refusal}

-- ---- A device state as 26 words

-- a test is a word, 1 or 0
unfoldable pub flag : Bool → ℕ
flag true = 1
flag false = 0

-- a body is two words: its kind, task or event, and its number
unfoldable pub kind : Body → ℕ
kind (Body.Task n) = 0
kind (Body.Event n) = 1

unfoldable pub number : Body → ℕ
number (Body.Task n) = n
number (Body.Event n) = n

-- words 9 to 13: no body, running or half a SAVE; kind of body; its number; its instruction; commit place, or ending stores made
unfoldable pub place_words : Place → List ℕ
place_words (Free c) = 0 ∷ 0 ∷ 0 ∷ 0 ∷ c ∷ []
place_words (Run b j c) = 1 ∷ kind b ∷ number b ∷ j ∷ c ∷ []
place_words (Half b j) = 2 ∷ kind b ∷ number b ∷ j ∷ 0 ∷ []

-- words 15 to 17: at rest, storing, about to drop a record or storing in the place of one that is dropped; the length of its burst; how many of
-- its burst's stores are made
unfoldable pub handler_words : Handler → List ℕ
handler_words Resting = 0 ∷ 0 ∷ 0 ∷ []
handler_words (Storing n c) = 1 ∷ n ∷ c ∷ []
handler_words Dropping = 2 ∷ 1 ∷ 0 ∷ []
handler_words (Replacing c) = 3 ∷ 1 ∷ c ∷ []

-- word 0: on; words 1 to 8: the registers; word 14: the log count; words 18 to 25: the burst
unfoldable pub device_words : Device → List ℕ
device_words d =
    let r = d.registers in
    let b = d.burst in
    (flag d.on ∷ word r 0 ∷ word r 1 ∷ word r 2 ∷ word r 3 ∷ word r 4 ∷ word r 5 ∷ word r 6 ∷ word r 7 ∷ place_words d.place)
    ++ (d.count ∷ (handler_words d.handler ++ (word b 0 ∷ word b 1 ∷ word b 2 ∷ word b 3 ∷ word b 4 ∷ word b 5 ∷ word b 6 ∷ word b 7 ∷ [])))

-- of a device's words w, those with another handler, whose burst has the words b: words 15 to 25 become others
unfoldable pub with_burst : List ℕ → Handler → List ℕ → List ℕ
with_burst w handler b =
    (word w 0 ∷ word w 1 ∷ word w 2 ∷ word w 3 ∷ word w 4 ∷ word w 5 ∷ word w 6 ∷ word w 7 ∷ word w 8 ∷ [])
    ++ (word w 9 ∷ word w 10 ∷ word w 11 ∷ word w 12 ∷ word w 13 ∷ word w 14 ∷ [])
    ++ handler_words handler
    ++ (word b 0 ∷ word b 1 ∷ word b 2 ∷ word b 3 ∷ word b 4 ∷ word b 5 ∷ word b 6 ∷ word b 7 ∷ [])

-- ---- 26 words as a device state

-- the body of its two words
unfoldable pub body_of : ℕ → ℕ → Body
body_of k n = pick (eqb k 0) (Body.Task n) (Body.Event n)

-- the place of words 9 to 13, and whether they are the words of a place
unfoldable pub place_of : ℕ → ℕ → ℕ → ℕ → ℕ → Place
place_of p k n j c = pick (eqb p 0) (Free c) (pick (eqb p 1) (Run (body_of k n) j c) (Half (body_of k n) j))

unfoldable pub is_place : ℕ → ℕ → ℕ → ℕ → ℕ → Bool
is_place p k n j c =
    pick (eqb p 0) (eqb k 0 and eqb n 0 and eqb j 0) (leb k 1 and pick (eqb p 1) true (eqb p 2 and eqb c 0))

-- the handler of words 15 to 17, and whether they are the words of a handler
unfoldable pub handler_of : ℕ → ℕ → ℕ → Handler
handler_of h n c = pick (eqb h 0) Resting (pick (eqb h 1) (Storing n c) (pick (eqb h 2) Dropping (Replacing c)))

unfoldable pub is_handler : ℕ → ℕ → ℕ → Bool
is_handler h n c = pick (eqb h 0) (eqb n 0 and eqb c 0) (pick (eqb h 1) true (eqb n 1 and pick (eqb h 2) (eqb c 0) (eqb h 3)))

-- the two words of record i beside a burst of n records: behind the last one they are 0
unfoldable pub is_record : ℕ → ℕ → ℕ → ℕ → Bool
is_record n i e x = pick (ltb i n) true (eqb e 0 and eqb x 0)

unfoldable pub are_records : ℕ → List ℕ → Bool
are_records n b =
    is_record n 0 (word b 0) (word b 1)
    and is_record n 1 (word b 2) (word b 3)
    and is_record n 2 (word b 4) (word b 5)
    and is_record n 3 (word b 6) (word b 7)

-- words 18 to 25
abbrev pub burst_of : List ℕ → List ℕ
burst_of w = word w 18 ∷ word w 19 ∷ word w 20 ∷ word w 21 ∷ word w 22 ∷ word w 23 ∷ word w 24 ∷ word w 25 ∷ []

-- what reading finds: a device state, or none, with the off value in its place
pub record Read : Type 0 where
  pub found : Bool
  pub device : Device

abbrev pub known : Device → Read
known d = record { found = true; device = d }

abbrev pub unknown : Read
unknown = record { found = false; device = off }

-- the device state of 26 words, and whether they are the words of one
unfoldable pub is_state : List ℕ → Bool
is_state w =
    leb (word w 0) 1
    and is_place (word w 9) (word w 10) (word w 11) (word w 12) (word w 13)
    and is_handler (word w 15) (word w 16) (word w 17)
    and are_records (word w 16) (burst_of w)

unfoldable pub state_of : List ℕ → Device
state_of w =
    record {
      on = eqb (word w 0) 1;
      registers = word w 1 ∷ word w 2 ∷ word w 3 ∷ word w 4 ∷ word w 5 ∷ word w 6 ∷ word w 7 ∷ word w 8 ∷ [];
      place = place_of (word w 9) (word w 10) (word w 11) (word w 12) (word w 13);
      count = word w 14;
      handler = handler_of (word w 15) (word w 16) (word w 17);
      burst = burst_of w;
    }

-- the device state whose words these are, if there is one
unfoldable pub device_of : List ℕ → Read
device_of w = pick (is_state w) (known (state_of w)) unknown

-- a device state that has words: eight registers, and eight words of a burst with zeros behind its records
pub record HasWords (d : Device) : Type 0 where
  pub registers : length d.registers ≡ 8
  pub burst : length d.burst ≡ 8
  pub unused : ZeroBehind d.handler d.burst

-- a device state is read back from its words, so no two states share their words
abbrev pub Back : Type 0
Back = (d : Device) → HasWords d → device_of (device_words d) ≡ known d

-- 26 words that are read as a device state are its words
abbrev pub Forth : Type 0
Forth = (w : List ℕ) (d : Device) → length w ≡ 26 → device_of w ≡ known d → device_words d ≡ w

-- 26 words that are no device state's are read as none
abbrev pub Other : Type 0
Other = (w : List ℕ) → length w ≡ 26 → ((d : Device) → HasWords d → device_words d ≡ w → ⊥) → device_of w ≡ unknown

-- the words of a device state with its handler set to work are that device's
abbrev pub SetToWork : Type 0
SetToWork = (w : List ℕ) (handler : Handler) (b : List ℕ) → is_state w ≡ true → device_words (with_handler (state_of w) handler b) ≡ with_burst w handler b

-- ---- Answers as 5 words: case, kind of body, number (of the body or of the refusal), place (two words); an acceptance has its own

-- a case that has a body, and one that has nothing more to say
abbrev pub body_answer : ℕ → Body → List ℕ
body_answer a b = a ∷ kind b ∷ number b ∷ 0 ∷ 0 ∷ []

abbrev pub plain_answer : ℕ → List ℕ
plain_answer a = a ∷ 0 ∷ 0 ∷ 0 ∷ 0 ∷ []

-- a refusal: its number and place as the model has them
unfoldable pub refused_words : Refusal → List ℕ
refused_words e = 6 ∷ 0 ∷ (refusal e).number ∷ (refusal e).first ∷ (refusal e).second ∷ []

-- an acceptance: whether a record was dropped, and its event and data
unfoldable pub accepted_words : Option Record → List ℕ
accepted_words None = plain_answer 5
accepted_words (Some r) = 5 ∷ 1 ∷ r.event ∷ r.datum ∷ 0 ∷ []

-- what a call answers
unfoldable pub answer_words : Answer → List ℕ
answer_words Answer.Done = plain_answer 0
answer_words (Answer.Chosen b) = body_answer 1 b
answer_words Answer.Worked = plain_answer 2
answer_words Answer.Stored = plain_answer 3
answer_words (Answer.Committed b) = body_answer 4 b
answer_words (Answer.Accepted dropped) = accepted_words dropped
answer_words (Answer.Refused e) = refused_words e

-- how a run ends: spent, or a refusal as in an answer
unfoldable pub ended_words : Checked → List ℕ
ended_words (Ok _) = plain_answer 7
ended_words (Err e) = refused_words e

-- what a check finds: accepted is done, a refusal as in an answer
unfoldable pub checked_words : Checked → List ℕ
checked_words (Ok _) = plain_answer 0
checked_words (Err e) = refused_words e

-- where the device words stand for no device state
unfoldable pub unknown_words : List ℕ
unknown_words = plain_answer 8

-- where raising a line posts nothing
unfoldable pub nothing_posted_words : List ℕ
nothing_posted_words = plain_answer 9

-- ---- A step's answer as 6 words: those of an answer, and the word that it stored, by its index

-- none is 65535, which is no index: a store has at most 1235 words
unfoldable pub stored_number : Option ℕ → ℕ
stored_number None = 65535
stored_number (Some i) = i

unfoldable pub step_words : Answer → Option ℕ → List ℕ
step_words a w = answer_words a ++ (stored_number w ∷ [])

-- where the device words stand for no device state
unfoldable pub unknown_step_words : List ℕ
unknown_step_words = unknown_words ++ (stored_number None ∷ [])
