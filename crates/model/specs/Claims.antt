-- What is claimed of the definitions for all words and all device states, as statements; proofs/ proves each. Demand3.antt has what is claimed
-- of a list of calls on a fresh store. docs/CLAIMS.md says which sentence is which.
use Rattle.std.specs.Prelude.{ℕ, ◌-◌, ◌*◌, ◌^◌, ◌≤◌, ◌<◌, min, ◌≡◌, ◌⊎◌, ◌≢◌, Bool, true, false, not, List, [], ◌∷◌, eqb, length}
use Rattle.model.specs.Calls.{Call, Boot, Step, Cut, Post, call, history, after_calls, steps, count_by, is_refusal, is_commit, is_store, no_totals, counted, totals_after, events_accepted, stores_made, RunOutcome, run, recovered, recovery}
use Rattle.model.specs.Control.{Rule, broken, obey_all, in_phase, open_rule, address_rule, record_rule, rules, early_rules}
use Rattle.model.specs.Device.{off, burst_length, look, step}
use Rattle.model.specs.Program.{word}
use Rattle.model.specs.Store.{Store, view, Word, index, to, settled, stored_word, slot_after, room, format}
use Rattle.model.specs.Test.{pick, ◌and◌}
use Rattle.model.specs.Types.{Answer, Body, Checked, Device, Dropping, Err, Free, Half, Handler, None, Ok, Option, Place, Record, Refusal, Replacing, Resting, Run, Some, Storing, Totals}

-- "A refusal .. changes no word, state or total."
pub record ChangesNothing (p s : List ℕ) (d : Device) (c : Call) (t : Totals) : Type 0 where
  pub store : settled s (call p s d c).write ≡ s
  pub device : (call p s d c).device ≡ d
  pub totals : counted t d.handler (call p s d c) ≡ t

abbrev pub RefusedChangesNothing : Type 0
RefusedChangesNothing =
    (p s : List ℕ) (d : Device) (c : Call) (t : Totals) (r : Refusal) → (call p s d c).answer ≡ Answer.Refused r → ChangesNothing p s d c t

-- "a word is 16 bits, unsigned"
abbrev pub TypedWords : List ℕ → Type 0
TypedWords s = (i : ℕ) → word s i < 2 ^ 16

abbrev pub TypedBody : Body → Type 0
TypedBody (Body.Task task) = task < 2 ^ 16
TypedBody (Body.Event e) = e < 2 ^ 16

abbrev pub TypedPlace : Place → Type 0
TypedPlace (Free made) = made < 2 ^ 16
TypedPlace (Run b j made) = TypedBody b × ((j < 2 ^ 16) × (made < 2 ^ 16))
TypedPlace (Half b j) = TypedBody b × (j < 2 ^ 16)

abbrev pub TypedHandler : Handler → Type 0
TypedHandler Resting = Unit {0}
TypedHandler (Storing n made) = (n < 2 ^ 16) × (made < 2 ^ 16)
TypedHandler Dropping = Unit {0}
TypedHandler (Replacing made) = made < 2 ^ 16

-- behind the records of the handler's burst there are zeros
abbrev pub ZeroBehind : Handler → List ℕ → Type 0
ZeroBehind handler burst = (i : ℕ) → 2 * burst_length handler ≤ i → word burst i ≡ 0

-- a device state that the types allow
pub record TypedDevice (d : Device) : Type 0 where
  pub registers_length : length d.registers ≡ 8
  pub registers : TypedWords d.registers
  pub place : TypedPlace d.place
  pub count : d.count < 2 ^ 16
  pub handler : TypedHandler d.handler
  pub burst-length : length d.burst ≡ 8
  pub burst : TypedWords d.burst
  pub unused : ZeroBehind d.handler d.burst

abbrev pub TypedRecords : List Record → Type 0
TypedRecords [] = Unit {0}
TypedRecords (first ∷ rs) = (first.event < 2 ^ 16) × (first.datum < 2 ^ 16) × TypedRecords rs

abbrev pub TypedCall : Call → Type 0
TypedCall Boot = Unit {0}
TypedCall Step = Unit {0}
TypedCall Cut = Unit {0}
TypedCall (Post rs) = TypedRecords rs

-- a call's result is one that the types allow
pub record StaysTyped (p s : List ℕ) (d : Device) (c : Call) : Type 0 where
  pub length_is : length (settled s (call p s d c).write) ≡ length s
  pub store : TypedWords (settled s (call p s d c).write)
  pub device : TypedDevice (call p s d c).device

abbrev pub WordsStayWords : Type 0
WordsStayWords =
    (p s : List ℕ) (d : Device) (c : Call) → TypedWords p → TypedWords s → TypedDevice d → TypedCall c → StaysTyped p s d c

abbrev pub FormatStaysWords : Type 0
FormatStaysWords = (p : List ℕ) (l q : ℕ) (s : List ℕ) → TypedWords p → TypedWords s → TypedWords (format p l q s)

-- "full means the slot after tail is head": there is room for no record exactly then
abbrev pub FullIsNoRoom : Type 0
FullIsNoRoom =
    (v : Store) → v.head ≤ v.queue_records → v.tail ≤ v.queue_records
    → (room v ≡ 0 → slot_after v.queue_records v.tail ≡ v.head) × (slot_after v.queue_records v.tail ≡ v.head → room v ≡ 0)

-- "After 23 or 24 every step repeats that refusal until a cut, save for handler steps."
pub data Stays : Refusal → Type 0 where
  address : Stays Refusal.Address
  log_full : Stays Refusal.LogFull

unfoldable pub uncut : List Call → Bool
uncut [] = true
uncut (Boot ∷ cs) = uncut cs
uncut (Step ∷ cs) = uncut cs
uncut (Cut ∷ cs) = false
uncut (Post rs ∷ cs) = uncut cs

abbrev pub RefusalStays : Type 0
RefusalStays =
    (p s : List ℕ) (d : Device) (r : Refusal) → Stays r → (call p s d Step).answer ≡ Answer.Refused r → (cs : List Call) → uncut cs ≡ true
    → (after_calls p s d cs).device.handler ≡ Resting
    → (call p (after_calls p s d cs).store (after_calls p s d cs).device Step).answer ≡ Answer.Refused r

-- ---- N2: "The place in refusal 7 becomes the lowest word of any broken rule, and for a step or post the lowest at that place of the
-- order." A rule's word is "the first word it names".

abbrev pub Among : Rule → List Rule → Type 0
Among rule [] = ⊥
Among rule (first ∷ rest) = (rule ≡ first) ⊎ Among rule rest

-- place is the word of a broken rule of rs, and no broken rule of rs has a lower one
pub record LowestBroken (rs : List Rule) (place : ℕ) : Type 0 where
  pub rule : Rule
  pub among : Among rule rs
  pub is_broken : broken rule ≡ true
  pub word_is : rule.word ≡ place
  pub lowest : (other : Rule) → Among other rs → broken other ≡ true → place ≤ other.word

abbrev pub NoneBroken : List Rule → Type 0
NoneBroken rs = (rule : Rule) → Among rule rs → broken rule ≡ false

-- The rule of what a step uses behind its early look: "a chosen record", that at head, as a dropped one is; "a log pair", the next to be copied;
-- for a running task word 10's, for a running event that of the record at head. A handler's stores of its burst use none.
unfoldable pub running_rule : List ℕ → Store → Body → Rule
running_rule p v (Body.Task task) = open_rule p v
running_rule p v (Body.Event e) = record_rule p v v.head

unfoldable pub place_rule : List ℕ → Store → Place → Rule
place_rule p v (Free made) = pick (in_phase v 0) (record_rule p v v.head) (address_rule p v made)
place_rule p v (Run b j made) = running_rule p v b
place_rule p v (Half b j) = running_rule p v b

unfoldable pub used_rules : List ℕ → Store → Place → Handler → List Rule
used_rules p v place Resting = place_rule p v place ∷ []
used_rules p v place (Storing n made) = []
used_rules p v place Dropping = record_rule p v v.head ∷ []
used_rules p v place (Replacing made) = []

-- the rules of 7 that a call looks at, those at one place of the order together
unfoldable pub in_order : List ℕ → Store → Device → Call → List (List Rule)
in_order p v d Boot = rules p v ∷ []
in_order p v d Step = early_rules p v ∷ used_rules p v d.place d.handler ∷ []
in_order p v d Cut = []
in_order p v d (Post rs) = early_rules p v ∷ []

-- place is the lowest at the first place of the order that has a broken rule
unfoldable pub FirstLowest : List (List Rule) → ℕ → Type 0
FirstLowest [] place = ⊥
FirstLowest (rs ∷ later) place = LowestBroken rs place ⊎ (NoneBroken rs × FirstLowest later place)

abbrev pub PlaceIsLowest : Type 0
PlaceIsLowest =
    (p s : List ℕ) (d : Device) (c : Call) (place : ℕ) → (call p s d c).answer ≡ Answer.Refused (Refusal.Control place)
    → FirstLowest (in_order p (view s) d c) place

-- so two benches name the same word
abbrev pub LowestIsOne : Type 0
LowestIsOne = (order : List (List Rule)) (place other : ℕ) → FirstLowest order place → FirstLowest order other → place ≡ other

-- The definitions find the place as the first broken rule of a list: that is the lowest.
abbrev pub NamesLowest : List Rule → Type 0
NamesLowest rs = (place : ℕ) → obey_all rs ≡ Err (Refusal.Control place) → LowestBroken rs place

abbrev pub FirstIsLowest : Type 0
FirstIsLowest = (p : List ℕ) (v : Store) → NamesLowest (rules p v) × NamesLowest (early_rules p v)

-- "A step answers: chosen, worked, stored, committed (the commit store), accepted, or refused": these made a store
unfoldable pub tells_store : Answer → Bool
tells_store Answer.Done = false
tells_store (Answer.Chosen b) = true
tells_store Answer.Worked = false
tells_store Answer.Stored = true
tells_store (Answer.Committed b) = true
tells_store (Answer.Accepted x) = true
tells_store (Answer.Refused r) = false

-- The answer tells whether a store was made. What was stored is a word of the store, and a store that a step takes has at most 1235 words.
pub record StoreTold (p s : List ℕ) (d : Device) : Type 0 where
  pub made : is_store (step p s d).write ≡ tells_store (step p s d).answer
  pub inside : (w : Word) (x : ℕ) → (step p s d).write ≡ to w x → index s w < length s
  pub most : (w : Word) (x : ℕ) → (step p s d).write ≡ to w x → length s ≤ 1235

abbrev pub StoreIsTold : Type 0
StoreIsTold = (p s : List ℕ) (d : Device) → StoreTold p s d

-- ---- Run, totals and recovery are what the calls one by one are

-- how a run of so many steps ended: all of its budget, or less and a step that is refused
abbrev pub EndedSo : List ℕ → ℕ → RunOutcome → Checked → Type 0
EndedSo p budget o (Ok _) = o.steps ≡ budget
EndedSo p budget o (Err r) = (o.steps < budget) × ((step p o.store o.device).answer ≡ Answer.Refused r)

-- a run from s, d and t with outcome o is its steps, none of them refused
pub record IsSteps (p : List ℕ) (budget : ℕ) (s : List ℕ) (d : Device) (t : Totals) (o : RunOutcome) : Type 0 where
  pub store : o.store ≡ (after_calls p s d (steps o.steps)).store
  pub device : o.device ≡ (after_calls p s d (steps o.steps)).device
  pub totals : o.totals ≡ totals_after p s d (steps o.steps) t
  pub unrefused : count_by is_refusal (history p s d (steps o.steps)) ≡ 0
  pub ended : EndedSo p budget o o.ended

abbrev pub RunIsSteps : Type 0
RunIsSteps = (p : List ℕ) (budget : ℕ) (s : List ℕ) (d : Device) (t : Totals) → IsSteps p budget s d t (run p budget s d t)

-- from 0, each total is the count of what was answered or stored, or the largest value if there is more
pub record AreCounts (p s : List ℕ) (d : Device) (cs : List Call) (t : Totals) : Type 0 where
  pub committed : t.committed ≡ min (count_by is_commit (history p s d cs)) (2 ^ 32 - 1)
  pub accepted : t.accepted ≡ min (events_accepted p s d cs) (2 ^ 32 - 1)
  pub stores : t.stores ≡ min (stores_made p s d cs) (2 ^ 32 - 1)

abbrev pub TotalsAreCounts : Type 0
TotalsAreCounts = (p s : List ℕ) (d : Device) (cs : List Call) → AreCounts p s d cs (totals_after p s d cs no_totals)

-- uncut recovery, where it ends after n steps, is a boot of the off device and n steps, the phase 0 after these and not before
pub record ByCalls (p s : List ℕ) (n : ℕ) (store : List ℕ) : Type 0 where
  pub leaves : (after_calls p s off (Boot ∷ steps n)).store ≡ store
  pub ended : (view store).phase ≡ 0
  pub goes_on : (m : ℕ) → m < n → (view (after_calls p s off (Boot ∷ steps m)).store).phase ≢ 0

abbrev pub RecoveryByCalls : Type 0
RecoveryByCalls = (p s : List ℕ) (allowed n : ℕ) (store : List ℕ) → recovery p allowed s ≡ recovered n store → ByCalls p s n store

-- ---- Why a run needn't look at everything before each step

-- What step and post look at first passes again after a step that wasn't refused, save after two stores of the phase: a commit store makes
-- phase 1 or 2, whose rules for words 11 and 12 no step has looked at; a commit's last store makes phase 0, in which word 16 must be 0,
-- and no step has looked at that in phases 1 and 2. By which word was stored, the answer, and the words after it:
unfoldable pub sound_after : Option ℕ → Answer → List ℕ → Bool
sound_after None a s = true
sound_after (Some i) a s = pick (eqb i 8) (not (is_commit a) and eqb (word s 16) 0) true

abbrev pub LookStays : Type 0
LookStays =
    (p s : List ℕ) (d : Device) → is_refusal (step p s d).answer ≡ false
    → sound_after (stored_word s (step p s d).write) (step p s d).answer (settled s (step p s d).write) ≡ true
    → look p (settled s (step p s d).write) (step p s d).device ≡ Ok tt
