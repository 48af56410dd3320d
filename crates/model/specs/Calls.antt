-- Document 01: a list of calls, run, the host's totals, and uncut recovery.
use Rattle.std.specs.Prelude.{ℕ, zero, suc, ◌+◌, ◌-◌, ◌^◌, min, Bool, true, false, List, [], ◌∷◌, eqb}
use Rattle.model.specs.Device.{Outcome, boot, cut, post, burst_length, step}
use Rattle.model.specs.Store.{view, Write, none, to, settled}
use Rattle.model.specs.Test.{pick}
use Rattle.model.specs.Types.{Answer, Checked, Device, Err, Handler, Ok, Record, Refusal, Totals}

-- ---- "any list of boots, steps, posts and cuts"; a post carries a burst

pub data Call : Type 0 where
  Boot Step Cut : Call
  Post : List Record → Call

unfoldable pub call : List ℕ → List ℕ → Device → Call → Outcome
call p s d Boot = boot p s d
call p s d Step = step p s d
call p s d Cut = cut
call p s d (Post rs) = post p s d rs

pub record Line : Type 0 where
  pub called : Call
  pub answered : Answer

-- the calls with their answers
unfoldable pub history : List ℕ → List ℕ → Device → List Call → List Line
history p s d [] = []
history p s d (c ∷ cs) =
    let o = call p s d c in
    record { called = c; answered = o.answer } ∷ history p (settled s o.write) o.device cs

-- the store and the device after them
pub record Now : Type 0 where
  pub store : List ℕ
  pub device : Device

unfoldable pub after_calls : List ℕ → List ℕ → Device → List Call → Now
after_calls p s d [] = record { store = s; device = d }
after_calls p s d (c ∷ cs) =
    let o = call p s d c in
    after_calls p (settled s o.write) o.device cs

unfoldable pub steps : ℕ → List Call
steps zero = []
steps (suc n) = Step ∷ steps n

-- how many answers are so
unfoldable pub count_by : (Answer → Bool) → List Line → ℕ
count_by holds [] = 0
count_by holds (line ∷ lines) = pick (holds line.answered) (suc (count_by holds lines)) (count_by holds lines)

-- what comes of a refusal, or what comes otherwise
unfoldable pub unless_refused {ℓ} : {A : Type ℓ} → Answer → (Refusal → A) → A → A
unless_refused Answer.Done refusing other = other
unless_refused (Answer.Chosen b) refusing other = other
unless_refused Answer.Worked refusing other = other
unless_refused Answer.Stored refusing other = other
unless_refused (Answer.Committed b) refusing other = other
unless_refused (Answer.Accepted x) refusing other = other
unless_refused (Answer.Refused r) refusing other = refusing r

unfoldable pub is_refusal : Answer → Bool
is_refusal a = unless_refused a (λ r. true) false

-- ---- "The host's totals (bodies committed, events accepted, stores made; 32 bits, staying at the largest value)"

-- a total and n more, as far as the largest value
unfoldable pub more_by : ℕ → ℕ → ℕ
more_by total n = total + min n (2 ^ 32 - 1 - total)

unfoldable pub one_if : Bool → ℕ
one_if holds = pick holds 1 0

unfoldable pub is_commit : Answer → Bool
is_commit Answer.Done = false
is_commit (Answer.Chosen b) = false
is_commit Answer.Worked = false
is_commit Answer.Stored = false
is_commit (Answer.Committed b) = true
is_commit (Answer.Accepted x) = false
is_commit (Answer.Refused r) = false

unfoldable pub is_accept : Answer → Bool
is_accept Answer.Done = false
is_accept (Answer.Chosen b) = false
is_accept Answer.Worked = false
is_accept Answer.Stored = false
is_accept (Answer.Committed b) = false
is_accept (Answer.Accepted x) = true
is_accept (Answer.Refused r) = false

-- how many events an answer accepts. N6: "The accepted total rises by the burst's length", which is that of the handler before the step:
-- the answer doesn't tell it.
unfoldable pub accepted_events : Handler → Answer → ℕ
accepted_events handler a = pick (is_accept a) (burst_length handler) 0

-- a store counts because one was made
unfoldable pub is_store : Write → Bool
is_store none = false
is_store (to w x) = true

abbrev pub no_totals : Totals
no_totals = record { committed = 0; accepted = 0; stores = 0 }

-- the totals after a step of a device with this handler
unfoldable pub counted : Totals → Handler → Outcome → Totals
counted t handler o =
    record {
      committed = more_by t.committed (one_if (is_commit o.answer));
      accepted = more_by t.accepted (accepted_events handler o.answer);
      stores = more_by t.stores (one_if (is_store o.write));
    }

-- the totals after calls; how many events these accepted, and how many of them made a store
unfoldable pub totals_after : List ℕ → List ℕ → Device → List Call → Totals → Totals
totals_after p s d [] t = t
totals_after p s d (c ∷ cs) t =
    let o = call p s d c in
    totals_after p (settled s o.write) o.device cs (counted t d.handler o)

unfoldable pub events_accepted : List ℕ → List ℕ → Device → List Call → ℕ
events_accepted p s d [] = 0
events_accepted p s d (c ∷ cs) =
    let o = call p s d c in
    accepted_events d.handler o.answer + events_accepted p (settled s o.write) o.device cs

unfoldable pub stores_made : List ℕ → List ℕ → Device → List Call → ℕ
stores_made p s d [] = 0
stores_made p s d (c ∷ cs) =
    let o = call p s d c in
    let rest = stores_made p (settled s o.write) o.device cs in
    pick (is_store o.write) (suc rest) rest

-- ---- "Run repeats steps up to a budget (32 bits) and returns the count of steps made, with spent or the refusal; a budget of 0
-- looks at nothing and returns spent."

pub record RunOutcome : Type 0 where
  pub steps : ℕ
  pub ended : Checked
  pub store : List ℕ
  pub device : Device
  pub totals : Totals

unfoldable pub run_from : List ℕ → ℕ → ℕ → List ℕ → Device → Totals → RunOutcome
run_from p zero n s d t = record { steps = n; ended = Ok tt; store = s; device = d; totals = t }
run_from p (suc budget) n s d t =
    let o = step p s d in
    let rest = run_from p budget (n + 1) (settled s o.write) o.device (counted t d.handler o) in
    unless_refused o.answer (λ r. record { steps = n; ended = Err r; store = s; device = d; totals = t }) rest

unfoldable pub run : List ℕ → ℕ → List ℕ → Device → Totals → RunOutcome
run p budget s d t = run_from p budget 0 s d t

-- ---- Uncut recovery "is a cut, a boot, then steps while the phase isn't 0, without posts". It ends with the count of steps and
-- the store, or it is refused, or the steps allowed don't suffice.

pub data Recovery : Type 0 where
  recovered : ℕ → List ℕ → Recovery
  refused : Refusal → Recovery
  unfinished : Recovery

unfoldable pub finish : List ℕ → ℕ → ℕ → List ℕ → Device → Recovery
finish p zero n s d = pick (eqb (view s).phase 0) (recovered n s) unfinished
finish p (suc allowed) n s d =
    let o = step p s d in
    let rest = finish p allowed (n + 1) (settled s o.write) o.device in
    let go = unless_refused o.answer refused rest in
    pick (eqb (view s).phase 0) (recovered n s) go

-- with so many steps allowed
unfoldable pub recovery : List ℕ → ℕ → List ℕ → Recovery
recovery p allowed s =
    let o = boot p s cut.device in
    unless_refused o.answer refused (finish p allowed 0 s o.device)
