-- How the code's values stand for the definitions': the device from its core and its registers, and what a call leaves (answer, which
-- word it stored, device and store) as one value, from the code's result and from a defined outcome. Document 01: "the contract equates the
-- answer, the store, the device state .. after the call with defined ones"; so a promise is one equation. Assumes nothing.
use Rattle.model.specs.declared.Record.{Record}
use Rattle.model.specs.Types.{Option}
use Rattle.std.specs.Prelude.{ℕ, true, List, ◌≡◌, length}
use Rattle.model.specs.Burst.{no_burst}
use Rattle.model.specs.Device.{Outcome, boot, post, place_step, next_step, step}
use Rattle.model.specs.Store.{Store, view, settled, stored_word}
use Rattle.model.specs.declared.Answer.{Answer}
use Rattle.model.specs.declared.Device.{Device}
use Rattle.model.specs.declared.Handler.{Handler}
use Rattle.model.specs.declared.Handler.TheVariants.{Resting}
use Rattle.model.specs.declared.Place.{Place}
use Rattle.model.specs.declared.Place.TheVariants.{Free}
use Rattle.device.specs.declared.CallResult.{CallResult}
use Rattle.device.specs.declared.Core.{Core}
use Rattle.device.specs.declared.CoreResult.{CoreResult}
use Rattle.device.specs.declared.StepResult.{StepResult}

-- ---- A device, and its core

-- a lent array has its words, which a contract has to say
abbrev pub Eight : List ℕ → Type 0
Eight ws = length ws ≡ 8

-- with registers r, handler h and burst b; with a handler at rest, which has no burst
abbrev pub device_with : Core → List ℕ → Handler → List ℕ → Device
device_with c r h b = record { on = c.on; registers = r; place = c.place; count = c.count; handler = h; burst = b }

abbrev pub device : Core → List ℕ → Device
device c r = device_with c r Resting no_burst

abbrev pub core_of : Device → Core
core_of d = record { on = d.on; place = d.place; count = d.count }

-- another place and another log count
abbrev pub core_at : Core → Place → ℕ → Core
core_at c x l = record { on = c.on; place = x; count = l }

-- the off value turned on, apart from its registers and handler
abbrev pub on_core : Core
on_core = record { on = true; place = Free 0; count = 0 }

abbrev pub core_result : Answer → Option ℕ → Core → CoreResult
core_result a w c = record { answer = a; stored = w; core = c }

abbrev pub step_result : Answer → Option ℕ → Handler → Core → StepResult
step_result a w h c = record { answer = a; stored = w; handler = h; core = c }

-- ---- What a call leaves

pub record Result : Type 0 where
  pub answer : Answer
  pub stored : Option ℕ
  pub device : Device
  pub store : List ℕ

-- by the code: a core with registers r and a handler at rest; a core and a handler with registers r and burst b; or a whole device; and the words s
abbrev pub of_core : CoreResult → List ℕ → List ℕ → Result
of_core x r s = record { answer = x.answer; stored = x.stored; device = device x.core r; store = s }

abbrev pub of_step : StepResult → List ℕ → List ℕ → List ℕ → Result
of_step x r b s = record { answer = x.answer; stored = x.stored; device = device_with x.core r x.handler b; store = s }

abbrev pub of_call : CallResult → List ℕ → Result
of_call x s = record { answer = x.answer; stored = x.stored; device = x.device; store = s }

-- by an outcome, on the words s. Which word it stored is told even where its value stayed the same.
abbrev pub of_outcome : List ℕ → Outcome → Result
of_outcome s o = record { answer = o.answer; stored = stored_word s o.write; device = o.device; store = settled s o.write }

-- by a case f of a step, on the words s and device d
abbrev pub leaves : (Store → Device → Outcome) → List ℕ → Device → Result
leaves f s d = of_outcome s (f (view s) d)

-- a step past its early checks, and that of a handler at rest, as such cases
abbrev pub place_step_of : List ℕ → Store → Device → Outcome
place_step_of p v d = place_step p v d d.place

abbrev pub next_step_of : List ℕ → Store → Device → Outcome
next_step_of p v d = next_step p v d d.handler

-- A call that isn't lent the store: whatever its words are, x leaves them, and otherwise what o says.
abbrev pub OnAnyStore : (List ℕ → Result) → Outcome → Type 0
OnAnyStore x o = (s : List ℕ) → x s ≡ of_outcome s o

-- A step that isn't lent the registers: whatever they are, x leaves them and the words s, and otherwise what f says of the device.
abbrev pub OnAnyRegisters : Core → CoreResult → List ℕ → (Device → Result) → Type 0
OnAnyRegisters c x s f = (r : List ℕ) → of_core x r s ≡ f (device c r)

-- ---- What a host is promised

-- A boot of device d, and a post of the records rs: neither is lent the words to be changed.
abbrev pub BootPerforms : List ℕ → List ℕ → Device → CallResult → Type 0
BootPerforms p s d x = of_call x s ≡ of_outcome s (boot p s d)

abbrev pub PostPerforms : List ℕ → List ℕ → Device → List Record → CallResult → Type 0
PostPerforms p s d rs x = of_call x s ≡ of_outcome s (post p s d rs)

-- A step, which left the words z.
abbrev pub StepPerforms : List ℕ → List ℕ → Device → CallResult → List ℕ → Type 0
StepPerforms p s d x z = of_call x z ≡ of_outcome s (step p s d)
