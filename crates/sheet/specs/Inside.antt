-- What the library's inner functions promise: the state after a byte, a line and a call. No promise to a host
-- rests on it. Assumes nothing.
use Rattle.std.specs.Prelude.{ℕ, ◌+◌, ◌^◌, ◌≤◌, ◌<◌, Bool, false, List, [], ◌∷◌, ◌++◌, ◌⊎◌, ◌≡◌, eqb, length, replicate, Option, Some, None}
use Rattle.model.specs.Burst.{single}
use Rattle.model.specs.Calls.{Call, Boot, Step, Cut, Post}
use Rattle.model.specs.Device.{off}
use Rattle.model.specs.Program.{word}
use Rattle.model.specs.Store.{view, memory_at}
use Rattle.model.specs.Test.{pick}
use Rattle.model.specs.declared.Device.{Device}
use Rattle.sheet.specs.Sheet.{memory_line, recovered_memory}
use Rattle.sheet.specs.declared.Printed.{Printed}
use Rattle.sheet.specs.declared.Scheduled.{Scheduled}
use Rattle.sheet.specs.declared.State.{State}
use Rattle.sheet.specs.Printed.{SheetState, Reached, Ready, lines_left, Feeds}
use Rattle.text.specs.Puts.{Puts}

abbrev pub call_of : Option Scheduled → Option Call
call_of (Some Scheduled.Boot) = Some Boot
call_of (Some Scheduled.Step) = Some Step
call_of (Some Scheduled.Cut) = Some Cut
call_of (Some (Scheduled.Post e x)) = Some (Post (single e x))
call_of None = None

-- the end of a line, whatever lines follow
pub record EndsLine (p : List ℕ) (n : ℕ) (h : SheetState) (xs : List ℕ) (g : SheetState) : Type 0 where
  pub ready : Ready p g n
  pub number : g.number ≤ h.number + 1
  pub begun : g.line ≡ []
  pub text : h.number + 1 < 2 ^ 64 → (lines : List (List ℕ)) → lines_left p h (h.line ∷ lines) ≡ xs ++ lines_left p g lines

-- a byte more of the line that has begun; seven bytes are kept of a longer one.
pub record HoldsByte (byte : ℕ) (h g : SheetState) : Type 0 where
  pub store : g.store ≡ h.store
  pub device : g.device ≡ h.device
  pub number : g.number ≡ h.number
  pub ended : g.ended ≡ h.ended
  pub line : (g.line ≡ h.line ++ (byte ∷ [])) ⊎ ((6 < length h.line) × (g.line ≡ h.line))

-- the state before call n, with no byte of its line; and after call n. A number that can't rise stays.
abbrev pub state_at : Device → ℕ → Bool → State
state_at d n ended = record { device = d; number = n; line = replicate 7 0; held = 0; ended = ended }

unfoldable pub next_number : ℕ → ℕ
next_number n = pick (eqb n 0xFFFFFFFFFFFFFFFF) n (n + 1)

abbrev pub after_call : Device → ℕ → Bool → State
after_call d n ended = state_at d (next_number n) ended

-- a call put xs at place n of the text t, which became u, and left the state.
pub record Prints (t : List ℕ) (n : ℕ) (u : List ℕ) (r : Printed) (xs : List ℕ) (next : State) : Type 0 where
  pub puts : Puts t n u r.end xs
  pub short : r.end ≤ n + 5141
  pub state : r.state ≡ next

-- the memory of a store whose contents are sound, with a number.
pub record Shows (t : List ℕ) (n : ℕ) (u : List ℕ) (m number : ℕ) (s : List ℕ) : Type 0 where
  pub printed : List ℕ
  pub puts : Puts t n u m printed
  pub short : m ≤ n + 5141
  pub memory : word s 1 ≤ 1024 → word s 5 ≡ memory_at → memory_at + word s 1 ≤ length s → printed ≡ memory_line number (view s).memory

-- a cut of call n, with a copy of so many words.
pub record PrintsCut (p s : List ℕ) (size : ℕ) (t : List ℕ) (n : ℕ) (u : List ℕ) (r : Printed) (number : ℕ) : Type 0 where
  pub printed : List ℕ
  pub prints : Prints t n u r printed (after_call off number false)
  pub memory : (d : Device) → Reached p s d → size ≡ length s → printed ≡ memory_line number (recovered_memory p s)

-- a byte of the schedule, and the end of a line. The text t became u, and what was put at place n ends at m, not too far.
pub record TakesByte (p : List ℕ) (size byte : ℕ) (h : SheetState) (t : List ℕ) (n : ℕ) (g : SheetState) (u : List ℕ) (m : ℕ) : Type 0 where
  pub printed : List ℕ
  pub puts : Puts t n u m printed
  pub short : m ≤ n + 5141
  pub feeds : Ready p h size → Feeds p size h (byte ∷ []) printed g

pub record TakesLine (p : List ℕ) (size : ℕ) (h : SheetState) (t : List ℕ) (n : ℕ) (g : SheetState) (u : List ℕ) (m : ℕ) : Type 0 where
  pub printed : List ℕ
  pub puts : Puts t n u m printed
  pub short : m ≤ n + 5141
  pub ends : Reached p h.store h.device → size ≡ length h.store → h.ended ≡ false → EndsLine p size h printed g
