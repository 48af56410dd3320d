-- Document 01, "Numbers returned": each refusal's number and place, "two words, 0 where nothing is said"; and document 02's new numbers.
use Rattle.std.specs.Prelude.{ℕ}
use Rattle.model.specs.Types.{Refusal}

pub record RefusalNumber : Type 0 where
  pub number : ℕ
  pub first : ℕ
  pub second : ℕ

abbrev numbered : ℕ → ℕ → ℕ → RefusalNumber
numbered n x y = record { number = n; first = x; second = y }

unfoldable pub refusal : Refusal → RefusalNumber
-- program under 6 words, or length unequal to word 5
refusal Refusal.ProgramLength = numbered 1 0 0
-- program mark
refusal Refusal.ProgramMark = numbered 2 0 0
-- T, E, M or entry; place: word index
refusal (Refusal.ProgramSize w) = numbered 3 w 0
-- rows run past the program (place 0), a row breaks its rule (place: body), or the bodies don't end at the total (place T + E)
refusal (Refusal.Row b) = numbered 4 b 0
-- an instruction breaks its rule; place: body, instruction
refusal (Refusal.Instruction b i) = numbered 5 b i
-- store contents or length wrong, or M unlike the program's
refusal Refusal.StoreContents = numbered 6 0 0
-- control; place: the lowest word of any broken rule
refusal (Refusal.Control w) = numbered 7 w 0
-- posted event not below E; N6: "at its first bad event (place: position from 0)"
refusal (Refusal.NoEvent i) = numbered 8 i 0
-- L or Q outside limits, when formatting
refusal Refusal.StoreSize = numbered 9 0 0
-- post while a handler is at work
refusal Refusal.HandlerBusy = numbered 20 0 0
-- post while the queue is full; N6: "when the whole burst doesn't fit"
refusal Refusal.QueueFull = numbered 21 0 0
-- step or post while off
refusal Refusal.PowerOff = numbered 22 0 0
-- address k + b not below M
refusal Refusal.Address = numbered 23 0 0
-- SAVE to an address not in the log, with L pairs there
refusal Refusal.LogFull = numbered 24 0 0
-- state unlike program or store
refusal Refusal.State = numbered 25 0 0
-- boot while on
refusal Refusal.PowerOn = numbered 26 0 0
-- N3: "30 a 65th or incomplete row, a line past 15 or low above high (place: first such row, from 0)"
refusal (Refusal.LinesRow i) = numbered 30 i 0
-- "31 an uncovered level .. (place: line, lowest level)"
refusal (Refusal.LinesGap n x) = numbered 31 n x
-- "32 a level covered twice (place: line, lowest level)"
refusal (Refusal.LinesOverlap n x) = numbered 32 n x
-- N6: "33 burst of zero or over four"
refusal Refusal.BurstLength = numbered 33 0 0
