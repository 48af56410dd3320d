-- `resize` meets its contract. The invariant: behind the words that were there so many are 0. Assumes nothing.
use Rattle.std.proofs.Common.{◌≡◌, ◌≤◌, ◌-◌, max, ◌++◌, length, take, replicate}
use Rattle.machine.proofs.resize.Given as goal

abbrev pub invariant-loop-i : goal.invariant-loop-i
invariant-loop-i l = (l.i ≤ max l.count l.new) × (length l.words ≡ length l.initial.words) × (take l.i l.words ≡ take l.count l.initial.words ++ replicate (l.i - l.count) 0)
