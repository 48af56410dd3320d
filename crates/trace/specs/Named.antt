-- Which name of a call a number stands for. Assumes nothing.
use Rattle.std.specs.Prelude.{ℕ, ◌+◌, ◌-◌, ◌≤◌, ◌≡◌, Option, Some, None}
use Rattle.script.specs.Reads.{number_of}
use Rattle.script.specs.declared.names.Name.{Name}

-- a number from 1 on is its name's, 0 stands for the first name as well, and one behind the last name's for none
abbrev pub IsNamed : ℕ → Option Name → Type 0
IsNamed kind None = 22 ≤ kind
IsNamed kind (Some name) = number_of name ≡ kind - 1 + 1
