-- What the library promises of a text, and what its inner functions ask of a program. Assumes nothing.
use Rattle.model.specs.Types.{Err, Ok, Result}
use Rattle.model.specs.declared.Refusal.{Refusal}
use Rattle.std.specs.Prelude.{ℕ, ◌≤◌, ◌<◌, List, ◌≡◌, take}
use Rattle.listing.specs.Listing.{listing}
use Rattle.model.specs.Accepted.{HasBody, RowsInside}
use Rattle.model.specs.Check.{check}
use Rattle.model.specs.Program.{bodies, instructions, opcode, code}

-- a program was checked, and printed into the text where the check accepts it: where the text ends, or why it is refused
pub record Lists (p text : List ℕ) (r : Result ℕ Refusal) : Type 0 where
  pub refused : (refusal : Refusal) → r ≡ Err refusal → check p ≡ Err refusal
  pub accepted : (end : ℕ) → r ≡ Ok end → check p ≡ Ok tt
  pub listed : (end : ℕ) → r ≡ Ok end → take end text ≡ listing p
  pub inside : (end : ℕ) → r ≡ Ok end → end ≤ 524288

-- body i is there, with opcodes that have names
pub record PrintableBody (p : List ℕ) (i : ℕ) : Type 0 where
  pub body : HasBody p i
  pub known : (j : ℕ) → j < instructions p i → opcode (code p i j) ≤ 16

pub record Printable (p : List ℕ) : Type 0 where
  pub rows : RowsInside p
  pub body : (i : ℕ) → i < bodies p → PrintableBody p i
