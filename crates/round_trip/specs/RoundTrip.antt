-- docs/ASSEMBLY.md: "`assemble` of what `disassemble` prints gives the same words, for every program that the check accepts". Assumes nothing.
use Rattle.model.specs.Types.{Ok, Result}
use Rattle.model.specs.declared.Refusal.{Refusal}
use Rattle.std.specs.Prelude.{ℕ, List, ◌≡◌, take}
use Rattle.assembly.specs.Assembles.{Assembles, assemble_mistake, assembled}
use Rattle.assembly.specs.Mistakes.{mistake_at}
use Rattle.assembly.specs.declared.Mistake.{Mistake}
use Rattle.listing.specs.Listing.{listing}
use Rattle.listing.specs.Lists.{Lists}
use Rattle.model.specs.Check.{check}

-- of the definitions: the text that is printed has no mistake, and its words are the program
abbrev pub RoundTrip : Type 0
RoundTrip = (p : List ℕ) → check p ≡ Ok tt → (assemble_mistake (listing p) ≡ mistake_at 0 0) × (assembled (listing p) ≡ p)

-- of the two libraries, from their promises alone: what disassemble left of a text, assemble made into words
abbrev pub LibrariesRoundTrip : Type 0
LibrariesRoundTrip =
    (p text left : List ℕ) (listed : Result ℕ Refusal) (made : Result ℕ Mistake)
    → check p ≡ Ok tt
    → Lists p text listed
    → ((end : ℕ) → listed ≡ Ok end → Assembles (take end text) left made)
    → (count : ℕ) × (made ≡ Ok count) × (take count left ≡ p)
