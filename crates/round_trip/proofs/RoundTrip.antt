-- A program that is printed and read again is the same: its text is read as the lines that are expected, and these are assembled to its words. Assumes nothing.
use Rattle.model.specs.Types.{Err, Ok, Result}
use Prim.Native.Nat.{ℕ}
use mathlib.Core.List.{List}
use mathlib.Core.Path.{◌≡◌, refl, ap, ◌∙◌}
use lib.ListN.{length, take}
use Rattle.assembly.proofs.MistakeLaws.{some_kind}
use Rattle.assembly.specs.Assembles.{Assembles, assemble_mistake, assembled}
use Rattle.assembly.specs.Mistakes.{MistakeNumbers, mistake_at, mistake_numbers}
use Rattle.assembly.specs.Rules.{lines_mistake}
use Rattle.assembly.specs.Words.{words}
use Rattle.assembly.specs.declared.Mistake.{Mistake}
use Rattle.listing.specs.Listing.{listing}
use Rattle.model.proofs.TestLaws.{impossible, pick_true}
use Rattle.model.specs.Check.{check}
use Rattle.round_trip.proofs.Assembling.{words_are, lines_free}
use Rattle.round_trip.proofs.Reading.{lines_of_listing, count_of_listing, listing-fits}
use Rattle.round_trip.specs.Expected.{expected, flat}
use Rattle.round_trip.specs.RoundTrip.{RoundTrip, LibrariesRoundTrip}
use Rattle.tokens.specs.Tokens.{lines, line_count}

-- what is made of the lines that are read is what is made of the expected ones
through : {A : Type 0} (f : List ℕ → ℕ → A) (p : List ℕ) → check p ≡ Ok tt
    → f (lines (listing p)) (line_count (listing p)) ≡ f (flat (expected p)) (length (expected p))
through f p passed =
    ap (λ (room : List ℕ). f room (line_count (listing p))) (lines_of_listing p passed) ∙ ap (f (flat (expected p))) (count_of_listing p passed)

pub round_trip : RoundTrip
unfolding assemble_mistake assembled
round_trip p passed =
    (pick_true _ _ (listing-fits p passed) ∙ through lines_mistake p passed ∙ lines_free p passed, through words p passed ∙ words_are p passed)

-- an answer without a mistake is one with words
free : {text : List ℕ} (p left : List ℕ) (made : Result ℕ Mistake) → Assembles text left made → mistake_numbers made ≡ mistake_at 0 0 → assembled text ≡ p
    → (count : ℕ) × (made ≡ Ok count) × (take count left ≡ p)
free p left (Ok count) promised none same = (count, refl, promised.made count refl ∙ same)
free p left (Err m) promised none same = absurd (some_kind m.kind (ap (λ (n : MistakeNumbers). n.number) none))

pub libraries_round_trip : LibrariesRoundTrip
libraries_round_trip p text left (Ok end) made passed lists assembles =
    let text-is = lists.listed end refl in
    let promised = assembles end refl in
    free p left made promised (promised.mistake ∙ ap assemble_mistake text-is ∙ (round_trip p passed).0) (ap assembled text-is ∙ (round_trip p passed).1)
libraries_round_trip p text left (Err refusal) made passed lists assembles = let refused = lists.refused refusal refl in impossible (cc)
