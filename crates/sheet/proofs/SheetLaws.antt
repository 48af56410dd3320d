-- Laws of the sheet that is left: bytes fed one after the other, a byte that is held, the end of a line, the end of the schedule; and that the
-- texts are the sheet. Assumes nothing.
use Prim.Native.Nat.{ℕ, ◌+◌, ◌^◌, ◌≤◌, ◌<◌}
use mathlib.Core.Bool.{true, false}
use mathlib.Core.List.{List, [], ◌∷◌, ◌++◌, append_assoc, append-nil}
use mathlib.Core.Logic.{◌⊎◌, inl, inr, ◌≢◌}
use Rattle.std.specs.Prelude.{None, Some, Ok, Err}
use mathlib.Core.Path.{◌≡◌, refl, sym, ap, ◌∙◌, subst}
use native.Mathlib.Numerals.{add-one}
use native.Mathlib.Omega.{arith}
use borrow.Author.Tests.{eq-eqb, ne_eqb}
use lib.ListN.{length, take, length-append}
use lib.Seq.{take-suc}
use Rattle.sheet.proofs.ReachedLaws.{fresh-reached, fresh-length, fresh-format, reached-next}
use Rattle.device.specs.Result.{Result, of_call, of_outcome}
use Rattle.device.specs.declared.CallResult.{CallResult}
use Rattle.image.proofs.ImageLaws.{image_accepted}
use Rattle.image.specs.Image.{program_of}
use Rattle.model.proofs.TestLaws.{pick_true, pick-false, pick_case, same_or, clash, impossible}
use Rattle.model.specs.Calls.{Call, Cut, call}
use Rattle.model.specs.Check.{check}
use Rattle.model.specs.Device.{off, cut}
use Rattle.model.specs.Program.{word}
use Rattle.model.specs.Store.{settled, formatted, format}
use Rattle.model.specs.Test.{pick}
use Rattle.model.specs.Types.{Checked}
use Rattle.model.specs.declared.Device.{Device}
use Rattle.model.specs.declared.Refusal.{Refusal}
use Rattle.sheet.specs.Inside.{TakesByte, EndsLine, HoldsByte, next_number, state_at, after_call}
use Rattle.sheet.specs.Printed.{SheetState, holding, lines_left, left, Reached, Ready, Fits, Begins, Feeds, Piece, all_fed, all_text, FeedsAll, TextsAreTheSheet}
use Rattle.sheet.specs.Sheet.{scheduled, line_feed, last_line, lines_from, header, memory_line, recovered_memory, answer_line, unread_line, other_line, call_line, if_read, sheet_lines, if_checked, sheet}
use Rattle.sheet.specs.declared.State.{State}

-- ---- nothing fed, and bytes behind bytes

pub feeds_nothing : (p : List ℕ) (n : ℕ) (h : SheetState) → Ready p h n → Feeds p n h [] [] h
feeds_nothing p n h ready = record { ready = ready; number = omega arith; text = λ _ more. refl }

pub feeds_then : {p : List ℕ} {n : ℕ} {h k g : SheetState} {fed xs then-fed ys : List ℕ} → Feeds p n h fed xs k → Feeds p n k then-fed ys g
    → Feeds p n h (fed ++ then-fed) (xs ++ ys) g
feeds_then {p} {n} {h} {k} {g} {fed} {xs} {then-fed} {ys} a b =
    let long = length-append fed then-fed in
    record {
      ready = b.ready;
      number = omega (arith, a.number, b.number);
      text =
          λ short more.
          ap (left p h) (append_assoc fed then-fed more)
          ∙ a.text (omega arith) (then-fed ++ more)
          ∙ ap (λ (l : List ℕ). xs ++ l) (b.text (omega (arith, a.number)) more)
          ∙ sym (append_assoc xs ys (left p g more));
    }

-- byte i behind i of them, with the text that it printed
pub feeds_more : (p : List ℕ) (n m : ℕ) (h k g : SheetState) (bytes t u : List ℕ) (i w w' : ℕ) → m ≡ n → i < length bytes
    → Feeds p n h (take i bytes) (take w t) k → TakesByte p m (word bytes i) k t w g u w' → Feeds p n h (take (i + 1) bytes) (take w' u) g
feeds_more p n m h k g bytes t u i w w' e l fed taken =
    let one = subst (λ (x : ℕ). Ready p k x → Feeds p x k (word bytes i ∷ []) taken.printed g) e taken.feeds fed.ready in
    rw (add-one, take-suc bytes i 0, taken.puts.text) (feeds_then fed one)

-- ---- the sheet has ended

ended-lines : (p : List ℕ) (h : SheetState) → h.ended ≡ true → (lines : List (List ℕ)) → lines_left p h lines ≡ []
unfolding lines_left
ended-lines p h e lines = pick_true _ _ e

pub feeds-ended : (p : List ℕ) (n : ℕ) (h : SheetState) → h.ended ≡ true → (fed : List ℕ) → Feeds p n h fed [] h
unfolding left
feeds-ended p n h e fed =
    record {
      ready = λ going. clash e going;
      number = omega arith;
      text = λ _ more. ended-lines p h e _ ∙ sym (ended-lines p h e _);
    }

pub finishes_ended : (p : List ℕ) (h : SheetState) → h.ended ≡ true → left p h [] ≡ []
unfolding left
finishes_ended p h e = ended-lines p h e _

-- ---- the lines of a sheet that goes on

going_lines : (p : List ℕ) (h : SheetState) → h.ended ≡ false → (lines : List (List ℕ)) → lines_left p h lines ≡ sheet_lines p h.store h.device h.number lines
unfolding lines_left
going_lines p h e lines = pick-false _ _ e

-- a line of more than six bytes is unread, whatever it is
long_unread : (line : List ℕ) → 6 < length line → scheduled line ≡ None
unfolding scheduled
long_unread line l =
    let one : length line ≢ 1 = omega arith in
    let six : length line ≢ 6 = omega arith in
    pick-false _ _ (ne_eqb (length line) 1 one) ∙ pick-false _ _ (ne_eqb (length line) 6 six)

unread_lines : (p s : List ℕ) (d : Device) (n : ℕ) (line : List ℕ) (lines : List (List ℕ)) → scheduled line ≡ None
    → sheet_lines p s d n (line ∷ lines) ≡ unread_line n
unfolding sheet_lines if_read
unread_lines p s d n line lines e = rw e

read-lines : (p s : List ℕ) (d : Device) (n : ℕ) (line : List ℕ) (lines : List (List ℕ)) (c : Call) → scheduled line ≡ Some c
    → sheet_lines p s d n (line ∷ lines) ≡ call_line p s d n c ++ sheet_lines p (settled s (call p s d c).write) (call p s d c).device (n + 1) lines
unfolding sheet_lines if_read
read-lines p s d n line lines c e = rw e

some_line : (line : List ℕ) → 0 < length line → last_line line ≡ line ∷ []
unfolding last_line
some_line [] l = absurd (omega arith)
some_line (x ∷ line) l = refl

long_alike : (p s : List ℕ) (d : Device) (n : ℕ) (line line' : List ℕ) → 6 < length line → 6 < length line' → (more : List ℕ)
    → sheet_lines p s d n (lines_from line more) ≡ sheet_lines p s d n (lines_from line' more)
unfolding lines_from
long_alike p s d n line line' l l' [] =
    ap (sheet_lines p s d n) (some_line line (omega arith))
    ∙ unread_lines p s d n line [] (long_unread line l)
    ∙ sym (ap (sheet_lines p s d n) (some_line line' (omega arith)) ∙ unread_lines p s d n line' [] (long_unread line' l'))
long_alike p s d n line line' l l' (byte ∷ more) =
    same_or byte line_feed
    (λ e.
    ap (sheet_lines p s d n) (pick_true _ _ (eq-eqb byte line_feed e))
    ∙ unread_lines p s d n line _ (long_unread line l)
    ∙ sym (ap (sheet_lines p s d n) (pick_true _ _ (eq-eqb byte line_feed e)) ∙ unread_lines p s d n line' _ (long_unread line' l')))
    (λ e.
    ap (sheet_lines p s d n) (pick-false _ _ (ne_eqb byte line_feed e))
    ∙ long_alike p s d n (line ++ (byte ∷ [])) (line' ++ (byte ∷ [])) (omega (arith, length-append line (byte ∷ []))) (omega (arith, length-append line' (byte ∷ []))) more
    ∙ sym (ap (sheet_lines p s d n) (pick-false _ _ (ne_eqb byte line_feed e))))

-- ---- a byte that is held

pub feeds_held : (p : List ℕ) (n byte : ℕ) (h g : SheetState) → h.ended ≡ false → byte ≢ line_feed → Ready p h n → HoldsByte byte h g → Feeds p n h (byte ∷ []) [] g
unfolding left lines_from
feeds_held p n byte h g going other ready holds =
    record {
      ready = λ e. subst (λ (s : List ℕ). Reached p s g.device × (n ≡ length s)) (sym holds.store) (subst (λ (d : Device). Reached p h.store d × (n ≡ length h.store)) (sym holds.device) (ready going));
      number = omega (arith, holds.number);
      text = λ _ more. going_lines p h going _ ∙ ap (sheet_lines p h.store h.device h.number) (pick-false _ _ (ne_eqb byte line_feed other)) ∙ same more holds.line ∙ sym (as_before more);
    }
  where
    as_before : (more : List ℕ) → lines_left p g (lines_from g.line more) ≡ sheet_lines p h.store h.device h.number (lines_from g.line more)
    as_before more =
        going_lines p g (holds.ended ∙ going) _
        ∙ rw (holds.store, holds.device, holds.number)

    same : (more : List ℕ) → (g.line ≡ h.line ++ (byte ∷ [])) ⊎ ((6 < length h.line) × (g.line ≡ h.line))
        → sheet_lines p h.store h.device h.number (lines_from (h.line ++ (byte ∷ [])) more) ≡ sheet_lines p h.store h.device h.number (lines_from g.line more)
    same more (inl e) = rw e
    same more (inr (long, e)) =
        long_alike p h.store h.device h.number (h.line ++ (byte ∷ [])) h.line (omega (arith, length-append h.line (byte ∷ []))) long more
        ∙ rw e

-- ---- the end of a line

pub feeds-line : (p : List ℕ) (n byte : ℕ) (h g : SheetState) (xs : List ℕ) → byte ≡ line_feed → EndsLine p n h xs g → Feeds p n h (byte ∷ []) xs g
unfolding left lines_from
feeds-line p n byte h g xs e ends =
    record {
      ready = ends.ready;
      number = ends.number;
      text =
          λ short more.
          ap (lines_left p h) (pick_true _ _ (eq-eqb byte line_feed e))
          ∙ ends.text short (lines_from [] more)
          ∙ ap (λ (line : List ℕ). xs ++ lines_left p g (lines_from line more)) (sym ends.begun);
    }

-- no line is left
no_lines : (p : List ℕ) (g : SheetState) → lines_left p g [] ≡ []
unfolding lines_left sheet_lines
no_lines p g = pick_case (λ (l : List ℕ). l ≡ []) (λ _. refl) (λ _. refl)

-- the end of the schedule
pub finishes_line : (p : List ℕ) (n : ℕ) (h g : SheetState) (xs : List ℕ) → 0 < length h.line → EndsLine p n h xs g → h.number + 1 < 2 ^ 64 → left p h [] ≡ xs
unfolding left lines_from
finishes_line p n h g xs some_byte ends short =
    ap (lines_left p h) (some_line h.line some_byte) ∙ ends.text short [] ∙ ap (λ (l : List ℕ). xs ++ l) (no_lines p g) ∙ append-nil xs

pub finishes_nothing : (p : List ℕ) (h : SheetState) → h.line ≡ [] → left p h [] ≡ []
unfolding left lines_from last_line
finishes_nothing p h e = ap (λ (line : List ℕ). lines_left p h (last_line line)) e ∙ no_lines p h

next_is : (n : ℕ) → n + 1 < 2 ^ 64 → next_number n ≡ n + 1
unfolding next_number
next_is n short = let differ : n ≢ 0xFFFFFFFFFFFFFFFF = omega arith in pick-false _ _ (ne_eqb n 0xFFFFFFFFFFFFFFFF differ)

next-most : (n : ℕ) → next_number n ≤ n + 1
unfolding next_number
next-most n = pick_case (λ (m : ℕ). m ≤ n + 1) (λ _. omega arith) (λ _. omega arith)

module _ (p : List ℕ) (size : ℕ) (h : SheetState) (going : h.ended ≡ false) (state : State) where
  -- a line that can't be read
  pub ends_unread : (d : Device) (z : List ℕ) → scheduled h.line ≡ None → state ≡ after_call d h.number true → EndsLine p size h (unread_line h.number) (holding state z)
  ends_unread d z unread is =
      rw is
      (record {
        ready = λ e. clash refl e;
        number = next-most h.number;
        begun = refl;
        text =
            λ short lines.
            going_lines p h going _
            ∙ unread_lines p h.store h.device h.number h.line lines unread
            ∙ sym (ap (λ (l : List ℕ). unread_line h.number ++ l) (ended-lines p (holding (after_call d h.number true) z) refl lines) ∙ append-nil (unread_line h.number));
      })

  -- call c
  module _ (reached : Reached p h.store h.device) (sized : size ≡ length h.store) (c : Call) (read : scheduled h.line ≡ Some c) where
    ends-call : (z : List ℕ) (d : Device) (xs : List ℕ) → state ≡ after_call d h.number false → xs ≡ call_line p h.store h.device h.number c
        → z ≡ settled h.store (call p h.store h.device c).write → d ≡ (call p h.store h.device c).device → length z ≡ length h.store
        → EndsLine p size h xs (holding state z)
    unfolding lines_left pick
    ends-call z d xs is line store device long =
        rw is
        (record {
          ready =
              λ _. (
                subst (λ (x : List ℕ). Reached p x d) (sym store) (subst (λ (x : Device). Reached p (settled h.store (call p h.store h.device c).write) x) (sym device) (reached-next p h.store h.device reached c)),
                sized ∙ sym long,
              );
          number = next-most h.number;
          begun = refl;
          text =
              λ short lines.
              let o = call p h.store h.device c in
              going_lines p h going (h.line ∷ lines)
              ∙ read-lines p h.store h.device h.number h.line lines c read
              ∙ ap (λ (l : List ℕ). l ++ sheet_lines p (settled h.store o.write) o.device (h.number + 1) lines) (sym line)
              ∙ ap (λ (x : List ℕ). xs ++ sheet_lines p x o.device (h.number + 1) lines) (sym store)
              ∙ ap (λ (x : Device). xs ++ sheet_lines p z x (h.number + 1) lines) (sym device)
              ∙ ap (λ (n : ℕ). xs ++ sheet_lines p z d n lines) (sym (next_is h.number short));
        })

    pub ends-cut : c ≡ Cut → (xs : List ℕ) → state ≡ after_call off h.number false → xs ≡ memory_line h.number (recovered_memory p h.store) → EndsLine p size h xs (holding state h.store)
    unfolding call_line call cut settled
    ends-cut is xs next line =
        ends-call h.store off xs next (line ∙ ap (call_line p h.store h.device h.number) (sym is))
        (ap (λ (x : Call). settled h.store (call p h.store h.device x).write) (sym is)) (ap (λ (x : Call). (call p h.store h.device x).device) (sym is)) refl

    pub ends_other : (z : List ℕ) (r : CallResult) → of_call r z ≡ of_outcome h.store (call p h.store h.device c) → call_line p h.store h.device h.number c ≡ other_line p h.store h.device h.number c
        → length z ≡ length h.store → state ≡ after_call r.device h.number false
        → EndsLine p size h (answer_line h.number r.answer) (holding state z)
    unfolding other_line
    ends_other z r performs other long next =
        ends-call z r.device _ next
        (ap (λ (x : Result). answer_line h.number x.answer) performs ∙ sym other)
        (ap (λ (x : Result). x.store) performs) (ap (λ (x : Result). x.device) performs) long

-- ---- the beginning

-- only what is accepted is looked at
checked_same : (c : Checked) (x y : List ℕ) → (c ≡ Ok tt → x ≡ y) → if_checked c x ≡ if_checked c y
unfolding if_checked
checked_same (Ok _) x y e = e refl
checked_same (Err r) x y e = refl

pub begins-refused : (c : Checked) (p : List ℕ) (n : ℕ) (xs : List ℕ) (h : SheetState) (r : Refusal) → c ≡ Err r → xs ≡ header ++ if_checked c []
    → h.ended ≡ true → h.number ≡ 1 → Begins c p n xs h
unfolding left
begins-refused c p n xs h r e text ended number =
    record {
      ready = λ going. clash ended going;
      number = number;
      text =
          λ schedule.
          ap (λ (l : List ℕ). header ++ l) (checked_same c _ [] (λ a. impossible (cc)))
          ∙ sym text
          ∙ sym (append-nil xs)
          ∙ ap (λ (l : List ℕ). xs ++ l) (sym (ended-lines p h ended (lines_from h.line schedule)));
    }

pub begins-accepted : (c : Checked) (p s : List ℕ) (n : ℕ) (xs : List ℕ) (state : State) (z : List ℕ) → c ≡ Ok tt → n ≡ length s → Fits c p n → xs ≡ header
    → state ≡ state_at off 1 false → z ≡ format p 1 1 s → Begins c p n xs (holding state z)
unfolding if_checked left lines_left pick
begins-accepted c p s n xs state z e sized fits text is stored =
    let (accepted, long) = fits e in
    let fresh : z ≡ formatted p 1 1 = stored ∙ fresh-format p accepted s (sym sized ∙ long) in
    rw (is, fresh)
    (record {
      ready = λ _. (fresh-reached p accepted, long ∙ sym (fresh-length p accepted));
      number = refl;
      text = λ schedule. rw (e, text);
    })

-- ---- the sheet

feeds_all : (p : List ℕ) (n : ℕ) (h : SheetState) (pieces : List Piece) (g : SheetState) → FeedsAll p n h pieces g → Ready p h n → Feeds p n h (all_fed pieces) (all_text pieces) g
unfolding FeedsAll all_fed all_text
feeds_all p n h [] g e ready = subst (λ (x : SheetState). Feeds p n h [] [] x) e (feeds_nothing p n h ready)
feeds_all p n h (x ∷ xs) g (k, feeds, rest) ready = let fed = feeds ready in feeds_then fed (feeds_all p n k xs g rest fed.ready)

pub texts_are_the_sheet : TextsAreTheSheet
unfolding sheet
texts_are_the_sheet image words loaded loads n sized first h begins pieces g feeds last finishes short =
    let p = take loaded.length words in
    let fits : Fits loaded.checked p n =
    λ e.
    let accepted = ap check (loads.program e) ∙ image_accepted image (sym loads.checked ∙ e) in
    (accepted, sized.enough accepted) in
    let begun = begins fits in
    let fed = feeds_all p n h pieces g feeds begun.ready in
    let number = begun.number in
    let schedule = all_fed pieces in
    sym
    (ap (λ (c : Checked). header ++ if_checked c (sheet_lines (program_of image) (formatted (program_of image) 1 1) off 1 (lines_from [] schedule))) (sym loads.checked)
    ∙ ap (λ (l : List ℕ). header ++ l)
    (checked_same loaded.checked _ _ (λ e. ap (λ (x : List ℕ). sheet_lines x (formatted x 1 1) off 1 (lines_from [] schedule)) (sym (loads.program e))))
    ∙ begun.text schedule
    ∙ ap (λ (l : List ℕ). first ++ left p h l) (sym (append-nil schedule))
    ∙ ap (λ (l : List ℕ). first ++ l) (fed.text (omega (arith, short, number)) [])
    ∙ ap (λ (l : List ℕ). first ++ (all_text pieces ++ l)) (finishes fed.ready (omega (arith, short, number, fed.number)))
    ∙ sym (append_assoc first (all_text pieces) last))
