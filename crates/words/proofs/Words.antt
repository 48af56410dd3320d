-- The words of a device state are its own: `back`, `forth`, `other` and `set_to_work_lem`, stated in specs/Words.antt. Assumes nothing.
use Prim.Native.Nat.{ℕ, ◌*◌, ◌≤◌}
use mathlib.Core.Bool.{Bool, true, false}
use mathlib.Core.List.{List, ◌∷◌, ◌++◌}
use mathlib.Core.Path.{◌≡◌, refl, sym, ap, subst, ◌∙◌}
use lib.Dec.{leb}
use lib.ListN.{length}
use Rattle.model.proofs.TestLaws.{and_left, and_right, clash}
use Rattle.words.proofs.Parts.{spelt, spelt_all, place_spelt, handler_spelt}
use Rattle.words.proofs.Parts.{flag_is, flag_back, flag_forth, place_is, place_back, place_forth}
use Rattle.words.proofs.Parts.{handler_is, handler_back, handler_forth, handler-length, length-read, records_are, zero-behind}
use Rattle.model.specs.Device.{with_handler}
use Rattle.model.specs.Program.{word}
use Rattle.model.specs.Test.{pick, both}
use Rattle.model.specs.declared.Device.{Device}
use Rattle.model.specs.declared.Handler.{Handler}
use Rattle.words.specs.Words.{Read, flag, place_words, handler_words, device_words, with_burst}
use Rattle.words.specs.Words.{is_place, is_handler, known, unknown, is_state, state_of, device_of, HasWords, Back, Forth, Other, SetToWork}

-- ---- back

-- 26 words, each written out, with those of its place and its handler
abbrev pub written_with : Device → ℕ → List ℕ → List ℕ → List ℕ
written_with d on place handler = on ∷ (spelt d.registers 0 8 ++ (spelt place 0 5 ++ (d.count ∷ (spelt handler 0 3 ++ spelt d.burst 0 8))))

abbrev written : Device → List ℕ
written d = written_with d (flag d.on) (place_words d.place) (handler_words d.handler)

pub written_all : (d : Device) → device_words d ≡ written d
unfolding device_words spelt
written_all d = sym (simp (place_spelt, handler_spelt))

pub back : Back
unfolding device_of is_state state_of spelt pick both
back d h =
    rw (written_all d)
    (simp (
      flag_is,
      flag_back,
      place_is,
      place_back,
      handler_is,
      handler_back,
      records_are (word (handler_words d.handler) 1) d.burst (λ i l. h.unused i (subst (λ (n : ℕ). 2 * n ≤ i) (handler-length d.handler) l)),
      spelt_all d.registers 8 h.registers,
      spelt_all d.burst 8 h.burst,
    ))

-- ---- forth

state_forth : (w : List ℕ) → length w ≡ 26 → is_state w ≡ true → device_words (state_of w) ≡ w
unfolding device_words is_state state_of spelt
state_forth w h e =
    let on = leb (word w 0) 1 in
    let place = is_place (word w 9) (word w 10) (word w 11) (word w 12) (word w 13) in
    let handler = is_handler (word w 15) (word w 16) (word w 17) in
    let rest = and_right on _ e in
    simp (
      flag_forth (word w 0) (and_left on _ e),
      place_forth (word w 9) (word w 10) (word w 11) (word w 12) (word w 13) (and_left place _ rest),
      handler_forth (word w 15) (word w 16) (word w 17) (and_left handler _ (and_right place _ rest)),
    )
    (spelt_all w 26 h)

pub forth : Forth
unfolding device_of pick
forth w d h e = go (is_state w) refl
  where
    go : (b : Bool) → is_state w ≡ b → device_words d ≡ w
    go true t =
        let k : known (state_of w) ≡ known d = rw t at e in
        rw (sym (ap (λ (r : Read). r.device) k)) (state_forth w h t)
    go false t =
        let k : unknown ≡ known d = rw t at e in
        clash refl (sym (ap (λ (r : Read). r.found) k))

state_has : (w : List ℕ) → is_state w ≡ true → HasWords (state_of w)
unfolding is_state state_of
state_has w e =
    record {
      registers = refl;
      burst = refl;
      unused =
          λ i l.
          let rest = and_right _ _ (and_right _ _ e) in
          let length_is = length-read (word w 15) (word w 16) (word w 17) (and_left _ _ rest) in
          zero-behind (word w 16) w (and_right _ _ rest) i (subst (λ (n : ℕ). 2 * n ≤ i) length_is l);
    }

pub other : Other
unfolding device_of state_of pick
other w h apart = go (is_state w) refl
  where
    go : (b : Bool) → is_state w ≡ b → device_of w ≡ unknown
    go true t = absurd (apart (state_of w) (state_has w t) (state_forth w h t))
    go false t = simp t

-- ---- set to work

-- the words with another handler, each written out
abbrev pub handled_with : List ℕ → List ℕ → List ℕ → List ℕ
handled_with w handler b = spelt w 0 15 ++ (spelt handler 0 3 ++ spelt b 0 8)

handled-all : (w : List ℕ) (h : Handler) (b : List ℕ) → with_burst w h b ≡ handled_with w (handler_words h) b
unfolding with_burst spelt
handled-all w h b = sym (simp handler_spelt)

pub handled_is : (w : List ℕ) (h : Handler) (words b : List ℕ) → words ≡ handler_words h → handled_with w words b ≡ with_burst w h b
handled_is w h words b e = ap (λ (hw : List ℕ). handled_with w hw b) e ∙ sym (handled-all w h b)

pub set_to_work_lem : SetToWork
unfolding device_words with_burst with_handler handler_words is_state state_of
set_to_work_lem w h b e =
    let on = leb (word w 0) 1 in
    let place = is_place (word w 9) (word w 10) (word w 11) (word w 12) (word w 13) in
    let rest = and_right on _ e in
    simp (
      flag_forth (word w 0) (and_left on _ e),
      place_forth (word w 9) (word w 10) (word w 11) (word w 12) (word w 13) (and_left place _ rest),
    )
