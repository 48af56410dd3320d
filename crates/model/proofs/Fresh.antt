-- A freshly formatted store keeps the invariant, with the device off and the serial run at its start. Assumes nothing.
use Prim.Native.Nat.{ℕ, zero, suc, ◌-◌, ◌≤◌}
use mathlib.Core.Path.{◌≡◌, refl, sym, ap, ◌∙◌}
use mathlib.Core.Logic.{inl}
use mathlib.Core.Bool.{true}
use mathlib.Core.List.{List, [], ◌∷◌}
use native.Mathlib.Nat.{not-suc-le-zero, suc-sub-suc, sub-zero, zero-sub}
use native.Mathlib.Omega.{arith}
use borrow.Author.Tests.{eq-eqb, le-leb}
use lib.Dec.{eqb}
use lib.ListN.{length, take, drop, replicate, length-replicate}
use Rattle.model.proofs.Invariant.{Inv, Waiting}
use Rattle.model.proofs.Kept.{begun_nothing, first_head}
use Rattle.model.proofs.KeptWords.{InvWords}
use Rattle.model.proofs.ProgramLaws.{check-passed}
use Rattle.model.proofs.StoreLaws.{view_at, Sized}
use Rattle.model.proofs.TestLaws.{must-passed, must-true, then_passed, then_first, then_rest}
use Rattle.model.specs.Accepted.{Sound}
use Rattle.model.specs.Device.{off, fresh, begun_of}
use Rattle.model.specs.Program.{word, memory_words}
use Rattle.model.specs.Serial.{given, serial_start}
use Rattle.model.specs.Store.{Store, view, store_mark, store_contents, store_length, control_at, memory_at, log_at, queue_at, formatted, sizes_rule, format_check, format_store, format, store_rule, records_from, distance}
use Rattle.model.specs.Test.{pick, must}
use Rattle.model.specs.Types.{None, Ok, Refusal}

-- ---- zeros

zero-at : (n i : ℕ) → word (replicate n 0) i ≡ 0
zero-at zero i = refl
zero-at (suc n) zero = refl
zero-at (suc n) (suc i) = zero-at n i

drop-zeros : (i n : ℕ) → drop {A = ℕ} i (replicate n 0) ≡ replicate (n - i) 0
drop-zeros zero n = ap (λ (k : ℕ). replicate k 0) (sym (sub-zero n))
drop-zeros (suc i) zero = ap (λ (k : ℕ). replicate k 0) (sym (zero-sub (suc i)))
drop-zeros (suc i) (suc n) = drop-zeros i n ∙ ap (λ (k : ℕ). replicate k 0) (sym (suc-sub-suc n i))

take-zeros : (i n : ℕ) → i ≤ n → take {A = ℕ} i (replicate n 0) ≡ replicate i 0
take-zeros zero n l = refl
take-zeros (suc i) zero l = absurd (not-suc-le-zero l)
take-zeros (suc i) (suc n) l = ap (λ (r : List ℕ). 0 ∷ r) (take-zeros i n (omega arith))

-- ---- the store

module _ (p : List ℕ) (sound : Sound p) (l q : ℕ) (sizes : sizes_rule l q ≡ true) where
  abbrev m : ℕ
  m = memory_words p

  abbrev s : List ℕ
  s = formatted p l q

  sized : Sized m l q s
  unfolding formatted store_contents
  sized =
      record {
        length_is = simp length-replicate (omega arith);
        memory_is = refl;
        pairs_is = refl;
        records_is = refl;
      }

  pub contents : store_rule p s ≡ Ok tt
  unfolding store_rule formatted store_contents
  contents =
      let eight : 8 ≤ length s = omega (arith, sized.length_is) in
      let same : (x : ℕ) → must (eqb x x) Refusal.StoreContents ≡ (Ok tt) = λ x. must-true _ (eq-eqb x x refl) in
      then_passed (must-true Refusal.StoreContents (le-leb _ _ eight))
      (then_passed (same store_mark)
      (then_passed (same m)
      (then_passed (must-true Refusal.StoreContents sizes)
      (then_passed (same control_at)
      (then_passed (same memory_at)
      (then_passed (same (log_at m))
      (then_passed (same (queue_at m l)) (must-true Refusal.StoreContents (eq-eqb _ _ sized.length_is)))))))))

  abbrev v : Store
  v = view_at m l q s

  -- word 10 + i
  behind : (i : ℕ) → word (replicate (store_length m l q - 10) 0) i ≡ 0
  behind i = zero-at (store_length m l q - 10) i

  memory_is : v.memory ≡ replicate m 0
  unfolding formatted store_contents
  memory_is = let r : m ≤ store_length m l q - 10 - 7 = omega arith in ap (take m) (drop-zeros 7 (store_length m l q - 10)) ∙ take-zeros m _ r

  no_record : Waiting p v.queue q 0 0 []
  unfolding records_from distance pick
  no_record =
      record {
        first_in = omega arith;
        tail_in = omega arith;
        same = refl;
        known = tt;
      }

  fresh_inv : Inv p v off (serial_start (given p l q)) 0
  unfolding formatted store_contents serial_start fresh
  fresh_inv =
      inl
      (record {
        held =
            record {
              tasked = record { task_in = sound.rows.contents.entry_is; open_in = inl refl };
              head_in = omega (arith, behind 4);
              begun_in = omega (arith, behind 6);
              waits = rw (first_head v 0 refl refl, behind 4, behind 5) no_record;
            };
        resumes = inl (record { phase_is = refl; memory_is = memory_is; task_is = refl; open_is = behind 0 }, inl (behind 6));
        is_off = refl;
        unmarked = refl;
      })

  pub fresh-words : InvWords p l q s off (serial_start (given p l q)) 0
  fresh-words = record { sized = sized; contents = contents; inv = fresh_inv }

  -- no body is begun
  pub nothing_begun : begun_of (view s) ≡ None
  unfolding formatted store_contents
  nothing_begun = begun_nothing (view s) (behind 6)

-- ---- formatting

pub record Formatted (p : List ℕ) (l q : ℕ) (s : List ℕ) : Type 0 where
  pub sound : Sound p
  pub sizes : sizes_rule l q ≡ true
  pub store_is : format p l q s ≡ formatted p l q

pub format-passed : (p : List ℕ) (l q : ℕ) (s : List ℕ) → format_check p l q s ≡ Ok tt → Formatted p l q s
unfolding format_check format format_store
format-passed p l q s e =
    record {
      sound = check-passed p (then_first _ _ e);
      sizes = must-passed _ _ (then_first _ _ (then_rest _ _ e));
      store_is = rw e;
    }
