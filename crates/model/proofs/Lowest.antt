-- N2: the first broken rule of 7 is the lowest, since the rules stand in the order of their words; and no two words are the lowest. All of it
-- rests on the rules alone (specs/Control.antt). Assumes nothing.
use Prim.Native.Nat.{ℕ, zero, suc, ◌+◌, ◌*◌, ◌≤◌}
use mathlib.Core.Path.{◌≡◌, refl, sym, subst, ap, ◌∙◌}
use mathlib.Core.Logic.{◌⊎◌, inl, inr, ⊎_elim}
use mathlib.Core.Bool.{Bool, true, false, not}
use mathlib.Core.List.{List, [], ◌∷◌, ◌++◌}
use native.Mathlib.Nat.{le_refl}
use native.Mathlib.Omega.{arith}
use Rattle.model.proofs.TestLaws.{pick_case, clash, impossible}
use Rattle.model.specs.Claims.{Among, LowestBroken, FirstLowest, LowestIsOne, NamesLowest, FirstIsLowest}
use Rattle.model.specs.Control.{Rule, broken, obey, obey_all, up_to, phase_rule, task_rule, open_rule, open_serving, count_rule, pending_task_rule, pending_head_rule, pending_move_rule, pending_open_rule, head_rule, tail_rule, begun_rule, begun_event_rule, address_rule, record_rule, control_rules, rules, early_of, early_rules}
use Rattle.model.specs.Program.{memory_words}
use Rattle.model.specs.Store.{Store, log_at, queue_at, store_length}
use Rattle.model.specs.Test.{must, ◌then◌, in_turn}
use Rattle.model.specs.Types.{Checked, Err, Refusal}

-- ---- rules in the order of their words

-- words a at least and b at most, none below the one before it
abbrev Rising : ℕ → ℕ → List Rule → Type 0
Rising a b [] = a ≤ b
Rising a b (r ∷ rs) = (a ≤ r.word) × Rising r.word b rs

rising_from : (a b c : ℕ) (rs : List Rule) → a ≤ b → Rising b c rs → Rising a c rs
rising_from a b c [] l h = omega arith
rising_from a b c (r ∷ rs) l (h, t) = (omega arith, t)

rising_append : (a b c : ℕ) (rs ss : List Rule) → Rising a b rs → Rising b c ss → Rising a c (rs ++ ss)
rising_append a b c [] ss l h = rising_from a b c ss l h
rising_append a b c (r ∷ rs) ss (l, t) h = (l, rising_append r.word b c rs ss t h)

rising_up_to : (f : ℕ → Rule) (a : ℕ) → ((i : ℕ) → (f i).word ≡ a + 2 * i) → (n : ℕ) → Rising a (a + 2 * n) (up_to f n)
unfolding up_to
rising_up_to f a is zero = omega arith
rising_up_to f a is (suc n) =
    rising_append a (a + 2 * n) (a + 2 * suc n) (up_to f n) (f n ∷ []) (rising_up_to f a is n) (omega (arith, is n), omega (arith, is n))

rising_early : (a b : ℕ) (rs : List Rule) → Rising a b rs → Rising a b (early_of rs)
unfolding early_of
rising_early a b [] h = h
rising_early a b (r ∷ rs) (l, t) =
    let later = rising_early r.word b rs t in
    pick_case (Rising a b) (λ _. (l, later)) (λ _. rising_from a r.word b (early_of rs) l later)

rising_above : (a b : ℕ) (rs : List Rule) → Rising a b rs → (r : Rule) → Among r rs → a ≤ r.word
rising_above a b [] h r m = absurd m
rising_above a b (x ∷ xs) (l, t) r (inl e) = subst (λ (y : Rule). a ≤ y.word) (sym e) l
rising_above a b (x ∷ xs) (l, t) r (inr m) = omega (arith, l, rising_above x.word b xs t r m)

-- ---- what a row of rules meets

-- the first of them is broken, or the others answer
met : (b : Bool) (u w : ℕ) (c : Checked) → (must (not b) (Refusal.Control u) then c) ≡ Err (Refusal.Control w)
    → ((b ≡ true) × (u ≡ w)) ⊎ ((b ≡ false) × (c ≡ Err (Refusal.Control w)))
unfolding must in_turn
met true u w c e = inl (refl, cc)
met false u w c e = inr (refl, e)

-- the lowest of a row is that of its rest, if the first rule isn't broken
lowest-behind : (r : Rule) (rs : List Rule) (w : ℕ) → broken r ≡ false → LowestBroken rs w → LowestBroken (r ∷ rs) w
lowest-behind r rs w isn't h =
    record {
      rule = h.rule;
      among = inr h.among;
      is_broken = h.is_broken;
      word_is = h.word_is;
      lowest = λ x m is. ⊎_elim (λ q. clash is (ap broken q ∙ isn't)) (λ n. h.lowest x n is) m;
    }

lowest-first : (a b : ℕ) (rs : List Rule) → Rising a b rs → NamesLowest rs
unfolding obey_all obey
lowest-first a b [] h w e = impossible (cc)
lowest-first a b (r ∷ rs) (l, t) w e =
    ⊎_elim
    (λ (is, q).
    record {
      rule = r;
      among = inl refl;
      is_broken = is;
      word_is = q;
      lowest = λ x m _. subst (λ (n : ℕ). n ≤ x.word) q (rising_above r.word b (r ∷ rs) (le_refl _, t) x m);
    })
    (λ (isn't, f). lowest-behind r rs w isn't (lowest-first r.word b rs t w f)) (met (broken r) r.word w (obey_all rs) e)

-- ---- 7's rules

module _ (p : List ℕ) (v : Store) where
  control_rise : Rising 8 (log_at (memory_words p)) (control_rules p v)
  unfolding control_rules phase_rule task_rule open_rule open_serving count_rule pending_task_rule pending_head_rule pending_move_rule pending_open_rule head_rule tail_rule begun_rule begun_event_rule
  control_rise = (omega arith, (omega arith, (omega arith, (omega arith, (omega arith, (omega arith, (omega arith, (omega arith, (omega arith, (omega arith, (omega arith, (omega arith, (omega arith, omega arith)))))))))))))

  abbrev end : ℕ
  end = store_length (memory_words p) v.log_pairs v.queue_records

  rules_rise : Rising 8 end (rules p v)
  unfolding rules address_rule record_rule
  rules_rise =
      let log = log_at (memory_words p) in
      let queue = queue_at (memory_words p) v.log_pairs in
      let addresses = up_to (address_rule p v) v.log_pairs in
      rising_append 8 queue end (control_rules p v ++ addresses) (up_to (record_rule p v) (v.queue_records + 1))
      (rising_append 8 log queue (control_rules p v) addresses control_rise (rising_up_to (address_rule p v) log (λ i. refl) v.log_pairs))
      (rising_up_to (record_rule p v) queue (λ u. refl) (v.queue_records + 1))

pub first_is_lowest : FirstIsLowest
unfolding early_rules
first_is_lowest p v = (
  lowest-first 8 (end p v) (rules p v) (rules_rise p v),
  lowest-first 8 (end p v) (early_rules p v) (rising_early 8 (end p v) (rules p v) (rules_rise p v)),
)

-- ---- one lowest word

one-lowest : (rs : List Rule) (w x : ℕ) → LowestBroken rs w → LowestBroken rs x → w ≡ x
one-lowest rs w x a b =
    omega (arith, a.lowest b.rule b.among b.is_broken, b.word_is, b.lowest a.rule a.among a.is_broken, a.word_is)

pub lowest_is_one : LowestIsOne
unfolding FirstLowest
lowest_is_one [] w x a b = absurd a
lowest_is_one (rs ∷ later) w x (inl a) (inl b) = one-lowest rs w x a b
lowest_is_one (rs ∷ later) w x (inl a) (inr (n, b)) = clash a.is_broken (n a.rule a.among)
lowest_is_one (rs ∷ later) w x (inr (n, a)) (inl b) = clash b.is_broken (n b.rule b.among)
lowest_is_one (rs ∷ later) w x (inr (n, a)) (inr (m, b)) = lowest_is_one later w x a b
