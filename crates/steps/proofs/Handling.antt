-- A handler's step as an equation: a word of its burst goes to the ring, or tail is stored. Assumes nothing.
use Rattle.model.specs.declared.Record.{Record}
use Rattle.model.specs.Types.{Option}
use Prim.Native.Nat.{ℕ, ◌+◌, ◌*◌, ◌≤◌, ◌<◌}
use mathlib.Core.List.{List}
use mathlib.Core.Path.{◌≡◌, ap, ◌∙◌}
use native.Mathlib.Omega.{arith}
use lib.ListN.{length}
use Rattle.model.proofs.BurstLaws.{carried-length}
use Rattle.model.proofs.FirstStores.{storing_goes, storing-ends}
use Rattle.model.proofs.RingLaws.{record_stores_lem, tail-store, word-store}
use Rattle.model.specs.Accepted.{AttendsTo}
use Rattle.model.specs.Burst.{carried}
use Rattle.model.specs.Device.{out, record_stores, with_handler, resting, handler_step}
use Rattle.model.specs.Program.{word}
use Rattle.model.specs.Store.{Store, Tail, Write, to, forward, ring_word}
use Rattle.model.specs.declared.Answer.{Answer}
use Rattle.model.specs.declared.Device.{Device}
use Rattle.model.specs.declared.Handler.{Handler}

module _ (v : Store) (d : Device) (n c : ℕ) (later : Handler) (dropped : Option Record) where
  abbrev stores : List Write
  stores = record_stores v.queue_records v.tail (carried d.burst n)

  many : length stores ≡ 2 * n + 1
  many = record_stores_lem v.queue_records (carried d.burst n) v.tail ∙ ap (λ (k : ℕ). 2 * k + 1) (carried-length d.burst 0 n)

  pub word-stored : c < 2 * n
      → handler_step v d n c later dropped ≡ out (to (ring_word v.queue_records v.tail c) (word d.burst c)) (with_handler d later d.burst) Answer.Stored
  unfolding handler_step
  word-stored l =
      let first : 2 * 0 + c ≡ c = omega arith in
      storing_goes stores c _ _ _ (omega (arith, many))
      ∙ ap (λ (w : Write). out w (with_handler d later d.burst) Answer.Stored)
      (word-store d.burst v.queue_records n 0 v.tail c l ∙ ap (λ (k : ℕ). to (ring_word v.queue_records v.tail c) (word d.burst k)) first)

  pub tail-stored : c ≡ 2 * n → handler_step v d n c later dropped ≡ out (to Tail (forward v.queue_records v.tail n)) (resting d) (Answer.Accepted dropped)
  unfolding handler_step
  tail-stored e =
      let as_many = carried-length d.burst 0 n in
      storing-ends stores c _ _ _ (omega (arith, many))
      ∙ ap (λ (w : Write). out w (resting d) (Answer.Accepted dropped))
      (tail-store v.queue_records (carried d.burst n) v.tail c (omega (arith, as_many)) ∙ ap (λ (k : ℕ). to Tail (forward v.queue_records v.tail k)) as_many)

-- a handler at work on n records, c of whose stores are made
pub bounds : (p : List ℕ) (q h t c : ℕ) (ws : List ℕ) (n : ℕ) → AttendsTo p q h t c (carried ws n) → (n ≤ q) × (n ≤ 4) × (c ≤ 2 * n)
bounds p q h t c ws n a =
    let as_many = carried-length ws 0 n in
    let stores = record_stores_lem q (carried ws n) t in
    (omega (arith, a.room, as_many), omega (arith, a.most, as_many), omega (arith, a.inside, stores, as_many))
