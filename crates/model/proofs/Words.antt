-- Words stay words: where all words of program, store, device state and call are below 2 to the 16, so are those of the store
-- and the device after the call, and the store keeps its length; formatting's words, too. First what an instruction computes, then
-- a line for each case of a step (`Made` of DeviceLaws). Assumes nothing.
use Prim.Native.Nat.{ℕ, zero, suc, ◌+◌, ◌-◌, ◌*◌, ◌^◌, ◌≤◌, ◌<◌}
use mathlib.Core.Path.{◌≡◌, refl, subst, ◌∙◌}
use mathlib.Core.Bool.{Bool, true, false}
use mathlib.Core.List.{List, [], ◌∷◌, ◌++◌}
use native.Mathlib.Nat.{div-le_self}
use native.Mathlib.Omega.{arith}
use borrow.Author.Tests.{leb-true}
use lib.Bits.{and_lt, or_lt, xor_lt}
use lib.IntN.{ℤ}
use lib.ListN.{length, get_or, take, drop, set, replicate, length-set}
use lib.Seq.{get_or-drop}
use lib.Signed.{shr_z}
use Rattle.model.proofs.BurstLaws.{burst-passed, set_to_work_length}
use Rattle.model.proofs.DeviceLaws.{judged_case, at_place, most-last, Commits, Acts, RunsAt, HandlerMade, record_made, tail_made, Made, handler, commit_copy, commit_task, commit_open, commit_head, commit_begun, commit_phase, chosen_event, chosen_task, computed, jumped, loaded, overwritten, half_saved, saved, go_count, go_pending, go_open, go_phase, done_count, done_pending, done_phase, StepOutcome, refused, made, step_outcome, Works, works_storing, works_replacing, head_dropped}
use Rattle.model.proofs.Fresh.{format-passed}
use Rattle.model.proofs.RingLaws.{slot_after_le, forward_le, Member, here, there, RecordStore, event_store, datum_store, record_stores_lem}
use Rattle.model.proofs.Passed.{body-passed}
use Rattle.model.proofs.TestLaws.{pick_case, and_left, and_right, must-passed, then_first, then_rest}
use Rattle.model.specs.Accepted.{Looked, Sound}
use Rattle.model.specs.Burst.{records_at, carried, record_words, no_burst, burst_words}
use Rattle.model.specs.Calls.{Call, Boot, Step, Cut, Post, call}
use Rattle.model.specs.Claims.{TypedWords, TypedBody, TypedPlace, TypedHandler, ZeroBehind, TypedDevice, TypedRecords, TypedCall, WordsStayWords, FormatStaysWords}
use Rattle.model.specs.Device.{Outcome, judged, fresh, turned_on, with_place, with_handler, kind_of, current_task, oldest_event, begun_of, data_for, started, taken_up, boot, cut, post_check, post, burst_length, choosing, shown, step, set_to_work}
use Rattle.model.specs.Program.{word, memory_words, transaction, body_number, operand, instruction_table, decode, signed, unsigned, shifted, reg, effect, effect_at, new_open}
use Rattle.model.specs.Store.{Store, view, slot, slot_after, memory_at, log_at, queue_at, index, Write, none, to, settled, store_mark, store_contents, store_length, sizes_rule, formatted, format_check, format_store, format}
use Rattle.model.specs.Types.{Body, Checked, Device, Effect, Err, Free, Handler, Instruction, None, Ok, Option, Place, Record, Replacing, Resting, Run, Some}

-- ---- lists of words

pub words-set : (s : List ℕ) (i x : ℕ) → TypedWords s → x < 2 ^ 16 → TypedWords (set s i x)
words-set [] i x ws h j = ws j
words-set (y ∷ s) zero x ws h zero = h
words-set (y ∷ s) zero x ws h (suc j) = ws (suc j)
words-set (y ∷ s) (suc i) x ws h zero = ws zero
words-set (y ∷ s) (suc i) x ws h (suc j) = words-set s i x (λ n. ws (suc n)) h j

pub words_take : (n : ℕ) (s : List ℕ) → TypedWords s → TypedWords (take n s)
words_take zero s ws i = omega arith
words_take (suc n) [] ws i = omega arith
words_take (suc n) (y ∷ s) ws zero = ws zero
words_take (suc n) (y ∷ s) ws (suc i) = words_take n s (λ k. ws (suc k)) i

-- a part of a store
pub words_part : (n a : ℕ) (s : List ℕ) → TypedWords s → TypedWords (take n (drop a s))
words_part n a s ws = words_take n (drop a s) (λ i. rw get_or-drop (ws (a + i)))

words-zeros : (n : ℕ) → TypedWords (replicate n 0)
words-zeros zero i = omega arith
words-zeros (suc n) zero = omega arith
words-zeros (suc n) (suc i) = words-zeros n i

words_cons : (x : ℕ) (s : List ℕ) → x < 2 ^ 16 → TypedWords s → TypedWords (x ∷ s)
words_cons x s h ws zero = h
words_cons x s h ws (suc i) = ws i

-- what holds of each element, and of the default past the end, holds of what is read
module _ {A : Type 0} (P : A → Type 0) where
  abbrev Every : List A → Type 0
  Every [] = Unit {0}
  Every (x ∷ xs) = P x × Every xs

  every_at : (xs : List A) (n : ℕ) (d : A) → Every xs → P d → P (get_or xs n d)
  every_at [] n d es past = past
  every_at (x ∷ xs) zero d es past = es.0
  every_at (x ∷ xs) (suc n) d es past = every_at xs n d es.1 past

-- ---- what an instruction computes

abbrev TypedInstruction : Instruction → Type 0
TypedInstruction (Instruction.Set a k) = k < 2 ^ 16
TypedInstruction (Instruction.Move a b) = Unit {0}
TypedInstruction (Instruction.Add a b) = Unit {0}
TypedInstruction (Instruction.Sub a b) = Unit {0}
TypedInstruction (Instruction.And a b) = Unit {0}
TypedInstruction (Instruction.Or a b) = Unit {0}
TypedInstruction (Instruction.Xor a b) = Unit {0}
TypedInstruction (Instruction.Shift a k) = Unit {0}
TypedInstruction (Instruction.Load a k) = Unit {0}
TypedInstruction (Instruction.Save a k) = Unit {0}
TypedInstruction (Instruction.LoadX a b k) = Unit {0}
TypedInstruction (Instruction.SaveX a b k) = Unit {0}
TypedInstruction (Instruction.Jump k) = k < 2 ^ 16
TypedInstruction (Instruction.JumpZero a k) = k < 2 ^ 16
TypedInstruction (Instruction.JumpLess a b k) = k < 2 ^ 16
TypedInstruction (Instruction.Go k) = k < 2 ^ 16
TypedInstruction Instruction.Done = Unit {0}
TypedInstruction Instruction.Unknown = Unit {0}

decode-words : (op a b k : ℕ) → k < 2 ^ 16 → TypedInstruction (decode op a b k)
unfolding decode
decode-words op a b k h = every_at TypedInstruction (instruction_table a b k) op Instruction.Unknown (omega arith) tt

-- an address may be above: it is compared with M
abbrev pub TypedEffect : Effect → Type 0
TypedEffect (Effect.Compute a x) = x < 2 ^ 16
TypedEffect (Effect.Jump k) = k < 2 ^ 16
TypedEffect (Effect.Load a x) = Unit {0}
TypedEffect (Effect.Save x y) = y < 2 ^ 16
TypedEffect (Effect.EndTask k) = k < 2 ^ 16
TypedEffect Effect.EndEvent = Unit {0}
TypedEffect Effect.Unknown = Unit {0}

pub shifted_lt : (x k : ℕ) → x < 2 ^ 16 → shifted x k < 2 ^ 16
unfolding shifted signed unsigned
shifted_lt x k h =
    pick_case (λ (z : ℤ). unsigned (shr_z z (2 ^ k)) < 2 ^ 16) (λ _. omega (arith, div-le_self x (2 ^ k))) (λ _. omega arith)

effect_words : (r : List ℕ) (j : ℕ) → TypedWords r → j + 1 < 2 ^ 16 → (x : Instruction) → TypedInstruction x → TypedEffect (effect x r j)
unfolding effect
effect_words r j ws l (Instruction.Set a k) h = h
effect_words r j ws l (Instruction.Move a b) h = ws b
effect_words r j ws l (Instruction.Add a b) h = omega arith
effect_words r j ws l (Instruction.Sub a b) h = omega arith
effect_words r j ws l (Instruction.And a b) h = and_lt 16 (reg r a) (reg r b) (ws a) (ws b)
effect_words r j ws l (Instruction.Or a b) h = or_lt 16 (reg r a) (reg r b) (ws a) (ws b)
effect_words r j ws l (Instruction.Xor a b) h = xor_lt 16 (reg r a) (reg r b) (ws a) (ws b)
effect_words r j ws l (Instruction.Shift a k) h = shifted_lt (reg r a) k (ws a)
effect_words r j ws l (Instruction.Load a k) h = tt
effect_words r j ws l (Instruction.Save a k) h = ws a
effect_words r j ws l (Instruction.LoadX a b k) h = tt
effect_words r j ws l (Instruction.SaveX a b k) h = ws a
effect_words r j ws l (Instruction.Jump k) h = h
effect_words r j ws l (Instruction.JumpZero a k) h = pick_case (λ (n : ℕ). n < 2 ^ 16) (λ _. h) (λ _. l)
effect_words r j ws l (Instruction.JumpLess a b k) h = pick_case (λ (n : ℕ). n < 2 ^ 16) (λ _. h) (λ _. l)
effect_words r j ws l (Instruction.Go k) h = h
effect_words r j ws l Instruction.Done h = tt
effect_words r j ws l Instruction.Unknown h = tt

pub effect_at-words : (p : List ℕ) (i j : ℕ) (r : List ℕ) → TypedWords p → TypedWords r → j + 1 < 2 ^ 16 → TypedEffect (effect_at p i j r)
unfolding effect_at
effect_at-words p i j r ps rs l = effect_words r j rs l _ (decode-words _ _ _ (operand p i j) (ps _))

-- ---- outcomes

abbrev pub TypedWrite : Write → Type 0
TypedWrite none = Unit {0}
TypedWrite (to w x) = x < 2 ^ 16

-- the records that a handler keeps
carried-words : (ws : List ℕ) → TypedWords ws → (i n : ℕ) (r : Record) → Member r (records_at ws i n) → (r.event < 2 ^ 16) × (r.datum < 2 ^ 16)
unfolding records_at slot
carried-words ws h i zero r m = elim m [ ]
carried-words ws h i (suc n) r here = (h (2 * i), h (2 * i + 1))
carried-words ws h i (suc n) r (there m) = carried-words ws h (suc i) n r m

-- the words in which it keeps those of a post
record_words_lem : (rs : List Record) → TypedRecords rs → TypedWords (record_words rs ++ no_burst)
unfolding record_words
record_words_lem [] h = words-zeros 8
record_words_lem (r ∷ rs) (a, b, h) =
    let ws = record_words rs ++ no_burst in
    words_cons r.event (r.datum ∷ ws) a (words_cons r.datum ws b (record_words_lem rs h))

burst-words : (rs : List Record) → TypedRecords rs → TypedWords (burst_words rs)
unfolding burst_words
burst-words rs h = words_part 8 0 (record_words rs ++ no_burst) (record_words_lem rs h)

burst-length : (rs : List Record) → length rs ≤ 4 → length (burst_words rs) ≡ 8
unfolding burst_words record_words
burst-length [] l = refl
burst-length (a ∷ []) l = refl
burst-length (a ∷ b ∷ []) l = refl
burst-length (a ∷ b ∷ c ∷ []) l = refl
burst-length (a ∷ b ∷ c ∷ d ∷ []) l = refl
burst-length (a ∷ b ∷ c ∷ d ∷ e ∷ rs) l = absurd (omega arith)

zeros-at : (k n i : ℕ) → word (take k (replicate n 0)) i ≡ 0
zeros-at zero n i = refl
zeros-at (suc k) zero i = refl
zeros-at (suc k) (suc n) zero = refl
zeros-at (suc k) (suc n) (suc i) = zeros-at k n i

zero-behind : (k : ℕ) (rs : List Record) (i : ℕ) → 2 * length rs ≤ i → word (take k (record_words rs ++ no_burst)) i ≡ 0
unfolding record_words
zero-behind k [] i l = zeros-at k 8 i
zero-behind k (r ∷ rs) zero l = absurd (omega arith)
zero-behind k (r ∷ rs) (suc zero) l = absurd (omega arith)
zero-behind zero (r ∷ rs) (suc (suc i)) l = refl
zero-behind (suc zero) (r ∷ rs) (suc (suc i)) l = refl
zero-behind (suc (suc k)) (r ∷ rs) (suc (suc i)) l = zero-behind k rs i (omega arith)

pub record TypedOutcome (o : Outcome) : Type 0 where
  pub write : TypedWrite o.write
  pub device : TypedDevice o.device

-- one store
pub settled-words : (s : List ℕ) (w : Write) → TypedWords s → TypedWrite w → TypedWords (settled s w)
unfolding settled
settled-words s none ws h = ws
settled-words s (to w x) ws h = words-set s (index s w) x ws h

pub settled-length : (s : List ℕ) (w : Write) → length (settled s w) ≡ length s
unfolding settled
settled-length s none = refl
settled-length s (to w x) = length-set s (index s w) x

pub fresh-device-words : (on : Bool) → TypedDevice (fresh on)
unfolding fresh
fresh-device-words on =
    record {
      registers_length = refl;
      registers = words-zeros 8;
      place = omega arith;
      count = omega arith;
      handler = tt;
      burst-length = refl;
      burst = words-zeros 8;
      unused = λ i _. zeros-at 8 8 i;
    }

-- a body at its first instruction
module _ (s : List ℕ) (ss : TypedWords s) where
  data_words : (b : Body) → data_for (view s) b < 2 ^ 16
  unfolding data_for
  data_words (Body.Task t) = omega arith
  data_words (Body.Event e) = words_part (2 * (word s 3 + 1)) (queue_at (word s 1) (word s 2)) s ss (2 * word s 14 + 1)

  pub started-words : (d : Device) → TypedDevice d → (b : Body) → TypedBody b → TypedDevice (started (view s) d b)
  unfolding started with_place
  started-words d ds b bs =
      record {
        registers_length = refl;
        registers = words_cons (data_for (view s) b) (replicate 7 0) (data_words b) (words-zeros 7);
        place = (bs, (omega arith, omega arith));
        count = omega arith;
        handler = ds.handler;
        burst-length = ds.burst-length;
        burst = ds.burst;
        unused = ds.unused;
      }

  pub current-words : TypedBody (current_task (view s))
  current-words = ss 9

  pub oldest-words : TypedBody (oldest_event (view s))
  oldest-words = words_part (2 * (word s 3 + 1)) (queue_at (word s 1) (word s 2)) s ss (2 * word s 14)

  pub taken-words : TypedDevice (taken_up (view s) (begun_of (view s)))
  unfolding taken_up begun_of
  taken-words =
      pick_case Taken
      (λ _.
      pick_case Taken (λ _. started-words turned_on (fresh-device-words true) _ current-words)
      (λ _. pick_case Taken (λ _. started-words turned_on (fresh-device-words true) _ oldest-words) (λ _. fresh-device-words true)))
      (λ _. fresh-device-words true)
    where
      Taken : Option Body → Type 0
      Taken g = TypedDevice (taken_up (view s) g)

module _ (p s : List ℕ) (d : Device) (ps : TypedWords p) (ss : TypedWords s) (ds : TypedDevice d) where
  abbrev v : Store
  v = view s

  memory-words : TypedWords v.memory
  memory-words = words_part (word s 1) memory_at s ss

  log-words : TypedWords v.log
  log-words = words_part (2 * word s 2) (log_at (word s 1)) s ss

  queue-words : TypedWords v.queue
  queue-words = words_part (2 * (word s 3 + 1)) (queue_at (word s 1) (word s 2)) s ss

  with_place-words : (r : List ℕ) (x : Place) (l : ℕ) → length r ≡ 8 → TypedWords r → TypedPlace x → l < 2 ^ 16 → TypedDevice (with_place d r x l)
  unfolding with_place
  with_place-words r x l n rs xs ls =
      record {
        registers_length = n;
        registers = rs;
        place = xs;
        count = ls;
        handler = ds.handler;
        burst-length = ds.burst-length;
        burst = ds.burst;
        unused = ds.unused;
      }

  -- the same registers and count elsewhere
  went-words : (x : Place) → TypedPlace x → TypedDevice (with_place d d.registers x d.count)
  went-words x xs = with_place-words d.registers x d.count ds.registers_length ds.registers xs ds.count

  handled-words : (h : Handler) (ws : List ℕ) → TypedHandler h → length ws ≡ 8 → TypedWords ws → ZeroBehind h ws → TypedDevice (with_handler d h ws)
  unfolding with_handler
  handled-words h ws hs l words unused =
      record {
        registers_length = ds.registers_length;
        registers = ds.registers;
        place = ds.place;
        count = ds.count;
        handler = hs;
        burst-length = l;
        burst = words;
        unused = unused;
      }

  -- ---- the calls that make no store

  judged-words : (x : Checked) (o : Outcome) → TypedOutcome o → TypedOutcome (judged x d o)
  judged-words x o h = judged_case TypedOutcome x (λ _ _. record { write = tt; device = ds }) (λ _. h)

  boot-words : TypedOutcome (boot p s d)
  unfolding boot
  boot-words = judged-words _ _ (record { write = tt; device = taken-words s ss })

  cut-words : TypedOutcome cut
  unfolding cut
  cut-words = record { write = tt; device = fresh-device-words false }

  set_to_work_words : (n : ℕ) → n < 2 ^ 16 → TypedHandler (set_to_work (view s) n)
  unfolding set_to_work
  set_to_work_words n l = pick_case TypedHandler (λ _. (l, omega arith)) (λ _. tt)

  post-words : (rs : List Record) → TypedRecords rs → TypedOutcome (post p s d rs)
  unfolding post post_check burst_length burst_words
  post-words rs h =
      judged_case TypedOutcome (post_check p s d rs) (λ _ _. record { write = tt; device = ds })
      (λ e.
      let rest = then_rest _ _ e in
      let most = (burst-passed rs (must-passed _ _ (then_first _ _ rest))).1 in
      let fits = must-passed _ _ (then_rest _ _ (then_rest _ _ (then_rest _ _ rest))) in
      record {
        write = tt;
        device =
            handled-words (set_to_work (view s) (length rs)) (burst_words rs) (set_to_work_words (length rs) (omega (arith, most))) (burst-length rs most) (burst-words rs h)
            (rw (set_to_work_length (view s) (length rs) fits) (zero-behind 8 rs));
      })

  -- ---- a step

  loaded_words : (b : Body) (j a x : ℕ) → TypedBody b → j + 1 < 2 ^ 16 → x < 2 ^ 16 → TypedDevice (with_place d (set d.registers a x) (Run b (j + 1) 0) d.count)
  loaded_words b j a x bs next xs =
      with_place-words (set d.registers a x) (Run b (j + 1) 0) d.count (length-set d.registers a x ∙ ds.registers_length) (words-set d.registers a x ds.registers xs) (bs, (next, omega arith)) ds.count

  shown-words : (f : Option ℕ) (a : ℕ) → shown v f a < 2 ^ 16
  unfolding shown
  shown-words (Some i) a = log-words (2 * i + 1)
  shown-words None a = memory-words a

  open_words : (t k : ℕ) → new_open (transaction p t) (transaction p k) < 2 ^ 16
  unfolding new_open
  open_words t k = pick_case (λ (n : ℕ). n < 2 ^ 16) (λ _. ps _) (λ _. omega arith)

  -- the words of a body's place, the next instruction, and what this one does
  acts-words : {x : Place} {b : Body} {j : ℕ} {f : Effect} → Acts p v d x b j f → TypedPlace x × (j + 1 < 2 ^ 16) × TypedEffect f
  acts-words {x} {b} {j} {f} h =
      let is = body-passed p v x b j f h.sound in
      let next : j + 1 < 2 ^ 16 = omega (arith, is.there, is.row.most_instructions) in
      (subst TypedPlace h.place ds.place, next, subst TypedEffect h.does (effect_at-words p (body_number p b) j d.registers ps ds.registers next))

  -- with n stores of its end made
  end_words : {b : Body} {j c : ℕ} {f : Effect} → RunsAt p v d b j c f → (n : ℕ) → n < 2 ^ 16 → TypedDevice (at_place d (Run b j n))
  end_words {b} {j} h n l = let xs = (acts-words h).0 in went-words (Run b j n) (xs.0, (xs.1.0, l))

  module _ (early : Looked p s d) where
    slot_after_typed : (x : ℕ) → x ≤ v.queue_records → slot_after v.queue_records x < 2 ^ 16
    slot_after_typed x l = omega (arith, slot_after_le v.queue_records x l, ss 3)

    onward_words : {c : ℕ} → Commits v d c → TypedDevice (at_place d (Free (c + 1)))
    onward_words {c} h =
        went-words (Free (c + 1)) (omega (arith, h.left, most-last v, early.control.count_in h.phase, early.shaped.shaped.sizes.most_pairs))

    later_words : {h : Handler} {n c : ℕ} {later : Handler} {dropped : Option Record} → Works v h n c later dropped → d.handler ≡ h → c + 1 < 2 ^ 16
        → TypedHandler later × ZeroBehind later d.burst
    unfolding burst_length
    later_words works_storing q next = (((subst TypedHandler q ds.handler).0, next), subst (λ (h : Handler). ZeroBehind h d.burst) q ds.unused)
    later_words works_replacing q next = (next, subst (λ (h : Handler). ZeroBehind h d.burst) q ds.unused)

    handler-words : {h : Handler} {n c : ℕ} {later : Handler} {dropped : Option Record} → d.handler ≡ h → Works v h n c later dropped → (o : Outcome)
        → HandlerMade p v d n c later dropped o → TypedOutcome o
    handler-words {n = n} {c = c} q w o (record_made a s) =
        let (typed, unused) = later_words w q next in
        record { write = store_words _ s; device = handled-words _ d.burst typed ds.burst-length ds.burst unused }
      where
        next : c + 1 < 2 ^ 16
        next = omega (arith, a.inside, a.most, record_stores_lem v.queue_records (carried d.burst n) v.tail)

        store_words : (w : Write) → RecordStore v.queue_records v.tail (carried d.burst n) w → TypedWrite w
        store_words w (event_store i r l m) = (carried-words d.burst ds.burst 0 n r m).0
        store_words w (datum_store i r l m) = (carried-words d.burst ds.burst 0 n r m).1
    handler-words {n = n} q w o (tail_made a) =
        record {
          write = omega (arith, forward_le v.queue_records v.tail (length (carried d.burst n)) early.control.tail_in (omega (arith, a.room)), ss 3);
          device = handled-words Resting no_burst tt refl (words-zeros 8) (λ i _. zeros-at 8 8 i);
        }

    made-words : (o : Outcome) → Made p v d o → TypedOutcome o
    unfolding choosing kind_of burst_length
    made-words o (handler q w m) = handler-words q w o m
    made-words o (head_dropped q a l) =
        record {
          write = slot_after_typed v.head early.control.head_in;
          device =
              handled-words (Replacing 0) d.burst (omega arith) ds.burst-length ds.burst (subst (λ (h : Handler). ZeroBehind h d.burst) q ds.unused);
        }
    made-words o (commit_copy h l m) = record { write = log-words _; device = onward_words h }
    made-words o (commit_task h one e) = record { write = ss 12; device = onward_words h }
    made-words o (commit_open h one e) = record { write = ss 13; device = onward_words h }
    made-words o (commit_head h two e) = record { write = ss 12; device = onward_words h }
    made-words o (commit_begun h e) = record { write = omega arith; device = onward_words h }
    made-words o (commit_phase h e) = record { write = omega arith; device = fresh-device-words true }
    made-words o (chosen_event h none_open some l) = record { write = omega arith; device = started-words s ss d ds _ (oldest-words s ss) }
    made-words o (chosen_task h n) = record { write = omega arith; device = started-words s ss d ds _ (current-words s ss) }
    made-words o (computed h) = let w = acts-words h in record { write = tt; device = loaded_words _ _ _ _ w.0.0 w.1 w.2 }
    made-words o (jumped h) = let w = acts-words h in record { write = tt; device = went-words _ (w.0.0, (w.2, omega arith)) }
    made-words o (loaded h l) = let w = acts-words h in record { write = tt; device = loaded_words _ _ _ _ w.0.0 w.1 (shown-words _ _) }
    made-words o (overwritten h l e) = let w = acts-words h in record { write = w.2; device = went-words _ (w.0.0, (w.1, omega arith)) }
    made-words o (half_saved h l e k) = let w = acts-words h in record { write = omega (arith, ps 3); device = went-words _ (w.0.0, w.0.1.0) }
    made-words o (saved h) =
        let w = acts-words h in
        record { write = w.2; device = with_place-words _ _ _ ds.registers_length ds.registers (w.0.0, (w.1, omega arith)) (omega (arith, h.stands.2, early.shaped.shaped.sizes.most_pairs)) }
    made-words o (go_count h) = record { write = ds.count; device = end_words h 1 (omega arith) }
    made-words o (go_pending h) = record { write = (acts-words h).2; device = end_words h 2 (omega arith) }
    made-words o (go_open {t = t} {k = k} h) = record { write = open_words t k; device = end_words h 3 (omega arith) }
    made-words o (go_phase h) = record { write = omega arith; device = fresh-device-words true }
    made-words o (done_count h) = record { write = ds.count; device = end_words h 1 (omega arith) }
    made-words o (done_pending h) = record { write = slot_after_typed v.head early.control.head_in; device = end_words h 2 (omega arith) }
    made-words o (done_phase h) = record { write = omega arith; device = fresh-device-words true }

  step_words : (o : Outcome) → StepOutcome p s d o → TypedOutcome o
  step_words o (refused w) = record { write = tt; device = ds }
  step_words o (made early m u) = made-words early o m

  pub call-words : (c : Call) → TypedCall c → TypedOutcome (call p s d c)
  unfolding call
  call-words Boot h = boot-words
  call-words Step h = step_words (step p s d) (step_outcome p s d)
  call-words Cut h = cut-words
  call-words (Post rs) h = post-words rs h

pub words_stay_words : WordsStayWords
words_stay_words p s d c ps ss ds cs =
    let o = call-words p s d ps ss ds c cs in
    record {
      length_is = settled-length s _;
      store = settled-words s _ ss o.write;
      device = o.device;
    }

-- ---- formatting

zeros-below : (n : ℕ) → Every (λ x. x < 2 ^ 16) (replicate n 0)
zeros-below zero = tt
zeros-below (suc n) = (omega arith, zeros-below n)

formatted-words : (p : List ℕ) → Sound p → (l q : ℕ) → sizes_rule l q ≡ true → TypedWords p → TypedWords (formatted p l q)
unfolding formatted store_contents store_mark sizes_rule
formatted-words p sound l q sizes ps i =
    let most_pairs : l ≤ 64 = leb-true _ _ (and_left _ _ (and_right _ _ sizes)) in
    let most_records : q ≤ 32 = leb-true _ _ (and_right _ _ (and_right _ _ (and_right _ _ sizes))) in
    let most_memory : memory_words p ≤ 1024 = sound.rows.contents.most_memory in
    let zeros = zeros-below (store_length (memory_words p) l q - 10) in
    every_at (λ x. x < 2 ^ 16) (formatted p l q) i 0 (
      omega arith,
      (omega arith, (omega arith, (omega arith, (omega arith, (omega arith, (omega arith, (omega arith, (omega arith, (ps 4, zeros))))))))),
    )
    (omega arith)

pub format_stays_words : FormatStaysWords
unfolding format format_store
format_stays_words p l q s ps ss = go (format_check p l q s) refl
  where
    go : (x : Checked) → format_check p l q s ≡ x → TypedWords (format_store x s (formatted p l q))
    go (Ok _) e = let f = format-passed p l q s e in formatted-words p f.sound l q f.sizes ps
    go (Err r) e = ss
