-- Document 01, "The counting program" and its starred cases: one record with a row for each; proofs/Starred.antt has the theorem,
-- in which the checker computes every row from the definitions.
use Rattle.std.specs.Prelude.{ℕ, ◌+◌, ◌/◌, ◌≡◌, List, [], ◌∷◌, ◌++◌, length, replicate, set, take}
use Rattle.model.specs.Answer.{refusal}
use Rattle.model.specs.Burst.{single}
use Rattle.model.specs.Calls.{Call, Boot, Step, Cut, Post, call, after_calls, steps, Recovery, recovered, refused, unfinished, recovery}
use Rattle.model.specs.Check.{check}
use Rattle.model.specs.Device.{off}
use Rattle.model.specs.Store.{view, waiting, formatted}
use Rattle.model.specs.Types.{Answer, Body, Device, Err, None, Ok, Refusal, Run, Some}

-- ---- programs

-- "M 2, T 1, E 1, 26 words, hex: .. The task adds 1 to word 0; the event saves its data in word 1."
unfoldable pub counting : List ℕ
counting =
    0xC0B1 ∷ 0x0001 ∷ 0x0001 ∷ 0x0002 ∷ 0x0000 ∷ 0x001A
    ∷ 0x000C ∷ 0x0005 ∷ 0x0000
    ∷ 0x0016 ∷ 0x0002 ∷ 0x0000
    ∷ 0x0800 ∷ 0x0000 ∷ 0x0010 ∷ 0x0001 ∷ 0x0201 ∷ 0x0000 ∷ 0x0900 ∷ 0x0000 ∷ 0x0F00 ∷ 0x0000
    ∷ 0x0900 ∷ 0x0001 ∷ 0x1000 ∷ 0x0000
    ∷ []

-- the counting program with other instructions for its task
unfoldable pub with_task : List ℕ → List ℕ
with_task task =
    let n = length task in
    0xC0B1 ∷ 1 ∷ 1 ∷ 2 ∷ 0 ∷ (16 + n) ∷ 12 ∷ (n / 2) ∷ 0 ∷ (12 + n) ∷ 2 ∷ 0 ∷ task ++ 0x0900 ∷ 0x0001 ∷ 0x1000 ∷ 0x0000 ∷ []

-- ---- what is seen

-- on a store with L and Q 1, the device off at first: the state after the calls, and the answer to one more
abbrev pub store_after : List ℕ → List Call → List ℕ
store_after p cs = (after_calls p (formatted p 1 1) off cs).store

abbrev pub device_after : List ℕ → List Call → Device
device_after p cs = (after_calls p (formatted p 1 1) off cs).device

unfoldable pub answer : List ℕ → List Call → Call → Answer
answer p cs c = (call p (store_after p cs) (device_after p cs) c).answer

-- recovery's steps and the store that it leaves
unfoldable pub steps_of : Recovery → ℕ
steps_of (recovered n s) = n
steps_of (refused r) = 0
steps_of unfinished = 0

unfoldable pub store_of : Recovery → List ℕ
store_of (recovered n s) = s
store_of (refused r) = []
store_of unfinished = []

abbrev pub recover : List ℕ → List Call → Recovery
recover p cs = recovery p 10 (store_after p cs)

abbrev pub memory_of : Recovery → List ℕ
memory_of r = (view (store_of r)).memory

abbrev pub Refuses : List ℕ → Refusal → Type 0
Refuses p r = check p ≡ Err r

-- a post and the three steps that accept it
abbrev pub accepted : List Call
accepted = Boot ∷ Post (single 0 7) ∷ steps 3

pub record Starred : Type 0 where
  pub program_words : with_task (0x0800 ∷ 0 ∷ 0x0010 ∷ 1 ∷ 0x0201 ∷ 0 ∷ 0x0900 ∷ 0 ∷ 0x0F00 ∷ 0 ∷ []) ≡ counting
  -- "Accepted; with word 5 as hex 001B: 1. With five words: 1."
  pub program_accepted : check counting ≡ Ok tt
  pub word_5_wrong : Refuses (set counting 5 0x001B) Refusal.ProgramLength
  pub five_words : Refuses (take 5 counting) Refusal.ProgramLength
  pub number_1 : refusal Refusal.ProgramLength ≡ record { number = 1; first = 0; second = 0 }
  -- "T 33: 3. Its last instruction as 0200 0000: 5 at body 1, instruction 1."
  pub thirty_three_tasks : Refuses (set counting 1 33) (Refusal.ProgramSize 1)
  pub number_3 : refusal (Refusal.ProgramSize 1) ≡ record { number = 3; first = 1; second = 0 }
  pub last_instruction : Refuses (set counting 24 0x0200) (Refusal.Instruction 1 1)
  pub number_5 : refusal (Refusal.Instruction 1 1) ≡ record { number = 5; first = 1; second = 1 }
  -- "LOAD with k 1 accepted, with k 2: 5."
  pub load_1 : check (set counting 13 1) ≡ Ok tt
  pub load_2 : Refuses (set counting 13 2) (Refusal.Instruction 0 0)
  -- "Boot, 9 steps, cut: recovered memory 0, 0. After 10 steps: 1, 0, by 4 recovery steps. Step 14 ends the commit." N4: "recovery takes one
  -- step more (in 01's cases 5, and step 15)"
  pub nine_steps : memory_of (recover counting (Boot ∷ steps 9 ++ Cut ∷ [])) ≡ 0 ∷ 0 ∷ []
  pub ten_steps : memory_of (recover counting (Boot ∷ steps 10 ++ Cut ∷ [])) ≡ 1 ∷ 0 ∷ []
  pub five_recovery_steps : steps_of (recover counting (Boot ∷ steps 10 ++ Cut ∷ [])) ≡ 5
  pub step_ten : answer counting (Boot ∷ steps 9) Step ≡ Answer.Committed (Body.Task 0)
  pub step_fourteen : (view (store_after counting (Boot ∷ steps 14))).phase ≡ 1
  pub step_fifteen : (view (store_after counting (Boot ∷ steps 15))).phase ≡ 0
  -- "Post and 3 steps: accepted. A further post before the event commits: 21." N7: "drops the record at head ..; then it is 21, so in 01's
  -- case only once the event has begun". (The first step more begins it, the sixth commits it, and 21 lasts until the eighth has moved head.)
  pub three_steps : answer counting (Boot ∷ Post (single 0 7) ∷ steps 2) Step ≡ Answer.Accepted None
  pub post_at_once : answer counting accepted (Post (single 0 8)) ≡ Answer.Done
  pub four_steps : answer counting (accepted ++ Post (single 0 8) ∷ steps 3) Step ≡ Answer.Accepted (Some (record { event = 0; datum = 7 }))
  pub event-begun : answer counting accepted Step ≡ Answer.Chosen (Body.Event 0)
  pub post_once_begun : answer counting (accepted ++ Step ∷ []) (Post (single 0 8)) ≡ Answer.Refused Refusal.QueueFull
  pub post_before_commit : answer counting (accepted ++ steps 5) (Post (single 0 8)) ≡ Answer.Refused Refusal.QueueFull
  pub commit : answer counting (accepted ++ steps 5) Step ≡ Answer.Committed (Body.Event 0)
  pub post_before_head : answer counting (accepted ++ steps 7) (Post (single 0 8)) ≡ Answer.Refused Refusal.QueueFull
  pub post_after_head : answer counting (accepted ++ steps 8) (Post (single 0 8)) ≡ Answer.Done
  pub number_21 : refusal Refusal.QueueFull ≡ record { number = 21; first = 0; second = 0 }
  -- "Post, 1 step, post: 20. Post, 2 steps, cut: not accepted."
  pub post_again : answer counting (Boot ∷ Post (single 0 7) ∷ Step ∷ []) (Post (single 0 8)) ≡ Answer.Refused Refusal.HandlerBusy
  pub number_20 : refusal Refusal.HandlerBusy ≡ record { number = 20; first = 0; second = 0 }
  pub not_accepted : waiting (view (store_of (recover counting (Boot ∷ Post (single 0 7) ∷ steps 2 ++ Cut ∷ [])))) ≡ []
  pub not_chosen : answer counting (Boot ∷ Post (single 0 7) ∷ steps 2 ++ Cut ∷ Boot ∷ []) Step ≡ Answer.Chosen (Body.Task 0)
  -- "Cut between the head store and the last store of an event's commit: head moves on by one slot in all."
  pub head_stored : (view (store_after counting (accepted ++ steps 8))).head ≡ 1
  pub not_last : (view (store_after counting (accepted ++ steps 8))).phase ≡ 2
  pub one_slot : (view (store_of (recover counting (accepted ++ steps 8 ++ Cut ∷ [])))).head ≡ 1
  -- "SHR of hex 8000 by 15 gives FFFF; of 7FFF by 15, 0; k 16: 5." Steps 2 and 3 are SET and SHR.
  pub shr_lowest : (device_after (with_task (0x0000 ∷ 0x8000 ∷ 0x0700 ∷ 15 ∷ 0x0F00 ∷ 0 ∷ [])) (Boot ∷ steps 3)).registers ≡ 0xFFFF ∷ replicate 7 0
  pub shr_highest : (device_after (with_task (0x0000 ∷ 0x7FFF ∷ 0x0700 ∷ 15 ∷ 0x0F00 ∷ 0 ∷ [])) (Boot ∷ steps 3)).registers ≡ 0 ∷ replicate 7 0
  pub shr_16 : Refuses (with_task (0x0000 ∷ 0x8000 ∷ 0x0700 ∷ 16 ∷ 0x0F00 ∷ 0 ∷ [])) (Refusal.Instruction 0 1)
  -- "JLT: 8000 is below 0; 7FFF isn't below 8000." Step 4 is JLT, which jumps to instruction 4 or goes on to 3.
  pub jlt_lowest : (device_after (with_task (0x0000 ∷ 0x8000 ∷ 0x0010 ∷ 0x0000 ∷ 0x0E01 ∷ 4 ∷ 0x0F00 ∷ 0 ∷ 0x0F00 ∷ 0 ∷ [])) (Boot ∷ steps 4)).place ≡ Run (Body.Task 0) 4 0
  pub jlt_highest : (device_after (with_task (0x0000 ∷ 0x7FFF ∷ 0x0010 ∷ 0x8000 ∷ 0x0E01 ∷ 4 ∷ 0x0F00 ∷ 0 ∷ 0x0F00 ∷ 0 ∷ [])) (Boot ∷ steps 4)).place ≡ Run (Body.Task 0) 3 0
  -- "LOADX, k 1, register hex FFFF: 23, not word 0."
  pub loadx : answer (with_task (0x0010 ∷ 0xFFFF ∷ 0x0A01 ∷ 1 ∷ 0x0F00 ∷ 0 ∷ [])) (Boot ∷ steps 2) Step ≡ Answer.Refused Refusal.Address
  pub number_23 : refusal Refusal.Address ≡ record { number = 23; first = 0; second = 0 }
  -- "L 1: SAVE twice to one address passes; to two addresses: 24 at the second."
  pub save_twice : answer (with_task (0x0900 ∷ 0 ∷ 0x0900 ∷ 0 ∷ 0x0F00 ∷ 0 ∷ [])) (Boot ∷ steps 3) Step ≡ Answer.Stored
  pub save_to_two : answer (with_task (0x0900 ∷ 0 ∷ 0x0900 ∷ 1 ∷ 0x0F00 ∷ 0 ∷ [])) (Boot ∷ steps 3) Step ≡ Answer.Refused Refusal.LogFull
  pub number_24 : refusal Refusal.LogFull ≡ record { number = 24; first = 0; second = 0 }
