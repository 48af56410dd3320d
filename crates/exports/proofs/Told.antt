-- From what a call leaves in code to what is told of it in words. Assumes nothing.
use Rattle.model.specs.Types.{Err, Ok}
use Rattle.model.specs.declared.Record.{Record}
use Prim.Native.Nat.{ℕ}
use mathlib.Core.List.{List}
use mathlib.Core.Bool.{true}
use mathlib.Core.Path.{◌≡◌, refl, sym, ap, ◌∙◌}
use lib.ListN.{length}
use Rattle.device.specs.Result.{Result, of_call, of_outcome}
use Rattle.device.specs.declared.CallResult.{CallResult}
use Rattle.exports.specs.Exported.{host_state, words_of, totals_words, TellsCall, TellsRun}
use Rattle.model.specs.Burst.{burst_words}
use Rattle.model.specs.Calls.{Call, Post, RunOutcome as Defined}
use Rattle.model.specs.Device.{Outcome, judged, post_check, set_to_work, post, with_handler}
use Rattle.model.specs.Store.{view, settled, stored_word}
use Rattle.model.specs.declared.Device.{Device}
use Rattle.model.specs.declared.Refusal.{Refusal}
use Rattle.runtime.specs.RunResult.{of_run}
use Rattle.runtime.specs.declared.RunResult.{RunResult}
use Rattle.words.proofs.Words.{set_to_work_lem}
use Rattle.words.specs.Words.{device_words, ended_words, answer_words, checked_words, with_burst, is_state, state_of}

pub told : (c : Call) (s : List ℕ) (o : Outcome) (r : CallResult) {a x z : List ℕ} → of_call r z ≡ of_outcome s o → a ≡ words_of c r.answer r.stored
    → x ≡ device_words r.device → TellsCall c s o a x z
told c s o r e answer device =
    record {
      answer = answer ∙ ap (λ (y : Result). words_of c y.answer y.stored) e;
      device = device ∙ ap (λ (y : Result). device_words y.device) e;
      store = ap (λ (y : Result). y.store) e;
    }

-- a post of the records rs to the device of the words w, by what its check found
module _ (p s w : List ℕ) (rs : List Record) {d : Device} (is : d ≡ state_of w) {a x : List ℕ} where
  pub told-posted : is_state w ≡ true → post_check p s d rs ≡ Ok tt → a ≡ checked_words (Ok tt) → x ≡ with_burst w (set_to_work (view s) (length rs)) (burst_words rs)
      → TellsCall (Post rs) s (post p s d rs) a x s
  unfolding post judged settled stored_word checked_words answer_words
  told-posted state found answer device =
      rw found
      (record {
        answer = answer;
        device =
            device
            ∙ sym (set_to_work_lem w (set_to_work (view s) (length rs)) (burst_words rs) state)
            ∙ ap (λ (e : Device). device_words (with_handler e (set_to_work (view s) (length rs)) (burst_words rs))) (sym is);
        store = refl;
      })

  pub told-refused : {f : Refusal} → post_check p s d rs ≡ Err f → a ≡ checked_words (Err f) → x ≡ device_words d
      → TellsCall (Post rs) s (post p s d rs) a x s
  unfolding post judged settled stored_word checked_words answer_words
  told-refused found answer device = rw found (record { answer = answer; device = device; store = refl })

pub told-run : (o : Defined) (r : RunResult) {a x z t : List ℕ} → of_run r z ≡ o → a ≡ ended_words r.ended → x ≡ device_words r.device
    → t ≡ totals_words r.totals → TellsRun o r.steps a (host_state z x t)
told-run o r e answer device totals =
    record {
      steps = ap (λ (y : Defined). y.steps) e;
      answer = answer ∙ ap (λ (y : Defined). ended_words y.ended) e;
      device = device ∙ ap (λ (y : Defined). device_words y.device) e;
      store = ap (λ (y : Defined). y.store) e;
      totals = totals ∙ ap (λ (y : Defined). totals_words y.totals) e;
    }
