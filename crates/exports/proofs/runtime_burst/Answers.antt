-- `runtime_burst` meets its contract, by whether the device words are those of a device state, and by what the post's check finds. Assumes nothing.
use Prim.Native.Nat.{ℕ}
use mathlib.Core.List.{List}
use mathlib.Core.Path.{refl, sym, ap, ◌∙◌}
use Rattle.device.proofs.Bursts.{posted_few, posted_ring}
use Rattle.exports.proofs.OnDevice.{found-state, state-read, none_read}
use Rattle.exports.proofs.Told.{told-posted, told-refused}
use Rattle.model.proofs.BurstLaws.{carried-length}
use Rattle.model.specs.Burst.{carried, burst_words}
use Rattle.model.specs.Device.{set_to_work}
use Rattle.model.specs.Store.{view}
use Rattle.model.specs.declared.Handler.{Handler}
use Rattle.words.specs.Words.{checked_words, with_burst}
use Rattle.exports.proofs.runtime_burst.Goals as goal

pub returns-in_default : goal.returns-in_default
returns-in_default c = none_read c.args.device.now _ _ c.in_default.ensures (c.write_unknown.ensures, refl)

pub words-kept-requires : goal.words-kept-requires
words-kept-requires c = posted_few c.args.program.now c.args.store.now _ c.args.burst.now c.args.count (sym c.post_check-found.ensures ∙ c.in-Ok.is)

pub set_to_work-handler-requires : goal.set_to_work-handler-requires
set_to_work-handler-requires c = record { shaped = (posted_ring c.args.program.now c.args.store.now _ _ (sym c.post_check-found.ensures ∙ c.in-Ok.is)).0; store_bound = (posted_ring c.args.program.now c.args.store.now _ _ (sym c.post_check-found.ensures ∙ c.in-Ok.is)).1 }

pub returns-in-Ok : goal.returns-in-Ok
returns-in-Ok c =
    let w = c.args.device.now in
    let s = c.args.store.now in
    let rs = carried c.args.burst.now c.args.count in
    let (state, same) = found-state w _ c.in-Some.ensures in
    state-read w _ _ c.in-Some.ensures
    (told-posted c.args.program.now s w rs same state (sym c.post_check-found.ensures ∙ c.in-Ok.is)
    (c.write_checked.ensures ∙ ap checked_words c.in-Ok.is)
    (c.with_burst.ensures
    ∙ ap (λ (b : List ℕ). with_burst w c.set_to_work-handler.result b) c.words-kept.ensures
    ∙ ap (λ (h : Handler). with_burst w h (burst_words rs)) c.set_to_work-handler.ensures
    ∙ ap (λ (n : ℕ). with_burst w (set_to_work (view s) n) (burst_words rs)) (sym (carried-length c.args.burst.now 0 c.args.count))))

pub returns-in-Err : goal.returns-in-Err
returns-in-Err c =
    let w = c.args.device.now in
    let (_, same) = found-state w _ c.in-Some.ensures in
    state-read w _ _ c.in-Some.ensures
    (told-refused c.args.program.now c.args.store.now w (carried c.args.burst.now c.args.count) same
    (sym c.post_check-found.ensures ∙ c.in-Err.is)
    (c.write_checked.ensures ∙ ap checked_words c.in-Err.is)
    c.write_device.ensures)
