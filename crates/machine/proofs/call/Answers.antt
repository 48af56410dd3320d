-- `call` meets its contract: which call it is decides as the definition's tests do. Assumes nothing.
use borrow.Author.Tests.{ne_eqb}
use Rattle.machine.proofs.MadeLaws.{nine, raise-left}
use Rattle.machine.specs.Machine.{calls, cuts}
use Rattle.model.specs.Test.{pick}
use Rattle.machine.proofs.call.Goals as goal

pub returns-in-Check : goal.returns-in-Check
unfolding calls pick
returns-in-Check c = rw (c.in-Check.ensures, c.check.ensures)

pub returns-in-Format : goal.returns-in-Format
unfolding calls pick
returns-in-Format c = rw c.in-Format.ensures c.format.ensures

pub returns-in-Boot : goal.returns-in-Boot
unfolding calls pick
returns-in-Boot c = rw c.in-Boot.ensures c.boot.ensures

pub returns-in-Step : goal.returns-in-Step
unfolding calls pick
returns-in-Step c = rw c.in-Step.ensures c.step.ensures

pub returns-in-Cut : goal.returns-in-Cut
unfolding calls pick cuts
returns-in-Cut c = rw (c.in-Cut.ensures, c.cut.ensures)

pub returns-in-Post : goal.returns-in-Post
unfolding calls pick
returns-in-Post c = rw c.in-Post.ensures c.post.ensures

pub burst-requires : goal.burst-requires
burst-requires c = nine _ c.args.numbers.now c.in-Burst.ensures c.requires

pub returns-in-Burst : goal.returns-in-Burst
unfolding calls pick
returns-in-Burst c = rw c.in-Burst.ensures c.burst.ensures

pub returns-in-Run : goal.returns-in-Run
unfolding calls pick
returns-in-Run c = rw c.in-Run.ensures c.run.ensures

pub returns-in-LinesCheck : goal.returns-in-LinesCheck
unfolding calls pick
returns-in-LinesCheck c = rw (c.in-LinesCheck.ensures, c.lines_check.ensures)

pub returns-in-Raise : goal.returns-in-Raise
unfolding pick
returns-in-Raise c =
    let (check, format, boot, step, cut, post, burst, run, lines) = c.in-Raise.ensures in
    rw (ne_eqb c.args.kind 11 run, raise-left _ _ c.args.kind _ check format boot step cut post burst run lines) c.raise.ensures
