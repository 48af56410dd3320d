-- `calls::line` meets its contract, by those of the calls. Assumes nothing.
use mathlib.Core.Path.{refl, sym, ap, ◌∙◌}
use lib.ListN.{length}
use Rattle.std.specs.Prelude.{Some}
use Rattle.model.specs.Burst.{single}
use Rattle.model.specs.Calls.{Boot, Step, Cut, Post, call}
use Rattle.sheet.proofs.SheetLaws.{ends_unread, ends-cut, ends_other}
use Rattle.sheet.specs.Inside.{call_of}
use Rattle.sheet.specs.Printed.{holding}
use Rattle.sheet.specs.Sheet.{call_line}
use Rattle.sheet.proofs.calls.line.Goals as goal

pub returns-in-Some-Boot : goal.returns-in-Some-Boot
unfolding call call_line
returns-in-Some-Boot c =
    let state = c.args.state in
    let h = holding state c.args.store.now in
    record {
      printed = _;
      puts = c.answered.ensures.puts;
      short = c.answered.ensures.short;
      ends =
          λ reached sized going.
          ends_other c.args.program.now (length c.args.copy.now) h going c.answered.result.state reached sized (Boot) (sym c.held.ensures ∙ ap call_of (c.in-Some-Boot.is ∙ ap Some c.in-Some-Boot.field-0-is))
          _ c.boot.result c.boot.ensures refl refl c.answered.ensures.state;
    }

pub returns-in-Some-Step : goal.returns-in-Some-Step
unfolding call call_line
returns-in-Some-Step c =
    let state = c.args.state in
    let h = holding state c.args.store.now in
    record {
      printed = _;
      puts = c.answered-in-Some-Step.ensures.puts;
      short = c.answered-in-Some-Step.ensures.short;
      ends =
          λ reached sized going.
          ends_other c.args.program.now (length c.args.copy.now) h going c.answered-in-Some-Step.result.state reached sized (Step) (sym c.held.ensures ∙ ap call_of (c.in-Some-Step.is ∙ ap Some c.in-Some-Step.field-0-is))
          _ c.step.result c.step.ensures refl c.step.auto.store c.answered-in-Some-Step.ensures.state;
    }

pub returns-in-Some-Cut : goal.returns-in-Some-Cut
returns-in-Some-Cut c =
    let state = c.args.state in
    let h = holding state c.args.store.now in
    record {
      printed = c.cut.ensures.printed;
      puts = c.cut.ensures.prints.puts;
      short = c.cut.ensures.prints.short;
      ends =
          λ reached sized going.
          ends-cut c.args.program.now (length c.args.copy.now) h going c.cut.result.state reached sized Cut (sym c.held.ensures ∙ ap call_of (c.in-Some-Cut.is ∙ ap Some c.in-Some-Cut.field-0-is)) refl
          c.cut.ensures.printed c.cut.ensures.prints.state (c.cut.ensures.memory _ reached sized);
    }

pub returns-in-Some-Post : goal.returns-in-Some-Post
unfolding call call_line
returns-in-Some-Post c =
    let state = c.args.state in
    let h = holding state c.args.store.now in
    record {
      printed = _;
      puts = c.answered-in-Some-Post.ensures.puts;
      short = c.answered-in-Some-Post.ensures.short;
      ends =
          λ reached sized going.
          ends_other c.args.program.now (length c.args.copy.now) h going c.answered-in-Some-Post.result.state reached sized (Post (single c.in-Some-Post.event c.in-Some-Post.datum)) (sym c.held.ensures ∙ ap call_of (c.in-Some-Post.is ∙ ap Some c.in-Some-Post.field-0-is))
          _ c.post.result c.post.ensures refl refl c.answered-in-Some-Post.ensures.state;
    }

pub returns-in-None : goal.returns-in-None
returns-in-None c =
    let state = c.args.state in
    let h = holding state c.args.store.now in
    record {
      printed = _;
      puts = c.unread.ensures.puts;
      short = c.unread.ensures.short;
      ends =
          λ reached sized going.
          ends_unread c.args.program.now (length c.args.copy.now) h going c.unread.result.state state.device _ (sym c.held.ensures ∙ ap call_of c.in-None.is) c.unread.ensures.state;
    }
