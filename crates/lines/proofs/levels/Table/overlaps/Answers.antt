-- `levels::Table::overlaps` meets its contract: the lowest place that rows share is where the rule refuses first. Assumes nothing.
use Rattle.std.proofs.Common.{◌≡◌, ℕ, ◌/◌, ◌%◌, subst, arith}
use Rattle.model.specs.Types.{Err}
use Rattle.model.specs.declared.Refusal.{Refusal}
use Rattle.lines.proofs.LeastLaws.{shared_among}
use Rattle.lines.proofs.LineLaws.{overlap_refuses, overlap-accepts}
use Rattle.lines.specs.Inside.{Least, SharedAmong}
use Rattle.lines.specs.Lines.{rows, overlap_rule, line_rules}
use Rattle.lines.proofs.levels.Table.overlaps.Goals as goal

pub loop-row-preserved : goal.loop-row-preserved
loop-row-preserved c = (c.loop-row.invariant.0, shared_among c.args.self.now.words.now _ _ _ _ c.loop-row.invariant.1 c.lowest_shared-lowest.ensures)

pub returns-then-lowest-lt-PAST_ALL : goal.returns-then-lowest-lt-PAST_ALL
returns-then-lowest-lt-PAST_ALL c =
    let t = c.args.self.now.words.now in
    let r = c.loop-row.lowest in
    let all : c.loop-row.row ≡ rows t = omega arith in
    let least = subst (λ (i : ℕ). Least (SharedAmong t i) 1048576 r) all c.loop-row.invariant.1 in
    let (n, x, is, level, refuses) = overlap_refuses t r least c.args.self.now.whole.named_lines c.if-lowest-lt-PAST_ALL.true in
    let line_is : n ≡ r / 65536 = omega arith in
    let level-is : x ≡ r % 65536 = omega arith in
    subst (λ (m : ℕ). Err (Refusal.LinesOverlap m (r % 65536)) ≡ line_rules t (overlap_rule t)) line_is
    (subst (λ (y : ℕ). Err (Refusal.LinesOverlap n y) ≡ line_rules t (overlap_rule t)) level-is refuses)

pub returns : goal.returns
returns c =
    let t = c.args.self.now.words.now in
    let all : c.loop-row.row ≡ rows t = omega arith in
    overlap-accepts t _ (subst (λ (i : ℕ). Least (SharedAmong t i) 1048576 c.loop-row.lowest) all c.loop-row.invariant.1) c.if-lowest-lt-PAST_ALL.false
