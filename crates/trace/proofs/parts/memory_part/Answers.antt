-- `search` joins what is put, where the check's own `grind` looks at its parts.
use Rattle.std.proofs.Common.{rules, arith, ◌≡◌, ◌+◌, ◌/◌, length}
use Rattle.trace.proofs.TraceLaws.{by_line}
use Rattle.trace.specs.Trace.{memory_part}
use Rattle.trace.proofs.parts.memory_part.Goals as goal

pub loop-k-init : goal.loop-k-init
loop-k-init c = search (rules, by_line)

pub loop-k-preserved : goal.loop-k-preserved
loop-k-preserved c = search (rules, by_line)

pub returns-clause-puts : goal.returns-clause-puts
unfolding memory_part
returns-clause-puts c = let last : c.loop-k.k ≡ (length c.args.memory.now + 7) / 8 = omega arith in rw (← last) c.loop-k.invariant.puts
