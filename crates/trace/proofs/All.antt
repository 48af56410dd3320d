-- All that is claimed of what is printed (specs/TraceRows.antt), with the theorem. The prover begins with this file, the first by name, so a
-- wrong definition is refused at a row, and not at a law that repeats it. Assumes nothing.
use Rattle.trace.proofs.Rows.{trace_rows}
use Rattle.trace.specs.TraceRows.{TraceRows}

pub of_rows : TraceRows
of_rows = trace_rows
