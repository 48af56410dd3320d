-- All that is claimed of line tables (specs/LinesRows.antt, specs/Claims.antt), with the theorems. The rows stand first: the prover begins with
-- this file, the first by name, so a wrong definition is refused at a row, and not at a law that repeats it. Assumes nothing.
use Rattle.lines.proofs.LinesRows.{lines_rows}
use Rattle.lines.proofs.GoodLaws.{accepted_is_good, good_is_accepted, refused_is_blamed}
use Rattle.lines.proofs.RaiseLaws.{raise-posts, raise_posts_nothing, raise_checks_first, raise_is_its_calls}
use Rattle.lines.specs.Claims.{AcceptedIsGood, GoodIsAccepted, RefusedIsBlamed, RaisePosts, RaisePostsNothing, RaiseChecksFirst, RaiseIsItsCalls}
use Rattle.lines.specs.LinesRows.{LinesRows}

pub of_rows : LinesRows
of_rows = lines_rows

pub of_tables : AcceptedIsGood × GoodIsAccepted × RefusedIsBlamed
of_tables = (accepted_is_good, good_is_accepted, refused_is_blamed)

pub of_raising : RaisePosts × RaisePostsNothing × RaiseChecksFirst × RaiseIsItsCalls
of_raising = (raise-posts, raise_posts_nothing, raise_checks_first, raise_is_its_calls)
