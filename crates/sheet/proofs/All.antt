-- All that is claimed of the sheet (specs/SheetRows.antt, specs/Printed.antt), with the theorems. The rows stand first: the prover begins with
-- this file, the first by name, so a wrong definition is refused at a row, and not at a law that repeats it. Assumes nothing.
use Rattle.sheet.proofs.Rows.{sheet-rows}
use Rattle.sheet.proofs.ReachedLaws.{recovery_is_printed}
use Rattle.sheet.proofs.SheetLaws.{texts_are_the_sheet}
use Rattle.sheet.specs.Printed.{TextsAreTheSheet, RecoveryIsPrinted}
use Rattle.sheet.specs.SheetRows.{SheetRows}

pub of_rows : SheetRows
of_rows = sheet-rows

pub of_texts : TextsAreTheSheet × RecoveryIsPrinted
of_texts = (texts_are_the_sheet, recovery_is_printed)
