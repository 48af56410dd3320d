-- `store_words` meets its contract: what the check accepts has the program's contents. Assumes nothing.
use Rattle.std.proofs.Common.{arith}
use Rattle.model.proofs.ProgramLaws.{check-passed}
use Rattle.image.proofs.store_words.Goals as goal
use Rattle.image.proofs.store_words.Goals.{then-program-lt6-via-then-program-lt6, then-program-lt6-via-else-program-lt6+then-program-gt1024}

pub returns-then-program-lt6 : goal.returns-then-program-lt6
returns-then-program-lt6 c = record {
  most = omega arith;
  enough = λ e.
      let s = check-passed _ e in
      let six = s.rows.contents.six in
      let most = s.rows.contents.most_memory in
      elim c.then-program-lt6.branch [
        | then-program-lt6-via-then-program-lt6 w ↦ absurd (omega arith)
        | then-program-lt6-via-else-program-lt6+then-program-gt1024 w ↦ absurd (omega arith)
      ];
}
