-- Document 01: "The host's totals (bodies committed, events accepted, stores made; 32 bits, staying at the largest value) are one
-- record that the host lends and a step updates." The totals by what a step finds and tells: the handler before it, its answer, and the word that it stored.
-- proofs/CountLaws.antt shows that these are the totals that the definition counts. Assumes nothing.
use Rattle.std.specs.Prelude.{ℕ, Option, Some, None}
use Rattle.model.specs.Calls.{more_by, one_if, is_commit, accepted_events}
use Rattle.model.specs.declared.Answer.{Answer}
use Rattle.model.specs.declared.Handler.{Handler}
use Rattle.model.specs.declared.Totals.{Totals}

-- how many stores that is
unfoldable pub stores : Option ℕ → ℕ
stores None = 0
stores (Some i) = 1

-- the totals after a step with this answer, which found handler h and stored this word
unfoldable pub counted_from : Totals → Handler → Answer → Option ℕ → Totals
counted_from t h a w =
    record {
      committed = more_by t.committed (one_if (is_commit a));
      accepted = more_by t.accepted (accepted_events h a);
      stores = more_by t.stores (stores w);
    }
