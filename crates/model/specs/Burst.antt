-- N6, "Several events or none": a burst of records, as a post carries it and as a handler keeps it in eight words.
use Rattle.std.specs.Prelude.{ℕ, zero, suc, Bool, true, List, [], ◌∷◌, ◌++◌, ltb, leb, length, replicate, take}
use Rattle.model.specs.Program.{events}
use Rattle.model.specs.Store.{slot}
use Rattle.model.specs.Test.{◌and◌, must, ◌then◌}
use Rattle.model.specs.Types.{Checked, Ok, Record, Refusal}

-- "A burst of one to four events"
unfoldable pub is_burst : List Record → Bool
is_burst rs = leb 1 (length rs) and leb (length rs) 4

-- "A single post is a burst of one": event e with data x
abbrev pub single : ℕ → ℕ → List Record
single e x = record { event = e; datum = x } ∷ []

-- ---- as words, "each event and then its data"

-- k records of the words ws, from the i-th on
unfoldable pub records_at : List ℕ → ℕ → ℕ → List Record
records_at ws i zero = []
records_at ws i (suc k) = slot ws i ∷ records_at ws (suc i) k

-- the first n of them
abbrev pub carried : List ℕ → ℕ → List Record
carried ws n = records_at ws 0 n

unfoldable pub record_words : List Record → List ℕ
record_words [] = []
record_words (first ∷ rs) = first.event ∷ first.datum ∷ record_words rs

-- in eight words, 0 behind the last record
abbrev pub no_burst : List ℕ
no_burst = replicate 8 0

unfoldable pub burst_words : List Record → List ℕ
burst_words rs = take 8 (record_words rs ++ no_burst)

-- ---- the events

-- every event is below E
unfoldable pub known_events : List ℕ → List Record → Bool
known_events p [] = true
known_events p (first ∷ rs) = ltb first.event (events p) and known_events p rs

-- "It meets 8 at its first bad event (place: position from 0)": the records from position i on
unfoldable pub events_rule : List ℕ → ℕ → List Record → Checked
events_rule p i [] = Ok tt
events_rule p i (first ∷ rs) = must (ltb first.event (events p)) (Refusal.NoEvent i) then events_rule p (suc i) rs
