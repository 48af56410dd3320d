-- docs/PLAY.md, "On wish": the parts of a store that are printed behind a call's line, and what uncut recovery would leave. Assumes nothing.
use Rattle.model.specs.Types.{Checked, Err, Ok}
use Rattle.std.specs.Prelude.{ℕ, Bool, List, [], ◌++◌}
use Rattle.model.specs.Calls.{Recovery, recovered, refused, unfinished, recovery}
use Rattle.model.specs.Check.{contents_rule}
use Rattle.model.specs.Control.{obey_all, early_rules}
use Rattle.model.specs.Demand3.{recovery_steps}
use Rattle.model.specs.Store.{view, waiting, store_rule}
use Rattle.model.specs.Test.{pick, ◌then◌}
use Rattle.text.specs.Ascii.{ascii}
use Rattle.trace.specs.Trace.{refused_part, memory_part, control_part, queue_part, recovery_line}
use Rattle.wishes.specs.declared.Wishes.{Wishes}
use Rattle.words.specs.Words.{refused_words}

-- ---- "shown only of a store whose contents can be relied on, by 1, 2, 3 and 6 (and the queue by those parts of 7 that a post looks at, too)"

unfoldable pub relied : List ℕ → List ℕ → Checked
relied p s = contents_rule p then store_rule p s

unfoldable pub queue_relied : List ℕ → List ℕ → Checked
queue_relied p s = relied p s then obey_all (early_rules p (view s))

-- "otherwise there is one line"
unfoldable pub if_relied : Bool → ℕ → List ℕ → Checked → List ℕ → List ℕ
if_relied tabs n label (Ok _) part = part
if_relied tabs n label (Err r) part = refused_part tabs n label (refused_words r)

-- ---- The parts, behind the line of number n

unfoldable pub memory_shown : Bool → ℕ → List ℕ → List ℕ → List ℕ → List ℕ
memory_shown tabs n label p s = if_relied tabs n label (relied p s) (memory_part tabs n label (view s).memory)

unfoldable pub control_shown : Bool → ℕ → List ℕ → List ℕ → List ℕ
control_shown tabs n p s = if_relied tabs n (ascii "control") (relied p s) (control_part tabs n s)

unfoldable pub queue_shown : Bool → ℕ → List ℕ → List ℕ → List ℕ → List ℕ
queue_shown tabs n label p s = if_relied tabs n label (queue_relied p s) (queue_part tabs n label (waiting (view s)))

-- "Recovery is a cut, a boot, then steps while the phase isn't 0, on a copy; what refuses it is told". With as many steps as it takes, none is unfinished.
unfoldable pub recovery_left : Bool → ℕ → ℕ → List ℕ → List ℕ → List ℕ
recovery_left tabs n k p s =
    recovery_line tabs n k (view s).task (view s).open_number ++ memory_shown tabs n (ascii "recovery memory") p s ++ queue_shown tabs n (ascii "recovery queue") p s

unfoldable pub recovery_part : Bool → ℕ → List ℕ → Recovery → List ℕ
recovery_part tabs n p (recovered k s) = recovery_left tabs n k p s
recovery_part tabs n p (refused r) = refused_part tabs n (ascii "recovery") (refused_words r)
recovery_part tabs n p unfinished = []

unfoldable pub recovery_shown : Bool → ℕ → List ℕ → List ℕ → List ℕ
recovery_shown tabs n p s = recovery_part tabs n p (recovery p (recovery_steps (view s)) s)

-- "in this order"
unfoldable pub parts : Wishes → ℕ → List ℕ → List ℕ → List ℕ
parts w n p s =
    pick w.memory (memory_shown w.tabs n (ascii "memory") p s) []
    ++ pick w.control (control_shown w.tabs n p s) []
    ++ pick w.queue (queue_shown w.tabs n (ascii "queue") p s) []
    ++ pick w.recovery (recovery_shown w.tabs n p s) []
