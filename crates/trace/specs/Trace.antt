-- docs/PLAY.md, "What is printed": from a call's number, name, numbers and answer words to its line, and from a store to the lines that are
-- printed of it on wish. `tabs` tells the form: tab-separated, or for people. A number below 256 is a byte; `code` is a character's. Assumes nothing.
use Prim.Native.Char.{code}
use Rattle.std.specs.Prelude.{ℕ, zero, suc, ◌+◌, ◌-◌, ◌*◌, ◌/◌, ◌%◌, Bool, true, List, [], ◌∷◌, ◌++◌, eqb, leb, ltb, get_or, length, take, drop, replicate}
use Rattle.model.specs.Program.{word}
use Rattle.model.specs.Store.{Store, view, memory_at, log_at, queue_at}
use Rattle.model.specs.Test.{pick}
use Rattle.model.specs.declared.Record.{Record}
use Rattle.text.specs.Ascii.{ascii}
use Rattle.text.specs.Text.{space, decimal, spaced, hex_words}
use Rattle.script.specs.Script.{names, run_call, set_program_call, line_feed}

-- ---- Columns and cells

abbrev pub tab : ℕ
tab = code "\t"

-- "right-aligned in 6 columns (more, if it is longer)"
unfoldable pub aligned : ℕ → List ℕ
aligned n = replicate (6 - length (decimal n)) space ++ decimal n

-- "each of them one space more than its text if that is as long or longer"
unfoldable pub padded : ℕ → List ℕ → List ℕ
padded width text = text ++ (space ∷ replicate (width - 1 - length text) space)

-- ---- "The call is its name with its numbers, but .."

-- how many numbers are shown
unfoldable pub shown_counts : List ℕ
shown_counts = 0 ∷ 0 ∷ 0 ∷ 0 ∷ 0 ∷ 2 ∷ 0 ∷ 0 ∷ 0 ∷ 2 ∷ 1 ∷ 1 ∷ 0 ∷ 2 ∷ 2 ∷ 2 ∷ 1 ∷ 1 ∷ []

unfoldable pub shown_numbers : ℕ → ℕ
shown_numbers kind = get_or shown_counts kind 0

unfoldable pub call_text : ℕ → ℕ → ℕ → List ℕ
call_text kind first second =
    get_or names (kind - 1) []
    ++ pick (leb 1 (shown_numbers kind)) (spaced first) []
    ++ pick (leb 2 (shown_numbers kind)) (spaced second) []

-- ---- "The answer", of its words (include/runtime.h): case, kind of body, number, place

unfoldable pub body_text : List ℕ → List ℕ
body_text a = pick (eqb (word a 1) 0) (ascii " task") (ascii " event") ++ spaced (word a 2)

unfoldable pub accepted_text : List ℕ → List ℕ
accepted_text a = pick (eqb (word a 1) 1) (ascii "accepted, dropped" ++ spaced (word a 2) ++ spaced (word a 3)) (ascii "accepted")

unfoldable pub refused_text : List ℕ → List ℕ
refused_text a = ascii "refused" ++ spaced (word a 2) ++ spaced (word a 3) ++ spaced (word a 4)

-- by its case
unfoldable pub answer_texts : List ℕ → List (List ℕ)
answer_texts a =
    ascii "done"
    ∷ (ascii "chosen" ++ body_text a)
    ∷ ascii "worked"
    ∷ ascii "stored"
    ∷ (ascii "committed" ++ body_text a)
    ∷ accepted_text a
    ∷ refused_text a
    ∷ ascii "spent"
    ∷ ascii "no device"
    ∷ []

unfoldable pub answer_text : List ℕ → List ℕ
answer_text a = get_or (answer_texts a) (word a 0) (ascii "nothing posted")

-- "A run's begins with its steps"; "What is no call of the runtime has none."
unfoldable pub answer_cell : ℕ → ℕ → List ℕ → List ℕ
answer_cell kind steps a =
    pick (leb set_program_call kind) [] (pick (eqb kind run_call) (decimal steps ++ ascii " steps, ") [] ++ answer_text a)

-- ---- "What was stored": a word's name, in a store of m memory words and l log pairs

unfoldable pub control_names : List (List ℕ)
control_names =
    ascii "phase"
    ∷ ascii "task"
    ∷ ascii "open"
    ∷ ascii "count"
    ∷ ascii "pending"
    ∷ ascii "pending open"
    ∷ ascii "head"
    ∷ ascii "tail"
    ∷ ascii "begun"
    ∷ []

-- word i of a part whose words come in twos, by the names of the two
unfoldable pub pair_name : List ℕ → List ℕ → ℕ → List ℕ
pair_name even odd i = pick (eqb (i % 2) 0) even odd ++ spaced (i / 2)

unfoldable pub word_name : ℕ → ℕ → ℕ → List ℕ
word_name m l i =
    pick (ltb i 8) (ascii "contents")
    (pick (ltb i memory_at) (get_or control_names (i - 8) [])
    (pick (ltb i (log_at m)) (ascii "memory" ++ spaced (i - memory_at))
    (pick (ltb i (queue_at m l)) (pair_name (ascii "address") (ascii "value") (i - log_at m))
    (pair_name (ascii "event") (ascii "data") (i - queue_at m l)))))

-- of the store s after the call
abbrev pub name_in : List ℕ → ℕ → List ℕ
name_in s i = word_name (word s 1) (word s 2) i

-- 65535 is no word's index: nothing was stored
abbrev pub nothing_stored : ℕ
nothing_stored = 65535

-- ---- A call's line: number, call, answer, and the index of the stored word

unfoldable pub stored_column : List ℕ → ℕ → List ℕ
stored_column s i = decimal i ++ (space ∷ name_in s i) ++ ascii " =" ++ spaced (word s i)

unfoldable pub columns : List ℕ → List ℕ → List ℕ → ℕ → List ℕ
columns call answer s i =
    pick (eqb i nothing_stored)
    (pick (eqb (length answer) 0) call (padded 18 call ++ answer))
    (padded 18 call ++ padded 20 answer ++ stored_column s i)

unfoldable pub stored_cells : List ℕ → ℕ → List ℕ
stored_cells s i = pick (eqb i nothing_stored) (tab ∷ tab ∷ tab ∷ []) ((tab ∷ decimal i) ++ (tab ∷ name_in s i) ++ (tab ∷ decimal (word s i)))

unfoldable pub cells : List ℕ → List ℕ → List ℕ → ℕ → List ℕ
cells call answer s i = (tab ∷ call) ++ (tab ∷ answer) ++ stored_cells s i

unfoldable pub line : Bool → ℕ → List ℕ → List ℕ → List ℕ → ℕ → List ℕ
line tabs n call answer s i =
    pick tabs (decimal n ++ cells call answer s i) (aligned n ++ (space ∷ space ∷ columns call answer s i)) ++ (line_feed ∷ [])

-- the line of call n of this kind and these first numbers, whose answer has the words a; its sixth word is the stored word's index
unfoldable pub call_line : Bool → ℕ → ℕ → ℕ → ℕ → ℕ → List ℕ → List ℕ → List ℕ
call_line tabs n kind first second steps a s = line tabs n (call_text kind first second) (answer_cell kind steps a) s (word a 5)

-- "What can't be read": by the number of what is wrong
unfoldable pub wrong_texts : List (List ℕ)
wrong_texts =
    ascii "no call has this name"
    ∷ ascii "one number too many"
    ∷ ascii "a number has only digits"
    ∷ ascii "a number is too large"
    ∷ ascii "a number is missing"
    ∷ ascii "this stands before the calls"
    ∷ []

unfoldable pub unread_line : Bool → ℕ → ℕ → List ℕ
unread_line tabs n wrong = line tabs n (ascii "unread") (get_or wrong_texts (wrong - 1) []) [] nothing_stored

unfoldable pub header : Bool → List ℕ
header tabs =
    pick tabs (ascii "line\tcall\tanswer\tword\tname\tvalue\n") (ascii "  line  call              answer              stored\n")

-- ---- "On wish": a part of the store, in lines that begin with its label

-- "For people they begin with four spaces; with `--tabs` with the number of the call's line and a tab."
unfoldable pub labelled : Bool → ℕ → List ℕ → List ℕ
labelled tabs n label = pick tabs (decimal n ++ (tab ∷ label)) (ascii "    " ++ label)

-- what parts two cells, or two words
unfoldable pub parted : Bool → List ℕ → List ℕ
parted tabs text = pick tabs tab space ∷ text

abbrev pub numbered : Bool → ℕ → List ℕ
numbered tabs n = parted tabs (decimal n)

-- "otherwise there is one line, as `memory refused 6 0 0`": of a refusal's answer words
unfoldable pub refused_part : Bool → ℕ → List ℕ → List ℕ → List ℕ
refused_part tabs n label a =
    labelled tabs n label
    ++ parted tabs (ascii "refused")
    ++ numbered tabs (word a 2)
    ++ numbered tabs (word a 3)
    ++ numbered tabs (word a 4)
    ++ (line_feed ∷ [])

-- "in decimal", each in a cell
unfoldable pub decimal_cells : List ℕ → List ℕ
decimal_cells [] = []
decimal_cells (w ∷ ws) = (tab ∷ decimal w) ++ decimal_cells ws

-- "eight words a line, the first one's address, two spaces, words in four capital hex digits"
unfoldable pub words_line : Bool → ℕ → List ℕ → ℕ → List ℕ → List ℕ
words_line tabs n label first ws =
    labelled tabs n label ++ numbered tabs first ++ pick tabs (decimal_cells ws) (space ∷ hex_words ws) ++ (line_feed ∷ [])

-- line k
abbrev pub memory_line : Bool → ℕ → List ℕ → List ℕ → ℕ → List ℕ
memory_line tabs n label memory k = words_line tabs n label (8 * k) (take 8 (drop (8 * k) memory))

-- the first k lines
unfoldable pub memory_lines : Bool → ℕ → List ℕ → List ℕ → ℕ → List ℕ
memory_lines tabs n label memory zero = []
memory_lines tabs n label memory (suc k) = memory_lines tabs n label memory k ++ memory_line tabs n label memory k

unfoldable pub memory_part : Bool → ℕ → List ℕ → List ℕ → List ℕ
memory_part tabs n label memory = memory_lines tabs n label memory ((length memory + 7) / 8)

-- a value behind its name
unfoldable pub field : List ℕ → ℕ → List ℕ
field name x = name ++ spaced x

-- two values, in cells or behind their names
unfoldable pub fields : Bool → List ℕ → ℕ → List ℕ → ℕ → List ℕ
fields tabs first x second y = pick tabs ((tab ∷ decimal x) ++ (tab ∷ decimal y)) (field first x ++ field second y)

unfoldable pub control_columns : Store → List ℕ
control_columns v =
    field (ascii "    control phase") v.phase
    ++ field (ascii ", task") v.task
    ++ field (ascii ", open") v.open_number
    ++ field (ascii ", begun") v.begun
    ++ field (ascii ", head") v.head
    ++ field (ascii ", tail") v.tail

unfoldable pub commit_columns : Store → List ℕ
commit_columns v =
    field (ascii "\n    commit count") v.count ++ field (ascii ", pending") v.pending ++ field (ascii ", pending open") v.pending_open

-- "`control` and words 8 to 16"
unfoldable pub control_part : Bool → ℕ → List ℕ → List ℕ
control_part tabs n s =
    pick tabs (labelled true n (ascii "control") ++ decimal_cells (take 9 (drop 8 s))) (control_columns (view s) ++ commit_columns (view s)) ++ (line_feed ∷ [])

abbrev pub record_of : ℕ → ℕ → Record
record_of event datum = record { event = event; datum = datum }

-- "a line for each waiting record, oldest first", from position k on
unfoldable pub queue_line : Bool → ℕ → List ℕ → ℕ → Record → List ℕ
queue_line tabs n label k r =
    labelled tabs n label
    ++ numbered tabs k
    ++ fields tabs (ascii " event") r.event (ascii ", data") r.datum
    ++ (line_feed ∷ [])

unfoldable pub queue_lines : Bool → ℕ → List ℕ → ℕ → List Record → List ℕ
queue_lines tabs n label k [] = []
queue_lines tabs n label k (r ∷ rs) = queue_line tabs n label k r ++ queue_lines tabs n label (suc k) rs

-- "`queue empty` where there is none"
unfoldable pub empty_line : Bool → ℕ → List ℕ → List ℕ
empty_line tabs n label = labelled tabs n label ++ parted tabs (ascii "empty") ++ (line_feed ∷ [])

unfoldable pub queue_part : Bool → ℕ → List ℕ → List Record → List ℕ
queue_part tabs n label [] = empty_line tabs n label
queue_part tabs n label (r ∷ rs) = queue_lines tabs n label 0 (r ∷ rs)

-- "`recovery 5 steps, task 0, open 0`": the steps made, and the task and open number that are left
unfoldable pub recovery_line : Bool → ℕ → ℕ → ℕ → ℕ → List ℕ
recovery_line tabs n steps task open_number =
    labelled tabs n (ascii "recovery")
    ++ numbered tabs steps
    ++ fields tabs (ascii " steps, task") task (ascii ", open") open_number
    ++ (line_feed ∷ [])
