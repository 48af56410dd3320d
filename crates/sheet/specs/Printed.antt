-- What the library promises of the texts that it hands out, and that these, one behind the other, are the sheet. The promises speak of what
-- is still to be printed: whatever bytes of the schedule follow, the sheet that was left is the text and the sheet that is left now. So it
-- doesn't matter in what pieces the schedule comes. They hold for the store and the device that the library left before: of words that
-- anything else has written, a call promises only that it ends and stays inside what it was lent. Assumes nothing.
use Rattle.std.specs.Prelude.{ℕ, ◌+◌, ◌^◌, ◌≤◌, ◌<◌, Bool, false, List, [], ◌∷◌, ◌++◌, ◌≡◌, length, take, Ok}
use Rattle.image.specs.Image.{Loads, StoreWords}
use Rattle.image.specs.declared.Loaded.{Loaded}
use Rattle.model.specs.Calls.{Call, after_calls, recovered, recovery}
use Rattle.model.specs.Check.{check}
use Rattle.model.specs.Demand3.{recovery_steps}
use Rattle.model.specs.Device.{off}
use Rattle.model.specs.Program.{memory_words}
use Rattle.model.specs.Store.{view, formatted, store_length}
use Rattle.model.specs.Test.{pick}
use Rattle.model.specs.Types.{Checked}
use Rattle.model.specs.declared.Device.{Device}
use Rattle.sheet.specs.Sheet.{lines_from, header, recovered_memory, if_checked, sheet_lines, sheet}
use Rattle.sheet.specs.declared.State.{State}

-- ---- What is held between two bytes of the schedule

-- number and line: the next call's, as far as it has come
pub record SheetState : Type 0 where
  pub store : List ℕ
  pub device : Device
  pub number : ℕ
  pub line : List ℕ
  pub ended : Bool

-- the code's, with the lent store
abbrev pub holding : State → List ℕ → SheetState
holding state s =
    record { store = s; device = state.device; number = state.number; line = take state.held state.line; ended = state.ended }

-- the sheet that is left, of these lines of the schedule and of these bytes
unfoldable pub lines_left : List ℕ → SheetState → List (List ℕ) → List ℕ
lines_left p h lines = pick h.ended [] (sheet_lines p h.store h.device h.number lines)

unfoldable pub left : List ℕ → SheetState → List ℕ → List ℕ
left p h bytes = lines_left p h (lines_from h.line bytes)

-- a store and a device that some list of calls on the fresh store leads to
pub record Reached (p s : List ℕ) (d : Device) : Type 0 where
  pub accepted : check p ≡ Ok tt
  pub calls : List Call
  pub store : (after_calls p (formatted p 1 1) off calls).store ≡ s
  pub device : (after_calls p (formatted p 1 1) off calls).device ≡ d

-- while the sheet goes on, its store and device are such, and the copy that is lent has as many words, n, as the store
abbrev pub Ready : List ℕ → SheetState → ℕ → Type 0
Ready p h n = h.ended ≡ false → Reached p h.store h.device × (n ≡ length h.store)

-- ---- What each function promises

-- where the check accepts the program, a store of n words is one for it
abbrev pub Fits : Checked → List ℕ → ℕ → Type 0
Fits c p n = c ≡ Ok tt → (check p ≡ Ok tt) × (n ≡ store_length (memory_words p) 1 1)

-- begin, on a store of n words: what was checked as c printed xs and left h
pub record Begins (c : Checked) (p : List ℕ) (n : ℕ) (xs : List ℕ) (h : SheetState) : Type 0 where
  pub ready : Ready p h n
  pub number : h.number ≡ 1
  pub text : (schedule : List ℕ) → header ++ if_checked c (sheet_lines p (formatted p 1 1) off 1 (lines_from [] schedule)) ≡ xs ++ left p h schedule

-- feed: the bytes fed took h to g and printed xs
pub record Feeds (p : List ℕ) (n : ℕ) (h : SheetState) (fed xs : List ℕ) (g : SheetState) : Type 0 where
  pub ready : Ready p g n
  pub number : g.number ≤ h.number + length fed
  pub text : h.number + length fed < 2 ^ 64 → (more : List ℕ) → left p h (fed ++ more) ≡ xs ++ left p g more

-- ---- The sheet

-- a piece of the schedule that a host fed, and the text that it was handed
pub record Piece : Type 0 where
  pub fed : List ℕ
  pub text : List ℕ

unfoldable pub all_fed : List Piece → List ℕ
all_fed [] = []
all_fed (x ∷ xs) = x.fed ++ all_fed xs

unfoldable pub all_text : List Piece → List ℕ
all_text [] = []
all_text (x ∷ xs) = x.text ++ all_text xs

-- pieces fed one after the other, from h to g
unfoldable pub FeedsAll : List ℕ → ℕ → SheetState → List Piece → SheetState → Type 0
FeedsAll p n h [] g = h ≡ g
FeedsAll p n h (x ∷ xs) g = (k : SheetState) × (Ready p h n → Feeds p n h x.fed x.text k) × FeedsAll p n k xs g

-- finish: what is left where no more bytes follow
abbrev pub Finishes : List ℕ → ℕ → SheetState → List ℕ → Type 0
Finishes p n h xs = Ready p h n → h.number + 1 < 2 ^ 64 → left p h [] ≡ xs

-- The texts that a host is handed, in order, are the sheet: it loads an image, lends as many words as it is told for the store and for the
-- copy, begins, feeds a schedule in pieces, and finishes.
abbrev pub TextsAreTheSheet : Type 0
TextsAreTheSheet =
    (image words : List ℕ) (loaded : Loaded) → Loads image words loaded
    → (n : ℕ) → StoreWords (take loaded.length words) n
    → (first : List ℕ) (h : SheetState)
    → (Fits loaded.checked (take loaded.length words) n → Begins loaded.checked (take loaded.length words) n first h)
    → (pieces : List Piece) (g : SheetState) → FeedsAll (take loaded.length words) n h pieces g
    → (last : List ℕ) → Finishes (take loaded.length words) n g last
    → length (all_fed pieces) + 2 < 2 ^ 64
    → first ++ all_text pieces ++ last ≡ sheet image (all_fed pieces)

-- "the words that uncut recovery would leave": wherever a sheet is cut, recovery isn't refused, and ends
abbrev pub RecoveryIsPrinted : Type 0
RecoveryIsPrinted =
    (p s : List ℕ) (d : Device) → Reached p s d
    → (z : List ℕ) × (recovery p (recovery_steps (view s)) s ≡ recovered (recovery_steps (view s)) z) × (recovered_memory p s ≡ (view z).memory)
