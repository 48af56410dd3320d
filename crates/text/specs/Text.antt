-- Numbers as text, in decimal and in hex, parted by single spaces. A number below 256 is a byte; `code` is a character's. Assumes nothing.
use Prim.Native.Char.{code}
use Rattle.std.specs.Prelude.{ℕ, zero, suc, ◌+◌, ◌-◌, ◌/◌, ◌%◌, List, [], ◌∷◌, ◌++◌, leb, ltb}
use Rattle.model.specs.Test.{pick, ◌and◌}

-- ---- In decimal

abbrev pub space : ℕ
space = code " "

-- with so many digits in front of the last at most
unfoldable pub decimal_of : ℕ → ℕ → List ℕ
decimal_of zero n = (code "0" + n % 10) ∷ []
decimal_of (suc k) n = pick (ltb n 10) ((code "0" + n) ∷ []) (decimal_of k (n / 10) ++ ((code "0" + n % 10) ∷ []))

unfoldable pub decimal : ℕ → List ℕ
decimal n = decimal_of n n

-- behind a space
unfoldable pub spaced : ℕ → List ℕ
spaced n = space ∷ decimal n

-- ---- Words in four capital hex digits

unfoldable pub hex_digit : ℕ → ℕ
hex_digit n = pick (ltb n 10) (code "0" + n) (code "A" + (n - 10))

unfoldable pub hex_word : ℕ → List ℕ
hex_word w = hex_digit (w / 4096 % 16) ∷ hex_digit (w / 256 % 16) ∷ hex_digit (w / 16 % 16) ∷ hex_digit (w % 16) ∷ []

-- each behind a space
unfoldable pub hex_words : List ℕ → List ℕ
hex_words [] = []
hex_words (w ∷ ws) = space ∷ hex_word w ++ hex_words ws

-- a byte's digit, in hex of either case; 16 where it has none
unfoldable pub digit : ℕ → ℕ
digit byte =
    pick (leb (code "0") byte and leb byte (code "9")) (byte - code "0")
    (pick (leb (code "A") byte and leb byte (code "F")) (byte - code "A" + 10)
    (pick (leb (code "a") byte and leb byte (code "f")) (byte - code "a" + 10) 16))
