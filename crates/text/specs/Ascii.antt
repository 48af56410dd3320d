-- A text as bytes, in ASCII. Assumes nothing.
use Prim.Native.Char.{code}
use Rattle.std.specs.Prelude.{ℕ, List, [] as no_bytes, ◌∷◌ as byte-and}
use Prim.Native.String.{String, [], ◌∷◌}

abbrev pub ascii : String → List ℕ
ascii [] = no_bytes
ascii (first ∷ rest) = byte-and (code first) (ascii rest)
