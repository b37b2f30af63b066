-- Texts as bytes, so that words and books can be written as they are read.
use Rattle.std.specs.Prelude.{ℕ, List, [], ◌∷◌}
use Prim.Native.Char.{Char, code}
use Prim.Native.String.{String}
use Prim.Native.String as S

-- the byte of a character of ASCII
abbrev pub byte : Char → ℕ
byte c = code c

-- the bytes of a text of ASCII
unfoldable pub ascii : String → List ℕ
ascii S.[] = []
ascii (S.◌∷◌ c s) = byte c ∷ ascii s
