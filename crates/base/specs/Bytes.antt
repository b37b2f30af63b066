-- Numbers in files, the low byte first, and the areas that a caller lends.
use Rattle.std.specs.Prelude.{ℕ, zero, suc, ◌+◌, ◌*◌, ◌/◌, ◌%◌, Bool, true, false, ◌&&◌, List, [], ◌∷◌, map, length, get_or, replicate, leb}

-- the byte at position p; past the end it is 0
abbrev pub byte_at : List ℕ → ℕ → ℕ
byte_at bytes p = get_or bytes p 0

-- the number in `width` bytes from position p on, the low byte first
unfoldable pub number_at : ℕ → List ℕ → ℕ → ℕ
number_at zero bytes p = 0
number_at (suc width) bytes p = byte_at bytes p + 256 * number_at width bytes (p + 1)

-- a number as `width` bytes, the low byte first
unfoldable pub number_bytes : ℕ → ℕ → List ℕ
number_bytes zero n = []
number_bytes (suc width) n = n % 256 ∷ number_bytes width (n / 256)

-- each lent area is at least as long as the length asked for it
unfoldable pub long_enough : List ℕ → List (List ℕ) → Bool
long_enough [] areas = true
long_enough (n ∷ ns) [] = false
long_enough (n ∷ ns) (area ∷ areas) = leb n (length area) && long_enough ns areas

-- every lent area all zero, also beyond the length asked for
unfoldable pub cleared : List (List ℕ) → List (List ℕ)
cleared areas = map (λ area. replicate (length area) 0) areas
