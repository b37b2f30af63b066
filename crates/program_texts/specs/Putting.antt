-- Texts put into an array one behind the other.
use Rattle.std.specs.Prelude.{ℕ, suc, ◌≤◌, ◌≡◌, List, [], ◌∷◌, length, take, set, ltb}
use Rattle.base.specs.Choice.{pick}

-- An array and the position up to which it is filled.
pub record Filled : Type 0 where
  pub bytes : List ℕ
  pub at : ℕ

abbrev pub filled : List ℕ → ℕ → Filled
filled bytes at = record { bytes = bytes; at = at }

-- with one byte more; a full array stays as it is
unfoldable pub put_byte : Filled → ℕ → Filled
put_byte f b = pick (ltb f.at (length f.bytes)) (λ _. filled (set f.bytes f.at b) (suc f.at)) (λ _. f)

-- with a text more
unfoldable pub put : Filled → List ℕ → Filled
put f [] = f
put f (b ∷ text) = put (put_byte f b) text

-- What putting a text from `at` on leaves, and where it ends.
pub record Puts (end : ℕ) (text out : List ℕ) (at : ℕ) (after : List ℕ) : Type 0 where
  pub left : filled after end ≡ put (filled out at) text

-- A line stands whole at the start of the array, and so many bytes are its own.
pub record PrintedLine (count : ℕ) (text after : List ℕ) : Type 0 where
  pub within : count ≤ length after
  pub counted : count ≡ length (take count after)
  pub bytes : take count after ≡ text
