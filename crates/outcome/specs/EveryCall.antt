-- What is to hold of every call of an entry, whatever its files are: which numbers it may refuse with, and what becomes of the lent areas.
use Rattle.std.specs.Prelude.{ℕ, ◌≡◌, ◌↔◌, true, false, List, [], ◌∷◌, eqb}
use Rattle.base.specs.Lists.{some_of}
use Rattle.base.specs.Bytes.{long_enough, cleared}
use Rattle.base.specs.Answers.{Said, refused}

-- 01, 'Why a call is turned down', and 02: the numbers of each entry, in the papers' order

unfoldable pub book_numbers : List ℕ
book_numbers = 15 ∷ 2 ∷ 6 ∷ 7 ∷ 8 ∷ 9 ∷ 10 ∷ []

unfoldable pub make_numbers : List ℕ
make_numbers = 15 ∷ 1 ∷ 2 ∷ 3 ∷ 4 ∷ 5 ∷ 6 ∷ 7 ∷ 8 ∷ 9 ∷ 10 ∷ 11 ∷ 20 ∷ 12 ∷ 16 ∷ []

unfoldable pub check_numbers : List ℕ
check_numbers = 15 ∷ 1 ∷ 2 ∷ 3 ∷ 4 ∷ 5 ∷ 6 ∷ 7 ∷ 8 ∷ 9 ∷ 10 ∷ 13 ∷ 14 ∷ 11 ∷ 20 ∷ []

unfoldable pub follow_numbers : List ℕ
follow_numbers = 13 ∷ 17 ∷ 18 ∷ []

unfoldable pub log_numbers : List ℕ
log_numbers = 1 ∷ 2 ∷ 3 ∷ 4 ∷ 5 ∷ 13 ∷ 14 ∷ 19 ∷ []

-- If it is a refusal, its number is one of these.
unfoldable pub RefusesWith : List ℕ → Said → Type 0
RefusesWith numbers said = (number place : ℕ) (inside : List ℕ) → said ≡ refused number place inside → some_of (eqb number) numbers ≡ true

-- The lent areas, of which these lengths are asked, before and after a call that may have been refused with 15.
pub record AreasRight (lengths : List ℕ) (areas : List (List ℕ)) (Refused_15 : Type 0) (after : List (List ℕ)) : Type 0 where
  -- 15 is answered exactly if an area is too short,
  pub exactly : Refused_15 ↔ (long_enough lengths areas ≡ false)
  -- and then every area is as it was;
  pub untouched : Refused_15 → after ≡ areas
  -- in every other case every area is zero over its whole length.
  pub zero : (Refused_15 → ⊥) → after ≡ cleared areas
