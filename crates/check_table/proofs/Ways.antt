-- The checker's areas are long enough, so that 15 never comes.
use mathlib.Core.Path.{◌≡◌}
use mathlib.Core.Bool.{true}
use mathlib.Core.List.{List, [], ◌∷◌}
use Prim.Native.Nat.{ℕ}
use native.Mathlib.Omega.{arith}
use lib.ListN.{length}
use borrow.Author.Tests.{le-leb}
use Rattle.base.specs.Bytes.{long_enough}
use Rattle.base.specs.Answers.{Verdict}
use Rattle.outcome.specs.Areas.{check_areas, book_area, pairs_area, index_area, graph_area, sets_area, room_area}
use Rattle.outcome.specs.Check.{checked_file, verdict, check_outcome}
use Rattle.checker.specs.Checking.{Checks}

enough : (a b c d e f : List ℕ) → length a ≡ book_area → length b ≡ pairs_area → length c ≡ index_area → length d ≡ graph_area
    → length e ≡ sets_area → length f ≡ room_area → long_enough check_areas (a ∷ b ∷ c ∷ d ∷ e ∷ f ∷ []) ≡ true
unfolding long_enough check_areas
enough a b c d e f p q r s t u =
    rw (
      le-leb book_area (length a) (omega arith),
      le-leb pairs_area (length b) (omega arith),
      le-leb index_area (length c) (omega arith),
      le-leb graph_area (length d) (omega arith),
      le-leb sets_area (length e) (omega arith),
      le-leb room_area (length f) (omega arith),
    )

pub check_way : (r : Verdict) (tower text table a b c d e f a' b' c' d' e' f' : List ℕ) → Checks r tower text table a b c d e f a' b' c' d' e' f'
    → length a ≡ book_area → length b ≡ pairs_area → length c ≡ index_area → length d ≡ graph_area → length e ≡ sets_area → length f ≡ room_area
    → r ≡ verdict (checked_file tower text table)
unfolding check_outcome
check_way r tower text table a b c d e f a' b' c' d' e' f' checks p q s t u v = rw (enough a b c d e f p q s t u v) at checks.answer
