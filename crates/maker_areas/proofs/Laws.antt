-- The eight areas are long enough: a law for each way through the test, and what the maker knows by its answer.
use Prim.Native.Nat.{ℕ, ◌≤◌, ◌<◌}
use mathlib.Core.Path.{◌≡◌, refl, sym, ◌∙◌}
use mathlib.Core.Bool.{Bool, true, false, ◌&&◌, and-true, and-false}
use mathlib.Core.List.{List, [], ◌∷◌}
use lib.ListN.{length}
use lib.Dec.{leb}
use borrow.Author.Tests.{leb-true, le-leb, lt-leb}
use Rattle.base.specs.Bytes.{long_enough}
use Rattle.base.proofs.Lists.{and_left, and_right}
use Rattle.outcome.specs.Areas.{check_areas, make_areas, flags_area, classes_area}
use Rattle.search_areas.proofs.Laws as Lent
use Rattle.search_areas.proofs.Laws.{eight_areas}
use Rattle.maker_areas.specs.Lent.{Room}

-- ---- long_enough

module _ (n p i g s m f c : List ℕ) where
  -- what is asked of the eight areas
  abbrev enough : Bool
  enough = long_enough make_areas (n ∷ p ∷ i ∷ g ∷ s ∷ m ∷ f ∷ c ∷ [])

  pub short_flags : length f < flags_area → false ≡ enough
  short_flags l = sym (rw (eight_areas n p i g s m f c, lt-leb flags_area (length f) l, and-false))

  module _ (b : Bool) (is_b : b ≡ long_enough check_areas (n ∷ p ∷ i ∷ g ∷ s ∷ m ∷ [])) where
    pub short_lent : b ≡ false → false ≡ enough
    short_lent e = sym (rw (eight_areas n p i g s m f c, ← is_b, e))

    pub classes_decide : b ≡ true → flags_area ≤ length f → leb classes_area (length c) ≡ enough
    classes_decide e l =
        sym (rw (eight_areas n p i g s m f c, ← is_b, e, le-leb flags_area (length f) l) (and-true (leb classes_area (length c))))

-- ---- what the answer says

-- The areas are long enough.
pub room_there : (nodes pairs index graph sets room flags classes : List ℕ) (b : Bool)
    → b ≡ long_enough make_areas (nodes ∷ pairs ∷ index ∷ graph ∷ sets ∷ room ∷ flags ∷ classes ∷ []) → b ≡ true
    → Room nodes pairs index graph sets room flags classes
room_there nodes pairs index graph sets room flags classes b is_b e =
    let c = leb classes_area (length classes) && true in
    let f = leb flags_area (length flags) && c in
    let six = long_enough check_areas (nodes ∷ pairs ∷ index ∷ graph ∷ sets ∷ room ∷ []) in
    let all = sym (eight_areas nodes pairs index graph sets room flags classes) ∙ sym is_b ∙ e in
    let from_f = and_right six f all in
    let from_c = and_right (leb flags_area (length flags)) c from_f in
    record {
      lent = Lent.room_there nodes pairs index graph sets room six refl (and_left six f all);
      flags_room = leb-true flags_area (length flags) (and_left (leb flags_area (length flags)) c from_f);
      classes_room = leb-true classes_area (length classes) (and_left (leb classes_area (length classes)) true from_c);
    }
