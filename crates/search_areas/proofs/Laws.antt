-- The six areas are long enough: a law for each way through the test, what checker and maker know by its answer, and what the maker's
-- test of eight areas is by it.
use Prim.Native.Nat.{ℕ, ◌≤◌, ◌<◌}
use mathlib.Core.Path.{◌≡◌, refl, sym, ◌∙◌}
use mathlib.Core.Bool.{Bool, true, false, ◌&&◌, and-true, and-false}
use mathlib.Core.List.{List, [], ◌∷◌}
use lib.ListN.{length}
use lib.Dec.{leb}
use borrow.Author.Tests.{leb-true, le-leb, lt-leb}
use Rattle.base.specs.Bytes.{long_enough}
use Rattle.base.proofs.Lists.{and_left, and_right}
use Rattle.outcome.specs.Areas.{book_area, pairs_area, index_area, graph_area, sets_area, room_area, flags_area, classes_area, check_areas, make_areas}
use Rattle.search_areas.specs.Lent.{Room}

-- ---- long_enough

module _ (n p i g s m : List ℕ) where
  -- what is asked of the six areas
  abbrev enough : Bool
  enough = long_enough check_areas (n ∷ p ∷ i ∷ g ∷ s ∷ m ∷ [])

  -- One area that is too short decides, whatever the others are.
  pub short_nodes : length n < book_area → false ≡ enough
  unfolding long_enough check_areas
  short_nodes l = sym (rw (lt-leb book_area (length n) l))

  pub short_pairs : length p < pairs_area → false ≡ enough
  unfolding long_enough check_areas
  short_pairs l = sym (rw (lt-leb pairs_area (length p) l, and-false))

  pub short_index : length i < index_area → false ≡ enough
  unfolding long_enough check_areas
  short_index l = sym (rw (lt-leb index_area (length i) l, and-false, and-false))

  pub short_graph : length g < graph_area → false ≡ enough
  unfolding long_enough check_areas
  short_graph l = sym (rw (lt-leb graph_area (length g) l, and-false, and-false, and-false))

  pub short_sets : length s < sets_area → false ≡ enough
  unfolding long_enough check_areas
  short_sets l = sym (rw (lt-leb sets_area (length s) l, and-false, and-false, and-false, and-false))

  -- Where the first five are long enough, the last one decides.
  pub room_decides : book_area ≤ length n → pairs_area ≤ length p → index_area ≤ length i → graph_area ≤ length g
      → sets_area ≤ length s → leb room_area (length m) ≡ enough
  unfolding long_enough check_areas
  room_decides ln lp li lg ls =
      rw (
        le-leb book_area (length n) ln,
        le-leb pairs_area (length p) lp,
        le-leb index_area (length i) li,
        le-leb graph_area (length g) lg,
        le-leb sets_area (length s) ls,
      )
      (sym (and-true (leb room_area (length m))))

-- ---- what the answer says

-- The areas are long enough.
pub room_there : (nodes pairs index graph sets room : List ℕ) (b : Bool)
    → b ≡ long_enough check_areas (nodes ∷ pairs ∷ index ∷ graph ∷ sets ∷ room ∷ []) → b ≡ true → Room nodes pairs index graph sets room
unfolding long_enough check_areas
room_there nodes pairs index graph sets room b is_b e =
    let all = sym is_b ∙ e in
    let m = leb room_area (length room) && true in
    let s = leb sets_area (length sets) && m in
    let g = leb graph_area (length graph) && s in
    let i = leb index_area (length index) && g in
    let p = leb pairs_area (length pairs) && i in
    let from_p = and_right (leb book_area (length nodes)) p all in
    let from_i = and_right (leb pairs_area (length pairs)) i from_p in
    let from_g = and_right (leb index_area (length index)) g from_i in
    let from_s = and_right (leb graph_area (length graph)) s from_g in
    let from_m = and_right (leb sets_area (length sets)) m from_s in
    record {
      nodes_room = leb-true book_area (length nodes) (and_left (leb book_area (length nodes)) p all);
      pairs_room = leb-true pairs_area (length pairs) (and_left (leb pairs_area (length pairs)) i from_p);
      index_room = leb-true index_area (length index) (and_left (leb index_area (length index)) g from_i);
      graph_room = leb-true graph_area (length graph) (and_left (leb graph_area (length graph)) s from_g);
      sets_room = leb-true sets_area (length sets) (and_left (leb sets_area (length sets)) m from_s);
      room_room = leb-true room_area (length room) (and_left (leb room_area (length room)) true from_m);
    }

-- ---- the maker's eight

-- A test behind six others is asked behind all six.
behind_six : (a b c d e f rest : Bool)
    → (a && (b && (c && (d && (e && (f && rest)))))) ≡ ((a && (b && (c && (d && (e && (f && true)))))) && rest)
behind_six false b c d e f rest = refl
behind_six true false c d e f rest = refl
behind_six true true false d e f rest = refl
behind_six true true true false e f rest = refl
behind_six true true true true false f rest = refl
behind_six true true true true true false rest = refl
behind_six true true true true true true rest = refl

-- The eight are long enough if the six are, and then flags and classes.
pub eight_areas : (n p i g s m f c : List ℕ)
    → long_enough make_areas (n ∷ p ∷ i ∷ g ∷ s ∷ m ∷ f ∷ c ∷ [])
    ≡ (long_enough check_areas (n ∷ p ∷ i ∷ g ∷ s ∷ m ∷ []) && (leb flags_area (length f) && (leb classes_area (length c) && true)))
unfolding long_enough check_areas make_areas
eight_areas n p i g s m f c =
    behind_six (leb book_area (length n)) (leb pairs_area (length p)) (leb index_area (length i)) (leb graph_area (length g))
    (leb sets_area (length s)) (leb room_area (length m)) (leb flags_area (length f) && (leb classes_area (length c) && true))
