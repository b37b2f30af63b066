-- Refusals 11 and 20 say what the papers say: distinct ones that count more than 1,000 are reached, or one that gives over 16 alternatives. The
-- search's own count is never spoken of.
use Prim.Native.Nat.{ℕ}
use mathlib.Core.Path.{◌≡◌, subst}
use mathlib.Core.Logic.{◌↔◌}
use mathlib.Core.Bool.{true, false}
use Rattle.std.specs.Prelude.{Option, Some}
use mathlib.Core.List.{List, [], ◌∷◌, ◌++◌, map, Memᴰ}
use native.Mathlib.Omega.{arith}
use borrow.Author.Tests.{ltb-true}
use Rattle.base.specs.Lists.{below, total}
use Rattle.base.proofs.Lists.{true_by, present_map_in, present_map_out, below_mem, some_one, some_at, some_of_mem, some_none}
use Rattle.base.proofs.Search.{Reached, start, onward, search_reached, search_finds, search_at_most, search_distinct}
use Rattle.logic.specs.Tower.{Tower, Listed}
use Rattle.logic.specs.Book.{Book}
use Rattle.logic.specs.Runs.{leads}
use Rattle.logic.specs.Tables.{Table, rows_tower}
use Rattle.logic.proofs.Leads.{leads_nil, leads_out, snoc_in}
use Rattle.alternatives.specs.Pairs.{Pair, same_pair, first_pair, pair_step, pair_followers, pairs, pair_weight, over_full, over_pairs, over_alternatives, most_pairs}
use Rattle.alternatives.proofs.Weights.{pairs_few}
use Rattle.alternatives.proofs.Same.{same_pair_eq, same_pair_refl}
use Rattle.alternatives.proofs.Steps.{pair_step_listed, spare_not_over, over_full_out, Spare}
use Rattle.outcome.specs.Check.{over_items}
use Rattle.outcome.specs.Reached.{ReachedPair, ReachedItem, MoreThan, GivesOver}

-- what moves lead to is reached by going to followers, if every move goes to one
led_reached : {X : Type 0} (move : X → ℕ → Option X) (followers : X → List X)
    → ((x y : X) (a : ℕ) → move x a ≡ Some y → Memᴰ y (followers x)) → (x y z : X) (w : List ℕ) → Reached followers x y
    → leads move y w ≡ Some z → Reached followers x z
led_reached move followers goes x y z [] r e = subst (Reached followers x) (some_one (leads_nil move y) e) r
led_reached move followers goes x y z (a ∷ w) r e =
    let (t, to, on) = leads_out move y z a w e in led_reached move followers goes x t z w (onward r (goes y t a to)) on

-- what is reached by going to followers is led to by moves, if every follower is moved to
reached_led : {X : Type 0} (move : X → ℕ → Option X) (followers : X → List X)
    → ((x y : X) → Memᴰ y (followers x) → (a : ℕ) × (move x a ≡ Some y)) → (x y : X) → Reached followers x y
    → (w : List ℕ) × (leads move x w ≡ Some y)
reached_led move followers goes x y start = ([], leads_nil move x)
reached_led move followers goes x y (onward {y = z} r m) = further (reached_led move followers goes x z r) (goes z y m)
  where
    further : (w : List ℕ) × (leads move x w ≡ Some z) → (a : ℕ) × (move z a ≡ Some y) → (w : List ℕ) × (leads move x w ≡ Some y)
    further (w, e) (a, f) = (w ++ (a ∷ []), snoc_in move x z y w a e f)

-- ---- pairs

module _ (tower : Tower) (book : Book) (listed : Listed tower) where
  -- a pair is reached by followers exactly if some run over unbroken steps leads to it
  pub pair_reached : (v : Pair) → Reached (pair_followers tower book) (first_pair tower book) v ↔ ReachedPair tower book v
  unfolding ReachedPair pair_followers
  pair_reached v = (
    λ r.
        reached_led (pair_step tower book) (pair_followers tower book)
        (λ x y m. let (a, _, e) = present_map_out (pair_step tower book x) (below tower.actions) m in (a, e))
        (first_pair tower book) v r,
    λ (w, e).
        led_reached (pair_step tower book) (pair_followers tower book)
        (λ x y a e.
        present_map_in (pair_step tower book x) (below tower.actions) (below_mem tower.actions a (pair_step_listed tower book listed x y a e)) e)
        (first_pair tower book) (first_pair tower book) v w start e,
  )

  -- the pairs are reached
  pub pairs_reached : (v : Pair) → Memᴰ v (pairs tower book) → ReachedPair tower book v
  unfolding pairs
  pairs_reached v m =
      (pair_reached v).0 (search_reached same_pair (pair_followers tower book) pair_weight most_pairs (first_pair tower book) m)

  -- 11 exactly if distinct pairs are reached over unbroken steps that count more than 1,000
  pub over_pairs_iff : over_pairs tower book ≡ true ↔ MoreThan most_pairs (ReachedPair tower book)
  unfolding MoreThan over_pairs pairs
  over_pairs_iff = (
    λ e. (
      pairs tower book,
      ltb-true most_pairs (total (map pair_weight (pairs tower book))) e,
      search_distinct same_pair (pair_followers tower book) pair_weight most_pairs (first_pair tower book) same_pair_eq same_pair_refl,
      pairs_reached,
    ),
    λ (vs, many, distinct, all).
        true_by (over_pairs tower book)
        (λ few.
        let fewer = search_at_most same_pair (pair_followers tower book) pair_weight most_pairs (first_pair tower book) same_pair_eq same_pair_refl
        (pairs_few tower book few) vs distinct (λ v m. (pair_reached v).1 (all v m)) in
        omega arith),
  )

  module _ (few : over_pairs tower book ≡ false) where
    -- where it is not 11, all that are reached are among the pairs
    pub pairs_all : (v : Pair) → ReachedPair tower book v → Memᴰ v (pairs tower book)
    unfolding pairs
    pairs_all v reached =
        search_finds same_pair (pair_followers tower book) pair_weight most_pairs (first_pair tower book) same_pair_eq same_pair_refl
        (pairs_few tower book few) ((pair_reached v).1 reached)

    -- and then it is 20 exactly if one that is reached, tried by some enabled action, gives over 16 alternatives
    pub over_alternatives_iff : over_alternatives tower book ≡ true ↔ GivesOver tower book
    unfolding over_alternatives
    over_alternatives_iff = (
      λ e.
          let (v, m, full) = some_at (over_full tower book) (pairs tower book) e in
          let (a, y, enabled, many) = over_full_out tower book v full in
          record { pair = v; reached = pairs_reached v m; action = a; state = y; enabled = enabled; many = many },
      λ gives.
          some_of_mem (over_full tower book) (pairs_all gives.pair gives.reached)
          (true_by (over_full tower book gives.pair)
          (λ spare. spare_not_over tower book listed gives.pair gives.action gives.state spare gives.enabled gives.many)),
    )

    -- where it is neither, no pair that is reached is over_full
    pub never_over : over_alternatives tower book ≡ false → Spare tower book (first_pair tower book)
    unfolding over_alternatives ReachedPair
    never_over narrow u w e = some_none (over_full tower book) narrow (pairs_all w (u, e))

-- ---- rows with what is pending

-- 11 exactly if distinct rows with what is pending are reached over unbroken allowed steps that count more than 1,000
pub over_items_iff : (tower : Tower) (book : Book) (table : Table) → Listed (rows_tower tower table)
    → over_items tower book table ≡ true ↔ MoreThan most_pairs (ReachedItem tower book table)
unfolding over_items ReachedItem
over_items_iff tower book table listed = over_pairs_iff (rows_tower tower table) book listed

-- where it is not 11, 20 exactly if one that is reached, tried by some allowed action, gives over 16 alternatives
pub over_full_items_iff : (tower : Tower) (book : Book) (table : Table) → Listed (rows_tower tower table) → over_items tower book table ≡ false
    → over_alternatives (rows_tower tower table) book ≡ true ↔ GivesOver (rows_tower tower table) book
unfolding over_items
over_full_items_iff tower book table listed few = over_alternatives_iff (rows_tower tower table) book listed few
