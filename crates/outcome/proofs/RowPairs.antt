-- One pair for each row: the search for them is complete, and every pair that allowed actions lead to has exactly one row.
use Prim.Native.Nat.{ℕ, ◌≤◌, ◌<◌}
use mathlib.Core.Path.{◌≡◌, refl, sym, ap, subst, fun_ext, ◌∙◌}
use mathlib.Core.Logic.{◌⊎◌, inl, inr}
use mathlib.Core.Bool.{Bool, true}
use Rattle.std.specs.Prelude.{None, Some}
use mathlib.Core.List.{List, [], ◌∷◌, ◌++◌, Memᴰ}
use lib.ListN.{length, get_or}
use native.Mathlib.Omega.{arith}
use Rattle.base.specs.Lists.{some_of, below, place_of}
use Rattle.base.proofs.Lists.{same_truth, same_option_out, none-some, some_one, some_of_mem, mem_get_or, mem_along, present_map_out, present_map_in, below_mem, place_of_some, place_of_at}
use Rattle.base.specs.Search.{Apart, once}
use Rattle.base.proofs.Search.{Reached, start, onward, Fitting, apart_at, apart_few, few_once, search_first, search_reached, search_apart, search_all}
use Rattle.logic.specs.Tower.{Tower}
use Rattle.logic.specs.Book.{Book}
use Rattle.logic.specs.Runs.{leads}
use Rattle.logic.specs.TableFile.{most_rows}
use Rattle.logic.proofs.Leads.{leads_nil, leads_out, snoc_in}
use Rattle.alternatives.proofs.Weights.{pairs_most}
use Rattle.alternatives.specs.Pairs.{Pair, pairs, pair_weight, most_pairs, first_pair, pair_followers, same_pair}
use Rattle.outcome.specs.Game.{safe, safe_step}
use Rattle.outcome.specs.Rows.{one_row, safe_followers, row_pairs}
use Rattle.outcome.proofs.Alike.{Known, one_row_same, safe_step_out, safe_met, safe_listed, one_row_step}

-- the row of a pair: the place of the one that it makes a row with
unfoldable pub row_number : Tower → Book → Pair → ℕ
row_number tower book v = place_of (one_row tower book v) (row_pairs tower book)

-- the pair of row r
unfoldable pub pair_of : Tower → Book → ℕ → Pair
pair_of tower book r = get_or (row_pairs tower book) r (first_pair tower book)

-- Allowed actions lead to the pair from the start.
abbrev pub Led : Tower → Book → Pair → Type 0
Led tower book v = (w : List ℕ) × (leads (safe_step tower book) (first_pair tower book) w ≡ Some v)

-- The pair is met and safe.
pub record Stands (tower : Tower) (book : Book) (v : Pair) : Type 0 where
  pub met : Memᴰ v (pairs tower book)
  pub is_safe : safe tower book v ≡ true

module _ (tower : Tower) (book : Book) where
  -- What an allowed action leads to is a follower.
  follower_in : (v : Pair) (a : ℕ) (w : Pair) → a < tower.actions → safe_step tower book v a ≡ Some w
      → Memᴰ w (safe_followers tower book v)
  unfolding safe_followers
  follower_in v a w l e = present_map_in (safe_step tower book v) (below tower.actions) (below_mem tower.actions a l) e

  -- A follower is what an allowed action leads to.
  follower_out : (v w : Pair) → Memᴰ w (safe_followers tower book v) → (a : ℕ) × (safe_step tower book v a ≡ Some w)
  unfolding safe_followers
  follower_out v w m = let (a, n, e) = present_map_out (safe_step tower book v) (below tower.actions) m in (a, e)

  -- The start is led to.
  pub led_first : Led tower book (first_pair tower book)
  led_first = ([], leads_nil (safe_step tower book) (first_pair tower book))

  -- What an allowed action leads to from a pair that is led to is led to.
  pub led_step : (v : Pair) (a : ℕ) (w : Pair) → Led tower book v → safe_step tower book v a ≡ Some w → Led tower book w
  led_step v a w (u, e) f = (u ++ (a ∷ []), snoc_in (safe_step tower book) (first_pair tower book) v w u a e f)

  -- What holds of the first pair and passes on along allowed actions holds of every pair that is led to.
  pub led_all : (P : Pair → Type 0) → P (first_pair tower book)
      → ((v : Pair) (a : ℕ) (w : Pair) → P v → safe_step tower book v a ≡ Some w → P w) → (v : Pair) → Led tower book v → P v
  led_all P first pass v (u, e) = on u (first_pair tower book) v first e
    where
      on : (u : List ℕ) (v w : Pair) → P v → leads (safe_step tower book) v u ≡ Some w → P w
      on [] v w p e = subst P (some_one (leads_nil (safe_step tower book) v) e) p
      on (a ∷ u) v w p e = let (y, f, g) = leads_out (safe_step tower book) v w a u e in on u y w (pass v a y p f) g

  -- What the search for rows reaches is led to.
  reached_led : {v : Pair} → Reached (safe_followers tower book) (first_pair tower book) v → Led tower book v
  reached_led start = led_first
  reached_led (onward {y = y} {z = z} r m) = let (a, e) = follower_out y z m in led_step y a z (reached_led r) e

  -- The start is met.
  pub first_met : Memᴰ (first_pair tower book) (pairs tower book)
  unfolding pairs
  first_met =
      mem_along (sym (search_first same_pair (pair_followers tower book) pair_weight most_pairs (first_pair tower book)).1) (Memᴰ.head refl)

  -- The first pair is that of the first row.
  first_row : (rest : List Pair) × (row_pairs tower book ≡ first_pair tower book ∷ rest)
  unfolding row_pairs
  first_row = search_first (one_row tower book) (safe_followers tower book) once (length (pairs tower book)) (first_pair tower book)

  -- There is a row.
  pub rows_some : 0 < length (row_pairs tower book)
  rows_some = let (rest, e) = first_row in omega (arith, ap length e)

  -- The pair of row 0 is the first.
  pub pair_first : pair_of tower book 0 ≡ first_pair tower book
  unfolding pair_of
  pair_first = let (rest, e) = first_row in ap (λ (vs : List Pair). get_or vs 0 (first_pair tower book)) e

  -- The pairs of the rows are led to.
  pub pair_led : (r : ℕ) → r < length (row_pairs tower book) → Led tower book (pair_of tower book r)
  unfolding pair_of row_pairs
  pair_led r l =
      reached_led
      (search_reached (one_row tower book) (safe_followers tower book) once (length (pairs tower book)) (first_pair tower book)
      (mem_get_or (row_pairs tower book) r (first_pair tower book) l))

  -- The pairs of the rows are apart.
  rows_apart : Apart (one_row tower book) (row_pairs tower book)
  unfolding row_pairs
  rows_apart =
      search_apart (one_row tower book) (safe_followers tower book) once (length (pairs tower book)) (first_pair tower book)
      (one_row_same tower book)

  -- Rows whose pairs make one row are one.
  pub pairs_apart : (r s : ℕ) → r < length (row_pairs tower book) → s < length (row_pairs tower book)
      → one_row tower book (pair_of tower book r) (pair_of tower book s) ≡ true → r ≡ s
  unfolding pair_of
  pairs_apart r s k l e = apart_at (one_row_same tower book) (row_pairs tower book) r s (first_pair tower book) rows_apart k l e

  -- Pairs that make one row have one number.
  pub row_same : (v w : Pair) → one_row tower book v w ≡ true → row_number tower book v ≡ row_number tower book w
  unfolding row_number
  row_same v w e =
      ap (λ (test : Pair → Bool). place_of test (row_pairs tower book))
      (fun_ext λ x.
      same_truth (one_row tower book v x) (one_row tower book w x)
      (λ f. (one_row_same tower book).chained w v x ((one_row_same tower book).turned v w e) f)
      (λ f. (one_row_same tower book).chained v w x e f))

  module _ (known : Known tower book) where
    -- A pair that is led to is met and safe.
    pub led_stands : (v : Pair) → Led tower book v → Stands tower book v
    led_stands =
        led_all (Stands tower book) (record { met = first_met; is_safe = known.first_safe })
        (λ v a w s e. record { met = safe_met tower book known v a w s.met e; is_safe = (safe_step_out tower book v a w e).1 })

    -- What is led to is reached by the search for rows.
    led_reached : (v : Pair) → Led tower book v → Reached (safe_followers tower book) (first_pair tower book) v
    led_reached =
        led_all (Reached (safe_followers tower book) (first_pair tower book)) start
        (λ v a w r e. onward r (follower_in v a w (safe_listed tower book known v a w e) e))

    -- The test for one row fits the search for rows.
    fits : Fitting (one_row tower book) (safe_followers tower book) (first_pair tower book)
    fits =
        record {
          is_same = one_row_same tower book;
          respects = λ y z f r q e m.
              let (a, g) = follower_out y f m in
              respects y z f a g
              (same_option_out (one_row tower book) (safe_step tower book y a) (safe_step tower book z a)
              (one_row_step tower book known y z (led_stands y (reached_led r)).met (led_stands z (reached_led q)).met e a));
        }
      where
        respects : (y z f : Pair) (a : ℕ) → safe_step tower book y a ≡ Some f
            → ((safe_step tower book y a ≡ None) × (safe_step tower book z a ≡ None))
            ⊎ ((v : Pair) × ((w : Pair) × (safe_step tower book y a ≡ Some v) × (safe_step tower book z a ≡ Some w)
            × (one_row tower book v w ≡ true)))
            → (g : Pair) × Memᴰ g (safe_followers tower book z) × (one_row tower book f g ≡ true)
        respects y z f a e (inl (p, q)) = none-some p e
        respects y z f a e (inr (v, (w, p, q, o))) =
            (w, follower_in z a w (safe_listed tower book known z a w q) q, ap (λ x. one_row tower book x w) (some_one e p) ∙ o)

    -- There are no more rows than pairs.
    pub rows_few : length (row_pairs tower book) ≤ length (pairs tower book)
    unfolding row_pairs
    rows_few =
        apart_few (one_row_same tower book) (row_pairs tower book) (pairs tower book) rows_apart
        (λ y m. (
          y,
          (led_stands y
              (reached_led
              (search_reached (one_row tower book) (safe_followers tower book) once (length (pairs tower book)) (first_pair tower book) m))
              ).met,
          (one_row_same tower book).itself y,
        ))

    -- There are at most 1,000 rows.
    pub rows_limit : length (row_pairs tower book) ≤ most_rows
    unfolding most_rows
    rows_limit = omega (arith, pairs_most tower book known.few, rows_few)

    -- Every pair that is led to has a row.
    has_row : (v : Pair) → Led tower book v → some_of (one_row tower book v) (row_pairs tower book) ≡ true
    unfolding row_pairs
    has_row v l =
        let (w, m, e) =
        search_all (one_row tower book) (safe_followers tower book) once (length (pairs tower book)) (first_pair tower book) fits
        (few_once (length (pairs tower book)) (row_pairs tower book) rows_few)
        (led_reached v l) in
        some_of_mem (one_row tower book v) m e

    -- Its number is that of a row.
    pub row_inside : (v : Pair) → Led tower book v → row_number tower book v < length (row_pairs tower book)
    unfolding row_number
    row_inside v l = place_of_some (one_row tower book v) (row_pairs tower book) (has_row v l)

    -- It makes one row with the pair of that number.
    pub row_one : (v : Pair) → Led tower book v → one_row tower book v (pair_of tower book (row_number tower book v)) ≡ true
    unfolding row_number pair_of
    row_one v l = place_of_at (one_row tower book v) (row_pairs tower book) (first_pair tower book) (row_inside v l)

    -- A pair that makes one row with the pair of row r has that number.
    pub row_unique : (v : Pair) (r : ℕ) → Led tower book v → r < length (row_pairs tower book)
        → one_row tower book v (pair_of tower book r) ≡ true → row_number tower book v ≡ r
    row_unique v r l k e =
        pairs_apart (row_number tower book v) r (row_inside v l) k
        ((one_row_same tower book).chained (pair_of tower book (row_number tower book v)) v (pair_of tower book r)
        ((one_row_same tower book).turned v (pair_of tower book (row_number tower book v)) (row_one v l)) e)

    -- The number of the pair of row r is r.
    pub row_of_pair : (r : ℕ) → r < length (row_pairs tower book) → row_number tower book (pair_of tower book r) ≡ r
    row_of_pair r l = row_unique (pair_of tower book r) r (pair_led r l) l ((one_row_same tower book).itself (pair_of tower book r))

    -- The row of the first pair is row 0.
    pub row_first : row_number tower book (first_pair tower book) ≡ 0
    row_first = ap (row_number tower book) (sym pair_first) ∙ row_of_pair 0 rows_some
