-- The table of the graph is the table over the list of rows: only the classes of pairs below n matter.
use Prim.Native.Nat.{ℕ, zero, suc, ◌≤◌, ◌<◌}
use native.Mathlib.Omega.{arith}
use mathlib.Core.Path.{◌≡◌, refl, sym, ◌∙◌, ap, ap₂}
use mathlib.Core.Logic.{⊎_elim}
use mathlib.Core.Bool.{Bool, true, false, ◌||◌}
use Rattle.std.specs.Prelude.{Option, None, Some}
use mathlib.Core.List.Memᴰ
use mathlib.Core.List.{List, [], ◌∷◌, ◌++◌, map, Memᴰ}
use lib.Dec.{eqb}
use Rattle.base.specs.Choice.{pick}
use Rattle.base.specs.Lists.{below, present, some_of, place_of}
use Rattle.base.specs.Search.{new_ones, search_on, search_from, once}
use Rattle.base.proofs.Lists.{mem_below, present_map_out}
use Rattle.logic.specs.Tables.{Step}
use Rattle.pair_graph.specs.GraphTable.{allowed, allowed_all, same_class, row_order, graph_step, graph_row, graph_table}
use Rattle.pair_graph.specs.Steps.{class_in, safe_in, state_in, led_to, FlaggedGraph}
use Rattle.maker_order.specs.Orders.{followers, same_in}
use Rattle.pair_graph.proofs.Moves.{allowed_below}
use Rattle.maker_file.specs.Writing.{graph_in, table_in, step_in, step_from, steps_in, row_in}

-- Each of them is below n.
abbrev Below : ℕ → List ℕ → Type 0
Below n xs = (y : ℕ) → Memᴰ y xs → y < n

below_first : (n x : ℕ) (xs : List ℕ) → Below n (x ∷ xs) → x < n
below_first n x xs h = h x (Memᴰ.head refl)

below_rest : (n x : ℕ) (xs : List ℕ) → Below n (x ∷ xs) → Below n xs
below_rest n x xs h = λ y m. h y (Memᴰ.tail m)

below_both : (n : ℕ) (xs ys : List ℕ) → Below n xs → Below n ys → Below n (xs ++ ys)
below_both n xs ys h k = λ y m. ⊎_elim (h y) (k y) (Memᴰ.append_cases xs m)

below_one : (n x : ℕ) → x < n → Below n (x ∷ [])
below_one n x l = λ y m. let e = Memᴰ.eq_of_singleton m in omega arith

below_cons : (n x : ℕ) (xs : List ℕ) → x < n → Below n xs → Below n (x ∷ xs)
below_cons n x xs l h = below_both n (x ∷ []) xs (below_one n x l) h

-- Functions that agree on the members of a list have the same values there.
map_same : {X : Type 0} (f g : ℕ → X) (xs : List ℕ) → ((y : ℕ) → Memᴰ y xs → f y ≡ g y) → map f xs ≡ map g xs
map_same f g [] h = refl
map_same f g (x ∷ xs) h = ap₂ ◌∷◌ (h x (Memᴰ.head refl)) (map_same f g xs (λ y m. h y (Memᴰ.tail m)))

-- ---- tests that agree below n

module _ (n : ℕ) (test other : ℕ → ℕ → Bool) (agree : (i j : ℕ) → i < n → j < n → test i j ≡ other i j) where
  some_same : (x : ℕ) (seen : List ℕ) → x < n → Below n seen → some_of (test x) seen ≡ some_of (other x) seen
  unfolding some_of
  some_same x [] l h = refl
  some_same x (y ∷ seen) l h =
      ap₂ ◌||◌ (agree x y l (below_first n y seen h)) (some_same x seen l (below_rest n y seen h))

  place_same : (x : ℕ) (seen : List ℕ) → x < n → Below n seen → place_of (test x) seen ≡ place_of (other x) seen
  unfolding place_of
  place_same x [] l h = refl
  place_same x (y ∷ seen) l h =
      ap₂ (λ (b : Bool) (m : ℕ). pick b (λ _. 0) (λ _. suc m)) (agree x y l (below_first n y seen h)) (place_same x seen l (below_rest n y seen h))

  new_below : (seen xs : List ℕ) → Below n xs → Below n (new_ones test seen xs)
  unfolding new_ones
  new_below seen [] h = h
  new_below seen (x ∷ xs) h = go (some_of (test x) seen) (λ s. new_below s xs (below_rest n x xs h))
    where
      go : (b : Bool) → ((s : List ℕ) → Below n (new_ones test s xs))
          → Below n (pick b (λ _. new_ones test seen xs) (λ _. x ∷ new_ones test (seen ++ (x ∷ [])) xs))
      go true ih = ih seen
      go false ih = below_cons n x (new_ones test (seen ++ (x ∷ [])) xs) (below_first n x xs h) (ih (seen ++ (x ∷ [])))

  new_same : (seen xs : List ℕ) → Below n seen → Below n xs → new_ones test seen xs ≡ new_ones other seen xs
  unfolding new_ones
  new_same seen [] h k = refl
  new_same seen (x ∷ xs) h k =
      let l = below_first n x xs k in
      let r = below_rest n x xs k in
      let known = new_same seen xs h r in
      let more = new_same (seen ++ (x ∷ [])) xs (below_both n seen (x ∷ []) h (below_one n x l)) r in
      rw (some_same x seen l h, known, more)

  module _ (follow : ℕ → List ℕ) (closed : (i : ℕ) → i < n → Below n (follow i)) where
    search_same : (most k : ℕ) (seen todo : List ℕ) → Below n seen → Below n todo
        → search_on test follow once most k seen todo ≡ search_on other follow once most k seen todo
    unfolding search_on
    search_same most zero seen todo h t = refl
    search_same most (suc k) seen [] h t = refl
    search_same most (suc k) seen (x ∷ todo) h t =
        let f = closed x (below_first n x todo t) in
        let new = new_same seen (follow x) h f in
        let those = new_below seen (follow x) f in
        let next = search_same most k (seen ++ new_ones test seen (follow x)) (todo ++ new_ones test seen (follow x))
        (below_both n seen (new_ones test seen (follow x)) h those) (below_both n todo (new_ones test seen (follow x)) (below_rest n x todo t) those) in
        rw (next, new)

-- ---- the table

module _ (graph flags classes part : List ℕ) (n actions : ℕ) (moves : FlaggedGraph n actions graph flags) (least : 1 ≤ n)
    (agree : (i : ℕ) → i < n → class_in classes i ≡ class_in part i) where
  same_agrees : (i j : ℕ) → i < n → j < n → same_in classes i j ≡ same_in part i j
  unfolding same_in
  same_agrees i j l k = ap₂ eqb (agree i l) (agree j k)

  followers_below : (i : ℕ) → i < n → Below n (followers graph flags actions i)
  unfolding followers
  followers_below i l = λ y m.
      let (a, at, e) = present_map_out (led_to graph flags i) (below actions) m in
      allowed_below graph flags n actions i a y moves l (mem_below actions at) e

  -- The order of the rows is what the search meets.
  rows_met : row_order (graph_in graph n actions) (safe_in flags) (class_in classes) ≡ search_from (same_in part) (followers graph flags actions) once n 0
  unfolding row_order same_class allowed_all allowed graph_in search_from same_in followers led_to
  rows_met =
      search_same n (same_in classes) (same_in part) same_agrees (followers graph flags actions) followers_below n (suc n) (0 ∷ []) (0 ∷ [])
      (below_one n 0 (omega arith)) (below_one n 0 (omega arith))

  module _ (order : List ℕ) (is_order : order ≡ search_from (same_in part) (followers graph flags actions) once n 0) (rows_below : Below n order) where
    step_same : (a : ℕ) (o : Option ℕ) → ((j : ℕ) → o ≡ Some j → j < n)
        → graph_step (graph_in graph n actions) (safe_in flags) (class_in classes) a o ≡ step_in part order a o
    unfolding graph_step step_in same_class same_in
    step_same a None h = refl
    step_same a (Some j) h =
        let at = rows_met ∙ sym is_order in
        let place = place_same n (same_in classes) (same_in part) same_agrees j order (h j refl) rows_below in
        ap (λ (t : ℕ). Some (record { action = a; target = t })) (ap (place_of (same_in classes j)) at ∙ place)

    row_same : (i : ℕ) → i < n → graph_row (graph_in graph n actions) (safe_in flags) (class_in classes) i ≡ row_in graph flags part order actions i
    unfolding graph_row row_in steps_in step_from led_to allowed graph_in
    row_same i l =
        ap (λ (ss : List Step). record { state = state_in graph i; steps = ss })
        (ap present
        (map_same
        (λ a. graph_step (graph_in graph n actions) (safe_in flags) (class_in classes) a (led_to graph flags i a))
        (step_from graph flags part order i)
        (below actions)
        (λ a m.
        step_same a (led_to graph flags i a) (λ j e. allowed_below graph flags n actions i a j moves l (mem_below actions m) e))))

    -- The table of the graph is the table over the list of rows.
    pub table_same : table_in graph flags classes n actions ≡ map (row_in graph flags part order actions) order
    unfolding table_in graph_table
    table_same =
        ap (map (graph_row (graph_in graph n actions) (safe_in flags) (class_in classes))) (rows_met ∙ sym is_order)
        ∙ map_same (graph_row (graph_in graph n actions) (safe_in flags) (class_in classes)) (row_in graph flags part order actions)
        order (λ y m. row_same y (rows_below y m))
