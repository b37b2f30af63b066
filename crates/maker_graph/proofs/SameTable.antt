-- The table of the graph is the made table.
use Prim.Native.Nat.{ℕ, zero, suc, ◌<◌}
use mathlib.Core.Path.{◌≡◌, refl, sym, ◌∙◌, ap, ap₂, subst}
use mathlib.Core.Bool.{Bool, true, false, ◌||◌}
use Rattle.std.specs.Prelude.{option_map}
use Rattle.std.specs.Prelude.{Option, None, Some}
use mathlib.Core.List.Memᴰ
use mathlib.Core.List.{List, [], ◌∷◌, ◌++◌, map, Memᴰ, map-append}
use mathlib.Core.Logic.{◌⊎◌, inl, inr}
use native.Mathlib.Omega.{arith}
use lib.ListN.{length, get_or, length-map}
use lib.Dec.{ltb}
use Rattle.base.specs.Choice.{pick}
use Rattle.base.specs.Lists.{some_of, below, present, place_of, total}
use Rattle.base.specs.Search.{new_ones, search_on, search_from, once}
use Rattle.base.proofs.Lists.{mem_below, never_both, present_map_out}
use Rattle.base.proofs.Search.{search_first, total_once}
use Rattle.logic.specs.Tower.{Tower}
use Rattle.logic.specs.Book.{Book}
use Rattle.logic.specs.Tables.{Step, Row}
use Rattle.alternatives.specs.Pairs.{Pair, same_pair, first_pair, pair_followers, pairs, pair_weight, most_pairs}
use Rattle.outcome.specs.Game.{safe, safe_step}
use Rattle.outcome.specs.Rows.{one_row, safe_followers, row_pairs, row_step, made_row, made_table}
use Rattle.pair_graph.specs.Graph.{Graph, allowed_to, SafePair, Classes}
use Rattle.pair_graph.specs.GraphTable.{allowed, allowed_all, same_class, row_order, graph_step, graph_row, graph_table}
use Rattle.pair_graph.specs.GraphOf.{numbered}
use Rattle.maker_graph.proofs.OneRow.{SafeGraph, allowed_step, allowed_safe, class_row}

-- ---- a search on numbers and the same search on what they stand for

module _ {X Y : Type 0} (f : X → Y) (same : X → X → Bool) (same' : Y → Y → Bool) (Valid : X → Type 0)
    (agrees : (x y : X) → Valid x → Valid y → same x y ≡ same' (f x) (f y)) where
  abbrev All : List X → Type 0
  All xs = (x : X) → Memᴰ x xs → Valid x

  some_map : (x : X) (xs : List X) → Valid x → All xs → some_of (same x) xs ≡ some_of (same' (f x)) (map f xs)
  unfolding some_of
  some_map x [] v all = refl
  some_map x (y ∷ ys) v all =
      ap₂ ◌||◌ (agrees x y v (all y (Memᴰ.head refl))) (some_map x ys v (λ z m. all z (Memᴰ.tail m)))

  place_map : (x : X) (xs : List X) → Valid x → All xs → place_of (same x) xs ≡ place_of (same' (f x)) (map f xs)
  unfolding place_of
  place_map x [] v all = refl
  place_map x (y ∷ ys) v all =
      ap₂ (λ b n. pick b (λ _. 0) (λ _. suc n)) (agrees x y v (all y (Memᴰ.head refl))) (place_map x ys v (λ z m. all z (Memᴰ.tail m)))

  all_append : (xs ys : List X) → All xs → All ys → All (xs ++ ys)
  all_append xs ys ax ay z m = go (Memᴰ.append_cases xs m)
    where
      go : Memᴰ z xs ⊎ Memᴰ z ys → Valid z
      go (inl h) = ax z h
      go (inr h) = ay z h

  all_one : (x : X) → Valid x → All (x ∷ [])
  all_one x v z m = subst Valid (sym (Memᴰ.eq_of_singleton m)) v

  all_rest : (x : X) (xs : List X) → All (x ∷ xs) → All xs
  all_rest x xs all z m = all z (Memᴰ.tail m)

  new_map : (seen xs : List X) → All seen → All xs → map f (new_ones same seen xs) ≡ new_ones same' (map f seen) (map f xs)
  unfolding new_ones
  new_map seen [] ae ax = refl
  new_map seen (x ∷ xs) ae ax =
      rw (some_map x seen (ax x (Memᴰ.head refl)) ae)
      (go (some_of (same' (f x)) (map f seen)) (new_map seen xs ae (all_rest x xs ax))
      (new_map (seen ++ (x ∷ [])) xs (all_append seen (x ∷ []) ae (all_one x (ax x (Memᴰ.head refl)))) (all_rest x xs ax)))
    where
      go : (b : Bool) → map f (new_ones same seen xs) ≡ new_ones same' (map f seen) (map f xs)
          → map f (new_ones same (seen ++ (x ∷ [])) xs) ≡ new_ones same' (map f (seen ++ (x ∷ []))) (map f xs)
          → map f (pick b (λ _. new_ones same seen xs) (λ _. x ∷ new_ones same (seen ++ (x ∷ [])) xs))
          ≡ pick b (λ _. new_ones same' (map f seen) (map f xs)) (λ _. f x ∷ new_ones same' (map f seen ++ (f x ∷ [])) (map f xs))
      go true old new = old
      go false old new = ap (λ l. f x ∷ l) (new ∙ ap (λ l. new_ones same' l (map f xs)) (map-append f seen (x ∷ [])))

  new_all : (seen xs : List X) → All xs → All (new_ones same seen xs)
  unfolding new_ones
  new_all seen [] ax z m = absurd (Memᴰ.not-nil m)
  new_all seen (x ∷ xs) ax z m =
      go (some_of (same x) seen) (new_all seen xs (all_rest x xs ax) z) (new_all (seen ++ (x ∷ [])) xs (all_rest x xs ax) z) m
    where
      go : (b : Bool) → (Memᴰ z (new_ones same seen xs) → Valid z) → (Memᴰ z (new_ones same (seen ++ (x ∷ [])) xs) → Valid z)
          → Memᴰ z (pick b (λ _. new_ones same seen xs) (λ _. x ∷ new_ones same (seen ++ (x ∷ [])) xs)) → Valid z
      go true old new n = old n
      go false old new n = cases (Memᴰ.cases_cons n)
        where
          cases : (z ≡ x) ⊎ Memᴰ z (new_ones same (seen ++ (x ∷ [])) xs) → Valid z
          cases (inl e) = subst Valid (sym e) (ax x (Memᴰ.head refl))
          cases (inr h) = new h

  module _ (followers : X → List X) (followers' : Y → List Y) (follow : (x : X) → Valid x → map f (followers x) ≡ followers' (f x))
      (stay : (x : X) → Valid x → All (followers x)) (most : ℕ) where
    search_map : (n : ℕ) (seen todo : List X) → All seen → All todo
        → map f (search_on same followers once most n seen todo) ≡ search_on same' followers' once most n (map f seen) (map f todo)
    unfolding search_on
    search_map zero seen todo ae ao = refl
    search_map (suc n) seen [] ae ao = refl
    search_map (suc n) seen (x ∷ todo) ae ao =
        go (ltb most (total (map once seen))) (ltb most (total (map once (map f seen))))
        (ap (ltb most) (total_once seen ∙ sym (length-map seen f) ∙ sym (total_once (map f seen))))
        (search_map n (seen ++ fresh) (todo ++ fresh) (all_append seen fresh ae all_fresh) (all_append todo fresh (all_rest x todo ao) all_fresh)
        ∙ ap₂ (search_on same' followers' once most n) (along seen) (along todo))
      where
        v : Valid x
        v = ao x (Memᴰ.head refl)

        fresh : List X
        fresh = new_ones same seen (followers x)

        all_fresh : All fresh
        all_fresh = new_all seen (followers x) (stay x v)

        same_fresh : map f fresh ≡ new_ones same' (map f seen) (followers' (f x))
        same_fresh = new_map seen (followers x) ae (stay x v) ∙ ap (new_ones same' (map f seen)) (follow x v)

        along : (l : List X) → map f (l ++ fresh) ≡ map f l ++ new_ones same' (map f seen) (followers' (f x))
        along l = map-append f l fresh ∙ ap (λ z. map f l ++ z) same_fresh

        go : (b c : Bool) → b ≡ c
            → map f (search_on same followers once most n (seen ++ fresh) (todo ++ fresh))
            ≡ search_on same' followers' once most n (map f seen ++ new_ones same' (map f seen) (followers' (f x))) (map f todo ++ new_ones same' (map f seen) (followers' (f x)))
            → map f (pick b (λ _. seen) (λ _. search_on same followers once most n (seen ++ fresh) (todo ++ fresh)))
            ≡ pick c (λ _. map f seen)
            (λ _. search_on same' followers' once most n (map f seen ++ new_ones same' (map f seen) (followers' (f x))) (map f todo ++ new_ones same' (map f seen) (followers' (f x))))
        go true true e h = refl
        go true false e h = never_both refl e
        go false true e h = never_both e refl
        go false false e h = h

    search_valid : (n : ℕ) (seen todo : List X) → All seen → All todo → All (search_on same followers once most n seen todo)
    unfolding search_on
    search_valid zero seen todo ae ao = ae
    search_valid (suc n) seen [] ae ao = ae
    search_valid (suc n) seen (x ∷ todo) ae ao =
        go (ltb most (total (map once seen)))
        (search_valid n (seen ++ fresh) (todo ++ fresh) (all_append seen fresh ae all_fresh) (all_append todo fresh (all_rest x todo ao) all_fresh))
      where
        fresh : List X
        fresh = new_ones same seen (followers x)

        all_fresh : All fresh
        all_fresh = new_all seen (followers x) (stay x (ao x (Memᴰ.head refl)))

        go : (b : Bool) → All (search_on same followers once most n (seen ++ fresh) (todo ++ fresh))
            → All (pick b (λ _. seen) (λ _. search_on same followers once most n (seen ++ fresh) (todo ++ fresh)))
        go true more = ae
        go false more = more

    -- A search on numbers finds what the search on what they stand for finds.
    found_map : (x : X) → Valid x → map f (search_from same followers once most x) ≡ search_from same' followers' once most (f x)
    unfolding search_from
    found_map x v = search_map (suc most) (x ∷ []) (x ∷ []) (all_one x v) (all_one x v)

    found_valid : (x : X) → Valid x → All (search_from same followers once most x)
    unfolding search_from
    found_valid x v = search_valid (suc most) (x ∷ []) (x ∷ []) (all_one x v) (all_one x v)

-- ---- the table

-- what is there and leads on, along a list of actions
present_map : {X Y : Type 0} (f : X → Y) (step : ℕ → Option X) (step' : ℕ → Option Y) (acts : List ℕ)
    → ((a : ℕ) → Memᴰ a acts → step' a ≡ option_map f (step a)) → map f (present (map step acts)) ≡ present (map step' acts)
unfolding present
present_map f step step' [] same = refl
present_map f step step' (a ∷ rest) same =
    go (step a) (step' a) (same a (Memᴰ.head refl)) (present_map f step step' rest (λ b m. same b (Memᴰ.tail m)))
  where
    go : (o : Option _) (p : Option _) → p ≡ option_map f o → map f (present (map step rest)) ≡ present (map step' rest)
        → map f (present (o ∷ map step rest)) ≡ present (p ∷ map step' rest)
    go None p e h = rw e h
    go (Some x) p e h = rw e (ap (λ l. f x ∷ l) h)

-- lists that agree element by element
map_along : {X Y : Type 0} (f h : X → Y) (xs : List X) → ((x : X) → Memᴰ x xs → f x ≡ h x) → map f xs ≡ map h xs
map_along f h [] same = refl
map_along f h (x ∷ xs) same = ap₂ ◌∷◌ (same x (Memᴰ.head refl)) (map_along f h xs (λ y m. same y (Memᴰ.tail m)))

map_twice : {X Y Z : Type 0} (f : X → Y) (h : Y → Z) (xs : List X) → map h (map f xs) ≡ map (λ x. h (f x)) xs
map_twice f h [] = refl
map_twice f h (x ∷ xs) = ap (λ l. h (f x) ∷ l) (map_twice f h xs)

module _ (tower : Tower) (book : Book) (graph : Graph) (staying : ℕ → Bool) (g : SafeGraph tower book graph staying) (class : ℕ → ℕ)
    (classes : Classes graph staying class) where
  abbrev num : ℕ → Pair
  num i = numbered tower book i

  -- number 0 is the first pair, and it is safe
  first_number : num 0 ≡ first_pair tower book
  unfolding numbered pairs
  first_number =
      let (rest, e) = search_first same_pair (pair_followers tower book) pair_weight most_pairs (first_pair tower book) in
      ap (λ l. get_or l 0 (first_pair tower book)) e

  first_safe_pair : SafePair graph staying 0
  first_safe_pair =
      record {
        there = there;
        is_safe = g.safes 0 there ∙ ap (safe tower book) first_number ∙ g.known.first_safe;
      }
    where
      there : 0 < graph.pairs
      there = subst (λ n. 0 < n) (sym g.of.count) some_pair
        where
          some_pair : 0 < length (pairs tower book)
          some_pair =
              unfold pairs in
              (let (rest, e) = search_first same_pair (pair_followers tower book) pair_weight most_pairs (first_pair tower book) in
              subst (λ l. 0 < length l) (sym e) (omega arith))

  agrees : (i j : ℕ) → SafePair graph staying i → SafePair graph staying j → same_class graph staying class i j ≡ one_row tower book (num i) (num j)
  unfolding same_class
  agrees i j ki kj = class_row tower book graph staying g class classes i j ki kj

  follow : (i : ℕ) → SafePair graph staying i → map num (allowed_all graph staying class i) ≡ safe_followers tower book (num i)
  unfolding allowed_all allowed safe_followers
  follow i k =
      present_map num (λ a. allowed_to staying (graph.move i a)) (safe_step tower book (num i)) (below graph.actions)
      (λ a m. allowed_step tower book graph staying g i a k.there (mem_below graph.actions m))
      ∙ ap (λ n. present (map (safe_step tower book (num i)) (below n))) g.of.actions

  stay : (i : ℕ) → SafePair graph staying i → (j : ℕ) → Memᴰ j (allowed_all graph staying class i) → SafePair graph staying j
  unfolding allowed_all allowed
  stay i k j m =
      let (a, here, e) = present_map_out (λ a. allowed_to staying (graph.move i a)) (below graph.actions) m in
      allowed_safe tower book graph staying g i a j k.there (mem_below graph.actions here) e

  -- the rows' numbers stand for the rows' pairs
  order_pairs : map num (row_order graph staying class) ≡ row_pairs tower book
  unfolding row_order row_pairs
  order_pairs =
      found_map num (same_class graph staying class) (one_row tower book) (SafePair graph staying) agrees (allowed_all graph staying class)
      (safe_followers tower book) follow stay graph.pairs 0 first_safe_pair
      ∙ ap₂ (search_from (one_row tower book) (safe_followers tower book) once) g.of.count first_number

  order_safe : (i : ℕ) → Memᴰ i (row_order graph staying class) → SafePair graph staying i
  unfolding row_order
  order_safe i m =
      found_valid num (same_class graph staying class) (one_row tower book) (SafePair graph staying) agrees (allowed_all graph staying class)
      (safe_followers tower book) follow stay graph.pairs 0 first_safe_pair i m

  -- a step of the graph is that of its pairs
  step_same : (a : ℕ) (o : Option ℕ) → ((j : ℕ) → o ≡ Some j → SafePair graph staying j)
      → graph_step graph staying class a o ≡ row_step tower book a (option_map num o)
  unfolding graph_step row_step
  step_same a None all = refl
  step_same a (Some j) all =
      ap (λ n. Some (record { action = a; target = n }))
      (place_map num (same_class graph staying class) (one_row tower book) (SafePair graph staying) agrees j (row_order graph staying class) (all j refl) order_safe
      ∙ ap (place_of (one_row tower book (num j))) order_pairs)

  abbrev row : ℕ → List Step → Row
  row x steps = record { state = x; steps = steps }

  -- a row of the graph is a made row
  row_same : (i : ℕ) → SafePair graph staying i → graph_row graph staying class i ≡ made_row tower book (num i)
  unfolding graph_row made_row allowed
  row_same i k =
      ap₂ row (g.of.states i k.there)
      (ap present
      (map_along (λ a. graph_step graph staying class a (allowed_to staying (graph.move i a))) (λ a. row_step tower book a (safe_step tower book (num i) a))
      (below graph.actions)
      (λ a m.
      let la = mem_below graph.actions m in
      step_same a (allowed_to staying (graph.move i a)) (λ j e. allowed_safe tower book graph staying g i a j k.there la e)
      ∙ ap (row_step tower book a) (sym (allowed_step tower book graph staying g i a k.there la))))
      ∙ ap (λ n. present (map (λ a. row_step tower book a (safe_step tower book (num i) a)) (below n))) g.of.actions)

  -- The table of the graph is the made table.
  pub same_table : graph_table graph staying class ≡ made_table tower book
  unfolding graph_table made_table
  same_table =
      map_along (graph_row graph staying class) (λ i. made_row tower book (num i)) (row_order graph staying class) (λ i m. row_same i (order_safe i m))
      ∙ sym (map_twice num (made_row tower book) (row_order graph staying class))
      ∙ ap (map (made_row tower book)) order_pairs
