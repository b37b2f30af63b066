-- Where no `|` has two timed sides, the pairs are those of one obligation, each with it as its one alternative.
use Prim.Native.Nat.{ℕ, zero, suc}
use mathlib.Core.Path.{◌≡◌, refl, sym, ◌∙◌, ap, ap₂, fun_ext}
use mathlib.Core.Bool.{Bool, true, false, ◌&&◌}
use Rattle.std.specs.Prelude.{option_map}
use Rattle.std.specs.Prelude.{Option, None, Some}
use Rattle.base.specs.Options.{bind}
use mathlib.Core.List.{List, [], ◌∷◌, ◌++◌, map, map-append, map-map}
use lib.Dec.{ltb, eqb}
use Rattle.base.specs.Choice.{pick}
use Rattle.base.specs.Lists.{below, some_of, present, same_list, there_with, total}
use Rattle.base.specs.Search.{new_ones, search_on, search_from}
use Rattle.base.proofs.Lists.{or_neither, none_of}
use Rattle.logic.specs.Tower.{Tower}
use Rattle.logic.specs.Book.{Book}
use Rattle.logic.specs.Sides.{OneSided}
use Rattle.pending.specs.Pending.{Pending, same_pending, progressed}
use Rattle.pending.specs.Pairs as Old
use Rattle.alternatives.specs.Progression.{first_set}
use Rattle.alternatives.specs.Pairs.{same_pair, pair_weight, most_pairs, first_pair, alternatives_by, pair_at, tried_step, is_over, over_full, pair_step, pair_followers, pairs, over_pairs, over_alternatives}
use Rattle.alternatives.specs.OneAlternative.{single, one}
use Rattle.alternatives.proofs.OneAlternative.{progressed_one}

-- ---- a search carried over

-- all weigh what they weighed
weight_carried : {X Y : Type 0} (to : X → Y) (weight : X → ℕ) (weight' : Y → ℕ) → ((x : X) → weight' (to x) ≡ weight x) → (xs : List X)
    → total (map weight' (map to xs)) ≡ total (map weight xs)
weight_carried to weight weight' weigh xs = ap total (map-map weight' to xs ∙ ap (λ f. map f xs) (fun_ext weigh))

module _ {X Y : Type 0} (to : X → Y) (same : X → X → Bool) (same' : Y → Y → Bool) (alike : (x y : X) → same' (to x) (to y) ≡ same x y) where
  -- what was seen is seen
  some_carried : (x : X) (seen : List X) → some_of (same' (to x)) (map to seen) ≡ some_of (same x) seen
  unfolding some_of
  some_carried x [] = refl
  some_carried x (y ∷ seen) = rw (alike x y, some_carried x seen) refl

  -- what was new is new
  new_carried : (seen xs : List X) → new_ones same' (map to seen) (map to xs) ≡ map to (new_ones same seen xs)
  unfolding new_ones
  new_carried seen [] = refl
  new_carried seen (x ∷ xs) =
      rw (some_carried x seen) (go (some_of (same x) seen) (new_carried seen xs)
      (ap (λ l. new_ones same' l (map to xs)) (sym (map-append to seen (x ∷ []))) ∙ new_carried (seen ++ (x ∷ [])) xs))
    where
      go : (b : Bool) → new_ones same' (map to seen) (map to xs) ≡ map to (new_ones same seen xs)
          → new_ones same' (map to seen ++ (to x ∷ [])) (map to xs) ≡ map to (new_ones same (seen ++ (x ∷ [])) xs)
          → pick b (λ _. new_ones same' (map to seen) (map to xs)) (λ _. to x ∷ new_ones same' (map to seen ++ (to x ∷ [])) (map to xs))
          ≡ map to (pick b (λ _. new_ones same seen xs) (λ _. x ∷ new_ones same (seen ++ (x ∷ [])) xs))
      go true old new = old
      go false old new = ap (λ l. to x ∷ l) new

  module _ (followers : X → List X) (followers' : Y → List Y) (weight : X → ℕ) (weight' : Y → ℕ) (most : ℕ)
      (follow : (x : X) → followers' (to x) ≡ map to (followers x)) (weigh : (x : X) → weight' (to x) ≡ weight x) where
    search_on_carried : (n : ℕ) (seen todo : List X)
        → search_on same' followers' weight' most n (map to seen) (map to todo) ≡ map to (search_on same followers weight most n seen todo)
    unfolding search_on
    search_on_carried zero seen todo = refl
    search_on_carried (suc n) seen [] = refl
    search_on_carried (suc n) seen (x ∷ todo) =
        let new : List X = new_ones same seen (followers x) in
        rw (weight_carried to weight weight' weigh seen) (go (ltb most (total (map weight seen)))
        (search_on same followers weight most n (seen ++ new) (todo ++ new))
        (ap₂ (search_on same' followers' weight' most n) (more seen) (more todo) ∙ search_on_carried n (seen ++ new) (todo ++ new)))
      where
        more : (l : List X) → map to l ++ new_ones same' (map to seen) (followers' (to x)) ≡ map to (l ++ new_ones same seen (followers x))
        more l =
            ap (λ z. map to l ++ z) (ap (new_ones same' (map to seen)) (follow x) ∙ new_carried seen (followers x))
            ∙ sym (map-append to l (new_ones same seen (followers x)))

        go : (b : Bool) {l : List Y} (m : List X) → l ≡ map to m → pick b (λ _. map to seen) (λ _. l) ≡ map to (pick b (λ _. seen) (λ _. m))
        go true m e = refl
        go false m e = e

    -- Where tests, followers and weights are carried over, so is what a search finds.
    pub search_carried : (x : X)
        → search_from same' followers' weight' most (to x) ≡ map to (search_from same followers weight most x)
    unfolding search_from
    search_carried x = search_on_carried (suc most) (x ∷ []) (x ∷ [])

-- what is present, carried over
present_carried : {X Y : Type 0} (to : X → Y) (f : ℕ → Option X) (g : ℕ → Option Y) → ((a : ℕ) → g a ≡ option_map to (f a)) → (bs : List ℕ)
    → present (map g bs) ≡ map to (present (map f bs))
unfolding present
present_carried to f g h [] = refl
present_carried {X} {Y} to f g h (a ∷ bs) = rw (h a) (go (f a) (present_carried to f g h bs))
  where
    go : (o : Option X) → present (map g bs) ≡ map to (present (map f bs)) → present (option_map to o ∷ map g bs) ≡ map to (present (o ∷ map f bs))
    go None e = e
    go (Some x) e = ap (λ l. to x ∷ l) e

-- ---- pairs

-- Pairs of one alternative are the same if the pairs are.
pub same_one : (v w : Old.Pair) → same_pair (one v) (one w) ≡ Old.same_pair v w
unfolding same_pair Old.same_pair one same_list
same_one v w = ap (λ b. eqb v.state w.state && b) (go (same_pending v.pending w.pending))
  where
    go : (b : Bool) → (b && true) ≡ b
    go true = refl
    go false = refl

-- A pair of one alternative counts once.
pub weight_one : (v : Old.Pair) → pair_weight (one v) ≡ Old.pair_weight v
unfolding pair_weight Old.pair_weight one
weight_one v = refl

-- The first pair has one alternative.
pub first_one : (tower : Tower) (book : Book) → first_pair tower book ≡ one (Old.first_pair tower book)
unfolding first_pair Old.first_pair first_set one
first_one tower book = refl

module _ (tower : Tower) (book : Book) where
  -- what is pending next of one alternative, as state x is left by action a
  abbrev pub then_pending : ℕ → Pending → ℕ → Option Pending
  then_pending x p a = progressed tower book x (tower.step_length x a) p

module _ (tower : Tower) (book : Book) (sided : OneSided book) where
  -- what comes of a pair of one alternative, as its state is left
  by_one : (v : Old.Pair) (a : ℕ)
      → alternatives_by tower book (one v) a ≡ single (then_pending tower book v.state v.pending a)
  unfolding alternatives_by one
  by_one v a = progressed_one tower book v.state (tower.step_length v.state a) v.pending sided

  -- A pair of one alternative is not over_full.
  pub full_one : (v : Old.Pair) → over_full tower book (one v) ≡ false
  unfolding over_full there_with is_over single one
  full_one v =
      none_of _ (below tower.actions) (λ a listed. ap (λ s. there_with (λ y. is_over s) (tower.target v.state a)) (by_one v a)
      ∙ go (then_pending tower book v.state v.pending a) (tower.target v.state a))
    where
      go : (o : Option Pending) (t : Option ℕ) → there_with (λ y. is_over (single o)) t ≡ false
      go o None = refl
      go None (Some y) = refl
      go (Some p) (Some y) = refl

  -- Its steps are those of the pair.
  pub step_one : (v : Old.Pair) (a : ℕ) → pair_step tower book (one v) a ≡ option_map one (Old.pair_step tower book v a)
  unfolding pair_step Old.pair_step tried_step pair_at Old.pair_at single one bind
  step_one v a = rw (full_one v) (rw (by_one v a) (go (tower.target v.state a) (then_pending tower book v.state v.pending a)))
    where
      go : (t : Option ℕ) (o : Option Pending) → bind t (λ y. pair_at y (single o)) ≡ option_map one (bind t (λ y. Old.pair_at y o))
      go None o = refl
      go (Some y) None = refl
      go (Some y) (Some p) = refl

  -- They lead to the pairs that the old steps lead to.
  pub followers_one : (v : Old.Pair) → pair_followers tower book (one v) ≡ map one (Old.pair_followers tower book v)
  unfolding pair_followers Old.pair_followers
  followers_one v =
      present_carried one (Old.pair_step tower book v) (pair_step tower book (one v)) (step_one v) (below tower.actions)

  -- The pairs are the old pairs, each with one alternative.
  pub pairs_one : pairs tower book ≡ map one (Old.pairs tower book)
  unfolding pairs Old.pairs most_pairs Old.most_pairs
  pairs_one =
      rw (first_one tower book) (search_carried one Old.same_pair same_pair same_one (Old.pair_followers tower book) (pair_followers tower book)
      Old.pair_weight pair_weight 1000 followers_one weight_one (Old.first_pair tower book))

  -- They count over 1,000 if those do.
  pub over_pairs_one : over_pairs tower book ≡ Old.over_pairs tower book
  unfolding over_pairs Old.over_pairs most_pairs Old.most_pairs
  over_pairs_one =
      ap (λ vs. ltb 1000 (total (map pair_weight vs))) pairs_one
      ∙ ap (ltb 1000) (weight_carried one Old.pair_weight pair_weight weight_one (Old.pairs tower book))

  -- None is over_full.
  pub over_alternatives_one : over_alternatives tower book ≡ false
  unfolding over_alternatives some_of
  over_alternatives_one = ap (some_of (over_full tower book)) pairs_one ∙ go (Old.pairs tower book)
    where
      go : (vs : List Old.Pair) → some_of (over_full tower book) (map one vs) ≡ false
      go [] = refl
      go (v ∷ vs) = or_neither (full_one v) (go vs)
