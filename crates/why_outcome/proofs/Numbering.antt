-- The pairs of a tower and a book as numbers: the steps between them, that each is first met as `FirstMetBy` says, and that numbers lead where
-- pairs do.
use Prim.Native.Nat.{ℕ, zero, suc, ◌+◌, ◌≤◌, ◌<◌}
use mathlib.Core.Path.{◌≡◌, refl, sym, ap, subst, ◌∙◌}
use mathlib.Core.Logic.{◌⊎◌, inl, inr}
use mathlib.Core.Bool.{Bool, true, false}
use Rattle.std.specs.Prelude.{option_map}
use Rattle.std.specs.Prelude.{Option, None, Some}
use Rattle.base.proofs.Options.{map-eq-some_iff}
use mathlib.Core.List.Memᴰ
use mathlib.Core.List.{List, [], ◌∷◌, ◌++◌, map, Memᴰ}
use native.Mathlib.Omega.{arith}
use native.Mathlib.Decide.{dec_lt}
use lib.ListN.{length, get_or, length-map, get_or-eq_default}
use lib.Dec.{ltb}
use borrow.Author.Tests.{ltb-true, lt-ltb}
use Rattle.base.specs.Choice.{pick}
use Rattle.base.specs.Lists.{below, present, place_of}
use Rattle.base.proofs.Lists.{none-some, some_one, mem_get_or, present_in, length_below, get_or_below, place_of_found, place_of_at}
use Rattle.base.proofs.Search.{MeetsAll, MetInOrder, meets_below, apart_at, search_first, search_apart, search_order}
use Rattle.logic.specs.Tower.{Tower, Listed}
use Rattle.logic.specs.Book.{Book}
use Rattle.logic.specs.Runs.{leads}
use Rattle.logic.proofs.Leads.{leads_nil, leads_in, leads_out, snoc_in}
use Rattle.first_runs.specs.Numbered.{NoLater, FirstMetBy, Numbered}
use Rattle.alternatives.specs.Pairs.{Pair, same_pair, first_pair, pair_step, pair_followers, pairs, pair_weight, over_pairs, most_pairs}
use Rattle.alternatives.proofs.Same.{same_pair_eq, same_pair_refl, pairs_same}
use Rattle.alternatives.proofs.Steps.{pair_step_listed}
use Rattle.alternatives.proofs.Weights.{pairs_few}
use Rattle.outcome.specs.Reached.{ReachedPair}
use Rattle.outcome.proofs.Counted.{pairs_reached, pairs_all}

-- ---- What is met in order

-- Of the options in order, each value with a place: place j is that of the one at a, and no earlier one has it or a later place.
record MetAt {X : Type 0} (place : X → ℕ) (os : List (Option X)) (j a : ℕ) : Type 0 where
  value : X
  inside : a < length os
  there : get_or os a None ≡ Some value
  is : place value ≡ j
  first : (b : ℕ) (x : X) → get_or os b None ≡ Some x → j ≤ place x → a ≤ b

-- It is so with one before them whose place is an earlier one.
met_later : {X : Type 0} (place : X → ℕ) (o : Option X) (os : List (Option X)) (j a : ℕ) → ((x : X) → o ≡ Some x → place x < j)
    → MetAt place os j a → MetAt place (o ∷ os) j (suc a)
met_later {X} place o os j a low met =
    record { value = met.value; inside = omega (arith, met.inside); there = met.there; is = met.is; first = first }
  where
    first : (b : ℕ) (x : X) → get_or (o ∷ os) b None ≡ Some x → j ≤ place x → suc a ≤ b
    first zero x e l = absurd (omega (arith, low x e))
    first (suc b) x e l = omega (arith, met.first b x e l)

-- Of those that are read with m met before, each place that is new at the end is met at one of them.
row_met : {X : Type 0} (place : X → ℕ) (os : List (Option X)) (m n : ℕ) → MeetsAll m (map place (present os)) n → (j : ℕ) → m ≤ j → j < n
    → (a : ℕ) × MetAt place os j a
unfolding MeetsAll present
row_met place [] m n h j l k = absurd (omega arith)
row_met place (None ∷ os) m n h j l k =
    let (a, met) = row_met place os m n h j l k in (suc a, met_later place None os j a (λ x e. none-some refl e) met)
row_met place (Some y ∷ os) m n (inl (p, h)) j l k =
    let (a, met) = row_met place os m n h j l k in
    (suc a, met_later place (Some y) os j a (λ x e. omega (arith, ap place (some_one e refl))) met)
row_met {X} place (Some y ∷ os) m n (inr (p, h)) j l k = by (dec_lt m j) (row_met place os (suc m) n h j)
  where
    by : Dec (m < j) → (suc m ≤ j → j < n → (a : ℕ) × MetAt place os j a) → (a : ℕ) × MetAt place (Some y ∷ os) j a
    by (yes q) ih =
        let (a, met) = ih (omega arith) k in
        (suc a, met_later place (Some y) os j a (λ x e. omega (arith, p, ap place (some_one e refl))) met)
    by (no q) ih =
        (0, record { value = y; inside = omega arith; there = refl; is = omega (arith, p); first = λ b x e r. omega arith })

-- What is there among the options is present.
there_present : {X : Type 0} (os : List (Option X)) (b : ℕ) (x : X) → get_or os b None ≡ Some x → Memᴰ x (present os)
there_present os b x e = by (dec_lt b (length os))
  where
    by : Dec (b < length os) → Memᴰ x (present os)
    by (yes l) = present_in os (Memᴰ.cast (sym e) (mem_get_or os b None l))
    by (no l) = none-some (get_or-eq_default os None (omega arith)) e

-- Of the rows of options in order, place j is met in row i at a, and all earlier rows have earlier places.
record MetIn {Y X : Type 0} (place : X → ℕ) (row : Y → List (Option X)) (d : Y) (vs : List Y) (j i a : ℕ) : Type 0 where
  here : MetAt place (row (get_or vs i d)) j a
  earlier : (k b : ℕ) (x : X) → k < i → get_or (row (get_or vs k d)) b None ≡ Some x → place x < j

-- It is so with a row before them that has earlier places.
met_further : {Y X : Type 0} (place : X → ℕ) (row : Y → List (Option X)) (d v : Y) (vs : List Y) (j i a : ℕ)
    → ((b : ℕ) (x : X) → get_or (row v) b None ≡ Some x → place x < j) → MetIn place row d vs j i a → MetIn place row d (v ∷ vs) j (suc i) a
met_further {Y} {X} place row d v vs j i a low met = record { here = met.here; earlier = earlier }
  where
    earlier : (k b : ℕ) (x : X) → k < suc i → get_or (row (get_or (v ∷ vs) k d)) b None ≡ Some x → place x < j
    earlier zero b x l e = low b x e
    earlier (suc k) b x l e = met.earlier k b x (omega arith) e

-- Of rows that are read in order from number r on with m met before, each place from m on is met in an earlier row.
rows_met : {Y X : Type 0} (place : X → ℕ) (row : Y → List (Option X)) (d : Y) (vs : List Y) (r m : ℕ)
    → MetInOrder r m (map (λ v. map place (present (row v))) vs) → (j : ℕ) → m ≤ j → j < r + length vs
    → (i : ℕ) × (a : ℕ) × (r + i < j) × MetIn place row d vs j i a
unfolding MetInOrder
rows_met place row d [] r m h j l k = absurd (omega arith)
rows_met {Y} {X} place row d (v ∷ vs) r m (q, (n, h, g)) j l k = by (dec_lt j n) (rows_met place row d vs (suc r) n g j)
  where
    first : (a : ℕ) × MetAt place (row v) j a → (i : ℕ) × (a : ℕ) × (r + i < j) × MetIn place row d (v ∷ vs) j i a
    first (a, met) = (0, a, omega arith, record { here = met; earlier = λ z b x p e. absurd (omega arith) })

    more : n ≤ j → (i : ℕ) × (a : ℕ) × (suc r + i < j) × MetIn place row d vs j i a
        → (i : ℕ) × (a : ℕ) × (r + i < j) × MetIn place row d (v ∷ vs) j i a
    more p (i, a, s, met) = (
      suc i,
      a,
      omega arith,
      met_further place row d v vs j i a
          (λ b x e. omega (arith, meets_below m (map place (present (row v))) n h (Memᴰ.map place (there_present (row v) b x e)))) met,
    )

    by : Dec (j < n) → (n ≤ j → j < suc r + length vs → (i : ℕ) × (a : ℕ) × (suc r + i < j) × MetIn place row d vs j i a)
        → (i : ℕ) × (a : ℕ) × (r + i < j) × MetIn place row d (v ∷ vs) j i a
    by (yes p) ih = first (row_met place (row v) m n h j l p)
    by (no p) ih = more (omega arith) (ih (omega arith) (omega arith))

-- ---- Numbers

-- pair number i
unfoldable pub pair_number : Tower → Book → ℕ → Pair
pair_number tower book i = get_or (pairs tower book) i (first_pair tower book)

-- the number of a pair
unfoldable pub number_of : Tower → Book → Pair → ℕ
number_of tower book v = place_of (same_pair v) (pairs tower book)

-- the number of the pair that action a leads to from pair number i; nothing where it leads to none, or there is no pair of that number
unfoldable pub go : Tower → Book → ℕ → ℕ → Option ℕ
go tower book i a =
    pick (ltb i (length (pairs tower book))) (λ _. option_map (number_of tower book) (pair_step tower book (pair_number tower book i) a)) (λ _. None)

-- What stands at an index of a mapped list. -- private in outcome/MadeTable
get_or_map_at : {X Y : Type 0} (f : X → Y) (xs : List X) (i : ℕ) (d : X) (e : Y) → i < length xs → get_or (map f xs) i e ≡ f (get_or xs i d)
get_or_map_at f [] i d e l = absurd (omega arith)
get_or_map_at f (x ∷ xs) zero d e l = refl
get_or_map_at f (x ∷ xs) (suc i) d e l = get_or_map_at f xs i d e (omega arith)

module _ (tower : Tower) (book : Book) where
  -- There is a pair.
  pub some_pair : 0 < length (pairs tower book)
  unfolding pairs
  some_pair =
      let (rest, e) = search_first same_pair (pair_followers tower book) pair_weight most_pairs (first_pair tower book) in
      omega (arith, ap length e)

  -- The first is number 0.
  pub number_first : pair_number tower book 0 ≡ first_pair tower book
  unfolding pairs pair_number
  number_first =
      let (rest, e) = search_first same_pair (pair_followers tower book) pair_weight most_pairs (first_pair tower book) in
      ap (λ (vs : List Pair). get_or vs 0 (first_pair tower book)) e

  -- Pairs of different numbers are different.
  pub numbers_apart : (i j : ℕ) → i < length (pairs tower book) → j < length (pairs tower book)
      → pair_number tower book i ≡ pair_number tower book j → i ≡ j
  unfolding pairs pair_number
  numbers_apart i j k l e =
      apart_at pairs_same (pairs tower book) i j (first_pair tower book)
      (search_apart same_pair (pair_followers tower book) pair_weight most_pairs (first_pair tower book) pairs_same) k l
      (ap (same_pair (pair_number tower book i)) (sym e) ∙ same_pair_refl (pair_number tower book i))

  -- A pair that is met has a number,
  pub number_inside : (v : Pair) → Memᴰ v (pairs tower book) → number_of tower book v < length (pairs tower book)
  unfolding number_of
  number_inside v m = place_of_found (same_pair v) m (same_pair_refl v)

  -- and is the pair of that number.
  pub number_is : (v : Pair) → Memᴰ v (pairs tower book) → v ≡ pair_number tower book (number_of tower book v)
  unfolding number_of pair_number
  number_is v m =
      same_pair_eq v (pair_number tower book (number_of tower book v))
      (place_of_at (same_pair v) (pairs tower book) (first_pair tower book) (number_inside v m))

  -- Pair number i is met.
  pub number_mem : (i : ℕ) → i < length (pairs tower book) → Memᴰ (pair_number tower book i) (pairs tower book)
  unfolding pair_number
  number_mem i l = mem_get_or (pairs tower book) i (first_pair tower book) l

  -- The number of pair number i is i.
  pub number_back : (i : ℕ) → i < length (pairs tower book) → number_of tower book (pair_number tower book i) ≡ i
  number_back i l =
      let m = number_mem i l in
      sym (numbers_apart i (number_of tower book (pair_number tower book i)) l (number_inside (pair_number tower book i) m) (number_is (pair_number tower book i) m))

  -- ---- Steps

  -- A step from a number goes as that of its pair.
  go_at : (i a : ℕ) → i < length (pairs tower book)
      → go tower book i a ≡ option_map (number_of tower book) (pair_step tower book (pair_number tower book i) a)
  unfolding go
  go_at i a l = rw (lt-ltb i (length (pairs tower book)) l)

  -- Steps go from numbers of pairs only.
  pub go_inside : (i a j : ℕ) → go tower book i a ≡ Some j → i < length (pairs tower book)
  unfolding go
  go_inside i a j e = by (ltb i (length (pairs tower book))) refl e
    where
      by : (b : Bool) → ltb i (length (pairs tower book)) ≡ b
          → pick b (λ _. option_map (number_of tower book) (pair_step tower book (pair_number tower book i) a)) (λ _. None) ≡ Some j
          → i < length (pairs tower book)
      by true p f = ltb-true i (length (pairs tower book)) p
      by false p f = none-some refl f

  -- A step of pairs is one of their numbers.
  pub go_to : (i a j : ℕ) → pair_step tower book (pair_number tower book i) a ≡ Some (pair_number tower book j) → i < length (pairs tower book)
      → j < length (pairs tower book) → go tower book i a ≡ Some j
  go_to i a j e k l = go_at i a k ∙ ap (option_map (number_of tower book)) e ∙ ap {B = Option ℕ} Some (number_back j l)

  module _ (listed : Listed tower) (few : over_pairs tower book ≡ false) where
    -- What pair number i steps to is met.
    pub step_number : (i a : ℕ) (v : Pair) → i < length (pairs tower book) → pair_step tower book (pair_number tower book i) a ≡ Some v
        → Memᴰ v (pairs tower book)
    unfolding ReachedPair
    step_number i a v l e =
        let (w, led) = pairs_reached tower book listed (pair_number tower book i) (number_mem i l) in
        pairs_all tower book listed few v
        (w ++ (a ∷ []), snoc_in (pair_step tower book) (first_pair tower book) (pair_number tower book i) v w a led e)

    -- A step of numbers is one of their pairs.
    pub go_from : (i a j : ℕ) → go tower book i a ≡ Some j
        → (i < length (pairs tower book)) × (j < length (pairs tower book))
        × (pair_step tower book (pair_number tower book i) a ≡ Some (pair_number tower book j))
    go_from i a j e =
        from (go_inside i a j e)
        ((map-eq-some_iff (number_of tower book) (pair_step tower book (pair_number tower book i) a)).0 (sym (go_at i a (go_inside i a j e)) ∙ e))
      where
        from : i < length (pairs tower book) → (v : Pair) × (pair_step tower book (pair_number tower book i) a ≡ Some v) × (number_of tower book v ≡ j)
            → (i < length (pairs tower book)) × (j < length (pairs tower book))
            × (pair_step tower book (pair_number tower book i) a ≡ Some (pair_number tower book j))
        from l (v, step, is) =
            let m = step_number i a v l step in (
              l,
              subst (λ k. k < length (pairs tower book)) is (number_inside v m),
              step ∙ ap {B = Option Pair} Some (number_is v m ∙ ap (pair_number tower book) is),
            )

    -- Steps of numbers go by the tower's actions.
    pub go_listed : (i a j : ℕ) → go tower book i a ≡ Some j → a < tower.actions
    go_listed i a j e =
        let (l, k, step) = go_from i a j e in
        pair_step_listed tower book listed (pair_number tower book i) (pair_number tower book j) a step

    -- ---- First met

    -- the steps of a pair by the tower's actions in order
    abbrev steps : Pair → List (Option Pair)
    steps v = map (pair_step tower book v) (below tower.actions)

    -- The one at a is that by action a.
    steps_at : (v : Pair) (a : ℕ) → a < tower.actions → get_or (steps v) a None ≡ pair_step tower book v a
    steps_at v a l =
        get_or_map_at (pair_step tower book v) (below tower.actions) a 0 None (omega (arith, length_below tower.actions))
        ∙ ap (pair_step tower book v) (get_or_below tower.actions a 0 l)

    -- There are no others.
    steps_inside : (v : Pair) (a : ℕ) → a < length (steps v) → a < tower.actions
    steps_inside v a l =
        omega (arith, length-map (below tower.actions) (pair_step tower book v), length_below tower.actions)

    -- The numbers are met in order.
    numbers_met : MetInOrder 0 1 (map (λ v. map (number_of tower book) (present (steps v))) (pairs tower book))
    unfolding pairs number_of pair_followers
    numbers_met =
        search_order same_pair (pair_followers tower book) pair_weight most_pairs (first_pair tower book) pairs_same (pairs_few tower book few)

    -- A step of numbers is one of the pair's steps in order.
    step_there : (i a j : ℕ) → go tower book i a ≡ Some j → get_or (steps (pair_number tower book i)) a None ≡ Some (pair_number tower book j)
    step_there i a j e =
        let (l, k, step) = go_from i a j e in
        steps_at (pair_number tower book i) a (go_listed i a j e) ∙ step

    -- number j is met from number i by action a, as the rows of steps are read
    abbrev MetFrom : ℕ → ℕ → ℕ → Type 0
    MetFrom j i a = MetIn (number_of tower book) steps (first_pair tower book) (pairs tower book) j i a

    -- Then the step leads there,
    met_leads : (j i a : ℕ) → i < length (pairs tower book) → MetFrom j i a → go tower book i a ≡ Some j
    unfolding pair_number
    met_leads j i a l met =
        let v = pair_number tower book i in
        go_at i a l
        ∙ ap (option_map (number_of tower book)) (sym (steps_at v a (steps_inside v a met.here.inside)) ∙ met.here.there)
        ∙ ap {B = Option ℕ} Some met.here.is

    -- and no earlier step leads there, or to a later number.
    met_first : (j i a : ℕ) → MetFrom j i a → (p b q : ℕ) → go tower book p b ≡ Some q → j ≤ q → NoLater i a p b
    unfolding NoLater pair_number
    met_first j i a met p b q e above = by (dec_lt i p) (dec_lt p i)
      where
        back : number_of tower book (pair_number tower book q) ≡ q
        back = number_back q (go_from p b q e).1

        by : Dec (i < p) → Dec (p < i) → (i < p) ⊎ ((i ≡ p) × (a ≤ b))
        by (yes l) d = inl l
        by (no l) (yes k) =
            absurd (omega (arith, back, met.earlier p b (pair_number tower book q) k (step_there p b q e)))
        by (no l) (no k) =
            let same : i ≡ p = omega arith in
            inr (
              same,
              met.here.first b (pair_number tower book q)
                  (ap (λ r. get_or (steps (pair_number tower book r)) b None) same ∙ step_there p b q e) (omega (arith, back)),
            )

    -- Each number but 0 is first met by a step from an earlier one.
    pub first_met : (j : ℕ) → 0 < j → j < length (pairs tower book) → (i : ℕ) × (a : ℕ) × FirstMetBy (go tower book) j i a
    first_met j l k =
        from (rows_met (number_of tower book) steps (first_pair tower book) (pairs tower book) 0 1 numbers_met j (omega arith) (omega arith))
      where
        from : (i : ℕ) × (a : ℕ) × (0 + i < j) × MetFrom j i a → (i : ℕ) × (a : ℕ) × FirstMetBy (go tower book) j i a
        from (i, a, low, met) =
            (i, a, record { earlier = omega arith; leads = met_leads j i a (omega arith) met; first = met_first j i a met })

    -- ---- All of them

    -- How each number is first met, whatever is said of the others.
    chosen : (j : ℕ) → (i : ℕ) × (a : ℕ) × (0 < j → j < length (pairs tower book) → FirstMetBy (go tower book) j i a)
    chosen j = by (dec_lt 0 j) (dec_lt j (length (pairs tower book)))
      where
        some_way : (i : ℕ) × (a : ℕ) × FirstMetBy (go tower book) j i a
            → (i : ℕ) × (a : ℕ) × (0 < j → j < length (pairs tower book) → FirstMetBy (go tower book) j i a)
        some_way (i, a, met) = (i, a, λ l k. met)

        by : Dec (0 < j) → Dec (j < length (pairs tower book))
            → (i : ℕ) × (a : ℕ) × (0 < j → j < length (pairs tower book) → FirstMetBy (go tower book) j i a)
        by (yes l) (yes k) = some_way (first_met j l k)
        by (yes l) (no n) = (0, 0, λ p q. absurd (n q))
        by (no n) d = (0, 0, λ p q. absurd (n p))

    -- The pairs are numbered as they are first met.
    pub pairs_numbered : (from action : ℕ → ℕ) × Numbered (go tower book) (length (pairs tower book)) from action
    pairs_numbered = (
      λ j. (chosen j).0,
      λ j. (chosen j).1,
      record {
        some_place = some_pair;
        inside = λ i a j l e. (go_from i a j e).1;
        met = λ j l k. (chosen j).2 l k;
      },
    )

    -- ---- Where numbers lead

    -- From any number on, numbers lead where pairs do;
    leads_on : (w : List ℕ) (i j : ℕ) → i < length (pairs tower book) → j < length (pairs tower book)
        → leads (pair_step tower book) (pair_number tower book i) w ≡ Some (pair_number tower book j) → leads (go tower book) i w ≡ Some j
    leads_on [] i j k l e =
        leads_nil (go tower book) i
        ∙ ap {B = Option ℕ} Some (numbers_apart i j k l (some_one (leads_nil (pair_step tower book) (pair_number tower book i)) e))
    leads_on (a ∷ w) i j k l e =
        let (v, step, on) = leads_out (pair_step tower book) (pair_number tower book i) (pair_number tower book j) a w e in
        let m = step_number i a v k step in
        let q = number_of tower book v in
        leads_in (go tower book) i q j a w
        (go_to i a q (step ∙ ap {B = Option Pair} Some (number_is v m)) k (number_inside v m))
        (leads_on w q j (number_inside v m) l
        (ap (λ z. leads (pair_step tower book) z w) (sym (number_is v m)) ∙ on))

    -- pairs lead where numbers do, and to a pair that has a number.
    leads_back : (w : List ℕ) (i j : ℕ) → i < length (pairs tower book) → leads (go tower book) i w ≡ Some j
        → (j < length (pairs tower book))
        × (leads (pair_step tower book) (pair_number tower book i) w ≡ Some (pair_number tower book j))
    leads_back [] i j k e =
        let same = some_one (leads_nil (go tower book) i) e in (
          subst (λ r. r < length (pairs tower book)) same k,
          leads_nil (pair_step tower book) (pair_number tower book i) ∙ ap (λ r. Some (pair_number tower book r)) same,
        )
    leads_back (a ∷ w) i j k e =
        let (q, step, on) = leads_out (go tower book) i j a w e in
        let (l, m, goes) = go_from i a q step in
        let (n, rest) = leads_back w q j m on in
        (n, leads_in (pair_step tower book) (pair_number tower book i) (pair_number tower book q) (pair_number tower book j) a w goes rest)

    -- What a run leads to over numbers has a number.
    pub led_number : (w : List ℕ) (j : ℕ) → leads (go tower book) 0 w ≡ Some j → j < length (pairs tower book)
    led_number w j e = (leads_back w 0 j some_pair e).0

    -- Where numbers lead from 0, their pairs lead from the first,
    pub leads_pairs : (w : List ℕ) (j : ℕ) → leads (go tower book) 0 w ≡ Some j
        → leads (pair_step tower book) (first_pair tower book) w ≡ Some (pair_number tower book j)
    leads_pairs w j e = ap (λ v. leads (pair_step tower book) v w) (sym number_first) ∙ (leads_back w 0 j some_pair e).1

    -- and the other way round.
    pub leads_go : (w : List ℕ) (j : ℕ) → j < length (pairs tower book)
        → leads (pair_step tower book) (first_pair tower book) w ≡ Some (pair_number tower book j) → leads (go tower book) 0 w ≡ Some j
    leads_go w j l e = leads_on w 0 j some_pair l (ap (λ v. leads (pair_step tower book) v w) number_first ∙ e)
