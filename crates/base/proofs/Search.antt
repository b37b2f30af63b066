-- Breadth-first search finds what is reached, each once, in the order met: all of it, or else more than the limit.
use Prim.Native.Nat.{ℕ, zero, suc, ◌+◌, ◌≤◌, ◌<◌}
use mathlib.Core.Path.{◌≡◌, refl, sym, ap, ◌∙◌, subst}
use mathlib.Core.Logic.{◌⊎◌, inl, inr, ⊎_elim}
use mathlib.Core.Bool.{Bool, true, false}
use mathlib.Core.List.Memᴰ
use mathlib.Core.List.{List, [], ◌∷◌, ◌++◌, map, Memᴰ, append_assoc, append-nil}
use native.Mathlib.Omega.{arith}
use lib.ListN.{length, get_or, length-append, length-map}
use lib.Seq.{append_snoc}
use lib.Dec.{ltb}
use borrow.Author.Tests.{ltb-true}
use Rattle.base.specs.Choice.{pick}
use Rattle.base.specs.Lists.{some_of, place_of, total, Distinct}
use Rattle.base.specs.Search.{Apart, new_ones, search_on, search_from, once}
use Rattle.base.proofs.Lists.{never_both, false_by, or_fails_left, or_fails_right, or_neither, some_none, some_append, none_of, mem_get_or, mem_index, mem_along, place_of_append_left, place_of_append_right, place_of_some, place_of_at, IsSame, decides_same}

-- ---- What is said of a search

-- y is reached from x by going to followers.
pub data Reached {X : Type 0} (followers : X → List X) (x : X) : X → Type 0 where
  start : Reached followers x x
  onward : {y z : X} → Reached followers x y → Memᴰ z (followers y) → Reached followers x z

-- Reading places with m met so far, each is one of those or the next; n are met at the end.
unfoldable pub MeetsAll : ℕ → List ℕ → ℕ → Type 0
MeetsAll m [] n = m ≡ n
MeetsAll m (p ∷ ps) n = ((p < m) × MeetsAll m ps n) ⊎ ((p ≡ m) × MeetsAll (suc m) ps n)

-- The rows of places from number r on, read in order with m met before: each row is met before it is read, and none is left over.
unfoldable pub MetInOrder : ℕ → ℕ → List (List ℕ) → Type 0
MetInOrder r m [] = m ≡ r
MetInOrder r m (ps ∷ rows) = (r < m) × ((n : ℕ) × MeetsAll m ps n × MetInOrder (suc r) n rows)

-- What a search wants of its test: it is an equivalence, and of two that are reached and one and the same the followers are so too.
pub record Fitting {X : Type 0} (same : X → X → Bool) (followers : X → List X) (x : X) : Type 0 where
  pub is_same : IsSame same
  pub respects : (y z f : X) → Reached followers x y → Reached followers x z → same y z ≡ true → Memᴰ f (followers y)
      → (g : X) × Memᴰ g (followers z) × (same f g ≡ true)

-- A test that decides equality fits every search.
pub decides_fitting : {X : Type 0} (same : X → X → Bool) (followers : X → List X) (x : X) → ((y z : X) → same y z ≡ true → y ≡ z)
    → ((y : X) → same y y ≡ true) → Fitting same followers x
decides_fitting {X} same followers x out itself =
    record {
      is_same = decides_same same out itself;
      respects = λ y z f _ _ e m. (f, mem_along (ap followers (out y z e)) m, itself f);
    }

-- ---- Weights

-- Where each counts once, a list weighs its length.
pub total_once : {X : Type 0} (xs : List X) → total (map once xs) ≡ length xs
unfolding total
total_once [] = refl
total_once (x ∷ xs) = omega (arith, total_once xs)

-- Where each of a list weighs 1 or more, it weighs its length or more.
pub length_weight : {X : Type 0} (weight : X → ℕ) (xs : List X) → ((x : X) → Memᴰ x xs → 0 < weight x) → length xs ≤ total (map weight xs)
unfolding total
length_weight weight [] heavy = omega arith
length_weight weight (x ∷ xs) heavy =
    omega (arith, heavy x (Memᴰ.head refl), length_weight weight xs (λ y m. heavy y (Memᴰ.tail m)))

-- Each of a list weighs 1 or more, and the list no more than `most`.
pub record Few {X : Type 0} (weight : X → ℕ) (most : ℕ) (l : List X) : Type 0 where
  pub heavy : (x : X) → Memᴰ x l → 0 < weight x
  pub light : total (map weight l) ≤ most

-- A list of so many, where each counts once.
pub few_once : {X : Type 0} (most : ℕ) (l : List X) → length l ≤ most → Few once most l
few_once most l le = record { heavy = λ x m. omega arith; light = omega (arith, total_once l) }

-- One taken out of a list, with its weight.
taken : {X : Type 0} (weight : X → ℕ) {z : X} {l : List X} → Memᴰ z l
    → (rest : List X) × (total (map weight l) ≡ weight z + total (map weight rest)) × ((w : X) → Memᴰ w l → (w ≡ z) ⊎ Memᴰ w rest)
unfolding total
taken weight {z} (Memᴰ.head {x = x} {xs = xs} e) = (
  xs,
  ap (λ (y : _). weight y + total (map weight xs)) (sym e),
  λ w m. ⊎_elim (λ p. inl (p ∙ sym e)) inr (Memᴰ.cases_cons m),
)
taken {X} weight {z} (Memᴰ.tail {x = x} {xs = xs} m) =
    let (rest, sum, out) = taken weight m in
    (x ∷ rest, omega arith, λ w k. ⊎_elim (λ p. inr (Memᴰ.head p)) (λ i. ⊎_elim inl (λ j. inr (Memᴰ.tail j)) (out w i)) (Memᴰ.cases_cons k))

-- ---- Elements apart

module _ {X : Type 0} {same : X → X → Bool} (is : IsSame same) where
  -- Of elements apart those at different indices are not one and the same.
  pub apart_at : (xs : List X) (i j : ℕ) (d : X) → Apart same xs → i < length xs → j < length xs → same (get_or xs i d) (get_or xs j d) ≡ true
      → i ≡ j
  unfolding Apart
  apart_at [] i j d a k l e = absurd (omega arith)
  apart_at (x ∷ xs) zero zero d a k l e = refl
  apart_at (x ∷ xs) zero (suc j) d a k l e = never_both e (some_none (same x) a.0 (mem_get_or xs j d (omega arith)))
  apart_at (x ∷ xs) (suc i) zero d a k l e =
      never_both (is.turned (get_or xs i d) x e) (some_none (same x) a.0 (mem_get_or xs i d (omega arith)))
  apart_at (x ∷ xs) (suc i) (suc j) d a k l e = ap suc (apart_at xs i j d a.1 (omega arith) (omega arith) e)

  -- Elements are apart if no earlier one is the same as a later one.
  pub apart_by : (xs : List X) (d : X) → ((i j : ℕ) → i < j → j < length xs → same (get_or xs i d) (get_or xs j d) ≡ false) → Apart same xs
  unfolding Apart
  apart_by [] d h = tt
  apart_by (x ∷ xs) d h = (
    none_of (same x) xs (λ y m. let (j, l, e) = mem_index d m in ap (same x) (sym e) ∙ h 0 (suc j) (omega arith) (omega arith)),
    apart_by xs d (λ i j k l. h (suc i) (suc j) (omega arith) (omega arith)),
  )

  -- One more, behind.
  apart_snoc : (xs : List X) (y : X) → Apart same xs → some_of (same y) xs ≡ false → Apart same (xs ++ (y ∷ []))
  unfolding Apart some_of
  apart_snoc [] y a e = (refl, tt)
  apart_snoc (x ∷ xs) y a e = (
    some_append (same x) xs (y ∷ []) ∙ or_neither a.0 (or_neither (false_by (same x y) turn) refl),
    apart_snoc xs y a.1 (or_fails_right (same y x) (some_of (same y) xs) e),
  )
    where
      turn : same x y ≡ true → ⊥
      turn p = never_both (is.turned x y p) (or_fails_left (same y x) (some_of (same y) xs) e)

  -- Elements apart, each the same as one of a list, weigh no more than that list.
  pub apart_weigh : (weight : X → ℕ) → ((y z : X) → same y z ≡ true → weight y ≡ weight z) → (ms l : List X) → Apart same ms
      → ((y : X) → Memᴰ y ms → (z : X) × Memᴰ z l × (same y z ≡ true)) → total (map weight ms) ≤ total (map weight l)
  unfolding Apart total
  apart_weigh weight alike [] l a h = omega arith
  apart_weigh weight alike (y ∷ ms) l (none_same, a) h =
      let (z, m, e) = h y (Memᴰ.head refl) in
      let (rest, sum, out) = taken weight m in
      let fewer = apart_weigh weight alike ms rest a (λ u k. go z e rest out u k (h u (Memᴰ.tail k))) in
      let same_weight = alike y z e in
      omega arith
    where
      go : (z : X) → same y z ≡ true → (rest : List X) → ((w : X) → Memᴰ w l → (w ≡ z) ⊎ Memᴰ w rest) → (u : X) → Memᴰ u ms
          → (v : X) × Memᴰ v l × (same u v ≡ true) → (v : X) × Memᴰ v rest × (same u v ≡ true)
      go z e rest out u k (v, m, f) =
          ⊎_elim
          (λ is_z.
          absurd
          (never_both (is.chained y z u e (is.turned u z (ap (same u) (sym is_z) ∙ f))) (some_none (same y) none_same k)))
          (λ i. (v, i, f)) (out v m)

  -- So there are no more of them than it has.
  pub apart_few : (ms l : List X) → Apart same ms → ((y : X) → Memᴰ y ms → (z : X) × Memᴰ z l × (same y z ≡ true))
      → length ms ≤ length l
  apart_few ms l a h = let w = apart_weigh once (λ y z e. refl) ms l a h in omega (arith, total_once ms, total_once l)

-- What is apart by a test that each passes with itself is distinct.
pub apart_distinct : {X : Type 0} (same : X → X → Bool) → ((x : X) → same x x ≡ true) → (xs : List X) → Apart same xs → Distinct xs
unfolding Apart Distinct
apart_distinct same itself [] a = tt
apart_distinct same itself (x ∷ xs) (none_same, a) =
    (λ m. never_both (itself x) (some_none (same x) none_same m), apart_distinct same itself xs a)

-- What is distinct is apart by a test that only equals pass.
pub distinct_apart : {X : Type 0} (same : X → X → Bool) → ((x y : X) → same x y ≡ true → x ≡ y) → (xs : List X) → Distinct xs → Apart same xs
unfolding Apart Distinct
distinct_apart same out [] a = tt
distinct_apart same out (x ∷ xs) (not_in_rest, a) =
    (none_of (same x) xs (λ y m. false_by (same x y) (λ e. not_in_rest (Memᴰ.cast (out x y e) m))), distinct_apart same out xs a)

length_snoc : {X : Type 0} (xs : List X) (y : X) → length (xs ++ (y ∷ [])) ≡ suc (length xs)
length_snoc xs y = let e = length-append xs (y ∷ []) in omega arith

-- ---- Reading in order

-- At least as many are met at the end.
meets_grows : (m : ℕ) (ps : List ℕ) (n : ℕ) → MeetsAll m ps n → m ≤ n
unfolding MeetsAll
meets_grows m [] n e = omega arith
meets_grows m (p ∷ ps) n (inl (l, h)) = meets_grows m ps n h
meets_grows m (p ∷ ps) n (inr (e, h)) = let g = meets_grows (suc m) ps n h in omega arith

-- Each place read is one of those met at the end.
pub meets_below : (m : ℕ) (ps : List ℕ) (n : ℕ) {p : ℕ} → MeetsAll m ps n → Memᴰ p ps → p < n
unfolding MeetsAll
meets_below m [] n h k = absurd (Memᴰ.not-nil k)
meets_below m (q ∷ ps) n {p} h k = go (λ r g i. meets_below r ps n g i) h (Memᴰ.cases_cons k)
  where
    go : ((r : ℕ) → MeetsAll r ps n → Memᴰ p ps → p < n) → ((q < m) × MeetsAll m ps n) ⊎ ((q ≡ m) × MeetsAll (suc m) ps n)
        → (p ≡ q) ⊎ Memᴰ p ps → p < n
    go ih (inl (l, g)) (inl e) = let b = meets_grows m ps n g in omega arith
    go ih (inl (l, g)) (inr i) = ih m g i
    go ih (inr (d, g)) (inl e) = let b = meets_grows (suc m) ps n g in omega arith
    go ih (inr (d, g)) (inr i) = ih (suc m) g i

-- All that is met is read.
pub met_ends : (r m : ℕ) (rows : List (List ℕ)) → MetInOrder r m rows → m ≤ r + length rows
unfolding MetInOrder
met_ends r m [] e = omega arith
met_ends r m (ps ∷ rows) (l, (n, h, g)) =
    let b = met_ends (suc r) n rows g in
    let c = meets_grows m ps n h in
    omega arith

-- Each place that stands in a row is read as a row.
pub met_below : {ps : List ℕ} {p : ℕ} (r m : ℕ) {rows : List (List ℕ)} → MetInOrder r m rows → Memᴰ ps rows → Memᴰ p ps
    → p < r + length rows
unfolding MetInOrder
met_below r m {rows = []} _ x k = elim x [ ]
met_below {p = p} r m {rows = qs ∷ rows} (l, (n, h, g)) (Memᴰ.head e) k =
    let b = met_ends (suc r) n rows g in
    let c = meets_below m qs n h (mem_along e k) in
    omega arith
met_below r m {rows = qs ∷ rows} (l, (n, h, g)) (Memᴰ.tail i) k = let b = met_below (suc r) n g i k in omega arith

-- ---- The search

module _ {X : Type 0} (same : X → X → Bool) (followers : X → List X) where
  -- What is new stands in the list that was read.
  new_ones_mem : (seen fs : List X) {y : X} → Memᴰ y (new_ones same seen fs) → Memᴰ y fs
  unfolding new_ones
  new_ones_mem seen [] m = m
  new_ones_mem seen (f ∷ fs) {y} m = go (some_of (same f) seen) m (λ s k. new_ones_mem s fs k)
    where
      at : ((s : List X) → Memᴰ y (new_ones same s fs) → Memᴰ y fs) → (y ≡ f) ⊎ Memᴰ y (new_ones same (seen ++ (f ∷ [])) fs)
          → Memᴰ y (f ∷ fs)
      at ih (inl e) = Memᴰ.head e
      at ih (inr k) = Memᴰ.tail (ih (seen ++ (f ∷ [])) k)

      go : (b : Bool) → Memᴰ y (pick b (λ _. new_ones same seen fs) (λ _. f ∷ new_ones same (seen ++ (f ∷ [])) fs))
          → ((s : List X) → Memᴰ y (new_ones same s fs) → Memᴰ y fs) → Memᴰ y (f ∷ fs)
      go true k ih = Memᴰ.tail (ih seen k)
      go false k ih = at ih (Memᴰ.cases_cons k)

  -- With what is new, those seen stay apart.
  new_ones_apart : IsSame same → (seen fs : List X) → Apart same seen → Apart same (seen ++ new_ones same seen fs)
  unfolding new_ones
  new_ones_apart is seen [] a = rw append-nil a
  new_ones_apart is seen (f ∷ fs) a = go (some_of (same f) seen) refl (λ s b. new_ones_apart is s fs b)
    where
      go : (b : Bool) → some_of (same f) seen ≡ b → ((s : List X) → Apart same s → Apart same (s ++ new_ones same s fs))
          → Apart same (seen ++ pick b (λ _. new_ones same seen fs) (λ _. f ∷ new_ones same (seen ++ (f ∷ [])) fs))
      go true e ih = ih seen a
      go false e ih = rw (← append_snoc seen f (new_ones same (seen ++ (f ∷ [])) fs)) (ih (seen ++ (f ∷ [])) (apart_snoc is seen f a e))

  -- One of those seen has its place among them.
  seen_place : (f : X) (seen rest : List X) {l : List X} → l ≡ seen ++ rest → some_of (same f) seen ≡ true
      → place_of (same f) l < length seen
  seen_place f seen rest e p =
      let q = ap (place_of (same f)) e ∙ place_of_append_left (same f) seen rest p in
      let b = place_of_some (same f) seen p in
      omega arith

  -- A new one has its place behind them.
  next_place : IsSame same → (f : X) (seen rest : List X) {l : List X} → l ≡ seen ++ (f ∷ rest) → some_of (same f) seen ≡ false
      → place_of (same f) l ≡ length seen
  unfolding place_of
  next_place is f seen rest e p =
      let q = ap (place_of (same f)) e ∙ place_of_append_right (same f) seen (f ∷ rest) p in
      let z : place_of (same f) (f ∷ rest) ≡ 0 = ap (λ (b : Bool). pick b (λ _. 0) (λ _. suc (place_of (same f) rest))) (is.itself f) in
      omega arith

  -- Reading followers in order, each is one of those seen or the next.
  new_ones_met : IsSame same → (l seen fs more : List X) → l ≡ (seen ++ new_ones same seen fs) ++ more
      → MeetsAll (length seen) (map (λ f. place_of (same f) l) fs) (length (seen ++ new_ones same seen fs))
  unfolding new_ones MeetsAll
  new_ones_met is l seen [] more e = ap length (sym (append-nil seen))
  new_ones_met is l seen (f ∷ fs) more e = go (some_of (same f) seen) refl e (λ s d. new_ones_met is l s fs more d)
    where
      ps : List ℕ
      ps = map (λ g. place_of (same g) l) fs

      after : Bool → List X
      after b = seen ++ pick b (λ _. new_ones same seen fs) (λ _. f ∷ new_ones same (seen ++ (f ∷ [])) fs)

      go : (b : Bool) → some_of (same f) seen ≡ b → l ≡ after b ++ more
          → ((s : List X) → l ≡ (s ++ new_ones same s fs) ++ more → MeetsAll (length s) ps (length (s ++ new_ones same s fs)))
          → MeetsAll (length seen) (place_of (same f) l ∷ ps) (length (after b))
      go true p d ih =
          let those = new_ones same seen fs in
          inl (seen_place f seen (those ++ more) (d ∙ append_assoc seen those more) p, ih seen d)
      go false p d ih =
          let those = new_ones same (seen ++ (f ∷ [])) fs in
          let h = ih (seen ++ (f ∷ [])) (d ∙ ap (λ (z : List X). z ++ more) (sym (append_snoc seen f those))) in
          let rest = rw (append_snoc seen f those, length_snoc seen f) at h in
          inr (next_place is f seen (those ++ more) (d ∙ append_assoc seen (f ∷ those) more) p, rest)

  -- what is new among the followers of y
  abbrev new : List X → X → List X
  new seen y = new_ones same seen (followers y)

  -- for each of ys, the places of its followers in l
  abbrev places : List X → List X → List (List ℕ)
  places l ys = map (λ y. map (λ f. place_of (same f) l) (followers y)) ys

  module _ (weight : X → ℕ) (most : ℕ) where
    abbrev searched : ℕ → List X → List X → List X
    searched n seen todo = search_on same followers weight most n seen todo

    -- What each turn keeps the search keeps.
    search_keeps : (P : List X → List X → Type 0)
        → ((seen : List X) (y : X) (todo : List X) → P seen (y ∷ todo) → P (seen ++ new seen y) (todo ++ new seen y))
        → (n : ℕ) (seen todo : List X) → P seen todo → (left : List X) × P (searched n seen todo) left
    unfolding search_on
    search_keeps P step zero seen todo p = (todo, p)
    search_keeps P step (suc n) seen [] p = ([], p)
    search_keeps P step (suc n) seen (y ∷ todo) p =
        go (ltb most (total (map weight seen))) (search_keeps P step n (seen ++ new seen y) (todo ++ new seen y) (step seen y todo p))
      where
        l : List X
        l = searched n (seen ++ new seen y) (todo ++ new seen y)

        go : (b : Bool) → (left : List X) × P l left → (left : List X) × P (pick b (λ _. seen) (λ _. l)) left
        go true ih = (y ∷ todo, p)
        go false ih = ih

    -- A search that stops with at most `most` seen has looked at each of them in turn, and its places are as they are met.
    record Looked (done todo seen l : List X) : Type 0 where
      more : List X
      grown : l ≡ seen ++ more
      order : MetInOrder (length done) (length seen) (places l (todo ++ more))

    -- One turn, and then the rest.
    look : IsSame same → (y : X) (done todo seen l : List X) → seen ≡ done ++ (y ∷ todo)
        → Looked (done ++ (y ∷ [])) (todo ++ new seen y) (seen ++ new seen y) l → Looked done (y ∷ todo) seen l
    unfolding MetInOrder
    look is y done todo seen l e k =
        let before : length done < length seen = omega (arith, ap length e, length-append done (y ∷ todo)) in
        let meets = new_ones_met is l seen (followers y) k.more k.grown in
        let rest = rw (length_snoc done y, append_assoc todo (new seen y) k.more) at k.order in
        record {
          more = new seen y ++ k.more;
          grown = k.grown ∙ append_assoc seen (new seen y) k.more;
          order = (before, (length (seen ++ new seen y), meets, rest));
        }

    search_looks : IsSame same → (n : ℕ) (done todo seen l : List X) → seen ≡ done ++ todo → suc most ≤ n + length done
        → l ≡ searched n seen todo → Few weight most l → Looked done todo seen l
    unfolding search_on MetInOrder
    search_looks is zero done todo seen l e fuel is_l few = absurd (omega (arith, length_weight weight l few.heavy, few.light, ap length is_l, ap length e, length-append done todo))
    search_looks is (suc n) done [] seen l e fuel is_l few =
        record { more = []; grown = is_l ∙ sym (append-nil seen); order = ap length e ∙ ap length (append-nil done) }
    search_looks is (suc n) done (y ∷ todo) seen l e fuel is_l few =
        let less : suc most ≤ n + length (done ++ (y ∷ [])) = omega (arith, length_snoc done y) in
        let next = search_looks is n (done ++ (y ∷ [])) (todo ++ new seen y) (seen ++ new seen y) l moved less in
        go (ltb most (total (map weight seen))) refl is_l (λ q. next q few)
      where
        moved : seen ++ new seen y ≡ (done ++ (y ∷ [])) ++ (todo ++ new seen y)
        moved =
            ap (λ (z : List X). z ++ new seen y) e
            ∙ append_assoc done (y ∷ todo) (new seen y)
            ∙ sym (append_snoc done y (todo ++ new seen y))

        go : (b : Bool) → ltb most (total (map weight seen)) ≡ b → l ≡ pick b (λ _. seen) (λ _. searched n (seen ++ new seen y) (todo ++ new seen y))
            → (l ≡ searched n (seen ++ new seen y) (todo ++ new seen y)
            → Looked (done ++ (y ∷ [])) (todo ++ new seen y) (seen ++ new seen y) l)
            → Looked done (y ∷ todo) seen l
        go true p q ih = absurd (omega (arith, few.light, ltb-true most (total (map weight seen)) p, ap (λ (z : List X). total (map weight z)) q))
        go false p q ih = look is y done todo seen l e (ih q)

  -- ---- From one element on

  module _ (weight : X → ℕ) (most : ℕ) (x : X) where
    -- what the search finds from x on
    abbrev found : List X
    found = search_from same followers weight most x

    -- What each turn keeps holds of what is found.
    found_keeps : (P : List X → List X → Type 0)
        → ((seen : List X) (y : X) (todo : List X) → P seen (y ∷ todo) → P (seen ++ new seen y) (todo ++ new seen y)) → P (x ∷ []) (x ∷ [])
        → (left : List X) × P found left
    unfolding search_from
    found_keeps P step p = search_keeps weight most P step (suc most) (x ∷ []) (x ∷ []) p

    -- The search finds x first.
    pub search_first : (rest : List X) × (found ≡ x ∷ rest)
    search_first = (found_keeps (λ seen todo. (rest : List X) × (seen ≡ x ∷ rest)) step ([], refl)).1
      where
        step : (seen : List X) (y : X) (todo : List X) → (rest : List X) × (seen ≡ x ∷ rest)
            → (rest : List X) × (seen ++ new seen y ≡ x ∷ rest)
        step seen y todo (rest, e) = (rest ++ new seen y, ap (λ (z : List X). z ++ new seen y) e)

    -- All that it finds is reached.
    pub search_reached : {y : X} → Memᴰ y found → Reached followers x y
    search_reached {y} m = (found_keeps (λ seen todo. Only seen × Only todo) step (first, first)).1.0 y m
      where
        Only : List X → Type 0
        Only l = (z : X) → Memᴰ z l → Reached followers x z

        first : Only (x ∷ [])
        first z k = rw (Memᴰ.eq_of_singleton k) start

        both : (s t : List X) → Only s → Only t → Only (s ++ t)
        both s t h k z i = ⊎_elim (h z) (k z) (Memᴰ.append_cases s i)

        step : (seen : List X) (u : X) (todo : List X) → Only seen × Only (u ∷ todo) → Only (seen ++ new seen u) × Only (todo ++ new seen u)
        step seen u todo (p, q) =
            let those : Only (new seen u) = λ z i. onward (q u (Memᴰ.head refl)) (new_ones_mem seen (followers u) i) in
            let rest : Only todo = λ z i. q z (Memᴰ.tail i) in
            (both seen (new seen u) p those, both todo (new seen u) rest those)

    -- No two that it finds are one and the same.
    pub search_apart : IsSame same → Apart same found
    unfolding Apart some_of
    search_apart is = (found_keeps (λ seen todo. Apart same seen) (λ seen y todo p. new_ones_apart is seen (followers y) p) (refl, tt)).1

    -- If what it finds weighs at most `most`, it meets them in order: row by row, each follower's place is one met already or the next, and at the end
    -- all are read.
    pub search_order : IsSame same → Few weight most found → MetInOrder 0 1 (places found found)
    unfolding search_from
    search_order is few =
        let k = search_looks weight most is (suc most) [] (x ∷ []) (x ∷ []) found refl (omega arith) refl few in
        subst (λ (ys : List X). MetInOrder 0 1 (places found ys)) (sym k.grown) k.order

    -- If what it finds weighs at most `most`, each follower of one found is the same as one found.
    pub search_closed : IsSame same → Few weight most found → {y f : X} → Memᴰ y found → Memᴰ f (followers y)
        → (z : X) × Memᴰ z found × (same f z ≡ true)
    search_closed is few {f = f} m k =
        let row = Memᴰ.map (λ y. map (λ f. place_of (same f) found) (followers y)) m in
        let b = met_below 0 1 (search_order is few) row (Memᴰ.map (λ f. place_of (same f) found) k) in
        let n = length-map found (λ y. map (λ f. place_of (same f) found) (followers y)) in
        let c : place_of (same f) found < length found = omega arith in
        (get_or found (place_of (same f) found) f, mem_get_or found (place_of (same f) found) f c, place_of_at (same f) found f c)

    -- If what it finds weighs at most `most`, all that is reached is the same as one found.
    pub search_all : Fitting same followers x → Few weight most found → {y : X} → Reached followers x y
        → (z : X) × Memᴰ z found × (same y z ≡ true)
    search_all fit few start =
        let (rest, e) = search_first in
        (x, mem_along (sym e) (Memᴰ.head refl), fit.is_same.itself x)
    search_all fit few (onward {y = y} {z = f} r k) =
        let (z, m, e) = search_all fit few r in
        let (g, i, p) = fit.respects y z f r (search_reached m) e k in
        let (w, n, q) = search_closed fit.is_same few m i in
        (w, n, fit.is_same.chained f g w p q)

    -- ---- Where the test decides equality

    module _ (out : (y z : X) → same y z ≡ true → y ≡ z) (itself : (y : X) → same y y ≡ true) where
      -- If what it finds weighs at most `most`, it finds all that is reached.
      pub search_finds : Few weight most found → {y : X} → Reached followers x y → Memᴰ y found
      search_finds few {y} r =
          let (z, m, e) = search_all (decides_fitting same followers x out itself) few r in
          Memᴰ.cast (out y z e) m

      -- If what it finds weighs at most `most`, distinct elements that are reached weigh no more.
      pub search_at_most : Few weight most found → (ms : List X) → Distinct ms → ((y : X) → Memᴰ y ms → Reached followers x y)
          → total (map weight ms) ≤ most
      search_at_most few ms distinct reached =
          let w =
          apart_weigh (decides_same same out itself) weight (λ y z e. ap weight (out y z e)) ms found (distinct_apart same out ms distinct)
          (λ y m. search_all (decides_fitting same followers x out itself) few (reached y m)) in
          omega (arith, few.light)

      -- What it finds is distinct, and reached.
      pub search_distinct : Distinct found
      search_distinct = apart_distinct same itself found (search_apart (decides_same same out itself))
