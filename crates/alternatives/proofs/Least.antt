-- The least of several things: what is in it, that it covers them all, that it is an ordered antichain, and that no other one covers them.
use Prim.Native.Nat.{suc, ◌+◌, ◌≤◌}
use mathlib.Core.Path.{◌≡◌, refl, sym, ap, ap₂, ◌∙◌, subst}
use mathlib.Core.Logic.{◌⊎◌, inl, inr, ⊎_elim}
use mathlib.Core.Bool.{Bool, true, false}
use mathlib.Core.List.Memᴰ
use mathlib.Core.List.{List, [], ◌∷◌, ◌++◌, Memᴰ, append-nil}
use native.Mathlib.Omega.{arith}
use lib.ListN.{length}
use lib.Seq.{append_snoc}
use Rattle.base.specs.Choice.{pick}
use Rattle.base.specs.Lists.{some_of}
use Rattle.base.proofs.Lists.{whether, never_both, some_at, some_none, none_of}
use Rattle.alternatives.specs.Least.{without, placed, with_one_more, with_more, least}
use Rattle.alternatives.specs.Antichain.{StandsBefore, Antichain}

-- What is asked of the two tests: `no_more` is reflexive and transitive, and `earlier` is a strict total order.
pub record OrderLaws {X : Type 0} (no_more earlier : X → X → Bool) : Type 0 where
  pub itself : (x : X) → no_more x x ≡ true
  pub chained : (x y z : X) → no_more x y ≡ true → no_more y z ≡ true → no_more x z ≡ true
  pub not_itself : (x : X) → earlier x x ≡ false
  pub in_turn : (x y z : X) → earlier x y ≡ true → earlier y z ≡ true → earlier x z ≡ true
  pub one_first : (x y : X) → (x ≡ y) ⊎ (earlier x y ≡ true) ⊎ (earlier y x ≡ true)

-- One of zs asks no more than x.
abbrev pub Covered : {X : Type 0} → (X → X → Bool) → List X → X → Type 0
Covered {X} no_more zs x = (y : X) × Memᴰ y zs × (no_more y x ≡ true)

-- what holds of either arm, by its test, holds of the choice
pick_by : {Z : Type 0} (Q : Z → Type 0) (b : Bool) (x y : Unit {0} → Z) → (b ≡ true → Q (x tt)) → (b ≡ false → Q (y tt)) → Q (pick b x y)
pick_by Q true x y p q = p refl
pick_by Q false x y p q = q refl

module _ {X : Type 0} (no_more : X → X → Bool) (earlier : X → X → Bool) where
  -- ---- What is in it

  -- What is not dropped was there, and x asks something that it does not.
  pub without_out : (x : X) (ys : List X) {z : X} → Memᴰ z (without no_more earlier x ys) → Memᴰ z ys × (no_more x z ≡ false)
  unfolding without
  without_out x [] m = absurd (Memᴰ.not-nil m)
  without_out x (y ∷ ys) {z} m =
      pick_by (λ zs. Memᴰ z zs → Memᴰ z (y ∷ ys) × (no_more x z ≡ false)) (no_more x y) _ _
      (λ _ k. later (without_out x ys k))
      (λ e k. ⊎_elim (λ p. (Memᴰ.head p, ap (no_more x) p ∙ e)) (λ i. later (without_out x ys i)) (Memᴰ.cases_cons k))
      m
    where
      later : Memᴰ z ys × (no_more x z ≡ false) → Memᴰ z (y ∷ ys) × (no_more x z ≡ false)
      later h = (Memᴰ.tail h.0, h.1)

  -- What was there stays if x asks something that it does not.
  pub without_in : (x : X) (ys : List X) {z : X} → Memᴰ z ys → no_more x z ≡ false → Memᴰ z (without no_more earlier x ys)
  unfolding without
  without_in x [] m e = absurd (Memᴰ.not-nil m)
  without_in x (y ∷ ys) {z} m e =
      pick_by (λ zs. Memᴰ z zs) (no_more x y) _ _
      (λ p. ⊎_elim (λ q. never_both (ap (no_more x) q ∙ p) e) (λ i. without_in x ys i e) (Memᴰ.cases_cons m))
      (λ p. ⊎_elim (λ q. Memᴰ.head q) (λ i. Memᴰ.tail (without_in x ys i e)) (Memᴰ.cases_cons m))

  -- Where x takes its place there is x, or one that was there.
  pub placed_from : (x : X) (ys : List X) {z : X} → Memᴰ z (placed no_more earlier x ys) → (z ≡ x) ⊎ Memᴰ z ys
  unfolding placed
  placed_from x [] m = Memᴰ.cases_cons m
  placed_from x (y ∷ ys) {z} m =
      pick_by (λ zs. Memᴰ z zs → (z ≡ x) ⊎ Memᴰ z (y ∷ ys)) (earlier x y) _ _ (λ _ k. Memᴰ.cases_cons k)
      (λ _ k. ⊎_elim (λ p. inr (Memᴰ.head p))
      (λ i. ⊎_elim inl (λ j. inr (Memᴰ.tail j)) (placed_from x ys i)) (Memᴰ.cases_cons k))
      m

  -- It is there,
  pub placed_here : (x : X) (ys : List X) → Memᴰ x (placed no_more earlier x ys)
  unfolding placed
  placed_here x [] = Memᴰ.head refl
  placed_here x (y ∷ ys) =
      pick_by (λ zs. Memᴰ x zs) (earlier x y) _ _ (λ _. Memᴰ.head refl) (λ _. Memᴰ.tail (placed_here x ys))

  -- and so are those that were.
  pub placed_there : (x : X) (ys : List X) {z : X} → Memᴰ z ys → Memᴰ z (placed no_more earlier x ys)
  unfolding placed
  placed_there x [] m = Memᴰ.tail m
  placed_there x (y ∷ ys) {z} m =
      pick_by (λ zs. Memᴰ z zs) (earlier x y) _ _ (λ _. Memᴰ.tail m)
      (λ _. ⊎_elim (λ p. Memᴰ.head p) (λ i. Memᴰ.tail (placed_there x ys i)) (Memᴰ.cases_cons m))

  -- With one more there is that one, or one that was there.
  pub one_more_from : (x : X) (ys : List X) {z : X} → Memᴰ z (with_one_more no_more earlier x ys) → (z ≡ x) ⊎ Memᴰ z ys
  unfolding with_one_more
  one_more_from x ys {z} m =
      pick_by (λ zs. Memᴰ z zs → (z ≡ x) ⊎ Memᴰ z ys) (some_of (λ y. no_more y x) ys) _ _ (λ _ k. inr k)
      (λ _ k. ⊎_elim inl (λ i. inr (without_out x ys i).0) (placed_from x (without no_more earlier x ys) k))
      m

  -- With some more there is one that was there, or one of those.
  pub more_from : (ys xs : List X) {z : X} → Memᴰ z (with_more no_more earlier ys xs) → Memᴰ z ys ⊎ Memᴰ z xs
  unfolding with_more
  more_from ys [] m = inl m
  more_from ys (x ∷ xs) m =
      ⊎_elim (λ k. ⊎_elim (λ e. inr (Memᴰ.head e)) inl (one_more_from x ys k)) (λ k. inr (Memᴰ.tail k))
      (more_from (with_one_more no_more earlier x ys) xs m)

  -- What stays is one of them.
  pub least_from : (xs : List X) {z : X} → Memᴰ z (least no_more earlier xs) → Memᴰ z xs
  unfolding least
  least_from xs m = ⊎_elim (λ k. absurd (Memᴰ.not-nil k)) (λ k. k) (more_from [] xs m)

  -- Some more, and then some more.
  pub more_append : (ys xs zs : List X)
      → with_more no_more earlier ys (xs ++ zs) ≡ with_more no_more earlier (with_more no_more earlier ys xs) zs
  unfolding with_more
  more_append ys [] zs = refl
  more_append ys (x ∷ xs) zs = more_append (with_one_more no_more earlier x ys) xs zs

  -- ---- How many

  without_length : (x : X) (ys : List X) → length (without no_more earlier x ys) ≤ length ys
  unfolding without
  without_length x [] = omega arith
  without_length x (y ∷ ys) = go (no_more x y) (without_length x ys)
    where
      go : (b : Bool) → length (without no_more earlier x ys) ≤ length ys
          → length (pick b (λ _. without no_more earlier x ys) (λ _. y ∷ without no_more earlier x ys)) ≤ suc (length ys)
      go true ih = omega arith
      go false ih = omega arith

  -- One that takes its place is one more.
  pub placed_length : (x : X) (ys : List X) → length (placed no_more earlier x ys) ≡ suc (length ys)
  unfolding placed
  placed_length x [] = refl
  placed_length x (y ∷ ys) =
      pick_by (λ (zs : List X). length zs ≡ suc (suc (length ys))) (earlier x y) _ _ (λ _. refl) (λ _. ap suc (placed_length x ys))

  -- One more makes at most one more.
  pub one_more_length : (x : X) (ys : List X) → length (with_one_more no_more earlier x ys) ≤ suc (length ys)
  unfolding with_one_more
  one_more_length x ys = pick_by (λ (zs : List X). length zs ≤ suc (length ys)) (some_of (λ y. no_more y x) ys) _ _ (λ _. as_many) (λ _. one_more)
    where
      as_many : length ys ≤ suc (length ys)
      as_many = omega arith

      one_more : length (placed no_more earlier x (without no_more earlier x ys)) ≤ suc (length ys)
      one_more = omega (arith, placed_length x (without no_more earlier x ys), without_length x ys)

  -- With some more there are at most as many as both together.
  pub more_length : (ys xs : List X) → length (with_more no_more earlier ys xs) ≤ length ys + length xs
  unfolding with_more
  more_length ys [] = omega arith
  more_length ys (x ∷ xs) = omega (arith, more_length (with_one_more no_more earlier x ys) xs, one_more_length x ys)

  -- No more stay than there are.
  pub least_length : (xs : List X) → length (least no_more earlier xs) ≤ length xs
  unfolding least
  least_length xs = omega (arith, more_length [] xs)

  -- ---- In an antichain

  antichain_without : (x : X) (ys : List X) → Antichain no_more earlier ys → Antichain no_more earlier (without no_more earlier x ys)
  unfolding Antichain without
  antichain_without x [] c = tt
  antichain_without x (y ∷ ys) c =
      pick_by (λ zs. Antichain no_more earlier zs) (no_more x y) _ _ (λ _. antichain_without x ys c.1)
      (λ _. (λ z m. c.0 z (without_out x ys m).0, antichain_without x ys c.1))

  -- Of two parts of an antichain each of the first stands before each of the second.
  pub antichain_parts : (ys xs : List X) → Antichain no_more earlier (ys ++ xs) → {y x : X} → Memᴰ y ys → Memᴰ x xs
      → StandsBefore no_more earlier y x
  unfolding Antichain
  antichain_parts [] xs c m k = absurd (Memᴰ.not-nil m)
  antichain_parts (z ∷ ys) xs c {y} {x} m k =
      ⊎_elim (λ p. subst (λ w. StandsBefore no_more earlier w x) (sym p) (c.0 x (Memᴰ.append_right ys k)))
      (λ i. antichain_parts ys xs c.1 i k) (Memᴰ.cases_cons m)

  -- Of two in an antichain one asks no more than the other only if they are the same.
  pub antichain_one : (xs : List X) → Antichain no_more earlier xs → {x y : X} → Memᴰ x xs → Memᴰ y xs → no_more x y ≡ true
      → x ≡ y
  unfolding Antichain
  antichain_one [] c m k e = absurd (Memᴰ.not-nil m)
  antichain_one (z ∷ xs) c {x} {y} m k e =
      ⊎_elim
      (λ p. ⊎_elim (λ q. p ∙ sym q) (λ j. never_both (ap (λ (w : X). no_more w y) (sym p) ∙ e) (c.0 y j).first_asks) (Memᴰ.cases_cons k))
      (λ i. ⊎_elim (λ q. never_both (ap (no_more x) (sym q) ∙ e) (c.0 x i).second_asks) (λ j. antichain_one xs c.1 i j e)
      (Memᴰ.cases_cons k))
      (Memᴰ.cases_cons m)

  without_none : (x : X) (ys : List X) → ((y : X) → Memᴰ y ys → StandsBefore no_more earlier y x) → without no_more earlier x ys ≡ ys
  unfolding without
  without_none x [] h = refl
  without_none x (y ∷ ys) h =
      pick_by (λ zs. zs ≡ y ∷ ys) (no_more x y) _ _ (λ e. never_both e (h y (Memᴰ.head refl)).second_asks)
      (λ _. ap (λ (zs : List X). y ∷ zs) (without_none x ys (λ z m. h z (Memᴰ.tail m))))

  module _ (laws : OrderLaws no_more earlier) where
    -- ---- What is covered

    -- What asks no less than one that is covered is covered.
    pub covered_by : (y x : X) (zs : List X) → Covered no_more zs y → no_more y x ≡ true → Covered no_more zs x
    covered_by y x zs (z, m, e) le = (z, m, laws.chained z y x e le)

    -- What a covered list covers is covered.
    pub covered_on : (ys zs : List X) {x : X} → Covered no_more ys x → ((y : X) → Memᴰ y ys → Covered no_more zs y)
        → Covered no_more zs x
    covered_on ys zs {x} (y, m, e) all = covered_by y x zs (all y m) e

    -- A list covers what is in it.
    pub covered_in : {x : X} {xs : List X} → Memᴰ x xs → Covered no_more xs x
    covered_in {x} m = (x, m, laws.itself x)

    -- One more is covered,
    pub one_more_new : (x : X) (ys : List X) → Covered no_more (with_one_more no_more earlier x ys) x
    unfolding with_one_more
    one_more_new x ys =
        pick_by (λ zs. Covered no_more zs x) (some_of (λ y. no_more y x) ys) _ _ (λ e. some_at (λ y. no_more y x) ys e)
        (λ _. covered_in (placed_here x (without no_more earlier x ys)))

    -- and so are those that were there.
    pub one_more_old : (x : X) (ys : List X) {z : X} → Memᴰ z ys → Covered no_more (with_one_more no_more earlier x ys) z
    unfolding with_one_more
    one_more_old x ys {z} m =
        pick_by (λ zs. Covered no_more zs z) (some_of (λ y. no_more y x) ys) _ _ (λ _. covered_in m)
        (λ _. whether (no_more x z) (λ e. (x, placed_here x (without no_more earlier x ys), e))
        (λ e. covered_in (placed_there x (without no_more earlier x ys) (without_in x ys m e))))

    -- What was covered stays so with some more,
    pub more_old : (ys xs : List X) {z : X} → Covered no_more ys z → Covered no_more (with_more no_more earlier ys xs) z
    unfolding with_more
    more_old ys [] h = h
    more_old ys (x ∷ xs) {z} h =
        more_old (with_one_more no_more earlier x ys) xs
        (covered_on ys (with_one_more no_more earlier x ys) h (λ y m. one_more_old x ys m))

    -- and each of those is covered.
    pub more_new : (ys xs : List X) {z : X} → Memᴰ z xs → Covered no_more (with_more no_more earlier ys xs) z
    unfolding with_more
    more_new ys [] m = absurd (Memᴰ.not-nil m)
    more_new ys (x ∷ xs) {z} m =
        ⊎_elim
        (λ e. more_old (with_one_more no_more earlier x ys) xs
        (covered_by x z (with_one_more no_more earlier x ys) (one_more_new x ys) (ap (no_more x) e ∙ laws.itself x)))
        (λ k. more_new (with_one_more no_more earlier x ys) xs k)
        (Memᴰ.cases_cons m)

    -- What stays covers them all.
    pub least_covers : (xs : List X) {z : X} → Memᴰ z xs → Covered no_more (least no_more earlier xs) z
    unfolding least
    least_covers xs m = more_new [] xs m

    -- ---- Antichain

    -- of two that differ the one is earlier if the other is not
    turned : (x y : X) → no_more x y ≡ false → earlier x y ≡ false → earlier y x ≡ true
    turned x y more late =
        ⊎_elim (λ e. never_both (ap (no_more x) (sym e) ∙ laws.itself x) more) (λ h. ⊎_elim (λ p. never_both p late) (λ p. p) h)
        (laws.one_first x y)

    -- One that neither asks no more than any nor is asked no more by any takes its place in an antichain: it stays one.
    pub antichain_placed : (x : X) (ys : List X) → Antichain no_more earlier ys
        → ((y : X) → Memᴰ y ys → (no_more x y ≡ false) × (no_more y x ≡ false))
        → Antichain no_more earlier (placed no_more earlier x ys)
    unfolding Antichain placed
    antichain_placed x [] c apart = (λ y m. absurd (Memᴰ.not-nil m), tt)
    antichain_placed x (y ∷ ys) c apart =
        pick_by (λ zs. Antichain no_more earlier zs) (earlier x y) _ _ (λ e. (first e, c))
        (λ e. (behind e, antichain_placed x ys c.1 (λ z m. apart z (Memᴰ.tail m))))
      where
        first : earlier x y ≡ true → (z : X) → Memᴰ z (y ∷ ys) → StandsBefore no_more earlier x z
        first e z m =
            record {
              before = ⊎_elim (λ p. ap (earlier x) p ∙ e) (λ k. laws.in_turn x y z e (c.0 z k).before) (Memᴰ.cases_cons m);
              first_asks = (apart z m).0;
              second_asks = (apart z m).1;
            }

        here : Memᴰ y (y ∷ ys)
        here = Memᴰ.head refl

        behind : earlier x y ≡ false → (z : X) → Memᴰ z (placed no_more earlier x ys) → StandsBefore no_more earlier y z
        behind e z m =
            ⊎_elim
            (λ p. record {
              before = ap (earlier y) p ∙ turned x y (apart y here).0 e;
              first_asks = ap (no_more y) p ∙ (apart y here).1;
              second_asks = ap (λ (w : X). no_more w y) p ∙ (apart y here).0;
            })
            (λ k. c.0 z k)
            (placed_from x ys m)

    -- With one more an antichain stays one,
    pub antichain_one_more : (x : X) (ys : List X) → Antichain no_more earlier ys → Antichain no_more earlier (with_one_more no_more earlier x ys)
    unfolding with_one_more
    antichain_one_more x ys c =
        pick_by (λ zs. Antichain no_more earlier zs) (some_of (λ y. no_more y x) ys) _ _ (λ _. c)
        (λ e. antichain_placed x (without no_more earlier x ys) (antichain_without x ys c)
        (λ y m. ((without_out x ys m).1, some_none (λ z. no_more z x) e (without_out x ys m).0)))

    -- and so with some more.
    pub antichain_more : (ys xs : List X) → Antichain no_more earlier ys → Antichain no_more earlier (with_more no_more earlier ys xs)
    unfolding with_more
    antichain_more ys [] c = c
    antichain_more ys (x ∷ xs) c = antichain_more (with_one_more no_more earlier x ys) xs (antichain_one_more x ys c)

    -- What stays is an antichain.
    pub least_antichain : (xs : List X) → Antichain no_more earlier (least no_more earlier xs)
    unfolding least Antichain
    least_antichain xs = antichain_more [] xs tt

    -- ---- An antichain stays as it is

    placed_last : (x : X) (ys : List X) → ((y : X) → Memᴰ y ys → StandsBefore no_more earlier y x)
        → placed no_more earlier x ys ≡ ys ++ (x ∷ [])
    unfolding placed
    placed_last x [] h = refl
    placed_last x (y ∷ ys) h =
        pick_by (λ zs. zs ≡ y ∷ ys ++ (x ∷ [])) (earlier x y) _ _
        (λ e. never_both (laws.in_turn x y x e (h y (Memᴰ.head refl)).before) (laws.not_itself x))
        (λ _. ap (λ (zs : List X). y ∷ zs) (placed_last x ys (λ z m. h z (Memᴰ.tail m))))

    -- One more that all the others stand before comes last.
    pub one_more_last : (x : X) (ys : List X) → ((y : X) → Memᴰ y ys → StandsBefore no_more earlier y x)
        → with_one_more no_more earlier x ys ≡ ys ++ (x ∷ [])
    unfolding with_one_more
    one_more_last x ys h =
        pick_by (λ zs. zs ≡ ys ++ (x ∷ [])) (some_of (λ y. no_more y x) ys) _ _
        (λ e. never_both e (none_of (λ y. no_more y x) ys (λ y m. (h y m).first_asks)))
        (λ _. ap (placed no_more earlier x) (without_none x ys h) ∙ placed_last x ys h)

    more_last : (ys xs : List X) → Antichain no_more earlier (ys ++ xs) → with_more no_more earlier ys xs ≡ ys ++ xs
    unfolding with_more
    more_last ys [] c = sym (append-nil ys)
    more_last ys (x ∷ xs) c =
        ap (λ (zs : List X). with_more no_more earlier zs xs)
        (one_more_last x ys (λ y m. antichain_parts ys (x ∷ xs) c m (Memᴰ.head refl)))
        ∙ more_last (ys ++ (x ∷ [])) xs (subst (Antichain no_more earlier) (sym (append_snoc ys x xs)) c)
        ∙ append_snoc ys x xs

    -- Of an antichain everything stays.
    pub least_kept : (xs : List X) → Antichain no_more earlier xs → least no_more earlier xs ≡ xs
    unfolding least
    least_kept xs c = more_last [] xs c

    -- Dropping some first changes nothing.
    pub least_first : (xs ys : List X) → least no_more earlier (xs ++ ys) ≡ least no_more earlier (least no_more earlier xs ++ ys)
    unfolding least
    least_first xs ys =
        more_append [] xs ys
        ∙ ap (λ (zs : List X). with_more no_more earlier zs ys) (sym (least_kept (least no_more earlier xs) (least_antichain xs)))
        ∙ sym (more_append [] (least no_more earlier xs) ys)

    -- ---- One antichain

    -- one of an antichain that is in another with the same head is in its tail
    in_tail : (x y : X) (xs ys : List X) → x ≡ y → ((z : X) → Memᴰ z xs → StandsBefore no_more earlier x z)
        → ((z : X) → Memᴰ z (x ∷ xs) → Memᴰ z (y ∷ ys)) → (z : X) → Memᴰ z xs → Memᴰ z ys
    in_tail x y xs ys e behind to z m =
        ⊎_elim (λ p. never_both (behind z m).before (ap (earlier x) (p ∙ sym e) ∙ laws.not_itself x)) (λ k. k)
        (Memᴰ.cases_cons (to z (Memᴰ.tail m)))

    -- Two antichains with the same elements are equal.
    pub antichain_same : (xs ys : List X) → Antichain no_more earlier xs → Antichain no_more earlier ys
        → ((z : X) → Memᴰ z xs → Memᴰ z ys) → ((z : X) → Memᴰ z ys → Memᴰ z xs) → xs ≡ ys
    unfolding Antichain
    antichain_same [] [] c d to fro = refl
    antichain_same [] (y ∷ ys) c d to fro = absurd (Memᴰ.not-nil (fro y (Memᴰ.head refl)))
    antichain_same (x ∷ xs) [] c d to fro = absurd (Memᴰ.not-nil (to x (Memᴰ.head refl)))
    antichain_same (x ∷ xs) (y ∷ ys) c d to fro =
        ap₂ (λ (z : X) (zs : List X). z ∷ zs) heads
        (antichain_same xs ys c.1 d.1 (in_tail x y xs ys heads c.0 to) (in_tail y x ys xs (sym heads) d.0 fro))
      where
        heads : x ≡ y
        heads =
            ⊎_elim (λ p. p)
            (λ k. ⊎_elim (λ q. sym q)
            (λ j. never_both (laws.in_turn x y x (c.0 y j).before (d.0 x k).before) (laws.not_itself x))
            (Memᴰ.cases_cons (fro y (Memᴰ.head refl))))
            (Memᴰ.cases_cons (to x (Memᴰ.head refl)))

    -- P holds of all elements; where it does, two that ask no more than each other are the same
    module _ (P : X → Type 0) (antisym : (x y : X) → P x → P y → no_more x y ≡ true → no_more y x ≡ true → x ≡ y) where
      covered_is_in : (xs ys : List X) → Antichain no_more earlier xs → ((x : X) → Memᴰ x xs → P x) → ((y : X) → Memᴰ y ys → P y)
          → ((x : X) → Memᴰ x xs → Covered no_more ys x) → ((y : X) → Memᴰ y ys → Covered no_more xs y)
          → (x : X) → Memᴰ x xs → Memᴰ x ys
      covered_is_in xs ys c all_xs all_ys to fro x m =
          let (y, k, e) = to x m in
          let (z, j, f) = fro y k in
          let same : z ≡ x = antichain_one xs c j m (laws.chained z y x f e) in
          Memᴰ.cast (antisym x y (all_xs x m) (all_ys y k) (ap (λ (w : X). no_more w y) (sym same) ∙ f) e) k

      -- Two antichains that cover each other are equal.
      pub antichain_unique : (xs ys : List X) → Antichain no_more earlier xs → Antichain no_more earlier ys
          → ((x : X) → Memᴰ x xs → P x) → ((y : X) → Memᴰ y ys → P y)
          → ((x : X) → Memᴰ x xs → Covered no_more ys x) → ((y : X) → Memᴰ y ys → Covered no_more xs y) → xs ≡ ys
      antichain_unique xs ys c d all_xs all_ys to fro =
          antichain_same xs ys c d (covered_is_in xs ys c all_xs all_ys to fro) (covered_is_in ys xs d all_ys all_xs fro to)

      -- Of two lists that cover each other the same stays.
      pub least_same : (xs ys : List X) → ((x : X) → Memᴰ x xs → P x) → ((y : X) → Memᴰ y ys → P y)
          → ((x : X) → Memᴰ x xs → Covered no_more ys x) → ((y : X) → Memᴰ y ys → Covered no_more xs y)
          → least no_more earlier xs ≡ least no_more earlier ys
      least_same xs ys all_xs all_ys to fro =
          antichain_unique (least no_more earlier xs) (least no_more earlier ys) (least_antichain xs) (least_antichain ys)
          (λ x m. all_xs x (least_from xs m)) (λ y m. all_ys y (least_from ys m))
          (λ x m. covered_on ys (least no_more earlier ys) (to x (least_from xs m)) (λ y k. least_covers ys k))
          (λ y m. covered_on xs (least no_more earlier xs) (fro y (least_from ys m)) (λ x k. least_covers xs k))

      -- It does not matter which come first.
      pub least_order : (xs ys : List X) → ((x : X) → Memᴰ x xs → P x) → ((y : X) → Memᴰ y ys → P y)
          → least no_more earlier (xs ++ ys) ≡ least no_more earlier (ys ++ xs)
      least_order xs ys all_xs all_ys =
          least_same (xs ++ ys) (ys ++ xs) (λ z m. ⊎_elim (all_xs z) (all_ys z) (Memᴰ.append_cases xs m))
          (λ z m. ⊎_elim (all_ys z) (all_xs z) (Memᴰ.append_cases ys m))
          (λ z m. covered_in (either xs ys m)) (λ z m. covered_in (either ys xs m))
        where
          either : (us vs : List X) {z : X} → Memᴰ z (us ++ vs) → Memᴰ z (vs ++ us)
          either us vs m = ⊎_elim (λ k. Memᴰ.append_right vs k) (λ k. Memᴰ.append_left us k) (Memᴰ.append_cases us m)
