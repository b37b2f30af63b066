-- `first_run` is right: of all runs that lead somewhere and pass the test, what is found by trying them is the soonest, and where nothing is found
-- there is none of so few actions.
use Prim.Native.Nat.{ℕ, zero, suc, ◌+◌, ◌≤◌, ◌<◌}
use mathlib.Core.Path.{◌≡◌, refl, sym, ap, ◌∙◌}
use mathlib.Core.Logic.{inl, inr, ⊎_elim}
use mathlib.Core.Bool.{Bool, true, false}
use Rattle.std.specs.Prelude.{Option, None, Some}
use mathlib.Core.List.Memᴰ
use mathlib.Core.List.{List, [], ◌∷◌, ◌++◌, map, Memᴰ}
use native.Mathlib.Omega.{arith}
use native.Mathlib.Nat.{eq-or-lt_of_le}
use lib.ListN.{length}
use Rattle.base.specs.Choice.{pick}
use Rattle.base.specs.Lists.{below, count_from, joined}
use Rattle.base.proofs.Lists.{never_both, none-some, some_one, whether_there, mem_along, mem_count_from, below_mem, joined_in, joined_out}
use Rattle.logic.specs.Runs.{leads}
use Rattle.logic.specs.Why.{Lower, Sooner, Soonest}
use Rattle.logic.proofs.Leads.{leads_nil, leads_in, leads_out}
use Rattle.first_runs.specs.FirstRun.{first_of, or_else, runs_by, runs_of, first_run}
use Rattle.first_runs.proofs.Sooner.{lower_trans, lower_not_self, soonest_one, soonest_same}

-- The run leads somewhere from x and passes the test.
pub record Passing {X : Type 0} (move : X → ℕ → Option X) (x : X) (test : List ℕ → Bool) (w : List ℕ) : Type 0 where
  pub led : (y : X) × (leads move x w ≡ Some y)
  pub passes : test w ≡ true

-- ---- Runs in order

-- Each run is lower than all behind it.
unfoldable pub Ascending : List (List ℕ) → Type 0
Ascending [] = Unit {0}
Ascending (w ∷ ws) = ((v : List ℕ) → Memᴰ v ws → Lower w v) × Ascending ws

-- Two lists in order, each run of the first lower than each of the second, are in order one after the other.
ascending_append : (us vs : List (List ℕ)) → Ascending us → Ascending vs
    → ((u v : List ℕ) → Memᴰ u us → Memᴰ v vs → Lower u v) → Ascending (us ++ vs)
unfolding Ascending
ascending_append [] vs p q cross = q
ascending_append (u ∷ us) vs (low, p) q cross = (
  λ v m. ⊎_elim (λ n. low v n) (λ n. cross u v (Memᴰ.head refl) n) (Memᴰ.append_cases us m),
  ascending_append us vs p q (λ w v m n. cross w v (Memᴰ.tail m) n),
)

-- The same action before all runs keeps the order.
ascending_cons : (a : ℕ) (ws : List (List ℕ)) → Ascending ws → Ascending (map (λ (w : List ℕ). a ∷ w) ws)
unfolding Ascending Lower
ascending_cons a [] p = tt
ascending_cons a (w ∷ ws) (low, p) = (
  λ v m. let (u, n, e) = Memᴰ.of_map (λ (z : List ℕ). a ∷ z) ws m in rw (← e) (inr (refl, low u n)),
  ascending_cons a ws p,
)

-- Lists in order, each of runs that begin with its own number, are in order one after the other.
ascending_joined : (f : ℕ → List (List ℕ)) → ((a : ℕ) (v : List ℕ) → Memᴰ v (f a) → (u : List ℕ) × (v ≡ a ∷ u))
    → ((a : ℕ) → Ascending (f a)) → (k n : ℕ) → Ascending (joined (map f (count_from k n)))
unfolding Ascending Lower count_from joined
ascending_joined f begins each k zero = tt
ascending_joined f begins each k (suc n) =
    ascending_append (f k) (joined (map f (count_from (suc k) n))) (each k) (ascending_joined f begins each (suc k) n) cross
  where
    lower : (u v : List ℕ) (a : ℕ) → k < a → (z : List ℕ) × (u ≡ k ∷ z) → (z : List ℕ) × (v ≡ a ∷ z) → Lower u v
    lower u v a l (y, d) (z, e) = rw (d, e) (inl l)

    cross : (u v : List ℕ) → Memᴰ u (f k) → Memᴰ v (joined (map f (count_from (suc k) n))) → Lower u v
    cross u v m p =
        let (vs, at, q) = joined_out (map f (count_from (suc k) n)) p in
        let (a, here, e) = Memᴰ.of_map f (count_from (suc k) n) at in
        lower u v a (mem_count_from (suc k) n here).0 (begins k u m) (begins a v (rw e q))

-- ---- The first that passes

module _ (test : List ℕ → Bool) where
  -- What is found is one of them and passes.
  first_of_out : (ws : List (List ℕ)) (w : List ℕ) → first_of test ws ≡ Some w → Memᴰ w ws × (test w ≡ true)
  unfolding first_of
  first_of_out [] w e = none-some refl e
  first_of_out (u ∷ us) w e = go (test u) refl e (λ f. first_of_out us w f)
    where
      go : (b : Bool) → test u ≡ b → pick b (λ _. Some u) (λ _. first_of test us) ≡ Some w
          → (first_of test us ≡ Some w → Memᴰ w us × (test w ≡ true)) → Memᴰ w (u ∷ us) × (test w ≡ true)
      go true p f ih = let d = some_one f refl in (Memᴰ.head d, rw d p)
      go false p f ih = let (m, q) = ih f in (Memᴰ.tail m, q)

  -- Nothing is found: none of them passes.
  first_of_none : (ws : List (List ℕ)) → first_of test ws ≡ None → (v : List ℕ) → Memᴰ v ws → test v ≡ true → ⊥
  unfolding first_of
  first_of_none [] e v m t = Memᴰ.not-nil m
  first_of_none (u ∷ us) e v m t = go (test u) refl e (λ f n. first_of_none us f v n t)
    where
      go : (b : Bool) → test u ≡ b → pick b (λ _. Some u) (λ _. first_of test us) ≡ None
          → (first_of test us ≡ None → Memᴰ v us → ⊥) → ⊥
      go true p f ih = none-some f refl
      go false p f ih = ⊎_elim (λ d. never_both (rw d at t) p) (λ n. ih f n) (Memᴰ.cases_cons m)

  -- Of runs in order, none that passes is lower than what is found.
  first_of_lowest : (ws : List (List ℕ)) (w : List ℕ) → Ascending ws → first_of test ws ≡ Some w
      → (v : List ℕ) → Memᴰ v ws → test v ≡ true → Lower v w → ⊥
  unfolding first_of Ascending
  first_of_lowest [] w up e v m t l = Memᴰ.not-nil m
  first_of_lowest (u ∷ us) w (low, up) e v m t l = go (test u) refl e (λ f n. first_of_lowest us w up f v n t l)
    where
      go : (b : Bool) → test u ≡ b → pick b (λ _. Some u) (λ _. first_of test us) ≡ Some w
          → (first_of test us ≡ Some w → Memᴰ v us → ⊥) → ⊥
      go true p f ih =
          let d = some_one f refl in
          let k = rw d at l in
          ⊎_elim
          (λ q. lower_not_self u (rw q at k))
          (λ n. lower_not_self u (lower_trans u v u (low v n) k))
          (Memᴰ.cases_cons m)
      go false p f ih = ⊎_elim (λ d. never_both (rw d at t) p) (λ n. ih f n) (Memᴰ.cases_cons m)

-- ---- The runs that are tried

module _ {X : Type 0} (move : X → ℕ → Option X) (actions : ℕ) where
  -- What begins with an action takes its move, and the rest is a run from there.
  runs_by_out : (rest : X → List (List ℕ)) (a : ℕ) (o : Option X) (v : List ℕ) → Memᴰ v (runs_by rest a o)
      → (y : X) × (u : List ℕ) × (o ≡ Some y) × Memᴰ u (rest y) × (v ≡ a ∷ u)
  unfolding runs_by
  runs_by_out rest a None v m = absurd (Memᴰ.not-nil m)
  runs_by_out rest a (Some y) v m = let (u, n, e) = Memᴰ.of_map (λ (w : List ℕ). a ∷ w) (rest y) m in (y, u, refl, n, sym e)

  -- A move and a run from there make a run that begins with the action.
  runs_by_in : (rest : X → List (List ℕ)) (a : ℕ) (o : Option X) (y : X) (u : List ℕ) → o ≡ Some y → Memᴰ u (rest y)
      → Memᴰ (a ∷ u) (runs_by rest a o)
  unfolding runs_by
  runs_by_in rest a None y u e m = none-some refl e
  runs_by_in rest a (Some z) y u e m =
      Memᴰ.map (λ (w : List ℕ). a ∷ w) (mem_along (ap rest (some_one e refl)) m)

  -- They are in order if the runs from each place are.
  runs_by_ascending : (rest : X → List (List ℕ)) (a : ℕ) (o : Option X) → ((y : X) → Ascending (rest y)) → Ascending (runs_by rest a o)
  unfolding runs_by Ascending
  runs_by_ascending rest a None each = tt
  runs_by_ascending rest a (Some y) each = ascending_cons a (rest y) (each y)

  -- The runs of one action more, by their first action.
  first_by : ℕ → X → ℕ → List (List ℕ)
  first_by n x a = runs_by (runs_of move actions n) a (move x a)

  -- A run of one action more: the action, where it leads, and a run from there.
  runs_out : (n : ℕ) (x : X) (w : List ℕ) → Memᴰ w (runs_of move actions (suc n) x)
      → (a : ℕ) × (y : X) × (u : List ℕ) × (move x a ≡ Some y) × Memᴰ u (runs_of move actions n y) × (w ≡ a ∷ u)
  unfolding runs_of first_by
  runs_out n x w m =
      let (ws, at, p) = joined_out (map (first_by n x) (below actions)) m in
      let (a, here, e) = Memᴰ.of_map (first_by n x) (below actions) at in
      let (y, u, q, r, d) = runs_by_out (runs_of move actions n) a (move x a) w (mem_along (sym e) p) in
      (a, y, u, q, r, d)

  -- Each is of so many actions and leads somewhere.
  runs_lead : (n : ℕ) (x : X) (w : List ℕ) → Memᴰ w (runs_of move actions n x) → (length w ≡ n) × ((y : X) × (leads move x w ≡ Some y))
  unfolding runs_of
  runs_lead zero x w m = rw (Memᴰ.eq_of_singleton m) (refl, (x, leads_nil move x))
  runs_lead (suc n) x w m =
      let (a, y, u, q, r, d) = runs_out n x w m in
      let (e, (z, l)) = runs_lead n y u r in
      rw d (ap suc e, (z, leads_in move x y z a u q l))

  -- They are in order.
  runs_ascending : (n : ℕ) (x : X) → Ascending (runs_of move actions n x)
  unfolding runs_of Ascending below first_by
  runs_ascending zero x = (λ v m. absurd (Memᴰ.not-nil m), tt)
  runs_ascending (suc n) x =
      ascending_joined (first_by n x) begins
      (λ a. runs_by_ascending (runs_of move actions n) a (move x a) (λ y. runs_ascending n y)) 0 actions
    where
      begins : (a : ℕ) (v : List ℕ) → Memᴰ v (first_by n x a) → (u : List ℕ) × (v ≡ a ∷ u)
      begins a v m = let (y, u, q, r, d) = runs_by_out (runs_of move actions n) a (move x a) v m in (u, d)

  module _ (inside : (y z : X) (a : ℕ) → move y a ≡ Some z → a < actions) where
    -- Each run that leads somewhere is one of those of its length.
    runs_all : (x z : X) (w : List ℕ) → leads move x w ≡ Some z → Memᴰ w (runs_of move actions (length w) x)
    unfolding runs_of first_by
    runs_all x z [] e = Memᴰ.head refl
    runs_all x z (a ∷ w) e =
        let (y, q, f) = leads_out move x z a w e in
        joined_in (runs_by_in (runs_of move actions (length w)) a (move x a) y w q (runs_all y z w f))
        (Memᴰ.map (first_by (length w) x) (below_mem actions a (inside x y a q)))

  module _ (x : X) (test : List ℕ → Bool) (inside : (y z : X) (a : ℕ) → move y a ≡ Some z → a < actions) where
    -- The run passes: it is tried among those of its length.
    passing_tried : (n : ℕ) (v : List ℕ) → Passing move x test v → length v ≡ n → Memᴰ v (runs_of move actions n x)
    passing_tried n v p e = rw (← e) (runs_all inside x p.led.0 v p.led.1)

    -- The run has n actions or more, leads somewhere and passes.
    abbrev PassingFrom : ℕ → List ℕ → Type 0
    PassingFrom n w = (n ≤ length w) × Passing move x test w

    -- Where nothing is found among the runs of n actions, one that passes has more.
    longer : (n : ℕ) (v : List ℕ) → first_of test (runs_of move actions n x) ≡ None → PassingFrom n v → n < length v
    longer n v e (l, p) =
        ⊎_elim
        (λ d. absurd (first_of_none test (runs_of move actions n x) e v (passing_tried n v p (sym d)) p.passes))
        (λ k. k)
        (eq-or-lt_of_le l)

    -- What is found among the runs of n actions is the soonest of those and the longer ones.
    found_now : (n : ℕ) (w : List ℕ) → first_of test (runs_of move actions n x) ≡ Some w → Soonest (PassingFrom n) w
    unfolding Sooner
    found_now n w e =
        record { is = (omega (arith, led.0), record { led = led.1; passes = out.1 }); none_sooner = sooner }
      where
        out : Memᴰ w (runs_of move actions n x) × (test w ≡ true)
        out = first_of_out test (runs_of move actions n x) w e

        led : (length w ≡ n) × ((y : X) × (leads move x w ≡ Some y))
        led = runs_lead n x w out.0

        sooner : (v : List ℕ) → PassingFrom n v → Sooner v w → ⊥
        sooner v (l, p) (inl k) = omega (arith, led.0)
        sooner v (l, p) (inr (d, k)) =
            first_of_lowest test (runs_of move actions n x) w (runs_ascending n x) e v (passing_tried n v p (d ∙ led.0)) p.passes k

    -- Where nothing is found among the runs of n actions, the soonest of the longer ones is the soonest of all.
    found_later : (n : ℕ) (w : List ℕ) → first_of test (runs_of move actions n x) ≡ None → Soonest (PassingFrom (suc n)) w
        → Soonest (PassingFrom n) w
    found_later n w e h =
        soonest_same (PassingFrom (suc n)) (PassingFrom n) (λ v. (λ (l, p). (omega arith, p), λ (l, p). (longer n v e (l, p), p))) w h

    -- What is found from n actions on is the soonest run of n actions or more.
    found_from : (lengths n : ℕ) (w : List ℕ) → first_run move actions x test lengths n ≡ Some w → Soonest (PassingFrom n) w
    unfolding first_run or_else
    found_from zero n w e = none-some refl e
    found_from (suc lengths) n w e = go (first_of test (runs_of move actions n x)) refl e (λ f. found_from lengths (suc n) w f)
      where
        go : (o : Option (List ℕ)) → first_of test (runs_of move actions n x) ≡ o
            → or_else o (λ _. first_run move actions x test lengths (suc n)) ≡ Some w
            → (first_run move actions x test lengths (suc n) ≡ Some w → Soonest (PassingFrom (suc n)) w) → Soonest (PassingFrom n) w
        go None d f ih = found_later n w d (ih f)
        go (Some v) d f ih = found_now n w (d ∙ f)

    -- Nothing is found from n actions on: no run of so many actions or more passes, up to the lengths that are tried.
    none_from : (lengths n : ℕ) → first_run move actions x test lengths n ≡ None → (v : List ℕ) → PassingFrom n v → length v < n + lengths → ⊥
    unfolding first_run or_else
    none_from zero n e v (l, p) k = omega arith
    none_from (suc lengths) n e v (l, p) k =
        go (first_of test (runs_of move actions n x)) refl e (λ f j. none_from lengths (suc n) f v (j, p) (omega arith))
      where
        go : (o : Option (List ℕ)) → first_of test (runs_of move actions n x) ≡ o
            → or_else o (λ _. first_run move actions x test lengths (suc n)) ≡ None
            → (first_run move actions x test lengths (suc n) ≡ None → n < length v → ⊥) → ⊥
        go None d f ih = ih f (longer n v d (l, p))
        go (Some u) d f ih = none-some f refl

    -- What is found is the soonest run that passes.
    pub first_run_right : (lengths : ℕ) (w : List ℕ) → first_run move actions x test lengths 0 ≡ Some w → Soonest (Passing move x test) w
    first_run_right lengths w e =
        soonest_same (PassingFrom 0) (Passing move x test) (λ v. (λ (l, p). p, λ p. (omega arith, p))) w (found_from lengths 0 w e)

    -- Nothing is found: no run of so few actions passes.
    pub first_run_none : (lengths : ℕ) → first_run move actions x test lengths 0 ≡ None → (w : List ℕ) → Passing move x test w
        → length w < lengths → ⊥
    first_run_none lengths e w p l = none_from lengths 0 e w (omega arith, p) (omega arith)

    -- The soonest run that passes is found, if it is of so few actions.
    pub first_run_is : (lengths : ℕ) (w : List ℕ) → Soonest (Passing move x test) w → length w < lengths
        → first_run move actions x test lengths 0 ≡ Some w
    first_run_is lengths w s l =
        whether_there (first_run move actions x test lengths 0)
        (λ e. absurd (first_run_none lengths e w s.is l))
        (λ v e. rw (soonest_one (Passing move x test) w v s (first_run_right lengths v e)) e)
