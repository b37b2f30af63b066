-- The test for a fine pair says what `Fine` says, and it passes the more readily the more pairs are safe.
use Prim.Native.Nat.{ℕ, ◌<◌}
use native.Mathlib.Omega.{arith}
use mathlib.Core.Path.{◌≡◌, refl}
use mathlib.Core.Logic.{⊎_elim}
use mathlib.Core.Bool.{Bool, true, false, ◌&&◌, ◌||◌}
use mathlib.Core.List.{List}
use Rattle.base.specs.Lists.{some_of, below}
use Rattle.base.proofs.Lists.{whether, never_both, and_left, and_right, and_both, or_cases, or_left, or_right, every_below, below_every}
use Rattle.base.proofs.Lists.{some_below, below_some}
use Rattle.logic.specs.Tower.{Tower, controllable, goes_on}
use Rattle.pair_graph.specs.Graph.{Move, not_enabled, broken, to, LeadsTo, led, Fine}
use Rattle.pair_graph.specs.Steps.{move_at, graph_of, HoldsGraph}
use Rattle.maker_removal.specs.Removal.{leads_inside, stays_inside, not_forced_at, goes_at, none_forced, some_goes, fine_at}

-- ---- Moves

-- a move that passes the test leads to a safe pair
leads_out : (safe : ℕ → Bool) (m : Move) → leads_inside safe m ≡ true → LeadsTo safe m
unfolding leads_inside
leads_out safe not_enabled e = never_both e refl
leads_out safe broken e = never_both e refl
leads_out safe (to j) e = led j e

-- and one that leads there passes
leads_in : {safe : ℕ → Bool} {m : Move} → LeadsTo safe m → leads_inside safe m ≡ true
unfolding leads_inside
leads_in (led j e) = e

-- a move that stays inside leads to a safe pair, if it is enabled
stays_out : (safe : ℕ → Bool) (m : Move) → stays_inside safe m ≡ true → (m ≡ not_enabled → ⊥) → LeadsTo safe m
unfolding stays_inside
stays_out safe not_enabled e enabled = absurd (enabled refl)
stays_out safe broken e enabled = never_both e refl
stays_out safe (to j) e enabled = led j e

-- and a move that leads there if enabled stays inside
stays_in : (safe : ℕ → Bool) (m : Move) → ((m ≡ not_enabled → ⊥) → LeadsTo safe m) → stays_inside safe m ≡ true
unfolding stays_inside leads_inside
stays_in safe not_enabled leads = refl
stays_in safe broken leads = leads_in (leads (λ e. let z : ◌≡◌ {A = ℕ} 0 1 = cc in omega arith))
stays_in safe (to j) leads = leads_in (leads (λ e. let z : ◌≡◌ {A = ℕ} 0 1 = cc in omega arith))

-- ---- Pairs

module _ (tower : Tower) (n : ℕ) (graph : List ℕ) (safe : ℕ → Bool) (i : ℕ) where
  -- A pair that passes the test is fine among the safe.
  pub fine_out : fine_at tower graph safe i ≡ true → Fine (graph_of tower n graph) safe i
  unfolding fine_at none_forced some_goes not_forced_at goes_at graph_of
  fine_out e =
      go
      (λ a l. every_below (not_forced_at tower graph safe i) tower.actions a
      (and_left (none_forced tower graph safe i) (some_goes tower graph safe i) e) l)
      (some_below (goes_at tower graph safe i) tower.actions
      (and_right (none_forced tower graph safe i) (some_goes tower graph safe i) e))
    where
      forced : ((a : ℕ) → a < tower.actions → (controllable (tower.kind a) || stays_inside safe (move_at graph i a)) ≡ true)
          → (a : ℕ) → a < tower.actions → controllable (tower.kind a) ≡ false → (move_at graph i a ≡ not_enabled → ⊥)
          → LeadsTo safe (move_at graph i a)
      forced h a l c enabled =
          ⊎_elim (λ t. never_both t c) (λ t. stays_out safe (move_at graph i a) t enabled)
          (or_cases (controllable (tower.kind a)) (stays_inside safe (move_at graph i a)) (h a l))

      go : ((a : ℕ) → a < tower.actions → (controllable (tower.kind a) || stays_inside safe (move_at graph i a)) ≡ true)
          → (a : ℕ) × (a < tower.actions) × ((goes_on (tower.kind a) && leads_inside safe (move_at graph i a)) ≡ true)
          → Fine (graph_of tower n graph) safe i
      go h (a, l, f) =
          record {
            forced = forced h;
            action = a;
            listed = l;
            goes = and_left (goes_on (tower.kind a)) (leads_inside safe (move_at graph i a)) f;
            leads = leads_out safe (move_at graph i a)
                (and_right (goes_on (tower.kind a)) (leads_inside safe (move_at graph i a)) f);
          }

  -- A pair that is fine among the safe passes the test.
  pub fine_in : Fine (graph_of tower n graph) safe i → fine_at tower graph safe i ≡ true
  unfolding fine_at none_forced some_goes not_forced_at goes_at graph_of
  fine_in fine =
      and_both
      (below_every (not_forced_at tower graph safe i) tower.actions forced)
      (below_some (goes_at tower graph safe i) tower.actions fine.action fine.listed
      (and_both fine.goes (leads_in fine.leads)))
    where
      forced : (a : ℕ) → a < tower.actions → (controllable (tower.kind a) || stays_inside safe (move_at graph i a)) ≡ true
      forced a l =
          whether (controllable (tower.kind a)) (or_left (stays_inside safe (move_at graph i a)))
          (λ c. or_right (controllable (tower.kind a)) (stays_in safe (move_at graph i a) (fine.forced a l c)))

-- ---- The more are safe

-- a move that leads to a pair of one set leads to one of another that has this pair too
leads_more : (other safe : ℕ → Bool) (m : Move) → ((j : ℕ) → m ≡ to j → other j ≡ true → safe j ≡ true) → leads_inside other m ≡ true
    → leads_inside safe m ≡ true
unfolding leads_inside
leads_more other safe not_enabled h e = e
leads_more other safe broken h e = e
leads_more other safe (to j) h e = h j refl e

-- the same of a move that stays
stays_more : (other safe : ℕ → Bool) (m : Move) → ((j : ℕ) → m ≡ to j → other j ≡ true → safe j ≡ true) → stays_inside other m ≡ true
    → stays_inside safe m ≡ true
unfolding stays_inside
stays_more other safe not_enabled h e = refl
stays_more other safe broken h e = e
stays_more other safe (to j) h e = h j refl e

-- an action that cannot force a way out of some pairs cannot force one out of more
not_forced_more : (tower : Tower) (graph : List ℕ) (other safe : ℕ → Bool) (i a : ℕ)
    → ((j : ℕ) → move_at graph i a ≡ to j → other j ≡ true → safe j ≡ true) → not_forced_at tower graph other i a ≡ true
    → not_forced_at tower graph safe i a ≡ true
unfolding not_forced_at
not_forced_more tower graph other safe i a h e =
    let may = controllable (tower.kind a) in
    ⊎_elim (or_left (stays_inside safe (move_at graph i a))) (λ t. or_right may (stays_more other safe (move_at graph i a) h t))
    (or_cases may (stays_inside other (move_at graph i a)) e)

-- an action that goes on inside some pairs goes on inside more
goes_more : (tower : Tower) (graph : List ℕ) (other safe : ℕ → Bool) (i a : ℕ)
    → ((j : ℕ) → move_at graph i a ≡ to j → other j ≡ true → safe j ≡ true) → goes_at tower graph other i a ≡ true
    → goes_at tower graph safe i a ≡ true
unfolding goes_at
goes_more tower graph other safe i a h e =
    let goes = goes_on (tower.kind a) in
    let leads = leads_inside other (move_at graph i a) in
    and_both (and_left goes leads e) (leads_more other safe (move_at graph i a) h (and_right goes leads e))

-- A pair that is fine among others is fine among the safe, if those others that a move of it leads to are safe.
pub fine_along : (tower : Tower) (graph : List ℕ) (other safe : ℕ → Bool) (i : ℕ)
    → ((a j : ℕ) → a < tower.actions → move_at graph i a ≡ to j → other j ≡ true → safe j ≡ true)
    → fine_at tower graph other i ≡ true → fine_at tower graph safe i ≡ true
unfolding fine_at none_forced some_goes
fine_along tower graph other safe i along e =
    let forced = none_forced tower graph other i in
    let goes = some_goes tower graph other i in
    and_both
    (below_every (not_forced_at tower graph safe i) tower.actions
    (λ a k. not_forced_more tower graph other safe i a (λ j. along a j k)
    (every_below (not_forced_at tower graph other i) tower.actions a (and_left forced goes e) k)))
    (some_goes_on (some_below (goes_at tower graph other i) tower.actions (and_right forced goes e)))
  where
    some_goes_on : (a : ℕ) × (a < tower.actions) × (goes_at tower graph other i a ≡ true)
        → some_of (goes_at tower graph safe i) (below tower.actions) ≡ true
    some_goes_on (a, k, f) =
        below_some (goes_at tower graph safe i) tower.actions a k (goes_more tower graph other safe i a (λ j. along a j k) f)

-- So it is if all of them are safe.
pub fine_more : (tower : Tower) (n : ℕ) (graph : List ℕ) (other safe : ℕ → Bool) (i : ℕ) → HoldsGraph n tower.actions graph → i < n
    → ((j : ℕ) → j < n → other j ≡ true → safe j ≡ true) → fine_at tower graph other i ≡ true → fine_at tower graph safe i ≡ true
fine_more tower n graph other safe i held l within e =
    fine_along tower graph other safe i (λ a j k m. within j (held.targets i a j l k m)) e
