-- A tower from a fit file: its counts are in range, and its steps stay among its actions and states.
use Prim.Native.Nat.{ℕ, ◌≤◌, ◌<◌}
use native.Mathlib.Omega.{arith}
use mathlib.Core.Path.{◌≡◌, refl, sym, ◌∙◌}
use mathlib.Core.Logic.{◌⊎◌, inl, inr}
use mathlib.Core.Bool.{Bool, true, false, ◌&&◌, ◌||◌, not}
use Rattle.std.specs.Prelude.{None, Some}
use mathlib.Core.List.{List, [], ◌∷◌}
use lib.Dec.{leb, ltb}
use borrow.Author.Tests.{leb-true, ltb-true, not-false}
use Rattle.base.specs.Choice.{pick}
use Rattle.base.specs.Lists.{some_of, below}
use Rattle.base.proofs.Lists.{and_left, and_right, or_cases, or_fails_left, or_fails_right, some_none, below_mem, never_both}
use Rattle.logic.specs.declared.FileLayout.{FileLayout}
use Rattle.logic.specs.Tower.{Tower, Listed, most_actions, most_marks, in_range, layout_of, states_of, actions_of, marks_of, start_of, target_of, not_enabled, bad_counts, bad_targets, FitTower, tower_of}
use Rattle.logic.specs.Runs.{leads}
use Rattle.logic.proofs.Leads.{leads_nil, leads_out}
use Rattle.logic.proofs.Layouts.{IsLayout, file_layout}

-- The counts of a tower whose file has this layout are in range, it starts in one of its states, and its steps stay among its actions and states.
pub record TowerFits (layout : FileLayout) (tower : Tower) : Type 0 where
  pub laid : IsLayout layout
  pub a_state : 1 ≤ tower.states
  pub few_states : tower.states ≤ layout.most
  pub an_action : 1 ≤ tower.actions
  pub few_actions : tower.actions ≤ most_actions
  pub start : tower.start < tower.states
  pub targets : (x a y : ℕ) → tower.target x a ≡ Some y → y < tower.states
  pub listed : Listed tower

-- A count in range is at least 1 and at most the most.
pub range_out : (most n : ℕ) → in_range most n ≡ true → (1 ≤ n) × (n ≤ most)
unfolding in_range
range_out most n e =
    (leb-true 1 n (and_left (leb 1 n) (leb n most) e), leb-true n most (and_right (leb 1 n) (leb n most) e))

-- Runs of a tower lead to its states.
pub leads_to_state : {layout : FileLayout} (tower : Tower) → TowerFits layout tower → (x y : ℕ) (w : List ℕ) → x < tower.states
    → leads tower.target x w ≡ Some y → y < tower.states
leads_to_state tower f x y [] lt e = let g : Some y ≡ Some x = sym e ∙ leads_nil tower.target x in let h : y ≡ x = cc in omega arith
leads_to_state tower f x y (a ∷ w) lt e =
    let (z, g, h) = leads_out tower.target x y a w e in leads_to_state tower f z y w (f.targets x a z g) h

-- The counts of a fit file.
record Counts (bytes : List ℕ) : Type 0 where
  states : in_range (layout_of bytes).most (states_of bytes) ≡ true
  actions : in_range most_actions (actions_of bytes) ≡ true
  start : start_of bytes < states_of bytes

none_of_four : (a b c d : Bool) → (a || b || c || d) ≡ false → (a ≡ false) × (b ≡ false) × (c ≡ false) × (d ≡ false)
none_of_four a b c d h =
    let h2 = or_fails_left (a || b || c) d h in
    let h1 = or_fails_left (a || b) c h2 in
    (or_fails_left a b h1, or_fails_right a b h1, or_fails_right (a || b) c h2, or_fails_right (a || b || c) d h)

fit_counts : (bytes : List ℕ) → FitTower bytes → Counts bytes
unfolding bad_counts
fit_counts bytes f =
    let (a, b, c, d) =
    none_of_four (not (in_range (layout_of bytes).most (states_of bytes))) (not (in_range most_actions (actions_of bytes)))
    (not (leb (marks_of bytes) most_marks)) (not (ltb (start_of bytes) (states_of bytes))) f.counts in
    record {
      states = not-false (in_range (layout_of bytes).most (states_of bytes)) a;
      actions = not-false (in_range most_actions (actions_of bytes)) b;
      start = ltb-true (start_of bytes) (states_of bytes) (not-false (ltb (start_of bytes) (states_of bytes)) d);
    }

abbrev bad_target : List ℕ → ℕ → ℕ → Bool
bad_target bytes x a = not (ltb (target_of bytes x a) (states_of bytes) || not_enabled bytes x a)

-- A target of a fit file is a state, or says 'not enabled'.
fit_target : (bytes : List ℕ) → FitTower bytes → (x a : ℕ) → x < states_of bytes → a < actions_of bytes → not_enabled bytes x a ≡ false
    → target_of bytes x a < states_of bytes
unfolding bad_targets
fit_target bytes f x a less lt e =
    one (or_cases (ltb (target_of bytes x a) (states_of bytes)) (not_enabled bytes x a)
    (not-false (ltb (target_of bytes x a) (states_of bytes) || not_enabled bytes x a) right))
  where
    right : bad_target bytes x a ≡ false
    right =
        some_none (bad_target bytes x)
        (some_none (λ y. some_of (bad_target bytes y) (below (actions_of bytes))) f.targets (below_mem (states_of bytes) x less))
        (below_mem (actions_of bytes) a lt)

    one : (ltb (target_of bytes x a) (states_of bytes) ≡ true) ⊎ (not_enabled bytes x a ≡ true) → target_of bytes x a < states_of bytes
    one (inl h) = ltb-true (target_of bytes x a) (states_of bytes) h
    one (inr h) = never_both h e

-- What an action leads to: state and action are the tower's, and the target is written there and does not say 'not enabled'.
pub record Enabled (bytes : List ℕ) (x a y : ℕ) : Type 0 where
  pub state : x < states_of bytes
  pub action : a < actions_of bytes
  pub not_disabled : not_enabled bytes x a ≡ false
  pub target : target_of bytes x a ≡ y

pub target_enabled : (bytes : List ℕ) (x a y : ℕ) → (tower_of bytes).target x a ≡ Some y → Enabled bytes x a y
unfolding tower_of
target_enabled bytes x a y e =
    go (ltb x (states_of bytes)) (ltb a (actions_of bytes)) (not_enabled bytes x a) refl refl refl e
  where
    go : (p q r : Bool) → ltb x (states_of bytes) ≡ p → ltb a (actions_of bytes) ≡ q → not_enabled bytes x a ≡ r
        → pick (p && q && not r) (λ _. Some (target_of bytes x a)) (λ _. None) ≡ Some y → Enabled bytes x a y
    go true true false s t u f =
        record { state = ltb-true x (states_of bytes) s; action = ltb-true a (actions_of bytes) t; not_disabled = u; target = cc }
    go true true true s t u f = let z : ◌≡◌ {A = ℕ} 0 1 = cc in absurd (omega arith)
    go true false r s t u f = let z : ◌≡◌ {A = ℕ} 0 1 = cc in absurd (omega arith)
    go false q r s t u f = let z : ◌≡◌ {A = ℕ} 0 1 = cc in absurd (omega arith)

-- The tower of a fit file fits.
pub fit_tower : (bytes : List ℕ) → FitTower bytes → TowerFits (layout_of bytes) (tower_of bytes)
unfolding tower_of Listed
fit_tower bytes f =
    record {
      laid = file_layout bytes;
      a_state = (range_out (layout_of bytes).most (states_of bytes) counts.states).0;
      few_states = (range_out (layout_of bytes).most (states_of bytes) counts.states).1;
      an_action = (range_out most_actions (actions_of bytes) counts.actions).0;
      few_actions = (range_out most_actions (actions_of bytes) counts.actions).1;
      start = counts.start;
      targets = λ x a y e. inside (target_enabled bytes x a y e);
      listed = λ x a y e. (target_enabled bytes x a y e).action;
    }
  where
    counts : Counts bytes
    counts = fit_counts bytes f

    inside : {x a y : ℕ} → Enabled bytes x a y → y < states_of bytes
    inside {x} {a} h = rw h.target at (fit_target bytes f x a h.state h.action h.not_disabled)
