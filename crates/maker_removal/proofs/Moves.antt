-- What the code finds of one action and of all, and what it is given.
use Prim.Native.Nat.{ℕ}
use native.Mathlib.Omega.{arith}
use mathlib.Core.Path.{◌≡◌, refl, sym, ap, ◌∙◌}
use mathlib.Core.Bool.{Bool, true, false}
use Rattle.std.specs.Prelude.{None, Some}
use mathlib.Core.List.{List}
use Rattle.base.specs.Choice.{pick}
use Rattle.base.specs.Lists.{every, some_of, below, count_from}
use Rattle.base.proofs.Lists.{never_both}
use Rattle.logic.specs.Tower.{Tower, tower_of, controllable, goes_on}
use Rattle.pair_graph.specs.Graph.{Move, not_enabled, broken, to, allowed_to}
use Rattle.pair_graph.specs.Steps.{move_at, safe_in, is_enabled, led_to, FlaggedGraph}
use Rattle.std.specs.Prelude.{Option}
use Rattle.pair_graph.proofs.Moves.{led_some, led_none, allowed_out}
use Rattle.maker_removal.specs.Removal.{leads_inside, stays_inside, not_forced_at, goes_at, none_forced, some_goes, fine_at, PairInput}

-- ---- where a move leads

-- one that leads to a safe pair is allowed
allowed_inside : (safe : ℕ → Bool) (m : Move) (j : ℕ) → allowed_to safe m ≡ Some j → true ≡ leads_inside safe m
unfolding leads_inside
allowed_inside safe m j e = let (is_to, is_safe) = allowed_out safe m j e in sym (ap (leads_inside safe) is_to ∙ is_safe)

-- any other is not
not_allowed : (safe : ℕ → Bool) (m : Move) → allowed_to safe m ≡ None → false ≡ leads_inside safe m
unfolding allowed_to leads_inside
not_allowed safe not_enabled e = refl
not_allowed safe broken e = refl
not_allowed safe (to k) e = go (safe k) e
  where
    go : (b : Bool) → pick b (λ _. Some k) (λ _. None) ≡ None → false ≡ b
    go true e = let z : ◌≡◌ {A = ℕ} 0 1 = cc in absurd (omega arith)
    go false e = refl

module _ (graph flags : List ℕ) (i a : ℕ) (r : Option ℕ) (is_r : r ≡ (led_to graph flags i a)) where
  -- It leads to a safe pair.
  pub led_inside : (j : ℕ) → r ≡ Some j → true ≡ leads_inside (safe_in flags) (move_at graph i a)
  unfolding led_to
  led_inside j e = allowed_inside (safe_in flags) (move_at graph i a) j (led_some (led_to graph flags i a) r j is_r e)

  -- It does not.
  pub led_outside : r ≡ None → false ≡ leads_inside (safe_in flags) (move_at graph i a)
  unfolding led_to
  led_outside e = not_allowed (safe_in flags) (move_at graph i a) (led_none (led_to graph flags i a) r is_r e)

-- a move that is enabled stays inside if it leads inside
stays_leads : (safe : ℕ → Bool) (m : Move) → is_enabled m ≡ true → leads_inside safe m ≡ stays_inside safe m
unfolding leads_inside stays_inside is_enabled
stays_leads safe not_enabled e = never_both e refl
stays_leads safe broken e = refl
stays_leads safe (to j) e = refl

-- one that is not enabled stays
stays_put : (safe : ℕ → Bool) (m : Move) → is_enabled m ≡ false → stays_inside safe m ≡ true
unfolding stays_inside is_enabled
stays_put safe not_enabled e = refl
stays_put safe broken e = never_both refl e
stays_put safe (to j) e = never_both refl e

-- ---- what is given

-- The graph is that of the tower's actions.
pub judged_graph : (tower : List ℕ) (n : ℕ) (graph flags : List ℕ) (i : ℕ) → PairInput tower n graph flags i → (m : ℕ)
    → m ≡ (tower_of tower).actions → FlaggedGraph n m graph flags
judged_graph tower n graph flags i given m e = rw e given.flagged

-- ---- what an action does

module _ (tower : Tower) (graph : List ℕ) (safe : ℕ → Bool) (i a k : ℕ) (r : Bool) (is_k : k ≡ tower.kind a) where
  -- It may be withheld.
  pub may_withhold : r ≡ controllable k → r ≡ true → true ≡ not_forced_at tower graph safe i a
  unfolding not_forced_at
  may_withhold e f = let h : controllable (tower.kind a) ≡ true = cc in rw h

  -- It may not, and is not enabled.
  pub not_there : (b : Bool) → r ≡ controllable k → r ≡ false → b ≡ is_enabled (move_at graph i a) → b ≡ false
      → true ≡ not_forced_at tower graph safe i a
  unfolding not_forced_at
  not_there b e f g z =
      let h : controllable (tower.kind a) ≡ false = cc in
      rw h (sym (stays_put safe (move_at graph i a) (sym g ∙ z)))

  -- It may not, and is enabled: it has to lead to a safe pair.
  pub has_to_lead : (b q : Bool) → r ≡ controllable k → r ≡ false → b ≡ is_enabled (move_at graph i a) → b ≡ true
      → q ≡ leads_inside safe (move_at graph i a) → q ≡ not_forced_at tower graph safe i a
  unfolding not_forced_at
  has_to_lead b q e f g enabled p =
      let h : controllable (tower.kind a) ≡ false = cc in
      rw h (p ∙ stays_leads safe (move_at graph i a) (sym g ∙ enabled))

  -- It does not go on.
  pub no_goer : r ≡ goes_on k → r ≡ false → false ≡ goes_at tower graph safe i a
  unfolding goes_at
  no_goer e f = let h : goes_on (tower.kind a) ≡ false = cc in rw h

  -- It goes on: it has to lead to a safe pair.
  pub goer_leads : (q : Bool) → r ≡ goes_on k → r ≡ true → q ≡ leads_inside safe (move_at graph i a) → q ≡ goes_at tower graph safe i a
  unfolding goes_at
  goer_leads q e f p =
      let h : goes_on (tower.kind a) ≡ true = cc in
      rw h p

-- ---- all actions

-- What the two loops look for.
pub scan_forced : (tower : Tower) (graph : List ℕ) (safe : ℕ → Bool) (i : ℕ)
    → none_forced tower graph safe i ≡ every (not_forced_at tower graph safe i) (count_from 0 tower.actions)
unfolding none_forced below
scan_forced tower graph safe i = refl

pub scan_goes : (tower : Tower) (graph : List ℕ) (safe : ℕ → Bool) (i : ℕ)
    → some_goes tower graph safe i ≡ some_of (goes_at tower graph safe i) (count_from 0 tower.actions)
unfolding some_goes below
scan_goes tower graph safe i = refl

module _ (tower : Tower) (graph : List ℕ) (safe : ℕ → Bool) (i : ℕ) (r : Bool) (is_r : r ≡ none_forced tower graph safe i) where
  -- A way out can be forced: the pair is not fine.
  pub not_fine : r ≡ false → false ≡ fine_at tower graph safe i
  unfolding fine_at
  not_fine e = let h : none_forced tower graph safe i ≡ false = cc in rw h

  -- None can: it is fine if some action goes on.
  pub fine_if_goes : (q : Bool) → r ≡ true → q ≡ some_goes tower graph safe i → q ≡ fine_at tower graph safe i
  unfolding fine_at
  fine_if_goes q e f = let h : none_forced tower graph safe i ≡ true = cc in rw h f
