-- The checker's tests are the reasons of the paper: each test fails exactly if its part of 'good' holds.
use Prim.Native.Nat.{ℕ}
use mathlib.Core.Path.{◌≡◌, refl, sym, ◌∙◌, ap}
use mathlib.Core.Logic.{◌↔◌}
use mathlib.Core.Bool.{false, ◌&&◌, not}
use Rattle.std.specs.Prelude.{Some}
use mathlib.Core.List.{List, [], ◌∷◌, Memᴰ}
use lib.Dec.{eqb}
use borrow.Author.Tests.{not-true, not-false, eqb-true, eqb-false, eq-eqb}
use Rattle.base.specs.Lists.{some_of, below, is_there, there_with}
use Rattle.base.proofs.Lists.{whether, never_both, false_by, true_by, not_in, and_both, and_left, and_right, every_false, every_not, some_none, none_of, below_mem, is_there_in, is_there_out, none-some, there_with_in, there_with_out, some_one}
use Rattle.logic.specs.Tower.{Tower, controllable, goes_on, Listed}
use Rattle.logic.specs.Tables.{Step, Table, row_at, step_to, move, AllowsAction, Once, GoodStart, NoneWithheld, StepsRight, GoesOn}
use Rattle.logic.proofs.Canonical.{step_here, step_past, step_found}
use Rattle.outcome.specs.Check.{wrong_start, withheld, wrong_step, stopped}

-- the step of an allowed action is one of the row's
pub step_in : (steps : List Step) (a p : ℕ) → step_to steps a ≡ Some p → (s : Step) × Memᴰ s steps × (s.action ≡ a) × (s.target ≡ p)
step_in [] a p e = unfold step_to in none-some refl e
step_in (s ∷ steps) a p e =
    whether (eqb s.action a)
    (λ here. (s, Memᴰ.head refl, eqb-true s.action a here, some_one (step_here s steps a (eqb-true s.action a here)) e))
    (λ past. later (step_in steps a p (sym (step_past s steps a (eqb-false s.action a past)) ∙ e)))
  where
    later : (z : Step) × Memᴰ z steps × (z.action ≡ a) × (z.target ≡ p)
        → (z : Step) × Memᴰ z (s ∷ steps) × (z.action ≡ a) × (z.target ≡ p)
    later (z, m, f, g) = (z, Memᴰ.tail m, f, g)

-- an action of one of the row's steps is allowed
pub step_allowed : (s : Step) (steps : List Step) → Memᴰ s steps → (p : ℕ) × (step_to steps s.action ≡ Some p)
step_allowed s (t ∷ steps) (Memᴰ.head e) = (t.target, step_here t steps s.action (ap (λ z. z.action) (sym e)))
step_allowed s [] x' = elim x' [ ]
step_allowed s (t ∷ steps) (Memᴰ.tail m) =
    whether (eqb t.action s.action)
    (λ here. (t.target, step_here t steps s.action (eqb-true t.action s.action here)))
    (λ past.
    let (p, e) = step_allowed s steps m in (p, step_past t steps s.action (eqb-false t.action s.action past) ∙ e))

-- (a)
pub start_right : (tower : Tower) (table : Table) → wrong_start tower table ≡ false ↔ GoodStart tower table
unfolding wrong_start GoodStart
start_right tower table = (
  λ e. eqb-true (row_at table 0).state tower.start (not-false (eqb (row_at table 0).state tower.start) e),
  λ e. ap not (eq-eqb (row_at table 0).state tower.start e),
)

module _ (tower : Tower) (table : Table) (r : ℕ) where
  -- (b)
  pub none_withheld : Listed tower → some_of (withheld tower table r) (below tower.actions) ≡ false ↔ NoneWithheld tower table r
  unfolding Listed NoneWithheld AllowsAction withheld
  none_withheld listed = (out, back)
    where
      x : ℕ
      x = (row_at table r).state

      out : some_of (withheld tower table r) (below tower.actions) ≡ false → NoneWithheld tower table r
      out e a y enabled forced =
          is_there_out (move table r a)
          (true_by (is_there (move table r a))
          (λ gone.
          never_both (and_both (and_both (is_there_in enabled) (not_in forced)) (not_in gone))
          (some_none (withheld tower table r) e (below_mem tower.actions a (listed x a y enabled)))))

      back : NoneWithheld tower table r → some_of (withheld tower table r) (below tower.actions) ≡ false
      back all =
          none_of (withheld tower table r) (below tower.actions)
          (λ a m.
          false_by (withheld tower table r a)
          (λ e.
          let free = and_left (is_there (tower.target x a)) (not (controllable (tower.kind a))) (and_left _ (not (is_there (move table r a))) e) in
          let (y, enabled) = is_there_out (tower.target x a) free in
          let forced = and_right (is_there (tower.target x a)) (not (controllable (tower.kind a))) (and_left _ (not (is_there (move table r a))) e) in
          let gone = and_right (is_there (tower.target x a) && not (controllable (tower.kind a))) (not (is_there (move table r a))) e in
          let (s, allowed) = all a y enabled (not-true (controllable (tower.kind a)) forced) in
          never_both (is_there_in allowed) (not-true (is_there (move table r a)) gone)))

  -- (c)
  pub steps_right : Once (row_at table r).steps → some_of (wrong_step tower table r) (row_at table r).steps ≡ false ↔ StepsRight tower table r
  unfolding StepsRight move wrong_step
  steps_right once = (out, back)
    where
      x : ℕ
      x = (row_at table r).state

      steps : List Step
      steps = (row_at table r).steps

      out : some_of (wrong_step tower table r) steps ≡ false → StepsRight tower table r
      out e a p m =
          let (s, here, f, g) = step_in steps a p m in
          let right = not-false (there_with (eqb (row_at table s.target).state) (tower.target x s.action)) (some_none (wrong_step tower table r) e here) in
          let (y, to, same) = there_with_out (eqb (row_at table s.target).state) (tower.target x s.action) right in
          ap (tower.target x) (sym f) ∙ (to ∙ ap Some (sym (ap (λ z. (row_at table z).state) (sym g) ∙ eqb-true (row_at table s.target).state y same)))

      back : StepsRight tower table r → some_of (wrong_step tower table r) steps ≡ false
      back all =
          none_of (wrong_step tower table r) steps
          (λ s m.
          ap not (there_with_in (eqb (row_at table s.target).state) (all s.action s.target (step_found s steps once m))
          (eq-eqb (row_at table s.target).state (row_at table s.target).state refl)))

  -- (d)
  pub goes_right : stopped tower table r ≡ false ↔ GoesOn tower table r
  unfolding GoesOn AllowsAction move stopped
  goes_right = (out, back)
    where
      steps : List Step
      steps = (row_at table r).steps

      out : stopped tower table r ≡ false → GoesOn tower table r
      out e =
          let (s, m, on) = every_false (λ s. not (goes_on (tower.kind s.action))) steps e in
          (s.action, step_allowed s steps m, not-false (goes_on (tower.kind s.action)) on)

      back : GoesOn tower table r → stopped tower table r ≡ false
      back (a, (p, e), on) =
          let (s, m, f, g) = step_in steps a p e in
          every_not (λ s. not (goes_on (tower.kind s.action))) m (ap not (ap (λ z. goes_on (tower.kind z)) f ∙ on))
