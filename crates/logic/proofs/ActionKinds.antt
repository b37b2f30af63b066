-- 02, item 1, sentence by sentence: what the kinds of actions mean for reasons b and d, and for refusal 3.
use Prim.Native.Nat.{ℕ, ◌≤◌, ◌<◌}
use mathlib.Core.Path.{◌≡◌, refl}
use mathlib.Core.Logic.{◌↔◌, ◌⊎◌, inl, inr}
use mathlib.Core.Bool.{Bool, true, false, ◌||◌}
use Rattle.std.specs.Prelude.{Some}
use mathlib.Core.List.{List}
use lib.Dec.{eqb, ltb}
use borrow.Author.Tests.{eqb-true, eqb-false, eq-eqb, ne_eqb, ltb-false, le-ltb}
use Rattle.base.specs.Lists.{below}
use Rattle.base.proofs.Lists.{or_cases, or_left, or_right, or_fails_left, or_fails_right, or_neither, some_none, none_of, mem_below, below_mem}
use Rattle.logic.specs.Tower.{Tower, controllable, goes_on, last_kind, length_of, kind_of, bad_actions, actions_of}
use Rattle.logic.specs.Tables.{Table, row_at, AllowsAction, NoneWithheld, GoesOn}

-- 'A kind 2 action is never withheld, and reason b covers it.' Reason b is `NoneWithheld`; in a row for which it holds, and so in every row of a
-- good table, an enabled action of kind 2 is allowed.
pub sure_allowed : (tower : Tower) (table : Table) (r : ℕ) → NoneWithheld tower table r
    → (a y : ℕ) → tower.target (row_at table r).state a ≡ Some y → tower.kind a ≡ 2 → AllowsAction table r a
unfolding NoneWithheld controllable
sure_allowed tower table r none a y enabled sure = none a y enabled (rw sure refl)

-- 'Reason d now applies to every row that allows no action of kind 1 or 2.' Reason d is that `GoesOn` does not hold.
pub goes_on_means : (tower : Tower) (table : Table) (r : ℕ)
    → GoesOn tower table r ↔ ((a : ℕ) × AllowsAction table r a × ((tower.kind a ≡ 1) ⊎ (tower.kind a ≡ 2)))
unfolding GoesOn goes_on
goes_on_means tower table r = (out, back)
  where
    which : (k : ℕ) → (eqb k 1 ≡ true) ⊎ (eqb k 2 ≡ true) → (k ≡ 1) ⊎ (k ≡ 2)
    which k (inl e) = inl (eqb-true k 1 e)
    which k (inr e) = inr (eqb-true k 2 e)

    on : (k : ℕ) → (k ≡ 1) ⊎ (k ≡ 2) → goes_on k ≡ true
    on k (inl e) = or_left (eqb k 2) (eq-eqb k 1 e)
    on k (inr e) = or_right (eqb k 1) (eq-eqb k 2 e)

    out : GoesOn tower table r → (a : ℕ) × AllowsAction table r a × ((tower.kind a ≡ 1) ⊎ (tower.kind a ≡ 2))
    out (a, allowed, goes) = (a, allowed, which (tower.kind a) (or_cases (eqb (tower.kind a) 1) (eqb (tower.kind a) 2) goes))

    back : (a : ℕ) × AllowsAction table r a × ((tower.kind a ≡ 1) ⊎ (tower.kind a ≡ 2)) → GoesOn tower table r
    back (a, allowed, kind) = (a, allowed, on (tower.kind a) kind)

-- 'Refusal 3 begins above kind 2.' The test for 3 finds nothing exactly if every action has a length and is of kind 0, 1 or 2.
pub kinds_read : (bytes : List ℕ)
    → bad_actions bytes ≡ false ↔ ((a : ℕ) → a < actions_of bytes → (length_of bytes a ≡ 0 → ⊥) × (kind_of bytes a ≤ 2))
unfolding bad_actions last_kind
kinds_read bytes = (out, back)
  where
    bad : ℕ → Bool
    bad a = eqb (length_of bytes a) 0 || ltb 2 (kind_of bytes a)

    out : bad_actions bytes ≡ false → (a : ℕ) → a < actions_of bytes → (length_of bytes a ≡ 0 → ⊥) × (kind_of bytes a ≤ 2)
    out none a l =
        let e : bad a ≡ false = some_none bad none (below_mem (actions_of bytes) a l) in (
          eqb-false (length_of bytes a) 0 (or_fails_left (eqb (length_of bytes a) 0) (ltb 2 (kind_of bytes a)) e),
          ltb-false 2 (kind_of bytes a) (or_fails_right (eqb (length_of bytes a) 0) (ltb 2 (kind_of bytes a)) e),
        )

    back : ((a : ℕ) → a < actions_of bytes → (length_of bytes a ≡ 0 → ⊥) × (kind_of bytes a ≤ 2)) → bad_actions bytes ≡ false
    back all =
        none_of bad (below (actions_of bytes))
        (λ a m.
        let (long, known) = all a (mem_below (actions_of bytes) m) in
        or_neither (ne_eqb (length_of bytes a) 0 long) (le-ltb 2 (kind_of bytes a) known))
