-- What the crates above cite for a walk from one position to the next: where a point is, and that fewer actions are left.
use Prim.Native.Nat.{ℕ, suc, ◌-◌, ◌<◌}
use native.Mathlib.Omega.{arith}
use mathlib.Core.Path.{◌≡◌, sym, ap, subst}
use mathlib.Core.List.{List}
use Rattle.logic.specs.Time.{after}
use Rattle.logic.specs.declared.Position.{Position}
use Rattle.program_run.specs.declared.Point.{Point}
use Rattle.program_run.specs.Walking.{point_at, OnRun}

-- The position of a point is its own.
pub point_there : (p : Point) (tower run : List ℕ) (n : ℕ) (i : Position) → OnRun p tower run n i → OnRun p tower run n p.position
unfolding point_at
point_there p tower run n i on = subst (λ (j : Position). OnRun p tower run n j) (sym (ap (λ (q : Point). q.position) on.is)) on

-- From the next position on there are fewer actions.
pub fewer_left : (p q : Point) (tower run : List ℕ) (n : ℕ) → OnRun q tower run n (after p.position) → p.position.0 < n
    → n - q.position.0 < n - p.position.0
unfolding point_at after
fewer_left p q tower run n on here =
    let next : q.position.0 ≡ suc p.position.0 = ap (λ (o : Point). o.position.0) on.is in omega (arith, next)
