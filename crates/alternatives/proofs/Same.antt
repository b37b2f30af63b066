-- The test for one and the same pair decides equality.
use mathlib.Core.Bool.{true}
use mathlib.Core.Path.{◌≡◌, refl}
use mathlib.Core.List.{List}
use lib.Dec.{eqb}
use borrow.Author.Tests.{eqb-true, eq-eqb}
use Rattle.base.specs.Lists.{same_list}
use Rattle.base.proofs.Lists.{and_left, and_right, and_both, same_list_eq, eq_same_list, IsSame, decides_same}
use Rattle.pending.specs.Pending.{Pending, same_pending}
use Rattle.pending.proofs.Same.{same_pending_eq, same_pending_refl}
use Rattle.alternatives.specs.Pairs.{Pair, same_pair}

-- Two sets that the test calls the same are equal.
pub same_set_eq : (ps qs : List Pending) → same_list same_pending ps qs ≡ true → ps ≡ qs
same_set_eq ps qs h = same_list_eq same_pending same_pending_eq ps qs h

pub same_set_refl : (ps : List Pending) → same_list same_pending ps ps ≡ true
same_set_refl ps = eq_same_list same_pending same_pending_refl refl

-- Two pairs that the test calls the same are equal.
pub same_pair_eq : (v w : Pair) → same_pair v w ≡ true → v ≡ w
unfolding same_pair
same_pair_eq v w h =
    let at : eqb v.state w.state ≡ true = and_left (eqb v.state w.state) (same_list same_pending v.pending w.pending) h in
    let left : same_list same_pending v.pending w.pending ≡ true =
    and_right (eqb v.state w.state) (same_list same_pending v.pending w.pending) h in
    λ i. record { state = eqb-true v.state w.state at i; pending = same_set_eq v.pending w.pending left i }

-- A pair is the same as itself.
pub same_pair_refl : (v : Pair) → same_pair v v ≡ true
unfolding same_pair
same_pair_refl v = and_both (eq-eqb v.state v.state refl) (same_set_refl v.pending)

-- The test for one and the same pair is an equivalence.
pub pairs_same : IsSame same_pair
pairs_same = decides_same same_pair same_pair_eq same_pair_refl
