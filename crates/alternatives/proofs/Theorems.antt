-- 02, item 3: the progression of sets is exactly the logic, over all fit books. The statements stand here; the files beside this one prove them.
-- `Least` and `Antichain` have the laws of dropping, `Meets` and `Offers` what alternatives ask, `Exact` that a step offers what the formulas
-- ask, `Steps` the pairs along a run, `OnePairs` the books with no two timed sides.
use Prim.Native.Nat.{ℕ}
use mathlib.Core.Path.{◌≡◌, refl, subst}
use mathlib.Core.Logic.Iff
use mathlib.Core.Logic.{◌↔◌}
use Rattle.std.specs.Prelude.{None, Some}
use mathlib.Core.List.Memᴰ
use mathlib.Core.List.{List, ◌++◌}
use Rattle.base.proofs.Lists.{whether_there, none-some}
use Rattle.logic.specs.Tower.{Tower, Listed}
use Rattle.logic.specs.Book.{Book, FitBook}
use Rattle.logic.specs.Runs.{leads, IsRun, Unbroken, Broken}
use Rattle.pending.specs.Pending.{first_pending}
use Rattle.pending.specs.Asks.{Fulfils}
use Rattle.pending.proofs.Asked.{unbroken_meets}
use Rattle.alternatives.specs.Progression.{first_set}
use Rattle.alternatives.specs.Pairs.{Pair, first_pair, tried_step, pair_step}
use Rattle.alternatives.specs.Asks.{FulfilsOne}
use Rattle.alternatives.proofs.Steps as Steps
use Rattle.alternatives.proofs.Weights.{first_standing}

module _ (tower : Tower) (book : Book) (fit : FitBook book) where
  -- at first there is one alternative
  first_one : (w : List ℕ) → Fulfils tower book tower.start (first_pending book) w
      ↔ FulfilsOne tower book tower.start (first_set book) w
  unfolding first_set
  first_one w = (
    λ h. record { alternative = first_pending book; listed = Memᴰ.head refl; fulfils = h },
    λ one. subst (λ p. Fulfils tower book tower.start p w) (Memᴰ.eq_of_singleton one.listed) one.fulfils,
  )

  -- A run is unbroken exactly if it meets what is pending at first.
  pub unbroken_first : (w : List ℕ) → Unbroken tower book w ↔ FulfilsOne tower book tower.start (first_set book) w
  unbroken_first w = Iff.trans (unbroken_meets tower book w) (first_one w)

  -- Where tried steps lead along a run it is unbroken,
  pub tried_unbroken : (w : List ℕ) (v : Pair) → leads (tried_step tower book) (first_pair tower book) w ≡ Some v → Unbroken tower book w
  unfolding first_pair
  tried_unbroken w v e = (unbroken_first w).1 (Steps.leads_meets tower book fit (first_pair tower book) v w (first_standing tower book) e)

  -- and they lead along every unbroken run of which no step gives over 16 alternatives.
  pub unbroken_tried : (w : List ℕ) → IsRun tower w → Steps.NoneOver tower book (first_pair tower book) w → Unbroken tower book w
      → (v : Pair) × (leads (tried_step tower book) (first_pair tower book) w ≡ Some v)
  unfolding IsRun first_pair
  unbroken_tried w (x, e) few h = Steps.meets_leads tower book fit (first_pair tower book) w x few e ((unbroken_first w).0 h)

  -- Where pairs lead along a run it is unbroken.
  pub leads_unbroken : (w : List ℕ) (v : Pair) → leads (pair_step tower book) (first_pair tower book) w ≡ Some v → Unbroken tower book w
  leads_unbroken w v e = tried_unbroken w v (Steps.leads_tried tower book (first_pair tower book) v w e)

  -- No pair that is led to from the first is over_full.
  abbrev pub NeverOver : Type 0
  NeverOver = Steps.Spare tower book (first_pair tower book)

  -- A run is unbroken exactly if every one of its steps is a step of pairs, where none of them is over_full.
  pub unbroken_iff : Listed tower → NeverOver → (w : List ℕ) → IsRun tower w
      → Unbroken tower book w ↔ ((v : Pair) × (leads (pair_step tower book) (first_pair tower book) w ≡ Some v))
  unfolding IsRun first_pair
  unbroken_iff listed spare w (x, e) = (
    λ h.
        let (v, led) = unbroken_tried w (x, e) (Steps.spare_none_over tower book listed (first_pair tower book) w x spare e) h in
        (v, Steps.spare_leads tower book (first_pair tower book) v w spare led),
    λ h. leads_unbroken w h.0 h.1,
  )

  -- It is broken exactly if pairs do not lead along it.
  pub broken_iff : Listed tower → NeverOver → (w : List ℕ) → IsRun tower w
      → Broken tower book w ↔ (leads (pair_step tower book) (first_pair tower book) w ≡ None)
  unfolding Broken
  broken_iff listed spare w run = (
    λ broken. whether_there (leads (pair_step tower book) (first_pair tower book) w) (λ e. e)
        (λ v e. absurd (broken (leads_unbroken w v e))),
    λ e unbroken. none-some e ((unbroken_iff listed spare w run).0 unbroken).1,
  )

  -- Behind a pair a run stays unbroken exactly if the rest of it meets one of the alternatives that are pending there.
  pub continued_iff : (w u : List ℕ) (v : Pair) → leads (pair_step tower book) (first_pair tower book) w ≡ Some v
      → Unbroken tower book (w ++ u) ↔ FulfilsOne tower book v.state v.pending u
  unfolding first_pair
  continued_iff w u v e =
      Iff.trans (unbroken_first (w ++ u))
      (Steps.meets_on tower book fit (first_pair tower book) v w u (Steps.leads_tried tower book (first_pair tower book) v w e))
