-- The empty run, the shortest break, and what merging keeps. That progression is exactly the logic is shown of sets of alternatives
-- (`alternatives/proofs/Theorems.antt`); the files beside this one have what it stands on: `Kept` the laws of the logic, `Nodes` where nodes
-- stand, `Adds` what one more claim adds to what is pending, `Asked` what a run has to meet, `Same` and `Marks` the tests.
use Prim.Native.Nat.{ℕ}
use native.Mathlib.Omega.{arith}
use mathlib.Core.Path.{refl}
use mathlib.Core.Logic.Iff
use mathlib.Core.Logic.{◌↔◌}
use mathlib.Core.Bool.{false, false≢true}
use mathlib.Core.List.Memᴰ
use mathlib.Core.List.{[], ◌∷◌}
use Rattle.logic.specs.Time.{longer, shorter}
use Rattle.logic.specs.Tower.{Tower}
use Rattle.logic.specs.Book.{Formula, constant, always_for, until, at_start, Book}
use Rattle.logic.specs.Runs.{Trace, trace, trace_from, Judged, Kept, KeptAt, KeptRule, Unbroken, Broken}
use Rattle.logic.specs.declared.Tick.{Tick}
use Rattle.logic.specs.declared.Position.{Position}
use Rattle.pending.proofs.Kept as Laws

-- The empty run is never broken: at position n every formula is kept.
pub empty_unbroken : (tower : Tower) (book : Book) → Unbroken tower book []
unfolding Unbroken trace trace_from
empty_unbroken tower book rule listed = Laws.rule_end tower rule.form rule.formula

-- Every run of one action breaks the book `start F`: its position 0 is judged.
pub start_false_breaks : (tower : Tower) (a : ℕ) → Broken tower (record { form = at_start; formula = constant false } ∷ []) (a ∷ [])
unfolding Broken Unbroken trace trace_from KeptRule Kept KeptAt Judged
start_false_breaks tower a unbroken =
    false≢true (unbroken (record { form = at_start; formula = constant false }) (Memᴰ.head refl) (omega arith))

-- Merging loses nothing: two always of one formula are kept exactly if the one with the larger bound is.
pub always_merge : (tower : Tower) (run : Trace) (i : Position) (r q : Tick) (g : Formula)
    → (Kept tower run (always_for r g) i × Kept tower run (always_for q g) i) ↔ Kept tower run (always_for (longer r q) g) i
always_merge tower run i r q g = Iff.symm (Laws.always_merge tower run i r q g)

-- Two until of the same formulas are kept exactly if the one with the smaller bound is.
pub until_merge : (tower : Tower) (run : Trace) (i : Position) (r q : Tick) (f g : Formula)
    → (Kept tower run (until r f g) i × Kept tower run (until q f g) i) ↔ Kept tower run (until (shorter r q) f g) i
until_merge tower run i r q f g = Iff.symm (Laws.until_merge tower run i r q f g)
