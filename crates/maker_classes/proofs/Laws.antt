-- What the classes are good for: they are those of the made table.
use Prim.Native.Nat.{ℕ, suc, ◌-◌}
use native.Mathlib.Omega.{arith}
use mathlib.Core.Path.{◌≡◌, refl, sym, ◌∙◌, subst}
use mathlib.Core.List.{List}
use Rattle.pair_graph.specs.Graph.{Classes}
use Rattle.pair_graph.specs.Steps.{class_in, safe_in, graph_with}
use Rattle.refinement.specs.Passes.{partition, passes}
use Rattle.refinement.proofs.Theorems.{passes_last, right_classes}
use Rattle.maker_classes.specs.Passes.{ReadyForPass, Classified}

-- The classes that are left when a pass separates nothing are those of pairs that no action ever tells apart.
pub classes_right : (graph flags : List ℕ) (actions n : ℕ) (first marks area : List ℕ) (made : ℕ)
    → ReadyForPass graph flags actions n first marks → Classified graph flags actions n area made
    → (kind : ℕ → ℕ) → Classes (graph_with n actions kind graph) (safe_in flags) (class_in area)
unfolding passes
classes_right graph flags actions n first marks area made given classified kind =
    right_classes (graph_with n actions kind graph) (safe_in flags) given.given.held.graph.targets (class_in area) (made - 1)
    (passes_last (graph_with n actions kind graph) (safe_in flags) 0 (record { there = given.least; is_safe = given.first_safe }) (made - 1)
    (sym (classified.all_passes kind) ∙ one_more))
    (λ i j si sj. classified.parted kind i j si sj ∙ later i j)
  where
    one_more : made ≡ suc (made - 1)
    one_more = omega (arith, classified.all_passes kind)

    later : (i j : ℕ) → partition (graph_with n actions kind graph) (safe_in flags) made i j ≡ partition (graph_with n actions kind graph) (safe_in flags) (suc (made - 1)) i j
    later i j = subst (λ m. partition (graph_with n actions kind graph) (safe_in flags) made i j ≡ partition (graph_with n actions kind graph) (safe_in flags) m i j) one_more refl
