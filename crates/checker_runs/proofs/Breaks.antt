-- The broken moves of a graph are the broken steps of its pairs.
use Prim.Native.Nat.{ℕ, ◌<◌}
use mathlib.Core.Path.{◌≡◌, sym, ◌∙◌, ap, subst}
use mathlib.Core.Bool.{true, false}
use mathlib.Core.List.{List}
use lib.ListN.{length}
use Rattle.base.proofs.Lists.{never_both, false_by, some_at, some_of_mem, some_below, below_some, mem_get_or, mem_index, is_there_in, there_not}
use Rattle.logic.specs.Tower.{Tower}
use Rattle.logic.specs.Book.{Book}
use Rattle.alternatives.specs.Pairs.{first_pair, pairs}
use Rattle.alternatives.proofs.Steps.{pair_step_out}
use Rattle.outcome.specs.Check.{broken_step, breaks, some_broken}
use Rattle.pair_graph.specs.Graph.{Move}
use Rattle.pair_graph.specs.Steps.{move_at, graph_of}
use Rattle.pair_graph.specs.GraphOf.{numbered, SaysStep, says_not_enabled, says_broken, says_to, GraphOf}
use Rattle.checker_runs.specs.Breaks.{is_broken, broken_at, NoBreak}

module _ (tower : Tower) (book : Book) (n : ℕ) (graph : List ℕ) (of : GraphOf tower book (graph_of tower n graph)) where
  broken_move : (i a : ℕ) (m : Move) → SaysStep tower book i a m → is_broken m ≡ broken_step tower book (numbered tower book i) a
  unfolding is_broken broken_step
  broken_move i a _ (says_not_enabled e) = sym (rw (there_not e))
  broken_move i a _ (says_broken y e f) = sym (rw (is_there_in e, there_not f))
  broken_move i a _ (says_to j l e) =
      sym (rw (is_there_in (pair_step_out tower book (numbered tower book i) (numbered tower book j) a e).0, is_there_in e))

  -- A move is broken exactly if the step is.
  pub move_breaks : (i a : ℕ) → i < n → a < tower.actions → broken_at graph i a ≡ broken_step tower book (numbered tower book i) a
  unfolding broken_at graph_of
  move_breaks i a l k = broken_move i a (move_at graph i a) (of.moves i a l k)

  -- Where a move is broken, some step is.
  pub some_breaks : (i a : ℕ) → i < n → a < tower.actions → broken_at graph i a ≡ true → some_broken tower book ≡ true
  unfolding some_broken breaks graph_of numbered
  some_breaks i a l k e =
      let inside : i < length (pairs tower book) = subst (λ z. i < z) of.count l in
      some_of_mem (breaks tower book) (mem_get_or (pairs tower book) i (first_pair tower book) inside)
      (below_some (broken_step tower book (numbered tower book i)) tower.actions a k (sym (move_breaks i a l k) ∙ e))

  -- Where no move is broken, no step is.
  pub none_breaks : NoBreak graph n tower.actions → some_broken tower book ≡ false
  unfolding some_broken breaks graph_of numbered
  none_breaks none = false_by (some_broken tower book) clash
    where
      clash : some_broken tower book ≡ true → ⊥
      clash e =
          let (v, m, f) = some_at (breaks tower book) (pairs tower book) e in
          let (i, l, g) = mem_index (first_pair tower book) m in
          let (a, k, b) = some_below (broken_step tower book v) tower.actions f in
          let inside : i < n = subst (λ z. i < z) (sym of.count) l in
          never_both (move_breaks i a inside k ∙ ap (λ z. broken_step tower book z a) g ∙ b) (none.whole i a inside k)
