-- Partition refinement (02, item 5): rows are compared in passes, and the loop leaves after the first pass that separates nothing. The rows
-- before merging are the safe pairs. A partition says which two of them are of one class.
use Rattle.std.specs.Prelude.{ℕ, zero, suc, ◌≡◌, Bool, true, false, ◌&&◌, not, eqb}
use Rattle.base.specs.Lists.{every, some_of, below, same_option, place_of}
use Rattle.pair_graph.specs.Graph.{Graph, allowed_to, SafePair}
use Rattle.pair_graph.specs.Counting.{count}

module _ (graph : Graph) (safe : ℕ → Bool) where
  -- ---- a pass

  -- two pairs look alike under a partition: equal state, and each action allowed in both or in neither, leading to one class (`AlikeNow`)
  unfoldable pub alike_now : (ℕ → ℕ → Bool) → ℕ → ℕ → Bool
  alike_now same i j =
      eqb (graph.state i) (graph.state j)
      && every (λ a. same_option same (allowed_to safe (graph.move i a)) (allowed_to safe (graph.move j a))) (below graph.actions)

  -- A pass over a partition: two pairs of one class stay in one class if they look alike.
  unfoldable pub pass : (ℕ → ℕ → Bool) → ℕ → ℕ → Bool
  pass same i j = same i j && alike_now same i j

  -- the partition after so many passes; before the first all pairs are of one class
  unfoldable pub partition : ℕ → ℕ → ℕ → Bool
  partition zero i j = true
  partition (suc k) i j = pass (partition k) i j

  -- ---- how many passes are made

  -- The pass behind the first k separates two rows: they were of one class, and are no more.
  pub record Separates (k : ℕ) : Type 0 where
    pub first : ℕ
    pub second : ℕ
    pub first_safe : SafePair graph safe first
    pub second_safe : SafePair graph safe second
    pub together : partition k first second ≡ true
    pub apart : partition (suc k) first second ≡ false

  -- the same as a test
  unfoldable pub separates : ℕ → Bool
  separates k =
      some_of (λ i. safe i && some_of (λ j. safe j && (partition k i j && not (partition (suc k) i j))) (below graph.pairs)) (below graph.pairs)

  -- The passes that are made: all up to the first that separates nothing, and that one.
  unfoldable pub passes : ℕ
  passes = suc (place_of (λ k. not (separates k)) (below graph.pairs))

  -- ---- how many classes there are

  -- the rows before merging
  unfoldable pub rows : ℕ
  rows = count safe graph.pairs

  -- row i is the first of its class
  unfoldable pub first_of_class : (ℕ → ℕ → Bool) → ℕ → Bool
  first_of_class same i = safe i && every (λ j. not (safe j && same j i)) (below i)

  -- the classes of a partition
  unfoldable pub classes : (ℕ → ℕ → Bool) → ℕ
  classes same = count (first_of_class same) graph.pairs
