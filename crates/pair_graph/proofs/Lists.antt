-- The lists of predecessors: cell by cell, and read by what they hold.
use Prim.Native.Nat.{ℕ, zero, suc, ◌+◌, ◌-◌, ◌*◌, ◌≤◌, ◌<◌}
use native.Mathlib.Omega.{arith}
use native.Mathlib.Nat.{add-zero}
use mathlib.Core.Path.{◌≡◌, refl, sym, ap, ◌∙◌, subst}
use mathlib.Core.Logic.{inl}
use mathlib.Core.List.{List}
use lib.ListN.{length, replicate}
use Rattle.base.specs.Bytes.{byte_at, number_at}
use Rattle.area_chains.specs.Chains.{Chained, head_in, link_in, added, Apart}
use Rattle.area_chains.proofs.Walks.{chained_skip, chained_same}
use Rattle.area_chains.proofs.Additions.{cleared_chains, added_chains}
use Rattle.pair_graph.specs.Graph.{Move, to}
use Rattle.pair_graph.specs.Steps.{cell, move_of, move_at, HoldsGraph}
use Rattle.pair_graph.specs.Predecessors.{CellTo, Listed}
use Rattle.pair_graph.proofs.Moves.{high_move}

-- ---- cells

-- the move of the cell of action a from pair i
pub cell_move : (graph : List ℕ) (i a : ℕ) → move_at graph i a ≡ move_of (number_at 2 graph (2 * (16 * i + a)))
unfolding move_at cell
cell_move graph i a = refl

-- An action that leads to pair j has its cell in the list of j.
pub cell_in : (graph : List ℕ) (actions i a j : ℕ) → actions ≤ 16 → a < actions → move_at graph i a ≡ to j
    → CellTo actions graph (16 * i + a) j
cell_in graph actions i a j most l e = record { action = omega arith; leads = sym (cell_move graph i a) ∙ e }

-- A number below 2 leads nowhere.
pub low_nowhere : (k j : ℕ) → k < 2 → move_of k ≡ to j → ⊥
unfolding move_of
low_nowhere zero j l e = let z : ◌≡◌ {A = ℕ} 0 1 = cc in omega arith
low_nowhere (suc zero) j l e = let z : ◌≡◌ {A = ℕ} 0 1 = cc in omega arith
low_nowhere (suc (suc k)) j l e = omega arith

-- A move leads to one pair.
pub one_target : (m : Move) (j k : ℕ) → m ≡ to j → m ≡ to k → k ≡ j
one_target m j k e f = cc

-- ---- the loops

-- A loop has come to cell k, and does not go further than to cell `end`.
pub record ListingCells (n actions : ℕ) (graph : List ℕ) (end k : ℕ) (old area : List ℕ) : Type 0 where
  pub listed : Listed n actions graph k area
  pub long : length area ≡ length old
  pub most : k ≤ end

-- At first no cell is in a list.
pub listing_none : (n actions : ℕ) (graph area : List ℕ) (size : ℕ) → area ≡ replicate size 0
    → ListingCells n actions graph (16 * n) (16 * 0) area area
listing_none n actions graph area size e =
    record {
      listed = record { chained = cleared_chains (CellTo actions graph) n 1000 3000 size area e };
      long = refl;
      most = omega arith;
    }

-- The cells of a pair begin with that of action 0.
pub listing_first : (n actions : ℕ) (graph area : List ℕ) (i : ℕ) → Listed n actions graph (16 * i) area
    → ListingCells n actions graph (16 * i + actions) (16 * i + 0) area area
listing_first n actions graph area i h = record { listed = rw (add-zero (16 * i)) h; long = refl; most = omega arith }

-- One more cell of a pair,
pub listing_cell : (n actions : ℕ) (graph : List ℕ) (i a : ℕ) (old area after : List ℕ)
    → ListingCells n actions graph (16 * i + actions) (16 * i + a) old area → a < actions → Listed n actions graph (16 * i + (a + 1)) after
    → length after ≡ length area → ListingCells n actions graph (16 * i + actions) (16 * i + (a + 1)) old after
listing_cell n actions graph i a old area after h l more e = record { listed = more; long = e ∙ h.long; most = omega arith }

-- and one more pair.
pub listing_pair : (n actions : ℕ) (graph : List ℕ) (i : ℕ) (old area after : List ℕ)
    → ListingCells n actions graph (16 * n) (16 * i) old area → i < n → Listed n actions graph (16 * (i + 1)) after
    → length after ≡ length area → ListingCells n actions graph (16 * n) (16 * (i + 1)) old after
listing_pair n actions graph i old area after h l more e = record { listed = more; long = e ∙ h.long; most = omega arith }

module _ (n actions : ℕ) (graph area : List ℕ) (i a m : ℕ) (held : HoldsGraph n actions graph) (l : i < n) (k : a < actions)
    (is_m : m ≡ number_at 2 graph (cell i a)) (h : Listed n actions graph (16 * i + a) area) where
  -- the cell as it is written
  written : move_of (number_at 2 graph (2 * (16 * i + a))) ≡ move_of m
  unfolding cell
  written = ap move_of (sym is_m)

  -- A cell that leads nowhere is in no list.
  pub listed_nowhere : m < 2 → Listed n actions graph (16 * i + (a + 1)) area
  listed_nowhere low =
      record {
        chained =
            chained_skip (CellTo actions graph) n (head_in 1000 area) (link_in 3000 area) (16 * i + a) (16 * i + (a + 1)) h.chained
            (omega arith) (λ c j from below o s. nowhere c j (omega arith) s);
      }
    where
      nowhere : (c j : ℕ) → 16 * i + a ≡ c → CellTo actions graph c j → ⊥
      nowhere c j e s =
          low_nowhere m j low (sym written ∙ subst (λ x. move_of (number_at 2 graph (2 * x)) ≡ to j) (sym e) s.leads)

  -- the pair that it leads to
  goes_to : 2 ≤ m → move_of (number_at 2 graph (2 * (16 * i + a))) ≡ to (m - 2)
  goes_to high = written ∙ high_move m high

  -- It is one of the n.
  pub target_below : 2 ≤ m → m - 2 < n
  target_below high = held.targets i a (m - 2) l k (cell_move graph i a ∙ goes_to high)

  -- A cell that leads to a pair is put into its list.
  pub listed_more : (after : List ℕ) → 2 ≤ m → 35000 ≤ length area → after ≡ added 1000 3000 area (m - 2) (16 * i + a)
      → Listed n actions graph (16 * i + (a + 1)) after
  unfolding Apart
  listed_more after high room e =
      let pairs = held.pairs_most in
      let most = held.actions_most in
      let next : 16 * i + a + 1 ≡ 16 * i + (a + 1) = omega arith in
      record {
        chained =
            subst (Chained (CellTo actions graph) n (head_in 1000 after) (link_in 3000 after)) next
            (added_chains 1000 n 3000 16000 area (m - 2) (16 * i + a) (inl (omega arith)) (omega arith) (omega arith) (target_below high)
            (omega arith) (CellTo actions graph) after (omega arith) h.chained
            (record { action = omega arith; leads = goes_to high })
            (λ g s. one_target (move_of (number_at 2 graph (2 * (16 * i + a)))) (m - 2) g (goes_to high) s.leads) e);
      }

  -- There is room for it.
  pub head_room : 2 ≤ m → 35000 ≤ length area → 1000 + 2 * (m - 2) + 1 < length area
  head_room high room = omega (arith, target_below high, held.pairs_most)

-- The cells behind the last action of a pair are in no list.
pub listed_pair : (n actions : ℕ) (graph old area : List ℕ) (i a : ℕ) → HoldsGraph n actions graph
    → ListingCells n actions graph (16 * i + actions) (16 * i + a) old area → actions ≤ a → Listed n actions graph (16 * (i + 1)) area
listed_pair n actions graph old area i a held h ge =
    let most = held.actions_most in
    record {
      chained =
          chained_skip (CellTo actions graph) n (head_in 1000 area) (link_in 3000 area) (16 * i + a) (16 * (i + 1)) h.listed.chained
          (omega (arith, h.most)) (λ c j from below o s. omega (arith, s.action));
    }

-- All pairs have their cells in the lists.
pub listed_all : (n actions : ℕ) (graph old area : List ℕ) (i : ℕ) → ListingCells n actions graph (16 * n) (16 * i) old area → n ≤ i
    → Listed n actions graph (16 * n) area
listed_all n actions graph old area i h ge =
    let same : i ≡ n = omega (arith, h.most) in subst (λ k. Listed n actions graph (16 * k) area) same h.listed

-- ---- other bytes of the area

-- The bytes of the lists are as they were.
pub record SameLists (area after : List ℕ) : Type 0 where
  pub same : (p : ℕ) → 1000 ≤ p → p < 35000 → byte_at after p ≡ byte_at area p

-- So are the lists.
pub listed_same : (n actions : ℕ) (graph area after : List ℕ) → n ≤ 1000 → SameLists area after
    → Listed n actions graph (16 * n) area → Listed n actions graph (16 * n) after
unfolding head_in link_in number_at
listed_same n actions graph area after most s h =
    record {
      chained =
          chained_same (CellTo actions graph) n (head_in 1000 area) (link_in 3000 area) (head_in 1000 after) (link_in 3000 after) (16 * n)
          h.chained
          (λ j l.
          let low = s.same (1000 + 2 * j) (omega arith) (omega arith) in
          let high = s.same (1000 + 2 * j + 1) (omega arith) (omega arith) in
          omega arith)
          (λ c l.
          let low = s.same (3000 + 2 * c) (omega arith) (omega arith) in
          let high = s.same (3000 + 2 * c + 1) (omega arith) (omega arith) in
          omega arith);
    }
