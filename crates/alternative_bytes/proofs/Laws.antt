-- What the cells of an alternative are: those that its bytes say, and those of both of two.
use Prim.Native.Nat.{ℕ, zero, suc, ◌+◌, ◌≤◌, ◌<◌}
use native.Mathlib.Omega.{arith}
use mathlib.Core.Path.{◌≡◌, refl, ◌∙◌, ap}
use mathlib.Core.Bool.{false}
use Rattle.std.specs.Prelude.{None}
use mathlib.Core.List.{List, [], ◌∷◌}
use lib.ListN.{length, get_or}
use Rattle.logic.specs.Book.{Formula, constant}
use Rattle.pending.specs.Pending.{Pending}
use Rattle.alternatives.specs.Alternatives.{first_cell, later_cells, cell_number, both_cells, both}
use Rattle.book_progression.specs.PendingBytes.{cell_of, part}
use Rattle.book_progression.proofs.Cells.{pending_at, pending_length}
use Rattle.book_progression.proofs.Areas.{part_at, part_length}
use Rattle.alternative_bytes.specs.AlternativeBytes.{alternative_in}

-- The order compares bytes.
pub cell_number_of : (byte : ℕ) → cell_number (cell_of byte) ≡ byte
unfolding cell_number cell_of
cell_number_of zero = refl
cell_number_of (suc r) = refl

module _ (area : List ℕ) (n at : ℕ) where
  -- An alternative has a cell for each node,
  pub alternative_length : at + n ≤ length area → length (alternative_in area n at) ≡ n
  unfolding alternative_in
  alternative_length fits = pending_length (part area at n) ∙ part_length area at n fits

  -- which is what its byte says.
  pub alternative_cell : (i : ℕ) → i < n → get_or (alternative_in area n at) i None ≡ cell_of (get_or area (at + i) 0)
  unfolding alternative_in
  alternative_cell i low = pending_at (part area at n) i ∙ ap cell_of (part_at area at n i low)

-- The first cell and the others, by their numbers.
first_at : (p : Pending) → first_cell p ≡ get_or p 0 None
unfolding first_cell
first_at [] = refl
first_at (o ∷ p) = refl

later_at : (p : Pending) (k : ℕ) → get_or (later_cells p) k None ≡ get_or p (suc k) None
unfolding later_cells
later_at [] k = refl
later_at (o ∷ p) k = refl

-- A cell of both of two alternatives.
pub both_cell_at : (fs : List Formula) (p q : Pending) (k : ℕ) → k < length fs
    → get_or (both fs p q) k None ≡ both_cells (get_or fs k (constant false)) (get_or p k None) (get_or q k None)
unfolding both
both_cell_at [] p q k low = absurd (omega arith)
both_cell_at (f ∷ fs) p q zero low = rw (first_at p, first_at q) refl
both_cell_at (f ∷ fs) p q (suc k) low =
    both_cell_at fs (later_cells p) (later_cells q) k (omega arith) ∙ rw (later_at p k, later_at q k)
