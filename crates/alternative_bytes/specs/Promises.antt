-- What the functions of this crate promise. Where the nodes matter, the promise is for the formulas that the book's bytes hold.
use Rattle.std.specs.Prelude.{ℕ, ◌+◌, ◌≤◌, ◌<◌, ◌≡◌, Bool, true, false, List}
use Rattle.base.specs.Bytes.{byte_at}
use Rattle.logic.specs.Book.{Formula}
use Rattle.alternatives.specs.Alternatives.{no_more_cell, asks_no_more, both_cells, both}
use Rattle.book_progression.specs.PendingBytes.{cell_of}
use Rattle.book_progression.specs.NodeBytes.{Stored}
use Rattle.book_progression.specs.Promises.{AreNodes, Beside}
use Rattle.alternative_bytes.specs.declared.Relation.{Relation}
use Rattle.alternative_bytes.specs.declared.Relation.TheVariants as Told
use Rattle.alternative_bytes.specs.AlternativeBytes.{alternative_in}

-- Of node k one cell asks no more than another.
pub record CellNoMore (answer : Bool) (bytes : List ℕ) (k cell other : ℕ) : Type 0 where
  pub says : (f : Formula) → Stored bytes f k → answer ≡ no_more_cell f (cell_of cell) (cell_of other)

-- The byte says what both cells ask of node k.
pub record CellBoth (byte : ℕ) (bytes : List ℕ) (k cell other : ℕ) : Type 0 where
  pub says : (f : Formula) → Stored bytes f k → cell_of byte ≡ both_cells f (cell_of cell) (cell_of other)

-- The bytes from number k to r are equal, in the alternatives at p and q.
pub record EqualTo (n : ℕ) (area : List ℕ) (p q k r : ℕ) : Type 0 where
  pub least : k ≤ r
  pub most : r ≤ n
  pub equal : (j : ℕ) → k ≤ j → j < r → byte_at area (p + j) ≡ byte_at area (q + j)

-- They are, and at r the next two differ, if r is not the end.
pub record DifferAt (n : ℕ) (area : List ℕ) (p q k r : ℕ) : Type 0 where
  pub before : EqualTo n area p q k r
  pub apart : r < n → byte_at area (p + r) ≡ byte_at area (q + r) → ⊥

-- The alternative at p asks no more than that at q.
pub record NoMore (answer : Bool) (bytes : List ℕ) (n : ℕ) (area : List ℕ) (p q : ℕ) : Type 0 where
  pub says : (fs : List Formula) → AreNodes bytes n fs → answer ≡ asks_no_more fs (alternative_in area n p) (alternative_in area n q)

-- How the alternatives at p and q are related: whether the first asks no more, only the second, or neither.
pub record Related (answer : Relation) (bytes : List ℕ) (n : ℕ) (area : List ℕ) (p q : ℕ) : Type 0 where
  pub no_more : answer ≡ Told.NoMore → NoMore true bytes n area p q
  pub more : (answer ≡ Told.NoMore → ⊥) → NoMore false bytes n area p q
  pub no_less : answer ≡ Told.NoLess → NoMore true bytes n area q p
  pub apart : answer ≡ Told.Apart → NoMore false bytes n area q p

-- The alternative at `to` becomes both of those at p and q of another area. Every other byte stays.
pub record BothPut (bytes : List ℕ) (n : ℕ) (area : List ℕ) (p q : ℕ) (room : List ℕ) (to : ℕ) (after : List ℕ) : Type 0 where
  pub beside : Beside room to n after
  pub says : (fs : List Formula) → AreNodes bytes n fs
      → alternative_in after n to ≡ both fs (alternative_in area n p) (alternative_in area n q)

-- The n bytes at `to` become those at p of another area. Every other byte stays.
pub record Copied (n : ℕ) (area : List ℕ) (p : ℕ) (room : List ℕ) (to : ℕ) (after : List ℕ) : Type 0 where
  pub beside : Beside room to n after
  pub is : alternative_in after n to ≡ alternative_in area n p
