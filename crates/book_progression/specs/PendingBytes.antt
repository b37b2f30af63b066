-- What is pending as bytes: a byte for each node, 0 for nothing and r + 1 for r ticks left.
use Rattle.std.specs.Prelude.{ℕ, zero, suc, Bool, true, false, List, map, take, drop}
use Rattle.std.specs.Prelude.{Option, None, Some}
use Rattle.logic.specs.Time.{ticks}
use Rattle.logic.specs.declared.Tick.{Tick}
use Rattle.pending.specs.Pending.{Pending}

-- what a byte says of its node
unfoldable pub cell_of : ℕ → Option Tick
cell_of zero = None
cell_of (suc r) = Some (ticks r)

-- the byte that says so
unfoldable pub cell_byte : Option Tick → ℕ
cell_byte None = 0
cell_byte (Some r) = suc r.0

-- what the bytes of all nodes say
unfoldable pub pending_of : List ℕ → Pending
pending_of cells = map cell_of cells

-- n bytes of an area, from a place on
unfoldable pub part : List ℕ → ℕ → ℕ → List ℕ
part area at n = take n (drop at area)

-- what an answer says of a step: true, it leaves the bytes pending; false, it is broken
unfoldable pub outcome : Bool → List ℕ → Option Pending
outcome true cells = Some (pending_of cells)
outcome false cells = None
