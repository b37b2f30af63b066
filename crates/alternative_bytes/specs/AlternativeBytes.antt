-- An alternative as bytes: a byte for each node, as in crates/book_progression/specs/PendingBytes.antt.
use Rattle.std.specs.Prelude.{ℕ, List}
use Rattle.pending.specs.Pending.{Pending}
use Rattle.book_progression.specs.PendingBytes.{pending_of, part}

-- the alternative of n nodes at this place of an area
unfoldable pub alternative_in : List ℕ → ℕ → ℕ → Pending
alternative_in area n at = pending_of (part area at n)
