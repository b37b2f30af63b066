-- What pending obligations ask of the rest of a run, in the words of the logic. The theorem of progression is stated with this.
use Rattle.std.specs.Prelude.{ℕ, ◌<◌, ◌≡◌, false, length, get_or}
use Rattle.std.specs.Prelude.{Some, None}
use mathlib.Core.List.{List, Memᴰ}
use Rattle.logic.specs.Time.{position}
use Rattle.logic.specs.Tower.{Tower}
use Rattle.logic.specs.Book.{Formula, constant, proposition, and, or, next, always_for, until, nodes, everywhere, Rule, Book}
use Rattle.logic.specs.Runs.{trace_from, Kept, KeptRule}
use Rattle.logic.specs.declared.Tick.{Tick}
use Rattle.pending.specs.Pending.{Pending}

-- a node with r ticks left, as a formula: A and U with the bound r, every other node as it stands
unfoldable pub with_left : Formula → Tick → Formula
with_left (constant b) r = constant b
with_left (proposition w k) r = proposition w k
with_left (and f g) r = and f g
with_left (or f g) r = or f g
with_left (next c t g) r = next c t g
with_left (always_for t g) r = always_for r g
with_left (until t f g) r = until r f g

-- The rest of a run, from state x by the actions u, meets what is pending: each pending node is kept at once, and each `always` rule is kept.
pub record Fulfils (tower : Tower) (book : Book) (x : ℕ) (p : Pending) (u : List ℕ) : Type 0 where
  pub pending : (k : ℕ) (r : Tick) → k < length (nodes book) → get_or p k None ≡ Some r
      → Kept tower (trace_from tower x u) (with_left (get_or (nodes book) k (constant false)) r) (position 0)
  pub rules : (rule : Rule) → Memᴰ rule book → rule.form ≡ everywhere → KeptRule tower (trace_from tower x u) everywhere rule.formula
