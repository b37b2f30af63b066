-- 02, item 4: 'a shortest allowed run that is broken; among those of one length, the first by action numbers compared from the left', 'the lowest
-- line that the run breaks and, for an `always` line, the lowest position where it isn't kept; for a `start` line, 0'.
use Rattle.std.specs.Prelude.{ℕ, ◌<◌, ◌≡◌, ◌⊎◌, true, List, [], ◌∷◌, length, get_or}
use Rattle.logic.specs.Time.{position, Before}
use Rattle.logic.specs.Tower.{Tower}
use Rattle.logic.specs.Book.{Formula, constant, Form, at_start, everywhere, Rule, Book}
use Rattle.logic.specs.Runs.{trace, Trace, Kept, KeptRule, Broken}
use Rattle.logic.specs.Tables.{Table, Allows}
use Rattle.logic.specs.declared.Position.{Position}

-- ---- the run

-- Compared from the left, the first run has the lower number where the two first differ.
unfoldable pub Lower : List ℕ → List ℕ → Type 0
Lower [] v = ⊥
Lower (a ∷ u) [] = ⊥
Lower (a ∷ u) (b ∷ v) = (a < b) ⊎ ((a ≡ b) × Lower u v)

-- The first run is shorter; or both are of one length, and it comes first by action numbers compared from the left.
unfoldable pub Sooner : List ℕ → List ℕ → Type 0
Sooner u v = (length u < length v) ⊎ ((length u ≡ length v) × Lower u v)

-- A run of a kind of which no run comes sooner: a shortest one, and among those the first.
pub record Soonest (Kind : List ℕ → Type 0) (w : List ℕ) : Type 0 where
  pub is : Kind w
  pub none_sooner : (v : List ℕ) → Kind v → Sooner v w → ⊥

-- The table allows the run, and the run is broken.
pub record AllowedBroken (tower : Tower) (book : Book) (table : Table) (w : List ℕ) : Type 0 where
  pub allowed : Allows table w
  pub broken : Broken tower book w

-- ---- the line and the position

-- line k of the book, from 0; past the last line, one that is always kept
unfoldable pub rule_at : Book → ℕ → Rule
rule_at book k = get_or book k (record { form = at_start; formula = constant true })

-- The run keeps line k.
unfoldable pub KeptLine : Tower → Book → List ℕ → ℕ → Type 0
KeptLine tower book w k = KeptRule tower (trace tower w) (rule_at book k).form (rule_at book k).formula

-- Line k is the lowest that the run breaks.
pub record LowestLine (tower : Tower) (book : Book) (w : List ℕ) (k : ℕ) : Type 0 where
  pub inside : k < length book
  pub broken : KeptLine tower book w k → ⊥
  pub lower : (j : ℕ) → j < k → KeptLine tower book w j

-- Where a line of this form is broken: an `always` line at the lowest position where its formula isn't kept, a `start` line at 0.
unfoldable pub BrokenAt : Tower → Trace → Form → Formula → Position → Type 0
BrokenAt tower run everywhere f i = (Kept tower run f i → ⊥) × ((j : Position) → Before j i → Kept tower run f j)
BrokenAt tower run at_start f i = i ≡ position 0

-- ---- all of it

-- What is shown of a table that allows a broken run: the run, the line and the position.
pub record ShowsWhy (tower : Tower) (book : Book) (table : Table) (w : List ℕ) (k : ℕ) (i : Position) : Type 0 where
  pub run : Soonest (AllowedBroken tower book table) w
  pub line : LowestLine tower book w k
  pub place : BrokenAt tower (trace tower w) (rule_at book k).form (rule_at book k).formula i
