-- What refusals 11 and 20 speak of, said without a search: pairs, and rows with what is pending, that runs over unbroken steps lead to.
use Rattle.std.specs.Prelude.{ℕ, ◌<◌, ◌≡◌}
use Rattle.std.specs.Prelude.{Some}
use mathlib.Core.List.{List, map, Memᴰ}
use Rattle.base.specs.Lists.{total, Distinct}
use Rattle.logic.specs.Tower.{Tower}
use Rattle.logic.specs.Book.{Book}
use Rattle.logic.specs.Runs.{leads}
use Rattle.logic.specs.Tables.{Table, rows_tower}
use Rattle.alternatives.specs.Alternatives.{over}
use Rattle.alternatives.specs.Pairs.{Pair, pair_weight, first_pair, alternatives_by, pair_step}

-- some run over unbroken steps leads to the pair
unfoldable pub ReachedPair : Tower → Book → Pair → Type 0
ReachedPair tower book v = (w : List ℕ) × (leads (pair_step tower book) (first_pair tower book) w ≡ Some v)

-- some allowed run over unbroken steps leads to the row with this pending: the pair is one of the table as a tower, its state the row
unfoldable pub ReachedItem : Tower → Book → Table → Pair → Type 0
ReachedItem tower book table v = ReachedPair (rows_tower tower table) book v

-- Distinct pairs of the kind count more than n together.
unfoldable pub MoreThan : ℕ → (Pair → Type 0) → Type 0
MoreThan n Kind = (vs : List Pair) × (n < total (map pair_weight vs)) × Distinct vs × ((v : Pair) → Memᴰ v vs → Kind v)

-- Some reached pair, tried by some enabled action, gives more than 16 alternatives (02, item 3).
pub record GivesOver (tower : Tower) (book : Book) : Type 0 where
  pub pair : Pair
  pub reached : ReachedPair tower book pair
  pub action : ℕ
  pub state : ℕ
  pub enabled : tower.target pair.state action ≡ Some state
  pub many : alternatives_by tower book pair action ≡ over
