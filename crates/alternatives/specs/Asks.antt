-- What a set of alternatives asks of the rest of a run, in the words of the logic.
use Rattle.std.specs.Prelude.{ℕ}
use mathlib.Core.List.{List, Memᴰ}
use Rattle.logic.specs.Tower.{Tower}
use Rattle.logic.specs.Book.{Book}
use Rattle.pending.specs.Pending.{Pending}
use Rattle.pending.specs.Asks.{Fulfils}

-- The rest of a run, from state x by the actions u, meets one of the alternatives.
pub record FulfilsOne (tower : Tower) (book : Book) (x : ℕ) (ps : List Pending) (u : List ℕ) : Type 0 where
  pub alternative : Pending
  pub listed : Memᴰ alternative ps
  pub fulfils : Fulfils tower book x alternative u
