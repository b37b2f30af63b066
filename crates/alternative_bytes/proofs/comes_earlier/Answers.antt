-- `alternative_bytes::comes_earlier` meets its contract, by the laws of Ways.
use borrow.Author.Rules.{rules}
use Rattle.alternative_bytes.proofs.Ways.{ordering_end, ordering_differ}
use Rattle.alternative_bytes.proofs.comes_earlier.Goals as goal

pub returns-then-k-n : goal.returns-then-k-n
returns-then-k-n c = search (rules, ordering_differ)

pub returns-else-k-n : goal.returns-else-k-n
returns-else-k-n c = search (rules, ordering_end)
