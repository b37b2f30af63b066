-- `set_index::head` meets its contract.
use Rattle.set_index.proofs.Ways.{bucket_there, head_read}
use borrow.Author.Rules.{rules}
use Rattle.set_index.proofs.head.Goals as goal

ruleset all = (rules, bucket_there, head_read)

pub head-requires : goal.head-requires
head-requires c = search all
