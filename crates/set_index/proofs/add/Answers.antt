-- `set_index::add` meets its contract.
use Rattle.set_index.proofs.Ways.{bucket_there, add_entry}
use borrow.Author.Rules.{rules}
use Rattle.set_index.proofs.add.Goals as goal

ruleset all = (rules, bucket_there, add_entry)

pub add-requires-clause-h_in_bounds : goal.add-requires-clause-h_in_bounds
add-requires-clause-h_in_bounds c = search all

pub returns : goal.returns
returns c = search all
