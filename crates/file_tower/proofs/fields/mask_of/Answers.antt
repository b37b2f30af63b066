-- `file_tower::fields::mask_of` meets its contract.
use borrow.Author.Rules.{rules}
use Rattle.file_tower.proofs.Places.{mask_there, mask_read}
use Rattle.file_tower.proofs.fields.mask_of.Goals as goal

ruleset all = (rules, mask_there, mask_read)

pub state_at-requires : goal.state_at-requires
state_at-requires c = search all

pub two_bytes-requires : goal.two_bytes-requires
two_bytes-requires c = search all

pub returns : goal.returns
returns c = search all
