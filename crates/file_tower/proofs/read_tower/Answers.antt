-- `file_tower::read_tower` meets its contract.
use borrow.Author.Rules.{rules}
use Rattle.file_tower.proofs.Ways.{is_headed, is_counted, is_sized, refuse_1, refuse_2}
use Rattle.file_tower.proofs.Ways.{refuse_3, refuse_4, refuse_5, refuse_6, refuse_none}
use Rattle.file_tower.proofs.read_tower.Goals as goal

ruleset all = (rules, is_headed, is_counted, is_sized, refuse_1, refuse_2, refuse_3, refuse_4, refuse_5, refuse_6, refuse_none)

pub no_header-requires : goal.no_header-requires
no_header-requires c = search all

pub returns-then-no_header : goal.returns-then-no_header
returns-then-no_header c = search all

pub bad_counts-requires : goal.bad_counts-requires
bad_counts-requires c = search all

pub returns-then-bad_counts : goal.returns-then-bad_counts
returns-then-bad_counts c = search all

pub bad_size-requires : goal.bad_size-requires
bad_size-requires c = search all

pub returns-then-bad_size : goal.returns-then-bad_size
returns-then-bad_size c = search all

pub bad_actions-requires : goal.bad_actions-requires
bad_actions-requires c = search all

pub returns-then-bad_actions : goal.returns-then-bad_actions
returns-then-bad_actions c = search all

pub bad_targets-requires : goal.bad_targets-requires
bad_targets-requires c = search all

pub returns-then-bad_targets : goal.returns-then-bad_targets
returns-then-bad_targets c = search all

pub bad_masks-requires : goal.bad_masks-requires
bad_masks-requires c = search all

pub returns-then-bad_masks : goal.returns-then-bad_masks
returns-then-bad_masks c = search all

pub returns : goal.returns
returns c = search all
