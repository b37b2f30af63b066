-- `file_tower::fit::no_header` meets its contract.
use borrow.Author.Rules.{rules}
use Rattle.file_tower.proofs.Ways.{header_test}
use Rattle.file_tower.proofs.fit.no_header.Goals as goal

ruleset all = (rules, header_test)

pub layout_of-layout-requires : goal.layout_of-layout-requires
layout_of-layout-requires c = search all

pub returns : goal.returns
returns c = search all
