-- `maker_rows::write_safe` meets its contract.
use borrow.Author.Rules.{rules}
use Rattle.maker_rows.proofs.Ways.{classifiable, short_numbers, writable, safe_written}
use Rattle.maker_rows.proofs.write_safe.Goals as goal

ruleset all = (rules, classifiable, short_numbers, writable, safe_written)

pub states-states-requires : goal.states-states-requires
states-states-requires c = search all

pub actions-actions-requires : goal.actions-actions-requires
actions-actions-requires c = search all

pub classify-requires : goal.classify-requires
classify-requires c = search all

pub layout_of-layout-requires : goal.layout_of-layout-requires
layout_of-layout-requires c = search all

pub write_table-written-requires : goal.write_table-written-requires
write_table-written-requires c = record { writable = writable _ _ _ _ _ _ _ c.requires c.actions-actions.ensures _ _ c.classify.ensures (search rules); short_numbers = search short_numbers }

pub returns : goal.returns
returns c = safe_written _ _ _ _ _ _ _ c.requires c.actions-actions.ensures _ _ c.classify.ensures _ _ _ _ c.states-states.ensures _ c.layout_of-layout.ensures c.write_table-written.ensures c.ok_or.result (search rules)
