-- `alternative_bytes::cell_no_more` meets its contract, by the laws of Ways.
use borrow.Author.Rules.{rules}
use Rattle.alternative_bytes.proofs.Ways.{no_more_none, more_than_none, no_more_always, no_more_until, no_more_other}
use Rattle.alternative_bytes.proofs.cell_no_more.Goals as goal

pub returns-in_default : goal.returns-in_default
returns-in_default c = no_more_none _ _ _ _ c.in_default.ensures

pub returns-in_default-pending : goal.returns-in_default-pending
returns-in_default-pending c = more_than_none _ _ _ _ _ c.in-Some.ensures c.in_default-pending.ensures

pub returns-in-11 : goal.returns-in-11
returns-in-11 c = no_more_always _ _ _ _ _ c.in-Some.ensures _ c.in-Some-pending.ensures _ c.code.ensures _ c.in-11.is c.le.ensures

pub returns-in-12 : goal.returns-in-12
returns-in-12 c = no_more_until _ _ _ _ _ c.in-Some.ensures _ c.in-Some-pending.ensures _ c.code.ensures _ c.in-12.is c.le-in-12.ensures

pub returns-in_default-code : goal.returns-in_default-code
returns-in_default-code c = no_more_other _ _ _ _ _ c.in-Some.ensures _ c.in-Some-pending.ensures _ c.code.ensures _ (search rules) (search rules) c.eq.ensures
