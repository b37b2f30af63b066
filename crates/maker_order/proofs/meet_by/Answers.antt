-- `maker_order::meet_by` meets its contract.
use borrow.Author.Rules.{rules}
use Rattle.maker_order.proofs.Ways.{meets_nothing, led_pair_below, meets_led}
use Rattle.maker_order.proofs.meet_by.Goals as goal

ruleset all = (rules, meets_nothing, led_pair_below, meets_led)

pub allowed-requires : goal.allowed-requires
allowed-requires c = search all

pub enum_known-j : goal.enum_known-j
enum_known-j c = search all

pub enum_told-1 : goal.enum_told-1
enum_told-1 c = search all

pub returns-in_default : goal.returns-in_default
returns-in_default c = search all

pub meet-requires : goal.meet-requires
meet-requires c = search all

pub shape_of-area : goal.shape_of-area
shape_of-area c = search all

pub returns : goal.returns
returns c = search all
