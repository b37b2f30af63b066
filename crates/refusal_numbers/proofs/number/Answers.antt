-- `refusal_numbers::number` meets its contract.
use borrow.Author.Rules.{rules}
use Rattle.refusal_numbers.proofs.Laws.{number_by}
use Rattle.refusal_numbers.proofs.number.Goals as goal

ruleset all = (rules, number_by)

pub enum_told-1 : goal.enum_told-1
enum_told-1 c = search all

pub enum_told-in-Range : goal.enum_told-in-Range
enum_told-in-Range c = search all

pub enum_told-in-Action : goal.enum_told-in-Action
enum_told-in-Action c = search all

pub enum_told-in-Target : goal.enum_told-in-Target
enum_told-in-Target c = search all

pub enum_told-in-Mask : goal.enum_told-in-Mask
enum_told-in-Mask c = search all

pub enum_told-in-Grammar : goal.enum_told-in-Grammar
enum_told-in-Grammar c = search all

pub enum_told-in-Number : goal.enum_told-in-Number
enum_told-in-Number c = search all

pub enum_told-in-Mark : goal.enum_told-in-Mark
enum_told-in-Mark c = search all

pub enum_told-in-Limit : goal.enum_told-in-Limit
enum_told-in-Limit c = search all

pub enum_told-in-Timed : goal.enum_told-in-Timed
enum_told-in-Timed c = search all

pub enum_told-in-Pairs : goal.enum_told-in-Pairs
enum_told-in-Pairs c = search all

pub enum_told-in-NoTable : goal.enum_told-in-NoTable
enum_told-in-NoTable c = search all

pub enum_told-in-Layout : goal.enum_told-in-Layout
enum_told-in-Layout c = search all

pub enum_told-in-Area : goal.enum_told-in-Area
enum_told-in-Area c = search all

pub enum_told-in-Output : goal.enum_told-in-Output
enum_told-in-Output c = search all

pub enum_told-in-Outside : goal.enum_told-in-Outside
enum_told-in-Outside c = search all

pub enum_told-in-NotAllowed : goal.enum_told-in-NotAllowed
enum_told-in-NotAllowed c = search all

pub enum_told-in-Log : goal.enum_told-in-Log
enum_told-in-Log c = search all

pub enum_told-in-Alternatives : goal.enum_told-in-Alternatives
enum_told-in-Alternatives c = search all

pub returns-in-TowerSize : goal.returns-in-TowerSize
returns-in-TowerSize c = search all

pub returns-in-Range : goal.returns-in-Range
returns-in-Range c = search all

pub returns-in-Action : goal.returns-in-Action
returns-in-Action c = search all

pub returns-in-Target : goal.returns-in-Target
returns-in-Target c = search all

pub returns-in-Mask : goal.returns-in-Mask
returns-in-Mask c = search all

pub returns-in-Grammar : goal.returns-in-Grammar
returns-in-Grammar c = search all

pub returns-in-Number : goal.returns-in-Number
returns-in-Number c = search all

pub returns-in-Mark : goal.returns-in-Mark
returns-in-Mark c = search all

pub returns-in-Limit : goal.returns-in-Limit
returns-in-Limit c = search all

pub returns-in-Timed : goal.returns-in-Timed
returns-in-Timed c = search all

pub returns-in-Pairs : goal.returns-in-Pairs
returns-in-Pairs c = search all

pub returns-in-NoTable : goal.returns-in-NoTable
returns-in-NoTable c = search all

pub returns-in-Layout : goal.returns-in-Layout
returns-in-Layout c = search all

pub returns-in-Area : goal.returns-in-Area
returns-in-Area c = search all

pub returns-in-Output : goal.returns-in-Output
returns-in-Output c = search all

pub returns-in-Outside : goal.returns-in-Outside
returns-in-Outside c = search all

pub returns-in-NotAllowed : goal.returns-in-NotAllowed
returns-in-NotAllowed c = search all

pub returns-in-Log : goal.returns-in-Log
returns-in-Log c = search all

pub returns-in-Alternatives : goal.returns-in-Alternatives
returns-in-Alternatives c = search all
