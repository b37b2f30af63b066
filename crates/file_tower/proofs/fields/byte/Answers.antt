-- `file_tower::fields::byte` meets its contract.
use borrow.Author.Rules.{rules}
use Rattle.area_bytes.proofs.Numbers.{cast_byte}
use Rattle.file_tower.proofs.fields.byte.Goals as goal

ruleset all = (rules, cast_byte)

pub bounds-bytes-p : goal.bounds-bytes-p
bounds-bytes-p c = search all

pub overflow_cast-result : goal.overflow_cast-result
overflow_cast-result c = search all

pub returns : goal.returns
returns c = search all
