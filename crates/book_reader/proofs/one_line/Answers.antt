use mathlib.Core.Path.{refl}
use Rattle.book_reader.proofs.Ways.{one_bad, one_refused, one_next}
use borrow.Author.Rules.{rules}
use Rattle.book_reader.proofs.one_line.Goals as goal

pub returns-in_err-read : goal.returns-in_err-read
returns-in_err-read c = one_bad _ _ _ _ _ _ _ _ _ c.from_residual.ensures.1 c.in_err-read.ensures.value c.in_err-read.ensures.ok_part refl c.read_line.ensures

pub returns-in_err-after : goal.returns-in_err-after
returns-in_err-after c = one_refused _ _ _ _ _ _ _ c.in_ok-read.ensures.ok_part c.read_line.ensures _ _ c.from_residual-in_err-after.ensures.1 c.in_err-after.ensures

pub returns : goal.returns
returns c = one_next _ _ _ _ _ _ _ c.in_ok-read.ensures.ok_part c.read_line.ensures _ _ (search rules) c.in_ok-after.ensures c.put_line.ensures
