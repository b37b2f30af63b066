use mathlib.Core.Path.{ap}
use Rattle.book_heading.specs.Heading.{usual_of}
use Rattle.book_heading.proofs.usual.Goals as goal

pub returns-in-Ok : goal.returns-in-Ok
unfolding usual_of
returns-in-Ok c = ap usual_of c.in-Ok.ensures

pub returns-in-Err : goal.returns-in-Err
unfolding usual_of
returns-in-Err c = ap usual_of c.in-Err.ensures
