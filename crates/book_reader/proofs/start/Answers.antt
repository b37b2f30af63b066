use mathlib.Core.Path.{◌≡◌, refl}
use Rattle.reading.specs.BookReading.{usual_bound}
use Rattle.book_reader.proofs.Ways.{started}
use Rattle.book_reader.proofs.start.Goals as goal

usual : 20 ≡ usual_bound
unfolding usual_bound
usual = refl

pub returns : goal.returns
returns c = started c.args.area.now _ _ c.requires.0 c.requires.1 usual
