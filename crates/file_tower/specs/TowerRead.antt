-- The answers of the tower reader, from those of the definitions.
use Rattle.base.specs.Answers.{Answer}
use Rattle.std.specs.Prelude.{Err, Ok}
use Rattle.logic.specs.Tower.{Tower}

-- what the reader answers: that the file is fit, or why not
unfoldable pub tower_read : Answer Tower → Answer (Unit {0})
tower_read (Err r) = Err r
tower_read (Ok tower) = Ok tt
