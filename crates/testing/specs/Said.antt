-- What is said of the tower reader's answer.
use Rattle.std.specs.Prelude.{[]}
use Rattle.base.specs.Answers.{Said, answered, refusal_said}
use Rattle.std.specs.Prelude.{Ok, Err}
use Rattle.base.specs.Answers.{Answer}

-- the tower reader has no value but that the file is fit
unfoldable pub tower_said : Answer (Unit {0}) → Said
tower_said (Ok tt) = answered []
tower_said (Err r) = refusal_said r
