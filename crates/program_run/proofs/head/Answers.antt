use Rattle.base.specs.Text.{ascii}
use Rattle.program_run.proofs.Ways.{head_way}
use Rattle.program_run.proofs.head.Goals as goal

pub returns : goal.returns
unfolding ascii
returns c = search head_way
