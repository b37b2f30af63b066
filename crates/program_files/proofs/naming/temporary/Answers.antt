use Rattle.base.specs.Text.{ascii}
use Rattle.program_files.proofs.Ways.{temporary_way}
use Rattle.program_files.proofs.naming.temporary.Goals as goal

pub returns : goal.returns
unfolding ascii
returns c = search temporary_way
