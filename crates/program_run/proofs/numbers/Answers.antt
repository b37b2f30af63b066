-- `program_run::numbers` meets its contract.
use Rattle.program_run.proofs.Ways.{numbers_way}
use Rattle.program_run.proofs.numbers.Goals as goal

pub returns : goal.returns
returns c = search numbers_way
