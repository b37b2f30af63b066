-- `program_run::put_number` meets its contract.
use Rattle.program_run.proofs.Ways.{number_way}
use Rattle.program_run.proofs.put_number.Goals as goal

pub returns : goal.returns
returns c = search number_way
