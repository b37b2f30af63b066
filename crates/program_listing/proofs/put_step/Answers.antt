-- `program_listing::put_step` meets its contract.
use Rattle.program_listing.proofs.Ways.{step_way}
use Rattle.program_listing.proofs.put_step.Goals as goal

pub returns : goal.returns
returns c = search step_way
