-- `program_listing::named` meets its contract.
use Rattle.program_listing.proofs.Ways.{named_way}
use Rattle.program_listing.proofs.named.Goals as goal

pub returns : goal.returns
returns c = search named_way
