use Rattle.base.specs.Text.{ascii}
use Rattle.program_listing.proofs.Ways.{sizes_way}
use Rattle.program_listing.proofs.sizes.Goals as goal

pub returns : goal.returns
unfolding ascii
returns c = search sizes_way
