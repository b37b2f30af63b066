use Rattle.base.specs.Text.{ascii}
use Rattle.program_listing.proofs.Ways.{refused_way}
use Rattle.program_listing.proofs.refused.Goals as goal

pub returns : goal.returns
unfolding ascii
returns c = search refused_way
