-- `maker_classes::begin` meets its contract.
use Rattle.maker_classes.proofs.Rounds.{begun}
use Rattle.maker_classes.proofs.begin.Goals as goal

pub returns : goal.returns
returns c = search begun
