-- `area_bytes::eight_bytes` meets its contract.
use mathlib.Core.Path.{◌∙◌}
use Rattle.area_bytes.proofs.Numbers.{eight_read}
use Rattle.area_bytes.proofs.eight_bytes.Goals as goal

pub returns : goal.returns
returns c = c.from_le_bytes.ensures ∙ eight_read _ _
