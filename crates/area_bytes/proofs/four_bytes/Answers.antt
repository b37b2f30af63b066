-- `area_bytes::four_bytes` meets its contract.
use mathlib.Core.Path.{◌∙◌}
use Rattle.area_bytes.proofs.Numbers.{four_read}
use Rattle.area_bytes.proofs.four_bytes.Goals as goal

pub returns : goal.returns
returns c = c.from_le_bytes.ensures ∙ four_read _ _
