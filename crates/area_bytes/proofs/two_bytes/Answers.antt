-- `area_bytes::two_bytes` meets its contract.
use native.Mathlib.Omega.{arith}
use Rattle.base.specs.Bytes.{number_at}
use Rattle.area_bytes.proofs.two_bytes.Goals as goal

pub returns : goal.returns
unfolding number_at
returns c = omega (arith, c.from.ensures, c.from_le_bytes.ensures)
