use native.Mathlib.Omega.{arith}
use Rattle.base.specs.Bytes.{number_at}
use Rattle.program_files.proofs.naming.number.Goals as goal

pub returns : goal.returns
unfolding number_at
returns c = omega (arith, c.from_le_bytes.ensures)
