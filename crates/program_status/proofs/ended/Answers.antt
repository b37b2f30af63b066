use mathlib.Core.Path.{◌∙◌}
use lib.Seq.{length-take-le}
use Rattle.std.proofs.Common.{rules}
use Rattle.program_status.proofs.Ways.{ended_way}
use Rattle.program_status.proofs.ended.Goals as goal

pub returns : goal.returns
returns c = ended_way _ _ (c.copy_from_slice.auto.self ∙ length-take-le _ _ (search rules)) (search rules)
