use Rattle.std.proofs.Common.{rules}
use Rattle.program_texts.specs.Decimal.{digit}
use Rattle.program_texts.proofs.digit.Goals as goal

pub returns : goal.returns
unfolding digit
returns c = search rules
