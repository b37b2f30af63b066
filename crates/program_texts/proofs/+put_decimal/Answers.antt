use Rattle.std.proofs.Common.{rules}
use Rattle.program_texts.proofs.Ways.{decimal_small, decimal_behind}
use Rattle.program_texts.proofs.+put_decimal.Goals as goal

ruleset all = (rules, decimal_small, decimal_behind)

pub returns-then-n-lt10 : goal.returns-then-n-lt10
returns-then-n-lt10 t c = search all

pub returns : goal.returns
returns t c = search all
