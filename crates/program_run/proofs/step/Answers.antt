-- `program_run::step` meets its contract.
use borrow.Author.Rules.{rules}
use Rattle.program_run.proofs.Ways.{cast_byte, step_way}
use Rattle.program_run.proofs.step.Goals as goal

ruleset all = (rules, cast_byte, step_way)

pub returns : goal.returns
returns c = search all
