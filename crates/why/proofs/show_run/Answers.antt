-- `why::show_run` meets its contract.
use borrow.Author.Rules.{rules}
use Rattle.why.proofs.Ways.{write_held, write_lower, write_pair, write_action, run_short, run_judgeable, run_told}
use Rattle.why.proofs.show_run.Goals as goal

pub write_run-requires : goal.write_run-requires
write_run-requires c = record { holds_graph = search (rules, write_held); met_from_lower = search (rules, write_lower); ways_size_in_bounds = search rules; i_lt_n = search (rules, write_pair); a_lt_actions = search (rules, write_action) }

pub judge-place-requires : goal.judge-place-requires
judge-place-requires c = record { run_given = search (rules, run_judgeable); states_size_in_bounds = search rules; marks_size_in_bounds = search rules; kept_size_in_bounds = search rules }

pub returns-in_default : goal.returns-in_default
returns-in_default c = search (rules, run_short)

pub returns : goal.returns
returns c = search (rules, run_told)
