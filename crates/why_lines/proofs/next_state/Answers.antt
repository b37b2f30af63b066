-- `next_state`: the answer of the tower, or the state itself.
use borrow.Author.Rules.{rules}
use Rattle.why_lines.proofs.Noting.{next_enabled, next_not_enabled}

ruleset all = (rules, next_enabled, next_not_enabled)
