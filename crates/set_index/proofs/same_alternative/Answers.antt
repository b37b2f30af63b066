use mathlib.Core.Logic.{inl, inr}
use borrow.Author.Rules.{rules}
use Rattle.set_index.proofs.Ways.{compared_start, compared_next, compared_end}
use Rattle.set_index.proofs.same_alternative.Goals as goal

ruleset all = (rules, compared_start, compared_end)

pub loop-k-init : goal.loop-k-init
loop-k-init c = search all

pub loop-k-preserved : goal.loop-k-preserved
loop-k-preserved c = compared_next _ _ _ _ _ c.loop-k.invariant _ _ _ (search rules)
    c.eight_bytes-in-loop-k.ensures c.eight_bytes-in-loop-k-2.ensures (search rules)
    (elim c.if-eight_bytes.branch [ goal.then-eight_bytes w ↦ inl (w.if-eight_bytes.true, w.equal-is) | goal.else-eight_bytes w ↦ inr (w.if-eight_bytes.false, w.equal-is) ])

pub returns : goal.returns
returns c = search all
