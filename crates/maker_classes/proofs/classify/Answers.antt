use Rattle.maker_classes.proofs.Rounds.{refining_start, made_fits, made_falls, refining_more, refining_end}
use borrow.Author.Rules.{rules}
use Rattle.maker_classes.proofs.classify.Goals as goal

ruleset all = (rules, refining_start, made_fits, made_falls, refining_more, refining_end)

pub begin-requires : goal.begin-requires
begin-requires c = search all

pub loop-separated-init : goal.loop-separated-init
loop-separated-init c = search all

pub goes_on-requires : goal.goes_on-requires
goes_on-requires c = search all

pub make_pass-separated-requires : goal.make_pass-separated-requires
make_pass-separated-requires c = search all

pub overflow_add-made : goal.overflow_add-made
overflow_add-made c = made_fits _ _ _ _ _ _ _ _ _ _ c.requires c.loop-separated.invariant.0 _ c.goes_on.ensures c.loop-separated-test.true

pub loop-separated-smaller : goal.loop-separated-smaller
loop-separated-smaller c = made_falls _ _ _ _ _ _ _ _ _ _ c.requires c.loop-separated.invariant.0 _ c.goes_on.ensures c.loop-separated-test.true

pub loop-separated-preserved : goal.loop-separated-preserved
loop-separated-preserved c = (refining_more _ _ _ _ _ _ _ _ _ _ c.requires c.loop-separated.invariant.0 _ c.goes_on.ensures c.loop-separated-test.true _ _ _ c.make_pass-separated.ensures, search rules, search rules)

pub shape_of-classes : goal.shape_of-classes
shape_of-classes c = search all

pub shape_of-marks : goal.shape_of-marks
shape_of-marks c = search all

pub returns : goal.returns
returns c = refining_end _ _ _ _ _ _ _ _ _ _ c.requires c.loop-separated.invariant.0 _ c.goes_on.ensures c.loop-separated-test.false
