use mathlib.Core.Path.{◌≡◌, ◌∙◌, ap}
use Rattle.std.specs.Prelude.{Option, Some, Ok}
use Rattle.base.specs.Answers.{WhyAnswer}
use Rattle.base.specs.declared.BrokenRun.{BrokenRun}
use Rattle.std.proofs.Common.{rules}
use Rattle.why_not.proofs.Ways.{told_run}
use Rattle.why_not.proofs.tell.Goals as goal

pub tell_run-requires : goal.tell_run-requires
tell_run-requires g c =
    let run = c.in-Ok-Some.shown in
    let found : ◌≡◌ {A = WhyAnswer} c.args.answer (Ok c.in-Ok-Some.field-0) = c.in-Ok-Some.is in
    let there : ◌≡◌ {A = Option BrokenRun} c.in-Ok-Some.field-0 (Some run) = search (rules, c.in-Ok-Some.field-0-is) in
    told_run _ run.length run.line run.position _ _ _ _ c.requires (found ∙ ap Ok there)
