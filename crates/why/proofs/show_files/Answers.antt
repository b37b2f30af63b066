-- `why::show_files` meets its contract.
use borrow.Author.Rules.{rules}
use mathlib.Core.Path.{◌≡◌, ◌∙◌, ap}
use Rattle.std.specs.Prelude.{Option, None, Ok, Err}
use Rattle.base.specs.Answers.{WhyAnswer}
use Rattle.why.proofs.Ways.{files_good, files_rejected, files_told, files_shown}
use Rattle.why.proofs.show_files.Goals as goal

pub show_run-requires : goal.show_run-requires
show_run-requires c = record { told_broken_some = files_told _ _ _ _ _ _ _ _ _ c.examine.ensures (c.in_ok-found.was {u = tt} ∙ ap Ok c.in-Some.is); pairs_area_in_bounds = search rules; index_area_in_bounds = search rules; room_area_in_bounds = search rules }

pub returns-in_default : goal.returns-in_default
returns-in_default c =
    let nothing : ◌≡◌ {A = Option _} c.in_ok-found.found None = search rules in
    files_good _ _ _ _ _ _ _ c.examine.ensures (c.in_ok-found.was {u = tt} ∙ ap Ok nothing)

pub returns : goal.returns
returns c = files_shown _ _ _ _ _ _ _ _ _ c.examine.ensures (c.in_ok-found.was {u = tt} ∙ ap Ok c.in-Some.is) _ _ _ c.show_run.ensures

pub returns-in_err-found : goal.returns-in_err-found
returns-in_err-found c =
    let stays : ◌≡◌ {A = WhyAnswer} c.from_residual.result (Err c.in_err-found.field-0.0) = search rules in
    files_rejected _ _ _ _ _ _ _ c.examine.ensures _ _ (c.in_err-found.was {u = tt}) stays
