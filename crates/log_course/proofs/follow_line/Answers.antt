-- `log_course::follow_line` meets its contract.
use borrow.Author.Rules.{rules}
use mathlib.Core.Path.{◌≡◌}
use Rattle.std.specs.Prelude.{Err}
use Rattle.log_course.proofs.Ways.{has_layout, place_inside, one_more, stays_wrong}
use Rattle.log_course.proofs.follow_line.Goals as goal

ruleset all = (rules, has_layout, place_inside)

pub step_known-target-requires : goal.step_known-target-requires
step_known-target-requires c = search all

pub follow_place-requires : goal.follow_place-requires
follow_place-requires c = search all

pub shape_of-known : goal.shape_of-known
shape_of-known c = search all

pub returns-in_err-place : goal.returns-in_err-place
returns-in_err-place c =
    let stays : c.from_residual.result ≡ Err c.in_err-place.field-0.0 = search rules in
    record { line_followed = search (stays_wrong, c.in_err-place.was); noted_2 = search rules }

pub returns : goal.returns
returns c = record { line_followed = search (one_more, c.in_ok-place.was); noted_2 = search rules }
