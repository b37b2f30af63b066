-- A law for each way through the code that reads a log in parts.
use Prim.Native.Nat.{ℕ, ◌+◌, ◌-◌, ◌≤◌, ◌<◌}
use native.Mathlib.Omega.{arith}
use mathlib.Core.Path.{◌≡◌, refl, ◌∙◌}
use mathlib.Core.Logic.{◌⊎◌, inl, inr}
use mathlib.Core.List.{List}
use lib.ListN.{length, take}
use lib.Seq.{length-take-le}
use Rattle.std.specs.List.{CopiedTo}
use Rattle.logic.specs.declared.Position.{Position}
use Rattle.reading.proofs.LogReading.{log_inside}
use Rattle.outcome.specs.Log.{Course}
use Rattle.log_course.specs.Following.{Noted, OnRow, LinesFollowed}
use Rattle.log_course.specs.declared.Followed.{Followed}
use Rattle.program_log.specs.Parts.{Kept, GoesOn, InPart}
use Rattle.program_log.specs.declared.Part.{Part}

-- ---- keep

-- The bytes come to stand at the start.
pub moved_there : (before after : List ℕ) (from end : ℕ) → CopiedTo before after from 0 (end - from) → Kept (end - from) from end before after
moved_there before after from end copied =
    record {
      all = refl;
      moved = λ j l. let place : j - 0 ≡ j = omega arith in copied j 0 (omega arith) (omega arith) ∙ rw place refl;
    }

-- ---- read_part

-- An answer that does not go on promises nothing.
over_goes : (table : List ℕ) (r : Part) → ((held : ℕ) (line : Position) (course : Course) → r ≡ Part.On held line course → ⊥) → GoesOn r table
over_goes table r never = record { inside = λ h l c e. absurd (never h l c e); on_row = λ h l c e. absurd (never h l c e) }

pub goes_over : (table : List ℕ) (followed : Followed) (bytes : ℕ) → GoesOn (Part.Over followed bytes) table
goes_over table followed bytes = over_goes table _ (λ h l c e. let z : ◌≡◌ {A = ℕ} 0 1 = cc in absurd (omega arith))

pub goes_long : (table : List ℕ) → GoesOn Part.TooLong table
goes_long table = over_goes table _ (λ h l c e. let z : ◌≡◌ {A = ℕ} 0 1 = cc in absurd (omega arith))

pub goes_failed : (table : List ℕ) → GoesOn Part.Failed table
goes_failed table = over_goes table _ (λ h l c e. let z : ◌≡◌ {A = ℕ} 0 1 = cc in absurd (omega arith))

-- An answer that is not known promises nothing.
not_over : (part : List ℕ) (r : Part) → ((followed : Followed) (bytes : ℕ) → r ≡ Part.Over followed bytes → ⊥) → InPart r part
not_over part r never = record { read = λ f n e. absurd (never f n e); known = λ f n e. absurd (never f n e) }

pub in_long : (part : List ℕ) → InPart Part.TooLong part
in_long part = not_over part _ (λ f n e. let z : ◌≡◌ {A = ℕ} 0 1 = cc in absurd (omega arith))

pub in_failed : (part : List ℕ) → InPart Part.Failed part
in_failed part = not_over part _ (λ f n e. let z : ◌≡◌ {A = ℕ} 0 1 = cc in absurd (omega arith))

pub in_on : (part : List ℕ) (held : ℕ) (line : Position) (course : Course) → InPart (Part.On held line course) part
in_on part held line course = not_over part _ (λ f n e. let z : ◌≡◌ {A = ℕ} 0 1 = cc in absurd (omega arith))

-- The log has ended, or what is left is more than any line.
module _ (part : List ℕ) (followed : Followed) (bytes : ℕ) (whole : bytes ≡ length (take bytes part)) where
  in_over : (bytes < 65536) ⊎ (14 ≤ bytes - followed.next) → InPart (Part.Over followed bytes) part
  in_over why =
      record {
        read = λ f n e. let same : bytes ≡ n = cc in rw (← same) whole;
        known = λ f n e. let same : bytes ≡ n = cc in let alike : followed ≡ f = cc in rw (← same, ← alike) why;
      }

  pub in_ended : bytes < 65536 → InPart (Part.Over followed bytes) part
  in_ended few = in_over (inl few)

  pub in_left : 14 ≤ bytes - followed.next → InPart (Part.Over followed bytes) part
  in_left many = in_over (inr many)

-- The lines of a part, behind so many, are not more than a number can hold.
pub few_lines : (before part : List ℕ) (bytes : ℕ) (line : Position) → length part ≡ length before → length before ≡ 65536 → bytes ≤ length part
    → line.0 ≤ 4611686018427387904 → line.0 + length (take bytes part) < 18446744073709551616
few_lines before part bytes line same long inside few = omega (arith, length-take-le bytes part inside)

-- What was followed ends inside the part.
pub next_inside : (tower table part : List ℕ) (bytes : ℕ) (line : Position) (course : Course) (f : Followed)
    → LinesFollowed f tower table (take bytes part) line course → bytes ≡ length (take bytes part) → f.next ≤ bytes
next_inside tower table part bytes line course f lines whole = omega (arith, lines.next, log_inside (take bytes part) 0 (omega arith))

-- What is left is less than a line.
pub goes_on : (tower table part before after : List ℕ) (bytes left : ℕ) (line : Position) (course : Course) (f : Followed)
    → LinesFollowed f tower table part line course → Kept left f.next bytes before after → bytes - f.next < 14
    → GoesOn (Part.On left f.line f.course) table
goes_on tower table part before after bytes left line course f lines kept few =
    record {
      inside = λ h l c e. let same : left ≡ h = cc in omega (arith, kept.all);
      on_row = λ h l c e. let same : f.course ≡ c = cc in rw (← same) lines.on_row;
    }

-- ---- read_parts

-- Between two parts: the areas are as long as they were, what is noted is right, what is held is inside, and the row is one of the table's.
pub record BetweenParts (table noted_first known before part : List ℕ) (held : ℕ) (course : Course) : Type 0 where
  pub same_room : length known ≡ length noted_first
  pub noted : Noted table known
  pub same_length : length part ≡ length before
  pub inside : held ≤ 65536
  pub on_row : OnRow table course

pub parts_start : (table known part : List ℕ) (course : Course) → OnRow table course → Noted table known → BetweenParts table known known part part 0 course
parts_start table known part course on noted = record { same_room = refl; noted = noted; same_length = refl; inside = omega arith; on_row = on }

pub parts_more : (table noted_first known known_now before part after : List ℕ) (held left : ℕ) (course so_far : Course) (line : Position) (r : Part)
    → BetweenParts table noted_first known before part held course → r ≡ Part.On left line so_far → GoesOn r table → Noted table known_now
    → length known_now ≡ length known → length after ≡ length part → BetweenParts table noted_first known_now before after left so_far
parts_more table noted_first known known_now before part after held left course so_far line r between e goes noted room same =
    record {
      same_room = room ∙ between.same_room;
      noted = noted;
      same_length = same ∙ between.same_length;
      inside = goes.inside left line so_far e;
      on_row = goes.on_row left line so_far e;
    }

module _ (table noted_first known before part : List ℕ) (held : ℕ) (course : Course)
    (between : BetweenParts table noted_first known before part held course) where
  pub part_length : length before ≡ 65536 → length part ≡ 65536
  part_length e = between.same_length ∙ e

  pub held_there : held ≤ 65536
  held_there = between.inside

  pub row_there : OnRow table course
  row_there = between.on_row

  pub noted_there : Noted table known
  noted_there = between.noted

-- The last answer is handed on.
pub over_there : (part : List ℕ) (r : Part) (followed : Followed) (bytes : ℕ) → r ≡ Part.Over followed bytes → InPart r part → InPart (Part.Over followed bytes) part
over_there part r followed bytes e there = rw (← e) there
