-- What the papers say of an answer, as a caller in another language sees it.
use Rattle.std.specs.Prelude.{get_or}
use Rattle.base.specs.Answers.{Said, answered, refused}
use Rattle.answer_numbers.specs.declared.Answer.{Answer}

-- the answer as numbers, 0 for what it does not have
unfoldable pub shown : Said → Answer
shown (answered values) =
    record { number = 0; letter = 0; place = 0; first = get_or values 0 0; second = get_or values 1 0; third = get_or values 2 0 }
shown (refused number place inside) =
    record { number = number; letter = get_or inside 0 0; place = place; first = 0; second = 0; third = 0 }
