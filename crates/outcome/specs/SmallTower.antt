-- 01, 'Tower file' and 'Small-tower table': the small tower, its books, and the table of its eleven outcomes as a statement.
use Rattle.std.specs.Prelude.{ℕ, ◌≡◌, List, [], ◌∷◌, ◌++◌, take, drop}
use Prim.Native.String.{String}
use Rattle.base.specs.Text.{byte, ascii}
use Rattle.base.specs.Bytes.{cleared}
use Rattle.base.specs.Answers.{answered, refused, make_said, verdict_said}
use Rattle.reading.specs.TableReading.{rows_of, steps_of}
use Rattle.outcome.specs.Make.{MakeOutcome, make_outcome}
use Rattle.outcome.specs.Check.{CheckOutcome, check_outcome}

-- the small tower, 34 bytes, with actions 1 and 3 of kind 2 (02, item 1)
unfoldable pub small_tower : List ℕ
small_tower =
    0x03 ∷ 0x04 ∷ 0x03 ∷ 0x00 ∷ 0x08 ∷ 0x00 ∷ 0x10 ∷ 0x00
    ∷ 0x01 ∷ 0x01 ∷ 0x01 ∷ 0x02 ∷ 0x01 ∷ 0x01 ∷ 0x01 ∷ 0x02
    ∷ 0x01 ∷ 0x00 ∷ 0x01 ∷ 0xFF ∷ 0x02 ∷ 0xFF
    ∷ 0x02 ∷ 0x00 ∷ 0xFF ∷ 0x00 ∷ 0xFF ∷ 0xFF
    ∷ 0x04 ∷ 0x00 ∷ 0xFF ∷ 0xFF ∷ 0xFF ∷ 0x00
    ∷ []

-- ---- the books

abbrev pub book_1 : String
book_1 = "always !p0 | E 3 p1\nalways !p0 | E 3 p2\n"

abbrev pub book_2 : String
book_2 = "always !p0 | E 4 p1\nalways !p0 | E 4 p2\n"

abbrev pub book_3 : String
book_3 = "always !p0 | (E 3 p1 & E 3 p2)\n"

abbrev pub book_4 : String
book_4 = "always !p0 | E 2 p1\nalways !p0 | E 2 p2\n"

abbrev pub book_5 : String
book_5 = ""

abbrev pub book_6 : String
book_6 = "always !p1\n"

abbrev pub book_7 : String
book_7 = "start E 1 p1\n"

abbrev pub book_8 : String
book_8 = "start A 0 p0\n"

abbrev pub book_9 : String
book_9 = "start A 1 p0\n"

abbrev pub book_10 : String
book_10 = "always N <= 1 T\n"

-- ---- the calls

-- the maker called for the small tower and a book, with an output and the areas lent to it
unfoldable pub made : List ℕ → List (List ℕ) → String → MakeOutcome
made output areas book = make_outcome small_tower (ascii book) output areas

-- the table that such a call made, of so many bytes
unfoldable pub table : ℕ → List ℕ → List (List ℕ) → String → List ℕ
table n output areas book = take n (made output areas book).output

-- the checker called for the small tower and a book, with the bytes of a table and the areas lent to it
unfoldable pub checked : List ℕ → List (List ℕ) → String → CheckOutcome
checked file areas book = check_outcome small_tower (ascii book) file areas

-- the 50 bytes of outcome 1
unfoldable pub table_1 : List ℕ
table_1 =
    5 ∷ 0 ∷ 6 ∷ 0 ∷ 12 ∷ 0 ∷ 32 ∷ 0 ∷ 3 ∷ 0 ∷ 4 ∷ 0
    ∷ 0 ∷ 2 ∷ 0 ∷ 0
    ∷ 1 ∷ 1 ∷ 2 ∷ 0
    ∷ 2 ∷ 1 ∷ 3 ∷ 0
    ∷ 0 ∷ 1 ∷ 4 ∷ 0
    ∷ 0 ∷ 1 ∷ 5 ∷ 0
    ∷ 0 ∷ 1 ∷ 0 ∷ 2 ∷ 2 ∷ 0
    ∷ 1 ∷ 3 ∷ 0
    ∷ 3 ∷ 4 ∷ 0
    ∷ 2 ∷ 2 ∷ 0
    ∷ 0 ∷ 1 ∷ 0
    ∷ []

-- the tables of outcomes 5, 6 and 7
unfoldable pub table_5 : List ℕ
table_5 =
    3 ∷ 0 ∷ 4 ∷ 0 ∷ 12 ∷ 0 ∷ 24 ∷ 0 ∷ 3 ∷ 0 ∷ 4 ∷ 0
    ∷ 0 ∷ 2 ∷ 0 ∷ 0
    ∷ 1 ∷ 1 ∷ 2 ∷ 0
    ∷ 2 ∷ 1 ∷ 3 ∷ 0
    ∷ 0 ∷ 1 ∷ 0 ∷ 2 ∷ 2 ∷ 0
    ∷ 1 ∷ 0 ∷ 0
    ∷ 3 ∷ 0 ∷ 0
    ∷ []

unfoldable pub table_6 : List ℕ
table_6 =
    2 ∷ 0 ∷ 2 ∷ 0 ∷ 12 ∷ 0 ∷ 20 ∷ 0 ∷ 3 ∷ 0 ∷ 4 ∷ 0
    ∷ 0 ∷ 1 ∷ 0 ∷ 0
    ∷ 2 ∷ 1 ∷ 1 ∷ 0
    ∷ 2 ∷ 1 ∷ 0
    ∷ 3 ∷ 0 ∷ 0
    ∷ []

unfoldable pub table_7 : List ℕ
table_7 =
    4 ∷ 0 ∷ 5 ∷ 0 ∷ 12 ∷ 0 ∷ 28 ∷ 0 ∷ 3 ∷ 0 ∷ 4 ∷ 0
    ∷ 0 ∷ 1 ∷ 0 ∷ 0
    ∷ 1 ∷ 1 ∷ 1 ∷ 0
    ∷ 0 ∷ 2 ∷ 2 ∷ 0
    ∷ 2 ∷ 1 ∷ 4 ∷ 0
    ∷ 0 ∷ 1 ∷ 0
    ∷ 1 ∷ 2 ∷ 0
    ∷ 0 ∷ 1 ∷ 0 ∷ 2 ∷ 3 ∷ 0
    ∷ 3 ∷ 2 ∷ 0
    ∷ []

-- A made table of so many bytes, r rows and s steps; the output behind it is as it was, and the areas are clear.
pub record MadeTable (output : List ℕ) (areas : List (List ℕ)) (book : String) (bytes r s : ℕ) : Type 0 where
  pub said : make_said (made output areas book).answer ≡ answered (bytes ∷ [])
  pub rows : rows_of (table bytes output areas book) ≡ r
  pub steps : steps_of (table bytes output areas book) ≡ s
  pub behind : (made output areas book).output ≡ table bytes output areas book ++ drop bytes output
  pub clear : (made output areas book).areas ≡ cleared areas

-- A refusal with this number at place 0; the output is as it was, and the areas are clear.
pub record NotMade (output : List ℕ) (areas : List (List ℕ)) (book : String) (number : ℕ) : Type 0 where
  pub said : make_said (made output areas book).answer ≡ refused number 0 []
  pub unchanged : (made output areas book).output ≡ output
  pub clear : (made output areas book).areas ≡ cleared areas

-- The checker turns a table down with 14 and this letter; the areas are clear.
pub record TurnedDown (file : List ℕ) (areas : List (List ℕ)) (book : String) (letter : ℕ) : Type 0 where
  pub said : verdict_said (checked file areas book).answer ≡ refused 14 0 (letter ∷ [])
  pub clear : (checked file areas book).areas ≡ cleared areas

-- 'Small-tower table', row by row, whatever the output and the lent areas hold.
pub record SmallTowerTable (output : List ℕ) (areas lent : List (List ℕ)) : Type 0 where
  pub outcome_1 : MadeTable output areas book_1 50 5 6
  pub bytes_1 : table 50 output areas book_1 ≡ table_1
  pub outcome_2 : made output areas book_2 ≡ made output areas book_1
  pub outcome_3 : made output areas book_3 ≡ made output areas book_1
  pub outcome_4 : NotMade output areas book_4 12
  pub outcome_5 : MadeTable output areas book_5 36 3 4
  pub outcome_6 : MadeTable output areas book_6 26 2 2
  pub outcome_7 : MadeTable output areas book_7 43 4 5
  pub outcome_8 : made output areas book_8 ≡ made output areas book_5
  pub outcome_9 : NotMade output areas book_9 12
  pub outcome_10 : made output areas book_10 ≡ made output areas book_5
  pub outcome_11 : TurnedDown (table 36 output areas book_5) lent book_1 (byte "e")
