-- The customer's letter, demands 1 to 3, and items 2 and 3 of 02, each sentence above its theorems. They are about the outcomes on bytes with which the
-- contracts of the entries are equations: `read_outcome`, `make_outcome`, `check_outcome`, `follow_outcome` and `log_outcome`. The words are those
-- of crate `logic`; nothing here speaks of how an answer is found. Where the other words stand, in specs/ here:
--   `FitFiles`, `FitTable`, `MadeCall`: Calls · the right answer of each entry: RightAnswer, with `FirstReason` in VerdictRight · what holds of every
--   call: EveryCall · what an answer shows: Shown · `MoreThan`, `GivesOver` and what is reached: Reached · the follower: FollowChain · the log: LoggedRun ·
--   what was answered before 02, item 3: Before.
-- Numbers and places of answers are in base/specs/Answers.antt. The proofs are in Answering.antt, Refusals.antt, Following.antt, Logs.antt
-- and Before.antt.
use Prim.Native.Nat.{ℕ, ◌≤◌}
use mathlib.Core.Path.{◌≡◌, sym, ◌∙◌, subst}
use mathlib.Core.Logic.{◌↔◌, ◌⊎◌}
use mathlib.Core.Bool.{true}
use mathlib.Core.List.{List}
use lib.ListN.{length}
use Rattle.base.specs.Bytes.{long_enough}
use Rattle.base.specs.Answers.{book_said, make_said, verdict_said, follow_said, log_said, Answer, ◌then◌}
use Rattle.std.specs.Prelude.{Ok}
use Rattle.base.specs.declared.Reason.{Reason}
use Rattle.base.specs.declared.Refusal.{Refusal}
use Rattle.base.specs.declared.Refusal.TheVariants.{Pairs, NoTable, Area, Alternatives}
use Rattle.base.specs.Answers.{BookAnswer, FollowAnswer, LogAnswer, MakeAnswer, Verdict, book_of_size}
use Rattle.std.specs.Prelude.{Err}
use Rattle.base.specs.declared.Rejection.TheVariants as Rejected
use Rattle.base.specs.declared.LogEnd.TheVariants as Ends
use Rattle.logic.specs.Tower.{Tower, layout_of, most_marks}
use Rattle.logic.specs.Book.{Book, nodes}
use Rattle.logic.specs.Sides.{OneSided}
use Rattle.logic.specs.Tables.{Table, rows_tower, Allows, Good, GoodAllow}
use Rattle.logic.specs.TableFile.{table_file}
use Rattle.reading.specs.BookReading.{read_book}
use Rattle.reading.specs.LogReading.{read_log}
use Rattle.reading.specs.LogSpelling.{RightLog}
use Rattle.reading.specs.declared.Stroke.{Stroke}
use Rattle.reading.proofs.LogRight.{log_exactly}
use Rattle.reading.specs.TableReading.{laid_out, table_of}
use Rattle.alternatives.specs.Pairs.{most_pairs}
use Rattle.outcome.specs.Areas.{book_areas, make_areas, check_areas}
use Rattle.outcome.specs.ReadBook.{read_outcome}
use Rattle.outcome.specs.Make.{made_file, make_outcome}
use Rattle.outcome.specs.Check.{Finding, verdict, checked_file, check_outcome}
use Rattle.outcome.specs.Follow.{follow_outcome}
use Rattle.outcome.specs.Log.{log_outcome}
use Rattle.outcome.specs.Reached.{ReachedPair, ReachedItem, MoreThan, GivesOver}
use Rattle.outcome.specs.VerdictRight.{FirstReason}
use Rattle.outcome.specs.Calls.{FitFiles, FitTable, MadeCall}
use Rattle.outcome.specs.Before.{MadeBefore, JudgedBefore}
use Rattle.outcome.specs.EveryCall.{book_numbers, make_numbers, check_numbers, follow_numbers, log_numbers, RefusesWith, AreasRight}
use Rattle.outcome.specs.FollowChain.{FollowsTo, Chain}
use Rattle.outcome.specs.RightAnswer.{RightRead, read_given, RightMake, make_pairs, make_wide, make_none, RightCheck, check_judged, RightFollow, RightLogged}
use Rattle.outcome.specs.Shown.{HoldsGood, NoneGood, TooManyPairs, TooManyAlternatives, MadeWell, EqualExactly, FewestRows, MakesTable, FinalRow, NamedLine, LogUnbroken}
use Rattle.outcome.proofs.CallLaws.{accepted_call}
use Rattle.outcome.proofs.Refusals as Refusals
use Rattle.outcome.proofs.Answering as Answering
use Rattle.outcome.proofs.Following as Following
use Rattle.outcome.proofs.Logs as Logs
use Rattle.outcome.proofs.Before as Before

-- ---- 1. 'Where a tower file, rule book, table, row, action or lent area is not fit to use, the call refuses with the number that our paper
-- gives;'

-- 01: 'A number is given when its condition holds and nothing before it in the order does, and never else.' The answer is x exactly if x is the
-- right one of the cases in specs/RightAnswer.antt, which stand in the paper's order.
pub reads_exactly : (marks : ℕ) (text : List ℕ) (areas : List (List ℕ)) (x : BookAnswer)
    → ((read_outcome marks text areas).answer ≡ x) ↔ RightRead marks text areas x
reads_exactly marks text areas x =
    (λ e. subst (RightRead marks text areas) e (Answering.read_right marks text areas), Answering.read_only marks text areas x)

pub makes_exactly : (tower_file text output : List ℕ) (areas : List (List ℕ)) (x : MakeAnswer)
    → ((make_outcome tower_file text output areas).answer ≡ x) ↔ RightMake tower_file text output areas x
makes_exactly tower_file text output areas x = (
  λ e. subst (RightMake tower_file text output areas) e (Answering.make_right tower_file text output areas),
  Answering.make_only tower_file text output areas x,
)

pub checks_exactly : (tower_file text file : List ℕ) (areas : List (List ℕ)) (x : Verdict)
    → ((check_outcome tower_file text file areas).answer ≡ x) ↔ RightCheck tower_file text file areas x
checks_exactly tower_file text file areas x = (
  λ e. subst (RightCheck tower_file text file areas) e (Answering.check_right tower_file text file areas),
  Answering.check_only tower_file text file areas x,
)

pub follows_exactly : (file : List ℕ) (row action : ℕ) (x : FollowAnswer) → (follow_outcome file row action ≡ x) ↔ RightFollow file row action x
follows_exactly file row action x = (
  λ e. subst (RightFollow file row action) e (Following.follow_right file row action),
  Following.follow_only file row action x,
)

-- 15 is answered exactly if an area is too short, and then every area is as it was. In every other case every area is zero over its whole length.
pub read_areas_right : (marks : ℕ) (text : List ℕ) (areas : List (List ℕ))
    → AreasRight book_areas areas ((read_outcome marks text areas).answer ≡ Err Area) (read_outcome marks text areas).areas
read_areas_right marks text areas = Refusals.book_areas_right marks text areas

pub make_areas_right : (tower_file text output : List ℕ) (areas : List (List ℕ))
    → AreasRight make_areas areas ((make_outcome tower_file text output areas).answer ≡ Err Area) (make_outcome tower_file text output areas).areas
make_areas_right tower_file text output areas = Refusals.make_areas_right tower_file text output areas

pub check_areas_right : (tower_file text file : List ℕ) (areas : List (List ℕ))
    → AreasRight check_areas areas ((check_outcome tower_file text file areas).answer ≡ Err (Rejected.Refused Area)) (check_outcome tower_file text file areas).areas
check_areas_right tower_file text file areas = Refusals.check_areas_right tower_file text file areas

-- No entry refuses with a number that the paper does not list for it.
pub read_refuses : (marks : ℕ) (text : List ℕ) (areas : List (List ℕ)) → RefusesWith book_numbers (book_said (read_outcome marks text areas).answer)
read_refuses marks text areas = Refusals.book_refuses marks text areas

pub make_refuses : (tower_file text output : List ℕ) (areas : List (List ℕ))
    → RefusesWith make_numbers (make_said (make_outcome tower_file text output areas).answer)
make_refuses tower_file text output areas = Refusals.make_refuses tower_file text output areas

pub check_refuses : (tower_file text file : List ℕ) (areas : List (List ℕ))
    → RefusesWith check_numbers (verdict_said (check_outcome tower_file text file areas).answer)
check_refuses tower_file text file areas = Refusals.check_refuses tower_file text file areas

pub follow_refuses : (file : List ℕ) (row action : ℕ) → RefusesWith follow_numbers (follow_said (follow_outcome file row action))
follow_refuses file row action = Refusals.follow_refuses file row action

-- 'if it is fit and within the stated sizes, the call answers.'

-- the book reader: the numbers of lines and nodes
pub reads : (marks : ℕ) (text : List ℕ) (areas : List (List ℕ)) (book : Book) → marks ≤ most_marks → read_book marks text ≡ Ok book
    → long_enough book_areas areas ≡ true → (read_outcome marks text areas).answer ≡ book_of_size (length book) (length (nodes book))
reads marks text areas book few e enough = Answering.read_only marks text areas _ (read_given enough few book e)

-- the maker: with pairs that count no more than 1,000, of which none gives over 16 alternatives, and some good table it makes one, and says 16
-- exactly where the output is shorter
pub makes : (tower_file text : List ℕ) (tower : Tower) (book : Book) → FitFiles tower_file text tower book
    → (MoreThan most_pairs (ReachedPair tower book) → ⊥) → (GivesOver tower book → ⊥) → (table : Table) → Good tower book table
    → MakesTable tower_file text tower book
makes tower_file text tower book fit few narrow table good = Answering.makes tower_file text tower book fit few narrow table good

-- the checker: with rows with what is pending that count no more than 1,000, of which none gives over 16 alternatives, it says that the table is
-- good, or the reason why not
pub checks : (tower_file text file : List ℕ) (areas : List (List ℕ)) (tower : Tower) (book : Book) (table : Table)
    → FitFiles tower_file text tower book → FitTable tower file table → long_enough check_areas areas ≡ true
    → (MoreThan most_pairs (ReachedItem tower book table) → ⊥) → (GivesOver (rows_tower tower table) book → ⊥)
    → ((check_outcome tower_file text file areas).answer ≡ Ok tt)
    ⊎ ((why : Reason) × ((check_outcome tower_file text file areas).answer ≡ Err (Rejected.NotGood why)))
checks tower_file text file areas tower book table fit laid enough few narrow =
    Answering.checks tower_file text file areas tower book table fit laid enough few narrow

-- the follower: it answers row s exactly if the file is laid out, row and action lie inside, and the table allows that action there with
-- target row s
pub follows : (file : List ℕ) (row action s : ℕ) → (follow_outcome file row action ≡ Ok s) ↔ FollowsTo file row action s
follows file row action s = (Following.follows_out file row action s, Following.follows_in file row action s)

-- and a chain of its answers from row 0 on is a run that the table allows, each such run being a chain
pub follows_runs : (file : List ℕ) → laid_out file ≡ true → (w : List ℕ) → ((s : ℕ) × Chain file 0 w s) ↔ Allows (table_of file) w
follows_runs file laid w = Following.chain_iff file laid w

-- 'Every call ends.' The outcomes are functions, defined for every input, and each function of the code is proved to end in its outcome.
-- 'A refusal changes no byte of the output,' The maker is the only entry with an output.

pub refusal_keeps_output : (tower_file text output : List ℕ) (areas : List (List ℕ)) (r : Refusal)
    → (make_outcome tower_file text output areas).answer ≡ Err r → (make_outcome tower_file text output areas).output ≡ output
refusal_keeps_output tower_file text output areas r e = Refusals.make_keeps_output tower_file text output areas r e

-- 'and no entry relies on its caller to have tested anything.' No entry's contract has a `requires`. Nor does an entry rely on what areas and
-- output hold before the call: the answer depends on how long they are alone, and the bytes of a made table do not depend on them at all.

pub same_read : (marks : ℕ) (text : List ℕ) (areas lent : List (List ℕ)) → long_enough book_areas areas ≡ true → long_enough book_areas lent ≡ true
    → (read_outcome marks text areas).answer ≡ (read_outcome marks text lent).answer
same_read marks text areas lent enough lent_enough =
    (Refusals.book_enough marks text areas enough).0 ∙ sym (Refusals.book_enough marks text lent lent_enough).0

pub same_check : (tower_file text file : List ℕ) (areas lent : List (List ℕ)) → long_enough check_areas areas ≡ true
    → long_enough check_areas lent ≡ true → (check_outcome tower_file text file areas).answer ≡ (check_outcome tower_file text file lent).answer
same_check tower_file text file areas lent enough lent_enough =
    (Refusals.check_enough tower_file text file areas enough).0 ∙ sym (Refusals.check_enough tower_file text file lent lent_enough).0

pub same_make : (tower_file text output other : List ℕ) (areas lent : List (List ℕ)) → long_enough make_areas areas ≡ true
    → long_enough make_areas lent ≡ true → length output ≡ length other
    → (make_outcome tower_file text output areas).answer ≡ (make_outcome tower_file text other lent).answer
same_make tower_file text output other areas lent enough lent_enough same =
    Refusals.make_same_answer tower_file text output other areas lent enough lent_enough same

pub same_made : (tower_file text : List ℕ) (n m : ℕ) (file other_file : List ℕ) → MadeCall tower_file text n file
    → MadeCall tower_file text m other_file → (n ≡ m) × (file ≡ other_file)
same_made tower_file text n m file other_file call other_call =
    Answering.same_made tower_file text n m file other_file call other_call

-- ---- 2. 'The checking end accepts a table, whoever made it, only if it is good by the metric temporal logic of the paper,'

pub accepts_only_good : (tower_file text file : List ℕ) (areas : List (List ℕ)) → (check_outcome tower_file text file areas).answer ≡ Ok tt
    → HoldsGood tower_file text file
accepts_only_good tower_file text file areas e = Answering.accepted_holds tower_file text file (accepted_call tower_file text file areas e)

-- 'and turns down a good one only for the stated size.' 02, item 3: 'with 20 beside 11 as a refusal for size.'

pub good_or_size : (tower_file text file : List ℕ) (areas : List (List ℕ)) → long_enough check_areas areas ≡ true
    → (holds : HoldsGood tower_file text file)
    → ((check_outcome tower_file text file areas).answer ≡ Ok tt)
    ⊎ ((((check_outcome tower_file text file areas).answer ≡ Err (Rejected.Refused Pairs))
    × MoreThan most_pairs (ReachedItem holds.tower holds.book holds.table))
    ⊎ (((check_outcome tower_file text file areas).answer ≡ Err (Rejected.Refused Alternatives))
    × GivesOver (rows_tower holds.tower holds.table) holds.book))
good_or_size tower_file text file areas enough holds = Answering.good_or_size tower_file text file areas enough holds

-- The checker's answer in full: on fit files it is the first reason that holds, and no other.

pub checker_says : (tower_file text file : List ℕ) (areas : List (List ℕ)) (tower : Tower) (book : Book) (table : Table)
    → FitFiles tower_file text tower book → FitTable tower file table → long_enough check_areas areas ≡ true → (o : Answer Finding)
    → FirstReason tower book table o → (check_outcome tower_file text file areas).answer ≡ verdict o
checker_says tower_file text file areas tower book table fit laid enough o first =
    Answering.check_only tower_file text file areas _ (check_judged enough tower book table fit laid o first)

-- 'The making end refuses for want of a table only if no good table of any length exists,'

pub none_exists : (tower_file text output : List ℕ) (areas : List (List ℕ))
    → (make_outcome tower_file text output areas).answer ≡ Err NoTable → NoneGood tower_file text
none_exists tower_file text output areas e = Answering.none_exists tower_file text output areas e

-- 'and for size only beyond the 1,000 pairs of our paper,' or with 20 beyond the 16 alternatives of 02, item 3.

pub beyond_size : (tower_file text output : List ℕ) (areas : List (List ℕ))
    → (make_outcome tower_file text output areas).answer ≡ Err Pairs → TooManyPairs tower_file text
beyond_size tower_file text output areas e = Answering.beyond_size tower_file text output areas e

pub beyond_alternatives : (tower_file text output : List ℕ) (areas : List (List ℕ))
    → (make_outcome tower_file text output areas).answer ≡ Err Alternatives → TooManyAlternatives tower_file text
beyond_alternatives tower_file text output areas e = Answering.beyond_alternatives tower_file text output areas e

-- All three exactly: with areas that are long enough, each is said wherever its condition holds and nothing before it does.

pub says_beyond_size : (tower_file text output : List ℕ) (areas : List (List ℕ)) → long_enough make_areas areas ≡ true
    → TooManyPairs tower_file text → (make_outcome tower_file text output areas).answer ≡ Err Pairs
says_beyond_size tower_file text output areas enough over =
    Answering.make_only tower_file text output areas _ (make_pairs enough over.tower over.book over.fit over.many)

pub says_beyond_alternatives : (tower_file text output : List ℕ) (areas : List (List ℕ)) → long_enough make_areas areas ≡ true
    → TooManyAlternatives tower_file text → (make_outcome tower_file text output areas).answer ≡ Err Alternatives
says_beyond_alternatives tower_file text output areas enough over =
    Answering.make_only tower_file text output areas _ (make_wide enough over.tower over.book over.fit over.few over.wide)

pub says_none_exists : (tower_file text output : List ℕ) (areas : List (List ℕ)) → long_enough make_areas areas ≡ true
    → (lost : NoneGood tower_file text) → (MoreThan most_pairs (ReachedPair lost.tower lost.book) → ⊥)
    → (GivesOver lost.tower lost.book → ⊥) → (make_outcome tower_file text output areas).answer ≡ Err NoTable
says_none_exists tower_file text output areas enough lost few narrow =
    Answering.make_only tower_file text output areas _ (make_none enough lost.tower lost.book lost.fit few narrow lost.no_table)

-- 'What it makes is accepted, and allows every run that any good table allows.'

pub makes_well : (tower_file text : List ℕ) (n : ℕ) (file : List ℕ) → MadeCall tower_file text n file → MadeWell tower_file text n file
makes_well tower_file text n file call = Answering.makes_well tower_file text n file call

pub just_the_runs : (tower_file text : List ℕ) (n : ℕ) (file : List ℕ) (well : MadeWell tower_file text n file) (w : List ℕ)
    → Allows (table_of file) w ↔ GoodAllow well.tower well.book w
just_the_runs tower_file text n file well w = Answering.just_the_runs tower_file text n file well w

-- ---- 3. 'Take one and the same tower and any two rule books, and let a table be made from each without refusal, whatever the lent areas held
-- before. Each table allows just the runs that good tables allow under its book, and has the rows of our paper.' This is
-- `just_the_runs` and `makes_well` of each, whose field `made` is the made table of the logic.
-- 'The two are of one length and equal in every byte exactly when every run that some good table allows under the one book is allowed by some
-- good table under the other, and the other way round.'

pub same_bytes : (tower_file text other_text : List ℕ) (n m : ℕ) (file other_file : List ℕ) → MadeCall tower_file text n file
    → MadeCall tower_file other_text m other_file → EqualExactly tower_file text other_text n m file other_file
same_bytes tower_file text other_text n m file other_file call other_call =
    Answering.same_bytes tower_file text other_text n m file other_file call other_call

-- 'And every other good table for that tower, under either book and of any length, that allows just the runs of a made one has no fewer rows
-- than the header of the made one gives.'

pub fewest_rows : (tower_file text : List ℕ) (n : ℕ) (file : List ℕ) → MadeCall tower_file text n file → FewestRows tower_file file
fewest_rows tower_file text n file call = Answering.fewest_rows tower_file text n file call

-- ---- 02, item 2, the log reader: 'I want my Monday log held against the table.' Its outcome is `log_outcome`.

-- 'A log is text: each line is a tick of 1 to 10 decimal digits (up to 4,294,967,295), one space, an action number in one or two digits, and
-- byte 10.' A text is read as these lines, or refused with 19 at this line, exactly if the rules of reading/specs/LogSpelling.antt say so.
pub log_spelled : (log : List ℕ) (o : Answer (List Stroke)) → (read_log log ≡ o) ↔ RightLog log o
log_spelled log o = log_exactly log o

-- 'The tower and table are tested first, in the checker's order through 14 d, without a book. It refuses with 19, after those, a log of which some
-- line is not of this form; the place is the first such line, from 0.' The answer is x exactly if x is the right one of the cases in
-- specs/RightAnswer.antt, which stand in this order.
pub logs_exactly : (tower_file file log : List ℕ) (x : LogAnswer) → (log_outcome tower_file file log ≡ x) ↔ RightLogged tower_file file log x
logs_exactly tower_file file log x =
    (λ e. subst (RightLogged tower_file file log) e (Logs.log_right tower_file file log), Logs.log_only tower_file file log x)

pub log_refuses : (tower_file file log : List ℕ) → RefusesWith log_numbers (log_said (log_outcome tower_file file log))
log_refuses tower_file file log = Refusals.log_refuses tower_file file log

-- 'The answer is the number, from 0, of the first line whose action the table does not allow or whose tick is not the previous line's plus the
-- previous action's length (sums never wrap),' The lines before it are a run that the table allows, with right ticks, and with it they are none.
-- 'An action outside the table counts as not allowed.' No run has one.
pub named_line : (tower_file file log : List ℕ) (k : ℕ)
    → (log_outcome tower_file file log ≡ Ok (Ends.Line k)) ↔ NamedLine tower_file file log k
named_line tower_file file log k = Logs.named_line tower_file file log k

-- 'or the final row. The first tick is free.'
pub final_row : (tower_file file log : List ℕ) (r : ℕ) → (log_outcome tower_file file log ≡ Ok (Ends.Row r)) ↔ FinalRow tower_file file log r
final_row tower_file file log r = Logs.final_row tower_file file log r

-- Along a table that was accepted or made, a log that fits breaks no rule of the book, nor does any beginning of it; and where a line does not fit,
-- the lines before it broke none.
pub accepted_log_unbroken : (tower_file text file log : List ℕ) (areas : List (List ℕ)) (r : ℕ)
    → (check_outcome tower_file text file areas).answer ≡ Ok tt → log_outcome tower_file file log ≡ Ok (Ends.Row r)
    → (n : ℕ) → LogUnbroken tower_file text log n
accepted_log_unbroken tower_file text file log areas r accepted e n =
    Logs.fits_unbroken tower_file text file log (accepts_only_good tower_file text file areas accepted) r e n

pub accepted_log_unbroken_before : (tower_file text file log : List ℕ) (areas : List (List ℕ)) (k : ℕ)
    → (check_outcome tower_file text file areas).answer ≡ Ok tt → log_outcome tower_file file log ≡ Ok (Ends.Line k)
    → LogUnbroken tower_file text log k
accepted_log_unbroken_before tower_file text file log areas k accepted e =
    Logs.before_unbroken tower_file text file log (accepts_only_good tower_file text file areas accepted) k e

pub made_log_unbroken : (tower_file text : List ℕ) (m : ℕ) (file log : List ℕ) (r : ℕ) → MadeCall tower_file text m file
    → log_outcome tower_file file log ≡ Ok (Ends.Row r) → (n : ℕ) → LogUnbroken tower_file text log n
made_log_unbroken tower_file text m file log r call e n =
    Logs.fits_unbroken tower_file text file log (Answering.made_holds tower_file text m file call) r e n

pub made_log_unbroken_before : (tower_file text : List ℕ) (m : ℕ) (file log : List ℕ) (k : ℕ) → MadeCall tower_file text m file
    → log_outcome tower_file file log ≡ Ok (Ends.Line k) → LogUnbroken tower_file text log k
made_log_unbroken_before tower_file text m file log k call e =
    Logs.before_unbroken tower_file text file log (Answering.made_holds tower_file text m file call) k e

-- ---- 02, item 3: 'Good, largest and equal tables are meant over the wider books too, with 20 beside 11 as a refusal for size.' The theorems above
-- are over these books.

-- 'Books without two timed sides give the bytes they gave.' There is an answer that was given for them before, with the table of it, and it is
-- the one that is given now.
pub some_made_before : (tower_file text : List ℕ) (tower : Tower) (book : Book) → FitFiles tower_file text tower book → OneSided book
    → (o : Answer Table) × MadeBefore tower book o
some_made_before tower_file text tower book fit sided = Before.some_made_before tower_file text tower book fit sided

pub made_as_before : (tower_file text : List ℕ) (tower : Tower) (book : Book) → FitFiles tower_file text tower book → OneSided book
    → (o : Answer Table) → MadeBefore tower book o
    → made_file tower_file text ≡ (o then λ table. Ok (table_file (layout_of tower_file) tower.states tower.actions table))
made_as_before tower_file text tower book fit sided o before = Before.made_as_before tower_file text tower book fit sided o before

-- So it is with what the checker says.
pub some_judged_before : (tower_file text file : List ℕ) (tower : Tower) (book : Book) (table : Table) → FitFiles tower_file text tower book
    → FitTable tower file table → OneSided book → (o : Answer Finding) × JudgedBefore tower book table o
some_judged_before tower_file text file tower book table fit laid sided =
    Before.some_judged_before tower_file text file tower book table fit laid sided

pub judged_as_before : (tower_file text file : List ℕ) (tower : Tower) (book : Book) (table : Table) → FitFiles tower_file text tower book
    → FitTable tower file table → OneSided book → (o : Answer Finding) → JudgedBefore tower book table o → checked_file tower_file text file ≡ o
judged_as_before tower_file text file tower book table fit laid sided o before =
    Before.judged_as_before tower_file text file tower book table fit laid sided o before
