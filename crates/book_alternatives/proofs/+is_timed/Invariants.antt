use Rattle.book_alternatives.proofs.+is_timed.Given as goal

abbrev pub decreases-is_timed : goal.decreases-is_timed
decreases-is_timed l = l.k
