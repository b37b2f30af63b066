use Rattle.book_progression.proofs.+holds.Given as goal

abbrev pub decreases-holds : goal.decreases-holds
decreases-holds l = l.k
