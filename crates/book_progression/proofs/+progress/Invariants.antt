use Rattle.book_progression.proofs.+progress.Given as goal

abbrev pub decreases-progress : goal.decreases-progress
decreases-progress l = l.k
