use Rattle.book_alternatives.proofs.+offer.Given as goal

abbrev pub decreases-offer : goal.decreases-offer
decreases-offer l = l.k
