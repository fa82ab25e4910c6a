use Rattle.tokens.proofs.parts.+numbers.Given as goal

abbrev pub decreases-numbers : goal.decreases-numbers
decreases-numbers l = l.most
