use Rattle.cu_calculus.proofs.TakenMatches.{chosen_selects, earlier_fails, selects_one}
use Rattle.cu_calculus.proofs.laws.taken_alternatives_match.Goals as goal

pub returns : goal.returns
returns c = record { selects = chosen_selects; one = selects_one; earlier = earlier_fails }
