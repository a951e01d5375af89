use Rattle.std.proofs.Common.{Bool, List, refl}
use Rattle.cu_calculus.specs.Answered.{same_value, same_values}
use Rattle.cu_calculus.specs.Value.{Value, values_of}
use Rattle.cu_crwl.proofs.Pairwise.{IsPairwise, lengths_differ}
use Rattle.cu_crwl.proofs.apply.values_are.Goals as goal

abbrev all : List Value → List Value → Bool
all us vs = same_values (values_of us) (values_of vs)

pairs : IsPairwise all same_value
pairs = record { none = refl; more = λ x y xs ys. refl; short = λ x xs. refl; long = λ y ys. refl }

pub returns-then-left-right : goal.returns-then-left-right
returns-then-left-right c = lengths_differ all same_value pairs c.args.left.now c.args.right.now c.if-left-right.true
