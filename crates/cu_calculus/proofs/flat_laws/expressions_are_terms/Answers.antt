use Rattle.cu_calculus.proofs.FlatTerms.{of_parts, within_any}
use Rattle.cu_calculus.proofs.flat_laws.expressions_are_terms.Goals as goal

pub returns : goal.returns
returns c = record { any_bound = within_any; of_parts = of_parts }
