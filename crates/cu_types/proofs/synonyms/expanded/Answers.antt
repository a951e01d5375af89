use Rattle.std.proofs.Common.{◌∙◌}
use Rattle.cu_types.proofs.synonyms.expanded.Goals as goal

pub returns : goal.returns
returns c = c.into_shared.ensures ∙ c.in_ok-place.ensures.read.value
