use Rattle.cu_laws.proofs.NeededValues.{dead_never, needed_known}
use Rattle.cu_laws.proofs.completeness.needed_nodes_have_values.Goals as goal

pub returns : goal.returns
returns c = record { rewritten = needed_known; dead = dead_never }
