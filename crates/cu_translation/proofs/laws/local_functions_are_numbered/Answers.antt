use Rattle.cu_translation.proofs.Places.{places_are}
use Rattle.cu_translation.proofs.laws.local_functions_are_numbered.Goals as goal

pub returns : goal.returns
returns c = places_are
