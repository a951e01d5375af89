use Rattle.cu_syntax.proofs.PlacesRise as rises
use Rattle.cu_syntax.proofs.laws.places_rise.Goals as goal

pub returns : goal.returns
returns c = rises.places_rise
