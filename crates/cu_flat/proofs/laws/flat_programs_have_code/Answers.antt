use Rattle.cu_flat.proofs.LaidProgram.{laid-same, laid-well_formed}
use Rattle.cu_flat.proofs.Ordering.{laid-after}
use Rattle.cu_flat.proofs.laws.flat_programs_have_code.Goals as goal

pub returns : goal.returns
returns c = record { well_formed = laid-well_formed; same = laid-same; ordered = laid-after }
