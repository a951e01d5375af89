use Rattle.cu_calculus.proofs.Lists.{get_map}
use Rattle.cu_calculus.proofs.ListToRelation.{concluded, each_given}
use Rattle.cu_calculus.proofs.RelationToList.{proved}
use Rattle.cu_calculus.proofs.laws.forms_agree.Goals as goal

pub returns : goal.returns
returns c = record {
  sound = λ program claims statement found. concluded program claims found.0 statement found.1.follows found.2;
  throughout = λ program claims proof k step checks e.
      each_given program claims proof checks.follows k step.statement (get_map (λ s. s.statement) proof k step e);
  complete = λ program claims statement valid claimed of_program given. proved program claims valid claimed statement of_program given;
}
