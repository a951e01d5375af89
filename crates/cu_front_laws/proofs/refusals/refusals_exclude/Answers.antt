use Rattle.cu_front_laws.proofs.OneRefusal.{Laws, none_refused, one_program, one_refusal}
use Rattle.cu_front_laws.proofs.refusals.refusals_exclude.Goals as goal

pub returns : goal.returns
returns c =
    let laws : Laws = record {
      interfaces = c.interfaces_agree.ensures;
      exclude = c.answers_exclude.ensures;
      faults = c.faults_agree.ensures;
      flat = c.lowering_is_a_function.ensures;
    } in
    record {
      refusals = λ names program r s one two. one_refusal laws program names r s one two;
      runs = λ names program interface flat r runs refused. none_refused laws program names interface flat r runs refused;
      programs = λ program i j flat other one two. one_program laws program i j flat other one two;
    }
