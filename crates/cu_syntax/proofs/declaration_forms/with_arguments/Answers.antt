-- The further parameters stand after the others.
use Rattle.std.proofs.Common.{ap, subst, sym}
use Rattle.cu_syntax.specs.declared.declaration_forms.Left.{Left}
use Rattle.cu_syntax.specs.Declarations.{left_meaning}
use Rattle.cu_syntax.specs.Owners.{LeftIsOf, PatternIsOf}
use Rattle.cu_syntax.proofs.DeclarationLemmas.{added_parameters}
use Rattle.cu_syntax.proofs.OwnerLemmas.{all_joined}
use Rattle.cu_syntax.proofs.declaration_forms.with_arguments.Goals as goal

pub returns-in-Function-clause-meaning : goal.returns-in-Function-clause-meaning
returns-in-Function-clause-meaning c = λ names.
    added_parameters names c.args.left c.in-Function.name c.in-Function.parameters.items c.as_slice.result.now c.extend_from_slice.new.self.items c.args.arguments.items
    (sym (ap (λ (l : Left). left_meaning names l) c.in-Function.is)) c.in_ok-extend_from_slice-in-Function.ensures.items c.as_slice.ensures.value

pub returns-in-Function-clause-owned : goal.returns-in-Function-clause-owned
returns-in-Function-clause-owned c = λ owner names whole. λ further.
    let parts = subst (LeftIsOf owner names) c.in-Function.is whole in (
      parts.0,
      all_joined (PatternIsOf owner names) c.in-Function.parameters.items c.args.arguments.items c.as_slice.result.now c.extend_from_slice.new.self.items
          c.in_ok-extend_from_slice-in-Function.ensures.items c.as_slice.ensures.value parts.1 further,
    )

pub returns-clause-owned : goal.returns-clause-owned
returns-clause-owned c = λ owner names whole. λ further. subst (LeftIsOf owner names) c.in-Pattern.is whole
