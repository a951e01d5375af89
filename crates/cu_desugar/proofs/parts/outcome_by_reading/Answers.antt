use Rattle.std.proofs.Common.{List, subst, sym}
use Rattle.cu_modules.specs.Ordering.{module_of}
use Rattle.cu_modules.specs.Scopes.{Named}
use Rattle.cu_translation.specs.Numbered.{groups_in}
use Rattle.cu_desugar.specs.declared.texts.FunctionText.{FunctionText}
use Rattle.cu_desugar.specs.Inside.Texts.{AreTexts}
use Rattle.cu_desugar.proofs.parts.outcome_by_reading.Goals as goal

pub returns : goal.returns
returns c t modules r reads entities is owned =
    let found = c.as_mut_slice-texts.result.now in
    let texts = subst (λ (n : Named). AreTexts t (groups_in n) found) (sym is)
    (subst (λ (xs : List FunctionText). AreTexts t (groups_in (module_of t.names c.args.module.now)) xs) (sym c.as_mut_slice-texts.ensures.value) (c.in_ok-written.ensures t owned)) in
    c.reading_outcome.ensures t modules r reads entities texts
