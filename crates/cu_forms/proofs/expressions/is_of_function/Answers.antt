use Rattle.std.proofs.Common.{◌∙◌, ◌≡◌, ◌<◌, arith, length}
use Rattle.std.proofs.lemmas.Grind.{common_steps}
use Rattle.cu_forms.proofs.DefinitionLemmas.{with_parameters, without_parameters}
use Rattle.cu_forms.proofs.PatternLemmas.{none_in}
use Rattle.cu_forms.proofs.expressions.is_of_function.Goals as goal

pub returns-then-is_empty : goal.returns-then-is_empty
returns-then-is_empty c =
    let size : length c.args.parameters.now ≡ 0 = grind (arith, common_steps, c.is_empty.ensures, c.if-is_empty.true) in
    c.goes_on.ensures ∙ without_parameters c.args.begun c.args.name.text c.args.parameters.now (none_in c.args.parameters.now size)

pub returns : goal.returns
returns c =
    let some : 0 < length c.args.parameters.now = grind (arith, common_steps, c.is_empty.ensures, c.if-is_empty.false) in
    with_parameters c.args.begun c.args.name.text c.args.parameters.now some
