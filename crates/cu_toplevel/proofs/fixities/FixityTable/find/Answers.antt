use Rattle.std.proofs.Common.{◌∙◌, Option, ap, sym}
use Rattle.std.specs.Option.{option_copied, unwrap_or}
use Rattle.cu_fixity.specs.Pieces.{undeclared}
use Rattle.cu_toplevel.specs.declared.fixities.ModuleFixities.{ModuleFixities}
use Rattle.cu_toplevel.specs.FixityTables.{fixity_there}
use Rattle.cu_toplevel.proofs.fixities.FixityTable.find.Goals as goal

pub returns : goal.returns
returns c = λ names modules known_owner known_name has.
    let found = sym (ap (λ o. option_copied o) c.in-Some.is) ∙ c.get.ensures.value in
    c.found_or.ensures ∙ ap (λ o. unwrap_or o undeclared) c.get-2.ensures.value
    ∙ ap (λ (o : Option ModuleFixities). unwrap_or (fixity_there o c.args.name) undeclared) found
    ∙ ap (λ o. unwrap_or o undeclared) (has.gives.each c.args.owner c.args.name known_owner known_name)
