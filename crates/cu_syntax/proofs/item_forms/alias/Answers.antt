-- The name after the word, or none.
use Rattle.std.proofs.Common.{ap, ◌∙◌}
use Rattle.std.specs.Option.{option_map}
use Rattle.cu_syntax.specs.Names.{module_name_meaning}
use Rattle.cu_syntax.specs.Reading.{alias_of}
use Rattle.cu_syntax.specs.SubtreeMeaning.{tree_of}
use Rattle.cu_syntax.specs.Owners.{ModuleNameIsOf}
use Rattle.cu_syntax.proofs.ItemLemmas.{alias_is, optional_none, optional_there}
use Rattle.cu_syntax.proofs.OwnerLemmas.{not_there}
use Rattle.cu_syntax.proofs.item_forms.alias.Goals as goal

pub returns-clause-meaning : goal.returns-clause-meaning
returns-clause-meaning c = λ names.
    let inner = tree_of names c.in_ok-alias.alias in
    let name = module_name_meaning names c.module_name.result in
    optional_there alias_of (tree_of names c.args.tree) inner name (c.in_ok-alias.ensures.tree names)
    (alias_is c.in_ok-alias.alias.symbol inner (tree_of names c.part.result) name c.in_ok-alias.ensures.symbol (c.in_ok-alias.alias.fits names) (c.part.ensures.tree names)
    (c.module_name.ensures.meaning names))

pub returns-in_err-alias-clause-meaning : goal.returns-in_err-alias-clause-meaning
returns-in_err-alias-clause-meaning c = λ names.
    ap (option_map (module_name_meaning names)) c.from_residual.ensures ∙ optional_none alias_of (tree_of names c.args.tree) (c.in_err-alias.ensures.none names)

pub returns-clause-owned : goal.returns-clause-owned
returns-clause-owned c = λ owner names whole. c.module_name.ensures.owned owner names (c.part.ensures.owned owner names (c.in_ok-alias.ensures.owned owner names whole))

pub returns-in_err-alias-clause-owned : goal.returns-in_err-alias-clause-owned
returns-in_err-alias-clause-owned c = λ owner names whole. not_there (ModuleNameIsOf owner names) c.from_residual.result c.from_residual.ensures
