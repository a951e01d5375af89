use Rattle.std.proofs.Common.{[], ◌∷◌, List, OnOk, ap, not, refl, subst, sym, ◌∙◌}
use Rattle.std.specs.List.{All}
use Rattle.cu_syntax.specs.declared.declarations.DeclarationNode.TheVariants as declaration
use Rattle.cu_syntax.specs.declared.name.Name.{Name}
use Rattle.cu_syntax.specs.Names.{name_meaning}
use Rattle.cu_syntax.specs.Owners.{DeclarationNodeIsOf, NameIsOf}
use Rattle.cu_uses.specs.Binders.{Names, Rule}
use Rattle.cu_uses.specs.Inside.Blocks.{Gathers}
use Rattle.cu_uses.specs.Gathered.{names_meaning}
use Rattle.cu_uses.proofs.BlockLemmas.{declaration_gathered, gathers_both, with_parameters}
use Rattle.cu_uses.proofs.FoundLemmas.{on_ok}
use Rattle.cu_uses.proofs.block.Block.declaration.Goals as goal

pub returns-in-FreeVariables : goal.returns-in-FreeVariables
returns-in-FreeVariables c owner names differ is =
    let of = subst (DeclarationNodeIsOf owner names) c.in-FreeVariables.is (c.in_ok-variables.ensures.owned owner names is) in
    on_ok c.names.result
    (declaration_gathered owner names c.args.d c.in_ok-variables.field-0 (declaration.FreeVariables c.in-FreeVariables.field-0 c.in-FreeVariables.variables) c.args.self.now c.names.new.self
    (c.in_ok-variables.ensures.meaning names) c.in-FreeVariables.is)
    (subst (λ (xs : List Name). All (NameIsOf owner names) xs → OnOk c.names.result (Gathers owner names c.args.self.now (Names (names_meaning names xs) ∷ []) [] c.names.new.self))
    c.as_slice.ensures.value (c.names.ensures owner names) of.1)

pub returns-in-Signature : goal.returns-in-Signature
returns-in-Signature c owner names differ is =
    let of = subst (DeclarationNodeIsOf owner names) c.in-Signature.is (c.in_ok-variables.ensures.owned owner names is) in
    on_ok c.sign.result
    (λ signed. declaration_gathered owner names c.args.d c.in_ok-variables.field-0 (declaration.Signature c.in-Signature.field-0 c.in-Signature.functions c.in-Signature.field-2) c.args.self.now c.sign.new.self
    (c.in_ok-variables.ensures.meaning names) c.in-Signature.is (gathers_both (c.other.ensures owner names) signed))
    (subst (λ (xs : List Name). All (NameIsOf owner names) xs → OnOk c.sign.result (Gathers owner names c.other.new.self [] (names_meaning names xs) c.sign.new.self))
    c.as_slice-in-Signature.ensures.value (c.sign.ensures owner names) of.1)

pub returns-in-FunctionRule : goal.returns-in-FunctionRule
returns-in-FunctionRule c owner names differ is =
    let of = subst (DeclarationNodeIsOf owner names) c.in-FunctionRule.is (c.in_ok-variables.ensures.owned owner names is) in
    on_ok c.rule.result
    (λ gathered. declaration_gathered owner names c.args.d c.in_ok-variables.field-0 (declaration.FunctionRule c.in-FunctionRule.field-0 c.in-FunctionRule.name c.in-FunctionRule.parameters c.in-FunctionRule.field-3)
    c.args.self.now c.rule.new.self (c.in_ok-variables.ensures.meaning names) c.in-FunctionRule.is
    (subst (λ g. Gathers owner names c.args.self.now (Rule g (name_meaning names c.in-FunctionRule.name) ∷ []) [] c.rule.new.self)
    (with_parameters names c.as_slice-in-FunctionRule.result.now c.in-FunctionRule.parameters.items c.is_empty.result c.as_slice-in-FunctionRule.ensures.value c.is_empty.ensures) gathered))
    (c.rule.ensures owner names differ of.1)

pub returns-in-PatternBinding : goal.returns-in-PatternBinding
returns-in-PatternBinding c owner names differ is =
    let of = subst (DeclarationNodeIsOf owner names) c.in-PatternBinding.is (c.in_ok-variables.ensures.owned owner names is) in
    on_ok c.bind.result
    (declaration_gathered owner names c.args.d c.in_ok-variables.field-0 (declaration.PatternBinding c.in-PatternBinding.field-0 c.in-PatternBinding.p c.in-PatternBinding.field-2) c.args.self.now c.bind.new.self
    (c.in_ok-variables.ensures.meaning names) c.in-PatternBinding.is)
    (c.bind.ensures owner names differ of.1)
