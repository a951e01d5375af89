use Rattle.std.proofs.Common.{[], ◌∷◌, List, OnOk, subst}
use Rattle.std.specs.List.{All}
use Rattle.cu_syntax.specs.declared.declarations.DeclarationNode.TheVariants as declaration
use Rattle.cu_syntax.specs.declared.name.Name.{Name}
use Rattle.cu_syntax.specs.Owners.{DeclarationNodeIsOf, NameIsOf}
use Rattle.cu_uses.specs.Inside.Blocks.{Gathers}
use Rattle.cu_uses.specs.Gathered.{names_meaning}
use Rattle.cu_uses.proofs.BlockLemmas.{gathers_both}
use Rattle.cu_uses.proofs.FoundLemmas.{on_ok}
use Rattle.cu_uses.proofs.TopLemmas.{top_gathered}
use Rattle.cu_uses.proofs.block.Block.top_declaration.Goals as goal

pub returns-in-FunctionRule : goal.returns-in-FunctionRule
returns-in-FunctionRule c owner names differ is =
    let of = subst (DeclarationNodeIsOf owner names) c.in-FunctionRule.is (c.in_ok-name.ensures.owned owner names is) in
    on_ok c.rule.result
    (top_gathered owner names c.args.d c.in_ok-name.field-0 (declaration.FunctionRule c.in-FunctionRule.field-0 c.in-FunctionRule.name c.in-FunctionRule._parameters c.in-FunctionRule.field-3)
    c.args.self.now c.rule.new.self (c.in_ok-name.ensures.meaning names) c.in-FunctionRule.is)
    (c.rule.ensures owner names differ of.1)

pub returns-in-Signature : goal.returns-in-Signature
returns-in-Signature c owner names differ is =
    let of = subst (DeclarationNodeIsOf owner names) c.in-Signature.is (c.in_ok-name.ensures.owned owner names is) in
    on_ok c.sign.result
    (λ signed. top_gathered owner names c.args.d c.in_ok-name.field-0 (declaration.Signature c.in-Signature.field-0 c.in-Signature.functions c.in-Signature.field-2) c.args.self.now c.sign.new.self
    (c.in_ok-name.ensures.meaning names) c.in-Signature.is (gathers_both (c.other.ensures owner names) signed))
    (subst (λ (xs : List Name). All (NameIsOf owner names) xs → OnOk c.sign.result (Gathers owner names c.other.new.self [] (names_meaning names xs) c.sign.new.self))
    c.as_slice.ensures.value (c.sign.ensures owner names) of.1)

pub returns-in-FreeVariables : goal.returns-in-FreeVariables
returns-in-FreeVariables c owner names differ is =
    top_gathered owner names c.args.d c.in_ok-name.field-0 (declaration.FreeVariables c.in-FreeVariables.field-0 c.in-FreeVariables._variables) c.args.self.now c.other-in-FreeVariables.new.self
    (c.in_ok-name.ensures.meaning names) c.in-FreeVariables.is (c.other-in-FreeVariables.ensures owner names)

pub returns-in-PatternBinding : goal.returns-in-PatternBinding
returns-in-PatternBinding c owner names differ is =
    top_gathered owner names c.args.d c.in_ok-name.field-0 (declaration.PatternBinding c.in-PatternBinding.field-0 c.in-PatternBinding.field-1 c.in-PatternBinding.field-2) c.args.self.now c.other-in-PatternBinding.new.self
    (c.in_ok-name.ensures.meaning names) c.in-PatternBinding.is (c.other-in-PatternBinding.ensures owner names)
