use Rattle.std.proofs.Common.{None, Some, List, [], OnOk, refl, subst}
use Rattle.std.specs.List.{All}
use Rattle.cu_lex.specs.Reading.{position_of}
use Rattle.cu_syntax.specs.declared.declarations.DeclarationNode.TheVariants as declaration
use Rattle.cu_syntax.specs.declared.name.Name.{Name}
use Rattle.cu_syntax.specs.declared.patterns.Pattern.{Pattern}
use Rattle.cu_syntax.specs.Names.{name_meaning}
use Rattle.cu_syntax.specs.Owners.{DeclarationNodeIsOf, NameIsOf}
use Rattle.cu_translation.specs.Rules.{begun_by}
use Rattle.cu_uses.proofs.FoundLemmas.{on_ok}
use Rattle.cu_locals.specs.BegunFound.{begun_meaning}
use Rattle.cu_locals.specs.Entries.{Brings, rule_enters}
use Rattle.cu_locals.proofs.EntryLemmas.{bound_entries, bound_owned, brings_none, declares, rule_entries, variables_of}
use Rattle.cu_locals.proofs.entries.Block.declaration.Goals as goal

pub returns-in-FreeVariables : goal.returns-in-FreeVariables
returns-in-FreeVariables c t known is =
    let of = subst (DeclarationNodeIsOf t.owner t.names) c.in-FreeVariables.is (c.in_ok-names.ensures.owned t.owner t.names is) in
    on_ok c.variables.result
    (declares t c.args.self.now c.variables.new.self c.args.d c.in_ok-names.field-0 (declaration.FreeVariables c.in-FreeVariables.field-0 c.in-FreeVariables.names) (variables_of t.names c.in-FreeVariables.names.items) None
    (c.in_ok-names.ensures.meaning t.names) c.in-FreeVariables.is refl refl)
    (subst (λ (xs : List Name). All (NameIsOf t.owner t.names) xs → OnOk c.variables.result (Brings t c.args.self.now (variables_of t.names xs) None c.variables.new.self))
    c.as_slice.ensures.value (c.variables.ensures t) of.1)

pub returns-in-Signature : goal.returns-in-Signature
returns-in-Signature c t known is =
    declares t c.args.self.now (record { entries = c.args.self.now.entries; begun = None }) c.args.d c.in_ok-names.field-0 (declaration.Signature c.in-Signature.field-0 c.in-Signature._functions c.in-Signature.field-2) [] None
    (c.in_ok-names.ensures.meaning t.names) c.in-Signature.is refl refl (brings_none t c.args.self.now (record { entries = c.args.self.now.entries; begun = None }) refl refl)

pub returns-in-FunctionRule : goal.returns-in-FunctionRule
returns-in-FunctionRule c t known is =
    let of = subst (DeclarationNodeIsOf t.owner t.names) c.in-FunctionRule.is (c.in_ok-names.ensures.owned t.owner t.names is) in
    let before = begun_meaning t c.args.self.now.begun in
    let next = Some (begun_by before (name_meaning t.names c.in-FunctionRule.name) (position_of c.in-FunctionRule.place)) in
    on_ok c.rule.result
    (declares t c.args.self.now c.rule.new.self c.args.d c.in_ok-names.field-0 (declaration.FunctionRule c.in-FunctionRule.place c.in-FunctionRule.name c.in-FunctionRule.parameters c.in-FunctionRule.field-3)
    (rule_enters t before c.in-FunctionRule.place c.in-FunctionRule.name c.in-FunctionRule.parameters.items) next
    (c.in_ok-names.ensures.meaning t.names) c.in-FunctionRule.is (rule_entries t before c.in-FunctionRule.place c.in-FunctionRule.name c.in-FunctionRule.parameters c.in-FunctionRule.field-3) refl)
    (subst (λ (ps : List Pattern). OnOk c.rule.result (Brings t c.args.self.now (rule_enters t before c.in-FunctionRule.place c.in-FunctionRule.name ps) next c.rule.new.self))
    c.as_slice-in-FunctionRule.ensures.value (c.rule.ensures t known of.1))

pub returns-in_ok-names-in-PatternBinding : goal.returns-in_ok-names-in-PatternBinding
returns-in_ok-names-in-PatternBinding c t known is =
    let of = subst (DeclarationNodeIsOf t.owner t.names) c.in-PatternBinding.is (c.in_ok-names.ensures.owned t.owner t.names is) in
    let found = c.in_ok-names-in-PatternBinding.ensures t of.1 in
    let names = c.in_ok-names-in-PatternBinding.names in
    on_ok c.variables-in-PatternBinding.result
    (declares t c.args.self.now c.variables-in-PatternBinding.new.self c.args.d c.in_ok-names.field-0 (declaration.PatternBinding c.in-PatternBinding.field-0 c.in-PatternBinding.p c.in-PatternBinding.field-2) (variables_of t.names names.items) None
    (c.in_ok-names.ensures.meaning t.names) c.in-PatternBinding.is (bound_entries t (begun_meaning t c.args.self.now.begun) c.in-PatternBinding.field-0 c.in-PatternBinding.p c.in-PatternBinding.field-2 names.items found) refl)
    (subst (λ (xs : List Name). All (NameIsOf t.owner t.names) xs → OnOk c.variables-in-PatternBinding.result (Brings t c.args.self.now (variables_of t.names xs) None c.variables-in-PatternBinding.new.self))
    c.as_slice-in-PatternBinding.ensures.value (c.variables-in-PatternBinding.ensures t) (bound_owned t c.in-PatternBinding.p names.items found))
