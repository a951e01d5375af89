use Rattle.std.proofs.Common.{◌≡◌, ◌∙◌, ap, arith, length, subst, sym}
use Rattle.cu_syntax.specs.Declarations.{declaration_node, right_meaning}
use Rattle.cu_syntax.specs.Items.{item_node}
use Rattle.cu_syntax.specs.Owners.{DeclarationNodeIsOf, ItemNodeIsOf}
use Rattle.cu_translation.specs.Rules.{rule_in, rule_in_item}
use Rattle.cu_toplevel.proofs.HeadLemmas.{rule_head}
use Rattle.cu_toplevel.proofs.function_heads.head_of.Goals as goal

pub returns-in-FunctionRule-clause-meaning : goal.returns-in-FunctionRule-clause-meaning
returns-in-FunctionRule-clause-meaning c = λ names.
    let counted : c.len.result ≡ length c.in-FunctionRule.parameters.items = omega (arith, c.len.ensures) in
    rule_head names c.in-FunctionRule.place c.in-FunctionRule.name c.in-FunctionRule.parameters.items c.len.result (right_meaning names c.in-FunctionRule.field-3) _
    (ap rule_in_item (sym (c.in_ok-declaration.ensures.meaning names)) ∙ ap (λ n. rule_in_item (item_node names n)) c.in-Declaration.is
    ∙ ap rule_in (sym (c.in_ok-place-in-Declaration.ensures.meaning names)) ∙ ap (λ n. rule_in (declaration_node names n)) c.in-FunctionRule.is) counted

pub returns-in-FunctionRule-clause-owned : goal.returns-in-FunctionRule-clause-owned
returns-in-FunctionRule-clause-owned c = λ owner names owned.
    let inner = subst (ItemNodeIsOf owner names) c.in-Declaration.is (c.in_ok-declaration.ensures.owned owner names owned) in
    let own = subst (DeclarationNodeIsOf owner names) c.in-FunctionRule.is (c.in_ok-place-in-Declaration.ensures.owned owner names inner) in
    record { name = own.1.text; place = own.0 }
