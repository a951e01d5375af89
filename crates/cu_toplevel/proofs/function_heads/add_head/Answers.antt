use Rattle.std.proofs.Common.{◌∙◌, Option, subst, sym}
use Rattle.std.proofs.lemmas.List.Elements.{All-push}
use Rattle.std.specs.List.{All}
use Rattle.std.specs.Prelude.{IfSome}
use Rattle.cu_names.specs.declared.names.NameId.{NameId}
use Rattle.cu_syntax.specs.Answer.{item_meaning}
use Rattle.cu_toplevel.specs.declared.function_heads.FunctionHead.{FunctionHead}
use Rattle.cu_toplevel.specs.Heads.{HeadIsOf}
use Rattle.cu_toplevel.specs.Inside.Heads.{IsBegun, begun_with}
use Rattle.cu_translation.specs.Rules.{rule_in_item}
use Rattle.cu_toplevel.proofs.HeadLemmas.{kept_heads, more_heads, same_option, some_begun}
use Rattle.cu_toplevel.proofs.function_heads.add_head.Goals as goal

pub returns-clause-name : goal.returns-clause-name
returns-clause-name c = λ owner names before differ owned begun.
    let own = subst (λ (o : Option FunctionHead). IfSome o (HeadIsOf owner names)) c.in-Some.is (c.in_ok-head.ensures.owned owner names owned) in
    some_begun names before (rule_in_item (item_meaning names c.args.item.now)) c.in-Some.head c.in_ok-head.field-0 c.in-Some.is (c.in_ok-head.ensures.meaning names) own.name

pub returns-clause-heads : goal.returns-clause-heads
returns-clause-heads c = λ owner names before first differ owned begun are.
    let own = subst (λ (o : Option FunctionHead). IfSome o (HeadIsOf owner names)) c.in-Some.is (c.in_ok-head.ensures.owned owner names owned) in
    more_heads names before c.args.begun (rule_in_item (item_meaning names c.args.item.now)) c.in-Some.head c.in_ok-head.field-0 c.args.heads.now.items c.push.new.self.items first c.eq.result
    differ begun own.name c.in-Some.is (c.in_ok-head.ensures.meaning names) c.eq.ensures c.if-eq.false c.in_ok-push.ensures.items are

pub returns-clause-owned : goal.returns-clause-owned
returns-clause-owned c = λ owner names owned all.
    let own = subst (λ (o : Option FunctionHead). IfSome o (HeadIsOf owner names)) c.in-Some.is (c.in_ok-head.ensures.owned owner names owned) in
    subst (All (HeadIsOf owner names)) (sym c.in_ok-push.ensures.items) (All-push (HeadIsOf owner names) c.args.heads.now.items c.in-Some.head all own)

pub returns-then-eq-clause-name : goal.returns-then-eq-clause-name
returns-then-eq-clause-name c = λ owner names before differ owned begun.
    let d = rule_in_item (item_meaning names c.args.item.now) in
    let head = c.in-Some.head in
    let own = subst (λ (o : Option FunctionHead). IfSome o (HeadIsOf owner names)) c.in-Some.is (c.in_ok-head.ensures.owned owner names owned) in
    subst (λ (name : Option NameId). IsBegun names (begun_with before d) name) (sym (same_option c.args.begun head.name (sym c.eq.ensures ∙ c.if-eq.true)))
    (some_begun names before d head c.in_ok-head.field-0 c.in-Some.is (c.in_ok-head.ensures.meaning names) own.name)

pub returns-then-eq-clause-heads : goal.returns-then-eq-clause-heads
returns-then-eq-clause-heads c = λ owner names before first differ owned begun are.
    let own = subst (λ (o : Option FunctionHead). IfSome o (HeadIsOf owner names)) c.in-Some.is (c.in_ok-head.ensures.owned owner names owned) in
    kept_heads names before c.args.begun (rule_in_item (item_meaning names c.args.item.now)) c.in-Some.head c.in_ok-head.field-0 c.args.heads.now.items first c.eq.result
    differ begun own.name c.in-Some.is (c.in_ok-head.ensures.meaning names) c.eq.ensures c.if-eq.true are

pub returns-then-eq-clause-owned : goal.returns-then-eq-clause-owned
returns-then-eq-clause-owned c = λ owner names owned all. all
