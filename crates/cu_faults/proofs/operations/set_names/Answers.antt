use Rattle.std.proofs.Common.{IfNone, IfSome, List, None, Option, subst, sym}
use Rattle.std.specs.List.{All}
use Rattle.std.specs.Prelude.{OnOk}
use Rattle.std.specs.declared.alloc.Global.{Global}
use Rattle.std.specs.declared.vec.Vec.{Vec}
use Rattle.cu_fixity.specs.Grouping.{HasNoTree}
use Rattle.cu_fixity.specs.Operators.{IsGrouped, expression_items}
use Rattle.cu_fixity.specs.Owners.{PartIsOf}
use Rattle.cu_fixity.specs.Resolving.{expression_parts}
use Rattle.cu_fixity.specs.declared.part.Part.{Part}
use Rattle.cu_syntax.specs.declared.expressions.Expression.{Expression}
use Rattle.cu_syntax.specs.Expressions.{items_meaning}
use Rattle.cu_syntax.specs.Owners.{ExpressionIsOf, ExpressionNodeIsOf}
use Rattle.cu_uses.proofs.FoundLemmas.{on_ok}
use Rattle.cu_faults.specs.Inside.Uses.{parts_faults}
use Rattle.cu_faults.specs.Telling.{Told}
use Rattle.cu_faults.proofs.ToldLemmas.{told_as, told_none}
use Rattle.cu_faults.proofs.UseLemmas.{fixity_in, grouped_faults, no_faults, no_tree_faults}
use Rattle.cu_faults.proofs.operations.set_names.Goals as goal

pub returns : goal.returns
returns g c w local tells sees of =
    let items = c.in-Operators.items in
    let owned = subst (ExpressionNodeIsOf w.owner w.names) c.in-Operators.is (c.in_ok-items.ensures.owned w.owner w.names of) in
    let all = subst (λ (o : Option (Vec (Part Expression) Global)). IfSome o (λ parts. All (PartIsOf ExpressionIsOf w.owner w.names) parts.items)) c.in-Some.is
    (c.in_ok-parts.ensures.owned w.owner w.names owned) in
    let grouped = subst (λ (o : Option (Vec (Part Expression) Global)).
    IfSome o (λ parts. IsGrouped (fixity_in w local) (expression_items (items_meaning w.names items)) (expression_parts w.names parts.items))) c.in-Some.is
    (c.in_ok-parts.ensures.some w local tells sees owned) in
    on_ok c.operators.result
    (told_as (grouped_faults w local c.args.e c.in_ok-items.field-0 items c.in-Some.parts.items (c.in_ok-items.ensures.meaning w.names) c.in-Operators.is grouped))
    (subst (λ (ps : List (Part Expression)). All (PartIsOf ExpressionIsOf w.owner w.names) ps
    → OnOk c.operators.result (Told w.owner c.args.first.now (parts_faults w local None ps) c.operators.new.first))
    c.as_slice.ensures.value (c.operators.ensures w local tells sees) all)

pub returns-in_default : goal.returns-in_default
returns-in_default g c w local tells sees of =
    told_as (sym (no_faults w local c.args.e c.in_ok-items.field-0 (c.in_ok-items.ensures.meaning w.names) c.in_default.not-Operators)) (told_none w.owner c.args.first.now)

pub returns-in_default-2 : goal.returns-in_default-2
returns-in_default-2 g c w local tells sees of =
    let items = c.in-Operators.items in
    let owned = subst (ExpressionNodeIsOf w.owner w.names) c.in-Operators.is (c.in_ok-items.ensures.owned w.owner w.names of) in
    let none = subst (λ (o : Option (Vec (Part Expression) Global)). IfNone o (HasNoTree (fixity_in w local) (expression_items (items_meaning w.names items)))) c.in_default-2.is
    (c.in_ok-parts.ensures.none w local tells sees owned) in
    told_as (sym (no_tree_faults w local c.args.e c.in_ok-items.field-0 items (c.in_ok-items.ensures.meaning w.names) c.in-Operators.is none)) (told_none w.owner c.args.first.now)
