use Rattle.std.proofs.Common.{◌≡◌, ◌∙◌, ap, length, map, sym}
use Rattle.cu_fixity.specs.Parts.{written_parts}
use Rattle.cu_syntax.specs.Owners.{ItemsAreOf}
use Rattle.cu_translation.specs.LocalNames.{Scope}
use Rattle.cu_translation.specs.Meaning.{Setting}
use Rattle.cu_forms.specs.Operands.{operator_piece}
use Rattle.cu_forms.specs.Scopes.{Sees}
use Rattle.cu_forms.proofs.CallLemmas.{if_ok}
use Rattle.cu_forms.proofs.OperatorLemmas.{none_term, none_tree, some_owned, some_smaller, some_term, some_tree, written_owned}
use Rattle.cu_forms.proofs.operators.tree_of.Goals as goal

pub in_tree_order-requires : goal.in_tree_order-requires
in_tree_order-requires g c =
    ap length c.as_slice-3.ensures.value ∙ c.in_ok-pieces.ensures.count ∙ ap length (c.as_slice.ensures.value ∙ sym c.as_slice-2.ensures.value)

pub returns : goal.returns
returns g c =
    let items = c.args.items.now in
    let ps = c.as_slice-3.result.now in
    let all = c.as_slice-2.result.now in
    let same = c.as_slice.ensures.value ∙ sym c.as_slice-2.ensures.value in
    let first : c.as_slice.result.now ≡ written_parts items = c.as_slice.ensures.value ∙ c.in_ok-written.ensures in
    let e : all ≡ written_parts items = c.as_slice-2.ensures.value ∙ c.in_ok-written.ensures in
    let shown : (w : Setting) (local : Scope) → g.A.Surroundings.tells c.args.around.now w → Sees w local c.args.scope.now → ItemsAreOf w.owner w.names items → ps ≡ map (operator_piece w local) all =
    λ w local tells sees of. c.as_slice-3.ensures.value ∙ c.in_ok-pieces.ensures.meaning w local tells sees (written_owned w.owner w.names items c.as_slice.result.now first of) ∙ ap (map (operator_piece w local)) same in
    let some = c.in_tree_order.ensures.some in
    let none = c.in_tree_order.ensures.none in
    record {
      smaller = if_ok c.in_tree_order.result (λ found h. some_smaller items ps all found e h) some;
      owned = λ owner names of. if_ok c.in_tree_order.result (λ found h. some_owned owner names items ps all found e of h) some;
      some = λ w local tells sees of. if_ok c.in_tree_order.result (λ found h. some_tree w local items ps all found e (shown w local tells sees of) h) some;
      none = λ w local tells sees of. if_ok c.in_tree_order.result (λ found h. none_tree w local items ps all found e (shown w local tells sees of) h) none;
      term = λ w local tells sees of. if_ok c.in_tree_order.result (λ found h. some_term w local items ps all found e (shown w local tells sees of) h) some;
      refused = λ w local tells sees of. if_ok c.in_tree_order.result (λ found h. none_term w local items ps all found e (shown w local tells sees of) h) none;
    }
