use Rattle.std.proofs.Common.{◌≡◌, ◌∙◌, ap, length, map, sym}
use Rattle.cu_fixity.specs.Parts.{written_pattern}
use Rattle.cu_forms.specs.Inside.PatternParts.{piece_in}
use Rattle.cu_forms.proofs.CallLemmas.{if_ok}
use Rattle.cu_forms.proofs.PatternLemmas.{none_placed, some_owned, some_placed, some_smaller, written_owned}
use Rattle.cu_forms.proofs.pattern_parts.ordered_parts.Goals as goal

pub in_tree_order-requires : goal.in_tree_order-requires
in_tree_order-requires g c =
    ap length c.as_slice-3.ensures.value ∙ c.in_ok-pieces.ensures.count ∙ ap length (c.as_slice.ensures.value ∙ sym c.as_slice-2.ensures.value)

pub returns : goal.returns
returns g c =
    let items = c.args.items.now in
    let ps = c.as_slice-3.result.now in
    let all = c.as_slice-2.result.now in
    let same = c.as_slice.ensures.value ∙ sym c.as_slice-2.ensures.value in
    let first : c.as_slice.result.now ≡ written_pattern items = c.as_slice.ensures.value ∙ c.in_ok-written.ensures in
    let e : all ≡ written_pattern items = c.as_slice-2.ensures.value ∙ c.in_ok-written.ensures in
    record {
      smaller = if_ok c.in_tree_order.result (λ found h. some_smaller items ps all found e h) c.in_tree_order.ensures.some;
      owned = λ owner names of. if_ok c.in_tree_order.result (λ found h. some_owned owner names items ps all found e of h) c.in_tree_order.ensures.some;
      some = λ w binder tells of.
          (let seen : ps ≡ map (piece_in w) all =
          c.as_slice-3.ensures.value ∙ c.in_ok-pieces.ensures.meaning w tells (written_owned w.owner w.names items c.as_slice.result.now first of) ∙ ap (map (piece_in w)) same in
          if_ok c.in_tree_order.result (λ found h. some_placed w binder items ps all found e seen h) c.in_tree_order.ensures.some);
      none = λ w binder tells of.
          (let seen : ps ≡ map (piece_in w) all =
          c.as_slice-3.ensures.value ∙ c.in_ok-pieces.ensures.meaning w tells (written_owned w.owner w.names items c.as_slice.result.now first of) ∙ ap (map (piece_in w)) same in
          if_ok c.in_tree_order.result (λ found h. none_placed w binder items ps all found e seen h) c.in_tree_order.ensures.none);
    }
