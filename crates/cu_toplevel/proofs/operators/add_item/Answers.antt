use Rattle.std.proofs.Common.{◌≡◌, ◌∙◌, ◌++◌, List, ap, append-nil, map, subst, sym}
use Rattle.std.specs.List.{All}
use Rattle.std.specs.Prelude.{OnOk}
use Rattle.cu_kernel.specs.declared.declarations.Operator.{Operator}
use Rattle.cu_syntax.specs.Answer.{item_meaning}
use Rattle.cu_syntax.specs.Items.{item_node}
use Rattle.cu_syntax.specs.Owners.{ItemNodeIsOf, NameIsOf}
use Rattle.cu_translation.specs.ModuleNames.{fixities_by}
use Rattle.cu_translation.specs.Parts.{operator}
use Rattle.cu_toplevel.proofs.FixityLemmas.{other_fixities}
use Rattle.cu_toplevel.proofs.OperatorLemmas.{all_of}
use Rattle.cu_toplevel.proofs.operators.add_item.Goals as goal

pub returns-in-Fixity : goal.returns-in-Fixity
returns-in-Fixity c = λ owner names differ owned.
    let own = subst (ItemNodeIsOf owner names) c.in-Fixity.is (c.in_ok-side.ensures.owned owner names owned) in
    let all = subst (All (NameIsOf owner names)) (sym c.as_slice.ensures.value) own.1 in
    subst (λ (os : List Operator). OnOk c.add_all.result (c.add_all.new.operators.items ≡ c.args.operators.now.items ++ os))
    (ap (all_of names c.in-Fixity.side c.in-Fixity.level) c.as_slice.ensures.value
    ∙ sym (ap (λ i. map (operator names) (fixities_by i)) (sym (c.in_ok-side.ensures.meaning names) ∙ ap (item_node names) c.in-Fixity.is)))
    (c.add_all.ensures owner names differ all)

pub returns : goal.returns
returns c = λ owner names differ owned.
    sym (append-nil c.args.operators.now.items)
    ∙ ap (λ ds. c.args.operators.now.items ++ map (operator names) ds)
    (other_fixities names (item_meaning names c.args.item.now) c.in_ok-side.field-0 (c.in_ok-side.ensures.meaning names) c.in_default.not-Fixity)
