use Rattle.std.proofs.Common.{map, subst, sym, take}
use Rattle.std.proofs.lemmas.List.Elements.{All-get_or}
use Rattle.std.specs.List.{flat_map}
use Rattle.cu_faults.specs.Telling.{AreTold}
use Rattle.cu_translation.specs.Faults.{group_faults}
use Rattle.cu_desugar.specs.Inside.Texts.{IsText, function_in}
use Rattle.cu_desugar.proofs.TextLemmas.{all_of, one_more}
use Rattle.cu_desugar.proofs.faults.first_fault.Goals as goal

pub loop-text-init : goal.loop-text-init
loop-text-init c t names whole top are = c.new-first.ensures t.owner

pub loop-text-preserved : goal.loop-text-preserved
loop-text-preserved c t names whole top are =
    let xs = c.args.texts.now in
    let i = c.loop-text.text-index in
    let x = c.text-item.result in
    let is = subst (IsText t) (sym c.text-item.is) (All-get_or (IsText t) xs i x c.loop-text-test.true are.known) in
    let told = c.in_ok-tell_function.ensures t names (c.around-around.ensures t names top is) is.owned is.stands is.dependent in
    subst (λ fs. AreTold t.owner fs c.tell_function.new.first) (one_more (group_faults names) (function_in t) xs i x c.text-item.is c.loop-text-test.true)
    (told.told (flat_map (group_faults names) (map (function_in t) (take i xs))) (c.loop-text.invariant t names whole top are))

pub returns : goal.returns
returns c t names whole top are =
    c.fault.ensures t.owner (flat_map (group_faults names) whole)
    (subst (λ fs. AreTold t.owner fs c.loop-text.first) (all_of (group_faults names) (function_in t) c.args.texts.now whole c.loop-text.text-index c.loop-text-test.false are.are)
    (c.loop-text.invariant t names whole top are))
