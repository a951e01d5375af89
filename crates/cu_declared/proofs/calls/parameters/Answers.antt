use Rattle.std.proofs.Common.{◌∙◌, [], ap, subst, sym}
use Rattle.std.specs.List.{All}
use Rattle.std.proofs.lemmas.List.Elements.{All-get_or}
use Rattle.cu_modules.specs.Reading.{HasModule}
use Rattle.cu_names.specs.declared.names.NameId.{NameId}
use Rattle.cu_names.specs.Texts.{IsKnown, text_of}
use Rattle.cu_syntax.specs.declared.text.Module as syntax
use Rattle.cu_syntax.specs.Answer.{module_meaning}
use Rattle.cu_syntax.specs.Owners.{ItemIsOf, ModuleIsOf}
use Rattle.cu_declared.specs.Inside.Items.{items_parameters}
use Rattle.cu_declared.specs.Inside.Numbers.{Gains}
use Rattle.cu_declared.specs.Parameters.{built_in_parameters}
use Rattle.cu_declared.proofs.CallLemmas.{parameters_end, parameters_prefix}
use Rattle.cu_declared.proofs.calls.parameters.Goals as goal

pub loop-m-init : goal.loop-m-init
loop-m-init c after gains = gains.gains built_in_parameters (c.in_ok-add_built_in.ensures.gains [] (c.new-numbers.ensures c.args.names.now))

pub loop-m-preserved : goal.loop-m-preserved
loop-m-preserved c after rest =
    let names = c.args.names.now in
    let m = c.m-item.result in
    let has = subst (HasModule names) (sym c.m-item.is) (All-get_or (HasModule names) c.args.modules.now c.loop-m.m-index m c.loop-m-test.true c.requires.known) in
    let text = c.items-text.result.now in
    let owned = c.items-text.ensures.owned m.name names (subst (λ (s : syntax.Module). ModuleIsOf m.name names s) (sym c.syntax.ensures) has.owned) in
    let one = subst (λ (o : NameId). IsKnown names o → All (ItemIsOf o names) text → Gains names c.loop-m.numbers (items_parameters names (text_of names o) text) c.add_parameters.new.numbers) c.name.ensures
    (λ known all. c.in_ok-add_parameters.ensures names c.count-count.ensures.differ known all) has.known owned in
    c.loop-m.invariant after
    (parameters_prefix names c.args.modules.now c.loop-m.m-index m text c.loop-m.numbers c.add_parameters.new.numbers after c.m-item.is c.loop-m-test.true
    (c.items-text.ensures.meaning names ∙ ap (λ (s : syntax.Module). (module_meaning names s).items) c.syntax.ensures) one rest)

pub returns : goal.returns
returns c = c.loop-m.invariant c.loop-m.numbers (parameters_end c.args.names.now c.args.modules.now c.loop-m.m-index c.loop-m.numbers c.loop-m-test.false)
