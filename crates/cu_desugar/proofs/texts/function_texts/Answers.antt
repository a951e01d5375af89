use Rattle.std.proofs.Common.{◌≡◌, ◌∙◌, List, ap, length, map, rules, subst, sym}
use Rattle.std.proofs.lemmas.List.Elements.{All-head, All-tail}
use Rattle.std.specs.List.{All}
use Rattle.std.specs.Vec.Iter.{into_iter_items}
use Rattle.cu_modules.specs.Ordering.{module_of}
use Rattle.cu_sites.specs.Meaning.{AreGroups, GroupIsOf}
use Rattle.cu_syntax.specs.Answer.{items_meaning, module_meaning}
use Rattle.cu_syntax.specs.Owners.{ModuleIsOf}
use Rattle.cu_syntax.specs.Syntax.{Item}
use Rattle.cu_syntax.specs.declared.text.Module.{Module}
use Rattle.cu_translation.specs.Numbered.{groups_in}
use Rattle.cu_translation.specs.Rules.{groups, rule_in_item}
use Rattle.cu_desugar.proofs.TextLemmas.{found_all, found_one, found_start}
use Rattle.cu_desugar.proofs.texts.function_texts.Goals as goal

pub loop-group-init : goal.loop-group-init
loop-group-init c t owned =
    let m = c.args.module.now in
    let all = c.items.ensures.owned t.owner t.names (subst (ModuleIsOf t.owner t.names) (sym c.syntax.ensures) owned) in
    let are : items_meaning t.names c.items.result.now ≡ (module_meaning t.names m.syntax).items =
    c.items.ensures.meaning t.names ∙ ap (λ (s : Module). (module_meaning t.names s).items) c.syntax.ensures in
    found_start t (groups_in (module_of t.names m)) c.new-texts.result.items (into_iter_items c.into_iter-group-iterator.result) c.in_ok-groups.groups.items c.new-texts.ensures.items
    c.into_iter-group-iterator.ensures.into_iter_gives.0
    (subst (λ (is : List Item). AreGroups t.owner t.names (groups (map rule_in_item is)) c.in_ok-groups.groups.items) are (c.in_ok-groups.ensures t.owner t.names t.differ all))

pub loop-group-preserved : goal.loop-group-preserved
loop-group-preserved c t owned =
    let P = GroupIsOf t.owner t.names in
    let left = into_iter_items c.loop-group.group-iterator in
    let after = into_iter_items c.next.new.self in
    let g = c.in-Some.group in
    let split = c.in-Some.ensures.steps.0 in
    let before = c.loop-group.invariant t owned in
    let all = subst (All P) split before.owned in
    found_one t (groups_in (module_of t.names c.args.module.now)) c.loop-group.texts.items c.push.new.self.items left after g c.in_ok-text.text split c.in_ok-push.ensures.items c.in_ok-text.ensures.same
    (c.in_ok-text.ensures.is t (All-head P g after all)) (All-tail P g after all) before

pub returns : goal.returns
returns c t owned =
    let left = into_iter_items c.loop-group.group-iterator in
    let none : length left ≡ 0 = search (rules, c.in-None.ensures.steps.0) in
    found_all t (groups_in (module_of t.names c.args.module.now)) c.loop-group.texts.items left none (c.loop-group.invariant t owned)
