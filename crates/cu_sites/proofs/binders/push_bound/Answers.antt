use Rattle.std.proofs.Common.{◌∙◌, List, [], map, refl, subst, sym}
use Rattle.cu_syntax.specs.declared.name.Name.{Name}
use Rattle.cu_syntax.specs.Names.{name_meaning}
use Rattle.cu_syntax.specs.Patterns.{pattern_meaning}
use Rattle.cu_translation.specs.declared.position.Position.{Position}
use Rattle.cu_translation.specs.LocalNames.{Selected}
use Rattle.cu_translation.specs.Meaning.{position_meaning}
use Rattle.cu_translation.specs.Numbering.{at_name, selected}
use Rattle.cu_uses.proofs.ListLemmas.{name_at, no_name}
use Rattle.cu_uses.specs.Gathered.{Adds, names_meaning, pattern_binds}
use Rattle.cu_locals.specs.Places.{positions_meaning}
use Rattle.cu_sites.specs.Inside.Counting.{Counts}
use Rattle.cu_sites.proofs.CountLemmas.{bound_counted, counts_end, counts_next, selected_all, selected_counted}
use Rattle.cu_sites.proofs.binders.push_bound.Goals as goal

pub loop-name-init : goal.loop-name-init
loop-name-init c t after of rest =
    let names = c.deref-name-items.result.now in
    bound_counted t c.args.p names c.of.result c.args.found.now.items c.push.new.self.items c.push_names.new.found.items after (c.of.ensures ∙ c.place.ensures.position t.names)
    (subst (λ (xs : List Name). Adds t.owner t.names [] (pattern_binds t.names c.args.p) xs) (sym c.deref-name-items.ensures.value) (c.in_ok-names.ensures t of)) c.in_ok-push.ensures.items
    (subst (λ (xs : List Name). Counts c.push.new.self.items (map at_name (names_meaning t.names xs)) c.push_names.new.found.items) (c.as_slice.ensures.value ∙ sym c.deref-name-items.ensures.value)
    (c.in_ok-push_names.ensures t)) rest

pub loop-name-preserved : goal.loop-name-preserved
loop-name-preserved c t after of rest =
    let names = c.deref-name-items.result.now in
    let here = name_at names c.loop-name.name-index in
    c.loop-name.invariant t after of
    (counts_next (selected_all t.names c.args.p) (λ x. selected (pattern_meaning t.names c.args.p) (name_meaning t.names x)) (λ x xs. refl) names c.loop-name.name-index no_name c.loop-name.found.items c.push_selected.new.found.items after
    c.loop-name-test.true
    (selected_counted t.names c.args.p here c.of-in-loop-name.result c.in_ok-places.places.items c.loop-name.found.items c.push_selected.new.found.items c.of-in-loop-name.ensures (c.in_ok-places.ensures t of)
    (subst (λ (ps : List Position). Counts c.loop-name.found.items (map (Selected (position_meaning c.of-in-loop-name.result)) (positions_meaning ps)) c.push_selected.new.found.items) c.as_slice-in-loop-name.ensures.value
    c.in_ok-push_selected.ensures)) rest)

pub returns : goal.returns
returns c t of =
    c.loop-name.invariant t c.loop-name.found.items of
    (counts_end (selected_all t.names c.args.p) refl c.deref-name-items.result.now c.loop-name.name-index c.loop-name.found.items c.loop-name-test.false)
