use Rattle.std.proofs.Common.{◌∙◌, ◌++◌, ◌∷◌, [], List, ap, arith, get_or, refl}
use Rattle.cu_names.specs.declared.names.NameId.{NameId}
use Rattle.cu_syntax.specs.declared.name.Name.{Name}
use Rattle.cu_syntax.specs.Patterns.{pattern_meaning}
use Rattle.cu_translation.specs.declared.local_names.Binder.TheVariants as binder
use Rattle.cu_translation.specs.declared.local_names.Local.{Local}
use Rattle.cu_translation.specs.declared.local_names.Local.TheVariants as local
use Rattle.cu_sites.specs.declared.definitions.Definition.{Definition}
use Rattle.cu_sites.proofs.InsideLemmas.{selections_all, selections_end, selections_next}
use Rattle.cu_sites.proofs.definitions.push_selections.Goals as goal

pub loop-name-init : goal.loop-name-init
loop-name-init c t end rest = rest

pub loop-name-preserved : goal.loop-name-preserved
loop-name-preserved c t end rest =
    let xs = c.deref-name-items.result.now in
    let i = c.loop-name.name-index in
    let id : NameId = record { 0 = 0 } in
    let e : Name = record { text = id; qualifier = Rattle.std.proofs.Common.None; base = id; place = record { «module» = id; line = 0; column = 0 } } in
    let d : Definition = record { variable = binder.At c.of-in-loop-name.result; used = c.push.new.self } in
    c.loop-name.invariant t end
    (selections_next t.names (pattern_meaning t.names c.args.p) xs i (get_or xs i e) e d c.loop-name.found.items c.push-in-loop-name.new.self.items end c.of.result
    c.of-in-loop-name.result refl (omega arith) c.in_ok-push-2.ensures.items refl c.of-in-loop-name.ensures
    (c.in_ok-push.ensures.items ∙ ap (λ (ls : List Local). ls ++ local.Variable (binder.Whole c.of.result) ∷ []) c.new-used.ensures.items)
    (c.of.ensures ∙ c.place.ensures.position t.names) rest)

pub returns : goal.returns
returns c t of =
    let xs = c.deref-name-items.result.now in
    selections_all t c.args.p c.in_ok-names.names.items xs c.args.found.now.items c.loop-name.found.items c.deref-name-items.ensures.value
    (c.in_ok-names.ensures t of)
    (c.loop-name.invariant t c.loop-name.found.items
    (selections_end t.names (pattern_meaning t.names c.args.p) xs c.loop-name.name-index c.loop-name.found.items (omega arith)))
