use Rattle.std.proofs.Common.{ap, arith, get_or, option_map, refl, ◌<◌, List, length}
use Rattle.cu_translation.specs.declared.local_names.Binder.{Binder}
use Rattle.cu_translation.specs.declared.local_names.Binder.TheVariants as binder
use Rattle.cu_translation.specs.declared.local_names.Local.{Local}
use Rattle.cu_translation.specs.declared.local_names.Local.TheVariants as local
use Rattle.cu_translation.specs.Meaning.{position_meaning}
use Rattle.cu_sites.specs.Inside.Using.{usage_meaning}
use Rattle.cu_sites.proofs.NoteLemmas.{bound_end, bound_next, notes_inside, uses_end, uses_next}
use Rattle.cu_sites.proofs.captures.Graph.note.Goals as goal

pub loop-used-preserved : goal.loop-used-preserved
loop-used-preserved c binders functions end h rest =
    let items = c.deref-used-items.result.now in
    let i = c.loop-used.used-index in
    let d : Local = local.Variable (binder.At (record { line = 0; column = 0 })) in
    c.loop-used.invariant binders functions end h
    (uses_next binders functions (position_meaning c.in-Some.function) c.args.usage.now.used.items i (get_or items i d) d c.loop-used.self c.note_use.new.self
    end (ap (λ (ls : List Local). get_or ls i d) c.deref-used-items.ensures.value) (let low : c.loop-used.used-index < length c.deref-used-items.result.now = c.loop-used-test.true in omega arith)
    (c.in_ok-note_use.ensures binders functions h) rest)

pub loop-binder-init : goal.loop-binder-init
loop-binder-init c binders functions end h rest =
    let f = position_meaning c.in-Some.function in
    notes_inside binders functions f (usage_meaning c.args.usage.now) c.args.usage.now.used.items c.args.usage.now.declared.items c.args.self.now
    c.loop-used.self end (ap (option_map position_meaning) c.in-Some.is) refl refl
    (c.loop-used.invariant binders functions c.loop-used.self h
    (uses_end binders functions f c.args.usage.now.used.items c.loop-used.used-index c.loop-used.self (omega arith)))
    rest

pub loop-binder-preserved : goal.loop-binder-preserved
loop-binder-preserved c binders functions end h rest =
    let items = c.deref-binder-items.result.now in
    let i = c.loop-binder.binder-index in
    let d : Binder = binder.At (record { line = 0; column = 0 }) in
    c.loop-binder.invariant binders functions end h
    (bound_next binders functions (position_meaning c.in-Some.function) c.args.usage.now.declared.items i (get_or items i d) d c.loop-binder.self
    c.note_bound.new.self end (ap (λ (bs : List Binder). get_or bs i d) c.deref-binder-items.ensures.value) (omega arith) (c.in_ok-note_bound.ensures binders functions h) rest)

pub returns : goal.returns
returns c binders functions h =
    c.loop-binder.invariant binders functions c.loop-binder.self h
    (bound_end binders functions (position_meaning c.in-Some.function) c.args.usage.now.declared.items c.loop-binder.binder-index c.loop-binder.self (omega arith))
