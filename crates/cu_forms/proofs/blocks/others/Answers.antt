use Rattle.std.proofs.Common.{false, true}
use Rattle.std.specs.List.{filter}
use Rattle.std.specs.Vec.Iter.{into_iter_items}
use Rattle.cu_translation.specs.Meaning.{binder_meaning}
use Rattle.cu_forms.specs.Inside.Blocks.{bounds_meaning, is_of_other}
use Rattle.cu_forms.proofs.BlockLemmas.{dropped, is_other_unless, kept}
use Rattle.cu_forms.proofs.blocks.others.Goals as goal

pub loop-bound-preserved-then-eq : goal.loop-bound-preserved-then-eq
loop-bound-preserved-then-eq c =
    let q = is_of_other (binder_meaning c.args.variable) in
    dropped q c.loop-bound.found.items (into_iter_items c.loop-bound.bound-iterator) (into_iter_items c.next.new.self) c.in-Some.bound (filter q (bounds_meaning c.args.bounds.items))
    c.in-Some.ensures.steps.0 (is_other_unless c.args.variable c.in-Some.bound true c.eq.result c.eq.ensures c.if-eq.true) c.loop-bound.invariant

pub loop-bound-preserved : goal.loop-bound-preserved
loop-bound-preserved c =
    let q = is_of_other (binder_meaning c.args.variable) in
    kept q c.loop-bound.found.items c.push.new.self.items (into_iter_items c.loop-bound.bound-iterator) (into_iter_items c.next.new.self) c.in-Some.bound (filter q (bounds_meaning c.args.bounds.items))
    c.in-Some.ensures.steps.0 c.in_ok-push.ensures.items (is_other_unless c.args.variable c.in-Some.bound false c.eq.result c.eq.ensures c.if-eq.false) c.loop-bound.invariant
