use Rattle.std.proofs.Common.{◌++◌, ◌∙◌, ap, sym}
use Rattle.std.specs.Vec.Iter.{into_iter_items, into_iter_len}
use Rattle.std.proofs.Common.{subst}
use Rattle.std.specs.List.{All}
use Rattle.cu_modules.specs.Ordering.{modules_of}
use Rattle.cu_modules.specs.Reading.{HasModule}
use Rattle.cu_syntax.proofs.ViewLemmas.{nothing_left}
use Rattle.cu_modules.proofs.OrderLemmas.{moved, sorted, sorted_known, sorts_other, sorts_own}
use Rattle.cu_modules.proofs.ordering.built_in_first.Goals as goal

pub modules-preserved-then-is_built_in : goal.modules-preserved-then-is_built_in
modules-preserved-then-is_built_in c =
    sorts_own c.args.names.now c.args.modules.items (into_iter_items c.modules.module-iterator) (into_iter_items c.next.new.self) c.modules.built_in.items c.push.new.self.items c.modules.others.items c.in-Some.module
    c.in-Some.ensures.steps.0 (sym c.is_built_in.ensures ∙ c.if-is_built_in.true) c.in_ok-push.ensures.items c.modules.invariant

pub modules-preserved : goal.modules-preserved
modules-preserved c =
    sorts_other c.args.names.now c.args.modules.items (into_iter_items c.modules.module-iterator) (into_iter_items c.next.new.self) c.modules.built_in.items c.modules.others.items c.push-in-modules.new.self.items c.in-Some.module
    c.in-Some.ensures.steps.0 (sym c.is_built_in.ensures ∙ c.if-is_built_in.false) c.in_ok-push-2.ensures.items c.modules.invariant

pub others-init : goal.others-init
others-init c =
    let all = ap (λ others. c.modules.built_in.items ++ others) c.into_iter-module-iterator-2.ensures.into_iter_gives.0 in (
      sorted c.args.names.now c.args.modules.items (into_iter_items c.modules.module-iterator) c.modules.built_in.items c.modules.others.items (c.modules.built_in.items ++ into_iter_items c.into_iter-module-iterator-2.result)
          (nothing_left (into_iter_items c.modules.module-iterator) (into_iter_len c.modules.module-iterator) c.in-None.ensures.steps.0 c.modules.module-iterator.rest.ok.0) c.modules.invariant all,
      sorted_known c.args.names.now c.args.modules.items (into_iter_items c.modules.module-iterator) c.modules.built_in.items c.modules.others.items (c.modules.built_in.items ++ into_iter_items c.into_iter-module-iterator-2.result)
          c.modules.invariant all,
    )

pub others-preserved : goal.others-preserved
others-preserved c =
    let same = moved c.others.built_in.items c.push-in-others.new.self.items (into_iter_items c.others.module-iterator) (into_iter_items c.next-in-others.new.self) c.in-Some-module.module
    c.in_ok-push-3.ensures.items c.in-Some-module.ensures.steps.0 in
    (ap (modules_of c.args.names.now) same ∙ c.others.invariant.0, subst (All (HasModule c.args.names.now)) (sym same) c.others.invariant.1)
