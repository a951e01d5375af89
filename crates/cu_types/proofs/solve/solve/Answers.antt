use Rattle.std.proofs.Common.{◌≡◌, ℕ, ◌<◌, List, length, map, sym, subst}
use Rattle.std.proofs.lemmas.Result.{IfOk-weaker}
use Rattle.cu_types.proofs.Joins.{each_within_ss}
use Rattle.cu_types.proofs.Solving.{apart_collides, arranges_solves, closed_classes, closed_fixed, closed_forest, closed_within, closes}
use Rattle.cu_types.proofs.solve.solve.Goals as goal
use Rattle.cu_types.specs.Inside.Closing.{Each, IsClosed, PairIsEqual}
use Rattle.cu_types.specs.Inside.Ordering.{AreWithin, class_of}
use Rattle.cu_types.specs.Inside.Solving.{ArrangesOr, SolvesOr}
use Rattle.cu_types.specs.Table.{shape_of, trees}
use Rattle.cu_types.specs.Unification.{Equation}
use Rattle.cu_types.specs.declared.closing.Outcome.TheVariants as outcome

pub representatives-requires : goal.representatives-requires
representatives-requires c = record {
  forest = closed_forest (map shape_of c.args.nodes.items) c.args.pairs.items c.in-Closed.classes
      (closes c.args.nodes.items c.as_slice.result.now c.args.pairs.items c.in_ok-pair.field-0 (outcome.Closed c.in-Closed.classes)
      c.as_slice.ensures.value c.in-Closed.is c.in_ok-pair.ensures);
}

pub arrange-requires-clause-classes : goal.arrange-requires-clause-classes
arrange-requires-clause-classes c =
    subst (AreWithin (map shape_of c.args.nodes.items)) (sym c.as_slice-in-Closed.ensures.value)
    (closed_within (map shape_of c.args.nodes.items) c.args.pairs.items c.in_ok-representatives-in-Closed.representatives.items
    (closed_classes (map shape_of c.args.nodes.items) c.args.pairs.items c.in-Closed.classes
    c.in_ok-representatives-in-Closed.representatives.items c.requires.table
    (closes c.args.nodes.items c.as_slice.result.now c.args.pairs.items c.in_ok-pair.field-0 (outcome.Closed c.in-Closed.classes)
    c.as_slice.ensures.value c.in-Closed.is c.in_ok-pair.ensures)
    c.in_ok-representatives-in-Closed.ensures.sized c.in_ok-representatives-in-Closed.ensures.class))

pub arrange-requires-clause-fixed : goal.arrange-requires-clause-fixed
arrange-requires-clause-fixed c =
    subst (λ (cs : List ℕ). (k : ℕ) → k < length (map shape_of c.args.nodes.items) → class_of cs (class_of cs k) ≡ class_of cs k)
    (sym c.as_slice-in-Closed.ensures.value)
    (closed_fixed (map shape_of c.args.nodes.items) c.args.pairs.items c.in_ok-representatives-in-Closed.representatives.items
    (closed_classes (map shape_of c.args.nodes.items) c.args.pairs.items c.in-Closed.classes
    c.in_ok-representatives-in-Closed.representatives.items c.requires.table
    (closes c.args.nodes.items c.as_slice.result.now c.args.pairs.items c.in_ok-pair.field-0 (outcome.Closed c.in-Closed.classes)
    c.as_slice.ensures.value c.in-Closed.is c.in_ok-pair.ensures)
    c.in_ok-representatives-in-Closed.ensures.sized c.in_ok-representatives-in-Closed.ensures.class))

pub returns-in-Apart : goal.returns-in-Apart
returns-in-Apart c = λ equations hold.
    apart_collides equations (map shape_of c.args.nodes.items) c.in-Apart.pair c.requires.table
    (closes c.args.nodes.items c.as_slice.result.now c.args.pairs.items c.in_ok-pair.field-0 (outcome.Apart c.in-Apart.pair)
    c.as_slice.ensures.value c.in-Apart.is c.in_ok-pair.ensures equations hold)

pub returns-in_ok-representatives-in-Closed : goal.returns-in_ok-representatives-in-Closed
returns-in_ok-representatives-in-Closed c =
    IfOk-weaker c.arrange.result (ArrangesOr (map shape_of c.args.nodes.items) c.as_slice-in-Closed.result.now)
    (λ s. (equations : List Equation) → Each (PairIsEqual equations (trees (map shape_of c.args.nodes.items))) c.args.pairs.items
    → SolvesOr equations (map shape_of c.args.nodes.items) c.args.pairs.items s)
    (λ s a equations hold.
    arranges_solves equations (map shape_of c.args.nodes.items) c.args.pairs.items c.as_slice-in-Closed.result.now s c.requires.table
    (each_within_ss c.args.nodes.items c.args.pairs.items c.requires.pairs)
    (subst (IsClosed equations (map shape_of c.args.nodes.items) c.args.pairs.items) (sym c.as_slice-in-Closed.ensures.value)
    (closed_classes (map shape_of c.args.nodes.items) c.args.pairs.items c.in-Closed.classes
    c.in_ok-representatives-in-Closed.representatives.items c.requires.table
    (closes c.args.nodes.items c.as_slice.result.now c.args.pairs.items c.in_ok-pair.field-0 (outcome.Closed c.in-Closed.classes)
    c.as_slice.ensures.value c.in-Closed.is c.in_ok-pair.ensures)
    c.in_ok-representatives-in-Closed.ensures.sized c.in_ok-representatives-in-Closed.ensures.class equations hold)) a)
    c.arrange.ensures
