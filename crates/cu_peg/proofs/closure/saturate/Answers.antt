use Rattle.std.proofs.Common.{◌<◌, ◌∙◌, sym, ap, subst, length, arith, refl, set, true, Bool, ℕ, List, length-set}
use Rattle.std.proofs.lemmas.Option.{slice_get_within}
use Rattle.cu_peg.specs.Inside.Closure.{begun, joined, marked, Derived, MayJoin}
use Rattle.cu_peg.proofs.ClosureLemmas.{unmarked-set}
use Rattle.cu_peg.proofs.closure.saturate.Goals as goal

pub loop-number-init : goal.loop-number-init
loop-number-init c = record {
  derived = subst (λ (o : List ℕ). Derived c.args.conditions.now c.args.marks.items c.args.marks.items o) (sym c.new-order.ensures.items) begun;
  as_many = sym c.args.marks.ok.0 ∙ c.requires;
}

pub index_mut-requires : goal.index_mut-requires
index_mut-requires c =
    let joins = c.in-Some.ensures.some in
    omega (arith, slice_get_within c.args.conditions.now c.in-Some.number joins.condition joins.is, c.loop-number.invariant.as_many, c.loop-number.marks.ok.0)

pub loop-number-smaller : goal.loop-number-smaller
loop-number-smaller c =
    let joins = c.in-Some.ensures.some in
    let within : c.in-Some.number < length c.loop-number.marks.items =
    omega (arith, slice_get_within c.args.conditions.now c.in-Some.number joins.condition joins.is, c.loop-number.invariant.as_many) in
    unmarked-set c.loop-number.marks.items c.in-Some.number within (ap (λ (ms : List Bool). marked ms c.in-Some.number) (sym c.as_slice.ensures.value) ∙ joins.new)

pub loop-number-preserved : goal.loop-number-preserved
loop-number-preserved c =
    let joins = subst (λ (ms : List Bool). MayJoin c.args.conditions.now ms c.in-Some.number) c.as_slice.ensures.value c.in-Some.ensures.some in
    record {
      derived = joined c.loop-number.marks.items (set c.loop-number.marks.items c.in-Some.number true) c.loop-number.order.items c.push.new.self.items
          c.in-Some.number c.loop-number.invariant.derived joins refl c.in_ok-push.ensures.items;
      as_many = length-set c.loop-number.marks.items c.in-Some.number true ∙ c.loop-number.invariant.as_many;
    }
