use Rattle.std.proofs.Common.{◌<◌, List, Option, length, map, sym, ap, ◌∙◌, subst}
use Rattle.cu_types.proofs.GroupSteps.{left_one, numbers_within, stays_none}
use Rattle.cu_types.specs.Inside.Grouping.{left_with}
use Rattle.cu_types.specs.Meaning.{subst_of, types_of_subst}
use Rattle.cu_types.specs.Table.{IsTable, Shape, shape_of}
use Rattle.cu_types.specs.declared.known.Numbers.{Numbers}
use Rattle.cu_types.proofs.group.Inference.leave_function.Goals as goal

pub function_type-requires-clause-table : goal.function_type-requires-clause-table
function_type-requires-clause-table c = c.requires.table

pub function_type-requires-clause-places : goal.function_type-requires-clause-places
function_type-requires-clause-places c = c.requires.places

pub numbered-requires-clause-table : goal.numbered-requires-clause-table
numbered-requires-clause-table c = subst IsTable (sym c.types.ensures) c.in_ok-place.ensures.table

pub numbered-requires-clause-within : goal.numbered-requires-clause-within
numbered-requires-clause-within c =
    subst (λ (ss : List Shape). c.in_ok-place.place < length ss) (sym c.types.ensures) c.in_ok-place.ensures.within

pub bounds-known-f : goal.bounds-known-f
bounds-known-f c =
    numbers_within c.args.known.now c.args.f.0 c.in-Some.own (sym c.numbers_at.ensures ∙ c.in-Some.is)

pub returns-clause-known : goal.returns-clause-known
returns-clause-known c =
    left_one (subst_of c.args.subst.now) c.args.f c.args.known.now c.in-Some.own c.in_ok-place.place (types_of_subst c.function_type.new.self)
    (map shape_of c.types.result.now) c.in_ok-shared.shared (sym c.numbers_at.ensures ∙ c.in-Some.is) c.types.ensures c.in_ok-place.ensures.value
    c.in_ok-shared.ensures

pub returns-clause-stays : goal.returns-clause-stays
returns-clause-stays c =
    record { table = c.in_ok-place.ensures.table; places = c.in_ok-place.ensures.places; same = c.in_ok-place.ensures.same }

pub returns-in_default-clause-known : goal.returns-in_default-clause-known
returns-in_default-clause-known c =
    sym (ap (λ (o : Option Numbers). left_with (subst_of c.args.subst.now) c.args.f o c.args.known.now) (sym c.numbers_at.ensures ∙ c.in_default.is))

pub returns-in_default-clause-stays : goal.returns-in_default-clause-stays
returns-in_default-clause-stays c = stays_none c.args.subst.now c.requires.table c.requires.places
