use Rattle.std.proofs.Common.{◌<◌, length, sym, arith}
use Rattle.std.proofs.lemmas.List.{get_or_read}
use Rattle.cu_types.proofs.KeepingLemmas.{own_variable, placed_variable}
use Rattle.cu_types.proofs.TableLemmas.{mapped_length}
use Rattle.cu_types.proofs.keeping.variable.Goals as goal
use Rattle.cu_types.specs.Meaning.{types_of_subst}
use Rattle.cu_types.specs.Table.{shape_of}

pub index-requires : goal.index-requires
index-requires c =
    let within : c.in-Some.place < length (types_of_subst c.args.subst.now) =
    c.requires.places c.args.x c.in-Some.place (sym c.in-Some.ensures) in
    omega (arith, within, mapped_length shape_of c.args.subst.now.types.items, c.args.subst.now.types.ok.0)

pub returns-in-Some : goal.returns-in-Some
returns-in-Some c =
    let within : c.in-Some.place < length (types_of_subst c.args.subst.now) =
    c.requires.places c.args.x c.in-Some.place (sym c.in-Some.ensures) in
    let inside : c.in-Some.place < length c.args.subst.now.types.items =
    omega (arith, within, mapped_length shape_of c.args.subst.now.types.items) in
    placed_variable c.args.subst.now c.args.x c.in-Some.place c.index.result.now c.variable_at.result c.requires.table c.requires.places
    (sym c.in-Some.ensures)
    (get_or_read c.args.subst.now.types.items c.in-Some.place c.index.result.now inside c.index.ensures c.index.result.now)
    c.variable_at.ensures

pub returns-in-None : goal.returns-in-None
returns-in-None c = own_variable c.args.subst.now c.args.x (sym c.in-None.ensures)
