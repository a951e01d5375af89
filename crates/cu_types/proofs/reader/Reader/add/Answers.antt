use Rattle.std.proofs.Common.{length, map, arith, ◌≡◌, ◌<◌}
use Rattle.std.proofs.lemmas.List.{get_or_read}
use Rattle.cu_types.proofs.Adding.{read_one, read_sized}
use Rattle.cu_types.specs.Inside.Reading.{shapes}
use Rattle.cu_types.specs.Inside.Replacing.{replaced_by}
use Rattle.cu_types.specs.Table.{shape_of}
use Rattle.cu_types.specs.Types.{apply}
use Rattle.cu_types.proofs.reader.Reader.add.Goals as goal

pub add_all-requires-clause-reader : goal.add_all-requires-clause-reader
add_all-requires-clause-reader c = c.requires.reader

pub add_all-requires-clause-stands : goal.add_all-requires-clause-stands
add_all-requires-clause-stands c = c.requires.stands

pub add_all-requires-clause-table : goal.add_all-requires-clause-table
add_all-requires-clause-table c = c.open-opened.ensures.table

pub index-requires : goal.index-requires
index-requires c =
    let sized : length c.in_ok-places.places.items ≡ length (map shape_of c.open-opened.result.types.now) =
    read_sized (shapes c.args.self.now) (shapes c.add_all.new.self) (map shape_of c.open-opened.result.types.now)
    (apply (replaced_by (shapes c.args.self.now) c.args.by)) c.in_ok-places.places.items c.in_ok-places.ensures.read in
    let within : c.open-opened.result.place < length (map shape_of c.open-opened.result.types.now) = c.open-opened.ensures.within in
    omega (arith, sized, within, c.in_ok-places.places.ok.0)

pub returns-clause-reader : goal.returns-clause-reader
returns-clause-reader c = c.in_ok-places.ensures.reader

pub returns-clause-read : goal.returns-clause-read
returns-clause-read c =
    let sized : length c.in_ok-places.places.items ≡ length (map shape_of c.open-opened.result.types.now) =
    read_sized (shapes c.args.self.now) (shapes c.add_all.new.self) (map shape_of c.open-opened.result.types.now)
    (apply (replaced_by (shapes c.args.self.now) c.args.by)) c.in_ok-places.places.items c.in_ok-places.ensures.read in
    let within : c.open-opened.result.place < length (map shape_of c.open-opened.result.types.now) = c.open-opened.ensures.within in
    let inside : c.open-opened.result.place < length c.in_ok-places.places.items = omega (arith, sized, within) in
    read_one (shapes c.args.self.now) (shapes c.add_all.new.self) (map shape_of c.open-opened.result.types.now)
    (apply (replaced_by (shapes c.args.self.now) c.args.by)) c.in_ok-places.places.items c.open-opened.result.place c.index.result.now
    c.args.shared.now c.in_ok-places.ensures.read within
    (get_or_read c.in_ok-places.places.items c.open-opened.result.place c.index.result.now inside c.index.ensures 0) c.open-opened.ensures.value
