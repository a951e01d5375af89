use Rattle.std.proofs.Common.{length, refl}
use Rattle.std.proofs.lemmas.Option.{slice_get_past, slice_get_read}
use Rattle.cu_types.proofs.Adding.{parameter_itself, parameter_read}
use Rattle.cu_types.specs.Inside.Reading.{shapes}
use Rattle.cu_types.proofs.reader.Reader.parameter.Goals as goal

pub returns-in-Some-clause-reader : goal.returns-in-Some-clause-reader
returns-in-Some-clause-reader c = c.requires.reader

pub returns-in-Some-clause-read : goal.returns-in-Some-clause-read
returns-in-Some-clause-read c =
    let found = c.in-Some.ensures.lookup in
    let ps = c.args.places.now in
    parameter_read (shapes c.args.self.now) ps c.args.x c.in-Some.place.now
    (slice_get_read ps (length ps) c.args.x c.in-Some.place.now refl found.3.0 found.1) c.requires.stands

pub returns-clause-reader : goal.returns-clause-reader
returns-clause-reader c = c.in_ok-place.ensures.reader

pub returns-clause-read : goal.returns-clause-read
returns-clause-read c =
    parameter_itself (shapes c.args.self.now) (shapes c.variable.new.self) c.args.places.now c.args.x c.in_ok-place.place
    (slice_get_past c.args.places.now c.args.x c.in_default.ensures.lookup.3) c.in_ok-place.ensures.read
