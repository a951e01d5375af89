use Rattle.std.proofs.Common.{IfOk, sym, subst}
use Rattle.cu_types.specs.Inside.Reading.{Reads, shapes}
use Rattle.cu_types.specs.Inside.Replacing.{Stands, replaced_by}
use Rattle.cu_types.specs.declared.replacing.Replacing.{Replacing}
use Rattle.cu_types.proofs.reader.Reader.replaced.Goals as goal

pub parameter-requires-clause-reader : goal.parameter-requires-clause-reader
parameter-requires-clause-reader c = c.requires.reader

pub parameter-requires-clause-stands : goal.parameter-requires-clause-stands
parameter-requires-clause-stands c = subst (Stands (shapes c.args.self.now)) c.in-Parameters.is c.requires.stands

pub returns-in-Shift-clause-reader : goal.returns-in-Shift-clause-reader
returns-in-Shift-clause-reader c = c.shifted.ensures.reader

pub returns-in-Shift-clause-read : goal.returns-in-Shift-clause-read
returns-in-Shift-clause-read c =
    subst (λ (r : Replacing). IfOk c.shifted.result (Reads (shapes c.args.self.now) (shapes c.shifted.new.self)
    (replaced_by (shapes c.args.self.now) r c.args.x))) (sym c.in-Shift.is) c.shifted.ensures.read

pub returns-in-Parameters-clause-reader : goal.returns-in-Parameters-clause-reader
returns-in-Parameters-clause-reader c = c.parameter.ensures.reader

pub returns-in-Parameters-clause-read : goal.returns-in-Parameters-clause-read
returns-in-Parameters-clause-read c =
    subst (λ (r : Replacing). IfOk c.parameter.result (Reads (shapes c.args.self.now) (shapes c.parameter.new.self)
    (replaced_by (shapes c.args.self.now) r c.args.x))) (sym c.in-Parameters.is) c.parameter.ensures.read
