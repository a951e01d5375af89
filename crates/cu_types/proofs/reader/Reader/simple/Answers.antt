use Rattle.std.proofs.Common.{List, ℕ, map, sym, subst}
use Rattle.cu_types.proofs.reader.Reader.simple.Goals as goal
use Rattle.cu_types.specs.BuiltInTypes.{data_type}
use Rattle.cu_types.specs.Inside.Building.{simple_type}
use Rattle.cu_types.specs.Inside.Reading.{Reads, shapes}
use Rattle.cu_types.specs.Table.{at, trees}
use Rattle.cu_types.specs.declared.builtin.Simple.{Simple}

pub returns-in_ok-place-in-Any-clause-read : goal.returns-in_ok-place-in-Any-clause-read
returns-in_ok-place-in-Any-clause-read c =
    subst (λ (s : Simple). Reads (shapes c.args.self.now) (shapes c.variable.new.self) (simple_type s) c.in_ok-place-in-Any.place)
    (sym c.in-Any.is) c.in_ok-place-in-Any.ensures.read

pub returns-in_ok-place-in-Data-clause-read : goal.returns-in_ok-place-in-Data-clause-read
returns-in_ok-place-in-Data-clause-read c =
    subst (λ (s : Simple). Reads (shapes c.args.self.now) (shapes c.apply.new.self) (simple_type s) c.in_ok-place-in-Data.place)
    (sym c.in-Data.is)
    (subst (λ (xs : List ℕ). Reads (shapes c.args.self.now) (shapes c.apply.new.self)
    (data_type c.in-Data.data_type (map (at (trees (shapes c.args.self.now))) xs)) c.in_ok-place-in-Data.place)
    c.new.ensures.items c.in_ok-place-in-Data.ensures.read)
