use Rattle.std.proofs.Common.{◌∷◌, ◌++◌, ◌+◌, [], map, take, sym, ap, ◌∙◌}
use Rattle.std.proofs.lemmas.List.{map_more}
use Rattle.cu_types.proofs.ReadTypes.{stand_read}
use Rattle.cu_types.proofs.reader.Reader.read_all.Goals as goal
use Rattle.cu_types.specs.Inside.Reading.{shapes}
use Rattle.cu_types.specs.Meaning.{equation_of}
use Rattle.cu_types.specs.declared.equation.Equation as code

pub loop-equation-preserved : goal.loop-equation-preserved
loop-equation-preserved c =
    let xs = c.args.equations.now in
    let i = c.loop-equation.equation-index in
    record {
      reader = c.in_ok-right.ensures.reader;
      stand = stand_read (shapes c.loop-equation.self) (shapes c.read.new.self) (shapes c.read-in-loop-equation.new.self)
          c.loop-equation.pairs.items c.push.new.self.items (map equation_of (take i xs)) (map equation_of (take (i + 1) xs))
          (equation_of c.equation-item.result) c.in_ok-left.left c.in_ok-right.right c.loop-equation.invariant.stand
          c.in_ok-left.ensures.read c.in_ok-right.ensures.read c.in_ok-push.ensures.items
          (map_more equation_of xs i c.equation-item.result c.loop-equation-test.true
          ∙ ap (λ (e : code.Equation). map equation_of (take i xs) ++ equation_of e ∷ []) (sym c.equation-item.is));
    }
