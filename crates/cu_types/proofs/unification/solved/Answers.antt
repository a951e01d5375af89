use Rattle.std.proofs.Common.{◌<◌, ℕ, length, map, nat_eq, subst}
use Rattle.indexmap.specs.IndexMap.{get}
use Rattle.cu_types.proofs.Joins.{each_within_converse}
use Rattle.cu_types.proofs.ReadTypes.{most_general_places, pairs_equal, stand_within}
use Rattle.cu_types.proofs.TableLemmas.{mapped_length, place_within}
use Rattle.cu_types.proofs.unification.solved.Goals as goal
use Rattle.cu_types.specs.Inside.Reading.{shapes}
use Rattle.cu_types.specs.Inside.Solving.{IsCollision, IsSolution, SolvesOr}
use Rattle.cu_types.specs.Table.{shape_of}

pub solve-requires-clause-table : goal.solve-requires-clause-table
solve-requires-clause-table c = c.requires.reader.table

pub solve-requires-clause-pairs : goal.solve-requires-clause-pairs
solve-requires-clause-pairs c =
    each_within_converse c.args.reader.nodes.items c.args.pairs.items
    (stand_within (shapes c.args.reader) c.args.pairs.items c.requires.stand.0 c.requires.stand.1)

pub returns-in-Solution : goal.returns-in-Solution
returns-in-Solution c = λ equations stand.
    let ss = shapes c.args.reader in
    let solution : IsSolution equations ss c.args.pairs.items c.in-Solution.places.items (map shape_of c.in-Solution.types.items) =
    subst (SolvesOr equations ss c.args.pairs.items) c.in-Solution.is
    (c.in_ok-places.ensures equations (pairs_equal ss equations c.args.pairs.items stand)) in (
      most_general_places (get nat_eq c.args.reader.variables) equations ss c.args.pairs.items c.in-Solution.places.items
          (map shape_of c.in-Solution.types.items) c.requires.reader stand solution,
      solution.table,
      λ x p. place_within c.in-Solution.places.items (get nat_eq c.args.reader.variables x) p (length ss) (length (map shape_of c.in-Solution.types.items)) solution.sized
          solution.within,
    )

pub returns-in-Clash : goal.returns-in-Clash
returns-in-Clash c = λ equations stand.
    let ss = shapes c.args.reader in
    let collision : IsCollision equations (map shape_of c.in-Clash.types.items) c.in-Clash.pair =
    subst (SolvesOr equations ss c.args.pairs.items) c.in-Clash.is
    (c.in_ok-places.ensures equations (pairs_equal ss equations c.args.pairs.items stand)) in
    record {
      table = collision.table;
      left_within = subst (λ (n : ℕ). c.in-Clash.pair.left < n) (mapped_length shape_of c.in-Clash.types.items) collision.within.0;
      right_within = subst (λ (n : ℕ). c.in-Clash.pair.right < n) (mapped_length shape_of c.in-Clash.types.items) collision.within.1;
      clash = collision.clash;
    }
