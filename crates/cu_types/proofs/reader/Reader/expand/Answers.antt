use Rattle.std.proofs.Common.{◌≡◌, ◌<◌, List, length, map, sym, subst, arith}
use Rattle.std.proofs.lemmas.List.{get_or_read}
use Rattle.cu_kernel.specs.TypesOf.{type_of}
use Rattle.cu_types.proofs.Adding.{read_one}
use Rattle.cu_types.proofs.SynonymLemmas.{all_read_count}
use Rattle.cu_types.proofs.reader.Reader.expand.Goals as goal
use Rattle.cu_types.specs.Inside.Reading.{AllRead, shapes}
use Rattle.cu_types.specs.Synonyms.{expanded_by}
use Rattle.cu_types.specs.Table.{IsTable, at, shape_of, trees}
use Rattle.cu_types.specs.declared.node.Node.{Node}

pub expand_all-requires-clause-table : goal.expand_all-requires-clause-table
expand_all-requires-clause-table c =
    subst (λ (nodes : List Node). IsTable (map shape_of nodes)) (sym c.as_slice.ensures.value) c.in_ok-place.ensures.reader.table

pub index-requires : goal.index-requires
index-requires c =
    let all : AllRead (shapes c.args.self.now) (shapes c.expand_all.new.self)
    (map (expanded_by (at c.args.synonyms.now)) (trees (shapes c.read.new.self))) c.in_ok-places.places.items =
    subst (λ (nodes : List Node). AllRead (shapes c.args.self.now) (shapes c.expand_all.new.self)
    (map (expanded_by (at c.args.synonyms.now)) (trees (map shape_of nodes))) c.in_ok-places.places.items)
    c.as_slice.ensures.value c.in_ok-places.ensures.read in
    let sized : length c.in_ok-places.places.items ≡ length (shapes c.read.new.self) =
    all_read_count (shapes c.args.self.now) (shapes c.expand_all.new.self) (shapes c.read.new.self)
    (expanded_by (at c.args.synonyms.now)) c.in_ok-places.places.items all in
    let within : c.in_ok-place.place < length (shapes c.read.new.self) = c.in_ok-place.ensures.read.within in
    omega (arith, sized, within, c.in_ok-places.places.ok.0)

pub returns-clause-read : goal.returns-clause-read
returns-clause-read c =
    let all : AllRead (shapes c.args.self.now) (shapes c.expand_all.new.self)
    (map (expanded_by (at c.args.synonyms.now)) (trees (shapes c.read.new.self))) c.in_ok-places.places.items =
    subst (λ (nodes : List Node). AllRead (shapes c.args.self.now) (shapes c.expand_all.new.self)
    (map (expanded_by (at c.args.synonyms.now)) (trees (map shape_of nodes))) c.in_ok-places.places.items)
    c.as_slice.ensures.value c.in_ok-places.ensures.read in
    let sized : length c.in_ok-places.places.items ≡ length (shapes c.read.new.self) =
    all_read_count (shapes c.args.self.now) (shapes c.expand_all.new.self) (shapes c.read.new.self)
    (expanded_by (at c.args.synonyms.now)) c.in_ok-places.places.items all in
    let within : c.in_ok-place.place < length (shapes c.read.new.self) = c.in_ok-place.ensures.read.within in
    read_one (shapes c.args.self.now) (shapes c.expand_all.new.self) (shapes c.read.new.self) (expanded_by (at c.args.synonyms.now))
    c.in_ok-places.places.items c.in_ok-place.place c.index.result.now (type_of c.args.term.now) all within
    (get_or_read c.in_ok-places.places.items c.in_ok-place.place c.index.result.now (omega (arith, sized, within)) c.index.ensures 0)
    c.in_ok-place.ensures.read.value
