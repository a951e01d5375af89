use Rattle.std.proofs.Common.{◌+◌, List, map, take, subst}
use Rattle.cu_kernel.specs.TypesOf.{type_of}
use Rattle.cu_kernel.specs.declared.type_term.TypeTerm.{TypeTerm}
use Rattle.cu_types.proofs.Adding.{all_read_more}
use Rattle.cu_types.proofs.BuiltInLemmas.{map_next, none_read_of}
use Rattle.cu_types.proofs.SynonymLemmas.{taken_all}
use Rattle.cu_types.proofs.reader.Reader.expand_terms.Goals as goal
use Rattle.cu_types.specs.Inside.Reading.{AllRead, shapes}
use Rattle.cu_types.specs.Synonyms.{expanded_by}
use Rattle.cu_types.specs.Table.{at}

pub loop-term-init : goal.loop-term-init
loop-term-init c = record {
  reader = c.requires;
  read = none_read_of (shapes c.args.self.now) (λ t. expanded_by (at c.args.synonyms.now) (type_of t)) c.args.terms.now
      c.new-places.result.items c.new-places.ensures.items;
}

pub loop-term-preserved : goal.loop-term-preserved
loop-term-preserved c =
    let f = λ (t : TypeTerm). expanded_by (at c.args.synonyms.now) (type_of t) in
    let i = c.loop-term.term-index in
    record {
      reader = c.in_ok-place.ensures.reader;
      read = all_read_more (shapes c.args.self.now) (shapes c.loop-term.self) (shapes c.expand.new.self)
          (map f (take i c.args.terms.now)) (map f (take (i + 1) c.args.terms.now)) (f c.term-item.result) c.loop-term.places.items
          c.push.new.self.items c.in_ok-place.place
          (map_next f c.args.terms.now i c.term-item.result c.loop-term-test.true c.term-item.is)
          c.in_ok-push.ensures.items c.loop-term.invariant.read c.in_ok-place.ensures.read;
    }

pub returns-clause-read : goal.returns-clause-read
returns-clause-read c =
    subst (λ (ts : List TypeTerm). AllRead (shapes c.args.self.now) (shapes c.loop-term.self)
    (map (λ t. expanded_by (at c.args.synonyms.now) (type_of t)) ts) c.loop-term.places.items)
    (taken_all c.loop-term.term-index c.args.terms.now c.loop-term-test.false) c.loop-term.invariant.read
