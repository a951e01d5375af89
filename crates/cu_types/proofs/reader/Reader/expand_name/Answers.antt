use Rattle.std.proofs.Common.{◌≡◌, ◌<◌, ℕ, List, Some, length, map, slice_get, sym, subst}
use Rattle.cu_kernel.specs.TypeExpr.{TypeExpr}
use Rattle.cu_types.proofs.SynonymLemmas.{data_expanded, synonym_expanded}
use Rattle.cu_types.proofs.reader.Reader.expand_name.Goals as goal
use Rattle.cu_types.specs.Inside.Expanding.{name_expanded}
use Rattle.cu_types.specs.Inside.Reading.{Reads, shapes}
use Rattle.cu_types.specs.Table.{at, trees}

pub expand_synonym-requires-clause-within : goal.expand_synonym-requires-clause-within
expand_synonym-requires-clause-within c =
    subst (λ (xs : List ℕ). (k a : ℕ) → slice_get xs k ≡ Some a → a < length (shapes c.args.self.now)) (sym c.as_slice.ensures.value)
    c.requires.within

pub returns-in_ok-place-in-Data-clause-read : goal.returns-in_ok-place-in-Data-clause-read
returns-in_ok-place-in-Data-clause-read c =
    subst (λ (t : TypeExpr). Reads (shapes c.args.self.now) (shapes c.apply.new.self) t c.in_ok-place-in-Data.place)
    (data_expanded (at c.args.synonyms.now) c.args.name c.in-Data.field-0 (map (at (trees (shapes c.args.self.now))) c.args.arguments.items)
    c.in-Data.is)
    c.in_ok-place-in-Data.ensures.read

pub returns-in_ok-place-in-Synonym-clause-read : goal.returns-in_ok-place-in-Synonym-clause-read
returns-in_ok-place-in-Synonym-clause-read c =
    subst (λ (xs : List ℕ). Reads (shapes c.args.self.now) (shapes c.expand_synonym.new.self)
    (name_expanded (at c.args.synonyms.now) c.args.name (map (at (trees (shapes c.args.self.now))) xs)) c.in_ok-place-in-Synonym.place)
    c.as_slice.ensures.value
    (subst (λ (t : TypeExpr). Reads (shapes c.args.self.now) (shapes c.expand_synonym.new.self) t c.in_ok-place-in-Synonym.place)
    (synonym_expanded (at c.args.synonyms.now) c.args.name c.in-Synonym.synonym
    (map (at (trees (shapes c.args.self.now))) c.as_slice.result.now) c.in-Synonym.is)
    c.in_ok-place-in-Synonym.ensures.read)
