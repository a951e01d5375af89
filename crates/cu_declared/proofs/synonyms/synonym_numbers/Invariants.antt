use Rattle.std.proofs.Common.{ℕ, List, map}
use Rattle.std.specs.List.{All}
use Rattle.cu_names.specs.declared.names.NameId.{NameId}
use Rattle.cu_names.specs.Texts.{AllDiffer, IsKnown, text_of}
use Rattle.cu_declared.specs.declared.numbers.Numbers.{Numbers}
use Rattle.cu_declared.specs.Inside.Numbers.{Gains, Have}
use Rattle.cu_declared.specs.Inside.Synonyms.{SynonymIsOf, kept_by, kept_numbers}
use Rattle.cu_declared.proofs.SynonymLemmas.{numbers_left}
use Rattle.cu_declared.proofs.synonyms.synonym_numbers.Given as goal

abbrev pub invariant-loop-number : goal.invariant-loop-number
invariant-loop-number l =
    (owner : NameId) (names : List (List ℕ)) (after : Numbers) → AllDiffer names → IsKnown names l.owner → All (SynonymIsOf owner names) l.synonyms
    → Gains names l.numbers (numbers_left names l.owner l.synonyms l.number) after → Have names (kept_numbers 0 (text_of names l.owner) (map (kept_by names) l.synonyms)) after
