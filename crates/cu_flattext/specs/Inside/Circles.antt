-- Which synonyms are known to lead to a goal.
use Rattle.std.specs.Prelude.{Bool, false, ◌||◌, List, [], ◌∷◌, slice_index_or}
use denote.Ref.{Bor}
use Rattle.cu_kernel.specs.Kernel.{Synonym}
use Rattle.cu_kernel.specs.TypesOf.{type_of}
use Rattle.cu_kernel.specs.declared.type_term.SynonymId.{SynonymId}
use Rattle.cu_kernel.specs.declared.type_term.TypeName.{TypeName}
use Rattle.cu_kernel.specs.declared.type_term.TypeName.TheVariants as named
use Rattle.cu_kernel.specs.declared.type_term.TypeTerm.{TypeTerm}
use Rattle.cu_flattext.specs.TypeTexts.{some_synonym}

-- whether a synonym is known to lead to the goal, by a list that says so for each
abbrev pub is_known : List Bool → SynonymId → Bool
is_known known s = slice_index_or known s.0 false

-- whether a name is that of a synonym that passes a test
abbrev pub name_passes : (SynonymId → Bool) → TypeName → Bool
name_passes test (named.Data t) = false
name_passes test (named.Synonym s) = test s

-- whether some synonym in one of these types passes a test
abbrev pub some_left : (SynonymId → Bool) → List (Bor TypeTerm) → Bool
some_left test [] = false
some_left test (t ∷ ts) = some_synonym test (type_of t.now) || some_left test ts

-- whether some synonym in the type that a synonym stands for passes a test
abbrev pub leads_on : (SynonymId → Bool) → Synonym → Bool
leads_on test s = some_synonym test s.body
