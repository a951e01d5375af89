-- Types of constructors' arguments.
use Rattle.std.proofs.Common.{◌≡◌, ℕ, List, [], ◌∷◌, length, map, refl, sym, ap, ◌∙◌}
use Rattle.cu_kernel.specs.Kernel.{Synonym}
use Rattle.cu_kernel.specs.KernelOf.{synonym_meaning}
use Rattle.cu_kernel.specs.TypesOf.{type_of}
use Rattle.cu_kernel.specs.declared.declarations.Synonym as declared
use Rattle.cu_kernel.specs.declared.type_term.TypeTerm.{TypeTerm}
use Rattle.cu_flattext.specs.Inside.TypeTasks.{texts_in}
use Rattle.cu_flattext.specs.Naming.{Lowered, separated}
use Rattle.cu_flattext.specs.TypeTexts.{expanded, expanded_within, type_text, type_variables}
use Rattle.cu_flattext.proofs.CircleLemmas.{mapped_length}

texts_listed : (program : Lowered) (depth arity : ℕ) (ts : List TypeTerm)
    → texts_in program (record { depth = depth; variables = type_variables arity }) ts
    ≡ map (type_text program (expanded_within depth program) (type_variables arity)) (map type_of ts)
texts_listed program depth arity [] = refl
texts_listed program depth arity (t ∷ ts) =
    ap (λ (xs : List (List ℕ)). type_text program (expanded_within depth program) (type_variables arity) (type_of t) ∷ xs) (texts_listed program depth arity ts)

-- the types of a constructor's arguments, in which any synonyms that there are may be inside one
-- another
pub fields_listed : (program : Lowered) (arity : ℕ) (ys : List declared.Synonym) (ts items : List TypeTerm)
    → map synonym_meaning ys ≡ program.kernel.synonyms → ts ≡ items
    → separated (texts_in program (record { depth = length ys; variables = type_variables arity }) ts)
    ≡ separated (map (type_text program (expanded program) (type_variables arity)) (map type_of items))
fields_listed program arity ys ts items is same =
    ap (λ (us : List TypeTerm). separated (texts_in program (record { depth = length ys; variables = type_variables arity }) us)) same
    ∙ ap separated (texts_listed program (length ys) arity items)
    ∙ ap (λ n. separated (map (type_text program (expanded_within n program) (type_variables arity)) (map type_of items)))
    (sym (mapped_length synonym_meaning ys) ∙ ap (λ (zs : List Synonym). length zs) is)
