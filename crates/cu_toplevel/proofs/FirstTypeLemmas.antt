-- The data types that are built in.
use Rattle.std.proofs.Common.{◌≡◌, ◌∙◌, ℕ, ◌+◌, zero, suc, List, [], ◌∷◌, ◌++◌, append_assoc, map, sym, ap, arith, codes}
use Rattle.std.proofs.lemmas.List.{map-append}
use Rattle.cu_kernel.specs.declared.declarations.DataType.{DataType}
use Rattle.cu_kernel.specs.Kernel as kernel
use Rattle.cu_kernel.specs.KernelOf.{type_meaning}
use Rattle.cu_kernel.specs.TypeExpr.{Variable}
use Rattle.cu_toplevel.specs.Inside.FirstTypes.{list_type}
use Rattle.cu_translation.specs.ModuleTypes.{Reading, data_type, first_types, tuple_type, variables_from}
use Rattle.cu_translation.specs.Numbered.{tuple_sizes}

-- ---- type variables

-- one variable more stands after the others
after : (n k : ℕ) → variables_from (suc n) k ≡ variables_from n k ++ Variable (k + n) ∷ []
after zero k = ap (λ m. Variable m ∷ []) (omega arith)
after (suc n) k = ap (λ ts. Variable k ∷ ts) (after n (k + 1) ∙ ap (λ m. variables_from n (k + 1) ++ Variable m ∷ []) (omega arith))

pub variables_more : (n : ℕ) → variables_from n 0 ++ Variable n ∷ [] ≡ variables_from (n + 1) 0
variables_more n =
    let count : suc n ≡ n + 1 = omega arith in
    let place : 0 + n ≡ n = omega arith in
    ap (λ m. variables_from n 0 ++ Variable m ∷ []) (sym place) ∙ sym (after n 0) ∙ ap (λ m. variables_from m 0) count

-- ---- all types

one_after : (before after : List DataType) (t : DataType) (meant : kernel.DataType) (all : List kernel.DataType) → after ≡ before ++ t ∷ [] → type_meaning t ≡ meant → map type_meaning before ≡ all
    → map type_meaning after ≡ all ++ meant ∷ []
one_after before after t meant all pushed is same =
    ap (map type_meaning) pushed ∙ map-append type_meaning before (t ∷ []) ∙ λ j. same j ++ is j ∷ []

pub first_are : (r : Reading) (lists : DataType) (one tuples more all : List DataType) (int char : DataType) → one ≡ lists ∷ [] → type_meaning lists ≡ list_type r
    → map type_meaning tuples ≡ map type_meaning one ++ map (tuple_type r) (0 ∷ tuple_sizes) → more ≡ tuples ++ int ∷ [] → type_meaning int ≡ data_type r (codes "Int") 0 []
    → all ≡ more ++ char ∷ [] → type_meaning char ≡ data_type r (codes "Char") 0 [] → map type_meaning all ≡ first_types r
first_are r lists one tuples more all int char made lists_are tuples_are with_int int_is with_char char_is =
    let before : map type_meaning tuples ≡ list_type r ∷ map (tuple_type r) (0 ∷ tuple_sizes) =
    tuples_are ∙ ap (λ (ts : List DataType). map type_meaning ts ++ map (tuple_type r) (0 ∷ tuple_sizes)) made ∙ ap (λ (t : kernel.DataType). t ∷ map (tuple_type r) (0 ∷ tuple_sizes)) lists_are in
    one_after more all char (data_type r (codes "Char") 0 []) _ with_char char_is (one_after tuples more int (data_type r (codes "Int") 0 []) _ with_int int_is before)
    ∙ append_assoc (list_type r ∷ map (tuple_type r) (0 ∷ tuple_sizes)) (data_type r (codes "Int") 0 [] ∷ []) (data_type r (codes "Char") 0 [] ∷ [])
