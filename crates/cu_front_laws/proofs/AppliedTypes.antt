-- A type in which each name has its number of arguments is translated to one.
use Rattle.std.proofs.Common.{◌≡◌, ◌∙◌, ◌⊎◌, inl, inr, ◌+◌, ◌&&◌, ◌||◌, ℕ, Bool, true, false, List, [], ◌∷◌, Some, length, refl, sym, ap, subst, arith, codes}
use Rattle.std.proofs.lemmas.Bool.{and_from, both_ways}
use Rattle.std.proofs.lemmas.Bool.Decides.{Decides-eqb}
use Rattle.std.specs.List.{list_all, list_any}
use Rattle.std.specs.Prelude.{nat_eq}
use Rattle.cu_kernel.specs.Kernel.{Kernel}
use Rattle.cu_syntax.specs.Syntax as syntax
use Rattle.cu_syntax.specs.Syntax.{Alternatives, ConstructorDeclaration, Declaration, Declarations, Expression, Expressions, Goal, Guards, Item, MaybeExpression, OperatorRest, Qualifier, Qualifiers, RightSide, TypeTerm, TypeTerms}
use Rattle.cu_modules.specs.BuiltInEntities.{prelude_name}
use Rattle.cu_declared.specs.TypeUses as uses
use Rattle.cu_declared.specs.TypeUses.{TypeUse, type_uses, types_uses}
use Rattle.cu_translation.specs.Around.{Names, tuple_name}
use Rattle.cu_translation.specs.Numbered.{first_types, tuple_sizes}
use Rattle.cu_translation.specs.TypeTable.{fields_of, type_count, type_of, types_of}
use Rattle.cu_types.specs.Synonyms.{are_applied, is_applied, takes_arguments}
use Rattle.cu_types.specs.Types.{listed}
use Rattle.cu_front_laws.proofs.Members.{Every, In, every_in, every_left, every_right}
use Rattle.cu_front_laws.proofs.NarrowTexts.{NarrowType, NarrowTypes, is_size}
use Rattle.cu_front_laws.proofs.TypeArities.{first_arity}

-- ---- tuples that there are

abbrev HasSize : ℕ → Type 0
HasSize n = first_arity first_types prelude_name (tuple_name n) ≡ Some n

all_sizes : Every HasSize (0 ∷ tuple_sizes)
all_sizes = (refl, (refl, (refl, (refl, (refl, (refl, (refl, (refl, (refl, (refl, (refl, (refl, (refl, (refl, (refl, tt)))))))))))))))

any_in : (n : ℕ) (xs : List ℕ) → list_any (nat_eq n) xs ≡ true → In n xs
any_in n [] h = absurd (both_ways false refl h)
any_in n (x ∷ xs) h = by (nat_eq n x) refl h (any_in n xs)
  where
    by : (b : Bool) → nat_eq n x ≡ b → (b || list_any (nat_eq n) xs) ≡ true → ((list_any (nat_eq n) xs ≡ true) → In n xs) → (n ≡ x) ⊎ In n xs
    by true e h go = inl ((Decides-eqb n x).0 e)
    by false e h go = inr (go h)

-- the type of tuples of such a size has so many parameters
pub size_arity : (n : ℕ) → is_size n ≡ true → first_arity first_types prelude_name (tuple_name n) ≡ Some n
size_arity n h = every_in HasSize (0 ∷ tuple_sizes) all_sizes n (any_in n (0 ∷ tuple_sizes) h)

-- ---- types

-- what the name means takes its arguments
abbrev pub Takes : Kernel → Names → TypeUse → Type 0
Takes k names used = takes_arguments k (names.type used.name) used.arguments ≡ true

-- the types of lists and tuples take theirs
pub record TakeSigns (k : Kernel) (names : Names) : Type 0 where
  pub lists : takes_arguments k (names.prelude_type (codes "[]")) 1 ≡ true
  pub tuples : (n : ℕ) → is_size n ≡ true → takes_arguments k (names.prelude_type (tuple_name n)) n ≡ true

count_same : (ts : TypeTerms) → uses.type_count ts ≡ type_count ts
count_same syntax.NoType = refl
count_same (syntax.MoreTypes t ts) = ap (λ n. n + 1) (count_same ts)

length_listed : (names : Names) (variables : List (List ℕ)) (ts : TypeTerms) → length (listed (types_of names variables ts)) ≡ type_count ts
length_listed names variables syntax.NoType = refl
length_listed names variables (syntax.MoreTypes t ts) =
    let later = length_listed names variables ts in
    omega arith

module _ (k : Kernel) (names : Names) (signs : TakeSigns k names) (variables : List (List ℕ)) where
  mutual
    pub applied : (t : TypeTerm) → Every (Takes k names) (type_uses t) → NarrowType t → is_applied k (type_of names variables t) ≡ true
    applied (syntax.TypeVariable x) every narrow = refl
    applied (syntax.TypeNamed name ts) every narrow =
        let count : uses.type_count ts ≡ length (listed (types_of names variables ts)) = count_same ts ∙ sym (length_listed names variables ts) in
        and_from (takes_arguments k (names.type name) (length (listed (types_of names variables ts)))) (are_applied k (types_of names variables ts))
        (subst (λ (n : ℕ). takes_arguments k (names.type name) n ≡ true) count every.0) (all_applied ts every.1 narrow)
    applied (syntax.Arrow at s t) every narrow =
        and_from (is_applied k (type_of names variables s)) (is_applied k (type_of names variables t))
        (applied s (every_left (Takes k names) (type_uses s) (type_uses t) every) narrow.0)
        (applied t (every_right (Takes k names) (type_uses s) (type_uses t) every) narrow.1)
    applied (syntax.TypeTuple at ts) every narrow =
        and_from (takes_arguments k (names.prelude_type (tuple_name (type_count ts))) (length (listed (types_of names variables ts))))
        (are_applied k (types_of names variables ts))
        (subst (λ (n : ℕ). takes_arguments k (names.prelude_type (tuple_name (type_count ts))) n ≡ true) (sym (length_listed names variables ts))
        (signs.tuples (type_count ts) narrow.0)) (all_applied ts every narrow.1)
    applied (syntax.TypeList at t) every narrow =
        and_from (takes_arguments k (names.prelude_type (codes "[]")) 1) (is_applied k (type_of names variables t) && true)
        signs.lists (and_from (is_applied k (type_of names variables t)) true (applied t every narrow) refl)

    pub all_applied : (ts : TypeTerms) → Every (Takes k names) (types_uses ts) → NarrowTypes ts → are_applied k (types_of names variables ts) ≡ true
    all_applied syntax.NoType every narrow = refl
    all_applied (syntax.MoreTypes t ts) every narrow =
        and_from (is_applied k (type_of names variables t)) (are_applied k (types_of names variables ts))
        (applied t (every_left (Takes k names) (type_uses t) (types_uses ts) every) narrow.0)
        (all_applied ts (every_right (Takes k names) (type_uses t) (types_uses ts) every) narrow.1)

  pub fields_applied : (ts : TypeTerms) → Every (Takes k names) (types_uses ts) → NarrowTypes ts
      → list_all (is_applied k) (fields_of names variables ts) ≡ true
  fields_applied syntax.NoType every narrow = refl
  fields_applied (syntax.MoreTypes t ts) every narrow =
      and_from (is_applied k (type_of names variables t)) (list_all (is_applied k) (fields_of names variables ts))
      (applied t (every_left (Takes k names) (type_uses t) (types_uses ts) every) narrow.0)
      (fields_applied ts (every_right (Takes k names) (type_uses t) (types_uses ts) every) narrow.1)
