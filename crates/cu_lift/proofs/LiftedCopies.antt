-- Lists that stand for lifted terms, alternatives and patterns.
use Rattle.std.proofs.Common.{◌≡◌, ℕ, ◌≤◌, List, [], ◌∷◌, ◌++◌, append-nil, drop, length, map, take, refl, ap, sym, ◌∙◌}
use Rattle.std.proofs.lemmas.List.{at_drop_all, take_all}
use Rattle.std.specs.declared.alloc.Global.{Global}
use Rattle.std.specs.declared.boxed.Box.{Box}
use Rattle.std.specs.declared.vec.Vec.{Vec}
use Rattle.cu_calculus.specs.Term as clean
use Rattle.cu_calculus.specs.declared.Mode.{Mode}
use Rattle.cu_kernel.specs.LocalTermsOf.{local_alternatives_of, local_term_of, local_term_of-Case, local_terms_of}
use Rattle.cu_kernel.specs.TermsOf.{alternatives_of, pattern_of, pattern_of-Var, patterns_of, term_of, term_of-Case, term_of-Var, terms_of}
use Rattle.cu_kernel.specs.declared.local.LocalTerm.TheVariants as local
use Rattle.cu_kernel.specs.declared.local.LocalTerm.{LocalTerm}
use Rattle.cu_kernel.specs.declared.term.Pattern.TheVariants as pattern
use Rattle.cu_kernel.specs.declared.term.Pattern.{Pattern}
use Rattle.cu_kernel.specs.declared.term.Term.TheVariants as term
use Rattle.cu_kernel.specs.declared.term.Term.{Term}
use Rattle.cu_lift.specs.Lifting.{Lifting, after_parameters, after_variables, lifted_alternatives, lifted_term, lifted_terms}

-- all were made
pub all_made : {A B C : Type 0} (f : A → C) (g : B → C) (made : List A) (xs : List B) (i : ℕ) → length xs ≤ i → map f made ++ map g (drop i xs) ≡ map g xs
    → map f made ≡ map g xs
all_made f g made xs i past before =
    sym (ap (λ rest. map f made ++ rest) (at_drop_all (map g) xs i past) ∙ append-nil (map f made)) ∙ before

abbrev term_list : List clean.Term → clean.Terms
term_list [] = clean.NoTerm
term_list (t ∷ ts) = clean.MoreTerms t (term_list ts)

abbrev row_list : List (clean.Pattern × clean.Term) → clean.Alternatives
row_list [] = clean.NoAlternative
row_list (a ∷ rows) = clean.MoreAlternatives a.0 a.1 (row_list rows)

abbrev pub lifted_by : Lifting → LocalTerm → clean.Term
lifted_by l t = lifted_term l (local_term_of t)

terms_listed : (ts : List Term) → terms_of ts ≡ term_list (map term_of ts)
terms_listed [] = refl
terms_listed (t ∷ ts) = ap (clean.MoreTerms (term_of t)) (terms_listed ts)

lifted_listed : (l : Lifting) (ts : List LocalTerm) → lifted_terms l (local_terms_of ts) ≡ term_list (map (lifted_by l) ts)
lifted_listed l [] = refl
lifted_listed l (t ∷ ts) = ap (clean.MoreTerms (lifted_by l t)) (lifted_listed l ts)

pub terms_lifted : (l : Lifting) (made : List Term) (ts : List LocalTerm) → map term_of made ≡ map (lifted_by l) ts
    → terms_of made ≡ lifted_terms l (local_terms_of ts)
terms_lifted l made ts e = terms_listed made ∙ ap term_list e ∙ sym (lifted_listed l ts)

abbrev pub row_of : Pattern × Term → clean.Pattern × clean.Term
row_of a = (pattern_of a.0, term_of a.1)

abbrev pub lifted_row : Lifting → Pattern × LocalTerm → clean.Pattern × clean.Term
lifted_row l a = (pattern_of a.0, lifted_by l a.1)

rows_listed : (rows : List (Pattern × Term)) → alternatives_of rows ≡ row_list (map row_of rows)
rows_listed [] = refl
rows_listed (a ∷ rows) = ap (clean.MoreAlternatives (pattern_of a.0) (term_of a.1)) (rows_listed rows)

lifted_rows_listed : (l : Lifting) (rows : List (Pattern × LocalTerm)) → lifted_alternatives l (local_alternatives_of rows) ≡ row_list (map (lifted_row l) rows)
lifted_rows_listed l [] = refl
lifted_rows_listed l (a ∷ rows) = ap (clean.MoreAlternatives (pattern_of a.0) (lifted_by l a.1)) (lifted_rows_listed l rows)

pub rows_lifted : (l : Lifting) (made : List (Pattern × Term)) (rows : List (Pattern × LocalTerm)) → map row_of made ≡ map (lifted_row l) rows
    → alternatives_of made ≡ lifted_alternatives l (local_alternatives_of rows)
rows_lifted l made rows e = rows_listed made ∙ ap row_list e ∙ sym (lifted_rows_listed l rows)

patterns_after : (xs : List ℕ) (ps : List Pattern) → patterns_of (map pattern.Var xs ++ ps) ≡ after_parameters xs (patterns_of ps)
patterns_after [] ps = refl
patterns_after (x ∷ xs) ps = λ i. clean.MorePatterns (pattern_of-Var x i) (patterns_after xs ps i)

terms_after : (xs : List ℕ) (ts : List Term) → terms_of (map term.Var xs ++ ts) ≡ after_variables xs (terms_of ts)
terms_after [] ts = refl
terms_after (x ∷ xs) ts = λ i. clean.MoreTerms (term_of-Var x i) (terms_after xs ts i)

pub case_lifted : (l : Lifting) (t : LocalTerm) (m : Mode) (a : Box Term Global) (b : Box LocalTerm Global) (rows : Vec (Pattern × Term) Global)
    (others : Vec (Pattern × LocalTerm) Global) (inner : LocalTerm) (all : List (Pattern × LocalTerm))
    → t ≡ local.Case m b others → inner ≡ b.value → all ≡ others.items → term_of a.value ≡ lifted_term l (local_term_of inner)
    → alternatives_of rows.items ≡ lifted_alternatives l (local_alternatives_of all)
    → term_of (term.Case m a rows) ≡ lifted_term l (local_term_of t)
case_lifted l t m a b rows others inner all is first second same alike =
    term_of-Case m a rows
    ∙ (λ i. clean.Case m ((same ∙ ap (lifted_by l) first) i)
    ((alike ∙ ap (λ xs. lifted_alternatives l (local_alternatives_of xs)) second) i))
    ∙ ap (lifted_term l) (sym (ap local_term_of is ∙ local_term_of-Case m b others))

pub patterns_put : (xs : List ℕ) (i : ℕ) (all new ps : List Pattern) (qs : clean.Patterns) → length xs ≤ i → all ≡ map pattern.Var (take i xs) → new ≡ all ++ ps
    → patterns_of ps ≡ qs → patterns_of new ≡ after_parameters xs qs
patterns_put xs i all new ps qs past made whole same =
    ap patterns_of (whole ∙ ap (λ ys. ys ++ ps) (made ∙ ap (map pattern.Var) (take_all i xs past))) ∙ patterns_after xs ps ∙ ap (after_parameters xs) same

pub terms_put : (xs : List ℕ) (i : ℕ) (all new ts : List Term) → length xs ≤ i → all ≡ map term.Var (take i xs) → new ≡ all ++ ts
    → terms_of new ≡ after_variables xs (terms_of ts)
terms_put xs i all new ts past made whole =
    ap terms_of (whole ∙ ap (λ ys. ys ++ ts) (made ∙ ap (map term.Var) (take_all i xs past))) ∙ terms_after xs ts

pub map_twice : {A B C : Type 0} (g : A → B) (h : B → C) (xs : List A) → map (λ x. h (g x)) xs ≡ map h (map g xs)
map_twice g h [] = refl
map_twice g h (x ∷ xs) = ap (λ ys. h (g x) ∷ ys) (map_twice g h xs)

-- each element was made so, one after another
pub each_made : {A B C D : Type 0} (f : A → D) (g : B → C) (h : C → D) (made : List A) (xs : List B) (i : ℕ) → length xs ≤ i
    → map f made ≡ map (λ x. h (g x)) (take i xs) → map f made ≡ map h (map g xs)
each_made f g h made xs i past before = before ∙ ap (map (λ x. h (g x))) (take_all i xs past) ∙ map_twice g h xs
