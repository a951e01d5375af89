-- Lists that stand for the same terms or alternatives.
use Rattle.std.proofs.lemmas.List.{at_drop_all}
use Rattle.std.specs.declared.alloc.Global.{Global}
use Rattle.std.specs.declared.boxed.Box.{Box}
use Rattle.std.specs.declared.vec.Vec.{Vec}
use Rattle.cu_calculus.specs.declared.Mode.{Mode}
use Rattle.cu_kernel.specs.declared.term.Term.TheVariants as term
use Rattle.std.proofs.Common.{◌≡◌, ℕ, ◌≤◌, List, [], ◌∷◌, ◌++◌, append-nil, drop, length, map, refl, ap, ap₂, sym, ◌∙◌}
use Rattle.cu_calculus.specs.Term as clean
use Rattle.cu_kernel.specs.TermsOf.{alternatives_of, pattern_of, term_of, term_of-Case, terms_of}
use Rattle.cu_kernel.specs.declared.term.Pattern.{Pattern}
use Rattle.cu_kernel.specs.declared.term.Term.{Term}

abbrev pub row_of : Pattern × Term → clean.Pattern × clean.Term
row_of a = (pattern_of a.0, term_of a.1)

abbrev term_list : List clean.Term → clean.Terms
term_list [] = clean.NoTerm
term_list (t ∷ ts) = clean.MoreTerms t (term_list ts)

abbrev row_list : List (clean.Pattern × clean.Term) → clean.Alternatives
row_list [] = clean.NoAlternative
row_list (a ∷ rows) = clean.MoreAlternatives a.0 a.1 (row_list rows)

terms_listed : (ts : List Term) → terms_of ts ≡ term_list (map term_of ts)
terms_listed [] = refl
terms_listed (t ∷ ts) = ap (clean.MoreTerms (term_of t)) (terms_listed ts)

rows_listed : (rows : List (Pattern × Term)) → alternatives_of rows ≡ row_list (map row_of rows)
rows_listed [] = refl
rows_listed (a ∷ rows) = ap (clean.MoreAlternatives (pattern_of a.0) (term_of a.1)) (rows_listed rows)

pub same_terms : (ts us : List Term) → map term_of ts ≡ map term_of us → terms_of ts ≡ terms_of us
same_terms ts us e = terms_listed ts ∙ ap term_list e ∙ sym (terms_listed us)

pub same_rows : (rows others : List (Pattern × Term)) → map row_of rows ≡ map row_of others → alternatives_of rows ≡ alternatives_of others
same_rows rows others e = rows_listed rows ∙ ap row_list e ∙ sym (rows_listed others)

-- all were copied
pub copied_all : {A B : Type 0} (f : A → B) (copies xs : List A) (i : ℕ) → length xs ≤ i → map f copies ++ map f (drop i xs) ≡ map f xs
    → map f copies ≡ map f xs
copied_all f copies xs i past before =
    sym (ap (λ rest. map f copies ++ rest) (at_drop_all (map f) xs i past) ∙ append-nil (map f copies)) ∙ before

pub case_copied : (t : Term) (m : Mode) (a b : Box Term Global) (rows others : Vec (Pattern × Term) Global) (inner : Term) (all : List (Pattern × Term))
    → t ≡ term.Case m b others → inner ≡ b.value → all ≡ others.items → term_of a.value ≡ term_of inner → alternatives_of rows.items ≡ alternatives_of all
    → term_of (term.Case m a rows) ≡ term_of t
case_copied t m a b rows others inner all is first second same alike =
    term_of-Case m a rows
    ∙ ap₂ (λ (x : clean.Term) (y : clean.Alternatives). clean.Case m x y) (same ∙ ap term_of first) (alike ∙ ap alternatives_of second)
    ∙ sym (ap term_of is ∙ term_of-Case m b others)
