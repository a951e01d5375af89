-- Lists that stand for the same types or patterns.
use Rattle.std.proofs.Common.{◌≡◌, ℕ, ◌≤◌, List, [], ◌∷◌, ◌++◌, append-nil, drop, length, map, refl, ap, sym, ◌∙◌}
use Rattle.std.proofs.lemmas.List.{at_drop_all}
use Rattle.cu_calculus.specs.Term as clean
use Rattle.cu_kernel.specs.TermsOf.{pattern_of, patterns_of}
use Rattle.cu_kernel.specs.TypeExpr as clean_type
use Rattle.cu_kernel.specs.TypesOf.{type_list, type_of, types_of}
use Rattle.cu_kernel.specs.declared.term.Pattern.{Pattern}
use Rattle.cu_kernel.specs.declared.type_term.TypeTerm.{TypeTerm}

-- all were copied
pub all_copied : {A C : Type 0} (f : A → C) (copies xs : List A) (i : ℕ) → length xs ≤ i → map f copies ++ map f (drop i xs) ≡ map f xs
    → map f copies ≡ map f xs
all_copied f copies xs i past before =
    sym (ap (λ rest. map f copies ++ rest) (at_drop_all (map f) xs i past) ∙ append-nil (map f copies)) ∙ before

types_listed : (ts : List TypeTerm) → types_of ts ≡ type_list (map type_of ts)
types_listed [] = refl
types_listed (t ∷ ts) = ap (clean_type.MoreTypes (type_of t)) (types_listed ts)

pub same_types : (ts us : List TypeTerm) → map type_of ts ≡ map type_of us → types_of ts ≡ types_of us
same_types ts us e = types_listed ts ∙ ap type_list e ∙ sym (types_listed us)

abbrev pattern_list : List clean.Pattern → clean.Patterns
pattern_list [] = clean.NoPattern
pattern_list (p ∷ ps) = clean.MorePatterns p (pattern_list ps)

patterns_listed : (ps : List Pattern) → patterns_of ps ≡ pattern_list (map pattern_of ps)
patterns_listed [] = refl
patterns_listed (p ∷ ps) = ap (clean.MorePatterns (pattern_of p)) (patterns_listed ps)

pub same_patterns : (ps qs : List Pattern) → map pattern_of ps ≡ map pattern_of qs → patterns_of ps ≡ patterns_of qs
same_patterns ps qs e = patterns_listed ps ∙ ap pattern_list e ∙ sym (patterns_listed qs)
