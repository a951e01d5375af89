-- Lists of terms, from their ends.
use Rattle.std.proofs.Common.{◌≡◌, ◌∙◌, ℕ, ℤ, List, [], ◌∷◌, ◌++◌, length, map, refl, sym, ap, ap₂, codes}
use Rattle.std.proofs.lemmas.List.{length-map}
use Rattle.std.specs.declared.alloc.Global.{Global}
use Rattle.std.specs.declared.boxed.Box.{Box}
use Rattle.std.specs.declared.vec.Vec.{Vec}
use Rattle.cu_calculus.specs.Term as calculus
use Rattle.cu_calculus.specs.declared.ConId.{ConId}
use Rattle.cu_calculus.specs.declared.Lit.TheVariants as lit
use Rattle.cu_calculus.specs.declared.Mode.TheVariants.{Rigid}
use Rattle.cu_kernel.specs.LocalTerm as local
use Rattle.cu_kernel.specs.LocalTermsOf.{local_alternatives_of, local_term_of, local_term_of-Case, local_term_of-Lit}
use Rattle.cu_kernel.specs.TermsOf.{pattern_of, pattern_of-Con, patterns_of}
use Rattle.cu_kernel.specs.declared.local.LocalTerm as boxed_type
use Rattle.cu_kernel.specs.declared.local.LocalTerm.TheVariants as boxed
use Rattle.cu_kernel.specs.declared.term.Pattern.{Pattern}
use Rattle.cu_kernel.specs.declared.term.Pattern.TheVariants as pattern
use Rattle.cu_syntax.specs.Names.{literal_meaning}
use Rattle.cu_syntax.specs.declared.name.Literal.{Literal}
use Rattle.cu_syntax.specs.declared.name.Literal.TheVariants as literal
use Rattle.cu_translation.specs.declared.referents.Referent as referents
use Rattle.cu_translation.specs.Around.{tuple_name}
use Rattle.cu_translation.specs.Meaning.{referent_meaning}
use denote.Ref.{Bor}
use Rattle.cu_kernel.specs.LocalTerm.{LocalTerm}
use Rattle.cu_translation.specs.Around.{Names}
use Rattle.cu_translation.specs.Terms.{character, constructor_of}
use Rattle.cu_forms.specs.Inside.Calls.{built_in_term}
use Rattle.cu_forms.specs.Inside.Lists.{before_list, cons_term, constant_of, distinction, list_term, literal_term, number_term, tuple_term}

pub all_before : (names : Names) (ts : List LocalTerm) → before_list names ts (built_in_term names (codes "[]") []) ≡ list_term names ts
unfolding list_term built_in_term
all_before names [] = refl
all_before names (t ∷ ts) = ap (cons_term names t) (all_before names ts)

-- the last of the terms stands before the list at once
pub last_before : (names : Names) (ts : List LocalTerm) (t rest : LocalTerm) → before_list names (ts ++ t ∷ []) rest ≡ before_list names ts (cons_term names t rest)
last_before names [] t rest = refl
last_before names (u ∷ ts) t rest = ap (cons_term names u) (last_before names ts t rest)

-- ---- tuples and literals

pub tuple_is : (names : Names) (n : ℕ) (ts : List boxed_type.LocalTerm) → n ≡ length ts
    → built_in_term names (tuple_name n) (map local_term_of ts) ≡ tuple_term names (map local_term_of ts)
unfolding tuple_term built_in_term
tuple_is names n ts e = ap (λ k. built_in_term names (tuple_name k) (map local_term_of ts)) (e ∙ sym (length-map ts local_term_of))

pub number_is : (names : Names) (found : Literal) (n : ℤ) → found ≡ literal.Int n
    → number_term n ≡ literal_term names (literal_meaning found)
unfolding literal_term
number_is names found n e = ap (λ l. literal_term names (literal_meaning l)) (sym e)

pub character_is : (names : Names) (found : Literal) (c : ℕ) → found ≡ literal.Char c
    → local_term_of (boxed.Lit (lit.Char c)) ≡ literal_term names (literal_meaning found)
unfolding literal_term
character_is names found c e = local_term_of-Lit (lit.Char c) ∙ ap (λ l. literal_term names (literal_meaning l)) (sym e)

pub string_is : (names : Names) (found : Literal) (text : Bor (List ℕ)) → found ≡ literal.String text
    → list_term names (map character text.now) ≡ literal_term names (literal_meaning found)
unfolding literal_term list_term
string_is names found text e = ap (λ l. literal_term names (literal_meaning l)) (sym e)

-- ---- distinctions

pub constant_is : (names : Names) (text : List ℕ) (r : referents.Referent) (c : ConId) (ps : Vec Pattern Global)
    → c ≡ constructor_of (referent_meaning r) → referent_meaning r ≡ names.prelude text → ps.items ≡ []
    → pattern_of (pattern.Con c ps) ≡ constant_of names text
unfolding constant_of
constant_is names text r c ps constructed meant empty =
    pattern_of-Con c ps ∙ ap₂ calculus.Built (constructed ∙ ap constructor_of meant) (ap patterns_of empty)

pub distinguished : (names : Names) (b : Box boxed_type.LocalTerm Global) (condition chosen other : boxed_type.LocalTerm) (holds fails : Pattern) (rows : Vec (Pattern × boxed_type.LocalTerm) Global)
    → b.value ≡ condition → rows.items ≡ (holds, chosen) ∷ (fails, other) ∷ []
    → pattern_of holds ≡ constant_of names (codes "True") → pattern_of fails ≡ constant_of names (codes "False")
    → local_term_of (boxed.Case Rigid b rows) ≡ distinction names (local_term_of condition) (local_term_of chosen) (local_term_of other)
unfolding distinction constant_of
distinguished names b condition chosen other holds fails rows inside both yes_is no_is =
    local_term_of-Case Rigid b rows
    ∙ ap₂ (local.Case Rigid) (ap local_term_of inside)
    (ap local_alternatives_of both
    ∙ ap₂ (λ p q. local.MoreAlternatives p (local_term_of chosen) (local.MoreAlternatives q (local_term_of other) local.NoAlternative)) yes_is no_is)
