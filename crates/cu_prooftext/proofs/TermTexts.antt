-- The texts of the forms of patterns and terms, and how many parts lists of them have.
use Rattle.std.proofs.Common.{◌≡◌, ℕ, ◌+◌, List, [], ◌∷◌, ◌++◌, length, refl, ap, ◌∙◌, append_assoc, codes, decimal, add-one}
use Rattle.std.specs.declared.alloc.Global.{Global}
use Rattle.std.specs.declared.boxed.Box.{Box}
use Rattle.std.specs.declared.vec.Vec.{Vec}
use Rattle.cu_calculus.specs.Valid as valid
use Rattle.cu_calculus.specs.declared.ConId.{ConId}
use Rattle.cu_calculus.specs.declared.Head.{Head}
use Rattle.cu_calculus.specs.declared.Lit.{Lit}
use Rattle.cu_calculus.specs.declared.Mode.{Mode}
use Rattle.cu_kernel.specs.TermsOf.{alternatives_of, pattern_of, patterns_of, term_of, terms_of, pattern_of-Alias, pattern_of-Con, pattern_of-Lit, pattern_of-Var, term_of-Apply, term_of-Case, term_of-Free, term_of-Let, term_of-Lit, term_of-Or, term_of-Part, term_of-Var, term_of-Whole}
use Rattle.cu_kernel.specs.declared.term.Pattern.TheVariants as pattern
use Rattle.cu_kernel.specs.declared.term.Pattern.{Pattern}
use Rattle.cu_kernel.specs.declared.term.Term.TheVariants as term
use Rattle.cu_kernel.specs.declared.term.Term.{Term}
use Rattle.cu_prooftext.specs.Text.{alternative_count, alternatives_after, count_text, head_text, literal_text, mode_text, pattern_text, patterns_after, term_text, terms_after}

-- ---- counts

pub count_of_patterns : (ps : List Pattern) → valid.pattern_count (patterns_of ps) ≡ length ps
count_of_patterns [] = refl
count_of_patterns (p ∷ ps) = ap (λ (n : ℕ). n + 1) (count_of_patterns ps) ∙ add-one (length ps)

pub count_of_terms : (ts : List Term) → valid.term_count (terms_of ts) ≡ length ts
count_of_terms [] = refl
count_of_terms (t ∷ ts) = ap (λ (n : ℕ). n + 1) (count_of_terms ts) ∙ add-one (length ts)

pub count_of_alternatives : (rows : List (Pattern × Term)) → alternative_count (alternatives_of rows) ≡ length rows
count_of_alternatives [] = refl
count_of_alternatives (a ∷ rows) = ap (λ (n : ℕ). n + 1) (count_of_alternatives rows) ∙ add-one (length rows)

-- ---- patterns

pub text_of_any : (x : ℕ) → pattern_text (pattern_of (pattern.Var x)) ≡ codes "x" ++ decimal x
text_of_any x = ap pattern_text (pattern_of-Var x)

pub text_of_exactly : (l : Lit) → pattern_text (pattern_of (pattern.Lit l)) ≡ literal_text l
text_of_exactly l = ap pattern_text (pattern_of-Lit l)

pub text_of_built : (c : ConId) (ps : Vec Pattern Global) → pattern_text (pattern_of (pattern.Con c ps))
    ≡ codes "k" ++ (decimal c.0 ++ (count_text (length ps.items) ++ patterns_after (patterns_of ps.items)))
text_of_built c ps = ap pattern_text (pattern_of-Con c ps)
    ∙ ap (λ (n : ℕ). codes "k" ++ (decimal c.0 ++ (count_text n ++ patterns_after (patterns_of ps.items)))) (count_of_patterns ps.items)

pub text_of_named : (x : ℕ) (p : Box Pattern Global) → pattern_text (pattern_of (pattern.Alias x p))
    ≡ codes "a" ++ (decimal x ++ (codes " " ++ pattern_text (pattern_of p.value)))
text_of_named x p = ap pattern_text (pattern_of-Alias x p)

pub ruleset pattern_texts = (text_of_any, text_of_exactly, text_of_built, text_of_named)

-- ---- terms

pub text_of_variable : (x : ℕ) → term_text (term_of (term.Var x)) ≡ codes "x" ++ decimal x
text_of_variable x = ap term_text (term_of-Var x)

pub text_of_literal : (l : Lit) → term_text (term_of (term.Lit l)) ≡ literal_text l
text_of_literal l = ap term_text (term_of-Lit l)

pub text_of_whole : (h : Head) (ts : Vec Term Global) → term_text (term_of (term.Whole h ts))
    ≡ codes "w" ++ (head_text h ++ (count_text (length ts.items) ++ terms_after (terms_of ts.items)))
text_of_whole h ts = ap term_text (term_of-Whole h ts)
    ∙ ap (λ (n : ℕ). codes "w" ++ (head_text h ++ (count_text n ++ terms_after (terms_of ts.items)))) (count_of_terms ts.items)

pub text_of_part : (h : Head) (ts : Vec Term Global) → term_text (term_of (term.Part h ts))
    ≡ codes "q" ++ (head_text h ++ (count_text (length ts.items) ++ terms_after (terms_of ts.items)))
text_of_part h ts = ap term_text (term_of-Part h ts)
    ∙ ap (λ (n : ℕ). codes "q" ++ (head_text h ++ (count_text n ++ terms_after (terms_of ts.items)))) (count_of_terms ts.items)

pub text_of_apply : (f a : Box Term Global) → term_text (term_of (term.Apply f a))
    ≡ codes "@ " ++ (term_text (term_of f.value) ++ (codes " " ++ term_text (term_of a.value)))
text_of_apply f a = ap term_text (term_of-Apply f a)

pub text_of_let : (x : ℕ) (a b : Box Term Global) → term_text (term_of (term.Let x a b))
    ≡ codes "l" ++ (decimal x ++ (codes " " ++ (term_text (term_of a.value) ++ (codes " " ++ term_text (term_of b.value)))))
text_of_let x a b = ap term_text (term_of-Let x a b)

pub text_of_free : (x : ℕ) (t : Box Term Global) → term_text (term_of (term.Free x t))
    ≡ codes "n" ++ (decimal x ++ (codes " " ++ term_text (term_of t.value)))
text_of_free x t = ap term_text (term_of-Free x t)

pub text_of_or : (a b : Box Term Global) → term_text (term_of (term.Or a b))
    ≡ codes "o " ++ (term_text (term_of a.value) ++ (codes " " ++ term_text (term_of b.value)))
text_of_or a b = ap term_text (term_of-Or a b)

pub text_of_case : (m : Mode) (t : Box Term Global) (rows : Vec (Pattern × Term) Global) → term_text (term_of (term.Case m t rows))
    ≡ mode_text m ++ (count_text (length rows.items) ++ (codes " " ++ (term_text (term_of t.value) ++ alternatives_after (alternatives_of rows.items))))
text_of_case m t rows = ap term_text (term_of-Case m t rows)
    ∙ ap (λ (n : ℕ). mode_text m ++ (count_text n ++ (codes " " ++ (term_text (term_of t.value) ++ alternatives_after (alternatives_of rows.items))))) (count_of_alternatives rows.items)

pub ruleset term_texts = (
  text_of_variable,
  text_of_literal,
  text_of_whole,
  text_of_part,
  text_of_apply,
  text_of_let,
  text_of_free,
  text_of_or,
  text_of_case,
)

-- a case distinction is written in three parts
pub case_written : (old start middle : List ℕ) (t s : Term) (m : Mode) (boxed : Box Term Global) (rows : Vec (Pattern × Term) Global)
    (listed : List (Pattern × Term)) (n : ℕ)
    → t ≡ term.Case m boxed rows → n ≡ length rows.items → s ≡ boxed.value → listed ≡ rows.items
    → start ≡ old ++ (mode_text m ++ count_text n)
    → middle ≡ start ++ (32 ∷ term_text (term_of s))
    → middle ++ alternatives_after (alternatives_of listed) ≡ old ++ term_text (term_of t)
case_written old start middle t s m boxed rows listed n e count inner same first second =
    ap (λ (x : List ℕ). x ++ alternatives_after (alternatives_of listed))
    (second ∙ ap (λ (x : List ℕ). x ++ (32 ∷ term_text (term_of s))) first)
    ∙ rw (e, text_of_case m boxed rows, count, inner, same) (simp append_assoc)
