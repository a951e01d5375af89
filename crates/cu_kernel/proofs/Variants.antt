-- Each pattern and each term is one of its variants.
use Rattle.std.proofs.Common.{◌≡◌, ℕ, sym, ◌∙◌}
use Rattle.std.specs.declared.alloc.Global.{Global}
use Rattle.std.specs.declared.boxed.Box.{Box}
use Rattle.std.specs.declared.vec.Vec.{Vec}
use Rattle.cu_calculus.specs.declared.ConId.{ConId}
use Rattle.cu_calculus.specs.declared.Head.{Head}
use Rattle.cu_calculus.specs.declared.Lit.{Lit}
use Rattle.cu_calculus.specs.declared.Mode.{Mode}
use Rattle.cu_kernel.specs.declared.term.Pattern.TheOpen as pattern_layer
use Rattle.cu_kernel.specs.declared.term.Pattern.TheOpen.{Pattern-F}
use Rattle.cu_kernel.specs.declared.term.Pattern.TheVariants as pattern
use Rattle.cu_kernel.specs.declared.term.Pattern.{Pattern, out-Pattern, roll-Pattern, roll-out-Pattern}
use Rattle.cu_kernel.specs.declared.term.Term.TheOpen as term_layer
use Rattle.cu_kernel.specs.declared.term.Term.TheOpen.{Term-F}
use Rattle.cu_kernel.specs.declared.term.Term.TheVariants as term
use Rattle.cu_kernel.specs.declared.term.Term.{Term, out-Term, roll-Term, roll-out-Term}

pub data PatternVariant (p : Pattern) : Type 0 where
  pattern_var : (x : ℕ) → p ≡ pattern.Var x → PatternVariant p
  pattern_lit : (l : Lit) → p ≡ pattern.Lit l → PatternVariant p
  pattern_con : (c : ConId) (ps : Vec Pattern Global) → p ≡ pattern.Con c ps → PatternVariant p
  pattern_alias : (x : ℕ) (q : Box Pattern Global) → p ≡ pattern.Alias x q → PatternVariant p

pattern_by : (p : Pattern) (l : Pattern-F Pattern) → p ≡ roll-Pattern l → PatternVariant p
pattern_by p (pattern_layer.Var x) e = pattern_var x (e ∙ pattern.rolls-Var x)
pattern_by p (pattern_layer.Lit l) e = pattern_lit l (e ∙ pattern.rolls-Lit l)
pattern_by p (pattern_layer.Con c ps) e = pattern_con c ps (e ∙ pattern.rolls-Con c ps)
pattern_by p (pattern_layer.Alias x q) e = pattern_alias x q (e ∙ pattern.rolls-Alias x q)

pub pattern_variant : (p : Pattern) → PatternVariant p
pattern_variant p = pattern_by p (out-Pattern p) (sym (roll-out-Pattern p))

pub data TermVariant (t : Term) : Type 0 where
  term_var : (x : ℕ) → t ≡ term.Var x → TermVariant t
  term_lit : (l : Lit) → t ≡ term.Lit l → TermVariant t
  term_whole : (h : Head) (ts : Vec Term Global) → t ≡ term.Whole h ts → TermVariant t
  term_part : (h : Head) (ts : Vec Term Global) → t ≡ term.Part h ts → TermVariant t
  term_apply : (f a : Box Term Global) → t ≡ term.Apply f a → TermVariant t
  term_let : (x : ℕ) (a b : Box Term Global) → t ≡ term.Let x a b → TermVariant t
  term_free : (x : ℕ) (b : Box Term Global) → t ≡ term.Free x b → TermVariant t
  term_or : (a b : Box Term Global) → t ≡ term.Or a b → TermVariant t
  term_case : (m : Mode) (s : Box Term Global) (rows : Vec (Pattern × Term) Global) → t ≡ term.Case m s rows → TermVariant t

term_by : (t : Term) (l : Term-F Term) → t ≡ roll-Term l → TermVariant t
term_by t (term_layer.Var x) e = term_var x (e ∙ term.rolls-Var x)
term_by t (term_layer.Lit l) e = term_lit l (e ∙ term.rolls-Lit l)
term_by t (term_layer.Whole h ts) e = term_whole h ts (e ∙ term.rolls-Whole h ts)
term_by t (term_layer.Part h ts) e = term_part h ts (e ∙ term.rolls-Part h ts)
term_by t (term_layer.Apply f a) e = term_apply f a (e ∙ term.rolls-Apply f a)
term_by t (term_layer.Let x a b) e = term_let x a b (e ∙ term.rolls-Let x a b)
term_by t (term_layer.Free x b) e = term_free x b (e ∙ term.rolls-Free x b)
term_by t (term_layer.Or a b) e = term_or a b (e ∙ term.rolls-Or a b)
term_by t (term_layer.Case m s rows) e = term_case m s rows (e ∙ term.rolls-Case m s rows)

pub term_variant : (t : Term) → TermVariant t
term_variant t = term_by t (out-Term t) (sym (roll-out-Term t))
