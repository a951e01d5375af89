-- The tests whether two patterns or terms are the same: built of the same parts in the same way.
use Rattle.std.specs.Prelude.{Bool, true, false, ◌&&◌, nat_eq}
use Rattle.cu_calculus.specs.Answered.{same_head}
use Rattle.cu_calculus.specs.declared.Mode.{Mode}
use Rattle.cu_calculus.specs.declared.Mode.TheVariants.{Flex, Rigid}
use Rattle.cu_calculus.specs.Literal.{same_literal}
use Rattle.cu_calculus.specs.Match.{same_constructor}
use Rattle.cu_calculus.specs.Term as term
use Rattle.cu_calculus.specs.Term.{Alternatives, Pattern, Patterns, Term, Terms}

-- whether both case distinctions are rigid, or both flexible
abbrev pub same_mode : Mode → Mode → Bool
same_mode Rigid Rigid = true
same_mode Flex Flex = true
same_mode _ _ = false

abbrev mutual
  -- whether two patterns are the same
  pub same_pattern : Pattern → Pattern → Bool
  same_pattern (term.Any x) (term.Any y) = nat_eq x y
  same_pattern (term.Exactly l) (term.Exactly m) = same_literal l m
  same_pattern (term.Built c ps) (term.Built d qs) = same_constructor c d && same_patterns ps qs
  same_pattern (term.Named x p) (term.Named y q) = nat_eq x y && same_pattern p q
  same_pattern _ _ = false

  -- whether patterns are the same in pairs
  pub same_patterns : Patterns → Patterns → Bool
  same_patterns term.NoPattern term.NoPattern = true
  same_patterns (term.MorePatterns p ps) (term.MorePatterns q qs) =
      same_pattern p q && same_patterns ps qs
  same_patterns _ _ = false

abbrev mutual
  -- whether two terms are the same
  pub same_term : Term → Term → Bool
  same_term (term.Variable x) (term.Variable y) = nat_eq x y
  same_term (term.Literal l) (term.Literal m) = same_literal l m
  same_term (term.Whole h ts) (term.Whole k us) = same_head h k && same_terms ts us
  same_term (term.Part h ts) (term.Part k us) = same_head h k && same_terms ts us
  same_term (term.Apply f a) (term.Apply g b) = same_term f g && same_term a b
  same_term (term.Let x a b) (term.Let y c d) = nat_eq x y && same_term a c && same_term b d
  same_term (term.Free x t) (term.Free y u) = nat_eq x y && same_term t u
  same_term (term.Or a b) (term.Or c d) = same_term a c && same_term b d
  same_term (term.Case m a rows) (term.Case n b others) =
      same_mode m n && same_term a b && same_alternatives rows others
  same_term _ _ = false

  -- whether terms are the same in pairs
  pub same_terms : Terms → Terms → Bool
  same_terms term.NoTerm term.NoTerm = true
  same_terms (term.MoreTerms t ts) (term.MoreTerms u us) = same_term t u && same_terms ts us
  same_terms _ _ = false

  -- whether alternatives are the same in pairs
  pub same_alternatives : Alternatives → Alternatives → Bool
  same_alternatives term.NoAlternative term.NoAlternative = true
  same_alternatives (term.MoreAlternatives p t rows) (term.MoreAlternatives q u others) =
      (same_pattern p q && same_term t u) && same_alternatives rows others
  same_alternatives _ _ = false
