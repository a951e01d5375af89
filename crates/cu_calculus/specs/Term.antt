-- Patterns and terms of programs.
use Rattle.std.specs.Prelude.{ℕ}
use Rattle.cu_calculus.specs.declared.ConId.{ConId}
use Rattle.cu_calculus.specs.declared.Head.{Head}
use Rattle.cu_calculus.specs.declared.Lit.{Lit}
use Rattle.cu_calculus.specs.declared.Mode.{Mode}

mutual
  -- a pattern, against which a value is matched
  pub data Pattern : Type 0 where
    -- a variable, which fits every value
    Any : ℕ → Pattern
    Exactly : Lit → Pattern
    Built : ConId → Patterns → Pattern
    -- a pattern whose whole value a variable names too
    Named : ℕ → Pattern → Pattern

  -- several patterns
  pub data Patterns : Type 0 where
    NoPattern : Patterns
    MorePatterns : Pattern → Patterns → Patterns

mutual
  -- a term, of which the right sides of rules are made
  pub data Term : Type 0 where
    Variable : ℕ → Term
    Literal : Lit → Term
    -- a head with all its arguments
    Whole : Head → Terms → Term
    -- a head with fewer arguments than it takes
    Part : Head → Terms → Term
    -- the application of the first term's value, a function, to the second
    Apply : Term → Term → Term
    -- the second term, where the variable stands for the value of the first
    Let : ℕ → Term → Term → Term
    -- the term, in which the variable is free: a logic variable
    Free : ℕ → Term → Term
    -- a choice between two terms
    Or : Term → Term → Term
    Case : Mode → Term → Alternatives → Term

  -- several terms
  pub data Terms : Type 0 where
    NoTerm : Terms
    MoreTerms : Term → Terms → Terms

  -- the alternatives of a case distinction: a pattern and a term each
  pub data Alternatives : Type 0 where
    NoAlternative : Alternatives
    MoreAlternatives : Pattern → Term → Alternatives → Alternatives
