-- Terms before lambda lifting: a head may also be a local function.
use Rattle.std.specs.Prelude.{ℕ}
use Rattle.cu_calculus.specs.Term as calculus
use Rattle.cu_calculus.specs.declared.Lit.{Lit}
use Rattle.cu_calculus.specs.declared.Mode.{Mode}
use Rattle.cu_kernel.specs.declared.local.LocalHead.{LocalHead}

mutual
  -- a term before lifting
  pub data LocalTerm : Type 0 where
    Variable : ℕ → LocalTerm
    Literal : Lit → LocalTerm
    -- a head with all its arguments; variables that a local function captures don't count
    Whole : LocalHead → LocalTerms → LocalTerm
    -- a head with fewer arguments than it takes
    Part : LocalHead → LocalTerms → LocalTerm
    Apply : LocalTerm → LocalTerm → LocalTerm
    -- the second term, where the variable stands for the value of the first
    Let : ℕ → LocalTerm → LocalTerm → LocalTerm
    Free : ℕ → LocalTerm → LocalTerm
    Or : LocalTerm → LocalTerm → LocalTerm
    Case : Mode → LocalTerm → LocalAlternatives → LocalTerm

  -- several terms before lifting
  pub data LocalTerms : Type 0 where
    NoTerm : LocalTerms
    MoreTerms : LocalTerm → LocalTerms → LocalTerms

  -- the alternatives of a case distinction before lifting
  pub data LocalAlternatives : Type 0 where
    NoAlternative : LocalAlternatives
    MoreAlternatives : calculus.Pattern → LocalTerm → LocalAlternatives → LocalAlternatives
