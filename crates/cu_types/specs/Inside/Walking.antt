-- Reading equations off patterns and terms.
use Rattle.std.specs.Prelude.{◌≡◌, ℕ, length}
use Rattle.cu_types.specs.Equations.{Asked, Environment, Assumptions, bind_from, call_asks, pattern_asks, taking, term_asks, terms_ask}
use Rattle.cu_calculus.specs.Term.{Pattern, Term, Terms}
use Rattle.cu_calculus.specs.Valid.{term_count, variables_of}
use Rattle.cu_calculus.specs.declared.Head.{Head}
use Rattle.cu_types.specs.Inside.Asking.{IsAsking}
use Rattle.cu_types.specs.Inside.Reading.{IsReader}
use Rattle.cu_types.specs.Inside.Variables.{environment}
use Rattle.cu_types.specs.Inside.Knowing.{assumptions_by}
use Rattle.cu_types.specs.declared.walk.Walk.{Walk}

-- what is known of heads in a walk
abbrev pub heads : Walk → Assumptions
heads w = assumptions_by w.signing

abbrev pub scope : Walk → Environment
scope w = environment w.variables

-- the equations of a head on arguments, whose type is the type variable t
abbrev pub application_asks : Assumptions → Environment → ℕ → Head → Terms → Asked → Asked
application_asks assumptions env t h ts asked =
    terms_ask assumptions env asked.next ts
    (call_asks assumptions h asked.next (term_count ts) t (taking (term_count ts) asked))

-- the equations of an alternative: its pattern has the type variable s, and its term has t
abbrev pub alternative_asks : Assumptions → Environment → ℕ → ℕ → Pattern → Term → Asked → Asked
alternative_asks assumptions env s t p a asked =
    let inner = bind_from env asked.next (variables_of p) in
    term_asks assumptions inner t a
    (pattern_asks assumptions inner s p (taking (length (variables_of p)) asked))

-- The equations were read off that `change` asks for, and all variables are bound as before.
pub record Walks (before after : Walk) (change : Asked → Asked) : Type 0 where
  pub reader : IsReader after.asking.reader
  pub asked : (asked : Asked) → IsAsking before.asking asked → IsAsking after.asking (change asked)
  pub heads : after.signing ≡ before.signing
  pub scope : scope after ≡ scope before

-- Of the equations that `whole` asks for some were read off, and `rest` asks for the others.
pub record IsWalking (before now : Walk) (rest whole : Asked → Asked) : Type 0 where
  pub reader : IsReader now.asking.reader
  pub going : (asked : Asked) → IsAsking before.asking asked
      → (mid : Asked) × IsAsking now.asking mid × (rest mid ≡ whole asked)
  pub heads : now.signing ≡ before.signing
  pub scope : scope now ≡ scope before
