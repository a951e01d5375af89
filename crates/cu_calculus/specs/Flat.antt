-- Flat programs: what definitional trees make of a program. A function has one rule, whose
-- parameters are different variables, and every case distinction looks at one constructor or
-- literal (Antoy, Definitional trees, 1992; Hanus, FlatCurry).
use Rattle.std.specs.Prelude.{Bool, true, false, not, ◌&&◌, List, [], ◌∷◌, Option, None, Some}
use Rattle.std.specs.List.{list_all, list_any}
use Rattle.cu_calculus.specs.Choose.{Demand, ALiteral, AConstructor, demand_of}
use Rattle.cu_calculus.specs.Literal.{same_literal}
use Rattle.cu_calculus.specs.Match.{same_constructor}
use Rattle.cu_calculus.specs.Program.{Body, External, Program, Rules}
use Rattle.cu_calculus.specs.Term as term
use Rattle.cu_calculus.specs.Term.{Alternatives, Pattern, Patterns, Term, Terms}
use Rattle.cu_calculus.specs.Valid.{all_variables, is_linear}
use Rattle.cu_calculus.specs.Value as value
use Rattle.cu_calculus.specs.Value.{Value}

-- whether all patterns are variables
abbrev pub are_variables : Patterns → Bool
are_variables term.NoPattern = true
are_variables (term.MorePatterns (term.Any x) ps) = are_variables ps
are_variables (term.MorePatterns _ ps) = false

-- whether a pattern is a literal, or a constructor over variables
abbrev pub is_shallow : Pattern → Bool
is_shallow (term.Exactly l) = true
is_shallow (term.Built c ps) = are_variables ps
is_shallow (term.Any x) = false
is_shallow (term.Named x p) = false

-- whether two demands are the same literal or the same constructor
abbrev pub same_demand : Demand → Demand → Bool
same_demand (ALiteral l) (ALiteral m) = same_literal l m
same_demand (AConstructor c) (AConstructor d) = same_constructor c d
same_demand _ _ = false

-- what the patterns of alternatives demand, one after another
abbrev pub demands_of : Alternatives → List Demand
demands_of term.NoAlternative = []
demands_of (term.MoreAlternatives p t alternatives) = demand_of p ∷ demands_of alternatives

-- the demand that a value meets: its literal, or its constructor
abbrev pub met_by : Value → Option Demand
met_by (value.Literal l) = Some (ALiteral l)
met_by (value.Constructed c us) = Some (AConstructor c)
met_by _ = None

-- whether no demand stands twice
abbrev pub all_differ : List Demand → Bool
all_differ [] = true
all_differ (d ∷ ds) = not (list_any (same_demand d) ds) && all_differ ds

abbrev mutual
  -- whether all case distinctions of a term are flat: they look at one literal or constructor each,
  -- and no two of their alternatives demand the same
  pub is_flat_term : Term → Bool
  is_flat_term (term.Variable x) = true
  is_flat_term (term.Literal l) = true
  is_flat_term (term.Whole h ts) = are_flat_terms ts
  is_flat_term (term.Part h ts) = are_flat_terms ts
  is_flat_term (term.Apply f a) = is_flat_term f && is_flat_term a
  is_flat_term (term.Let x a b) = is_flat_term a && is_flat_term b
  is_flat_term (term.Free x t) = is_flat_term t
  is_flat_term (term.Or a b) = is_flat_term a && is_flat_term b
  is_flat_term (term.Case mode a alternatives) =
      is_flat_term a && all_differ (demands_of alternatives) && are_flat_alternatives alternatives

  -- whether all case distinctions of several terms are flat
  pub are_flat_terms : Terms → Bool
  are_flat_terms term.NoTerm = true
  are_flat_terms (term.MoreTerms t ts) = is_flat_term t && are_flat_terms ts

  -- whether the patterns of alternatives are literals or constructors over variables, and all case
  -- distinctions of their terms are flat
  pub are_flat_alternatives : Alternatives → Bool
  are_flat_alternatives term.NoAlternative = true
  are_flat_alternatives (term.MoreAlternatives p t alternatives) =
      is_shallow p && is_flat_term t && are_flat_alternatives alternatives

-- whether a body is one rule over different variables whose right side is flat, or a built-in
-- operation
abbrev pub is_flat_body : Body → Bool
is_flat_body (External operation) = true
is_flat_body (Rules (rule ∷ [])) = are_variables rule.params
    && is_linear (all_variables rule.params) && is_flat_term rule.body
is_flat_body (Rules _) = false

-- whether a program is flat
abbrev pub is_flat : Program → Bool
is_flat program = list_all (λ function. is_flat_body function.body) program.functions
