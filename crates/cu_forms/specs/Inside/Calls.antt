-- Calls by the terms of their arguments, and by what the first of these refers to.
use Rattle.std.specs.Prelude.{ℕ, List, [], ◌∷◌, Option, None, Some}
use Rattle.cu_calculus.specs.declared.FunId.{FunId}
use Rattle.cu_calculus.specs.declared.Head.TheVariants as global
use Rattle.cu_kernel.specs.LocalTerm.{LocalTerm, Variable}
use Rattle.cu_kernel.specs.declared.local.LocalHead.TheVariants as head
use Rattle.cu_translation.specs.Around as around
use Rattle.cu_translation.specs.Around.{Names, Referent}
use Rattle.cu_translation.specs.Terms.{applied, built_in, call, no_term, set_call_of}

-- the function of top level that a name refers to, if it refers to one
abbrev pub function_named : Option Referent → Option FunId
function_named (Some (around.Callable (head.Global (global.Fun f)) arity)) = Some f
function_named _ = None

-- the call of the set function of the function that the first argument names, on the other
-- arguments
abbrev pub set_call_on : ℕ → Option Referent → List LocalTerm → LocalTerm
set_call_on count first [] = no_term
set_call_on count first (t ∷ ts) = set_call_of count first ts

-- the term of what a name refers to on arguments, of which the first refers to `first`
abbrev pub referred_on : Referent → Option Referent → List LocalTerm → LocalTerm
referred_on (around.Variable x) first ts = applied (Variable x) ts
referred_on (around.Callable h count) first ts = call h count ts
referred_on (around.SetFunction count) first ts = set_call_on count first ts
referred_on around.Nothing first ts = no_term

unfoldable pub built_in_term : Names → List ℕ → List LocalTerm → LocalTerm
built_in_term names text ts = built_in names text ts
