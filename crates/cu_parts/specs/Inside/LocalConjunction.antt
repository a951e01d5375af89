-- The tests by which it is decided whether rules before lifting are those of `&&`.
use Rattle.std.specs.Prelude.{ℕ, Bool, true, false, ◌&&◌, List, [], ◌∷◌, Option, None, Some, nat_eq, nat_lt, slice_get}
use Rattle.cu_calculus.specs.Program as calculus
use Rattle.cu_calculus.specs.Term as clean
use Rattle.cu_calculus.specs.declared.ConId.{ConId}
use Rattle.cu_calculus.specs.declared.builtin.Special.{Special}
use Rattle.cu_kernel.specs.LocalKernel.{External, LocalBody, LocalKernel, LocalRule, Rules, TopFunction}
use Rattle.cu_kernel.specs.LocalTerm as local
use Rattle.cu_kernel.specs.LocalTerm.{LocalAlternatives, LocalTerm}
use Rattle.cu_kernel.specs.LocalValid.{builds, term_count}
use Rattle.cu_kernel.specs.Tests.{different_variables, is_constant_head, is_constant_pattern, is_flex, is_variable, pattern_variable, same_variable}
use Rattle.cu_kernel.specs.declared.local.LocalHead.TheVariants as head
use Rattle.cu_kernel.specs.declared.local.LocalHead.{LocalHead}

abbrev pub is_local_head : ConId → LocalHead → Bool
is_local_head c (head.Global h) = is_constant_head c h
is_local_head c (head.Local k) = false

-- whether a term is this constructor without arguments
abbrev pub is_local_constant : ConId → LocalTerm → Bool
is_local_constant c (local.Whole h ts) = nat_eq (term_count ts) 0 && is_local_head c h
is_local_constant c _ = false

-- the variable that a term is, if it is one
abbrev pub local_variable : LocalTerm → Option ℕ
local_variable (local.Variable x) = Some x
local_variable _ = None

-- whether alternatives are `False -> False; True -> y`
abbrev pub are_local_branches : Special → Option ℕ → LocalAlternatives → Bool
are_local_branches special y
    (local.MoreAlternatives p s (local.MoreAlternatives q t local.NoAlternative)) =
    is_constant_pattern special.falsity p && is_local_constant special.falsity s
    && is_constant_pattern special.truth q && same_variable y (local_variable t)
are_local_branches special y _ = false

-- whether a term is `fcase x of { False -> False; True -> y }`
abbrev pub is_local_distinction : Special → Option ℕ → Option ℕ → LocalTerm → Bool
is_local_distinction special x y (local.Case m t rows) =
    is_flex m && same_variable x (local_variable t) && are_local_branches special y rows
is_local_distinction special x y _ = false

-- whether a rule is `True && x = x`
abbrev pub is_local_true : Special → LocalTerm → clean.Patterns → Bool
is_local_true special body (clean.MorePatterns p (clean.MorePatterns q clean.NoPattern)) =
    is_constant_pattern special.truth p && same_variable (pattern_variable q) (local_variable body)
is_local_true special body _ = false

-- whether a rule is `False && _ = False`
abbrev pub is_local_false : Special → LocalTerm → clean.Patterns → Bool
is_local_false special body (clean.MorePatterns p (clean.MorePatterns q clean.NoPattern)) =
    is_constant_pattern special.falsity p && is_variable (pattern_variable q)
    && is_local_constant special.falsity body
is_local_false special body _ = false

-- whether a rule is `x && y` by that case distinction
abbrev pub is_local_case : Special → LocalTerm → clean.Patterns → Bool
is_local_case special body (clean.MorePatterns p (clean.MorePatterns q clean.NoPattern)) =
    different_variables (pattern_variable p) (pattern_variable q)
    && is_local_distinction special (pattern_variable p) (pattern_variable q) body
is_local_case special body _ = false

abbrev pub are_local_rules : Special → List LocalRule → Bool
are_local_rules special [] = false
are_local_rules special (r ∷ []) = is_local_case special r.body r.params
are_local_rules special (r ∷ s ∷ []) =
    is_local_true special r.body r.params && is_local_false special s.body s.params
are_local_rules special (r ∷ s ∷ t ∷ rest) = false

-- whether a body is that of `&&`: its two rules, or its case distinction
abbrev pub is_local_conjunction : Special → LocalBody → Bool
is_local_conjunction special (Rules rules) = are_local_rules special rules
is_local_conjunction special (External operation) = false

-- whether a function is `&&`, with two parameters
abbrev pub is_local_both : Special → Option TopFunction → Bool
is_local_both special None = false
is_local_both special (Some f) = nat_eq f.arity 2 && is_local_conjunction special f.body

abbrev pub has_values : calculus.Program → Option ConId → Bool
has_values program None = true
has_values program (Some c) = builds program c 1

-- whether the built-in entities are there as they have to be
abbrev pub has_entities : LocalKernel → calculus.Program → Bool
has_entities kernel program =
    builds program kernel.special.falsity 0 && builds program kernel.special.truth 0
    && nat_lt kernel.special.falsity.0 kernel.special.truth.0
    && has_values program kernel.special.values
    && is_local_both kernel.special (slice_get kernel.functions kernel.special.both.0)
