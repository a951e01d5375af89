-- The equations of a group's functions, by what is known of these.
use Rattle.std.specs.Prelude.{ℕ, ◌+◌, List, [], ◌∷◌, Option, None, Some, drop, length, slice_get}
use Rattle.cu_calculus.specs.Program as calculus
use Rattle.cu_calculus.specs.Program.{Body, Rule}
use Rattle.cu_calculus.specs.Valid.{all_variables}
use Rattle.cu_calculus.specs.declared.FunId.{FunId}
use Rattle.cu_kernel.specs.Kernel.{Kernel}
use Rattle.cu_kernel.specs.TypeExpr as type
use Rattle.cu_kernel.specs.TypeExpr.{TypeExpr}
use Rattle.cu_types.specs.BuiltInTypes.{arrows, external_type, variables_from}
use Rattle.cu_types.specs.Equations as asked_of
use Rattle.cu_types.specs.Equations.{Asked, Assumptions, Environment, asking, bind_from, function_body, patterns_ask, renamed, scheme_asks, taking, term_asks}
use Rattle.cu_types.specs.declared.known.Known.{Known}
use Rattle.cu_types.specs.declared.known.Known.TheVariants as known
use Rattle.cu_types.specs.declared.known.Member.{Member}

-- the equations of a rule whose parameters have the type variables from `first` on, and whose
-- right-hand side has the type variable `right`
abbrev pub rule_between : Assumptions → Environment → ℕ → ℕ → Rule → Asked → Asked
rule_between assumptions env first right rule asked =
    let inner = bind_from env asked.next (all_variables rule.params) in
    term_asks assumptions inner right rule.body
    (patterns_ask assumptions inner first rule.params
    (taking (length (all_variables rule.params)) asked))

abbrev pub rules_between : Assumptions → Environment → ℕ → ℕ → List Rule → Asked → Asked
rules_between assumptions env first right [] asked = asked
rules_between assumptions env first right (rule ∷ rules) asked =
    rules_between assumptions env first right rules
    (rule_between assumptions env first right rule asked)

-- the equations of what a function computes that has so many parameters
abbrev pub body_between : Kernel → Assumptions → Environment → ℕ → ℕ → Body → Asked → Asked
body_between kernel assumptions env first arity (calculus.Rules rules) asked =
    rules_between assumptions env first (first + arity) rules asked
body_between kernel assumptions env first arity (calculus.External operation) asked =
    scheme_asks (asked_of.Polymorphic [] (external_type kernel operation))
    (arrows (variables_from first arity) (type.Variable (first + arity))) asked

-- the equation that a member's declared type asks for, if it has one
abbrev pub declared_asks : Member → Option TypeExpr → Asked → Asked
declared_asks m None asked = asked
declared_asks m (Some t) asked =
    asking (arrows (drop m.captured (variables_from m.first m.arity))
    (type.Variable (m.first + m.arity)))
    (renamed (m.first + m.arity + 1) t) asked

abbrev pub member_asks : Kernel → Assumptions → Environment → Body → Member → Asked → Asked
member_asks kernel assumptions env body m asked =
    body_between kernel assumptions env m.first m.arity body (declared_asks m m.declared asked)

-- the equations of a function, by what is known of it: there are none where it isn't of the group
abbrev pub known_asks : Kernel → Assumptions → Environment → Body → Option Known → Asked → Asked
known_asks kernel assumptions env body None asked = asked
known_asks kernel assumptions env body (Some known.Nothing) asked = asked
known_asks kernel assumptions env body (Some (known.Typed t)) asked = asked
known_asks kernel assumptions env body (Some (known.Member m)) asked =
    member_asks kernel assumptions env body m asked

-- the equations of a function of the program, if it is of the group
abbrev pub function_asks : Kernel → Assumptions → Environment → List Known → FunId → Asked → Asked
function_asks kernel assumptions env ks f asked =
    known_asks kernel assumptions env (function_body (slice_get kernel.functions f.0))
    (slice_get ks f.0) asked

abbrev pub group_asks : Kernel → Assumptions → Environment → List Known → List FunId → Asked → Asked
group_asks kernel assumptions env ks [] asked = asked
group_asks kernel assumptions env ks (f ∷ fs) asked =
    group_asks kernel assumptions env ks fs (function_asks kernel assumptions env ks f asked)
