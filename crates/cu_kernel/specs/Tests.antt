-- The tests by which the code decides whether a kernel program is valid. `IsValid` says it by
-- relations.
use Rattle.std.specs.Prelude.{ℕ, Bool, true, false, not, ◌&&◌, List, [], ◌∷◌, Option, None, Some, nat_eq, nat_lt}
use Rattle.std.specs.List.{list_all}
use Rattle.cu_calculus.specs.Program as calculus
use Rattle.cu_calculus.specs.Shape.{takes}
use Rattle.cu_calculus.specs.Term as clean
use Rattle.cu_calculus.specs.Valid.{is_arity, pattern_count, term_count}
use Rattle.cu_calculus.specs.declared.ConId.{ConId}
use Rattle.cu_calculus.specs.declared.Head.TheVariants as head
use Rattle.cu_calculus.specs.declared.Head.{Head}
use Rattle.cu_calculus.specs.declared.Mode.TheVariants as mode
use Rattle.cu_calculus.specs.declared.Mode.{Mode}
use Rattle.cu_calculus.specs.declared.builtin.Special.{Special}
use Rattle.cu_kernel.specs.Kernel.{Kernel}
use Rattle.cu_kernel.specs.Valid.{fit_marks, fits_data_type, fits_goal, fits_synonym, is_parameter}
use Rattle.cu_kernel.specs.declared.declared.TypeVariables.TheVariants as variables
use Rattle.cu_kernel.specs.declared.declared.TypeVariables.{TypeVariables}

-- whether a pattern is this constructor without arguments
abbrev pub is_constant_pattern : ConId → clean.Pattern → Bool
is_constant_pattern c (clean.Built d ps) = nat_eq (pattern_count ps) 0 && nat_eq c.0 d.0
is_constant_pattern c _ = false

-- whether a head is this constructor
abbrev pub is_constant_head : ConId → Head → Bool
is_constant_head c (head.Con d) = nat_eq c.0 d.0
is_constant_head c _ = false

-- whether a term is this constructor without arguments
abbrev pub is_constant_term : ConId → clean.Term → Bool
is_constant_term c (clean.Whole h ts) = nat_eq (term_count ts) 0 && is_constant_head c h
is_constant_term c _ = false

-- the variable that a pattern is, if it is one
abbrev pub pattern_variable : clean.Pattern → Option ℕ
pattern_variable (clean.Any x) = Some x
pattern_variable _ = None

-- the variable that a term is, if it is one
abbrev pub term_variable : clean.Term → Option ℕ
term_variable (clean.Variable x) = Some x
term_variable _ = None

-- whether both are variables, and the same one
abbrev pub same_variable : Option ℕ → Option ℕ → Bool
same_variable (Some x) (Some y) = nat_eq x y
same_variable _ _ = false

-- whether both are variables, and different ones
abbrev pub different_variables : Option ℕ → Option ℕ → Bool
different_variables (Some x) (Some y) = not (nat_eq x y)
different_variables _ _ = false

-- whether a case distinction is flexible
abbrev pub is_flex : Mode → Bool
is_flex mode.Flex = true
is_flex mode.Rigid = false

-- whether these patterns and this right side are the rule `True && x = x`
abbrev pub is_true_params : Special → clean.Term → clean.Patterns → Bool
is_true_params special body (clean.MorePatterns p (clean.MorePatterns q clean.NoPattern)) =
    is_constant_pattern special.truth p && same_variable (pattern_variable q) (term_variable body)
is_true_params special body _ = false

-- whether a rule is `True && x = x`
abbrev pub is_true_rule : Special → calculus.Rule → Bool
is_true_rule special rule = is_true_params special rule.body rule.params

-- whether there is a variable
abbrev pub is_variable : Option ℕ → Bool
is_variable (Some x) = true
is_variable None = false

-- whether these patterns and this right side are the rule `False && _ = False`
abbrev pub is_false_params : Special → clean.Term → clean.Patterns → Bool
is_false_params special body (clean.MorePatterns p (clean.MorePatterns q clean.NoPattern)) =
    is_constant_pattern special.falsity p && is_variable (pattern_variable q)
    && is_constant_term special.falsity body
is_false_params special body _ = false

-- whether a rule is `False && _ = False`
abbrev pub is_false_rule : Special → calculus.Rule → Bool
is_false_rule special rule = is_false_params special rule.body rule.params

-- whether alternatives are `False -> False` and `True -> y`
abbrev pub are_branches : Special → Option ℕ → clean.Alternatives → Bool
are_branches special y (clean.MoreAlternatives p s
    (clean.MoreAlternatives q t clean.NoAlternative)) =
    is_constant_pattern special.falsity p && is_constant_term special.falsity s
    && is_constant_pattern special.truth q && same_variable y (term_variable t)
are_branches special y _ = false

-- whether a term is `fcase x of { False -> False; True -> y }`
abbrev pub is_distinction : Special → Option ℕ → Option ℕ → clean.Term → Bool
is_distinction special x y (clean.Case m t rows) =
    is_flex m && same_variable x (term_variable t) && are_branches special y rows
is_distinction special x y _ = false

-- whether these patterns and this right side are the rule `x && y = fcase x of { False -> False;
-- True -> y }`
abbrev pub is_case_params : Special → clean.Term → clean.Patterns → Bool
is_case_params special body (clean.MorePatterns p (clean.MorePatterns q clean.NoPattern)) =
    different_variables (pattern_variable p) (pattern_variable q)
    && is_distinction special (pattern_variable p) (pattern_variable q) body
is_case_params special body _ = false

-- whether a rule is `x && y` by its case distinction
abbrev pub is_case_rule : Special → calculus.Rule → Bool
is_case_rule special rule = is_case_params special rule.body rule.params

-- whether rules are the two rules of `&&`, or one rule with its case distinction
abbrev pub are_conjunction_rules : Special → List calculus.Rule → Bool
are_conjunction_rules special [] = false
are_conjunction_rules special (r ∷ []) = is_case_rule special r
are_conjunction_rules special (r ∷ s ∷ []) = is_true_rule special r && is_false_rule special s
are_conjunction_rules special (r ∷ s ∷ t ∷ rest) = false

-- whether a body is that of `&&`: its two rules, or one rule with its case distinction
abbrev pub is_conjunction : Special → calculus.Body → Bool
is_conjunction special (calculus.Rules rules) = are_conjunction_rules special rules
is_conjunction special (calculus.External operation) = false

-- whether a function is `&&`, with two parameters
abbrev pub is_both : Special → Option calculus.Function → Bool
is_both special None = false
is_both special (Some f) = nat_eq f.arity 2 && is_conjunction special f.body

-- whether the constructor of the values of set functions, where there is one, takes one argument
abbrev pub has_values : calculus.Program → Option ConId → Bool
has_values program None = true
has_values program (Some c) = takes (calculus.arity_in program (head.Con c)) 1

-- whether the built-in constructors are there, with their arities
abbrev pub has_constants : calculus.Program → Bool
has_constants program =
    takes (calculus.arity_in program (head.Con program.special.falsity)) 0
    && takes (calculus.arity_in program (head.Con program.special.truth)) 0
    && nat_lt program.special.falsity.0 program.special.truth.0
    && takes (calculus.arity_in program (head.Con program.special.nil)) 0
    && takes (calculus.arity_in program (head.Con program.special.cons)) 2
    && has_values program program.special.values

-- whether the built-in entities are there, with their arities and rules
abbrev pub has_special : calculus.Program → Bool
has_special program = is_both program.special (calculus.function_of program program.special.both)
    && has_constants program

-- whether a type variable may stand in a type
abbrev pub passes : TypeVariables → ℕ → Bool
passes variables.All = λ x. true
passes (variables.Below count) = is_parameter count

-- whether what a program declares beside its rules names types, modules and functions of the
-- program
abbrev pub fit_declarations : Kernel → Bool
fit_declarations kernel =
    list_all (fits_data_type kernel) kernel.types && list_all (fits_synonym kernel) kernel.synonyms
    && fit_marks kernel kernel.marks kernel.functions && fits_goal kernel kernel.goal

-- whether the arities of all constructors are such as a graph can hold
abbrev pub has_arities : calculus.Program → Bool
has_arities program = list_all (λ c. is_arity c.arity) program.constructors
