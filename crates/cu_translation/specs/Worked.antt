-- What the samples are translated to, as the table has it.
use Rattle.std.specs.Prelude.{ℕ, pos, negsuc, List, [], ◌∷◌, None, Some, codes, length}
use Rattle.cu_calculus.specs.Term as calculus
use Rattle.cu_calculus.specs.Term.{Any, Built}
use Rattle.cu_calculus.specs.declared.Head.TheVariants as global
use Rattle.cu_calculus.specs.declared.Lit.TheVariants as lit
use Rattle.cu_calculus.specs.declared.Mode.TheVariants.{Rigid}
use Rattle.cu_kernel.specs.LocalKernel.{LocalFunction, LocalRule, Rules, TopFunction}
use Rattle.cu_kernel.specs.LocalTerm.{Case, Free, Let, Literal, LocalTerm, MoreAlternatives, NoAlternative, NoTerm, Part, Variable, Whole}
use Rattle.cu_kernel.specs.declared.local.LocalHead.{LocalHead}
use Rattle.cu_kernel.specs.declared.local.LocalHead.TheVariants as head
use Rattle.cu_syntax.specs.Syntax as syntax
use Rattle.cu_syntax.specs.Syntax.{Expression, NoDeclaration, NoOperator, NoPattern, NoQualifier, MoreQualifiers, ThenOperator}
use Rattle.cu_translation.specs.PatternTable.{patterns_of}
use Rattle.cu_translation.specs.Rules.{Rule}
use Rattle.cu_translation.specs.Samples.{at, block, constant, constructor, defined, expressions, is, name, named, number, patterns, rule, variable}
use Rattle.cu_translation.specs.Terms.{terms}

-- ---- parts of terms

abbrev pub function_head : ℕ → LocalHead
function_head n = head.Global (global.Fun (record { 0 = n }))

abbrev pub constructor_head : ℕ → LocalHead
constructor_head n = head.Global (global.Con (record { 0 = n }))

abbrev pub int : ℕ → LocalTerm
int n = Literal (lit.Int (pos n))

abbrev pub value : ℕ → LocalTerm
value c = Whole (constructor_head c) NoTerm

abbrev pub empty_list : LocalTerm
empty_list = value 0

abbrev pub cons : LocalTerm → LocalTerm → LocalTerm
cons t ts = Whole (constructor_head 1) (terms (t ∷ ts ∷ []))

abbrev pub pattern_of : ℕ → List calculus.Pattern → calculus.Pattern
pattern_of c ps = Built (record { 0 = c }) (patterns_of ps)

-- the term of True, which has the number 18, and False the number 17; pairs have the number 3
abbrev pub truth : LocalTerm
truth = value 18

abbrev pub if_true : LocalTerm → LocalTerm → LocalTerm → LocalTerm
if_true condition chosen other =
    Case Rigid condition
    (MoreAlternatives (pattern_of 18 []) chosen
    (MoreAlternatives (pattern_of 17 []) other NoAlternative))

abbrev pub clause : List calculus.Pattern → LocalTerm → LocalRule
clause ps t = record { params = patterns_of ps; body = t }

-- a function f, whose name has the number 1
abbrev pub function_f : ℕ → List LocalRule → TopFunction
function_f arity rules =
    record { name = record { 0 = 1 }; arity = arity; body = Rules rules; locals = [] }

abbrev pub goal_of : LocalTerm → List LocalFunction → TopFunction
goal_of t locals =
    record { name = record { 0 = 0 }; arity = 0; body = Rules (clause [] t ∷ []); locals = locals }

-- a local function of a goal, whose first token stands in a column of line 1
abbrev pub local_at : ℕ → List calculus.Pattern → LocalTerm → LocalFunction
local_at column ps t = record {
  place = record { «module» = record { 0 = 0 }; line = 1; column = column };
  declared = None;
  arity = length ps;
  rules = clause ps t ∷ [];
}

-- ---- functions

-- `f x y = x`
abbrev pub first_of_two : Rule
first_of_two =
    rule 1 (codes "f") (named (codes "x") 3 ∷ named (codes "y") 5 ∷ []) (variable (codes "x") 9)

abbrev pub first_of_two_term : TopFunction
first_of_two_term = function_f 2 (clause (Any 0 ∷ Any 1 ∷ []) (Variable 0) ∷ [])

-- `f x | x = 1`
abbrev pub guard : Rule
guard = record (rule 1 (codes "f") (named (codes "x") 3 ∷ []) (number 0 9)) {
  right =
      syntax.Guarded (at 5)
      (syntax.MoreGuards (at 5) (variable (codes "x") 7) (number 1 11) syntax.NoGuard)
      NoDeclaration;
}

abbrev pub guard_term : TopFunction
guard_term =
    function_f 1 (clause (Any 0 ∷ [])
    (if_true (Variable 0) (int 1) (Whole (function_head 14) NoTerm)) ∷ [])

-- `f x = x`, after `f x y = x`
abbrev pub one_parameter : Rule
one_parameter = rule 2 (codes "f") (named (codes "x") 3 ∷ []) (variable (codes "x") 7)

-- `f x x = x`
abbrev pub twice : Rule
twice = rule 1 (codes "f") (named (codes "x") 3 ∷ named (codes "x") 5 ∷ []) (variable (codes "x") 9)

-- `f (:) = 1`, where the constructor in the pattern lacks its two
abbrev pub too_few : Rule
too_few =
    rule 1 (codes "f") (syntax.Constructed (at 3) (name (codes ":") 4) NoPattern ∷ []) (number 1 9)

-- ---- expressions

-- `if True then 1 else 2`
abbrev pub conditional : Expression
conditional = syntax.If (at 1) (constructor (codes "True") 4) (number 1 14) (number 2 21)

abbrev pub conditional_term : TopFunction
conditional_term = goal_of (if_true truth (int 1) (int 2)) []

-- `(True &&)` and `(&& True)`
abbrev pub left_section : Expression
left_section = syntax.LeftSection (at 1) (constructor (codes "True") 2) (name (codes "&&") 7)

abbrev pub left_section_term : TopFunction
left_section_term = goal_of (Part (function_head 15) (terms (truth ∷ []))) []

abbrev pub right_section : Expression
right_section = syntax.RightSection (at 1) (name (codes "&&") 2) (constructor (codes "True") 5)

abbrev pub right_section_term : TopFunction
right_section_term =
    goal_of (Part (function_head 16) (terms (Part (function_head 15) NoTerm ∷ truth ∷ []))) []

-- `- 5` and `- True`
abbrev pub negative : Expression
negative = syntax.Operators (at 1) (Some (at 1)) (number 5 3) NoOperator

abbrev pub negative_term : TopFunction
negative_term = goal_of (Literal (lit.Int (negsuc 4))) []

abbrev pub negated : Expression
negated = syntax.Operators (at 1) (Some (at 1)) (constructor (codes "True") 3) NoOperator

abbrev pub negated_term : TopFunction
negated_term = goal_of (Whole (function_head 18) (terms (truth ∷ []))) []

-- `"ab"`
abbrev pub string : Expression
string = syntax.LiteralExpression (at 1) (syntax.String (codes "ab"))

abbrev pub string_term : TopFunction
string_term = goal_of (cons (Literal (lit.Char 97)) (cons (Literal (lit.Char 98)) empty_list)) []

-- `[1 | True <- []]`
abbrev pub comprehension : Expression
comprehension =
    syntax.Comprehension (at 1) (number 1 2)
    (MoreQualifiers (syntax.Generator (at 6) (constant (codes "True") 6)
    (syntax.ListOf (at 14) (expressions []))) NoQualifier)

abbrev pub comprehension_term : TopFunction
comprehension_term =
    goal_of (Whole (function_head 17) (terms (Part (head.Local 0) NoTerm ∷ empty_list ∷ [])))
    (local_at 6 (Any 0 ∷ [])
    (Case Rigid (Variable 0)
    (MoreAlternatives (pattern_of 18 []) (cons (int 1) empty_list)
    (MoreAlternatives (Any 1) empty_list NoAlternative))) ∷ [])

-- `let { a = b; b = 1 } in a`
abbrev pub dependent : Expression
dependent =
    syntax.Let (at 1) (block
    (defined (codes "a") 7 (variable (codes "b") 11) ∷ defined (codes "b") 14 (number 1 18) ∷ []))
    (variable (codes "a") 25)

abbrev pub dependent_term : TopFunction
dependent_term = goal_of (Let 1 (int 1) (Let 0 (Variable 1) (Variable 0))) []

-- `let { (x, y) = 1 } in y`
abbrev pub binding : Expression
binding =
    syntax.Let (at 1)
    (block (syntax.PatternBinding (at 7)
    (syntax.PatternTuple (at 7) (patterns (named (codes "x") 8 ∷ named (codes "y") 11 ∷ [])))
    (is 14 (number 1 16)) ∷ []))
    (variable (codes "y") 23)

abbrev pub binding_term : TopFunction
binding_term =
    goal_of
    (Let 0 (int 1)
    (Let 1 (Whole (head.Local 0) (terms (Variable 0 ∷ [])))
    (Let 2 (Whole (head.Local 1) (terms (Variable 0 ∷ []))) (Variable 2))))
    (local_at 8 (pattern_of 3 (Any 3 ∷ Any 4 ∷ []) ∷ []) (Variable 3) ∷
    local_at 11 (pattern_of 3 (Any 5 ∷ Any 6 ∷ []) ∷ []) (Variable 6) ∷ [])

-- `let { x, y free } in x`
abbrev pub unknowns : Expression
unknowns =
    syntax.Let (at 1) (block
    (syntax.FreeVariables (at 7) (name (codes "x") 7 ∷ name (codes "y") 10 ∷ []) ∷ []))
    (variable (codes "x") 22)

abbrev pub unknowns_term : TopFunction
unknowns_term = goal_of (Free 0 (Free 1 (Variable 0))) []

-- `\x -> x`
abbrev pub lambda : Expression
lambda = syntax.Lambda (at 1) (patterns (named (codes "x") 2 ∷ [])) (variable (codes "x") 7)

abbrev pub lambda_term : TopFunction
lambda_term = goal_of (Part (head.Local 0) NoTerm) (local_at 1 (Any 0 ∷ []) (Variable 0) ∷ [])

-- `let { g x = z; z = 1 } in g 2`, where g captures z, which has to be bound around its use alone
abbrev pub closure : Expression
closure =
    syntax.Let (at 1)
    (block (syntax.FunctionRule (at 7) (name (codes "g") 7) (patterns (named (codes "x") 9 ∷ []))
    (is 11 (variable (codes "z") 13)) ∷
    defined (codes "z") 16 (number 1 20) ∷ []))
    (syntax.Application (at 27) (variable (codes "g") 27) (expressions (number 2 29 ∷ [])))

abbrev pub closure_term : TopFunction
closure_term =
    goal_of (Let 1 (int 1) (Whole (head.Local 0) (terms (int 2 ∷ []))))
    (local_at 7 (Any 0 ∷ []) (Variable 1) ∷ [])

-- `set1 k 1`
abbrev pub set_call : Expression
set_call =
    syntax.Application (at 1) (variable (codes "set1") 1)
    (expressions (variable (codes "k") 6 ∷ number 1 8 ∷ []))

abbrev pub set_call_term : TopFunction
set_call_term =
    goal_of (Whole (head.Global (global.Set (record { 0 = 19 }))) (terms (int 1 ∷ []))) []
