-- The texts of expressions of flat functions. Variables have numbers: the parameters from 1 on, the
-- others in the order of their binding in the text.
use Rattle.std.specs.Prelude.{ℕ, ◌+◌, ◌-◌, List, [], ◌∷◌, ◌++◌, codes, decimal, if◌then◌else◌, length, nat_eq}
use Rattle.std.specs.Fmt.{signed_decimal}
use Rattle.std.specs.Option.{unwrap_or}
use Rattle.cu_calculus.specs.declared.ConId.{ConId}
use Rattle.cu_calculus.specs.declared.Head.{Head}
use Rattle.cu_calculus.specs.declared.Head.TheVariants as head
use Rattle.cu_calculus.specs.declared.FunId.{FunId}
use Rattle.cu_calculus.specs.declared.Lit.{Lit}
use Rattle.cu_calculus.specs.declared.Lit.TheVariants as lit
use Rattle.cu_calculus.specs.declared.Mode.{Mode}
use Rattle.cu_calculus.specs.declared.Mode.TheVariants.{Flex, Rigid}
use Rattle.cu_calculus.specs.Program.{arity_in}
use Rattle.cu_calculus.specs.Term as term
use Rattle.cu_calculus.specs.Term.{Alternatives, Pattern, Term, Terms}
use Rattle.cu_calculus.specs.Valid.{all_variables, term_count, variables_of}
use Rattle.cu_int.specs.Integers.{is_negative}
use Rattle.cu_flattext.specs.Naming.{Lowered, constructor_entity, entity_text, function_entity, in_parentheses, list_text}
use Rattle.cu_flattext.specs.TypeTexts.{numbers_from}

-- ---- the numbers of variables

-- the number of each variable
abbrev pub Numbers : Type 0
Numbers = ℕ → ℕ

-- the numbers before any variable is bound
abbrev pub no_numbers : Numbers
no_numbers x = 0

-- the numbers where one more variable has a number
abbrev pub numbered : ℕ → ℕ → Numbers → Numbers
numbered x n numbers y = if nat_eq x y then n else numbers y

-- the numbers where several variables have the numbers from n on
abbrev pub all_numbered : List ℕ → ℕ → Numbers → Numbers
all_numbered [] n numbers = numbers
all_numbered (x ∷ xs) n numbers = all_numbered xs (n + 1) (numbered x n numbers)

-- how many variables are bound in a term
abbrev mutual
  pub bindings : Term → ℕ
  bindings (term.Variable x) = 0
  bindings (term.Literal l) = 0
  bindings (term.Whole h ts) = all_bindings ts
  bindings (term.Part h ts) = all_bindings ts
  bindings (term.Apply f a) = bindings f + bindings a
  bindings (term.Let x a b) = 1 + bindings a + bindings b
  bindings (term.Free x t) = 1 + bindings t
  bindings (term.Or a b) = bindings a + bindings b
  bindings (term.Case mode a alternatives) = bindings a + branch_bindings alternatives

  -- how many variables are bound in several terms
  pub all_bindings : Terms → ℕ
  all_bindings term.NoTerm = 0
  all_bindings (term.MoreTerms t ts) = bindings t + all_bindings ts

  -- how many variables are bound in alternatives, those of their patterns among them
  pub branch_bindings : Alternatives → ℕ
  branch_bindings term.NoAlternative = 0
  branch_bindings (term.MoreAlternatives p t alternatives) =
      length (variables_of p) + bindings t + branch_bindings alternatives

-- ---- literals

-- the text of a literal
abbrev pub literal_text : Lit → List ℕ
literal_text (lit.Int n) =
    codes "Intc " ++ (if is_negative n then in_parentheses (signed_decimal n) else signed_decimal n)
literal_text (lit.Char c) = codes "Charc " ++ decimal c

-- ---- calls

-- how many arguments a head takes, and 0 where the program hasn't got it
abbrev pub arity : Lowered → Head → ℕ
arity program h = unwrap_or (arity_in program.flat h) 0

-- the name of the set function of a function with n parameters: `setN`
unfoldable pub set_text : ℕ → List ℕ
set_text n = codes "(\"SetFunctions\",\"set" ++ (decimal n ++ codes "\")")

-- the kind and the name of the call that applies a functional value
unfoldable pub apply_text : List ℕ
apply_text = codes "FuncCall (\"Prelude\",\"apply\")"

-- the name of a head
abbrev pub head_text : Lowered → Head → List ℕ
head_text program (head.Fun f) = entity_text (function_entity program f)
head_text program (head.Con c) = entity_text (constructor_entity program c)
head_text program (head.Set f) = set_text (arity program (head.Set f))

-- the kind of a head with all its arguments
abbrev pub call_kind : Head → List ℕ
call_kind (head.Con c) = codes "ConsCall"
call_kind _ = codes "FuncCall"

-- the kind of a head with fewer arguments than it takes
abbrev pub part_kind : Head → List ℕ
part_kind (head.Con c) = codes "ConsPartCall "
part_kind _ = codes "FuncPartCall "

-- the kind of a head of whose arguments so many are missing
abbrev pub kind_text : Head → ℕ → List ℕ
kind_text h missing =
    if nat_eq missing 0 then call_kind h else in_parentheses (part_kind h ++ decimal missing)

-- how many of a head's arguments are missing where it has `count` of them
abbrev pub missing : Lowered → Head → ℕ → ℕ
missing program h count = arity program h - count

-- a call of this kind and name, whose arguments have this text
abbrev pub call_text : List ℕ → List ℕ → List ℕ → List ℕ
call_text kind name arguments =
    codes "Comb " ++ (kind ++ (codes " " ++ (name ++ (codes " [" ++ (arguments ++ codes "]")))))

-- the call of a function without arguments
abbrev pub function_alone : Lowered → FunId → List ℕ
function_alone program f =
    call_text (kind_text (head.Fun f) (missing program (head.Fun f) 0))
    (head_text program (head.Fun f)) []

-- The arguments of a head, where `alone` is the text of the arguments and `after` their text after
-- another element. A set function is `setN` with the function as its first argument.
abbrev pub arguments_text : Lowered → Head → List ℕ → List ℕ → List ℕ
arguments_text program (head.Set f) alone after = function_alone program f ++ after
arguments_text program _ alone after = alone

-- ---- expressions

-- whether a case distinction is flexible or rigid
abbrev pub mode_text : Mode → List ℕ
mode_text Flex = codes "Flex"
mode_text Rigid = codes "Rigid"

-- the pattern of a constructor over so many variables, which have the numbers from n on
abbrev pub constructor_pattern_text : Lowered → ℕ → ConId → ℕ → List ℕ
constructor_pattern_text program n c count =
    codes "Pattern " ++ (entity_text (constructor_entity program c)
    ++ (codes " " ++ list_text (numbers_from n count)))

-- The pattern of a branch, whose variables have the numbers from n on. A flat program has only
-- patterns that are literals or constructors over variables.
abbrev pub pattern_text : Lowered → ℕ → Pattern → List ℕ
pattern_text program n (term.Exactly l) = codes "LPattern " ++ in_parentheses (literal_text l)
pattern_text program n (term.Built c ps) =
    constructor_pattern_text program n c (length (all_variables ps))
pattern_text program n (term.Any x) = []
pattern_text program n (term.Named x p) = []

-- the text of a branch whose body has this text
abbrev pub branch_text : Lowered → ℕ → Pattern → List ℕ → List ℕ
branch_text program n p body =
    codes "Branch " ++ (in_parentheses (pattern_text program n p)
    ++ (codes " " ++ in_parentheses body))

-- the text of an expression whose variables have these numbers, and whose bound variables get those
-- from n on
abbrev mutual
  pub expression_text : Lowered → ℕ → Numbers → Term → List ℕ
  expression_text program n numbers (term.Variable x) = codes "Var " ++ decimal (numbers x)
  expression_text program n numbers (term.Literal l) =
      codes "Lit " ++ in_parentheses (literal_text l)
  expression_text program n numbers (term.Whole h ts) =
      call_text (call_kind h) (head_text program h)
      (arguments_text program h (expressions_text program n numbers ts)
      (further_expressions program n numbers ts))
  expression_text program n numbers (term.Part h ts) =
      call_text (kind_text h (missing program h (term_count ts))) (head_text program h)
      (arguments_text program h (expressions_text program n numbers ts)
      (further_expressions program n numbers ts))
  expression_text program n numbers (term.Apply f a) =
      codes "Comb " ++ (apply_text ++ (codes " [" ++ (expression_text program n numbers f
      ++ (codes "," ++ (expression_text program (n + bindings f) numbers a ++ codes "]")))))
  expression_text program n numbers (term.Let x a b) =
      codes "Let [("
      ++ (decimal n ++ (codes "," ++ (expression_text program (n + 1) (numbered x n numbers) a
      ++ (codes ")] " ++ in_parentheses
      (expression_text program (n + 1 + bindings a) (numbered x n numbers) b)))))
  expression_text program n numbers (term.Free x t) =
      codes "Free [" ++ (decimal n ++ (codes "] "
      ++ in_parentheses (expression_text program (n + 1) (numbered x n numbers) t)))
  expression_text program n numbers (term.Or a b) =
      codes "Or " ++ (in_parentheses (expression_text program n numbers a)
      ++ (codes " " ++ in_parentheses (expression_text program (n + bindings a) numbers b)))
  expression_text program n numbers (term.Case mode a alternatives) =
      codes "Case "
      ++ (mode_text mode ++ (codes " " ++ (in_parentheses (expression_text program n numbers a)
      ++ (codes " [" ++ (branches_text program (n + bindings a) numbers alternatives
      ++ codes "]")))))

  -- the texts of expressions with commas between them, as `a,b,c`
  pub expressions_text : Lowered → ℕ → Numbers → Terms → List ℕ
  expressions_text program n numbers term.NoTerm = []
  expressions_text program n numbers (term.MoreTerms t ts) =
      expression_text program n numbers t ++ further_expressions program (n + bindings t) numbers ts

  -- the texts of expressions, each after a comma, as `,b,c`
  pub further_expressions : Lowered → ℕ → Numbers → Terms → List ℕ
  further_expressions program n numbers term.NoTerm = []
  further_expressions program n numbers (term.MoreTerms t ts) =
      codes "," ++ (expression_text program n numbers t
      ++ further_expressions program (n + bindings t) numbers ts)

  -- the texts of branches with commas between them
  pub branches_text : Lowered → ℕ → Numbers → Alternatives → List ℕ
  branches_text program n numbers term.NoAlternative = []
  branches_text program n numbers (term.MoreAlternatives p t alternatives) =
      branch_text program n p
      (expression_text program (n + length (variables_of p))
      (all_numbered (variables_of p) n numbers) t)
      ++ further_branches program (n + length (variables_of p) + bindings t) numbers alternatives

  -- the texts of branches, each after a comma
  pub further_branches : Lowered → ℕ → Numbers → Alternatives → List ℕ
  further_branches program n numbers term.NoAlternative = []
  further_branches program n numbers (term.MoreAlternatives p t alternatives) =
      codes "," ++ (branch_text program n p
      (expression_text program (n + length (variables_of p))
      (all_numbered (variables_of p) n numbers) t)
      ++ further_branches program (n + length (variables_of p) + bindings t) numbers alternatives)
