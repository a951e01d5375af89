-- Small texts as trees, in a module after a Prelude of a few functions and the module SetFunctions.
use Rattle.std.specs.Prelude.{ℕ, zero, suc, pos, ◌+◌, false, List, [], ◌∷◌, Option, None, codes}
use Rattle.cu_lex.specs.Located.{Position}
use Rattle.cu_syntax.specs.declared.items.Side.TheVariants.{Neither}
use Rattle.cu_syntax.specs.Syntax as syntax
use Rattle.cu_syntax.specs.Syntax.{Declaration, Declarations, Expression, Expressions, Goal, Item, MoreDeclarations, MoreExpressions, MorePatterns, MoreTypes, Name, NoDeclaration, NoExpression, NoPattern, NoType, Pattern, Patterns, RightSide}
use Rattle.cu_kernel.specs.LocalKernel.{TopFunction}
use Rattle.cu_modules.specs.Scopes.{Named}
use Rattle.cu_translation.specs.Functions.{goal_function, top_function}
use Rattle.cu_translation.specs.FaultOrder.{Fault, first_fault}
use Rattle.cu_translation.specs.Faults.{group_faults}
use Rattle.cu_translation.specs.ModuleNames.{names_in}
use Rattle.cu_translation.specs.Parts.{goal_names}
use Rattle.cu_translation.specs.Rules.{Rule}
use Rattle.cu_translation.specs.Translation.{Outcome, goal_translation}

-- ---- parts of trees; a text is one line, and a place is told by its column

abbrev pub at : ℕ → Position
at column = record { line = 1; column = column }

abbrev pub name : List ℕ → ℕ → Name
name text column = record { text = text; qualifier = None; base = text; at = at column }

abbrev pub variable : List ℕ → ℕ → Expression
variable text column = syntax.Variable (at column) (name text column)

abbrev pub constructor : List ℕ → ℕ → Expression
constructor text column = syntax.Constructor (at column) (name text column)

abbrev pub number : ℕ → ℕ → Expression
number n column = syntax.LiteralExpression (at column) (syntax.Int (pos n))

abbrev pub expressions : List Expression → Expressions
expressions [] = NoExpression
expressions (e ∷ es) = MoreExpressions e (expressions es)

abbrev pub patterns : List Pattern → Patterns
patterns [] = NoPattern
patterns (p ∷ ps) = MorePatterns p (patterns ps)

abbrev pub named : List ℕ → ℕ → Pattern
named text column = syntax.PatternVariable (name text column)

abbrev pub constant : List ℕ → ℕ → Pattern
constant text column = syntax.Constructed (at column) (name text column) NoPattern

-- the right-hand side of this expression without a block, whose sign stands in this column
abbrev pub is : ℕ → Expression → RightSide
is column e = syntax.Plain (at column) e NoDeclaration

abbrev pub block : List Declaration → Declarations
block [] = NoDeclaration
block (d ∷ ds) = MoreDeclarations d (block ds)

-- the definition of a local variable, whose name stands in this column
abbrev pub defined : List ℕ → ℕ → Expression → Declaration
defined text column e =
    syntax.FunctionRule (at column) (name text column) NoPattern (is (column + 2) e)

-- a rule at the beginning of a line
abbrev pub rule : ℕ → List ℕ → List Pattern → Expression → Rule
rule line text ps e = record {
  at = record { line = line; column = 1 };
  name =
      record {
        text = text;
        qualifier = None;
        base = text;
        at = record { line = line; column = 1 };
      };
  parameters = patterns ps;
  right = is 0 e;
}

abbrev pub item : Rule → Item
item r = syntax.DeclarationItem (syntax.FunctionRule r.at r.name r.parameters r.right)

-- ---- modules

abbrev pub wildcards : ℕ → List Pattern
wildcards zero = []
wildcards (suc n) = syntax.Wildcard (at (n + 2)) ∷ wildcards n

-- the item of a function of so many parameters, all of them wildcards
abbrev pub function : List ℕ → ℕ → Item
function text arity = item (rule 1 text (wildcards arity) (number 0 20))

abbrev pub declared_constructor : List ℕ → syntax.TypeTerms → syntax.ConstructorDeclaration
declared_constructor text fields = record { at = at 1; name = name text 1; fields = fields }

-- the Prelude of the samples: `data Bool = False | True`, `infix 4 ==`, and functions with the
-- numbers 15 to 18
abbrev pub prelude : Named
prelude = record {
  name = codes "Prelude";
  syntax = record {
    header = None;
    items =
        syntax.Data (at 1) (name (codes "Bool") 6) []
        (declared_constructor (codes "False") NoType ∷ declared_constructor (codes "True") NoType ∷
        []) ∷
        syntax.Fixity (at 1) Neither 4 (name (codes "==") 7 ∷ []) ∷
        function (codes "&&") 2 ∷ function (codes "flip") 3 ∷ function (codes "concatMap") 2 ∷
        function (codes "negate") 1 ∷ [];
  };
}

-- the module SetFunctions of the samples: `data Values a = Values [a]`
abbrev pub set_functions : Named
set_functions = record {
  name = codes "SetFunctions";
  syntax = record {
    header = None;
    items =
        syntax.Data (at 1) (name (codes "Values") 6) (name (codes "a") 13 ∷ [])
        (declared_constructor (codes "Values")
        (MoreTypes (syntax.TypeList (at 24) (syntax.TypeVariable (name (codes "a") 25))) NoType) ∷
        []) ∷ [];
  };
}

-- the samples' own module M: `import SetFunctions`, and a function k of one parameter, with the
-- number 19
abbrev pub own : Named
own = record {
  name = codes "M";
  syntax = record {
    header = None;
    items =
        syntax.ImportItem (record {
          at = at 1;
          qualified = false;
          name = record { text = codes "SetFunctions"; at = at 8 };
          alias = None;
          list = None;
        }) ∷ function (codes "k") 1 ∷ [];
  };
}

abbrev pub modules : List Named
modules = prelude ∷ set_functions ∷ own ∷ []

-- the table of names of the samples
abbrev pub table : List (List ℕ)
table =
    codes "goal" ∷ codes "f" ∷ codes "Values" ∷ codes "SetFunctions" ∷ codes "Prelude" ∷ codes "M" ∷
    codes "k" ∷ []

-- ---- what texts are translated to

-- the function that rules in the module M are translated to
abbrev pub translated : Rule → List Rule → TopFunction
translated first others =
    top_function table (names_in table modules 2) (record { first = first; others = others })

abbrev pub goal : Expression → Goal
goal e = record { expression = e; free = [] }

abbrev pub translated_open : Goal → TopFunction
translated_open g = goal_function table (goal_names table modules 2) g

-- the function that a goal without free variables is translated to
abbrev pub translated_goal : Expression → TopFunction
translated_goal e = goal_function table (goal_names table modules 2) (goal e)

-- the outcome of a goal without free variables: what it is translated to, or its first fault
abbrev pub goal_outcome : Expression → Outcome
goal_outcome e = goal_translation table modules 2 (goal e)

-- the first fault of the rules of a function
abbrev pub rule_fault : Rule → List Rule → Option Fault
rule_fault first others =
    first_fault (group_faults (names_in table modules 2)
    (record { first = first; others = others }))
