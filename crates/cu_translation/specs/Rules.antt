-- The rules of functions as they stand in a text. Rules of one name that follow one another at once
-- are those of one function.
use Rattle.std.specs.Prelude.{ℕ, ◌+◌, Bool, true, false, ◌||◌, List, [], ◌∷◌, Option, None, Some, if◌then◌else◌}
use Rattle.std.specs.Str.{bytes_eq}
use Rattle.cu_lex.specs.Located.{Position}
use Rattle.cu_syntax.specs.Syntax as syntax
use Rattle.cu_syntax.specs.Syntax.{Declaration, Declarations, Expression, Expressions, Item, Name, Pattern, Patterns, RightSide}

pub record Rule : Type 0 where
  -- the place of the rule's first token
  pub at : Position
  pub name : Name
  pub parameters : Patterns
  pub right : RightSide

-- the rules of a function: the first, and those that follow it
pub record Group : Type 0 where
  pub first : Rule
  pub others : List Rule

abbrev pub rules_of : Group → List Rule
rules_of g = g.first ∷ g.others

-- the rule that a declaration is, if it is one
abbrev pub rule_in : Declaration → Option Rule
rule_in (syntax.FunctionRule at name parameters right) =
    Some (record { at = at; name = name; parameters = parameters; right = right })
rule_in _ = None

abbrev pub rule_in_item : Item → Option Rule
rule_in_item (syntax.DeclarationItem d) = rule_in d
rule_in_item _ = None

-- the rules among the declarations of a block
abbrev pub rules_in : Declarations → List (Option Rule)
rules_in syntax.NoDeclaration = []
rules_in (syntax.MoreDeclarations d ds) = rule_in d ∷ rules_in ds

-- the rules of this name with which declarations begin
abbrev pub leading : List ℕ → List (Option Rule) → List Rule
leading name (Some r ∷ ds) = if bytes_eq name r.name.text then r ∷ leading name ds else []
leading name _ = []

-- The function to which the declaration before belongs, if that is a rule: its name, and the place
-- of its first token.
pub record Begun : Type 0 where
  pub name : List ℕ
  pub at : Position

-- whether a rule of this name goes on with a function
abbrev pub goes_on : Option Begun → Name → Bool
goes_on None name = false
goes_on (Some begun) name = bytes_eq begun.name name.text

-- the function to which a rule belongs: the one before, where it has the rule's name, or one that
-- begins here
abbrev pub begun_by : Option Begun → Name → Position → Begun
begun_by (Some begun) name at =
    if bytes_eq begun.name name.text then begun else record { name = name.text; at = at }
begun_by None name at = record { name = name.text; at = at }

-- the function whose rules may go on after this declaration
abbrev pub begun_in : Option Begun → Declaration → Option Begun
begun_in begun (syntax.FunctionRule at name parameters right) = Some (begun_by begun name at)
begun_in begun _ = None

-- the functions whose rules stand among declarations, where the rules of `begun` may go on
abbrev pub groups_after : Option Begun → List (Option Rule) → List Group
groups_after begun [] = []
groups_after begun (None ∷ ds) = groups_after None ds
groups_after begun (Some r ∷ ds) =
    if goes_on begun r.name then groups_after begun ds
    else record { first = r; others = leading r.name.text ds } ∷
    groups_after (Some (begun_by begun r.name r.at)) ds

abbrev pub groups : List (Option Rule) → List Group
groups ds = groups_after None ds

-- ---- lists of patterns and expressions

abbrev pub pattern_count : Patterns → ℕ
pattern_count syntax.NoPattern = 0
pattern_count (syntax.MorePatterns p ps) = pattern_count ps + 1

abbrev pub has_parameters : Patterns → Bool
has_parameters syntax.NoPattern = false
has_parameters (syntax.MorePatterns p ps) = true

abbrev pub one_pattern : Pattern → Patterns
one_pattern p = syntax.MorePatterns p syntax.NoPattern

abbrev pub expressions : Expressions → List Expression
expressions syntax.NoExpression = []
expressions (syntax.MoreExpressions e es) = e ∷ expressions es

-- Whether a rule in a block is that of a function. One without parameters that follows no rule of
-- its name is that of a variable.
abbrev pub is_of_function : Option Begun → Name → Patterns → Bool
is_of_function begun name parameters = has_parameters parameters || goes_on begun name
