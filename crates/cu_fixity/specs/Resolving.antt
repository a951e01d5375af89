-- What is grouped of expressions and patterns as they are written, under a table of names.
use Rattle.std.specs.Prelude.{◌≡◌, ℕ, List, map}
use Rattle.std.specs.List.{All}
use Rattle.cu_lex.specs.Reading.{position_of}
use Rattle.cu_names.specs.declared.place.Place.{Place}
use Rattle.cu_syntax.specs.declared.expressions.Expression as expressions
use Rattle.cu_syntax.specs.declared.expressions.Items.{Items}
use Rattle.cu_syntax.specs.declared.name.Name as names
use Rattle.cu_syntax.specs.declared.patterns.PatItems.{PatItems}
use Rattle.cu_syntax.specs.declared.patterns.Pattern as patterns
use Rattle.cu_syntax.specs.ExpressionMeaning.{expression_meaning}
use Rattle.cu_syntax.specs.Names.{name_meaning}
use Rattle.cu_syntax.specs.Patterns.{pattern_meaning}
use Rattle.cu_syntax.specs.Syntax.{Expression, Name, Pattern}
use Rattle.cu_fixity.specs.declared.fixity.Fixity.{Fixity}
use Rattle.cu_fixity.specs.declared.part.Part.{Part}
use Rattle.cu_fixity.specs.declared.part.Part.TheVariants as part
use Rattle.cu_fixity.specs.declared.resolving.FixityClash.{FixityClash}
use Rattle.cu_fixity.specs.declared.resolving.FixityClash.TheVariants as clash
use Rattle.cu_fixity.specs.Fixities.{Table, fixity_in}
use Rattle.cu_fixity.specs.Grouping.{Infix, Item, Operand, Prefix}
use Rattle.cu_fixity.specs.Operators.{Minus, Named, Operator}

-- the item that a part is
abbrev pub item_of : {T A : Type 0} → (T → A) → List (List ℕ) → Part T → Item A Operator
item_of value table (part.Operand x) = Operand (value x)
item_of value table (part.Minus place) = Prefix (Minus (position_of place))
item_of value table (part.Operator name) = Infix (Named (name_meaning table name))

abbrev pub expression_parts : List (List ℕ) → List (Part expressions.Expression)
    → List (Item Expression Operator)
expression_parts table parts = map (item_of (expression_meaning table) table) parts

abbrev pub pattern_parts : List (List ℕ) → List (Part patterns.Pattern)
    → List (Item Pattern Operator)
pattern_parts table parts = map (item_of (pattern_meaning table) table) parts

-- Operators have in a table the fixities that the definitions give them.
abbrev pub HaveFixities : List (List ℕ) → (Name → Fixity) → Table → List names.Name → Type 0
HaveFixities table fixity declared operators =
    All (λ name. fixity (name_meaning table name) ≡ fixity_in declared name.text) operators

-- the operators between the operands of an expression
abbrev pub operators_of : Items → List names.Name
operators_of items = map (λ item. item.operator) items.rest.items

-- the constructors between the operands of a pattern
abbrev pub constructors_of : PatItems → List names.Name
constructors_of items = map (λ item. item.operator) items.rest.items

-- A clash has this place, and P holds. Of an allocation failure nothing is said.
abbrev pub Clashes : Place → Type 0 → FixityClash → Type 0
Clashes place P (clash.At at) = (at ≡ place) × P
Clashes place P clash.NoMemory = Unit {0}
