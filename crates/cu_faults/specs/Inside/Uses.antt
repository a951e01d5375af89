-- What an expression refers to that is a name and nothing else, and what is wrong with operators in
-- the order of their tree.
use Rattle.std.specs.Prelude.{Bool, true, false, List, [], ◌∷◌, ◌++◌, Option, None, Some, map}
use Rattle.std.specs.Option.{option_map}
use Rattle.cu_fixity.specs.Grouping.{Infix, Item, Operand}
use Rattle.cu_fixity.specs.Operators.{Named, Operator}
use Rattle.cu_fixity.specs.Resolving.{expression_parts, item_of}
use Rattle.cu_fixity.specs.declared.part.Part.{Part}
use Rattle.cu_fixity.specs.declared.part.Part.TheVariants as part
use Rattle.cu_syntax.specs.declared.expressions.Expression as code
use Rattle.cu_syntax.specs.declared.name.Name as names
use Rattle.cu_syntax.specs.ExpressionMeaning.{expression_meaning}
use Rattle.cu_syntax.specs.Names.{name_meaning}
use Rattle.cu_syntax.specs.Syntax.{Expression, Name}
use Rattle.cu_translation.specs.Around.{Around, Referent, SetFunction, name_alone, referent}
use Rattle.cu_translation.specs.FaultOrder.{Fault}
use Rattle.cu_translation.specs.Faults.{clashes_at, faults_at, use_faults}
use Rattle.cu_translation.specs.LocalNames.{Scope}
use Rattle.cu_translation.specs.Meaning.{Setting}
use Rattle.cu_translation.specs.Sites.{Operation}

-- what an argument refers to, if it is there and is a name and nothing else
unfoldable pub argument_name : Setting → Scope → Option code.Expression → Option Referent
argument_name w local None = None
argument_name w local (Some e) = name_alone w.around local (expression_meaning w.names e)

abbrev pub is_set_name : Referent → Bool
is_set_name (SetFunction n) = true
is_set_name _ = false

-- what is wrong with the use of a name on arguments
unfoldable pub use_told : Setting → Scope → names.Name → List code.Expression → List Fault
use_told w local name arguments =
    use_faults (referent w.around local (name_meaning w.names name)) (name_meaning w.names name)
    (map (name_alone w.around local) (map (expression_meaning w.names) arguments))

-- what an operand refers to, if it is a name and nothing else
abbrev pub operand_name : Around → Scope → Item Expression Operator → Option Referent
operand_name around local (Operand e) = name_alone around local e
operand_name around local _ = None

abbrev pub operator_name : Item Expression Operator → Option Name
operator_name (Infix (Named name)) = Some name
operator_name _ = None

-- What is wrong with the name of an operator, if there is one, whose left operand refers to `left`.
-- Of the right operand it only counts that it is there.
abbrev pub before_faults : Around → Scope → Option Name → Option Referent → List Fault
before_faults around local None left = []
before_faults around local (Some name) left =
    use_faults (referent around local name) name (left ∷ None ∷ [])

-- What is wrong with operators before their operands, where `before` is an operator that stands
-- before all of these.
abbrev pub items_faults : Around → Scope → Option Name → List (Item Expression Operator)
    → List Fault
items_faults around local before [] = []
items_faults around local before (i ∷ items) =
    before_faults around local before (operand_name around local i) ++
    items_faults around local (operator_name i) items

-- what is wrong with an operator, if there is one, that stands before a part of an expression
unfoldable pub part_faults : Setting → Scope → Option names.Name → Part code.Expression → List Fault
part_faults w local before part =
    before_faults w.around local (option_map (name_meaning w.names) before)
    (operand_name w.around local (item_of (expression_meaning w.names) w.names part))

unfoldable pub parts_faults : Setting → Scope → Option names.Name → List (Part code.Expression)
    → List Fault
parts_faults w local before parts =
    items_faults w.around local (option_map (name_meaning w.names) before)
    (expression_parts w.names parts)

abbrev pub operator_in : Part code.Expression → Option names.Name
operator_in (part.Operator name) = Some name
operator_in _ = None

abbrev pub operand_in : Part code.Expression → Option code.Expression
operand_in (part.Operand e) = Some e
operand_in _ = None

-- the clash of an expression with operators, if these have no grouped tree
unfoldable pub operation_clash : Setting → Scope → code.Expression → List Fault
operation_clash w local e =
    clashes_at w.around.names local (Operation (expression_meaning w.names e))

unfoldable pub operation_told : Setting → Scope → code.Expression → List Fault
operation_told w local e = faults_at w.around local (Operation (expression_meaning w.names e))
