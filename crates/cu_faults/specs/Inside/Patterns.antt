-- What is wrong with views of patterns, under a table of names.
use Rattle.std.specs.Prelude.{ℕ, List, [], ◌∷◌, map}
use Rattle.cu_fixity.specs.Operators.{fixity_with, pattern_items}
use Rattle.cu_fixity.specs.declared.piece.Piece.{Piece}
use Rattle.cu_fixity.specs.declared.piece.Piece.TheVariants as piece
use Rattle.cu_lex.specs.Reading.{position_of}
use Rattle.cu_syntax.specs.declared.name.Name as code
use Rattle.cu_syntax.specs.declared.patterns.ConstructorItem.{ConstructorItem}
use Rattle.cu_syntax.specs.declared.patterns.PatItems.{PatItems}
use Rattle.cu_syntax.specs.declared.patterns.Pattern.{Pattern}
use Rattle.cu_syntax.specs.Names.{name_meaning}
use Rattle.cu_syntax.specs.Patterns.{pat_items_meaning, pattern_meaning, patterns_meaning, rest_meaning}
use Rattle.cu_translation.specs.FaultOrder.{Fault, NonLinear, at_name}
use Rattle.cu_translation.specs.Faults.{all_clashes, all_constructor_faults, clash_unless, clashes_after, constructor_fault, constructor_faults, operator_faults, pattern_clashes, pattern_faults}
use Rattle.cu_translation.specs.GroupedTree.{grouped_tree}
use Rattle.cu_translation.specs.Meaning.{Setting}
use Rattle.cu_uses.specs.Binders.{repeated, variables}
use Rattle.cu_faults.specs.declared.patterns.Sought.{Sought}
use Rattle.cu_faults.specs.declared.patterns.Sought.TheVariants.{Clashes, Counts}

-- ---- clashes

-- what grouping sees of constructor operators and the patterns after them
abbrev pub pieces_after : Setting → List ConstructorItem → List Piece
pieces_after w [] = []
pieces_after w (item ∷ items) =
    piece.Operator (w.around.names.fixity (name_meaning w.names item.operator)) ∷
    piece.Operand ∷ pieces_after w items

abbrev pub pieces_of : Setting → PatItems → List Piece
pieces_of w items = piece.Operand ∷ pieces_after w items.rest.items

unfoldable pub operators_clash : Setting → PatItems → List Fault
operators_clash w items =
    clash_unless (position_of items.place)
    (grouped_tree (fixity_with w.around.names.fixity)
    (pattern_items (pat_items_meaning w.names items)))

-- ---- walks

-- what is told of a constructor on so many patterns, faults in these patterns apart
abbrev pub constructed_told : Sought → Setting → code.Name → ℕ → List Fault
constructed_told Clashes w c n = []
constructed_told Counts w c n = constructor_fault w.around.names (name_meaning w.names c) n

-- what is told of patterns with constructor operators between them, faults in these patterns apart
abbrev pub operators_told : Sought → Setting → PatItems → List Fault
operators_told Clashes w items = operators_clash w items
operators_told Counts w items = []

unfoldable pub pattern_told : Sought → Setting → Pattern → List Fault
pattern_told Clashes w p = pattern_clashes w.around.names (pattern_meaning w.names p)
pattern_told Counts w p = constructor_faults w.around.names (pattern_meaning w.names p)

unfoldable pub patterns_told : Sought → Setting → List Pattern → List Fault
patterns_told Clashes w ps = all_clashes w.around.names (patterns_meaning w.names ps)
patterns_told Counts w ps = all_constructor_faults w.around.names (patterns_meaning w.names ps)

unfoldable pub operands_told : Sought → Setting → List ConstructorItem → List Fault
operands_told Clashes w items = clashes_after w.around.names (rest_meaning w.names items)
operands_told Counts w items = operator_faults w.around.names (rest_meaning w.names items)

-- ---- variables

-- the faults of those names whose text stands earlier in the list, or is one of `seen`
unfoldable pub repeats : List (List ℕ) → List (List ℕ) → List code.Name → List Fault
repeats names seen found = map (at_name NonLinear) (repeated seen (map (name_meaning names) found))

unfoldable pub variables_told : List (List ℕ) → List Pattern → List Fault
variables_told names ps =
    map (at_name NonLinear) (repeated [] (variables (patterns_meaning names ps)))

-- ---- patterns whose variables are declared together

unfoldable pub faults_told : Setting → List Pattern → List Fault
faults_told w ps = pattern_faults w.around.names (patterns_meaning w.names ps)
