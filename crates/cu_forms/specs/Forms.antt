-- What views stand for in programs, under a table of names.
use Rattle.std.specs.Prelude.{ℤ, List, [], ◌∷◌, ◌++◌, Option, None, ℕ, map}
use Rattle.std.specs.Option.{option_map}
use Rattle.cu_calculus.specs.Term as calculus
use Rattle.cu_kernel.specs.LocalTerm.{LocalTerm}
use Rattle.cu_lex.specs.Located.{Position}
use Rattle.cu_syntax.specs.declared.declarations.Body.{Body}
use Rattle.cu_syntax.specs.declared.declarations.Body.TheVariants as body
use Rattle.cu_syntax.specs.declared.declarations.Declaration.{Declaration}
use Rattle.cu_syntax.specs.declared.declarations.Guard.{Guard}
use Rattle.cu_syntax.specs.declared.declarations.RightSide.{RightSide}
use Rattle.cu_syntax.specs.declared.expressions.Alternative.{Alternative}
use Rattle.cu_syntax.specs.declared.expressions.Enumeration.{Enumeration}
use Rattle.cu_syntax.specs.declared.expressions.Expression.{Expression}
use Rattle.cu_syntax.specs.declared.expressions.Items.{Items}
use Rattle.cu_syntax.specs.declared.expressions.Qualifier.{Qualifier}
use Rattle.cu_syntax.specs.declared.patterns.Pattern.{Pattern}
use Rattle.cu_syntax.specs.Declarations.{declarations_meaning, guards_meaning, right_meaning}
use Rattle.cu_syntax.specs.ExpressionMeaning.{expression_meaning}
use Rattle.cu_syntax.specs.Expressions.{items_meaning, qualifiers_meaning}
use Rattle.cu_syntax.specs.Patterns.{pattern_meaning}
use Rattle.cu_syntax.specs.Syntax.{Name}
use Rattle.cu_uses.specs.Gathered.{pattern_binds}
use Rattle.cu_locals.specs.Entries.{block_brings}
use Rattle.cu_forms.specs.declared.pattern_forms.Binders.{Binders}
use Rattle.cu_forms.specs.declared.pattern_forms.Binders.TheVariants.{Own, Selecting}
use Rattle.cu_translation.specs.Around as around
use Rattle.cu_translation.specs.Around.{Referent}
use Rattle.cu_translation.specs.Blocks as blocks
use Rattle.cu_translation.specs.Blocks.{Bound, frees, ordered, with_free, with_lets}
use Rattle.cu_translation.specs.LocalNames.{At, Binder, Scope, Selected, variable_entries}
use Rattle.cu_translation.specs.Meaning.{Setting, position_meaning}
use Rattle.cu_translation.specs.PatternTable as definitions
use Rattle.cu_translation.specs.Table as table
use Rattle.cu_translation.specs.Terms.{Operand, called, list}

-- ---- patterns

abbrev pub binders_meaning : Binders → Position → Binder
binders_meaning Own = At
binders_meaning (Selecting p) = Selected (position_meaning p)

unfoldable pub pattern_form : Setting → (Position → Binder) → Pattern → calculus.Pattern
pattern_form w binder p = definitions.pattern w.around binder (pattern_meaning w.names p)

-- ---- expressions

unfoldable pub expression_form : Setting → Scope → Expression → LocalTerm
expression_form w local e = table.term w.around local (expression_meaning w.names e)

-- what an expression refers to, if it is a name and nothing else
unfoldable pub name_alone_form : Setting → Scope → Expression → Option Referent
name_alone_form w local e = around.name_alone w.around local (expression_meaning w.names e)

-- the number that an expression is, if it is written as one
unfoldable pub number_alone_form : List (List ℕ) → Expression → Option ℤ
number_alone_form names e = table.number_alone (expression_meaning names e)

abbrev pub operand_form : Setting → Scope → Expression → Operand
operand_form w local e = record {
  term = expression_form w local e;
  name = name_alone_form w local e;
  number = number_alone_form w.names e;
}

abbrev pub application_form : Setting → Scope → Expression → List Expression → LocalTerm
application_form w local f es = called (operand_form w local f) (map (operand_form w local) es)

unfoldable pub operators_term : Setting → Scope → Items → LocalTerm
operators_term w local items = table.term w.around local (items_meaning w.names items)

abbrev pub enumeration_form : Setting → Scope → Enumeration → LocalTerm
enumeration_form w local e =
    table.enumeration w.around.names (expression_form w local e.first)
    (option_map (expression_form w local) e.second) (option_map (expression_form w local) e.last)

unfoldable pub comprehension_form : Setting → Scope → Expression → List Qualifier → LocalTerm
comprehension_form w local element qualifiers =
    table.comprehension w.around
    (λ inner. list w.around.names (expression_form w inner element ∷ [])) local
    (qualifiers_meaning w.names qualifiers)

-- ---- blocks

-- the free variables of a block
unfoldable pub free_form : List (List ℕ) → List Declaration → List Name
free_form names ds = frees (declarations_meaning names ds)

-- the variables of a pattern, selected from its whole value
unfoldable pub selections_form : Setting → Pattern → List Bound
selections_form w p = blocks.selections w.around (pattern_meaning w.names p)

-- the local variables that declarations define
unfoldable pub lets_form : Setting → Scope → List Declaration → List Bound
lets_form w local ds = table.lets w.around local None (declarations_meaning w.names ds)

-- a term inside a block that leaves these variables free and has these definitions
unfoldable pub block_term : Setting → List Name → List Bound → LocalTerm → LocalTerm
block_term w free bounds t =
    with_free w.around free (with_lets w.around (ordered w.around.numbers.depends bounds) t)

-- what is in scope inside a block
abbrev pub inside : Setting → Scope → List Declaration → Scope
inside w local ds = block_brings w.names ds ++ local

-- a term inside a block of these declarations
abbrev pub block_form : Setting → Scope → List Declaration → LocalTerm → LocalTerm
block_form w local ds t =
    block_term w (free_form w.names ds) (lets_form w (inside w local ds) ds) t

abbrev pub let_form : Setting → Scope → List Declaration → Expression → LocalTerm
let_form w local ds e = block_form w local ds (expression_form w (inside w local ds) e)

-- ---- right-hand sides

unfoldable pub right_form : Setting → Scope → RightSide → LocalTerm
right_form w local right = table.right_term w.around local (right_meaning w.names right)

-- the expression of the first condition that is True, by guards
unfoldable pub guards_form : Setting → Scope → List Guard → LocalTerm
guards_form w local guards = table.guarded w.around local (guards_meaning w.names guards)

abbrev pub body_form : Setting → Scope → Body → LocalTerm
body_form w local (body.Plain e) = expression_form w local e
body_form w local (body.Guarded guards) = guards_form w local guards.items

abbrev pub guard_form : Setting → Scope → Guard → LocalTerm × LocalTerm
guard_form w local g = (expression_form w local g.condition, expression_form w local g.expression)

-- what is in scope after a pattern
abbrev pub scope_after : Setting → Scope → Pattern → Scope
scope_after w local p = variable_entries (pattern_binds w.names p) ++ local

abbrev pub alternative_form : Setting → Scope → Alternative → calculus.Pattern × LocalTerm
alternative_form w local a =
    (pattern_form w At a.pattern, right_form w (scope_after w local a.pattern) a.right)
