-- Expressions by what they are.
use Rattle.std.proofs.Common.{◌≡◌, ◌∙◌, ℤ, List, [], ◌∷◌, Option, None, Some, map, refl, sym, ap, ap₂, subst, codes}
use Rattle.std.proofs.lemmas.List.Elements.{All-head}
use Rattle.std.specs.Option.{option_map}
use Rattle.std.specs.Prelude.{slice_get}
use Rattle.std.specs.List.{All}
use Rattle.std.specs.declared.alloc.Global.{Global}
use Rattle.std.specs.declared.boxed.Box.{Box}
use Rattle.std.specs.declared.vec.Vec.{Vec}
use Rattle.cu_calculus.specs.declared.Mode.{Mode}
use Rattle.cu_kernel.specs.LocalTerm as kernel
use Rattle.cu_kernel.specs.LocalTermsOf.{local_alternatives_of, local_term_of, local_term_of-Case}
use Rattle.cu_kernel.specs.TermsOf.{pattern_of}
use Rattle.cu_kernel.specs.declared.local.LocalTerm as boxed_type
use Rattle.cu_kernel.specs.declared.local.LocalTerm.TheVariants as boxed
use Rattle.cu_kernel.specs.declared.term.Pattern as boxed_pattern
use Rattle.cu_lex.specs.Located.{Position}
use Rattle.cu_lex.specs.Reading.{position_of}
use Rattle.cu_locals.specs.Entries.{block_brings}
use Rattle.cu_syntax.specs.Declarations.{body_meaning, declarations_meaning, right_meaning, right_node, right_of}
use Rattle.cu_syntax.specs.ExpressionMeaning.{expression_meaning, expressions_meaning}
use Rattle.cu_syntax.specs.Expressions.{alternatives_meaning, expression_node, maybe_meaning}
use Rattle.cu_syntax.specs.Names.{literal_meaning, name_meaning}
use Rattle.cu_syntax.specs.declared.declarations.Body.{Body}
use Rattle.cu_syntax.specs.declared.declarations.Body.TheVariants as body
use Rattle.cu_syntax.specs.declared.declarations.Declaration.{Declaration}
use Rattle.cu_syntax.specs.declared.declarations.Guard.{Guard}
use Rattle.cu_syntax.specs.declared.declarations.RightSide.{RightSide}
use Rattle.cu_syntax.specs.declared.declarations.RightSideNode.{RightSideNode}
use Rattle.cu_syntax.specs.declared.expressions.Alternative.{Alternative}
use Rattle.cu_syntax.specs.declared.expressions.Expression.{Expression}
use Rattle.cu_syntax.specs.declared.expressions.ExpressionNode.{ExpressionNode}
use Rattle.cu_syntax.specs.declared.expressions.ExpressionNode.TheVariants as node
use Rattle.cu_translation.specs.Around.{Names, Referent, referent, tuple_name}
use Rattle.cu_translation.specs.LocalNames.{At, Scope}
use Rattle.cu_translation.specs.Meaning.{Setting, referent_meaning}
use Rattle.cu_translation.specs.Table as table
use Rattle.cu_translation.specs.declared.referents.Referent as referents
use Rattle.cu_translation.specs.Terms.{Operand, applied, by_name, called, referred, terms_of}
use Rattle.cu_uses.specs.Gathered.{pattern_binds}
use Rattle.cu_forms.specs.Forms.{alternative_form, application_form, scope_after, block_form, block_term, body_form, comprehension_form, enumeration_form, expression_form, free_form, guard_form, guards_form, inside, let_form, lets_form, name_alone_form, number_alone_form, operand_form, operators_term, pattern_form, right_form}
use Rattle.cu_forms.specs.Inside.Blocks.{guards_term, row_meaning}
use Rattle.cu_forms.specs.Inside.Calls.{built_in_term, referred_on}
use Rattle.cu_forms.specs.Inside.Expressions.{alternatives_term, first_alone}
use Rattle.cu_forms.specs.Inside.Lists.{distinction, list_term, literal_term, tuple_term}
use Rattle.cu_forms.specs.Operands.{operand_meaning}
use Rattle.cu_forms.proofs.CallLemmas.{first_name, referred_by_terms}

-- ---- lists of views

operands_are : (w : Setting) (local : Scope) (es : List Expression) → map (operand_form w local) es ≡ table.operands w.around local (expressions_meaning w.names es)
unfolding expression_form name_alone_form number_alone_form
operands_are w local [] = refl
operands_are w local (e ∷ es) = ap (λ os. operand_form w local e ∷ os) (operands_are w local es)

terms_are : (w : Setting) (local : Scope) (es : List Expression) → map (expression_form w local) es ≡ table.all_terms w.around local (expressions_meaning w.names es)
unfolding expression_form
terms_are w local [] = refl
terms_are w local (e ∷ es) = ap (λ ts. expression_form w local e ∷ ts) (terms_are w local es)

alternatives_are : (w : Setting) (local : Scope) (cases : List Alternative)
    → alternatives_term (map (alternative_form w local) cases) ≡ table.distinguished w.around local (alternatives_meaning w.names cases)
unfolding pattern_form right_form pattern_binds
alternatives_are w local [] = refl
alternatives_are w local (a ∷ cases) =
    ap (kernel.MoreAlternatives (pattern_form w At a.pattern) (right_form w (scope_after w local a.pattern) a.right)) (alternatives_are w local cases)

pub guards_are : (w : Setting) (local : Scope) (cases : List Guard) → guards_term w.around.names (map (guard_form w local) cases) ≡ guards_form w local cases
unfolding guards_form expression_form distinction built_in_term
guards_are w local [] = refl
guards_are w local (g ∷ cases) =
    ap (distinction w.around.names (expression_form w local g.condition) (expression_form w local g.expression)) (guards_are w local cases)

maybe_is : (w : Setting) (local : Scope) (e : Option Expression) → option_map (expression_form w local) e ≡ table.maybe_term w.around local (maybe_meaning w.names e)
unfolding expression_form
maybe_is w local None = refl
maybe_is w local (Some e) = refl

-- ---- nodes

abbrev pub node_form : Setting → Scope → ExpressionNode → kernel.LocalTerm
node_form w local (node.Variable at x) = referred (referent w.around local (name_meaning w.names x)) []
node_form w local (node.Constructor at x) = referred (w.around.names.value (name_meaning w.names x)) []
node_form w local (node.TupleConstructor at n) = referred (w.around.names.prelude (tuple_name n)) []
node_form w local (node.Literal at found) = literal_term w.around.names (literal_meaning found)
node_form w local (node.Application at f es) = application_form w local f es.items
node_form w local (node.Operators items) = operators_term w local items
node_form w local (node.Lambda at ps e) = table.local_function w.around (position_of at)
node_form w local (node.Let at ds e) = let_form w local ds.items e
node_form w local (node.If at c t e) = distinction w.around.names (expression_form w local c) (expression_form w local t) (expression_form w local e)
node_form w local (node.Case at word e cases) = kernel.Case (table.mode word) (expression_form w local e) (alternatives_term (map (alternative_form w local) cases.items))
node_form w local (node.Tuple at es) = tuple_term w.around.names (map (expression_form w local) es.items)
node_form w local (node.List at es) = list_term w.around.names (map (expression_form w local) es.items)
node_form w local (node.LeftSection at e x) = referred (referent w.around local (name_meaning w.names x)) (operand_form w local e ∷ [])
node_form w local (node.RightSection at x e) =
    built_in_term w.around.names (codes "flip") (referred (referent w.around local (name_meaning w.names x)) [] ∷ expression_form w local e ∷ [])
node_form w local (node.Enumeration at e) = enumeration_form w local e
node_form w local (node.Comprehension at e qs) = comprehension_form w local e qs.items

formed_in : (w : Setting) (local : Scope) (n : ExpressionNode) → node_form w local n ≡ table.term w.around local (expression_node w.names n)
unfolding expression_form name_alone_form number_alone_form literal_term operators_term block_term free_form lets_form block_brings distinction tuple_term list_term built_in_term comprehension_form
formed_in w local (node.Variable at x) = refl
formed_in w local (node.Constructor at x) = refl
formed_in w local (node.TupleConstructor at n) = refl
formed_in w local (node.Literal at found) = refl
formed_in w local (node.Application at f es) = ap (called (operand_form w local f)) (operands_are w local es.items)
formed_in w local (node.Operators items) = refl
formed_in w local (node.Lambda at ps e) = refl
formed_in w local (node.Let at ds e) = refl
formed_in w local (node.If at c t e) = refl
formed_in w local (node.Case at word e cases) = ap (kernel.Case (table.mode word) (expression_form w local e)) (alternatives_are w local cases.items)
formed_in w local (node.Tuple at es) = ap (tuple_term w.around.names) (terms_are w local es.items)
formed_in w local (node.List at es) = ap (list_term w.around.names) (terms_are w local es.items)
formed_in w local (node.LeftSection at e x) = refl
formed_in w local (node.RightSection at x e) = refl
formed_in w local (node.Enumeration at e) =
    ap₂ (table.enumeration w.around.names (expression_form w local e.first)) (maybe_is w local e.second) (maybe_is w local e.last)
formed_in w local (node.Comprehension at e qs) = refl

-- what an expression stands for, by what it is
pub formed : (w : Setting) (local : Scope) (e : Expression) (v n : ExpressionNode) → expression_node w.names v ≡ expression_meaning w.names e → v ≡ n → node_form w local n ≡ expression_form w local e
unfolding expression_form
formed w local e v n meaning is = formed_in w local n ∙ ap (table.term w.around local) (ap (expression_node w.names) (sym is) ∙ meaning)

-- ---- calls

first_of_operands : (w : Setting) (local : Scope) (es : List Expression) → first_name (map (operand_form w local) es) ≡ first_alone w local es
first_of_operands w local [] = refl
first_of_operands w local (e ∷ es) = refl

-- the first of some expressions
pub first_named : (w : Setting) (local : Scope) (es : List Expression) (e : Expression) → Some e ≡ slice_get es 0 → name_alone_form w local e ≡ first_alone w local es
first_named w local [] e is = let no : ⊥ = cc in absurd no
first_named w local (d ∷ es) e is = let same : e ≡ d = cc in ap (name_alone_form w local) same

pub first_of : (P : Expression → Type 0) (es : List Expression) (e : Expression) → Some e ≡ slice_get es 0 → All P es → P e
first_of P [] e is all = let no : ⊥ = cc in absurd no
first_of P (d ∷ es) e is all = let same : e ≡ d = cc in subst P (sym same) (All-head P d es all)

terms_of_operands : (w : Setting) (local : Scope) (es : List Expression) → terms_of (map (operand_form w local) es) ≡ map (expression_form w local) es
terms_of_operands w local [] = refl
terms_of_operands w local (e ∷ es) = ap (λ ts. expression_form w local e ∷ ts) (terms_of_operands w local es)

pub called_by_name : (w : Setting) (local : Scope) (f : Expression) (es : List Expression) (r : Referent) → Some r ≡ name_alone_form w local f
    → referred_on r (first_alone w local es) (map (expression_form w local) es) ≡ application_form w local f es
called_by_name w local f es r named =
    let os = map (operand_form w local) es in
    ap₂ (referred_on r) (sym (first_of_operands w local es)) (sym (terms_of_operands w local es))
    ∙ sym (referred_by_terms r os) ∙ ap (λ n. by_name n (expression_form w local f) os) named

pub called_by_term : (w : Setting) (local : Scope) (f : Expression) (es : List Expression) → None ≡ name_alone_form w local f
    → applied (expression_form w local f) (map (expression_form w local) es) ≡ application_form w local f es
called_by_term w local f es none =
    ap (applied (expression_form w local f)) (sym (terms_of_operands w local es)) ∙ ap (λ n. by_name n (expression_form w local f) (map (operand_form w local) es)) none

pub alone_is : (r : Referent) → referred_on r None [] ≡ referred r []
alone_is r = sym (referred_by_terms r [])

pub section_is : (r : Referent) (o : Operand) → referred_on r o.name (o.term ∷ []) ≡ referred r (o ∷ [])
section_is r o = sym (referred_by_terms r (o ∷ []))

abbrev operand_with : kernel.LocalTerm → Option Referent → Option ℤ → Operand
operand_with t name number = record { term = t; name = name; number = number }

pub operand_is : (w : Setting) (local : Scope) (e : Expression) (t : boxed_type.LocalTerm) (name : Option referents.Referent) (number : Option ℤ) → local_term_of t ≡ expression_form w local e
    → option_map referent_meaning name ≡ name_alone_form w local e → number ≡ number_alone_form w.names e → operand_meaning (record { term = t; name = name; number = number }) ≡ operand_form w local e
operand_is w local e t name number same named is =
    ap₂ (λ u n. operand_with u n number) same named ∙ ap (operand_with (expression_form w local e) (name_alone_form w local e)) is

-- ---- distinctions

alternatives_meant : (rows : List (boxed_pattern.Pattern × boxed_type.LocalTerm)) → local_alternatives_of rows ≡ alternatives_term (map row_meaning rows)
alternatives_meant [] = refl
alternatives_meant (row ∷ rows) = ap (kernel.MoreAlternatives (pattern_of row.0) (local_term_of row.1)) (alternatives_meant rows)

pub case_is : (m : Mode) (b : Box boxed_type.LocalTerm Global) (subject : boxed_type.LocalTerm) (rows : Vec (boxed_pattern.Pattern × boxed_type.LocalTerm) Global) → b.value ≡ subject
    → local_term_of (boxed.Case m b rows) ≡ kernel.Case m (local_term_of subject) (alternatives_term (map row_meaning rows.items))
case_is m b subject rows boxed_in =
    local_term_of-Case m b rows ∙ ap₂ (kernel.Case m) (ap local_term_of boxed_in) (alternatives_meant rows.items)

-- ---- right-hand sides

right_in : (w : Setting) (local : Scope) (at : Position) (b : Body) (ds : List Declaration)
    → block_form w local ds (body_form w (inside w local ds) b) ≡ table.right_term w.around local (right_of at (body_meaning w.names b) (declarations_meaning w.names ds))
unfolding expression_form guards_form block_term free_form lets_form block_brings
right_in w local at (body.Plain e) ds = refl
right_in w local at (body.Guarded cases) ds = refl

-- what a right-hand side stands for, by what it is
pub right_formed : (w : Setting) (local : Scope) (right : RightSide) (v : RightSideNode) → right_node w.names v ≡ right_meaning w.names right
    → block_form w local v.local.items (body_form w (inside w local v.local.items) v.body) ≡ right_form w local right
unfolding right_form
right_formed w local right v meaning = right_in w local (position_of v.place) v.body v.local.items ∙ ap (table.right_term w.around local) meaning

-- ---- enumerations

pub from_first : (names : Names) (t : kernel.LocalTerm) → built_in_term names (codes "enumFrom") (t ∷ []) ≡ table.enumeration names t None None
unfolding built_in_term
from_first names t = refl

pub up_to_last : (names : Names) (t u : kernel.LocalTerm) → built_in_term names (codes "enumFromTo") (t ∷ u ∷ []) ≡ table.enumeration names t None (Some u)
unfolding built_in_term
up_to_last names t u = refl

pub by_second : (names : Names) (t u : kernel.LocalTerm) → built_in_term names (codes "enumFromThen") (t ∷ u ∷ []) ≡ table.enumeration names t (Some u) None
unfolding built_in_term
by_second names t u = refl

pub by_second_to_last : (names : Names) (t u v : kernel.LocalTerm) → built_in_term names (codes "enumFromThenTo") (t ∷ u ∷ v ∷ []) ≡ table.enumeration names t (Some u) (Some v)
unfolding built_in_term
by_second_to_last names t u v = refl
