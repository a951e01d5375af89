-- The uses of types in views, by their parts.
use Rattle.std.proofs.Common.{◌≡◌, ◌∙◌, ◌<◌, ◌≤◌, ◌+◌, ℕ, List, [], ◌∷◌, ◌++◌, Option, None, Some, length, drop, get_or, refl, sym, ap, subst, arith}
use Rattle.std.proofs.lemmas.List.{append_assoc}
use Rattle.std.specs.List.{All}
use Rattle.cu_lex.specs.Located.{Position}
use Rattle.cu_lex.specs.Reading.{position_of}
use Rattle.cu_names.specs.declared.names.NameId.{NameId}
use Rattle.cu_syntax.specs.declared.declarations.Body.{Body}
use Rattle.cu_syntax.specs.declared.declarations.Body.TheVariants as body
use Rattle.cu_syntax.specs.declared.declarations.Declaration.{Declaration}
use Rattle.cu_syntax.specs.declared.declarations.DeclarationNode.{DeclarationNode}
use Rattle.cu_syntax.specs.declared.declarations.DeclarationNode.TheVariants as declaration
use Rattle.cu_syntax.specs.declared.declarations.Guard.{Guard}
use Rattle.cu_syntax.specs.declared.declarations.RightSide.{RightSide}
use Rattle.cu_syntax.specs.declared.declarations.RightSideNode.{RightSideNode}
use Rattle.cu_syntax.specs.declared.expressions.Alternative.{Alternative}
use Rattle.cu_syntax.specs.declared.expressions.Expression.{Expression}
use Rattle.cu_syntax.specs.declared.expressions.ExpressionNode.{ExpressionNode}
use Rattle.cu_syntax.specs.declared.expressions.ExpressionNode.TheVariants as expression
use Rattle.cu_syntax.specs.declared.expressions.OperatorItem.{OperatorItem}
use Rattle.cu_syntax.specs.declared.expressions.Qualifier.{Qualifier}
use Rattle.cu_syntax.specs.declared.expressions.Qualifier.TheVariants as qualifier
use Rattle.cu_syntax.specs.declared.types.TypeNode.{TypeNode}
use Rattle.cu_syntax.specs.declared.types.TypeNode.TheVariants as type_term
use Rattle.cu_syntax.specs.declared.types.TypeTerm.{TypeTerm}
use Rattle.cu_syntax.specs.Declarations.{body_meaning, declaration_meaning, declaration_node, declarations_meaning, right_meaning, right_node, right_of}
use Rattle.cu_syntax.specs.ExpressionMeaning.{expression_meaning}
use Rattle.cu_syntax.specs.Expressions.{expression_node}
use Rattle.cu_syntax.specs.Names.{name_meaning}
use Rattle.cu_syntax.specs.Syntax as syntax
use Rattle.cu_syntax.specs.Types.{function_type, type_meaning, type_node, types_meaning}
use Rattle.cu_declared.specs.declared.found.TypeUse as code
use Rattle.cu_declared.specs.Inside.Gathered.{Adds, in_alternatives, in_body, in_declaration, in_declarations, in_enumeration, in_expression, in_expressions, in_guards, in_maybe, in_operands, in_qualifier, in_qualifiers, in_right, in_type, in_types}
use Rattle.cu_declared.specs.TypeUses.{TypeUse, declaration_uses, expression_uses, right_uses, type_count, type_uses, types_uses}
use Rattle.cu_declared.proofs.AddsLemmas.{adds_as, adds_end, adds_prefix, adds_none}

-- ---- types

abbrev pub named : List (List ℕ) → code.TypeUse → TypeUse
named names u = record { name = name_meaning names u.name; arguments = u.arguments }

count_of : (names : List (List ℕ)) (ts : List TypeTerm) → type_count (types_meaning names ts) ≡ length ts
count_of names [] = refl
count_of names (t ∷ ts) = let rest : type_count (types_meaning names ts) ≡ length ts = count_of names ts in omega arith

abbrev pub in_type_node : List (List ℕ) → TypeNode → List TypeUse
in_type_node names (type_term.Variable x) = []
in_type_node names (type_term.Named t ts) = record { name = name_meaning names t; arguments = length ts.items } ∷ in_types names ts.items
in_type_node names (type_term.Function s ts t) = in_type names s ++ (in_types names ts.items ++ in_type names t)
in_type_node names (type_term.Tuple at ts) = in_types names ts.items
in_type_node names (type_term.List at t) = in_type names t

in_parameters : (names : List (List ℕ)) (ts : List TypeTerm) (r : syntax.TypeTerm) → types_uses (types_meaning names ts) ++ type_uses r ≡ type_uses (function_type names ts r)
in_parameters names [] r = refl
in_parameters names (t ∷ ts) r =
    append_assoc (type_uses (type_meaning names t)) (types_uses (types_meaning names ts)) (type_uses r)
    ∙ ap (λ xs. type_uses (type_meaning names t) ++ xs) (in_parameters names ts r)

type_node_uses : (names : List (List ℕ)) (n : TypeNode) → in_type_node names n ≡ type_uses (type_node names n)
unfolding in_type in_types
type_node_uses names (type_term.Variable x) = refl
type_node_uses names (type_term.Named t ts) =
    ap (λ k. (record { name = name_meaning names t; arguments = k }) ∷ types_uses (types_meaning names ts.items)) (sym (count_of names ts.items))
type_node_uses names (type_term.Function s ts t) = ap (λ xs. type_uses (type_meaning names s) ++ xs) (in_parameters names ts.items (type_meaning names t))
type_node_uses names (type_term.Tuple at ts) = refl
type_node_uses names (type_term.List at t) = refl

type_by_node : (names : List (List ℕ)) (t : TypeTerm) (n : TypeNode) → type_node names n ≡ type_meaning names t → in_type_node names n ≡ in_type names t
unfolding in_type
type_by_node names t n meaning = type_node_uses names n ∙ ap type_uses meaning

-- what is found in a type, by what it is
pub type_found : (owner : NameId) (names : List (List ℕ)) (t : TypeTerm) (v n : TypeNode) (a b : List code.TypeUse) → type_node names v ≡ type_meaning names t → v ≡ n
    → Adds owner names a (in_type_node names n) b → Adds owner names a (in_type names t) b
type_found owner names t v n a b meaning is adds =
    adds_as owner names a b (in_type_node names n) (in_type names t) (type_by_node names t n (ap (type_node names) (sym is) ∙ meaning)) adds

-- ---- expressions

abbrev pub in_node : List (List ℕ) → ExpressionNode → List TypeUse
in_node names (expression.Variable at x) = []
in_node names (expression.Constructor at x) = []
in_node names (expression.Literal at found) = []
in_node names (expression.Application at f es) = in_expression names f ++ in_expressions names es.items
in_node names (expression.Operators items) = in_expression names items.first ++ in_operands names items.rest.items
in_node names (expression.Lambda at ps e) = in_expression names e
in_node names (expression.Let at ds e) = in_declarations names ds.items ++ in_expression names e
in_node names (expression.If at c t e) = in_expression names c ++ (in_expression names t ++ in_expression names e)
in_node names (expression.Case at word e cases) = in_expression names e ++ in_alternatives names cases.items
in_node names (expression.Tuple at es) = in_expressions names es.items
in_node names (expression.TupleConstructor at n) = []
in_node names (expression.LeftSection at e x) = in_expression names e
in_node names (expression.RightSection at x e) = in_expression names e
in_node names (expression.List at es) = in_expressions names es.items
in_node names (expression.Enumeration at e) = in_enumeration names e
in_node names (expression.Comprehension at e qs) = in_expression names e ++ in_qualifiers names qs.items

node_uses : (names : List (List ℕ)) (n : ExpressionNode) → in_node names n ≡ expression_uses (expression_node names n)
unfolding in_expression in_expressions in_operands in_alternatives in_declarations in_maybe in_qualifiers
node_uses names (expression.Variable at x) = refl
node_uses names (expression.Constructor at x) = refl
node_uses names (expression.Literal at found) = refl
node_uses names (expression.Application at f es) = refl
node_uses names (expression.Operators items) = refl
node_uses names (expression.Lambda at ps e) = refl
node_uses names (expression.Let at ds e) = refl
node_uses names (expression.If at c t e) = refl
node_uses names (expression.Case at word e cases) = refl
node_uses names (expression.Tuple at es) = refl
node_uses names (expression.TupleConstructor at n) = refl
node_uses names (expression.LeftSection at e x) = refl
node_uses names (expression.RightSection at x e) = refl
node_uses names (expression.List at es) = refl
node_uses names (expression.Enumeration at e) = refl
node_uses names (expression.Comprehension at e qs) = refl

by_node : (names : List (List ℕ)) (e : Expression) (n : ExpressionNode) → expression_node names n ≡ expression_meaning names e → in_node names n ≡ in_expression names e
unfolding in_expression
by_node names e n meaning = node_uses names n ∙ ap expression_uses meaning

pub expression_found : (owner : NameId) (names : List (List ℕ)) (e : Expression) (v n : ExpressionNode) (a b : List code.TypeUse) → expression_node names v ≡ expression_meaning names e → v ≡ n
    → Adds owner names a (in_node names n) b → Adds owner names a (in_expression names e) b
expression_found owner names e v n a b meaning is adds =
    adds_as owner names a b (in_node names n) (in_expression names e) (by_node names e n (ap (expression_node names) (sym is) ∙ meaning)) adds

-- ---- lists

types_cons : (names : List (List ℕ)) (x : TypeTerm) (xs : List TypeTerm) → in_types names (x ∷ xs) ≡ in_type names x ++ in_types names xs
unfolding in_types in_type
types_cons names x xs = refl

types_nil : (names : List (List ℕ)) → in_types names [] ≡ []
unfolding in_types
types_nil names = refl

pub types_prefix : (P : TypeTerm → Type 0) (owner : NameId) (names : List (List ℕ)) (xs : List TypeTerm) (i : ℕ) (x : TypeTerm) (a b c : List code.TypeUse) → x ≡ get_or xs i x → i < length xs → All P xs
    → (P x → Adds owner names a (in_type names x) b) → Adds owner names b (in_types names (drop (i + 1) xs)) c → Adds owner names a (in_types names (drop i xs)) c
types_prefix P owner names = adds_prefix P (in_types names) (λ x. in_type names x) (types_cons names) owner names

pub types_end : (owner : NameId) (names : List (List ℕ)) (xs : List TypeTerm) (i : ℕ) (a : List code.TypeUse) → length xs ≤ i → Adds owner names a (in_types names (drop i xs)) a
types_end owner names = adds_end (in_types names) (types_nil names) owner names

expressions_cons : (names : List (List ℕ)) (x : Expression) (xs : List Expression) → in_expressions names (x ∷ xs) ≡ in_expression names x ++ in_expressions names xs
unfolding in_expressions in_expression
expressions_cons names x xs = refl

expressions_nil : (names : List (List ℕ)) → in_expressions names [] ≡ []
unfolding in_expressions
expressions_nil names = refl

pub expressions_prefix : (P : Expression → Type 0) (owner : NameId) (names : List (List ℕ)) (xs : List Expression) (i : ℕ) (x : Expression) (a b c : List code.TypeUse) → x ≡ get_or xs i x → i < length xs → All P xs
    → (P x → Adds owner names a (in_expression names x) b) → Adds owner names b (in_expressions names (drop (i + 1) xs)) c → Adds owner names a (in_expressions names (drop i xs)) c
expressions_prefix P owner names = adds_prefix P (in_expressions names) (λ x. in_expression names x) (expressions_cons names) owner names

pub expressions_end : (owner : NameId) (names : List (List ℕ)) (xs : List Expression) (i : ℕ) (a : List code.TypeUse) → length xs ≤ i → Adds owner names a (in_expressions names (drop i xs)) a
expressions_end owner names = adds_end (in_expressions names) (expressions_nil names) owner names

operands_cons : (names : List (List ℕ)) (x : OperatorItem) (xs : List OperatorItem) → in_operands names (x ∷ xs) ≡ in_expression names x.operand ++ in_operands names xs
unfolding in_operands in_expression
operands_cons names x xs = refl

operands_nil : (names : List (List ℕ)) → in_operands names [] ≡ []
unfolding in_operands
operands_nil names = refl

pub operands_prefix : (P : OperatorItem → Type 0) (owner : NameId) (names : List (List ℕ)) (xs : List OperatorItem) (i : ℕ) (x : OperatorItem) (a b c : List code.TypeUse) → x ≡ get_or xs i x → i < length xs → All P xs
    → (P x → Adds owner names a (in_expression names x.operand) b) → Adds owner names b (in_operands names (drop (i + 1) xs)) c → Adds owner names a (in_operands names (drop i xs)) c
operands_prefix P owner names = adds_prefix P (in_operands names) (λ x. in_expression names x.operand) (operands_cons names) owner names

pub operands_end : (owner : NameId) (names : List (List ℕ)) (xs : List OperatorItem) (i : ℕ) (a : List code.TypeUse) → length xs ≤ i → Adds owner names a (in_operands names (drop i xs)) a
operands_end owner names = adds_end (in_operands names) (operands_nil names) owner names

alternatives_cons : (names : List (List ℕ)) (x : Alternative) (xs : List Alternative) → in_alternatives names (x ∷ xs) ≡ in_right names x.right ++ in_alternatives names xs
unfolding in_alternatives in_right
alternatives_cons names x xs = refl

alternatives_nil : (names : List (List ℕ)) → in_alternatives names [] ≡ []
unfolding in_alternatives
alternatives_nil names = refl

pub alternatives_prefix : (P : Alternative → Type 0) (owner : NameId) (names : List (List ℕ)) (xs : List Alternative) (i : ℕ) (x : Alternative) (a b c : List code.TypeUse) → x ≡ get_or xs i x → i < length xs → All P xs
    → (P x → Adds owner names a (in_right names x.right) b) → Adds owner names b (in_alternatives names (drop (i + 1) xs)) c → Adds owner names a (in_alternatives names (drop i xs)) c
alternatives_prefix P owner names = adds_prefix P (in_alternatives names) (λ x. in_right names x.right) (alternatives_cons names) owner names

pub alternatives_end : (owner : NameId) (names : List (List ℕ)) (xs : List Alternative) (i : ℕ) (a : List code.TypeUse) → length xs ≤ i → Adds owner names a (in_alternatives names (drop i xs)) a
alternatives_end owner names = adds_end (in_alternatives names) (alternatives_nil names) owner names

guards_cons : (names : List (List ℕ)) (x : Guard) (xs : List Guard) → in_guards names (x ∷ xs) ≡ (in_expression names x.condition ++ in_expression names x.expression) ++ in_guards names xs
unfolding in_guards in_expression
guards_cons names x xs = sym (append_assoc (in_expression names x.condition) (in_expression names x.expression) (in_guards names xs))

guards_nil : (names : List (List ℕ)) → in_guards names [] ≡ []
unfolding in_guards
guards_nil names = refl

pub guards_prefix : (P : Guard → Type 0) (owner : NameId) (names : List (List ℕ)) (xs : List Guard) (i : ℕ) (x : Guard) (a b c : List code.TypeUse) → x ≡ get_or xs i x → i < length xs → All P xs
    → (P x → Adds owner names a (in_expression names x.condition ++ in_expression names x.expression) b) → Adds owner names b (in_guards names (drop (i + 1) xs)) c → Adds owner names a (in_guards names (drop i xs)) c
guards_prefix P owner names = adds_prefix P (in_guards names) (λ x. in_expression names x.condition ++ in_expression names x.expression) (guards_cons names) owner names

pub guards_end : (owner : NameId) (names : List (List ℕ)) (xs : List Guard) (i : ℕ) (a : List code.TypeUse) → length xs ≤ i → Adds owner names a (in_guards names (drop i xs)) a
guards_end owner names = adds_end (in_guards names) (guards_nil names) owner names

declarations_cons : (names : List (List ℕ)) (x : Declaration) (xs : List Declaration) → in_declarations names (x ∷ xs) ≡ in_declaration names x ++ in_declarations names xs
unfolding in_declarations in_declaration
declarations_cons names x xs = refl

declarations_nil : (names : List (List ℕ)) → in_declarations names [] ≡ []
unfolding in_declarations
declarations_nil names = refl

pub declarations_prefix : (P : Declaration → Type 0) (owner : NameId) (names : List (List ℕ)) (xs : List Declaration) (i : ℕ) (x : Declaration) (a b c : List code.TypeUse) → x ≡ get_or xs i x → i < length xs → All P xs
    → (P x → Adds owner names a (in_declaration names x) b) → Adds owner names b (in_declarations names (drop (i + 1) xs)) c → Adds owner names a (in_declarations names (drop i xs)) c
declarations_prefix P owner names = adds_prefix P (in_declarations names) (λ x. in_declaration names x) (declarations_cons names) owner names

pub declarations_end : (owner : NameId) (names : List (List ℕ)) (xs : List Declaration) (i : ℕ) (a : List code.TypeUse) → length xs ≤ i → Adds owner names a (in_declarations names (drop i xs)) a
declarations_end owner names = adds_end (in_declarations names) (declarations_nil names) owner names

qualifiers_cons : (names : List (List ℕ)) (x : Qualifier) (xs : List Qualifier) → in_qualifiers names (x ∷ xs) ≡ in_qualifier names x ++ in_qualifiers names xs
unfolding in_qualifiers in_qualifier
qualifiers_cons names x xs = refl

qualifiers_nil : (names : List (List ℕ)) → in_qualifiers names [] ≡ []
unfolding in_qualifiers
qualifiers_nil names = refl

pub qualifiers_prefix : (P : Qualifier → Type 0) (owner : NameId) (names : List (List ℕ)) (xs : List Qualifier) (i : ℕ) (x : Qualifier) (a b c : List code.TypeUse) → x ≡ get_or xs i x → i < length xs → All P xs
    → (P x → Adds owner names a (in_qualifier names x) b) → Adds owner names b (in_qualifiers names (drop (i + 1) xs)) c → Adds owner names a (in_qualifiers names (drop i xs)) c
qualifiers_prefix P owner names = adds_prefix P (in_qualifiers names) (λ x. in_qualifier names x) (qualifiers_cons names) owner names

pub qualifiers_end : (owner : NameId) (names : List (List ℕ)) (xs : List Qualifier) (i : ℕ) (a : List code.TypeUse) → length xs ≤ i → Adds owner names a (in_qualifiers names (drop i xs)) a
qualifiers_end owner names = adds_end (in_qualifiers names) (qualifiers_nil names) owner names

-- ---- what may be there

pub maybe_none : (owner : NameId) (names : List (List ℕ)) (e : Option Expression) (a : List code.TypeUse) → e ≡ None → Adds owner names a (in_maybe names e) a
unfolding in_maybe
maybe_none owner names e a is = subst (λ m. Adds owner names a (in_maybe names m) a) (sym is) (adds_none owner names a)

pub maybe_some : (owner : NameId) (names : List (List ℕ)) (m : Option Expression) (e : Expression) (a b : List code.TypeUse) → m ≡ Some e → Adds owner names a (in_expression names e) b → Adds owner names a (in_maybe names m) b
unfolding in_maybe in_expression
maybe_some owner names m e a b is adds = subst (λ m. Adds owner names a (in_maybe names m) b) (sym is) adds

-- ---- right-hand sides

right_in : (names : List (List ℕ)) (at : Position) (b : Body) (ds : List Declaration)
    → in_body names b ++ in_declarations names ds ≡ right_uses (right_of at (body_meaning names b) (declarations_meaning names ds))
unfolding in_expression in_guards in_declarations
right_in names at (body.Plain e) ds = refl
right_in names at (body.Guarded cases) ds = refl

right_by_node : (names : List (List ℕ)) (r : RightSide) (n : RightSideNode) → right_node names n ≡ right_meaning names r
    → in_body names n.body ++ in_declarations names n.local.items ≡ in_right names r
unfolding in_right
right_by_node names r n meaning = right_in names (position_of n.place) n.body n.local.items ∙ ap right_uses meaning

pub right_found : (owner : NameId) (names : List (List ℕ)) (r : RightSide) (n : RightSideNode) (a b : List code.TypeUse) → right_node names n ≡ right_meaning names r
    → Adds owner names a (in_body names n.body ++ in_declarations names n.local.items) b → Adds owner names a (in_right names r) b
right_found owner names r n a b meaning adds =
    adds_as owner names a b (in_body names n.body ++ in_declarations names n.local.items) (in_right names r) (right_by_node names r n meaning) adds

-- ---- declarations

abbrev pub in_declaration_node : List (List ℕ) → DeclarationNode → List TypeUse
in_declaration_node names (declaration.FreeVariables at xs) = []
in_declaration_node names (declaration.Signature at xs t) = in_type names t
in_declaration_node names (declaration.FunctionRule at x ps r) = in_right names r
in_declaration_node names (declaration.PatternBinding at p r) = in_right names r

declaration_in : (names : List (List ℕ)) (n : DeclarationNode) → in_declaration_node names n ≡ declaration_uses (declaration_node names n)
unfolding in_type in_right
declaration_in names (declaration.FreeVariables at xs) = refl
declaration_in names (declaration.Signature at xs t) = refl
declaration_in names (declaration.FunctionRule at x ps r) = refl
declaration_in names (declaration.PatternBinding at p r) = refl

declaration_by_node : (names : List (List ℕ)) (d : Declaration) (n : DeclarationNode) → declaration_node names n ≡ declaration_meaning names d → in_declaration_node names n ≡ in_declaration names d
unfolding in_declaration
declaration_by_node names d n meaning = declaration_in names n ∙ ap declaration_uses meaning

pub declaration_found : (owner : NameId) (names : List (List ℕ)) (d : Declaration) (v n : DeclarationNode) (a b : List code.TypeUse) → declaration_node names v ≡ declaration_meaning names d → v ≡ n
    → Adds owner names a (in_declaration_node names n) b → Adds owner names a (in_declaration names d) b
declaration_found owner names d v n a b meaning is adds =
    adds_as owner names a b (in_declaration_node names n) (in_declaration names d) (declaration_by_node names d n (ap (declaration_node names) (sym is) ∙ meaning)) adds

-- ---- qualifiers

abbrev pub in_qualifier_node : List (List ℕ) → Qualifier → List TypeUse
in_qualifier_node names (qualifier.Generator at p e) = in_expression names e
in_qualifier_node names (qualifier.Declarations at ds) = in_declarations names ds.items
in_qualifier_node names (qualifier.Condition at e) = in_expression names e

qualifier_in : (names : List (List ℕ)) (q : Qualifier) → in_qualifier_node names q ≡ in_qualifier names q
unfolding in_qualifier in_expression in_declarations
qualifier_in names (qualifier.Generator at p e) = refl
qualifier_in names (qualifier.Declarations at ds) = refl
qualifier_in names (qualifier.Condition at e) = refl

pub qualifier_found : (owner : NameId) (names : List (List ℕ)) (v n : Qualifier) (a b : List code.TypeUse) → v ≡ n
    → Adds owner names a (in_qualifier_node names n) b → Adds owner names a (in_qualifier names v) b
qualifier_found owner names v n a b is adds =
    adds_as owner names a b (in_qualifier_node names n) (in_qualifier names v) (qualifier_in names n ∙ ap (in_qualifier names) (sym is)) adds
