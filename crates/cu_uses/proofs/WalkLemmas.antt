-- What views ask, by their parts.
use Rattle.std.proofs.Common.{◌≡◌, ◌∙◌, ◌<◌, ◌≤◌, ◌+◌, ◌*◌, ◌||◌, Result, Ok, Err, IfOk, arith, max, ℕ, Bool, true, false, List, [], ◌∷◌, ◌++◌, Option, None, Some, length, drop, get_or, map, refl, sym, ap, ap₂, subst, add-one}
use Rattle.std.proofs.Math.Seq.{drop-cons}
use Rattle.std.proofs.lemmas.List.{append-nil, append_assoc, drop_all, map-append}
use Rattle.std.proofs.lemmas.List.Elements.{All-append, All-get_or, All-head, All-nil, All-tail}
use Rattle.std.proofs.lemmas.List.Folds.{list_any-append}
use Rattle.std.specs.List.{All, list_any}
use Rattle.std.specs.Prelude.{nat_eq}
use Rattle.std.specs.Str.{bytes_eq}
use Rattle.cu_entities.proofs.NameLemmas.{same_name}
use Rattle.cu_entities.specs.Entities.{Types, Values}
use Rattle.cu_entities.specs.NameTables.{Tells}
use Rattle.cu_entities.specs.declared.name_table.NameTable.{NameTable}
use Rattle.cu_names.specs.Texts.{AllDiffer, IsKnown, text_of}
use Rattle.cu_names.specs.declared.names.NameId.{NameId}
use Rattle.cu_syntax.specs.declared.declarations.Body.{Body}
use Rattle.cu_syntax.specs.declared.declarations.Body.TheVariants as body
use Rattle.cu_syntax.specs.declared.declarations.Declaration.{Declaration}
use Rattle.cu_syntax.specs.declared.declarations.DeclarationNode.{DeclarationNode}
use Rattle.cu_syntax.specs.declared.declarations.DeclarationNode.TheVariants as declaration
use Rattle.cu_syntax.specs.declared.declarations.Guard.{Guard}
use Rattle.cu_syntax.specs.declared.declarations.RightSide.{RightSide}
use Rattle.cu_syntax.specs.declared.declarations.RightSideNode.{RightSideNode}
use Rattle.cu_syntax.specs.declared.expressions.Alternative.{Alternative}
use Rattle.cu_syntax.specs.declared.expressions.Expression.{Expression}
use Rattle.cu_syntax.specs.declared.expressions.ExpressionNode.{ExpressionNode}
use Rattle.cu_syntax.specs.declared.expressions.ExpressionNode.TheVariants as expression
use Rattle.cu_syntax.specs.declared.expressions.OperatorItem.{OperatorItem}
use Rattle.cu_syntax.specs.declared.expressions.Qualifier.{Qualifier}
use Rattle.cu_syntax.specs.declared.expressions.Qualifier.TheVariants as qualifier
use Rattle.cu_syntax.specs.declared.name.Name as code
use Rattle.cu_syntax.specs.Declarations.{body_meaning, declaration_meaning, declaration_node, declarations_meaning, right_meaning, right_node, right_of}
use Rattle.cu_lex.specs.Reading.{position_of}
use Rattle.cu_lex.specs.Located.{Position}
use Rattle.cu_syntax.specs.ExpressionMeaning.{expression_meaning}
use Rattle.cu_syntax.specs.Expressions.{expression_node, qualifier_meaning, qualifiers_meaning}
use Rattle.cu_syntax.specs.Names.{name_meaning}
use Rattle.cu_syntax.specs.Owners.{NameIsOf}
use Rattle.cu_syntax.specs.Syntax as syntax
use Rattle.cu_uses.specs.declared.first_fault.FirstFault.{FirstFault}
use Rattle.cu_uses.specs.declared.scope.Scope.{Scope}
use Rattle.cu_uses.specs.Binders.{declared_names, is_among, repeated, texts}
use Rattle.cu_uses.specs.Demands.{Demand, Repeats, Uses, scope_after, goal_demands, declaration_demands, expression_demands, qualifier_demands, qualifier_names, qualifiers_demands, right_demands, use_of, used, with}
use Rattle.cu_uses.specs.Inside.Asked.{alternative_asks, alternatives_ask, body_asks, declaration_asks, declarations_ask, enumeration_asks, expression_asks, expressions_ask, guards_ask, in_block, lambda_asks, let_asks, maybe_asks, operands_ask, qualifier_asks, qualifier_binds, qualifiers_ask, right_asks}
use Rattle.cu_uses.specs.Inside.Blocks.{block_asks, block_declares}
use Rattle.cu_uses.specs.Gathered.{Adds, names_meaning, pattern_binds, pattern_builds, patterns_bind, patterns_build, type_builds}
use Rattle.cu_uses.specs.Inside.Scopes.{Brings, Sees, has_text, is_local, or_among, table_in}
use Rattle.cu_uses.specs.Inside.Worlds.{Told, World}
use Rattle.cu_uses.proofs.FoundLemmas.{prefix, nothing_left}
use Rattle.cu_uses.proofs.TextLemmas.{bytes_turned}
use Rattle.cu_uses.proofs.ToldLemmas.{told_both, told_end, told_prefix, told_none}

-- ---- scopes

or_assoc : (a b c : Bool) → ((a || b) || c) ≡ (a || (b || c))
or_assoc true b c = refl
or_assoc false b c = refl

or_turned : (a b : Bool) → (a || b) ≡ (b || a)
or_turned true true = refl
or_turned true false = refl
or_turned false true = refl
or_turned false false = refl

-- whether names have a text
has_among : (owner : NameId) (names : List (List ℕ)) (xs : List code.Name) (id : NameId) → AllDiffer names → IsKnown names id → All (NameIsOf owner names) xs
    → list_any (has_text id) xs ≡ is_among (texts (names_meaning names xs)) (text_of names id)
has_among owner names [] id differ known of = refl
has_among owner names (x ∷ xs) id differ known of =
    ap₂ (λ a b. a || b)
    (same_name names x.text id differ (All-head (NameIsOf owner names) x xs of).text known ∙ bytes_turned (text_of names x.text) (text_of names id))
    (has_among owner names xs id differ known (All-tail (NameIsOf owner names) x xs of))

-- the variables of a scope with more names before
pub more_local : (owner : NameId) (names local : List (List ℕ)) (xs : List code.Name) (around : NameId → Bool) (id : NameId) → AllDiffer names → IsKnown names id → All (NameIsOf owner names) xs
    → around id ≡ is_among local (text_of names id) → or_among xs around id ≡ is_among (texts (names_meaning names xs) ++ local) (text_of names id)
more_local owner names local xs around id differ known of is =
    ap₂ (λ a b. a || b) (has_among owner names xs id differ known of) is ∙ sym (list_any-append (bytes_eq (text_of names id)) (texts (names_meaning names xs)) local)

pub sees_inside : (w : World) (local : List (List ℕ)) (xs : List syntax.Name) (slice found : List code.Name) (around inner : Scope) → Sees w local around → slice ≡ found
    → names_meaning w.names found ≡ xs → All (NameIsOf w.owner w.names) found → table_in inner ≡ table_in around → is_local inner ≡ or_among slice (is_local around) → Sees w (with xs local) inner
sees_inside w local xs slice found around inner sees sliced meant of same_table locals = record {
  differ = sees.differ;
  tells = subst (Tells w.names w.bindings) (sym same_table) sees.tells;
  sees = λ id known.
      ap (λ f. f id) locals ∙ ap (λ ys. or_among ys (is_local around) id) sliced ∙ more_local w.owner w.names local found (is_local around) id sees.differ known of (sees.sees id known)
      ∙ ap (λ ys. is_among (texts ys ++ local) (text_of w.names id)) meant;
}

pub sees_added : (w : World) (local : List (List ℕ)) (xs : List syntax.Name) (slice found : List code.Name) (around inner : Scope) → Sees w local around → slice ≡ found
    → Adds w.owner w.names [] xs found → table_in inner ≡ table_in around → is_local inner ≡ or_among slice (is_local around) → Sees w (with xs local) inner
sees_added w local xs slice found around inner sees sliced adds = sees_inside w local xs slice found around inner sees sliced adds.adds (adds.owned (All-nil (NameIsOf w.owner w.names)))

-- ---- expressions

abbrev pub node_asks : List (List ℕ) → List (List ℕ) → ExpressionNode → List Demand
node_asks names local (expression.Variable at x) = use_of local (name_meaning names x)
node_asks names local (expression.Constructor at x) = Uses Values (name_meaning names x) ∷ []
node_asks names local (expression.Literal at found) = []
node_asks names local (expression.Application at f es) = expression_asks names local f ++ expressions_ask names local es.items
node_asks names local (expression.Operators items) = expression_asks names local items.first ++ operands_ask names local items.rest.items
node_asks names local (expression.Lambda at ps e) = lambda_asks names local ps.items e
node_asks names local (expression.Let at ds e) = let_asks names local ds.items e
node_asks names local (expression.If at c t e) = expression_asks names local c ++ (expression_asks names local t ++ expression_asks names local e)
node_asks names local (expression.Case at word e cases) = expression_asks names local e ++ alternatives_ask names local cases.items
node_asks names local (expression.Tuple at es) = expressions_ask names local es.items
node_asks names local (expression.TupleConstructor at n) = []
node_asks names local (expression.LeftSection at e x) = expression_asks names local e ++ use_of local (name_meaning names x)
node_asks names local (expression.RightSection at x e) = use_of local (name_meaning names x) ++ expression_asks names local e
node_asks names local (expression.List at es) = expressions_ask names local es.items
node_asks names local (expression.Enumeration at e) = enumeration_asks names local e
node_asks names local (expression.Comprehension at e qs) = qualifiers_ask names local e qs.items

asked_in : (names local : List (List ℕ)) (n : ExpressionNode) → node_asks names local n ≡ expression_demands local (expression_node names n)
unfolding expression_asks expressions_ask operands_ask alternatives_ask declarations_ask maybe_asks qualifiers_ask patterns_bind patterns_build block_asks block_declares
asked_in names local (expression.Variable at x) = refl
asked_in names local (expression.Constructor at x) = refl
asked_in names local (expression.Literal at found) = refl
asked_in names local (expression.Application at f es) = refl
asked_in names local (expression.Operators items) = refl
asked_in names local (expression.Lambda at ps e) = refl
asked_in names local (expression.Let at ds e) = refl
asked_in names local (expression.If at c t e) = refl
asked_in names local (expression.Case at word e cases) = refl
asked_in names local (expression.Tuple at es) = refl
asked_in names local (expression.TupleConstructor at n) = refl
asked_in names local (expression.LeftSection at e x) = refl
asked_in names local (expression.RightSection at x e) = refl
asked_in names local (expression.List at es) = refl
asked_in names local (expression.Enumeration at e) = refl
asked_in names local (expression.Comprehension at e qs) = refl

node_asked : (names local : List (List ℕ)) (e : Expression) (n : ExpressionNode) → expression_node names n ≡ expression_meaning names e → node_asks names local n ≡ expression_asks names local e
unfolding expression_asks
node_asked names local e n meaning = asked_in names local n ∙ ap (expression_demands local) meaning

pub expression_told : (w : World) (local : List (List ℕ)) (e : Expression) (v n : ExpressionNode) (a b : FirstFault) → expression_node w.names v ≡ expression_meaning w.names e → v ≡ n
    → Told w a (node_asks w.names local n) b → Told w a (expression_asks w.names local e) b
expression_told w local e v n a b meaning is told =
    subst (λ ds. Told w a ds b) (node_asked w.names local e n (ap (expression_node w.names) (sym is) ∙ meaning)) told

-- ---- lists

expressions_cons : (names local : List (List ℕ)) (x : Expression) (xs : List Expression) → expressions_ask names local (x ∷ xs) ≡ expression_asks names local x ++ expressions_ask names local xs
unfolding expressions_ask expression_asks
expressions_cons names local x xs = refl

expressions_nil : (names local : List (List ℕ)) → expressions_ask names local [] ≡ []
unfolding expressions_ask
expressions_nil names local = refl

pub expressions_prefix : (P : Expression → Type 0) (w : World) (local : List (List ℕ)) (xs : List Expression) (i : ℕ) (x : Expression) (a b c : FirstFault) → x ≡ get_or xs i x → i < length xs → All P xs
    → (P x → Told w a (expression_asks w.names local x) b) → Told w b (expressions_ask w.names local (drop (i + 1) xs)) c → Told w a (expressions_ask w.names local (drop i xs)) c
expressions_prefix P w local = told_prefix P (expressions_ask w.names local) (expression_asks w.names local) (expressions_cons w.names local) w

pub expressions_end : (w : World) (local : List (List ℕ)) (xs : List Expression) (i : ℕ) (a : FirstFault) → length xs ≤ i → Told w a (expressions_ask w.names local (drop i xs)) a
expressions_end w local = told_end (expressions_ask w.names local) (expressions_nil w.names local) w

abbrev pub operand_asks : List (List ℕ) → List (List ℕ) → OperatorItem → List Demand
operand_asks names local item = use_of local (name_meaning names item.operator) ++ expression_asks names local item.operand

operands_cons : (names local : List (List ℕ)) (x : OperatorItem) (xs : List OperatorItem) → operands_ask names local (x ∷ xs) ≡ operand_asks names local x ++ operands_ask names local xs
unfolding operands_ask expression_asks
operands_cons names local x xs = sym (append_assoc (use_of local (name_meaning names x.operator)) (expression_asks names local x.operand) (operands_ask names local xs))

operands_nil : (names local : List (List ℕ)) → operands_ask names local [] ≡ []
unfolding operands_ask
operands_nil names local = refl

pub operands_prefix : (P : OperatorItem → Type 0) (w : World) (local : List (List ℕ)) (xs : List OperatorItem) (i : ℕ) (x : OperatorItem) (a b c : FirstFault) → x ≡ get_or xs i x → i < length xs → All P xs
    → (P x → Told w a (operand_asks w.names local x) b) → Told w b (operands_ask w.names local (drop (i + 1) xs)) c → Told w a (operands_ask w.names local (drop i xs)) c
operands_prefix P w local = told_prefix P (operands_ask w.names local) (operand_asks w.names local) (operands_cons w.names local) w

pub operands_end : (w : World) (local : List (List ℕ)) (xs : List OperatorItem) (i : ℕ) (a : FirstFault) → length xs ≤ i → Told w a (operands_ask w.names local (drop i xs)) a
operands_end w local = told_end (operands_ask w.names local) (operands_nil w.names local) w

alternatives_cons : (names local : List (List ℕ)) (x : Alternative) (xs : List Alternative) → alternatives_ask names local (x ∷ xs) ≡ alternative_asks names local x ++ alternatives_ask names local xs
unfolding alternatives_ask right_asks pattern_binds pattern_builds
alternatives_cons names local x xs =
    sym (append_assoc (used Values (pattern_builds names x.pattern)) (right_asks names (with (pattern_binds names x.pattern) local) x.right) (alternatives_ask names local xs))

alternatives_nil : (names local : List (List ℕ)) → alternatives_ask names local [] ≡ []
unfolding alternatives_ask
alternatives_nil names local = refl

pub alternatives_prefix : (P : Alternative → Type 0) (w : World) (local : List (List ℕ)) (xs : List Alternative) (i : ℕ) (x : Alternative) (a b c : FirstFault) → x ≡ get_or xs i x → i < length xs → All P xs
    → (P x → Told w a (alternative_asks w.names local x) b) → Told w b (alternatives_ask w.names local (drop (i + 1) xs)) c → Told w a (alternatives_ask w.names local (drop i xs)) c
alternatives_prefix P w local = told_prefix P (alternatives_ask w.names local) (alternative_asks w.names local) (alternatives_cons w.names local) w

pub alternatives_end : (w : World) (local : List (List ℕ)) (xs : List Alternative) (i : ℕ) (a : FirstFault) → length xs ≤ i → Told w a (alternatives_ask w.names local (drop i xs)) a
alternatives_end w local = told_end (alternatives_ask w.names local) (alternatives_nil w.names local) w

abbrev pub guard_asks : List (List ℕ) → List (List ℕ) → Guard → List Demand
guard_asks names local g = expression_asks names local g.condition ++ expression_asks names local g.expression

guards_cons : (names local : List (List ℕ)) (x : Guard) (xs : List Guard) → guards_ask names local (x ∷ xs) ≡ guard_asks names local x ++ guards_ask names local xs
unfolding guards_ask expression_asks
guards_cons names local x xs = sym (append_assoc (expression_asks names local x.condition) (expression_asks names local x.expression) (guards_ask names local xs))

guards_nil : (names local : List (List ℕ)) → guards_ask names local [] ≡ []
unfolding guards_ask
guards_nil names local = refl

pub guards_prefix : (P : Guard → Type 0) (w : World) (local : List (List ℕ)) (xs : List Guard) (i : ℕ) (x : Guard) (a b c : FirstFault) → x ≡ get_or xs i x → i < length xs → All P xs
    → (P x → Told w a (guard_asks w.names local x) b) → Told w b (guards_ask w.names local (drop (i + 1) xs)) c → Told w a (guards_ask w.names local (drop i xs)) c
guards_prefix P w local = told_prefix P (guards_ask w.names local) (guard_asks w.names local) (guards_cons w.names local) w

pub guards_end : (w : World) (local : List (List ℕ)) (xs : List Guard) (i : ℕ) (a : FirstFault) → length xs ≤ i → Told w a (guards_ask w.names local (drop i xs)) a
guards_end w local = told_end (guards_ask w.names local) (guards_nil w.names local) w

declarations_cons : (names local : List (List ℕ)) (x : Declaration) (xs : List Declaration) → declarations_ask names local (x ∷ xs) ≡ declaration_asks names local x ++ declarations_ask names local xs
unfolding declarations_ask declaration_asks
declarations_cons names local x xs = refl

declarations_nil : (names local : List (List ℕ)) → declarations_ask names local [] ≡ []
unfolding declarations_ask
declarations_nil names local = refl

pub declarations_prefix : (P : Declaration → Type 0) (w : World) (local : List (List ℕ)) (xs : List Declaration) (i : ℕ) (x : Declaration) (a b c : FirstFault) → x ≡ get_or xs i x → i < length xs → All P xs
    → (P x → Told w a (declaration_asks w.names local x) b) → Told w b (declarations_ask w.names local (drop (i + 1) xs)) c → Told w a (declarations_ask w.names local (drop i xs)) c
declarations_prefix P w local = told_prefix P (declarations_ask w.names local) (declaration_asks w.names local) (declarations_cons w.names local) w

pub declarations_end : (w : World) (local : List (List ℕ)) (xs : List Declaration) (i : ℕ) (a : FirstFault) → length xs ≤ i → Told w a (declarations_ask w.names local (drop i xs)) a
declarations_end w local = told_end (declarations_ask w.names local) (declarations_nil w.names local) w

-- ---- what may be there

pub maybe_none : (w : World) (local : List (List ℕ)) (e : Option Expression) (a : FirstFault) → e ≡ None → Told w a (maybe_asks w.names local e) a
unfolding maybe_asks
maybe_none w local e a is = subst (λ m. Told w a (maybe_asks w.names local m) a) (sym is) (told_none w a)

pub maybe_some : (w : World) (local : List (List ℕ)) (m : Option Expression) (e : Expression) (a b : FirstFault) → m ≡ Some e → Told w a (expression_asks w.names local e) b → Told w a (maybe_asks w.names local m) b
unfolding maybe_asks expression_asks
maybe_some w local m e a b is told = subst (λ m. Told w a (maybe_asks w.names local m) b) (sym is) told

-- ---- right-hand sides

abbrev pub right_node_asks : List (List ℕ) → List (List ℕ) → RightSideNode → List Demand
right_node_asks names local r =
    body_asks names (in_block names local r.local.items) r.body ++ (block_asks names r.local.items ++ declarations_ask names (in_block names local r.local.items) r.local.items)

right_in : (names local : List (List ℕ)) (at : Position) (b : Body) (ds : List Declaration)
    → body_asks names (in_block names local ds) b ++ (block_asks names ds ++ declarations_ask names (in_block names local ds) ds)
    ≡ right_demands local (right_of at (body_meaning names b) (declarations_meaning names ds))
unfolding expression_asks guards_ask declarations_ask block_asks block_declares
right_in names local at (body.Plain e) ds = refl
right_in names local at (body.Guarded cases) ds = refl

right_asked : (names local : List (List ℕ)) (r : RightSide) (n : RightSideNode) → right_node names n ≡ right_meaning names r → right_node_asks names local n ≡ right_asks names local r
unfolding right_asks
right_asked names local r n meaning = right_in names local (position_of n.place) n.body n.local.items ∙ ap (right_demands local) meaning

pub right_told : (w : World) (local : List (List ℕ)) (r : RightSide) (n : RightSideNode) (a b : FirstFault) → right_node w.names n ≡ right_meaning w.names r
    → Told w a (right_node_asks w.names local n) b → Told w a (right_asks w.names local r) b
right_told w local r n a b meaning told = subst (λ ds. Told w a ds b) (right_asked w.names local r n meaning) told

-- ---- declarations

abbrev pub declaration_node_asks : List (List ℕ) → List (List ℕ) → DeclarationNode → List Demand
declaration_node_asks names local (declaration.FreeVariables at xs) = []
declaration_node_asks names local (declaration.Signature at xs t) = used Types (type_builds names t)
declaration_node_asks names local (declaration.FunctionRule at x ps r) = used Values (patterns_build names ps.items) ++ right_asks names (with (patterns_bind names ps.items) local) r
declaration_node_asks names local (declaration.PatternBinding at p r) = used Values (pattern_builds names p) ++ right_asks names local r

declaration_in : (names local : List (List ℕ)) (n : DeclarationNode) → declaration_node_asks names local n ≡ declaration_demands local (declaration_node names n)
unfolding type_builds patterns_build patterns_bind pattern_builds right_asks
declaration_in names local (declaration.FreeVariables at xs) = refl
declaration_in names local (declaration.Signature at xs t) = refl
declaration_in names local (declaration.FunctionRule at x ps r) = refl
declaration_in names local (declaration.PatternBinding at p r) = refl

declaration_asked : (names local : List (List ℕ)) (d : Declaration) (n : DeclarationNode) → declaration_node names n ≡ declaration_meaning names d → declaration_node_asks names local n ≡ declaration_asks names local d
unfolding declaration_asks
declaration_asked names local d n meaning = declaration_in names local n ∙ ap (declaration_demands local) meaning

pub declaration_told : (w : World) (local : List (List ℕ)) (d : Declaration) (v n : DeclarationNode) (a b : FirstFault) → declaration_node w.names v ≡ declaration_meaning w.names d → v ≡ n
    → Told w a (declaration_node_asks w.names local n) b → Told w a (declaration_asks w.names local d) b
declaration_told w local d v n a b meaning is told =
    subst (λ ds. Told w a ds b) (declaration_asked w.names local d n (ap (declaration_node w.names) (sym is) ∙ meaning)) told

-- ---- qualifiers

qualifiers_nil : (names local : List (List ℕ)) (e : Expression) → qualifiers_ask names local e [] ≡ expression_asks names local e
unfolding qualifiers_ask expression_asks
qualifiers_nil names local e = refl

qualifiers_cons : (names local : List (List ℕ)) (e : Expression) (q : Qualifier) (qs : List Qualifier)
    → qualifier_asks names local q ++ qualifiers_ask names (with (qualifier_binds names q) local) e qs ≡ qualifiers_ask names local e (q ∷ qs)
unfolding qualifiers_ask qualifier_asks qualifier_binds
qualifiers_cons names local e q qs =
    sym (append_assoc (qualifier_demands local (qualifier_meaning names q)) (qualifiers_demands (with (qualifier_names (qualifier_meaning names q)) local) (qualifiers_meaning names qs))
    (expression_demands (scope_after (with (qualifier_names (qualifier_meaning names q)) local) (qualifiers_meaning names qs)) (expression_meaning names e)))

qualifiers_split : (names local : List (List ℕ)) (e : Expression) (xs : List Qualifier) (i : ℕ) (x : Qualifier) → x ≡ get_or xs i x → i < length xs
    → qualifier_asks names local x ++ qualifiers_ask names (with (qualifier_binds names x) local) e (drop (i + 1) xs) ≡ qualifiers_ask names local e (drop i xs)
qualifiers_split names local e xs i x is within =
    qualifiers_cons names local e x (drop (i + 1) xs)
    ∙ sym (ap (qualifiers_ask names local e) (drop-cons xs i x within ∙ ap₂ (λ y n. y ∷ drop n xs) (sym is) (sym (add-one i))))

pub qualifiers_prefix : (w : World) (local : List (List ℕ)) (e : Expression) (xs : List Qualifier) (i : ℕ) (x : Qualifier) (a b c : FirstFault) → x ≡ get_or xs i x → i < length xs
    → Told w a (qualifier_asks w.names local x) b → Told w b (qualifiers_ask w.names (with (qualifier_binds w.names x) local) e (drop (i + 1) xs)) c
    → Told w a (qualifiers_ask w.names local e (drop i xs)) c
qualifiers_prefix w local e xs i x a b c is within one rest = subst (λ ds. Told w a ds c) (qualifiers_split w.names local e xs i x is within) (told_both one rest)

pub qualifiers_end : (w : World) (local : List (List ℕ)) (e : Expression) (xs : List Qualifier) (i : ℕ) (a b : FirstFault) → length xs ≤ i → Told w a (expression_asks w.names local e) b
    → Told w a (qualifiers_ask w.names local e (drop i xs)) b
qualifiers_end w local e xs i a b past told =
    subst (λ ds. Told w a ds b) (sym (ap (qualifiers_ask w.names local e) (drop_all i xs past) ∙ qualifiers_nil w.names local e)) told

abbrev pub qualifier_node_asks : List (List ℕ) → List (List ℕ) → Qualifier → List Demand
qualifier_node_asks names local (qualifier.Generator at p e) = expression_asks names local e ++ used Values (pattern_builds names p)
qualifier_node_asks names local (qualifier.Declarations at ds) = block_asks names ds.items ++ declarations_ask names (in_block names local ds.items) ds.items
qualifier_node_asks names local (qualifier.Condition at e) = expression_asks names local e

abbrev pub qualifier_node_binds : List (List ℕ) → Qualifier → List syntax.Name
qualifier_node_binds names (qualifier.Generator at p e) = pattern_binds names p
qualifier_node_binds names (qualifier.Declarations at ds) = declared_names (block_declares names ds.items)
qualifier_node_binds names (qualifier.Condition at e) = []

qualifier_asked : (names local : List (List ℕ)) (q : Qualifier) → qualifier_node_asks names local q ≡ qualifier_asks names local q
unfolding qualifier_asks expression_asks pattern_builds block_asks block_declares declarations_ask
qualifier_asked names local (qualifier.Generator at p e) = refl
qualifier_asked names local (qualifier.Declarations at ds) = refl
qualifier_asked names local (qualifier.Condition at e) = refl

qualifier_bound : (names : List (List ℕ)) (q : Qualifier) → qualifier_node_binds names q ≡ qualifier_binds names q
unfolding qualifier_binds pattern_binds block_declares
qualifier_bound names (qualifier.Generator at p e) = refl
qualifier_bound names (qualifier.Declarations at ds) = refl
qualifier_bound names (qualifier.Condition at e) = refl

-- what a qualifier brings, by what it is
pub qualifier_brings : (w : World) (local : List (List ℕ)) (v n : Qualifier) (found : List code.Name) (a b : FirstFault) → v ≡ n
    → Adds w.owner w.names [] (qualifier_node_binds w.names n) found → Told w a (qualifier_node_asks w.names local n) b → Brings w a (qualifier_binds w.names v) (qualifier_asks w.names local v) found b
qualifier_brings w local v n found a b is adds told = record {
  variables = subst (λ xs. Adds w.owner w.names [] xs found) (qualifier_bound w.names n ∙ ap (qualifier_binds w.names) (sym is)) adds;
  told = subst (λ ds. Told w a ds b) (qualifier_asked w.names local n ∙ ap (qualifier_asks w.names local) (sym is)) told;
}

-- the variables after one more qualifier
pub more_variables : (w : World) (inner : List (List ℕ)) (xs : List syntax.Name) (old more new slice : List code.Name) (around : NameId → Bool) → AllDiffer w.names → All (NameIsOf w.owner w.names) old
    → Adds w.owner w.names [] xs more → slice ≡ more → new ≡ old ++ slice → ((id : NameId) → IsKnown w.names id → or_among old around id ≡ is_among inner (text_of w.names id))
    → All (NameIsOf w.owner w.names) new × ((id : NameId) → IsKnown w.names id → or_among new around id ≡ is_among (with xs inner) (text_of w.names id))
more_variables w inner xs old more new slice around differ of adds sliced extended is = (
  subst (All (NameIsOf w.owner w.names)) (sym extended) (subst (λ ys. All (NameIsOf w.owner w.names) (old ++ ys)) (sym sliced) (All-append (NameIsOf w.owner w.names) old more of (adds.owned (All-nil (NameIsOf w.owner w.names))))),
  λ id known.
      ap (λ ys. or_among ys around id) (extended ∙ ap (λ ys. old ++ ys) sliced)
      ∙ ap (λ b. b || around id) (list_any-append (has_text id) old more ∙ or_turned (list_any (has_text id) old) (list_any (has_text id) more))
      ∙ or_assoc (list_any (has_text id) more) (list_any (has_text id) old) (around id)
      ∙ more_local w.owner w.names inner more (or_among old around) id differ known (adds.owned (All-nil (NameIsOf w.owner w.names))) (is id known)
      ∙ ap (λ ys. is_among (texts ys ++ inner) (text_of w.names id)) adds.adds,
)

-- ---- measures and results

pub below_max : (q e m : ℕ) → q ≤ m → 4 * q < 4 * max e m + 1
below_max q e m within = omega (arith, within)

pub if_ok : {A E : Type 0} (P Q : A → Type 0) (r : Result A E) → ((a : A) → P a → Q a) → IfOk r P → IfOk r Q
if_ok P Q (Ok a) f p = f a p
if_ok P Q (Err e) f p = tt

-- the scope that qualifiers lead to
pub sees_reached : (w : World) (local reached : List (List ℕ)) (names slice : List code.Name) (around inner : Scope) → Sees w local around → slice ≡ names
    → ((id : NameId) → IsKnown w.names id → or_among names (is_local around) id ≡ is_among reached (text_of w.names id)) → table_in inner ≡ table_in around → is_local inner ≡ or_among slice (is_local around)
    → Sees w reached inner
sees_reached w local reached names slice around inner sees sliced is same_table locals = record {
  differ = sees.differ;
  tells = subst (Tells w.names w.bindings) (sym same_table) sees.tells;
  sees = λ id known. ap (λ f. f id) locals ∙ ap (λ ys. or_among ys (is_local around) id) sliced ∙ is id known;
}

-- ---- goals

pub sees_top : (w : World) (table : NameTable) (top : Scope) → AllDiffer w.names → Tells w.names w.bindings table → table_in top ≡ table → is_local top ≡ (λ _. false) → Sees w [] top
sees_top w table top differ tells same none = record {
  differ = differ;
  tells = subst (Tells w.names w.bindings) (sym same) tells;
  sees = λ id known. ap (λ f. f id) none;
}

pub goal_told : (w : World) (goal : syntax.Goal) (free slice : List code.Name) (e : Expression) (a m b : FirstFault) → slice ≡ free → names_meaning w.names free ≡ goal.free → expression_meaning w.names e ≡ goal.expression
    → Told w a (map Repeats (repeated [] (names_meaning w.names slice))) m → Told w m (expression_asks w.names (with goal.free []) e) b → Told w a (goal_demands goal) b
unfolding expression_asks
goal_told w goal free slice e a m b sliced free_is meaning one two =
    told_both (subst (λ xs. Told w a (map Repeats (repeated [] xs)) m) (ap (names_meaning w.names) sliced ∙ free_is) one)
    (subst (λ ls. Told w m (expression_demands ls goal.expression) b) (append-nil (texts goal.free)) (subst (λ x. Told w m (expression_demands (with goal.free []) x) b) meaning two))
