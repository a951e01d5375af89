-- What stands in views, by their parts.
use Rattle.std.proofs.Common.{◌≡◌, ◌∙◌, ◌<◌, ◌≤◌, ◌+◌, ◌||◌, ◌⊎◌, inl, inr, ℕ, zero, suc, Bool, true, false, List, [], ◌∷◌, ◌++◌, Option, None, Some, arith, length, drop, get_or, map, refl, sym, ap, subst}
use Rattle.std.proofs.lemmas.List.{append_assoc}
use Rattle.std.proofs.lemmas.List.Elements.{All-get_or}
use Rattle.std.specs.List.{All}
use Rattle.cu_lex.specs.Located.{Position}
use Rattle.cu_lex.specs.Reading.{position_of}
use Rattle.cu_names.specs.declared.place.Place.{Place}
use Rattle.cu_syntax.specs.declared.declarations.Body.{Body}
use Rattle.cu_syntax.specs.declared.declarations.Body.TheVariants as body
use Rattle.cu_syntax.specs.declared.declarations.Declaration.{Declaration}
use Rattle.cu_syntax.specs.declared.declarations.DeclarationNode.{DeclarationNode}
use Rattle.cu_syntax.specs.declared.declarations.DeclarationNode.TheVariants as declaration
use Rattle.cu_syntax.specs.declared.declarations.Guard.{Guard}
use Rattle.cu_syntax.specs.declared.declarations.RightSide.{RightSide}
use Rattle.cu_syntax.specs.declared.declarations.RightSideNode.{RightSideNode}
use Rattle.cu_syntax.specs.declared.expressions.Alternative.{Alternative}
use Rattle.cu_syntax.specs.declared.expressions.Expression.{Expression}
use Rattle.cu_syntax.specs.declared.expressions.ExpressionNode.{ExpressionNode}
use Rattle.cu_syntax.specs.declared.expressions.ExpressionNode.TheVariants as expression
use Rattle.cu_syntax.specs.declared.expressions.OperatorItem.{OperatorItem}
use Rattle.cu_syntax.specs.declared.expressions.Qualifier.{Qualifier}
use Rattle.cu_syntax.specs.declared.expressions.Qualifier.TheVariants as qualifier
use Rattle.cu_syntax.specs.declared.name.Name as code
use Rattle.cu_syntax.specs.declared.patterns.Pattern.{Pattern}
use Rattle.cu_syntax.specs.Declarations.{body_meaning, declaration_meaning, declaration_node, declarations_meaning, right_meaning, right_node, right_of}
use Rattle.cu_syntax.specs.ExpressionMeaning.{expression_meaning, expressions_from, expressions_meaning}
use Rattle.cu_syntax.specs.Expressions.{expression_node, qualifiers_meaning, rest_meaning}
use Rattle.cu_syntax.specs.Names.{name_meaning}
use Rattle.cu_syntax.specs.Owners.{ExpressionIsOf, NameIsOf, PatternIsOf}
use Rattle.cu_syntax.specs.Patterns.{pattern_meaning, patterns_meaning}
use Rattle.cu_syntax.specs.Syntax as syntax
use Rattle.cu_translation.specs.Rules.{Begun, begun_by, begun_in, expressions, goes_on, has_parameters, leading, rule_in, rules_in}
use Rattle.cu_uses.specs.Binders.{variables}
use Rattle.std.specs.declared.alloc.Global.{Global}
use Rattle.std.specs.declared.vec.Vec.{Vec}
use Rattle.cu_translation.specs.Sites.{Bound, Defined, Function, Use, Generated, Matched, Node, Operation, Spot, all_nodes, declaration_nodes, in_block, in_function, node, nodes_on, past, rest_nodes, right_nodes}
use Rattle.cu_uses.specs.Gathered.{pattern_binds, patterns_bind}
use Rattle.cu_uses.proofs.FoundLemmas.{prefix, nothing_left}
use Rattle.cu_locals.specs.declared.begun.Begun as begun
use Rattle.cu_sites.specs.declared.rules.Group as groups
use Rattle.cu_sites.specs.declared.rules.Rule as rules
use Rattle.cu_sites.specs.declared.sites.Site.TheVariants as site
use Rattle.cu_sites.specs.declared.walk.BlockSpot.{BlockSpot}
use Rattle.cu_sites.specs.declared.sites.Sites.{Sites}
use Rattle.cu_sites.specs.declared.sites.Spot as spots
use Rattle.cu_sites.specs.Meaning.{GroupIsOf, qualifiers_after, group_meaning, qualifiers_in, rule_meaning}
use Rattle.cu_locals.specs.Text.{Text}
use Rattle.cu_locals.specs.BegunFound.{IsBefore, begun_meaning}
use Rattle.cu_sites.specs.Inside.Entering.{Enters, IsAt, Pushes, Writes, Written}
use Rattle.cu_sites.specs.Inside.Walked.{IsComprehension, IsInner, Walks, alternative_has, alternatives_have, applied_has, block_of, body_has, comprehension_has, declaration_has, declarations_have, enumeration_has, expression_has, expressions_have, function_has, guards_have, inner_rule_has, lambda_has, let_has, maybe_has, one_of, operands_have, patterns_of, qualifier_has, qualifier_of, qualifiers_have, qualifiers_of, right_has, rule_has, use_has}
use Rattle.cu_sites.proofs.SpotLemmas.{at_after, writes_both, writes_none, writes_one, written_end, written_more, written_start}
use Rattle.cu_locals.proofs.BegunLemmas.{dropped}
use Rattle.cu_sites.proofs.RuleLemmas.{rules_of_views}

-- ---- expressions

abbrev pub node_has : List (List ℕ) → Spot → List Expression → Expression → ExpressionNode → List Node
node_has names spot arguments e (expression.Variable at x) = use_has names spot x arguments
node_has names spot arguments e (expression.Constructor at x) = []
node_has names spot arguments e (expression.Literal at found) = []
node_has names spot arguments e (expression.Application at f es) = applied_has names spot es.items f ++ expressions_have names spot es.items
node_has names spot arguments e (expression.Operators items) =
    (node spot (Operation (expression_meaning names e)) ∷ []) ++ (expression_has names spot items.first ++ operands_have names spot items.rest.items)
node_has names spot arguments e (expression.Lambda at ps body) = lambda_has names spot at ps.items body
node_has names spot arguments e (expression.Let at ds body) = let_has names spot ds.items body
node_has names spot arguments e (expression.If at c t o) = expression_has names spot c ++ (expression_has names spot t ++ expression_has names spot o)
node_has names spot arguments e (expression.Case at word subject cases) = expression_has names spot subject ++ alternatives_have names spot cases.items
node_has names spot arguments e (expression.Tuple at es) = expressions_have names spot es.items
node_has names spot arguments e (expression.TupleConstructor at n) = []
node_has names spot arguments e (expression.LeftSection at operand x) = expression_has names spot operand ++ use_has names spot x (operand ∷ [])
node_has names spot arguments e (expression.RightSection at x operand) = use_has names spot x [] ++ expression_has names spot operand
node_has names spot arguments e (expression.List at es) = expressions_have names spot es.items
node_has names spot arguments e (expression.Enumeration at numbers) = enumeration_has names spot numbers
node_has names spot arguments e (expression.Comprehension at element qs) = comprehension_has names spot element qs.items

listed : (es : List syntax.Expression) → expressions (expressions_from es) ≡ es
listed [] = refl
listed (e ∷ es) = ap (λ xs. e ∷ xs) (listed es)

has_in : (names : List (List ℕ)) (spot : Spot) (arguments : List Expression) (e : Expression) (n : ExpressionNode) → expression_node names n ≡ expression_meaning names e
    → node_has names spot arguments e n ≡ nodes_on (map (expression_meaning names) arguments) spot (expression_node names n)
unfolding applied_has expression_has expressions_have maybe_has operands_have alternatives_have declarations_have qualifiers_have qualifiers_of block_of patterns_of use_has patterns_bind
has_in names spot arguments e (expression.Variable at x) meaning = refl
has_in names spot arguments e (expression.Constructor at x) meaning = refl
has_in names spot arguments e (expression.Literal at found) meaning = refl
has_in names spot arguments e (expression.Application at f es) meaning =
    ap (λ xs. nodes_on xs spot (expression_meaning names f) ++ all_nodes spot (expressions_meaning names es.items)) (sym (listed (map (expression_meaning names) es.items)))
has_in names spot arguments e (expression.Operators items) meaning =
    ap (λ x. node spot (Operation x) ∷ (nodes_on [] spot (expression_meaning names items.first) ++ rest_nodes spot (rest_meaning names items.rest.items))) (sym meaning)
has_in names spot arguments e (expression.Lambda at ps body) meaning = refl
has_in names spot arguments e (expression.Let at ds body) meaning = refl
has_in names spot arguments e (expression.If at c t o) meaning = refl
has_in names spot arguments e (expression.Case at word subject cases) meaning = refl
has_in names spot arguments e (expression.Tuple at es) meaning = refl
has_in names spot arguments e (expression.TupleConstructor at n) meaning = refl
has_in names spot arguments e (expression.LeftSection at operand x) meaning = refl
has_in names spot arguments e (expression.RightSection at x operand) meaning = refl
has_in names spot arguments e (expression.List at es) meaning = refl
has_in names spot arguments e (expression.Enumeration at numbers) meaning = refl
has_in names spot arguments e (expression.Comprehension at element qs) meaning = refl

node_is : (names : List (List ℕ)) (spot : Spot) (arguments : List Expression) (e : Expression) (n : ExpressionNode) → expression_node names n ≡ expression_meaning names e
    → node_has names spot arguments e n ≡ applied_has names spot arguments e
unfolding applied_has
node_is names spot arguments e n meaning = has_in names spot arguments e n meaning ∙ ap (nodes_on (map (expression_meaning names) arguments) spot) meaning

-- what stands in an expression, by what it is
pub applied_writes : (t : Text) (spot : Spot) (arguments : List Expression) (e : Expression) (v n : ExpressionNode) (a b : Sites) → expression_node t.names v ≡ expression_meaning t.names e → v ≡ n
    → Writes t a (node_has t.names spot arguments e n) b → Writes t a (applied_has t.names spot arguments e) b
applied_writes t spot arguments e v n a b meaning is writes =
    subst (λ ns. Writes t a ns b) (node_is t.names spot arguments e n (ap (expression_node t.names) (sym is) ∙ meaning)) writes

pub applied_to_nothing : (names : List (List ℕ)) (spot : Spot) (arguments : List Expression) (e : Expression) → arguments ≡ [] → applied_has names spot arguments e ≡ expression_has names spot e
unfolding applied_has expression_has
applied_to_nothing names spot arguments e none = ap (λ xs. nodes_on (map (expression_meaning names) xs) spot (expression_meaning names e)) none

-- ---- loops

written_prefix : {X : Type 0} (P : X → Type 0) (F : List X → List Node) (f : X → List Node) → ((x : X) (xs : List X) → F (x ∷ xs) ≡ f x ++ F xs)
    → (t : Text) (whole : List Node) (xs : List X) (i : ℕ) (x : X) (a b c : Sites) → x ≡ get_or xs i x → i < length xs → All P xs
    → Written t a (F (drop i xs)) whole b → (P x → Writes t b (f x) c) → Written t a (F (drop (i + 1) xs)) whole c
written_prefix P F f cons t whole xs i x a b c is within all before here =
    written_more (F (drop (i + 1) xs)) (prefix F f cons xs i x is within) before (here (subst P (sym is) (All-get_or P xs i x within all)))

written_all : {X : Type 0} (F : List X → List Node) → F [] ≡ [] → (t : Text) (whole : List Node) (xs : List X) (i : ℕ) (a b : Sites) → length xs ≤ i → Written t a (F (drop i xs)) whole b → Writes t a whole b
written_all F empty t whole xs i a b past before = written_end (nothing_left F empty xs i past) before

expressions_cons : (names : List (List ℕ)) (spot : Spot) (x : Expression) (xs : List Expression) → expressions_have names spot (x ∷ xs) ≡ expression_has names spot x ++ expressions_have names spot xs
unfolding expressions_have expression_has
expressions_cons names spot x xs = refl

expressions_nil : (names : List (List ℕ)) (spot : Spot) → expressions_have names spot [] ≡ []
unfolding expressions_have
expressions_nil names spot = refl

pub expressions_prefix : (P : Expression → Type 0) (t : Text) (spot : Spot) (whole : List Node) (xs : List Expression) (i : ℕ) (x : Expression) (a b c : Sites) → x ≡ get_or xs i x → i < length xs → All P xs
    → Written t a (expressions_have t.names spot (drop i xs)) whole b → (P x → Writes t b (expression_has t.names spot x) c) → Written t a (expressions_have t.names spot (drop (i + 1) xs)) whole c
expressions_prefix P t spot = written_prefix P (expressions_have t.names spot) (expression_has t.names spot) (expressions_cons t.names spot) t

pub expressions_end : (t : Text) (spot : Spot) (whole : List Node) (xs : List Expression) (i : ℕ) (a b : Sites) → length xs ≤ i → Written t a (expressions_have t.names spot (drop i xs)) whole b → Writes t a whole b
expressions_end t spot = written_all (expressions_have t.names spot) (expressions_nil t.names spot) t

abbrev operand_has : List (List ℕ) → Spot → OperatorItem → List Node
operand_has names spot item = expression_has names spot item.operand

operands_cons : (names : List (List ℕ)) (spot : Spot) (x : OperatorItem) (xs : List OperatorItem) → operands_have names spot (x ∷ xs) ≡ operand_has names spot x ++ operands_have names spot xs
unfolding operands_have expression_has
operands_cons names spot x xs = refl

operands_nil : (names : List (List ℕ)) (spot : Spot) → operands_have names spot [] ≡ []
unfolding operands_have
operands_nil names spot = refl

pub operands_prefix : (P : OperatorItem → Type 0) (t : Text) (spot : Spot) (whole : List Node) (xs : List OperatorItem) (i : ℕ) (x : OperatorItem) (a b c : Sites) → x ≡ get_or xs i x → i < length xs → All P xs
    → Written t a (operands_have t.names spot (drop i xs)) whole b → (P x → Writes t b (expression_has t.names spot x.operand) c) → Written t a (operands_have t.names spot (drop (i + 1) xs)) whole c
operands_prefix P t spot = written_prefix P (operands_have t.names spot) (operand_has t.names spot) (operands_cons t.names spot) t

pub operands_end : (t : Text) (spot : Spot) (whole : List Node) (xs : List OperatorItem) (i : ℕ) (a b : Sites) → length xs ≤ i → Written t a (operands_have t.names spot (drop i xs)) whole b → Writes t a whole b
operands_end t spot = written_all (operands_have t.names spot) (operands_nil t.names spot) t

alternatives_cons : (names : List (List ℕ)) (spot : Spot) (x : Alternative) (xs : List Alternative) → alternatives_have names spot (x ∷ xs) ≡ alternative_has names spot x ++ alternatives_have names spot xs
unfolding alternatives_have right_has pattern_binds one_of
alternatives_cons names spot x xs = refl

alternatives_nil : (names : List (List ℕ)) (spot : Spot) → alternatives_have names spot [] ≡ []
unfolding alternatives_have
alternatives_nil names spot = refl

pub alternatives_prefix : (P : Alternative → Type 0) (t : Text) (spot : Spot) (whole : List Node) (xs : List Alternative) (i : ℕ) (x : Alternative) (a b c : Sites) → x ≡ get_or xs i x → i < length xs → All P xs
    → Written t a (alternatives_have t.names spot (drop i xs)) whole b → (P x → Writes t b (alternative_has t.names spot x) c) → Written t a (alternatives_have t.names spot (drop (i + 1) xs)) whole c
alternatives_prefix P t spot = written_prefix P (alternatives_have t.names spot) (alternative_has t.names spot) (alternatives_cons t.names spot) t

pub alternatives_end : (t : Text) (spot : Spot) (whole : List Node) (xs : List Alternative) (i : ℕ) (a b : Sites) → length xs ≤ i → Written t a (alternatives_have t.names spot (drop i xs)) whole b → Writes t a whole b
alternatives_end t spot = written_all (alternatives_have t.names spot) (alternatives_nil t.names spot) t

abbrev guard_has : List (List ℕ) → Spot → Guard → List Node
guard_has names spot g = expression_has names spot g.condition ++ expression_has names spot g.expression

guards_cons : (names : List (List ℕ)) (spot : Spot) (x : Guard) (xs : List Guard) → guards_have names spot (x ∷ xs) ≡ guard_has names spot x ++ guards_have names spot xs
unfolding guards_have expression_has
guards_cons names spot x xs = sym (append_assoc (expression_has names spot x.condition) (expression_has names spot x.expression) (guards_have names spot xs))

guards_nil : (names : List (List ℕ)) (spot : Spot) → guards_have names spot [] ≡ []
unfolding guards_have
guards_nil names spot = refl

pub guards_prefix : (P : Guard → Type 0) (t : Text) (spot : Spot) (whole : List Node) (xs : List Guard) (i : ℕ) (x : Guard) (a b c : Sites) → x ≡ get_or xs i x → i < length xs → All P xs
    → Written t a (guards_have t.names spot (drop i xs)) whole b → (P x → Writes t b (expression_has t.names spot x.condition ++ expression_has t.names spot x.expression) c)
    → Written t a (guards_have t.names spot (drop (i + 1) xs)) whole c
guards_prefix P t spot = written_prefix P (guards_have t.names spot) (guard_has t.names spot) (guards_cons t.names spot) t

pub guards_end : (t : Text) (spot : Spot) (whole : List Node) (xs : List Guard) (i : ℕ) (a b : Sites) → length xs ≤ i → Written t a (guards_have t.names spot (drop i xs)) whole b → Writes t a whole b
guards_end t spot = written_all (guards_have t.names spot) (guards_nil t.names spot) t

-- ---- what may be there

pub maybe_none : (t : Text) (spot : Spot) (e : Option Expression) (a : Sites) → e ≡ None → Writes t a (maybe_has t.names spot e) a
unfolding maybe_has
maybe_none t spot e a is = subst (λ m. Writes t a (maybe_has t.names spot m) a) (sym is) (writes_none t a)

pub maybe_some : (t : Text) (spot : Spot) (m : Option Expression) (e : Expression) (a b : Sites) → m ≡ Some e → Writes t a (expression_has t.names spot e) b → Writes t a (maybe_has t.names spot m) b
unfolding maybe_has expression_has
maybe_some t spot m e a b is writes = subst (λ m. Writes t a (maybe_has t.names spot m) b) (sym is) writes

-- ---- right-hand sides

abbrev pub right_node_has : List (List ℕ) → Spot → RightSideNode → List Node
right_node_has names spot r =
    body_has names (in_block (block_of names r.local.items) spot) r.body ++
    declarations_have names (in_block (block_of names r.local.items) spot) (block_of names r.local.items) None r.local.items

right_in : (names : List (List ℕ)) (spot : Spot) (at : Position) (b : Body) (ds : List Declaration)
    → body_has names (in_block (block_of names ds) spot) b ++ declarations_have names (in_block (block_of names ds) spot) (block_of names ds) None ds
    ≡ right_nodes spot (right_of at (body_meaning names b) (declarations_meaning names ds))
unfolding expression_has guards_have declarations_have block_of
right_in names spot at (body.Plain e) ds = refl
right_in names spot at (body.Guarded cases) ds = refl

right_is : (names : List (List ℕ)) (spot : Spot) (r : RightSide) (n : RightSideNode) → right_node names n ≡ right_meaning names r → right_node_has names spot n ≡ right_has names spot r
unfolding right_has
right_is names spot r n meaning = right_in names spot (position_of n.place) n.body n.local.items ∙ ap (right_nodes spot) meaning

pub right_writes : (t : Text) (spot : Spot) (r : RightSide) (n : RightSideNode) (a b : Sites) → right_node t.names n ≡ right_meaning t.names r → Writes t a (right_node_has t.names spot n) b → Writes t a (right_has t.names spot r) b
right_writes t spot r n a b meaning writes = subst (λ ns. Writes t a ns b) (right_is t.names spot r n meaning) writes

-- ---- declarations

declarations_cons : (names : List (List ℕ)) (spot : Spot) (block : syntax.Declarations) (b : Option Begun) (d : Declaration) (ds : List Declaration)
    → declaration_has names spot block b ds d ++ declarations_have names spot block (begun_in b (declaration_meaning names d)) ds ≡ declarations_have names spot block b (d ∷ ds)
unfolding declaration_has declarations_have
declarations_cons names spot block b d ds = refl

declarations_nil : (names : List (List ℕ)) (spot : Spot) (block : syntax.Declarations) (b : Option Begun) → declarations_have names spot block b [] ≡ []
unfolding declarations_have
declarations_nil names spot block b = refl

-- what was written of the first declarations of a block
pub record AtDeclaration (t : Text) (before : Sites) (spot : Spot) (block : syntax.Declarations) (ds : List Declaration) (i : ℕ) (found : Option begun.Begun) (now : Sites) : Type 0 where
  pub begun : Option Begun
  pub is_before : IsBefore t begun found
  pub written : Written t before (declarations_have t.names spot block begun (drop i ds)) (declarations_have t.names spot block None ds) now

pub declarations_start : (t : Text) (a : Sites) (spot : Spot) (block : syntax.Declarations) (ds : List Declaration) → AtDeclaration t a spot block ds 0 None a
declarations_start t a spot block ds = record { begun = None; is_before = record { meaning = refl; known = tt }; written = written_start t a (declarations_have t.names spot block None ds) }

pub declarations_prefix : (t : Text) (spot : Spot) (block : syntax.Declarations) (ds others : List Declaration) (i : ℕ) (d : Declaration) (found next : Option begun.Begun) (a b c : Sites) → d ≡ get_or ds i d → i < length ds
    → others ≡ drop (i + 1) ds → AtDeclaration t a spot block ds i found b
    → Walks t b (declaration_has t.names spot block (begun_meaning t found) others d) (begun_in (begun_meaning t found) (declaration_meaning t.names d)) next c
    → AtDeclaration t a spot block ds (i + 1) next c
declarations_prefix t spot block ds others i d found next a b c is within follow before walked =
    let same = before.is_before.meaning in
    record {
      begun = begun_in before.begun (declaration_meaning t.names d);
      is_before = subst (λ x. IsBefore t (begun_in x (declaration_meaning t.names d)) next) same walked.begun;
      written = written_more (declarations_have t.names spot block (begun_in before.begun (declaration_meaning t.names d)) (drop (i + 1) ds))
          (declarations_cons t.names spot block before.begun d (drop (i + 1) ds) ∙ ap (declarations_have t.names spot block before.begun) (sym (dropped ds i d is within))) before.written
          (subst (λ x. Writes t b (declaration_has t.names spot block x (drop (i + 1) ds) d) c) same (subst (λ os. Writes t b (declaration_has t.names spot block (begun_meaning t found) os d) c) follow walked.writes));
    }

pub declarations_end : (t : Text) (spot : Spot) (block : syntax.Declarations) (ds : List Declaration) (i : ℕ) (found : Option begun.Begun) (a b : Sites) → length ds ≤ i → AtDeclaration t a spot block ds i found b
    → Writes t a (declarations_have t.names spot block None ds) b
declarations_end t spot block ds i found a b past before = written_end (nothing_left (declarations_have t.names spot block before.begun) (declarations_nil t.names spot block before.begun) ds i past) before.written

-- what stands in a declaration, by what it is
abbrev pub declaration_node_has : List (List ℕ) → Spot → syntax.Declarations → Option Begun → List Declaration → DeclarationNode → List Node
declaration_node_has names spot block b others n = declaration_nodes spot block b (declarations_meaning names others) (declaration_node names n)

pub declaration_walks : (t : Text) (spot : Spot) (block : syntax.Declarations) (found next : Option begun.Begun) (others : List Declaration) (d : Declaration) (v n : DeclarationNode) (added : List Node) (a b : Sites)
    → declaration_node t.names v ≡ declaration_meaning t.names d → v ≡ n → added ≡ declaration_node_has t.names spot block (begun_meaning t found) others n → Writes t a added b
    → IsBefore t (begun_in (begun_meaning t found) (declaration_node t.names n)) next
    → Walks t a (declaration_has t.names spot block (begun_meaning t found) others d) (begun_in (begun_meaning t found) (declaration_meaning t.names d)) next b
unfolding declaration_has
declaration_walks t spot block found next others d v n added a b meaning is has writes begun =
    let meant = ap (declaration_node t.names) (sym is) ∙ meaning in
    record {
      writes = subst (λ x. Writes t a (declaration_nodes spot block (begun_meaning t found) (declarations_meaning t.names others) x) b) meant (subst (λ ns. Writes t a ns b) has writes);
      begun = subst (λ x. IsBefore t (begun_in (begun_meaning t found) x) next) meant begun;
    }

pub rule_node_has : (names : List (List ℕ)) (spot : Spot) (block : syntax.Declarations) (b : Option Begun) (others : List Declaration) (r : rules.Rule) (place : Place) (x : code.Name) (ps : Vec Pattern Global) (right : RightSide)
    → r ≡ record { place = place; name = x; parameters = ps; right = right } → rule_has names spot block b others r ≡ declaration_node_has names spot block b others (declaration.FunctionRule place x ps right)
unfolding rule_has
rule_node_has names spot block b others r place x ps right is = ap (rule_has names spot block b others) is

pub bound_node_has : (names : List (List ℕ)) (spot : Spot) (block : syntax.Declarations) (b : Option Begun) (others : List Declaration) (at : Place) (p : Pattern) (right : RightSide)
    → node spot (Bound (pattern_meaning names p) (right_meaning names right)) ∷ right_has names spot right ≡ declaration_node_has names spot block b others (declaration.PatternBinding at p right)
unfolding right_has
bound_node_has names spot block b others at p right = refl

-- ---- rules of blocks

variable_rule : (spot : Spot) (block : syntax.Declarations) (b : Option Begun) (others : syntax.Declarations) (at : Position) (x : syntax.Name) (right : syntax.RightSide) → goes_on b x ≡ false
    → node spot (Defined x right) ∷ right_nodes spot right ≡ declaration_nodes spot block b others (syntax.FunctionRule at x syntax.NoPattern right)
variable_rule spot block b others at x right stops = rw stops refl

pub variable_has : (t : Text) (spot : Spot) (block : syntax.Declarations) (b : Option Begun) (others : List Declaration) (r : rules.Rule) → r.parameters.items ≡ [] → goes_on b (name_meaning t.names r.name) ≡ false
    → node spot (Defined (name_meaning t.names r.name) (right_meaning t.names r.right)) ∷ right_has t.names spot r.right ≡ rule_has t.names spot block b others r
unfolding rule_has right_has
variable_has t spot block b others r none stops =
    variable_rule spot block b (declarations_meaning t.names others) (position_of r.place) (name_meaning t.names r.name) (right_meaning t.names r.right) stops
    ∙ ap (λ ps. declaration_nodes spot block b (declarations_meaning t.names others) (syntax.FunctionRule (position_of r.place) (name_meaning t.names r.name) (patterns_meaning t.names ps) (right_meaning t.names r.right))) (sym none)

first_of : (spot : Spot) (block : syntax.Declarations) (b : Option Begun) (others : syntax.Declarations) (at : Position) (x : syntax.Name) (ps : syntax.Patterns) (right : syntax.RightSide) → (has_parameters ps || goes_on b x) ≡ true → goes_on b x ≡ false
    → (node spot (Function block (record { first = record { at = at; name = x; parameters = ps; right = right }; others = leading x.text (rules_in others) })) ∷ []) ++
    (node (in_function (begun_by b x at).at (variables ps) spot) (Matched ps) ∷ right_nodes (in_function (begun_by b x at).at (variables ps) spot) right)
    ≡ declaration_nodes spot block b others (syntax.FunctionRule at x ps right)
first_of spot block b others at x ps right function stops = rw (function, stops) refl

next_of : (spot : Spot) (block : syntax.Declarations) (b : Option Begun) (others : syntax.Declarations) (at : Position) (x : syntax.Name) (ps : syntax.Patterns) (right : syntax.RightSide) → (has_parameters ps || goes_on b x) ≡ true → goes_on b x ≡ true
    → node (in_function (begun_by b x at).at (variables ps) spot) (Matched ps) ∷ right_nodes (in_function (begun_by b x at).at (variables ps) spot) right
    ≡ declaration_nodes spot block b others (syntax.FunctionRule at x ps right)
next_of spot block b others at x ps right function goes = rw (function, goes) refl

right_true : (a b : Bool) → b ≡ true → (a || b) ≡ true
right_true true b e = refl
right_true false b e = e

pub has_some : (names : List (List ℕ)) (ps : List Pattern) (b : Bool) → (0 < length ps) ⊎ (b ≡ true) → (has_parameters (patterns_meaning names ps) || b) ≡ true
has_some names [] b (inl some) = absurd (omega (arith, some))
has_some names (p ∷ ps) b (inl some) = refl
has_some names ps b (inr e) = right_true (has_parameters (patterns_meaning names ps)) b e

pub first_rule_has : (t : Text) (spot : Spot) (block : syntax.Declarations) (b : Option Begun) (others : List Declaration) (r : rules.Rule) (at : Place)
    → (has_parameters (patterns_meaning t.names r.parameters.items) || goes_on b (name_meaning t.names r.name)) ≡ true → goes_on b (name_meaning t.names r.name) ≡ false
    → position_of at ≡ (begun_by b (name_meaning t.names r.name) (position_of r.place)).at
    → function_has t.names spot block others r ++ inner_rule_has t.names spot at r ≡ rule_has t.names spot block b others r
unfolding function_has rule_has right_has patterns_of patterns_bind
first_rule_has t spot block b others r at function stops begun =
    ap (λ p. function_has t.names spot block others r ++ (node (in_function p (variables (patterns_meaning t.names r.parameters.items)) spot) (Matched (patterns_meaning t.names r.parameters.items)) ∷
    right_nodes (in_function p (variables (patterns_meaning t.names r.parameters.items)) spot) (right_meaning t.names r.right))) begun
    ∙ first_of spot block b (declarations_meaning t.names others) (position_of r.place) (name_meaning t.names r.name) (patterns_meaning t.names r.parameters.items) (right_meaning t.names r.right) function stops

pub next_rule_has : (t : Text) (spot : Spot) (block : syntax.Declarations) (b : Option Begun) (others : List Declaration) (r : rules.Rule) (at : Place)
    → (has_parameters (patterns_meaning t.names r.parameters.items) || goes_on b (name_meaning t.names r.name)) ≡ true → goes_on b (name_meaning t.names r.name) ≡ true
    → position_of at ≡ (begun_by b (name_meaning t.names r.name) (position_of r.place)).at
    → inner_rule_has t.names spot at r ≡ rule_has t.names spot block b others r
unfolding rule_has right_has patterns_of patterns_bind
next_rule_has t spot block b others r at function goes begun =
    ap (λ p. node (in_function p (variables (patterns_meaning t.names r.parameters.items)) spot) (Matched (patterns_meaning t.names r.parameters.items)) ∷
    right_nodes (in_function p (variables (patterns_meaning t.names r.parameters.items)) spot) (right_meaning t.names r.right)) begun
    ∙ next_of spot block b (declarations_meaning t.names others) (position_of r.place) (name_meaning t.names r.name) (patterns_meaning t.names r.parameters.items) (right_meaning t.names r.right) function goes

-- ---- qualifiers

qualifiers_cons : (names : List (List ℕ)) (spot : Spot) (element : syntax.Expression) (q : Qualifier) (qs : List Qualifier)
    → qualifier_has names spot element (qualifiers_of names qs) q ++ qualifiers_have names (past (qualifier_of names q) spot) element qs ≡ qualifiers_have names spot element (q ∷ qs)
unfolding qualifier_has qualifiers_have qualifier_of qualifiers_of
qualifiers_cons names spot element q qs = refl

qualifiers_nil : (names : List (List ℕ)) (spot : Spot) (element : syntax.Expression) → qualifiers_have names spot element [] ≡ []
unfolding qualifiers_have
qualifiers_nil names spot element = refl

-- what was written of the first qualifiers
pub record AtQualifier (t : Text) (before : Sites) (element : syntax.Expression) (whole : List Node) (qs : List Qualifier) (i : ℕ) (found : spots.Spot) (now : Sites) : Type 0 where
  pub reached : Spot
  pub at : IsAt t now found reached
  pub written : Written t before (qualifiers_have t.names reached element (drop i qs)) whole now

pub qualifiers_start : (t : Text) (a : Sites) (spot : Spot) (element : syntax.Expression) (qs : List Qualifier) (at : spots.Spot) → IsAt t a at spot → AtQualifier t a element (qualifiers_have t.names spot element qs) qs 0 at a
qualifiers_start t a spot element qs at is = record { reached = spot; at = is; written = written_start t a (qualifiers_have t.names spot element qs) }

pub qualifiers_prefix : (t : Text) (element : syntax.Expression) (whole : List Node) (qs : List Qualifier) (i : ℕ) (q : Qualifier) (at next : spots.Spot) (a b m c : Sites) → q ≡ get_or qs i q → i < length qs → AtQualifier t a element whole qs i at b
    → ((spot : Spot) → IsAt t b at spot → Enters t b (past (qualifier_of t.names q) spot) next m)
    → ((spot : Spot) → IsAt t m at spot → IsAt t m next (past (qualifier_of t.names q) spot) → Writes t m (qualifier_has t.names spot element (qualifiers_of t.names (drop (i + 1) qs)) q) c)
    → AtQualifier t a element whole qs (i + 1) next c
qualifiers_prefix t element whole qs i q at next a b m c is within before enters writes =
    let entered = enters before.reached before.at in
    let here = writes before.reached (at_after entered.writes before.at) entered.at in
    record {
      reached = past (qualifier_of t.names q) before.reached;
      at = at_after here entered.at;
      written = written_more (qualifiers_have t.names (past (qualifier_of t.names q) before.reached) element (drop (i + 1) qs))
          (qualifiers_cons t.names before.reached element q (drop (i + 1) qs) ∙ ap (qualifiers_have t.names before.reached element) (sym (dropped qs i q is within))) before.written (writes_both entered.writes here);
    }

pub qualifiers_end : (t : Text) (element : syntax.Expression) (whole : List Node) (qs : List Qualifier) (i : ℕ) (at : spots.Spot) (a b : Sites) → length qs ≤ i → AtQualifier t a element whole qs i at b → Writes t a whole b
qualifiers_end t element whole qs i at a b past before = written_end (nothing_left (qualifiers_have t.names before.reached element) (qualifiers_nil t.names before.reached element) qs i past) before.written

after_first : (names : List (List ℕ)) (n : ℕ) (qs : List Qualifier) → qualifiers_after n (qualifiers_meaning names qs) ≡ qualifiers_meaning names (drop n qs)
after_first names zero qs = refl
after_first names (suc n) [] = refl
after_first names (suc n) (q ∷ qs) = after_first names n qs

pub follow_is : (t : Text) (whole : Expression) (element : syntax.Expression) (qs : List Qualifier) (n : ℕ) → IsComprehension t whole element qs → qualifiers_after n (qualifiers_in (expression_meaning t.names whole)) ≡ qualifiers_of t.names (drop n qs)
unfolding qualifiers_of
follow_is t whole element qs n is = ap (qualifiers_after n) is.has ∙ after_first t.names n qs

-- a qualifier, by what it is
abbrev pub qualifier_node_has : List (List ℕ) → Spot → syntax.Expression → syntax.Qualifiers → Qualifier → List Node
qualifier_node_has names spot element others (qualifier.Generator at p list) =
    (node spot (Generated (position_of at) (pattern_meaning names p) others element) ∷ []) ++
    ((node (past (qualifier_of names (qualifier.Generator at p list)) spot) (Matched (one_of names p)) ∷ []) ++ expression_has names spot list)
qualifier_node_has names spot element others (qualifier.Declarations at ds) = declarations_have names (in_block (block_of names ds.items) spot) (block_of names ds.items) None ds.items
qualifier_node_has names spot element others (qualifier.Condition at e) = expression_has names spot e

qualifier_node_is : (names : List (List ℕ)) (spot : Spot) (element : syntax.Expression) (others : syntax.Qualifiers) (q : Qualifier) → qualifier_node_has names spot element others q ≡ qualifier_has names spot element others q
unfolding qualifier_has qualifier_of one_of expression_has declarations_have block_of
qualifier_node_is names spot element others (qualifier.Generator at p list) = refl
qualifier_node_is names spot element others (qualifier.Declarations at ds) = refl
qualifier_node_is names spot element others (qualifier.Condition at e) = refl

pub qualifier_writes : (t : Text) (spot : Spot) (element : syntax.Expression) (others : syntax.Qualifiers) (v n : Qualifier) (a b : Sites) → v ≡ n → Writes t a (qualifier_node_has t.names spot element others n) b
    → Writes t a (qualifier_has t.names spot element others v) b
qualifier_writes t spot element others v n a b is writes =
    subst (λ q. Writes t a (qualifier_has t.names spot element others q) b) (sym is) (subst (λ ns. Writes t a ns b) (qualifier_node_is t.names spot element others n) writes)

-- the scope of a block in a qualifier is what stands after that
pub past_block : (t : Text) (s : Sites) (found : spots.Spot) (spot : Spot) (v : Qualifier) (at : Place) (ds : Vec Declaration Global) → v ≡ qualifier.Declarations at ds → IsAt t s found (past (qualifier_of t.names v) spot)
    → IsAt t s found (in_block (block_of t.names ds.items) spot)
unfolding qualifier_of block_of
past_block t s found spot v at ds is is_at = subst (λ q. IsAt t s found (past (qualifier_of t.names q) spot)) is is_at

-- ---- single nodes

pub use_written : (t : Text) (a b : Sites) (at : spots.Spot) (x : code.Name) (copy : Vec Expression Global) (arguments : List Expression) (spot : Spot) → Pushes at (site.Use x copy) a b → copy.items ≡ arguments → IsAt t a at spot
    → NameIsOf t.owner t.names x → All (ExpressionIsOf t.owner t.names) arguments → Writes t a (use_has t.names spot x arguments) b
unfolding use_has
use_written t a b at x copy arguments spot pushed copied is of all =
    subst (λ es. Writes t a (node spot (Use (name_meaning t.names x) (map (expression_meaning t.names) es)) ∷ []) b) copied
    (writes_one t a b at (site.Use x copy) spot (Use (name_meaning t.names x) (map (expression_meaning t.names) copy.items)) pushed is (refl, of, subst (All (ExpressionIsOf t.owner t.names)) (sym copied) all) refl)

pub matched_written : (t : Text) (a b : Sites) (at : spots.Spot) (copy : Vec Pattern Global) (ps : List Pattern) (spot : Spot) → Pushes at (site.Matched copy) a b → copy.items ≡ ps → IsAt t a at spot
    → All (PatternIsOf t.owner t.names) ps → Writes t a (node spot (Matched (patterns_of t.names ps)) ∷ []) b
unfolding patterns_of
matched_written t a b at copy ps spot pushed copied is all =
    subst (λ xs. Writes t a (node spot (Matched (patterns_meaning t.names xs)) ∷ []) b) copied
    (writes_one t a b at (site.Matched copy) spot (Matched (patterns_meaning t.names copy.items)) pushed is (refl, subst (All (PatternIsOf t.owner t.names)) (sym copied) all) refl)

pub one_matched : (names : List (List ℕ)) (p : Pattern) → patterns_of names (p ∷ []) ≡ one_of names p
unfolding patterns_of one_of
one_matched names p = refl

pub function_written : (t : Text) (a b : Sites) (inner : BlockSpot) (g : groups.Group) (others : List Declaration) (r : rules.Rule) (spot : Spot) (block : syntax.Declarations) → Pushes inner.at (site.Function inner.block g) a b → IsInner t a inner spot block
    → GroupIsOf t.owner t.names g → group_meaning t.names g ≡ record { first = rule_meaning t.names r; others = leading (name_meaning t.names r.name).text (rules_in (declarations_meaning t.names others)) }
    → Writes t a (function_has t.names spot block others r) b
unfolding function_has
function_written t a b inner g others r spot block pushed is of meaning =
    subst (λ h. Writes t a (node spot (Function block h) ∷ []) b) meaning
    (writes_one t a b inner.at (site.Function inner.block g) spot (Function block (group_meaning t.names g)) pushed is.at
    (record { block = is.block_is.block; stands = is.block_is.stands; owned = is.block_is.owned; group = of; is = ap (λ ds. Function ds (group_meaning t.names g)) (sym is.block_is.meaning) }) refl)

pub rules_listed : (names : List (List ℕ)) (ds : List Declaration) → rules_of_views names ds ≡ rules_in (declarations_meaning names ds)
rules_listed names [] = refl
rules_listed names (d ∷ ds) = ap (λ rs. rule_in (declaration_meaning names d) ∷ rs) (rules_listed names ds)
