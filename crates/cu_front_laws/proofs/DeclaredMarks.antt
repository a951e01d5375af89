-- The declared types of functions: of top level, and of the local functions that are lifted.
use Rattle.std.proofs.Common.{◌≡◌, ◌+◌, ◌&&◌, ℕ, Bool, true, false, List, [], ◌∷◌, ◌++◌, Option, None, Some, map, refl, sym, ap, subst, if◌then◌else◌, codes}
use Rattle.std.specs.List.{list_any}
use Rattle.std.specs.Option.{option_map}
use Rattle.std.specs.Str.{bytes_eq}
use Rattle.cu_calculus.specs.declared.builtin.Primitive.{Primitive}
use Rattle.cu_calculus.specs.declared.builtin.Primitive.TheVariants as prim
use Rattle.cu_kernel.specs.Kernel.{Kernel, Mark}
use Rattle.cu_kernel.specs.LocalKernel.{LocalFunction, TopFunction}
use Rattle.cu_kernel.specs.LocalTerm.{LocalTerm}
use Rattle.cu_kernel.specs.TypeExpr.{TypeExpr}
use Rattle.cu_lex.specs.Located.{Position}
use Rattle.cu_lift.specs.Lifting.{Locals, Numbered, in_order, in_order_from, local_mark, mark_group, marks_from, put_in, stands_before}
use Rattle.cu_syntax.specs.Syntax as syntax
use Rattle.cu_syntax.specs.Syntax.{Declaration, Declarations, Goal, Item, Name, Pattern, TypeTerm}
use Rattle.cu_uses.specs.Binders.{pattern_variables}
use Rattle.cu_declared.specs.TypeUses.{TypeUse, declaration_uses, declarations_uses, goal_uses, item_uses, items_uses, right_uses, type_uses}
use Rattle.cu_translation.specs.Around.{Around, Names}
use Rattle.cu_translation.specs.Externals.{External, external_type, externals}
use Rattle.cu_translation.specs.Functions.{around_goal, around_group, external_function, goal_function, goal_nodes, goal_scope, group_nodes, top_function}
use Rattle.cu_translation.specs.LocalFunctions.{functions_of, generator_function, local_functions, or_else, selector, signature_in, signature_of}
use Rattle.cu_translation.specs.ModuleTypes.{Reading}
use Rattle.cu_translation.specs.Numbered.{groups_in, only_in_prelude}
use Rattle.cu_translation.specs.Parts as parts
use Rattle.cu_translation.specs.Parts.{external_mark, function_mark}
use Rattle.cu_translation.specs.Rules.{Begun, Group, Rule, begun_by, goes_on, groups_after, leading, rule_in, rule_in_item, rules_of}
use Rattle.cu_translation.specs.Sites.{Bound, Defined, Free, Function, Generated, Lambda, Matched, Node, Operation, Site, Spot, Use, node, rule_nodes, rules_nodes}
use Rattle.cu_translation.specs.TypeTable.{signature_type}
use Rattle.cu_types.specs.Synonyms.{is_applied, takes_arguments}
use Rattle.cu_front_laws.proofs.AppliedTypes.{TakeSigns, Takes, applied}
use Rattle.cu_front_laws.proofs.Members.{Every, Sub, every_append, every_from, every_in, every_map, sub_left, sub_right, sub_self}
use Rattle.cu_front_laws.proofs.NarrowTexts.{NarrowDeclaration, NarrowDeclarations, NarrowExpression, NarrowItem, NarrowRight, NarrowType}
use Rattle.cu_front_laws.proofs.ProgramTypes.{in_prelude_or_none}
use Rattle.cu_front_laws.proofs.SignatureSites.{SiteIsRight, nodes_on_right, rule_nodes_right}

-- a declared type, if there is one, is applied to its numbers of arguments
abbrev pub has_signature : Kernel → Option TypeExpr → Bool
has_signature k None = true
has_signature k (Some t) = is_applied k t

abbrev pub MarkIsRight : Kernel → Mark → Type 0
MarkIsRight k m = has_signature k m.declared ≡ true

abbrev pub LocalIsRight : Kernel → LocalFunction → Type 0
LocalIsRight k f = has_signature k f.declared ≡ true

abbrev pub TopIsRight : Kernel → TopFunction → Type 0
TopIsRight k f = Every (LocalIsRight k) f.locals

-- ---- lifting

abbrev NumberedIsRight : Kernel → Numbered → Type 0
NumberedIsRight k f = LocalIsRight k f.function

put_right : (k : Kernel) (f : Numbered) (gs : List Numbered) → NumberedIsRight k f → Every (NumberedIsRight k) gs
    → Every (NumberedIsRight k) (put_in f gs)
put_right k f [] one every = (one, tt)
put_right k f (g ∷ gs) one every = by (stands_before g.function.place f.function.place) (put_right k f gs one every.1)
  where
    by : (b : Bool) → Every (NumberedIsRight k) (put_in f gs) → Every (NumberedIsRight k) (if b then g ∷ put_in f gs else f ∷ g ∷ gs)
    by true later = (every.0, later)
    by false later = (one, every)

ordered_right : (k : Kernel) (n : ℕ) (fs : List LocalFunction) → Every (LocalIsRight k) fs → Every (NumberedIsRight k) (in_order_from n fs)
ordered_right k n [] every = tt
ordered_right k n (f ∷ fs) every =
    put_right k (record { number = n; function = f }) (in_order_from (n + 1) fs) every.0 (ordered_right k (n + 1) fs every.1)

group_right : (k : Kernel) (captured : ℕ → List ℕ) (m : Mark) (f : TopFunction) → MarkIsRight k m → TopIsRight k f
    → Every (MarkIsRight k) (mark_group captured m f)
group_right k captured m f one every = (one, every_map (MarkIsRight k) (local_mark m captured) (in_order f.locals) (ordered_right k 0 f.locals every))

pub lifted_right : (k : Kernel) (locals : Locals) (i : ℕ) (ms : List Mark) (fs : List TopFunction) → Every (MarkIsRight k) ms
    → Every (TopIsRight k) fs → Every (MarkIsRight k) (marks_from locals i ms fs)
lifted_right k locals i [] fs marks functions = tt
lifted_right k locals i (m ∷ ms) [] marks functions = tt
lifted_right k locals i (m ∷ ms) (f ∷ fs) marks functions =
    every_append (MarkIsRight k) (mark_group (locals.captured i) m f) (marks_from locals (i + 1) ms fs)
    (group_right k (locals.captured i) m f marks.0 functions.0)
    (lifted_right k locals (i + 1) ms fs marks.1 functions.1)

-- ---- signatures

-- Types that are used among these, and narrow.
abbrev Among : List TypeUse → TypeTerm → Type 0
Among whole t = Sub (type_uses t) whole × NarrowType t

abbrev IfAmong : List TypeUse → Option TypeTerm → Type 0
IfAmong whole None = Unit {0}
IfAmong whole (Some t) = Among whole t

or_else_among : (whole : List TypeUse) (a b : Option TypeTerm) → IfAmong whole a → IfAmong whole b → IfAmong whole (or_else a b)
or_else_among whole (Some t) b one two = one
or_else_among whole None b one two = two

in_among : (whole : List TypeUse) (x : List ℕ) (d : Declaration) → Sub (declaration_uses d) whole → NarrowDeclaration d
    → IfAmong whole (signature_in x d)
in_among whole x (syntax.Signature at names t) s narrow = by (list_any (λ (y : Name). bytes_eq y.text x) names)
  where
    by : (b : Bool) → IfAmong whole (if b then Some t else None)
    by true = (s, narrow)
    by false = tt
in_among whole x (syntax.FreeVariables at names) s narrow = tt
in_among whole x (syntax.FunctionRule at name ps right) s narrow = tt
in_among whole x (syntax.PatternBinding at p right) s narrow = tt

block_among : (whole : List TypeUse) (x : List ℕ) (ds : Declarations) → Sub (declarations_uses ds) whole → NarrowDeclarations ds
    → IfAmong whole (signature_of x ds)
block_among whole x syntax.NoDeclaration s narrow = tt
block_among whole x (syntax.MoreDeclarations d ds) s narrow =
    or_else_among whole (signature_in x d) (signature_of x ds)
    (in_among whole x d (sub_left (declaration_uses d) (declarations_uses ds) whole s) narrow.0)
    (block_among whole x ds (sub_right (declaration_uses d) (declarations_uses ds) whole s) narrow.1)

item_among : (whole : List TypeUse) (x : List ℕ) (i : Item) → Sub (item_uses i) whole → NarrowItem i → IfAmong whole (parts.signature_by x i)
item_among whole x (syntax.DeclarationItem d) s narrow = in_among whole x d s narrow
item_among whole x (syntax.ImportItem found) s narrow = tt
item_among whole x (syntax.Fixity at to level operators) s narrow = tt
item_among whole x (syntax.Data at name ps cs) s narrow = tt
item_among whole x (syntax.Synonym at name ps t) s narrow = tt

items_among : (whole : List TypeUse) (x : List ℕ) (items : List Item) → Sub (items_uses items) whole → Every NarrowItem items
    → IfAmong whole (parts.signature_of x items)
items_among whole x [] s narrow = tt
items_among whole x (i ∷ items) s narrow =
    or_else_among whole (parts.signature_by x i) (parts.signature_of x items)
    (item_among whole x i (sub_left (item_uses i) (items_uses items) whole s) narrow.0)
    (items_among whole x items (sub_right (item_uses i) (items_uses items) whole s) narrow.1)

-- ---- rules of functions

abbrev RuleAmong : List TypeUse → Rule → Type 0
RuleAmong whole r = Sub (right_uses r.right) whole × NarrowRight r.right

abbrev IfRule : List TypeUse → Option Rule → Type 0
IfRule whole None = Unit {0}
IfRule whole (Some r) = RuleAmong whole r

declared_rule : (whole : List TypeUse) (d : Declaration) → Sub (declaration_uses d) whole → NarrowDeclaration d → IfRule whole (rule_in d)
declared_rule whole (syntax.FunctionRule at name ps right) s narrow = (s, narrow)
declared_rule whole (syntax.Signature at names t) s narrow = tt
declared_rule whole (syntax.FreeVariables at names) s narrow = tt
declared_rule whole (syntax.PatternBinding at p right) s narrow = tt

item_rule : (whole : List TypeUse) (i : Item) → Sub (item_uses i) whole → NarrowItem i → IfRule whole (rule_in_item i)
item_rule whole (syntax.DeclarationItem d) s narrow = declared_rule whole d s narrow
item_rule whole (syntax.ImportItem found) s narrow = tt
item_rule whole (syntax.Fixity at to level operators) s narrow = tt
item_rule whole (syntax.Data at name ps cs) s narrow = tt
item_rule whole (syntax.Synonym at name ps t) s narrow = tt

items_rules : (whole : List TypeUse) (items : List Item) → Sub (items_uses items) whole → Every NarrowItem items
    → Every (IfRule whole) (map rule_in_item items)
items_rules whole [] s narrow = tt
items_rules whole (i ∷ items) s narrow = (
  item_rule whole i (sub_left (item_uses i) (items_uses items) whole s) narrow.0,
  items_rules whole items
      (sub_right (item_uses i) (items_uses items) whole s) narrow.1,
)

leading_among : (whole : List TypeUse) (x : List ℕ) (ds : List (Option Rule)) → Every (IfRule whole) ds → Every (RuleAmong whole) (leading x ds)
leading_among whole x [] every = tt
leading_among whole x (None ∷ ds) every = tt
leading_among whole x (Some r ∷ ds) every = by (bytes_eq x r.name.text) (leading_among whole x ds every.1)
  where
    by : (b : Bool) → Every (RuleAmong whole) (leading x ds) → Every (RuleAmong whole) (if b then r ∷ leading x ds else [])
    by true later = (every.0, later)
    by false later = tt

abbrev GroupAmong : List TypeUse → Group → Type 0
GroupAmong whole g = Every (RuleAmong whole) (rules_of g)

groups_among : (whole : List TypeUse) (begun : Option Begun) (ds : List (Option Rule)) → Every (IfRule whole) ds
    → Every (GroupAmong whole) (groups_after begun ds)
groups_among whole begun [] every = tt
groups_among whole begun (None ∷ ds) every = groups_among whole None ds every.1
groups_among whole begun (Some r ∷ ds) every =
    by (goes_on begun r.name) (groups_among whole begun ds every.1) (groups_among whole (Some (begun_by begun r.name r.at)) ds every.1)
  where
    by : (b : Bool) → Every (GroupAmong whole) (groups_after begun ds)
        → Every (GroupAmong whole) (groups_after (Some (begun_by begun r.name r.at)) ds)
        → Every (GroupAmong whole) (if b then groups_after begun ds else record {
          first = r;
          others =
              leading r.name.text ds;
        } ∷ groups_after (Some (begun_by begun r.name r.at)) ds)
    by true more begins = more
    by false more begins = ((every.0, leading_among whole r.name.text ds every.1), begins)

rules_sites : (whole : List TypeUse) (rules : List Rule) → Every (RuleAmong whole) rules → Every (SiteIsRight whole) (rules_nodes rules)
rules_sites whole [] every = tt
rules_sites whole (r ∷ rules) every =
    every_append (SiteIsRight whole) (rule_nodes r) (rules_nodes rules) (rule_nodes_right whole r every.0.0 every.0.1)
    (rules_sites whole rules every.1)

-- ---- functions

generator_undeclared : (around : Around) (at : Position) (p : Pattern) (rest : LocalTerm) → (generator_function around at p rest).declared ≡ None
generator_undeclared around at (syntax.PatternVariable x) rest = refl
generator_undeclared around at (syntax.As x p) rest = refl
generator_undeclared around at (syntax.Wildcard place) rest = refl
generator_undeclared around at (syntax.PatternLiteral place found) rest = refl
generator_undeclared around at (syntax.Constructed place c ps) rest = refl
generator_undeclared around at (syntax.PatternTuple place ps) rest = refl
generator_undeclared around at (syntax.PatternList place ps) rest = refl
generator_undeclared around at (syntax.PatternOperators place p more) rest = refl

module _ (k : Kernel) (names : Names) (signs : TakeSigns k names) (whole : List TypeUse) (every : Every (Takes k names) whole) where
  type_right : (t : TypeTerm) → Among whole t → is_applied k (signature_type names t) ≡ true
  type_right t among = applied k names signs _ t
      (every_from (Takes k names) (type_uses t) (λ u h. every_in (Takes k names) whole every u (among.0 u h))) among.1

  signature_right : (o : Option TypeTerm) → IfAmong whole o → has_signature k (option_map (signature_type names) o) ≡ true
  signature_right None among = refl
  signature_right (Some t) among = type_right t among

  site_right : (around : Around) → around.names ≡ names → (spot : Spot) (s : Site) → SiteIsRight whole (node spot s)
      → Every (LocalIsRight k) (functions_of around (node spot s))
  site_right around is spot (Function block g) right = (
    subst (λ (x : Names). has_signature k (option_map (signature_type x) (signature_of g.first.name.text block)) ≡ true) (sym is)
        (signature_right (signature_of g.first.name.text block) (block_among whole g.first.name.text block right.0 right.1)),
    tt,
  )
  site_right around is spot (Lambda at ps body) right = (refl, tt)
  site_right around is spot (Generated at p qs element) right = (ap (has_signature k) (generator_undeclared around at p _), tt)
  site_right around is spot (Bound p rs) right =
      every_map (LocalIsRight k) (selector around p) (pattern_variables p)
      (every_from (λ (x : Name). LocalIsRight k (selector around p x)) (pattern_variables p) (λ x h. refl))
  site_right around is spot (Use x es) right = tt
  site_right around is spot (Operation e) right = tt
  site_right around is spot (Matched ps) right = tt
  site_right around is spot (Defined x rs) right = tt
  site_right around is spot (Free xs) right = tt

  sites_right : (around : Around) → around.names ≡ names → (nodes : List Node) → Every (SiteIsRight whole) nodes
      → Every (LocalIsRight k) (local_functions around nodes)
  sites_right around is [] right = tt
  sites_right around is (n ∷ nodes) right =
      every_append (LocalIsRight k) (functions_of around n) (local_functions around nodes) (site_right around is n.spot n.site right.0)
      (sites_right around is nodes right.1)

  top_right : (table : List (List ℕ)) (g : Group) → GroupAmong whole g → TopIsRight k (top_function table names g)
  top_right table g among = sites_right (around_group names g) refl (group_nodes g) (rules_sites whole (rules_of g) among)

  tops_right : (table : List (List ℕ)) (gs : List Group) → Every (GroupAmong whole) gs → Every (TopIsRight k) (map (top_function table names) gs)
  tops_right table [] among = tt
  tops_right table (g ∷ gs) among = (top_right table g among.0, tops_right table gs among.1)

-- ---- parts of modules

-- the types of literals and of truth values take no arguments
pub record TakeLiterals (k : Kernel) (names : Names) : Type 0 where
  pub int : takes_arguments k (names.prelude_type (codes "Int")) 0 ≡ true
  pub char : takes_arguments k (names.prelude_type (codes "Char")) 0 ≡ true
  pub bool : takes_arguments k (names.prelude_type (codes "Bool")) 0 ≡ true

three : (a b c : Bool) → a ≡ true → b ≡ true → c ≡ true → ((a && true) && ((b && true) && (c && true))) ≡ true
three a b c e f g = (λ j. (e j && true) && ((f j && true) && (g j && true)))

two : (a b : Bool) → a ≡ true → b ≡ true → ((a && true) && (b && true)) ≡ true
two a b e f = (λ j. (e j && true) && (f j && true))

any_two : (a : Bool) → a ≡ true → (true && (true && (a && true))) ≡ true
any_two a e = (λ j. true && (true && (e j && true)))

external_right : (k : Kernel) (names : Names) → TakeLiterals k names → (p : Primitive) → is_applied k (external_type names p) ≡ true
external_right k names t prim.Add = three _ _ _ t.int t.int t.int
external_right k names t prim.Sub = three _ _ _ t.int t.int t.int
external_right k names t prim.Mul = three _ _ _ t.int t.int t.int
external_right k names t prim.Div = three _ _ _ t.int t.int t.int
external_right k names t prim.Mod = three _ _ _ t.int t.int t.int
external_right k names t prim.Less = three _ _ _ t.int t.int t.bool
external_right k names t prim.AtMost = three _ _ _ t.int t.int t.bool
external_right k names t prim.Greater = three _ _ _ t.int t.int t.bool
external_right k names t prim.AtLeast = three _ _ _ t.int t.int t.bool
external_right k names t prim.Equal = any_two _ t.bool
external_right k names t prim.Unify = any_two _ t.bool
external_right k names t prim.And = three _ _ _ t.bool t.bool t.bool
external_right k names t prim.Ord = two _ _ t.char t.int
external_right k names t prim.Chr = two _ _ t.int t.char
external_right k names t prim.Failed = refl

module _ (k : Kernel) (r : Reading) (signs : TakeSigns k r.names) (literals : TakeLiterals k r.names)
    (every : Every (Takes k r.names) (items_uses r.m.syntax.items)) (narrow : Every NarrowItem r.m.syntax.items) where
  pub marks_right : Every (MarkIsRight k)
      (only_in_prelude r.m.name (map (external_mark r) externals) ++ map (function_mark r) (groups_in r.m))
  marks_right =
      every_append (MarkIsRight k) (only_in_prelude r.m.name (map (external_mark r) externals)) (map (function_mark r) (groups_in r.m))
      (in_prelude_or_none (MarkIsRight k) r.m.name (map (external_mark r) externals)
      (every_map (MarkIsRight k) (external_mark r) externals
      (every_from (λ (e : External). MarkIsRight k (external_mark r e)) externals (λ e h. external_right k r.names literals e.operation))))
      (every_map (MarkIsRight k) (function_mark r) (groups_in r.m) (every_from (λ (g : Group). MarkIsRight k (function_mark r g)) (groups_in r.m)
      (λ g h. signature_right k r.names signs (items_uses r.m.syntax.items) every (parts.signature_of g.first.name.text r.m.syntax.items)
      (items_among (items_uses r.m.syntax.items) g.first.name.text r.m.syntax.items (sub_self (items_uses r.m.syntax.items)) narrow))))

  pub functions_right : Every (TopIsRight k)
      (only_in_prelude r.m.name (map (external_function r.table) externals) ++ map (top_function r.table r.names) (groups_in r.m))
  functions_right =
      every_append (TopIsRight k) (only_in_prelude r.m.name (map (external_function r.table) externals))
      (map (top_function r.table r.names) (groups_in r.m))
      (in_prelude_or_none (TopIsRight k) r.m.name (map (external_function r.table) externals)
      (every_map (TopIsRight k) (external_function r.table) externals
      (every_from (λ (e : External). TopIsRight k (external_function r.table e)) externals (λ e h. tt))))
      (tops_right k r.names signs (items_uses r.m.syntax.items) every r.table (groups_in r.m)
      (groups_among (items_uses r.m.syntax.items) None (map rule_in_item r.m.syntax.items)
      (items_rules (items_uses r.m.syntax.items) r.m.syntax.items (sub_self (items_uses r.m.syntax.items)) narrow)))

-- ---- goals

pub goal_right : (k : Kernel) (table : List (List ℕ)) (names : Names) (goal : Goal) → TakeSigns k names → Every (Takes k names) (goal_uses goal)
    → NarrowExpression goal.expression
    → TopIsRight k (goal_function table names goal)
goal_right k table names goal signs every narrow =
    sites_right k names signs (goal_uses goal) every (around_goal names goal) refl (goal_nodes goal)
    (nodes_on_right (goal_uses goal) [] (record { functions = []; scope = goal_scope goal }) goal.expression (sub_self (goal_uses goal)) narrow)
