-- The local functions in a text have their signatures in blocks of the text.
use Rattle.std.proofs.Common.{Bool, true, false, List, [], ◌∷◌, ◌++◌, Option, None, if◌then◌else◌}
use Rattle.cu_syntax.specs.Syntax as syntax
use Rattle.cu_syntax.specs.Syntax.{Alternatives, Declaration, Declarations, Expression, Expressions, Guards, MaybeExpression, Name, OperatorRest, Patterns, Qualifier, Qualifiers, RightSide}
use Rattle.cu_uses.specs.Binders.{pattern_variables, variables}
use Rattle.cu_declared.specs.TypeUses.{TypeUse, alternatives_uses, declaration_uses, declarations_uses, expression_uses, expressions_uses, guards_uses, maybe_uses, qualifier_uses, qualifiers_uses, rest_uses, right_uses}
use Rattle.cu_translation.specs.Rules.{Begun, Rule, begun_by, begun_in, expressions, goes_on, is_of_function, leading, rules_in}
use Rattle.cu_translation.specs.Sites.{Defined, Function, Matched, Node, Site, Spot, Use, all_nodes, alternatives_nodes, declaration_nodes, declarations_nodes, first_rule, guards_nodes, in_block, in_function, maybe_nodes, node, nodes_on, past, past_all, qualifier_nodes, qualifiers_nodes, rest_nodes, right_nodes, rule_nodes, with}
use Rattle.cu_front_laws.proofs.Members.{Every, Sub, every_append, sub_left, sub_right}
use Rattle.cu_front_laws.proofs.NarrowTexts.{NarrowAlternatives, NarrowDeclaration, NarrowDeclarations, NarrowExpression, NarrowExpressions, NarrowGuards, NarrowMaybe, NarrowQualifier, NarrowQualifiers, NarrowRest, NarrowRight}

-- the types of a block are among these uses, and its tuple types are those that there are
abbrev pub BlockIsRight : List TypeUse → Declarations → Type 0
BlockIsRight whole block = Sub (declarations_uses block) whole × NarrowDeclarations block

abbrev IsRight : List TypeUse → Site → Type 0
IsRight whole (Function block g) = BlockIsRight whole block
IsRight whole _ = Unit {0}

abbrev pub SiteIsRight : List TypeUse → Node → Type 0
SiteIsRight whole n = IsRight whole n.site

module _ (whole : List TypeUse) where
  first_rule_right : (spot : Spot) (block : Declarations) (begun : Option Begun) (others : Declarations) (r : Rule) → BlockIsRight whole block
      → Every (SiteIsRight whole) (first_rule spot block begun others r)
  first_rule_right spot block begun others r right = by (goes_on begun r.name)
    where
      by : (b : Bool) → Every (SiteIsRight whole)
          (if b then [] else node spot (Function block (record { first = r; others = leading r.name.text (rules_in others) })) ∷ [])
      by true = tt
      by false = (right, tt)

  of_function : (b : Bool) (of_rule of_variable : List Node) → Every (SiteIsRight whole) of_rule → Every (SiteIsRight whole) of_variable
      → Every (SiteIsRight whole) (if b then of_rule else of_variable)
  of_function true of_rule of_variable one two = one
  of_function false of_rule of_variable one two = two

  mutual
    pub nodes_on_right : (arguments : List Expression) (spot : Spot) (x : Expression) → Sub (expression_uses x) whole → NarrowExpression x
        → Every (SiteIsRight whole) (nodes_on arguments spot x)
    nodes_on_right arguments spot (syntax.Variable at name) s narrow = (tt, tt)
    nodes_on_right arguments spot (syntax.Constructor at name) s narrow = tt
    nodes_on_right arguments spot (syntax.LiteralExpression at found) s narrow = tt
    nodes_on_right arguments spot (syntax.Application at f es) s narrow =
        every_append (SiteIsRight whole) (nodes_on (expressions es) spot f) (all_nodes spot es)
        (nodes_on_right (expressions es) spot f (sub_left (expression_uses f) (expressions_uses es) whole s) narrow.0)
        (all_nodes_right spot es (sub_right (expression_uses f) (expressions_uses es) whole s) narrow.1)
    nodes_on_right arguments spot (syntax.Operators at minus first rest) s narrow = (
      tt,
      every_append (SiteIsRight whole) (nodes_on [] spot first) (rest_nodes spot rest)
          (nodes_on_right [] spot first (sub_left (expression_uses first) (rest_uses rest) whole s) narrow.0)
          (rest_nodes_right spot rest (sub_right (expression_uses first) (rest_uses rest) whole s) narrow.1),
    )
    nodes_on_right arguments spot (syntax.Lambda at ps body) s narrow =
        (tt, (tt, nodes_on_right [] (in_function at (variables ps) spot) body s narrow))
    nodes_on_right arguments spot (syntax.Let at ds body) s narrow =
        every_append (SiteIsRight whole) (declarations_nodes (in_block ds spot) ds None ds) (nodes_on [] (in_block ds spot) body)
        (declarations_nodes_right (in_block ds spot) ds None ds ((sub_left (declarations_uses ds) (expression_uses body) whole s), narrow.0)
        (sub_left (declarations_uses ds) (expression_uses body) whole s) narrow.0)
        (nodes_on_right [] (in_block ds spot) body (sub_right (declarations_uses ds) (expression_uses body) whole s) narrow.1)
    nodes_on_right arguments spot (syntax.If at c e f) s narrow =
        every_append (SiteIsRight whole) (nodes_on [] spot c) (nodes_on [] spot e ++ nodes_on [] spot f)
        (nodes_on_right [] spot c (sub_left (expression_uses c) (expression_uses e ++ expression_uses f) whole s) narrow.0)
        (every_append (SiteIsRight whole) (nodes_on [] spot e) (nodes_on [] spot f)
        (nodes_on_right [] spot e
        (sub_left (expression_uses e) (expression_uses f) whole (sub_right (expression_uses c) (expression_uses e ++ expression_uses f) whole s))
        narrow.1.0) (nodes_on_right [] spot f
        (sub_right (expression_uses e) (expression_uses f) whole (sub_right (expression_uses c) (expression_uses e ++ expression_uses f) whole s))
        narrow.1.1))
    nodes_on_right arguments spot (syntax.Case at word e alternatives) s narrow =
        every_append (SiteIsRight whole) (nodes_on [] spot e) (alternatives_nodes spot alternatives)
        (nodes_on_right [] spot e (sub_left (expression_uses e) (alternatives_uses alternatives) whole s) narrow.0)
        (alternatives_nodes_right spot alternatives (sub_right (expression_uses e) (alternatives_uses alternatives) whole s) narrow.1)
    nodes_on_right arguments spot (syntax.Tuple at es) s narrow =
        all_nodes_right spot es s narrow
    nodes_on_right arguments spot (syntax.TupleConstructor at n) s narrow = tt
    nodes_on_right arguments spot (syntax.LeftSection at e operator) s narrow =
        every_append (SiteIsRight whole) (nodes_on [] spot e) (node spot (Use operator (e ∷ [])) ∷ []) (nodes_on_right [] spot e s narrow) ((tt, tt))
    nodes_on_right arguments spot (syntax.RightSection at operator e) s narrow =
        (tt, nodes_on_right [] spot e s narrow)
    nodes_on_right arguments spot (syntax.ListOf at es) s narrow =
        all_nodes_right spot es s narrow
    nodes_on_right arguments spot (syntax.Enumeration at first second last) s narrow =
        every_append (SiteIsRight whole) (nodes_on [] spot first) (maybe_nodes spot second ++ maybe_nodes spot last)
        (nodes_on_right [] spot first (sub_left (expression_uses first) (maybe_uses second ++ maybe_uses last) whole s) narrow.0)
        (every_append (SiteIsRight whole) (maybe_nodes spot second) (maybe_nodes spot last)
        (maybe_nodes_right spot second
        (sub_left (maybe_uses second) (maybe_uses last) whole (sub_right (expression_uses first) (maybe_uses second ++ maybe_uses last) whole s))
        narrow.1.0) (maybe_nodes_right spot last
        (sub_right (maybe_uses second) (maybe_uses last) whole (sub_right (expression_uses first) (maybe_uses second ++ maybe_uses last) whole s))
        narrow.1.1))
    nodes_on_right arguments spot (syntax.Comprehension at e qualifiers) s narrow =
        every_append (SiteIsRight whole) (nodes_on [] (past_all qualifiers spot) e) (qualifiers_nodes spot e qualifiers)
        (nodes_on_right [] (past_all qualifiers spot) e (sub_left (expression_uses e) (qualifiers_uses qualifiers) whole s) narrow.0)
        (qualifiers_nodes_right spot e qualifiers (sub_right (expression_uses e) (qualifiers_uses qualifiers) whole s) narrow.1)

    pub all_nodes_right : (spot : Spot) (x : Expressions) → Sub (expressions_uses x) whole → NarrowExpressions x
        → Every (SiteIsRight whole) (all_nodes spot x)
    all_nodes_right spot syntax.NoExpression s narrow = tt
    all_nodes_right spot (syntax.MoreExpressions e es) s narrow =
        every_append (SiteIsRight whole) (nodes_on [] spot e) (all_nodes spot es)
        (nodes_on_right [] spot e (sub_left (expression_uses e) (expressions_uses es) whole s) narrow.0)
        (all_nodes_right spot es (sub_right (expression_uses e) (expressions_uses es) whole s) narrow.1)

    pub maybe_nodes_right : (spot : Spot) (x : MaybeExpression) → Sub (maybe_uses x) whole → NarrowMaybe x
        → Every (SiteIsRight whole) (maybe_nodes spot x)
    maybe_nodes_right spot syntax.Absent s narrow = tt
    maybe_nodes_right spot (syntax.Present e) s narrow =
        nodes_on_right [] spot e s narrow

    pub rest_nodes_right : (spot : Spot) (x : OperatorRest) → Sub (rest_uses x) whole → NarrowRest x → Every (SiteIsRight whole) (rest_nodes spot x)
    rest_nodes_right spot syntax.NoOperator s narrow = tt
    rest_nodes_right spot (syntax.ThenOperator operator minus e rest) s narrow =
        every_append (SiteIsRight whole) (nodes_on [] spot e) (rest_nodes spot rest)
        (nodes_on_right [] spot e (sub_left (expression_uses e) (rest_uses rest) whole s) narrow.0)
        (rest_nodes_right spot rest (sub_right (expression_uses e) (rest_uses rest) whole s) narrow.1)

    pub alternatives_nodes_right : (spot : Spot) (x : Alternatives) → Sub (alternatives_uses x) whole → NarrowAlternatives x
        → Every (SiteIsRight whole) (alternatives_nodes spot x)
    alternatives_nodes_right spot syntax.NoAlternative s narrow = tt
    alternatives_nodes_right spot (syntax.MoreAlternatives at p right alternatives) s narrow = (
      tt,
      every_append (SiteIsRight whole) (right_nodes (with (pattern_variables p) spot) right) (alternatives_nodes spot alternatives)
          (right_nodes_right (with (pattern_variables p) spot) right (sub_left (right_uses right) (alternatives_uses alternatives) whole s)
          narrow.0) (alternatives_nodes_right spot alternatives (sub_right (right_uses right) (alternatives_uses alternatives) whole s) narrow.1),
    )

    pub right_nodes_right : (spot : Spot) (x : RightSide) → Sub (right_uses x) whole → NarrowRight x → Every (SiteIsRight whole) (right_nodes spot x)
    right_nodes_right spot (syntax.Plain at e ds) s narrow =
        every_append (SiteIsRight whole) (nodes_on [] (in_block ds spot) e) (declarations_nodes (in_block ds spot) ds None ds)
        (nodes_on_right [] (in_block ds spot) e (sub_left (expression_uses e) (declarations_uses ds) whole s) narrow.0)
        (declarations_nodes_right (in_block ds spot) ds None ds ((sub_right (expression_uses e) (declarations_uses ds) whole s), narrow.1)
        (sub_right (expression_uses e) (declarations_uses ds) whole s) narrow.1)
    right_nodes_right spot (syntax.Guarded at guards ds) s narrow =
        every_append (SiteIsRight whole) (guards_nodes (in_block ds spot) guards) (declarations_nodes (in_block ds spot) ds None ds)
        (guards_nodes_right (in_block ds spot) guards (sub_left (guards_uses guards) (declarations_uses ds) whole s) narrow.0)
        (declarations_nodes_right (in_block ds spot) ds None ds ((sub_right (guards_uses guards) (declarations_uses ds) whole s), narrow.1)
        (sub_right (guards_uses guards) (declarations_uses ds) whole s) narrow.1)

    pub guards_nodes_right : (spot : Spot) (x : Guards) → Sub (guards_uses x) whole → NarrowGuards x → Every (SiteIsRight whole) (guards_nodes spot x)
    guards_nodes_right spot syntax.NoGuard s narrow = tt
    guards_nodes_right spot (syntax.MoreGuards at c e guards) s narrow =
        every_append (SiteIsRight whole) (nodes_on [] spot c) (nodes_on [] spot e ++ guards_nodes spot guards)
        (nodes_on_right [] spot c (sub_left (expression_uses c) (expression_uses e ++ guards_uses guards) whole s) narrow.0)
        (every_append (SiteIsRight whole) (nodes_on [] spot e) (guards_nodes spot guards)
        (nodes_on_right [] spot e
        (sub_left (expression_uses e) (guards_uses guards) whole
        (sub_right (expression_uses c) (expression_uses e ++ guards_uses guards) whole s)) narrow.1.0)
        (guards_nodes_right spot guards
        (sub_right (expression_uses e) (guards_uses guards) whole
        (sub_right (expression_uses c) (expression_uses e ++ guards_uses guards) whole s)) narrow.1.1))

    pub declarations_nodes_right : (spot : Spot) (block : Declarations) (begun : Option Begun) (ds : Declarations) → BlockIsRight whole block
        → Sub (declarations_uses ds) whole → NarrowDeclarations ds
        → Every (SiteIsRight whole) (declarations_nodes spot block begun ds)
    declarations_nodes_right spot block begun syntax.NoDeclaration right s narrow = tt
    declarations_nodes_right spot block begun (syntax.MoreDeclarations d ds) right s narrow =
        every_append (SiteIsRight whole) (declaration_nodes spot block begun ds d) (declarations_nodes spot block (begun_in begun d) ds)
        (declaration_nodes_right spot block begun ds d right (sub_left (declaration_uses d) (declarations_uses ds) whole s) narrow.0)
        (declarations_nodes_right spot block (begun_in begun d) ds right (sub_right (declaration_uses d) (declarations_uses ds) whole s) narrow.1)

    pub declaration_nodes_right : (spot : Spot) (block : Declarations) (begun : Option Begun) (others : Declarations) (d : Declaration)
        → BlockIsRight whole block → Sub (declaration_uses d) whole → NarrowDeclaration d
        → Every (SiteIsRight whole) (declaration_nodes spot block begun others d)
    declaration_nodes_right spot block begun others (syntax.FreeVariables at names) right s narrow = (tt, tt)
    declaration_nodes_right spot block begun others (syntax.Signature at names t) right s narrow = tt
    declaration_nodes_right spot block begun others (syntax.FunctionRule at name ps rs) right s narrow =
        let inner = in_function (begun_by begun name at).at (variables ps) spot in
        let r : Rule = record { at = at; name = name; parameters = ps; right = rs } in
        of_function (is_of_function begun name ps) (first_rule spot block begun others r ++ node inner (Matched ps) ∷ right_nodes inner rs)
        (node spot (Defined name rs) ∷ right_nodes spot rs)
        (every_append (SiteIsRight whole) (first_rule spot block begun others r) (node inner (Matched ps) ∷ right_nodes inner rs)
        (first_rule_right spot block begun others r right) (tt, right_nodes_right inner rs s narrow))
        (tt, right_nodes_right spot rs s narrow)
    declaration_nodes_right spot block begun others (syntax.PatternBinding at p rs) right s narrow = (tt, right_nodes_right spot rs s narrow)

    pub qualifiers_nodes_right : (spot : Spot) (element : Expression) (qs : Qualifiers) → Sub (qualifiers_uses qs) whole → NarrowQualifiers qs
        → Every (SiteIsRight whole) (qualifiers_nodes spot element qs)
    qualifiers_nodes_right spot element syntax.NoQualifier s narrow = tt
    qualifiers_nodes_right spot element (syntax.MoreQualifiers q qs) s narrow =
        every_append (SiteIsRight whole) (qualifier_nodes spot element qs q) (qualifiers_nodes (past q spot) element qs)
        (qualifier_nodes_right spot element qs q (sub_left (qualifier_uses q) (qualifiers_uses qs) whole s) narrow.0)
        (qualifiers_nodes_right (past q spot) element qs (sub_right (qualifier_uses q) (qualifiers_uses qs) whole s) narrow.1)

    pub qualifier_nodes_right : (spot : Spot) (element : Expression) (others : Qualifiers) (q : Qualifier) → Sub (qualifier_uses q) whole
        → NarrowQualifier q
        → Every (SiteIsRight whole) (qualifier_nodes spot element others q)
    qualifier_nodes_right spot element others (syntax.Generator at p e) s narrow = (tt, (tt, nodes_on_right [] spot e s narrow))
    qualifier_nodes_right spot element others (syntax.LocalDeclarations at ds) s narrow =
        declarations_nodes_right (in_block ds spot) ds None ds (s, narrow) s narrow
    qualifier_nodes_right spot element others (syntax.Condition at e) s narrow = nodes_on_right [] spot e s narrow

  pub rule_nodes_right : (r : Rule) → Sub (right_uses r.right) whole → NarrowRight r.right → Every (SiteIsRight whole) (rule_nodes r)
  rule_nodes_right r s narrow = (tt, right_nodes_right (with (variables r.parameters) (record { functions = []; scope = [] })) r.right s narrow)
