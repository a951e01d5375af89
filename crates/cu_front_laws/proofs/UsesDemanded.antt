-- The text of a module asks for each name of a type that it uses.
use Rattle.std.proofs.Common.{inl, inr, ℕ, List, [], ◌∷◌, ◌++◌, map}
use Rattle.std.specs.List.{flat_map}
use Rattle.cu_entities.specs.Entities.{Types, Values}
use Rattle.cu_syntax.specs.Syntax as syntax
use Rattle.cu_syntax.specs.Syntax.{Alternatives, ConstructorDeclaration, Declaration, Declarations, Expression, Expressions, Goal, Guards, Item, MaybeExpression, Name, OperatorRest, Qualifier, Qualifiers, RightSide, TypeTerm, TypeTerms}
use Rattle.cu_uses.specs.Binders.{all_type_constructors, all_type_variables, constructors, missing, pattern_constructors, pattern_variables, repeated, texts, type_constructors, variables}
use Rattle.cu_uses.specs.Demands.{Demand, Lacks, Repeats, Uses, all_demands, alternatives_demands, scope_after, block_demands, block_names, declaration_demands, declarations_demands, expression_demands, guards_demands, item_demands, maybe_demands, qualifier_demands, qualifier_names, qualifiers_demands, rest_demands, right_demands, type_demands, use_of, used, with}
use Rattle.cu_declared.specs.TypeUses.{TypeUse, alternatives_uses, constructor_uses, declaration_uses, declarations_uses, expression_uses, expressions_uses, guards_uses, item_uses, items_uses, maybe_uses, qualifier_uses, qualifiers_uses, rest_uses, right_uses, type_uses, types_uses}
use Rattle.cu_front_laws.proofs.Members.{Every, In, Sub, every_append, in_left, in_map, in_right, sub_left, sub_right}

-- what is asked for has the name of a use
abbrev pub Demanded : List Demand → TypeUse → Type 0
Demanded asked u = In (Uses Types u.name) asked

-- all of these names are asked for as types
abbrev Ask : List Demand → List Name → Type 0
Ask asked names = (x : Name) → In x names → In (Uses Types x) asked

asks_in : (ps : List Name) (ts : TypeTerms) (x : Name) → In x (all_type_constructors ts) → In (Uses Types x) (type_demands ps ts)
asks_in ps ts x h =
    in_left (Uses Types x) (used Types (all_type_constructors ts)) (map Lacks (missing (texts ps) (all_type_variables ts)))
    (in_map (Uses Types) x (all_type_constructors ts) h)

module _ (asked : List Demand) where
  ask_left : (xs ys : List Name) → Ask asked (xs ++ ys) → Ask asked xs
  ask_left xs ys ask x h = ask x (in_left x xs ys h)

  ask_right : (xs ys : List Name) → Ask asked (xs ++ ys) → Ask asked ys
  ask_right xs ys ask x h = ask x (in_right x xs ys h)

  mutual
    pub type_demanded : (t : TypeTerm) → Ask asked (type_constructors t) → Every (Demanded asked) (type_uses t)
    type_demanded (syntax.TypeVariable x) ask = tt
    type_demanded (syntax.TypeNamed name ts) ask = (ask name (inl (λ _. name)), all_types_demanded ts (λ x h. ask x (inr h)))
    type_demanded (syntax.Arrow at s t) ask =
        every_append (Demanded asked) (type_uses s) (type_uses t) (type_demanded s (ask_left (type_constructors s) (type_constructors t) ask))
        (type_demanded t (ask_right (type_constructors s) (type_constructors t) ask))
    type_demanded (syntax.TypeTuple at ts) ask = all_types_demanded ts ask
    type_demanded (syntax.TypeList at t) ask = type_demanded t ask

    pub all_types_demanded : (ts : TypeTerms) → Ask asked (all_type_constructors ts) → Every (Demanded asked) (types_uses ts)
    all_types_demanded syntax.NoType ask = tt
    all_types_demanded (syntax.MoreTypes t ts) ask =
        every_append (Demanded asked) (type_uses t) (types_uses ts) (type_demanded t (ask_left (type_constructors t) (all_type_constructors ts) ask))
        (all_types_demanded ts (ask_right (type_constructors t) (all_type_constructors ts) ask))

  asks_used : (names : List Name) → Sub (used Types names) asked → Ask asked names
  asks_used names within x h = within (Uses Types x) (in_map (Uses Types) x names h)

  mutual
    pub expression_demanded : (local : List (List ℕ)) (x : Expression) → Sub (expression_demands local x) asked
        → Every (Demanded asked) (expression_uses x)
    expression_demanded local (syntax.Variable at name) s = tt
    expression_demanded local (syntax.Constructor at name) s = tt
    expression_demanded local (syntax.LiteralExpression at found) s = tt
    expression_demanded local (syntax.Application at f es) s =
        every_append (Demanded asked) (expression_uses f) (expressions_uses es)
        (expression_demanded local f (sub_left (expression_demands local f) (all_demands local es) asked s))
        (all_demanded local es (sub_right (expression_demands local f) (all_demands local es) asked s))
    expression_demanded local (syntax.Operators at minus first rest) s =
        every_append (Demanded asked) (expression_uses first) (rest_uses rest)
        (expression_demanded local first (sub_left (expression_demands local first) (rest_demands local rest) asked s))
        (rest_demanded local rest (sub_right (expression_demands local first) (rest_demands local rest) asked s))
    expression_demanded local (syntax.Lambda at ps body) s =
        expression_demanded (with (variables ps) local) body
        (sub_right (used Values (constructors ps)) (expression_demands (with (variables ps) local) body) asked s)
    expression_demanded local (syntax.Let at ds body) s =
        every_append (Demanded asked) (declarations_uses ds) (expression_uses body)
        (declarations_demanded (with (block_names ds) local) ds
        (sub_left (declarations_demands (with (block_names ds) local) ds) (expression_demands (with (block_names ds) local) body) asked
        (sub_right (block_demands ds)
        (declarations_demands (with (block_names ds) local) ds ++ expression_demands (with (block_names ds) local) body) asked s)))
        (expression_demanded (with (block_names ds) local) body
        (sub_right (declarations_demands (with (block_names ds) local) ds) (expression_demands (with (block_names ds) local) body) asked
        (sub_right (block_demands ds)
        (declarations_demands (with (block_names ds) local) ds ++ expression_demands (with (block_names ds) local) body) asked s)))
    expression_demanded local (syntax.If at c e f) s =
        every_append (Demanded asked) (expression_uses c) (expression_uses e ++ expression_uses f)
        (expression_demanded local c (sub_left (expression_demands local c) (expression_demands local e ++ expression_demands local f) asked s))
        (every_append (Demanded asked) (expression_uses e) (expression_uses f)
        (expression_demanded local e
        (sub_left (expression_demands local e) (expression_demands local f) asked
        (sub_right (expression_demands local c) (expression_demands local e ++ expression_demands local f) asked s)))
        (expression_demanded local f
        (sub_right (expression_demands local e) (expression_demands local f) asked
        (sub_right (expression_demands local c) (expression_demands local e ++ expression_demands local f) asked s))))
    expression_demanded local (syntax.Case at word e alternatives) s =
        every_append (Demanded asked) (expression_uses e) (alternatives_uses alternatives)
        (expression_demanded local e (sub_left (expression_demands local e) (alternatives_demands local alternatives) asked s))
        (alternatives_demanded local alternatives (sub_right (expression_demands local e) (alternatives_demands local alternatives) asked s))
    expression_demanded local (syntax.Tuple at es) s =
        all_demanded local es s
    expression_demanded local (syntax.TupleConstructor at n) s = tt
    expression_demanded local (syntax.LeftSection at e operator) s =
        expression_demanded local e (sub_left (expression_demands local e) (use_of local operator) asked s)
    expression_demanded local (syntax.RightSection at operator e) s =
        expression_demanded local e (sub_right (use_of local operator) (expression_demands local e) asked s)
    expression_demanded local (syntax.ListOf at es) s =
        all_demanded local es s
    expression_demanded local (syntax.Enumeration at first second last) s =
        every_append (Demanded asked) (expression_uses first) (maybe_uses second ++ maybe_uses last)
        (expression_demanded local first
        (sub_left (expression_demands local first) (maybe_demands local second ++ maybe_demands local last) asked s))
        (every_append (Demanded asked) (maybe_uses second) (maybe_uses last)
        (maybe_demanded local second
        (sub_left (maybe_demands local second) (maybe_demands local last) asked
        (sub_right (expression_demands local first) (maybe_demands local second ++ maybe_demands local last) asked s)))
        (maybe_demanded local last
        (sub_right (maybe_demands local second) (maybe_demands local last) asked
        (sub_right (expression_demands local first) (maybe_demands local second ++ maybe_demands local last) asked s))))
    expression_demanded local (syntax.Comprehension at e qualifiers) s =
        every_append (Demanded asked) (expression_uses e) (qualifiers_uses qualifiers)
        (expression_demanded (scope_after local qualifiers) e
        (sub_right (qualifiers_demands local qualifiers) (expression_demands (scope_after local qualifiers) e) asked s))
        (qualifiers_demanded local qualifiers
        (sub_left (qualifiers_demands local qualifiers) (expression_demands (scope_after local qualifiers) e) asked s))

    pub all_demanded : (local : List (List ℕ)) (x : Expressions) → Sub (all_demands local x) asked → Every (Demanded asked) (expressions_uses x)
    all_demanded local syntax.NoExpression s = tt
    all_demanded local (syntax.MoreExpressions e es) s =
        every_append (Demanded asked) (expression_uses e) (expressions_uses es)
        (expression_demanded local e (sub_left (expression_demands local e) (all_demands local es) asked s))
        (all_demanded local es (sub_right (expression_demands local e) (all_demands local es) asked s))

    pub maybe_demanded : (local : List (List ℕ)) (x : MaybeExpression) → Sub (maybe_demands local x) asked → Every (Demanded asked) (maybe_uses x)
    maybe_demanded local syntax.Absent s = tt
    maybe_demanded local (syntax.Present e) s =
        expression_demanded local e s

    pub rest_demanded : (local : List (List ℕ)) (x : OperatorRest) → Sub (rest_demands local x) asked → Every (Demanded asked) (rest_uses x)
    rest_demanded local syntax.NoOperator s = tt
    rest_demanded local (syntax.ThenOperator operator minus e rest) s =
        every_append (Demanded asked) (expression_uses e) (rest_uses rest)
        (expression_demanded local e
        (sub_left (expression_demands local e) (rest_demands local rest) asked
        (sub_right (use_of local operator) (expression_demands local e ++ rest_demands local rest) asked s)))
        (rest_demanded local rest
        (sub_right (expression_demands local e) (rest_demands local rest) asked
        (sub_right (use_of local operator) (expression_demands local e ++ rest_demands local rest) asked s)))

    pub alternatives_demanded : (local : List (List ℕ)) (x : Alternatives) → Sub (alternatives_demands local x) asked
        → Every (Demanded asked) (alternatives_uses x)
    alternatives_demanded local syntax.NoAlternative s = tt
    alternatives_demanded local (syntax.MoreAlternatives at p right alternatives) s =
        every_append (Demanded asked) (right_uses right) (alternatives_uses alternatives)
        (right_demanded (with (pattern_variables p) local) right
        (sub_left (right_demands (with (pattern_variables p) local) right) (alternatives_demands local alternatives) asked
        (sub_right (used Values (pattern_constructors p))
        (right_demands (with (pattern_variables p) local) right ++ alternatives_demands local alternatives) asked s)))
        (alternatives_demanded local alternatives
        (sub_right (right_demands (with (pattern_variables p) local) right) (alternatives_demands local alternatives) asked
        (sub_right (used Values (pattern_constructors p))
        (right_demands (with (pattern_variables p) local) right ++ alternatives_demands local alternatives) asked s)))

    pub right_demanded : (local : List (List ℕ)) (x : RightSide) → Sub (right_demands local x) asked → Every (Demanded asked) (right_uses x)
    right_demanded local (syntax.Plain at e ds) s =
        every_append (Demanded asked) (expression_uses e) (declarations_uses ds)
        (expression_demanded (with (block_names ds) local) e
        (sub_left (expression_demands (with (block_names ds) local) e) (block_demands ds ++ declarations_demands (with (block_names ds) local) ds)
        asked s)) (declarations_demanded (with (block_names ds) local) ds
        (sub_right (block_demands ds) (declarations_demands (with (block_names ds) local) ds) asked
        (sub_right (expression_demands (with (block_names ds) local) e)
        (block_demands ds ++ declarations_demands (with (block_names ds) local) ds) asked s)))
    right_demanded local (syntax.Guarded at guards ds) s =
        every_append (Demanded asked) (guards_uses guards) (declarations_uses ds)
        (guards_demanded (with (block_names ds) local) guards
        (sub_left (guards_demands (with (block_names ds) local) guards)
        (block_demands ds ++ declarations_demands (with (block_names ds) local) ds) asked s))
        (declarations_demanded (with (block_names ds) local) ds
        (sub_right (block_demands ds) (declarations_demands (with (block_names ds) local) ds) asked
        (sub_right (guards_demands (with (block_names ds) local) guards)
        (block_demands ds ++ declarations_demands (with (block_names ds) local) ds) asked s)))

    pub guards_demanded : (local : List (List ℕ)) (x : Guards) → Sub (guards_demands local x) asked → Every (Demanded asked) (guards_uses x)
    guards_demanded local syntax.NoGuard s = tt
    guards_demanded local (syntax.MoreGuards at c e guards) s =
        every_append (Demanded asked) (expression_uses c) (expression_uses e ++ guards_uses guards)
        (expression_demanded local c (sub_left (expression_demands local c) (expression_demands local e ++ guards_demands local guards) asked s))
        (every_append (Demanded asked) (expression_uses e) (guards_uses guards)
        (expression_demanded local e
        (sub_left (expression_demands local e) (guards_demands local guards) asked
        (sub_right (expression_demands local c) (expression_demands local e ++ guards_demands local guards) asked s)))
        (guards_demanded local guards
        (sub_right (expression_demands local e) (guards_demands local guards) asked
        (sub_right (expression_demands local c) (expression_demands local e ++ guards_demands local guards) asked s))))

    pub declarations_demanded : (local : List (List ℕ)) (x : Declarations) → Sub (declarations_demands local x) asked
        → Every (Demanded asked) (declarations_uses x)
    declarations_demanded local syntax.NoDeclaration s = tt
    declarations_demanded local (syntax.MoreDeclarations d ds) s =
        every_append (Demanded asked) (declaration_uses d) (declarations_uses ds)
        (declaration_demanded local d (sub_left (declaration_demands local d) (declarations_demands local ds) asked s))
        (declarations_demanded local ds (sub_right (declaration_demands local d) (declarations_demands local ds) asked s))

    pub declaration_demanded : (local : List (List ℕ)) (x : Declaration) → Sub (declaration_demands local x) asked
        → Every (Demanded asked) (declaration_uses x)
    declaration_demanded local (syntax.FreeVariables at names) s = tt
    declaration_demanded local (syntax.Signature at names t) s = type_demanded t (asks_used (type_constructors t) s)
    declaration_demanded local (syntax.FunctionRule at name ps right) s =
        right_demanded (with (variables ps) local) right
        (sub_right (used Values (constructors ps)) (right_demands (with (variables ps) local) right) asked s)
    declaration_demanded local (syntax.PatternBinding at p right) s =
        right_demanded local right (sub_right (used Values (pattern_constructors p)) (right_demands local right) asked s)

    pub qualifiers_demanded : (local : List (List ℕ)) (x : Qualifiers) → Sub (qualifiers_demands local x) asked
        → Every (Demanded asked) (qualifiers_uses x)
    qualifiers_demanded local syntax.NoQualifier s = tt
    qualifiers_demanded local (syntax.MoreQualifiers q qualifiers) s =
        every_append (Demanded asked) (qualifier_uses q) (qualifiers_uses qualifiers)
        (qualifier_demanded local q
        (sub_left (qualifier_demands local q) (qualifiers_demands (with (qualifier_names q) local) qualifiers) asked s))
        (qualifiers_demanded (with (qualifier_names q) local) qualifiers
        (sub_right (qualifier_demands local q) (qualifiers_demands (with (qualifier_names q) local) qualifiers) asked s))

    pub qualifier_demanded : (local : List (List ℕ)) (x : Qualifier) → Sub (qualifier_demands local x) asked
        → Every (Demanded asked) (qualifier_uses x)
    qualifier_demanded local (syntax.Generator at p e) s =
        expression_demanded local e (sub_left (expression_demands local e) (used Values (pattern_constructors p)) asked s)
    qualifier_demanded local (syntax.LocalDeclarations at ds) s =
        declarations_demanded (with (block_names ds) local) ds
        (sub_right (block_demands ds) (declarations_demands (with (block_names ds) local) ds) asked s)
    qualifier_demanded local (syntax.Condition at e) s =
        expression_demanded local e s

  -- ---- items and goals

  constructors_demanded : (ps : List Name) (cs : List ConstructorDeclaration)
      → Sub (flat_map (λ (c : ConstructorDeclaration). type_demands ps c.fields) cs) asked
      → Every (Demanded asked) (flat_map constructor_uses cs)
  constructors_demanded ps [] s = tt
  constructors_demanded ps (c ∷ cs) s =
      let others = flat_map (λ (c : ConstructorDeclaration). type_demands ps c.fields) cs in
      every_append (Demanded asked) (types_uses c.fields) (flat_map constructor_uses cs)
      (all_types_demanded c.fields (λ x h. s (Uses Types x) (in_left (Uses Types x) (type_demands ps c.fields) others (asks_in ps c.fields x h))))
      (constructors_demanded ps cs (sub_right (type_demands ps c.fields) others asked s))

  pub item_demanded : (i : Item) → Sub (item_demands i) asked → Every (Demanded asked) (item_uses i)
  item_demanded (syntax.ImportItem found) s = tt
  item_demanded (syntax.Fixity at to level operators) s = tt
  item_demanded (syntax.Data at name ps cs) s =
      constructors_demanded ps cs
      (λ d h. s d (in_right d (map Repeats (repeated [] ps)) (flat_map (λ (c : ConstructorDeclaration). type_demands ps c.fields) cs) h))
  item_demanded (syntax.Synonym at name ps t) s =
      type_demanded t
      (λ x h. s (Uses Types x)
      (in_right (Uses Types x) (map Repeats (repeated [] ps)) (type_demands ps (syntax.MoreTypes t syntax.NoType))
      (asks_in ps (syntax.MoreTypes t syntax.NoType) x (in_left x (type_constructors t) [] h))))
  item_demanded (syntax.DeclarationItem d) s = declaration_demanded [] d s

  pub items_demanded : (items : List Item) → Sub (flat_map item_demands items) asked → Every (Demanded asked) (items_uses items)
  items_demanded [] s = tt
  items_demanded (i ∷ items) s =
      every_append (Demanded asked) (item_uses i) (items_uses items)
      (item_demanded i (sub_left (item_demands i) (flat_map item_demands items) asked s))
      (items_demanded items (sub_right (item_demands i) (flat_map item_demands items) asked s))
