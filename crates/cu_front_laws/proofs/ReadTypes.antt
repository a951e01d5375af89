-- What is read from trees of the grammar has only tuple types that there are.
use Rattle.std.specs.Prelude.{◌≡◌, ◌<◌, ◌+◌, ℕ, zero, suc, true, [], ◌∷◌, Option, None, Some, refl, unwrap_or}
use Rattle.std.proofs.Common.{ap, arith, subst, sym}
use Rattle.cu_lex.specs.Located.{Position}
use Rattle.cu_lex.specs.Tokens.{Lexeme}
use Rattle.cu_peg.specs.Parse.{Leaf, Parts, Chosen, NoTree, MoreTrees}
use Rattle.cu_syntax.specs.declared.symbol.Symbol.{Symbol}
use Rattle.cu_syntax.specs.declared.symbol.Symbol.TheVariants as symbol
use Rattle.cu_syntax.specs.Reading.{LeftSide, OfFunction, OfPattern, Tree, Trees, alternatives_of, applied, argument_types, arrows, atoms_of, block_of, constructor_as, constructor_declaration, constructors_of, count, declaration_as, declarations_of, each, each_in, expression_as, expression_choice, expression_of, expression_parts, expressions_of, goal_of, guards_of, item_as, item_of, maybe_expression, operator_rest, operators, optional, qualifier_as, qualifiers_of, right_as, right_side, rule_of, tuple, type_as, type_choice, type_of, type_tuple, types_of, where_block}
use Rattle.cu_syntax.specs.Syntax as syntax
use Rattle.cu_syntax.specs.Syntax.{ConstructorDeclaration, Declarations, Expression, Expressions, OperatorRest, RightSide, TypeTerms}
use Rattle.cu_syntax.specs.Table.{AtLeastOne, Many, SeparatedBy, Sequence, alternative}
use Rattle.cu_translation.specs.TypeTable.{type_count}
use Rattle.cu_front_laws.proofs.GrammarTrees.{Good, GoodParts}
use Rattle.cu_front_laws.proofs.Members.{Every}
use Rattle.cu_front_laws.proofs.NarrowTexts.{NarrowAlternatives, NarrowDeclaration, NarrowDeclarations, NarrowExpression, NarrowExpressions, NarrowGuards, NarrowItem, NarrowMaybe, NarrowQualifier, NarrowQualifiers, NarrowRest, NarrowRight, NarrowType, NarrowTypes, is_size}

-- ---- what is put together

sized : (n : ℕ) → n + 1 + 1 < 16 → is_size (n + 1 + 1) ≡ true
sized zero h = refl
sized (suc zero) h = refl
sized (suc (suc zero)) h = refl
sized (suc (suc (suc zero))) h = refl
sized (suc (suc (suc (suc zero)))) h = refl
sized (suc (suc (suc (suc (suc zero))))) h = refl
sized (suc (suc (suc (suc (suc (suc zero)))))) h = refl
sized (suc (suc (suc (suc (suc (suc (suc zero))))))) h = refl
sized (suc (suc (suc (suc (suc (suc (suc (suc zero)))))))) h = refl
sized (suc (suc (suc (suc (suc (suc (suc (suc (suc zero))))))))) h = refl
sized (suc (suc (suc (suc (suc (suc (suc (suc (suc (suc zero)))))))))) h = refl
sized (suc (suc (suc (suc (suc (suc (suc (suc (suc (suc (suc zero))))))))))) h = refl
sized (suc (suc (suc (suc (suc (suc (suc (suc (suc (suc (suc (suc zero)))))))))))) h = refl
sized (suc (suc (suc (suc (suc (suc (suc (suc (suc (suc (suc (suc (suc zero))))))))))))) h = refl
sized (suc (suc (suc (suc (suc (suc (suc (suc (suc (suc (suc (suc (suc (suc n)))))))))))))) h = absurd (omega arith)

narrow_tuple : (at : Position) (ts : TypeTerms) → type_count ts < 16 → NarrowTypes ts → NarrowType (type_tuple at ts)
narrow_tuple at syntax.NoType few narrow = (refl, tt)
narrow_tuple at (syntax.MoreTypes t syntax.NoType) few narrow = narrow.0
narrow_tuple at (syntax.MoreTypes t (syntax.MoreTypes u ts)) few narrow = (sized (type_count ts) few, narrow)

narrow_operators : (at : Position) (minus : Option Position) (e : Expression) (rest : OperatorRest) → NarrowExpression e → NarrowRest rest
    → NarrowExpression (operators at minus e rest)
narrow_operators at None e syntax.NoOperator one more = one
narrow_operators at None e (syntax.ThenOperator operator m operand rest) one more = (one, more)
narrow_operators at (Some m) e syntax.NoOperator one more = (one, more)
narrow_operators at (Some m) e (syntax.ThenOperator operator n operand rest) one more = (one, more)

narrow_applied : (at : Position) (e : Expression) (es : Expressions) → NarrowExpression e → NarrowExpressions es → NarrowExpression (applied at e es)
narrow_applied at e syntax.NoExpression one more = one
narrow_applied at e (syntax.MoreExpressions f es) one more = (one, more)

narrow_components : (at : Position) (es : Expressions) → NarrowExpressions es → NarrowExpression (tuple at es)
narrow_components at syntax.NoExpression narrow = tt
narrow_components at (syntax.MoreExpressions e syntax.NoExpression) narrow = narrow.0
narrow_components at (syntax.MoreExpressions e (syntax.MoreExpressions f es)) narrow = narrow

narrow_rule : (at : Position) (left : LeftSide) (right : RightSide) → NarrowRight right → NarrowDeclaration (rule_of at left right)
narrow_rule at (OfFunction f ps) right narrow = narrow
narrow_rule at (OfPattern (syntax.PatternVariable x)) right narrow = narrow
narrow_rule at (OfPattern p) right narrow = narrow

count_types : (trees : Trees) → type_count (types_of trees) ≡ count trees
count_types NoTree = refl
count_types (MoreTrees tree trees) = ap (λ n. n + 1) (count_types trees)

module _ (Ok : Lexeme → Type 0) where
  some_many : (p : Symbol) (trees : Trees) → GoodParts Ok (AtLeastOne p) trees → GoodParts Ok (Many p) trees
  some_many p NoTree good = tt
  some_many p (MoreTrees tree trees) good = good

  apart_many : (p s : Symbol) (trees : Trees) → GoodParts Ok (SeparatedBy p s) trees → GoodParts Ok (Many p) trees
  apart_many p s NoTree good = tt
  apart_many p s (MoreTrees tree trees) good = good

  -- ---- types

  mutual
    pub narrow_type : (tree : Tree) → Good Ok symbol.TypeExp tree → NarrowType (type_of tree)
    narrow_type (Parts trees) good = narrow_arrows trees (apart_many symbol.BType symbol.RightArrow trees good.0)
    narrow_type (Leaf x) good = (refl, tt)
    narrow_type (Chosen n tree) good = (refl, tt)

    narrow_arrows : (trees : Trees) → GoodParts Ok (Many symbol.BType) trees → NarrowType (arrows trees)
    narrow_arrows NoTree good = (refl, tt)
    narrow_arrows (MoreTrees tree NoTree) good = narrow_type_choice symbol.BType tree good.0
    narrow_arrows (MoreTrees tree (MoreTrees next trees)) good =
        (narrow_type_choice symbol.BType tree good.0, narrow_arrows (MoreTrees next trees) good.1)

    pub narrow_type_choice : (s : Symbol) (tree : Tree) → Good Ok s tree → NarrowType (type_choice s tree)
    narrow_type_choice s (Chosen n tree) good = narrow_type_as (alternative s n) tree good
    narrow_type_choice s (Parts trees) good = (refl, tt)
    narrow_type_choice s (Leaf x) good = (refl, tt)

    narrow_type_as : (s : Symbol) (tree : Tree) → Good Ok s tree → NarrowType (type_as s tree)
    narrow_type_as symbol.TypeApplication (Parts (MoreTrees name (MoreTrees (Parts arguments) NoTree))) good =
        narrow_arguments arguments (some_many symbol.AType arguments good.0.1.0.0)
    narrow_type_as symbol.AType (Chosen n tree) good = narrow_type_as (alternative symbol.AType n) tree good
    narrow_type_as symbol.QConId tree good = tt
    narrow_type_as symbol.VarId tree good = tt
    narrow_type_as symbol.Unit tree good = (refl, tt)
    narrow_type_as symbol.TupleType (Parts (MoreTrees opening (MoreTrees limit (MoreTrees (Parts components) (MoreTrees closing NoTree))))) good =
        narrow_tuple _ (types_of components) (subst (λ (n : ℕ). n < 16) (sym (count_types components)) good.1)
        (narrow_types components (apart_many symbol.TypeExp symbol.Comma components good.0.1.1.0.0))
    narrow_type_as symbol.ListType (Parts (MoreTrees opening (MoreTrees element (MoreTrees closing NoTree)))) good = narrow_type element good.0.1.0
    narrow_type_as s tree good = (refl, tt)

    pub narrow_arguments : (trees : Trees) → GoodParts Ok (Many symbol.AType) trees → NarrowTypes (argument_types trees)
    narrow_arguments NoTree good = tt
    narrow_arguments (MoreTrees tree trees) good = (narrow_type_choice symbol.AType tree good.0, narrow_arguments trees good.1)

    narrow_types : (trees : Trees) → GoodParts Ok (Many symbol.TypeExp) trees → NarrowTypes (types_of trees)
    narrow_types NoTree good = tt
    narrow_types (MoreTrees tree trees) good = (narrow_type tree good.0, narrow_types trees good.1)

  -- ---- expressions and declarations

  mutual
    pub narrow_expression : (tree : Tree) → Good Ok symbol.Exp tree → NarrowExpression (expression_of tree)
    narrow_expression (Parts trees) good = narrow_parts trees good.0
    narrow_expression (Leaf x) good = tt
    narrow_expression (Chosen n tree) good = tt

    narrow_parts : (trees : Trees) → GoodParts Ok (Sequence (symbol.OptionalMinus ∷ symbol.Operand ∷ symbol.FurtherOperands ∷ [])) trees
        → NarrowExpression (expression_parts trees)
    narrow_parts (MoreTrees minus (MoreTrees first (MoreTrees (Parts further) NoTree))) good =
        narrow_operators _ _ (expression_choice symbol.Operand first) (operator_rest further) (narrow_choice symbol.Operand first good.1.0)
        (narrow_rest further good.1.1.0.0)
    narrow_parts trees good = tt

    narrow_rest : (trees : Trees) → GoodParts Ok (Many symbol.FurtherOperand) trees → NarrowRest (operator_rest trees)
    narrow_rest (MoreTrees (Parts (MoreTrees operator (MoreTrees minus (MoreTrees operand NoTree)))) trees) good =
        (narrow_choice symbol.Operand operand good.0.0.1.1.0, narrow_rest trees good.1)
    narrow_rest trees good = tt

    narrow_choice : (s : Symbol) (tree : Tree) → Good Ok s tree → NarrowExpression (expression_choice s tree)
    narrow_choice s (Chosen n tree) good = narrow_as (alternative s n) tree good
    narrow_choice s (Parts trees) good = tt
    narrow_choice s (Leaf x) good = tt

    narrow_as : (s : Symbol) (tree : Tree) → Good Ok s tree → NarrowExpression (expression_as s tree)
    narrow_as symbol.Lambda (Parts (MoreTrees backslash (MoreTrees parameters (MoreTrees arrow (MoreTrees body NoTree))))) good =
        narrow_expression body good.0.1.1.1.0
    narrow_as symbol.LetExp (Parts (MoreTrees word (MoreTrees block (MoreTrees in_word (MoreTrees body NoTree))))) good =
        (narrow_block block good.0.1.0, narrow_expression body good.0.1.1.1.0)
    narrow_as symbol.IfExp
        (Parts (MoreTrees word (MoreTrees condition (MoreTrees then_word (MoreTrees chosen (MoreTrees else_word (MoreTrees other NoTree))))))) good =
        (narrow_expression condition good.0.1.0, (narrow_expression chosen good.0.1.1.1.0, narrow_expression other good.0.1.1.1.1.1.0))
    narrow_as symbol.CaseExp
        (Parts (MoreTrees word
        (MoreTrees subject (MoreTrees of_word (MoreTrees opening (MoreTrees (Parts alternatives) (MoreTrees closing NoTree))))))) good = (
          narrow_expression subject good.0.1.0,
          narrow_alternatives alternatives
              (apart_many symbol.OptionalAlt symbol.Semicolon alternatives good.0.1.1.1.1.0.0),
        )
    narrow_as symbol.Application (Parts (MoreTrees function arguments)) good =
        narrow_applied _ (expression_choice symbol.Atom function) (atoms_of arguments) (narrow_choice symbol.Atom function good.0.0)
        (narrow_atoms arguments good.0.1)
    narrow_as symbol.Literal tree good = tt
    narrow_as symbol.QVar tree good = tt
    narrow_as symbol.QCon tree good = tt
    narrow_as symbol.Unit tree good = tt
    narrow_as symbol.TupleCon (Parts (MoreTrees opening (MoreTrees limit (MoreTrees commas (MoreTrees closing NoTree))))) good = tt
    narrow_as symbol.RightSection (Parts (MoreTrees opening (MoreTrees no_minus (MoreTrees operator (MoreTrees operand (MoreTrees closing NoTree))))))
        good = narrow_expression operand good.0.1.1.1.0
    narrow_as symbol.LeftSection (Parts (MoreTrees opening (MoreTrees operand (MoreTrees operator (MoreTrees closing NoTree))))) good =
        narrow_expression operand good.0.1.0
    narrow_as symbol.Tuple (Parts (MoreTrees opening (MoreTrees limit (MoreTrees (Parts components) (MoreTrees closing NoTree))))) good =
        narrow_components _ (expressions_of components) (narrow_expressions components (apart_many symbol.Exp symbol.Comma components good.0.1.1.0.0))
    narrow_as symbol.EmptyList tree good = tt
    narrow_as symbol.FromThen
        (Parts (MoreTrees opening
        (MoreTrees first (MoreTrees comma (MoreTrees second (MoreTrees dots (MoreTrees last (MoreTrees closing NoTree)))))))) good =
        (narrow_expression first good.0.1.0, (narrow_expression second good.0.1.1.1.0, narrow_maybe last good.0.1.1.1.1.1.0))
    narrow_as symbol.From (Parts (MoreTrees opening (MoreTrees first (MoreTrees dots (MoreTrees last (MoreTrees closing NoTree)))))) good =
        (narrow_expression first good.0.1.0, (tt, narrow_maybe last good.0.1.1.1.0))
    narrow_as symbol.Comprehension
        (Parts (MoreTrees opening (MoreTrees element (MoreTrees bar (MoreTrees (Parts qualifiers) (MoreTrees closing NoTree)))))) good =
        (narrow_expression element good.0.1.0, narrow_qualifiers qualifiers (apart_many symbol.Qual symbol.Comma qualifiers good.0.1.1.1.0.0))
    narrow_as symbol.ListExp (Parts (MoreTrees opening (MoreTrees (Parts elements) (MoreTrees closing NoTree)))) good =
        narrow_expressions elements (apart_many symbol.Exp symbol.Comma elements good.0.1.0.0)
    narrow_as s tree good = tt

    narrow_maybe : (tree : Tree) → Good Ok symbol.OptionalExp tree → NarrowMaybe (maybe_expression tree)
    narrow_maybe (Parts (MoreTrees tree NoTree)) good = narrow_expression tree good.0.0
    narrow_maybe tree good = tt

    narrow_atoms : (trees : Trees) → GoodParts Ok (Many symbol.Atom) trees → NarrowExpressions (atoms_of trees)
    narrow_atoms NoTree good = tt
    narrow_atoms (MoreTrees tree trees) good = (narrow_choice symbol.Atom tree good.0, narrow_atoms trees good.1)

    narrow_expressions : (trees : Trees) → GoodParts Ok (Many symbol.Exp) trees → NarrowExpressions (expressions_of trees)
    narrow_expressions NoTree good = tt
    narrow_expressions (MoreTrees tree trees) good = (narrow_expression tree good.0, narrow_expressions trees good.1)

    narrow_alternatives : (trees : Trees) → GoodParts Ok (Many symbol.OptionalAlt) trees → NarrowAlternatives (alternatives_of trees)
    narrow_alternatives (MoreTrees (Parts (MoreTrees (Parts (MoreTrees pattern (MoreTrees body (MoreTrees local NoTree)))) NoTree)) trees) good = (
      narrow_side symbol.AltBody body (where_block local) good.0.0.0.0.1.0 (narrow_where local good.0.0.0.0.1.1.0),
      narrow_alternatives trees
          good.1,
    )
    narrow_alternatives (MoreTrees tree trees) good = narrow_alternatives trees good.1
    narrow_alternatives NoTree good = tt

    narrow_side : (s : Symbol) (tree : Tree) (local : Declarations) → Good Ok s tree → NarrowDeclarations local
        → NarrowRight (right_side s tree local)
    narrow_side s (Chosen n tree) local good narrow = narrow_right_as (alternative s n) tree local good narrow
    narrow_side s (Parts trees) local good narrow = (tt, narrow)
    narrow_side s (Leaf x) local good narrow = (tt, narrow)

    narrow_right_as : (s : Symbol) (tree : Tree) (local : Declarations) → Good Ok s tree → NarrowDeclarations local
        → NarrowRight (right_as s tree local)
    narrow_right_as symbol.PlainRhs (Parts (MoreTrees equals (MoreTrees body NoTree))) local good narrow = (narrow_expression body good.0.1.0, narrow)
    narrow_right_as symbol.GuardedRhs (Parts guards) local good narrow = (narrow_guards guards (some_many symbol.GuardedExp guards good.0), narrow)
    narrow_right_as symbol.PlainAlt (Parts (MoreTrees arrow (MoreTrees body NoTree))) local good narrow = (narrow_expression body good.0.1.0, narrow)
    narrow_right_as symbol.GuardedAlts (Parts guards) local good narrow = (narrow_guarded guards (some_many symbol.GuardedAlt guards good.0), narrow)
    narrow_right_as s tree local good narrow = (tt, narrow)

    narrow_guards : (trees : Trees) → GoodParts Ok (Many symbol.GuardedExp) trees → NarrowGuards (guards_of trees)
    narrow_guards (MoreTrees (Parts (MoreTrees bar (MoreTrees condition (MoreTrees sign (MoreTrees body NoTree))))) trees) good =
        (narrow_expression condition good.0.0.1.0, (narrow_expression body good.0.0.1.1.1.0, narrow_guards trees good.1))
    narrow_guards trees good = tt

    narrow_guarded : (trees : Trees) → GoodParts Ok (Many symbol.GuardedAlt) trees → NarrowGuards (guards_of trees)
    narrow_guarded (MoreTrees (Parts (MoreTrees bar (MoreTrees condition (MoreTrees sign (MoreTrees body NoTree))))) trees) good =
        (narrow_expression condition good.0.0.1.0, (narrow_expression body good.0.0.1.1.1.0, narrow_guarded trees good.1))
    narrow_guarded trees good = tt

    narrow_where : (tree : Tree) → Good Ok symbol.OptionalWhere tree → NarrowDeclarations (where_block tree)
    narrow_where (Parts (MoreTrees (Parts (MoreTrees word (MoreTrees block NoTree))) NoTree)) good = narrow_block block good.0.0.0.1.0
    narrow_where tree good = tt

    narrow_block : (tree : Tree) → Good Ok symbol.Block tree → NarrowDeclarations (block_of tree)
    narrow_block (Parts (MoreTrees opening (MoreTrees (Parts declarations) (MoreTrees closing NoTree)))) good =
        narrow_declarations declarations (apart_many symbol.OptionalDecl symbol.Semicolon declarations good.0.1.0.0)
    narrow_block tree good = tt

    narrow_declarations : (trees : Trees) → GoodParts Ok (Many symbol.OptionalDecl) trees → NarrowDeclarations (declarations_of trees)
    narrow_declarations (MoreTrees (Parts (MoreTrees (Chosen n tree) NoTree)) trees) good =
        (narrow_declaration (alternative symbol.Decl n) tree good.0.0.0, narrow_declarations trees good.1)
    narrow_declarations (MoreTrees tree trees) good = narrow_declarations trees good.1
    narrow_declarations NoTree good = tt

    pub narrow_declaration : (s : Symbol) (tree : Tree) → Good Ok s tree → NarrowDeclaration (declaration_as s tree)
    narrow_declaration symbol.FreeDecl (Parts (MoreTrees names (MoreTrees word NoTree))) good = tt
    narrow_declaration symbol.Signature (Parts (MoreTrees names (MoreTrees colons (MoreTrees term NoTree)))) good = narrow_type term good.0.1.1.0
    narrow_declaration symbol.Rule (Parts (MoreTrees left (MoreTrees (Parts (MoreTrees body (MoreTrees local NoTree))) NoTree))) good =
        narrow_rule _ _ (right_side symbol.RhsBody body (where_block local))
        (narrow_side symbol.RhsBody body (where_block local) good.0.1.0.0.0 (narrow_where local good.0.1.0.0.1.0))
    narrow_declaration symbol.TopRule (Parts (MoreTrees left (MoreTrees (Parts (MoreTrees body (MoreTrees local NoTree))) NoTree))) good =
        narrow_rule _ _ (right_side symbol.RhsBody body (where_block local))
        (narrow_side symbol.RhsBody body (where_block local) good.0.1.0.0.0 (narrow_where local good.0.1.0.0.1.0))
    narrow_declaration s tree good = tt

    narrow_qualifiers : (trees : Trees) → GoodParts Ok (Many symbol.Qual) trees → NarrowQualifiers (qualifiers_of trees)
    narrow_qualifiers NoTree good = tt
    narrow_qualifiers (MoreTrees (Chosen n tree) trees) good =
        (narrow_qualifier (alternative symbol.Qual n) tree good.0, narrow_qualifiers trees good.1)
    narrow_qualifiers (MoreTrees (Parts t) trees) good = narrow_qualifiers trees good.1
    narrow_qualifiers (MoreTrees (Leaf x) trees) good = narrow_qualifiers trees good.1

    narrow_qualifier : (s : Symbol) (tree : Tree) → Good Ok s tree → NarrowQualifier (qualifier_as s tree)
    narrow_qualifier symbol.Generator (Parts (MoreTrees pattern (MoreTrees arrow (MoreTrees list NoTree)))) good = narrow_expression list good.0.1.1.0
    narrow_qualifier symbol.LetQual (Parts (MoreTrees word (MoreTrees block (MoreTrees no_in NoTree)))) good = narrow_block block good.0.1.0
    narrow_qualifier symbol.Exp (Parts trees) good = narrow_parts trees good.0
    narrow_qualifier s tree good = tt

  -- ---- items and goals

  abbrev Fields : ConstructorDeclaration → Type 0
  Fields c = NarrowTypes c.fields

  narrow_constructor : (s : Symbol) (tree : Tree) → Good Ok s tree → Fields (constructor_as s tree)
  narrow_constructor symbol.InfixConDecl (Parts (MoreTrees left (MoreTrees operator (MoreTrees right NoTree)))) good =
      (narrow_type_choice symbol.BType left good.0.0, (narrow_type_choice symbol.BType right good.0.1.1.0, tt))
  narrow_constructor symbol.PrefixConDecl (Parts (MoreTrees name (MoreTrees (Parts fields) NoTree))) good = narrow_arguments fields good.0.1.0.0
  narrow_constructor s tree good = tt

  narrow_constructor_declaration : (tree : Tree) → Good Ok symbol.ConDecl tree → Fields (constructor_declaration tree)
  narrow_constructor_declaration (Chosen n tree) good = narrow_constructor (alternative symbol.ConDecl n) tree good
  narrow_constructor_declaration (Parts trees) good = tt
  narrow_constructor_declaration (Leaf x) good = tt

  narrow_each : (trees : Trees) → GoodParts Ok (Many symbol.ConDecl) trees → Every Fields (each constructor_declaration trees)
  narrow_each NoTree good = tt
  narrow_each (MoreTrees tree trees) good = (narrow_constructor_declaration tree good.0, narrow_each trees good.1)

  narrow_list : (tree : Tree) → Good Ok symbol.ConDeclList tree → Every Fields (each_in constructor_declaration tree)
  narrow_list (Parts trees) good = narrow_each trees (apart_many symbol.ConDecl symbol.Bar trees good.0)
  narrow_list (Leaf x) good = tt
  narrow_list (Chosen n tree) good = tt

  narrow_constructors : (tree : Tree) → Good Ok symbol.ConDecls tree → Every Fields (constructors_of tree)
  narrow_constructors (Parts (MoreTrees equals (MoreTrees list NoTree))) good = narrow_list list good.0.1.0
  narrow_constructors tree good = tt

  narrow_optional : (tree : Tree) → Good Ok symbol.OptionalConDecls tree → Every Fields (unwrap_or (optional constructors_of tree) [])
  narrow_optional (Parts (MoreTrees tree NoTree)) good = narrow_constructors tree good.0.0
  narrow_optional tree good = tt

  narrow_item_as : (s : Symbol) (tree : Tree) → Good Ok s tree → NarrowItem (item_as s tree)
  narrow_item_as symbol.FixityDecl (Parts (MoreTrees word (MoreTrees level (MoreTrees names NoTree)))) good = tt
  narrow_item_as symbol.DataDecl (Parts (MoreTrees word (MoreTrees name (MoreTrees parameters (MoreTrees constructors NoTree))))) good =
      narrow_optional constructors good.0.1.1.1.0
  narrow_item_as symbol.SynonymDecl (Parts (MoreTrees word (MoreTrees name (MoreTrees parameters (MoreTrees equals (MoreTrees term NoTree)))))) good =
      narrow_type term good.0.1.1.1.1.0
  narrow_item_as s tree good = narrow_declaration s tree good

  pub narrow_item : (tree : Tree) → Good Ok symbol.Item tree → NarrowItem (item_of tree)
  narrow_item (Chosen n tree) good = narrow_item_as (alternative symbol.Item n) tree good
  narrow_item (Parts trees) good = tt
  narrow_item (Leaf x) good = tt

  pub narrow_goal : (tree : Tree) → Good Ok symbol.Goal tree → NarrowExpression (goal_of tree).expression
  narrow_goal (Parts (MoreTrees expression (MoreTrees variables NoTree))) good = narrow_expression expression good.0.0
  narrow_goal tree good = tt
