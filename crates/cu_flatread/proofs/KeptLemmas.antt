-- Laws on tables of names that grow: what a table has, a longer one has too, with the same texts.
use Rattle.std.proofs.Common.{◌≡◌, ℕ, Bool, true, false, List, [], ◌∷◌, ◌++◌, All, if◌then◌else◌, map, slice_index_or, refl, sym, ap, subst, ◌∙◌, arith, append_assoc, append-nil}
use Rattle.std.specs.List.{list_any}
use Rattle.std.specs.Str.{bytes_eq}
use Rattle.std.proofs.lemmas.List.{get_or_append_left, length-append}
use Rattle.std.proofs.lemmas.List.Elements.{recursion_from_All}
use Rattle.std.specs.List.{AllByRecursion}
use Rattle.cu_names.specs.Texts.{Extends, IsKnown, interned, text_of}
use Rattle.cu_names.specs.declared.names.NameId.{NameId}
use Rattle.cu_flatread.specs.Meaning.{HasConstructor, HasDeclaration, HasFunction, HasOperator, HasRightSide, HasRule, constructor_of, declaration_of, function_of, operator_of, right_side_of, rule_of, HasBranches, HasEntity, HasExpression, HasExpressions, HasPattern, HasType, HasTypes, branches_of, entity_of, expression_of, expressions_of, pattern_of, type_of, types_of}
use Rattle.cu_flatread.specs.Modules as m
use Rattle.cu_flatread.specs.Modules.{Constructor, Declaration, Function, FunctionRule, Operator, RightSide, Branches, Expression, Expressions, Pattern, TypeExpression, TypeExpressions}
use Rattle.cu_flatread.specs.Notation.{Entity}
use Rattle.cu_flatread.specs.declared.cells.FlatEntity.{FlatEntity}
use Rattle.cu_flatread.specs.declared.declarations.FlatConstructor.{FlatConstructor}
use Rattle.cu_flatread.specs.declared.declarations.FlatDeclaration.{FlatDeclaration}
use Rattle.cu_flatread.specs.declared.declarations.FlatFunction.{FlatFunction}
use Rattle.cu_flatread.specs.declared.declarations.FlatOperator.{FlatOperator}
use Rattle.cu_flatread.specs.declared.declarations.FlatRightSide.{FlatRightSide}
use Rattle.cu_flatread.specs.declared.declarations.FlatRightSide.TheVariants as declared
use Rattle.cu_flatread.specs.declared.declarations.FlatRule.{FlatRule}
use Rattle.cu_flatread.specs.declared.declarations.FlatRule.TheVariants as rule
use Rattle.cu_kernel.specs.declared.declarations.Side.{Side}

pub extends_same : (names : List (List ℕ)) → Extends names names
extends_same names = record { more = []; appended = sym (append-nil names) }

pub extends_again : (a b c : List (List ℕ)) → Extends a b → Extends b c → Extends a c
extends_again a b c first second = record {
  more = first.more ++ second.more;
  appended =
      second.appended ∙ ap (λ x. x ++ second.more) first.appended
      ∙ append_assoc a first.more second.more;
}

extends_if : (t : Bool) (names : List (List ℕ)) (text : List ℕ)
    → Extends names (if t then names else names ++ text ∷ [])
extends_if true names text = extends_same names
extends_if false names text = record { more = text ∷ []; appended = refl }

pub extends_interned : (names after : List (List ℕ)) (text : List ℕ)
    → after ≡ interned names text → Extends names after
extends_interned names after text is =
    subst (Extends names) (sym is) (extends_if (list_any (bytes_eq text) names) names text)

pub known_kept : (old new : List (List ℕ)) (id : NameId) → Extends old new → IsKnown old id
    → IsKnown new id
known_kept old new id more known =
    subst (λ (table : List (List ℕ)). IsKnown table id) (sym more.appended)
    (omega (arith, known, length-append old more.more))

pub text_kept : (old new : List (List ℕ)) (id : NameId) → Extends old new → IsKnown old id
    → text_of new id ≡ text_of old id
text_kept old new id more known =
    ap (λ (table : List (List ℕ)). text_of table id) more.appended
    ∙ get_or_append_left old more.more [] id.0 known

pub entity_has : (old new : List (List ℕ)) (e : FlatEntity) → Extends old new → HasEntity old e
    → HasEntity new e
entity_has old new e more has =
    (known_kept old new e.owner more has.0, known_kept old new e.name more has.1)

make_entity : List ℕ → List ℕ → Entity
make_entity owner name = record { owner = owner; name = name }

pub entity_kept : (old new : List (List ℕ)) (e : FlatEntity) → Extends old new → HasEntity old e
    → entity_of new e ≡ entity_of old e
unfolding make_entity
entity_kept old new e more has =
    (λ i. make_entity (text_kept old new e.owner more has.0 i) (text_kept old new e.name more has.1 i))

mutual
  pub type_has : (old new : List (List ℕ)) (t : TypeExpression FlatEntity) → Extends old new
      → HasType old t → HasType new t
  type_has old new (m.Variable x) more has = has
  type_has old new (m.Arrow a b) more has =
      (type_has old new a more has.0, type_has old new b more has.1)
  type_has old new (m.Named e ts) more has =
      (entity_has old new e more has.0, types_has old new ts more has.1)

  pub types_has : (old new : List (List ℕ)) (ts : TypeExpressions FlatEntity) → Extends old new
      → HasTypes old ts → HasTypes new ts
  types_has old new m.NoType more has = has
  types_has old new (m.MoreTypes t ts) more has =
      (type_has old new t more has.0, types_has old new ts more has.1)

mutual
  pub type_kept : (old new : List (List ℕ)) (t : TypeExpression FlatEntity) → Extends old new
      → HasType old t → type_of new t ≡ type_of old t
  type_kept old new (m.Variable x) more has = refl
  type_kept old new (m.Arrow a b) more has =
      rw (type_kept old new a more has.0, type_kept old new b more has.1) refl
  type_kept old new (m.Named e ts) more has =
      (λ i. m.Named (entity_kept old new e more has.0 i) (types_kept old new ts more has.1 i))

  pub types_kept : (old new : List (List ℕ)) (ts : TypeExpressions FlatEntity) → Extends old new
      → HasTypes old ts → types_of new ts ≡ types_of old ts
  types_kept old new m.NoType more has = refl
  types_kept old new (m.MoreTypes t ts) more has =
      rw (type_kept old new t more has.0, types_kept old new ts more has.1) refl

pub pattern_has : (old new : List (List ℕ)) (p : Pattern FlatEntity) → Extends old new
    → HasPattern old p → HasPattern new p
pattern_has old new (m.Built e xs) more has = entity_has old new e more has
pattern_has old new (m.Exactly l) more has = has

pub pattern_kept : (old new : List (List ℕ)) (p : Pattern FlatEntity) → Extends old new
    → HasPattern old p → pattern_of new p ≡ pattern_of old p
pattern_kept old new (m.Built e xs) more has = (λ i. m.Built (entity_kept old new e more has i) xs)
pattern_kept old new (m.Exactly l) more has = refl

mutual
  pub expression_has : (old new : List (List ℕ)) (t : Expression FlatEntity) → Extends old new
      → HasExpression old t → HasExpression new t
  expression_has old new (m.Var x) more has = has
  expression_has old new (m.Literal l) more has = has
  expression_has old new (m.Comb kind e ts) more has =
      (entity_has old new e more has.0, expressions_has old new ts more has.1)
  expression_has old new (m.Let x a b) more has =
      (expression_has old new a more has.0, expression_has old new b more has.1)
  expression_has old new (m.Free x a) more has = expression_has old new a more has
  expression_has old new (m.Or a b) more has =
      (expression_has old new a more has.0, expression_has old new b more has.1)
  expression_has old new (m.Case mode a bs) more has =
      (expression_has old new a more has.0, branches_has old new bs more has.1)

  pub expressions_has : (old new : List (List ℕ)) (ts : Expressions FlatEntity) → Extends old new
      → HasExpressions old ts → HasExpressions new ts
  expressions_has old new m.NoExpression more has = has
  expressions_has old new (m.MoreExpressions t ts) more has =
      (expression_has old new t more has.0, expressions_has old new ts more has.1)

  pub branches_has : (old new : List (List ℕ)) (bs : Branches FlatEntity) → Extends old new
      → HasBranches old bs → HasBranches new bs
  branches_has old new m.NoBranch more has = has
  branches_has old new (m.MoreBranches p t bs) more has = (
    pattern_has old new p more has.0,
    expression_has old new t more has.1,
    branches_has old new bs more has.2,
  )

mutual
  pub expression_kept : (old new : List (List ℕ)) (t : Expression FlatEntity) → Extends old new
      → HasExpression old t → expression_of new t ≡ expression_of old t
  expression_kept old new (m.Var x) more has = refl
  expression_kept old new (m.Literal l) more has = refl
  expression_kept old new (m.Comb kind e ts) more has =
      (λ i. m.Comb kind (entity_kept old new e more has.0 i)
      (expressions_kept old new ts more has.1 i))
  expression_kept old new (m.Let x a b) more has =
      rw (expression_kept old new a more has.0, expression_kept old new b more has.1) refl
  expression_kept old new (m.Free x a) more has = rw (expression_kept old new a more has) refl
  expression_kept old new (m.Or a b) more has =
      rw (expression_kept old new a more has.0, expression_kept old new b more has.1) refl
  expression_kept old new (m.Case mode a bs) more has =
      rw (expression_kept old new a more has.0, branches_kept old new bs more has.1) refl

  pub expressions_kept : (old new : List (List ℕ)) (ts : Expressions FlatEntity)
      → Extends old new → HasExpressions old ts → expressions_of new ts ≡ expressions_of old ts
  expressions_kept old new m.NoExpression more has = refl
  expressions_kept old new (m.MoreExpressions t ts) more has =
      rw (expression_kept old new t more has.0, expressions_kept old new ts more has.1) refl

  pub branches_kept : (old new : List (List ℕ)) (bs : Branches FlatEntity) → Extends old new
      → HasBranches old bs → branches_of new bs ≡ branches_of old bs
  branches_kept old new m.NoBranch more has = refl
  branches_kept old new (m.MoreBranches p t bs) more has =
      rw (
        pattern_kept old new p more has.0,
        expression_kept old new t more has.1,
        branches_kept old new bs more has.2,
      ) refl

-- ---- lists, and what a module has

pub map_kept : {X Y : Type 0} (f g : X → Y) (Has : X → Type 0) (xs : List X)
    → ((x : X) → Has x → f x ≡ g x) → AllByRecursion Has xs → map f xs ≡ map g xs
map_kept f g Has [] same has = refl
map_kept f g Has (x ∷ xs) same has =
    (λ i. same x has.0 i ∷ map_kept f g Has xs same has.1 i)

pub all_has : {X : Type 0} (Had Has : X → Type 0) (xs : List X) → ((x : X) → Had x → Has x)
    → All Had xs → All Has xs
all_has Had Has xs more had k d below = more (slice_index_or xs k d) (had k d below)

pub texts_kept : (old new : List (List ℕ)) (ids : List NameId) → Extends old new
    → All (IsKnown old) ids → map (text_of new) ids ≡ map (text_of old) ids
texts_kept old new ids more has =
    map_kept (text_of new) (text_of old) (IsKnown old) ids (λ id. text_kept old new id more)
    (recursion_from_All (IsKnown old) ids has)

pub texts_has : (old new : List (List ℕ)) (ids : List NameId) → Extends old new
    → All (IsKnown old) ids → All (IsKnown new) ids
texts_has old new ids more =
    all_has (IsKnown old) (IsKnown new) ids (λ id. known_kept old new id more)

make_constructor : Entity → ℕ → Bool → TypeExpressions Entity → Constructor
make_constructor e n public ts =
    record { entity = e; arity = n; public = public; fields = ts }

pub constructor_kept : (old new : List (List ℕ)) (c : FlatConstructor) → Extends old new
    → HasConstructor old c → constructor_of new c ≡ constructor_of old c
unfolding make_constructor
constructor_kept old new c more has =
    (λ i. make_constructor (entity_kept old new c.entity more has.0 i) c.arity c.public
    (types_kept old new c.fields more has.1 i))

pub constructor_has : (old new : List (List ℕ)) (c : FlatConstructor) → Extends old new
    → HasConstructor old c → HasConstructor new c
constructor_has old new c more has =
    (entity_has old new c.entity more has.0, types_has old new c.fields more has.1)

pub constructors_kept : (old new : List (List ℕ)) (cs : List FlatConstructor) → Extends old new
    → All (HasConstructor old) cs → map (constructor_of new) cs ≡ map (constructor_of old) cs
constructors_kept old new cs more has =
    map_kept (constructor_of new) (constructor_of old) (HasConstructor old) cs
    (λ c. constructor_kept old new c more) (recursion_from_All (HasConstructor old) cs has)

pub constructors_has : (old new : List (List ℕ)) (cs : List FlatConstructor) → Extends old new
    → All (HasConstructor old) cs → All (HasConstructor new) cs
constructors_has old new cs more =
    all_has (HasConstructor old) (HasConstructor new) cs (λ c. constructor_has old new c more)

pub right_side_kept : (old new : List (List ℕ)) (r : FlatRightSide) → Extends old new
    → HasRightSide old r → right_side_of new r ≡ right_side_of old r
right_side_kept old new (declared.Type cs) more has =
    ap (λ (xs : List Constructor). m.OfType xs) (constructors_kept old new cs.items more has)
right_side_kept old new (declared.TypeSyn t) more has =
    ap (λ (x : TypeExpression Entity). m.OfTypeSyn x) (type_kept old new t more has)

pub right_side_has : (old new : List (List ℕ)) (r : FlatRightSide) → Extends old new
    → HasRightSide old r → HasRightSide new r
right_side_has old new (declared.Type cs) more has = constructors_has old new cs.items more has
right_side_has old new (declared.TypeSyn t) more has = type_has old new t more has

make_declaration : Entity → Bool → List ℕ → RightSide → Declaration
make_declaration e public xs r =
    record { entity = e; public = public; parameters = xs; right_side = r }

pub declaration_kept : (old new : List (List ℕ)) (d : FlatDeclaration) → Extends old new
    → HasDeclaration old d → declaration_of new d ≡ declaration_of old d
unfolding make_declaration
declaration_kept old new d more has =
    (λ i. make_declaration (entity_kept old new d.entity more has.0 i) d.public d.parameters.items
    (right_side_kept old new d.right_side more has.1 i))

pub declaration_has : (old new : List (List ℕ)) (d : FlatDeclaration) → Extends old new
    → HasDeclaration old d → HasDeclaration new d
declaration_has old new d more has =
    (entity_has old new d.entity more has.0, right_side_has old new d.right_side more has.1)

pub declarations_kept : (old new : List (List ℕ)) (ds : List FlatDeclaration) → Extends old new
    → All (HasDeclaration old) ds → map (declaration_of new) ds ≡ map (declaration_of old) ds
declarations_kept old new ds more has =
    map_kept (declaration_of new) (declaration_of old) (HasDeclaration old) ds
    (λ d. declaration_kept old new d more) (recursion_from_All (HasDeclaration old) ds has)

pub declarations_has : (old new : List (List ℕ)) (ds : List FlatDeclaration) → Extends old new
    → All (HasDeclaration old) ds → All (HasDeclaration new) ds
declarations_has old new ds more =
    all_has (HasDeclaration old) (HasDeclaration new) ds (λ d. declaration_has old new d more)

pub rule_kept : (old new : List (List ℕ)) (r : FlatRule) → Extends old new
    → HasRule old r → rule_of new r ≡ rule_of old r
rule_kept old new (rule.Rule xs t) more has =
    ap (λ (x : Expression Entity). m.Rule xs.items x) (expression_kept old new t more has)
rule_kept old new (rule.External name) more has =
    ap (λ (x : List ℕ). m.External x) (text_kept old new name more has)

pub rule_has : (old new : List (List ℕ)) (r : FlatRule) → Extends old new
    → HasRule old r → HasRule new r
rule_has old new (rule.Rule xs t) more has = expression_has old new t more has
rule_has old new (rule.External name) more has = known_kept old new name more has

make_function : Entity → ℕ → Bool → TypeExpression Entity → FunctionRule → Function
make_function e n public t r =
    record { entity = e; arity = n; public = public; of_type = t; rule = r }

pub function_kept : (old new : List (List ℕ)) (f : FlatFunction) → Extends old new
    → HasFunction old f → function_of new f ≡ function_of old f
unfolding make_function
function_kept old new f more has =
    (λ i. make_function (entity_kept old new f.entity more has.0 i) f.arity f.public
    (type_kept old new f.of_type more has.1 i) (rule_kept old new f.rule more has.2 i))

pub function_has : (old new : List (List ℕ)) (f : FlatFunction) → Extends old new
    → HasFunction old f → HasFunction new f
function_has old new f more has = (
  entity_has old new f.entity more has.0,
  type_has old new f.of_type more has.1,
  rule_has old new f.rule more has.2,
)

pub functions_kept : (old new : List (List ℕ)) (fs : List FlatFunction) → Extends old new
    → All (HasFunction old) fs → map (function_of new) fs ≡ map (function_of old) fs
functions_kept old new fs more has =
    map_kept (function_of new) (function_of old) (HasFunction old) fs
    (λ f. function_kept old new f more) (recursion_from_All (HasFunction old) fs has)

pub functions_has : (old new : List (List ℕ)) (fs : List FlatFunction) → Extends old new
    → All (HasFunction old) fs → All (HasFunction new) fs
functions_has old new fs more =
    all_has (HasFunction old) (HasFunction new) fs (λ f. function_has old new f more)

make_operator : Entity → Side → ℕ → Operator
make_operator e side level = record { entity = e; side = side; level = level }

pub operator_kept : (old new : List (List ℕ)) (o : FlatOperator) → Extends old new
    → HasOperator old o → operator_of new o ≡ operator_of old o
unfolding make_operator
operator_kept old new o more has =
    (λ i. make_operator (entity_kept old new o.entity more has i) o.side o.level)

pub operators_kept : (old new : List (List ℕ)) (os : List FlatOperator) → Extends old new
    → All (HasOperator old) os → map (operator_of new) os ≡ map (operator_of old) os
operators_kept old new os more has =
    map_kept (operator_of new) (operator_of old) (HasOperator old) os
    (λ o. operator_kept old new o more) (recursion_from_All (HasOperator old) os has)

pub operators_has : (old new : List (List ℕ)) (os : List FlatOperator) → Extends old new
    → All (HasOperator old) os → All (HasOperator new) os
operators_has old new os more =
    all_has (HasOperator old) (HasOperator new) os (λ o. entity_has old new o.entity more)
