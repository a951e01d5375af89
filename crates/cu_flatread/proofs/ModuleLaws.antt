-- What is said of the readers of declarations, functions, operators and modules.
use Rattle.std.proofs.Common.{◌≡◌, ℕ, Bool, true, false, List, [], ◌∷◌, ◌++◌, All, codes, decimal, map, refl, sym, ap, ◌∙◌, inl, inr, append-nil}
use Rattle.std.specs.List.{AllByRecursion}
use Rattle.std.proofs.lemmas.List.Elements.{All-from_recursion, recursion_from_All}
use Rattle.cu_kernel.specs.declared.declarations.Side.{Side}
use Rattle.cu_kernel.specs.declared.declarations.Side.TheVariants as to
use Rattle.cu_flatread.proofs.ElementLaws.{list_reads}
use Rattle.cu_flatread.proofs.ExpressionLaws.{expression_reads}
use Rattle.cu_flatread.proofs.PartLaws.{IsLevel, entity_reads, level_reads, number_reads, numbers_reads, quoted_reads, tag_reads}
use Rattle.cu_flatread.proofs.ReaderLaws.{Done, Fits, Part, Reader, Reads, Steps, Word, always, no_digit, same_reads, steps_read, stops_there, text_by}
use Rattle.cu_flatread.proofs.TableLaws.{Finds, table_reads}
use Rattle.cu_flatread.proofs.TypeLaws.{closed, lists_read, type_reads}
use Rattle.cu_flatread.specs.FlatText.{AreTypes, IsConstructor, IsDeclaration, IsEntity, IsExpression, IsFunction, IsModule, IsName, IsNumber, IsOperator, IsRightSide, IsRule, IsType, most_nested}
use Rattle.cu_flatread.specs.Inside.Declarations.{constructor_at, declaration_at, declaration_words, function_at, module_at, operator_at, right_side_at, rule_at, rule_of_form, rule_words, side_words, visibility_at, visibility_words}
use Rattle.cu_flatread.specs.Inside.Expressions.{expression_at}
use Rattle.cu_flatread.specs.Inside.Names.{entity_at, quoted_at}
use Rattle.cu_flatread.specs.Inside.Numbers.{level_at, number_at, numbers_at}
use Rattle.cu_flatread.specs.Inside.Types.{type_at, types_at}
use Rattle.cu_flatread.specs.Inside.Words.{is_at, list_at, one_of}
use Rattle.cu_flatread.specs.Modules as m
use Rattle.cu_flatread.specs.Modules.{Constructor, Declaration, Expression, Function, FunctionRule, Module, Operator, RightSide, TypeExpression, TypeExpressions}
use Rattle.cu_flatread.specs.Notation.{Entity, entity_text, in_parentheses, lines_text, list_text, on_a_line, quoted, side_text, visibility_text}
use Rattle.cu_flatread.specs.Text.{constructor_text, declaration_text, expression_text, function_text, module_text, numbers_text, operator_text, rule_text, type_text, type_texts}
use Rattle.cu_flatread.specs.declared.functions.RuleForm.{RuleForm}
use Rattle.cu_flatread.specs.declared.functions.RuleForm.TheVariants as rule
use Rattle.cu_flatread.specs.declared.type_declarations.Form.{Form}
use Rattle.cu_flatread.specs.declared.type_declarations.Form.TheVariants as form

-- ---- nesting

deepest_type : Reads no_digit (type_at most_nested) type_text (IsType most_nested)
deepest_type = type_reads 16383

deepest_expression : Reads no_digit (expression_at most_nested) expression_text
    (IsExpression most_nested)
deepest_expression = expression_reads 16383

abbrev types_text : TypeExpressions Entity → List ℕ
types_text ts = list_text (type_texts ts)

deepest_types : Reads no_digit types_at types_text (AreTypes most_nested)
unfolding types_at
deepest_types = lists_read 16383

-- ---- visibility

-- whether an entity is public, and the space after that
abbrev visible : Bool → List ℕ
visible true = codes "Public "
visible false = codes "Private "

abbrev AnyBool : Bool → Type 0
AnyBool v = Unit {0}

visible_finds : (v : Bool) → AnyBool v → Finds visible visibility_words v
visible_finds true g = inl (refl, refl)
visible_finds false g = inr (refl, inl (refl, refl))

visibility_reads : Reads always visibility_at visible AnyBool
visibility_reads =
    table_reads visible AnyBool visibility_words true tt ((tt, refl), ((tt, refl), tt))
    visible_finds

visible_is : (v : Bool) (z : List ℕ) → visibility_text v ++ (codes " " ++ z) ≡ visible v ++ z
visible_is true z = refl
visible_is false z = refl

-- ---- constructors

abbrev make_constructor : Entity → ℕ → Bool → TypeExpressions Entity → Constructor
make_constructor e n v ts = record { entity = e; arity = n; public = v; fields = ts }

abbrev constructor_steps : Steps Constructor
constructor_steps =
    Word (codes "Cons ")
    (Part Entity no_digit entity_at entity_text IsEntity (λ c. c.entity)
    (λ e. Word (codes " ")
    (Part ℕ no_digit number_at decimal IsNumber (λ c. c.arity)
    (λ n. Word (codes " ")
    (Part Bool always visibility_at visible AnyBool (λ c. c.public)
    (λ v. Part (TypeExpressions Entity) no_digit types_at types_text (AreTypes most_nested)
    (λ c. c.fields) (λ ts. Done (make_constructor e n v ts))))))))

constructor_spelled : (c : Constructor) → constructor_text c ≡ text_by constructor_steps c
constructor_spelled c =
    ap (λ z. codes "Cons " ++ (entity_text c.entity ++ (codes " " ++ (decimal c.arity
    ++ (codes " " ++ z)))))
    (visible_is c.public (types_text c.fields)
    ∙ ap (λ z. visible c.public ++ z) (sym (append-nil (types_text c.fields))))

constructor_reads : Reads no_digit constructor_at constructor_text IsConstructor
unfolding constructor_at
constructor_reads =
    same_reads no_digit constructor_at (text_by constructor_steps) constructor_text
    (Fits constructor_steps) IsConstructor
    (steps_read constructor_steps (
      entity_reads,
      λ e g. (
        number_reads,
        λ n h. (
          visibility_reads,
          λ v i. (
            deepest_types,
            λ ts j. tt,
            λ ts c j f. ap (λ (x : Constructor). x.fields) f,
            inr (λ ts c rest j f ends. ends),
          ),
          λ v c i f. ap (λ (x : Constructor). x.public) f.1,
          inl (λ b. refl),
        ),
        λ n c h f. ap (λ (x : Constructor). x.arity) f.1.1,
        inr (λ n c rest h f ends. refl),
      ),
      λ e c g f. ap (λ (x : Constructor). x.entity) f.1.1.1,
      inr (λ e c rest g f ends. refl),
    ))
    (λ c g. ((g.0, (g.1, (tt, (g.2, refl)))), constructor_spelled c))
    (λ c g. ((g.0, g.1.0, g.1.1.1.0), constructor_spelled c))

-- ---- the right sides of declarations of types

constructor_starts : (c : Constructor) (rest : List ℕ)
    → is_at 93 (constructor_text c ++ rest) ≡ false
constructor_starts c rest = refl

abbrev constructors_text : List Constructor → List ℕ
constructors_text cs = list_text (map constructor_text cs)

constructors_reads : Reads no_digit (list_at constructor_at) constructors_text (All IsConstructor)
constructors_reads =
    same_reads no_digit (list_at constructor_at) constructors_text constructors_text
    (AllByRecursion IsConstructor) (All IsConstructor)
    (list_reads constructor_at constructor_text IsConstructor constructor_reads
    (λ c rest g. constructor_starts c rest))
    (λ cs g. (recursion_from_All IsConstructor cs g, refl))
    (λ cs g. (All-from_recursion IsConstructor cs g, refl))

abbrev constructors_of : RightSide → List Constructor
constructors_of (m.OfType cs) = cs
constructors_of (m.OfTypeSyn t) = []

abbrev synonym_of : RightSide → TypeExpression Entity
synonym_of (m.OfType cs) = m.Variable 0
synonym_of (m.OfTypeSyn t) = t

abbrev form_of : RightSide → Form
form_of (m.OfType cs) = form.Type
form_of (m.OfTypeSyn t) = form.TypeSyn

abbrev data_steps : Steps RightSide
data_steps =
    Part (List Constructor) no_digit (list_at constructor_at) constructors_text
    (All IsConstructor) constructors_of (λ cs. Done (m.OfType cs))

abbrev synonym_steps : Steps RightSide
synonym_steps =
    Word (codes "(")
    (Part (TypeExpression Entity) no_digit (type_at most_nested) type_text (IsType most_nested)
    synonym_of (λ t. Word (codes ")") (Done (m.OfTypeSyn t))))

abbrev right_steps : Form → Steps RightSide
right_steps form.Type = data_steps
right_steps form.TypeSyn = synonym_steps

right_reads : (f : Form)
    → Reads no_digit (right_side_at f) (text_by (right_steps f)) (Fits (right_steps f))
unfolding right_side_at
right_reads form.Type =
    steps_read data_steps (
      constructors_reads,
      λ cs g. tt,
      λ cs r g f. ap constructors_of f,
      inr (λ cs r rest g f ends. ends),
    )
right_reads form.TypeSyn =
    steps_read synonym_steps (
      deepest_type,
      λ t g. tt,
      λ t r g f. ap synonym_of f,
      inr (λ t r rest g f ends. refl),
    )

right_form : (f : Form) (r : RightSide) → Fits (right_steps f) r → form_of r ≡ f
right_form form.Type r h = ap form_of h.1
right_form form.TypeSyn r h = ap form_of h.1

right_from : (r : RightSide) → IsRightSide r → Fits (right_steps (form_of r)) r
right_from (m.OfType cs) g = (g, refl)
right_from (m.OfTypeSyn t) g = (g, refl)

right_into : (r : RightSide) → Fits (right_steps (form_of r)) r → IsRightSide r
right_into (m.OfType cs) g = g.0
right_into (m.OfTypeSyn t) g = g.0

-- ---- declarations of types

abbrev declaration_word : Form → List ℕ
declaration_word form.Type = codes "\nType "
declaration_word form.TypeSyn = codes "\nTypeSyn "

abbrev AnyForm : Form → Type 0
AnyForm f = Unit {0}

declaration_finds : (f : Form) → AnyForm f → Finds declaration_word declaration_words f
declaration_finds form.Type g = inl (refl, refl)
declaration_finds form.TypeSyn g = inr (refl, inl (refl, refl))

form_reads : Reads always (one_of declaration_words) declaration_word AnyForm
form_reads =
    table_reads declaration_word AnyForm declaration_words form.Type tt
    ((tt, refl), ((tt, refl), tt)) declaration_finds

abbrev make_declaration : Entity → Bool → List ℕ → RightSide → Declaration
make_declaration e v xs r =
    record { entity = e; public = v; parameters = xs; right_side = r }

abbrev declaration_steps : Steps Declaration
declaration_steps =
    Part Form always (one_of declaration_words) declaration_word AnyForm (λ d. form_of d.right_side)
    (λ f. Part Entity no_digit entity_at entity_text IsEntity (λ d. d.entity)
    (λ e. Word (codes " ")
    (Part Bool always visibility_at visible AnyBool (λ d. d.public)
    (λ v. Part (List ℕ) no_digit numbers_at numbers_text (All IsNumber) (λ d. d.parameters)
    (λ xs. Word (codes " ")
    (Part RightSide no_digit (right_side_at f) (text_by (right_steps f)) (Fits (right_steps f))
    (λ d. d.right_side) (λ r. Done (make_declaration e v xs r))))))))

abbrev declaration_line : Declaration → List ℕ
declaration_line d = on_a_line (declaration_text d)

declaration_spelled : (d : Declaration) → declaration_line d ≡ text_by declaration_steps d
declaration_spelled d = by d.right_side
  where
    head : (front text : List ℕ)
        → front ++ (entity_text d.entity ++ (codes " " ++ (visibility_text d.public
        ++ (codes " " ++ (numbers_text d.parameters ++ (codes " " ++ text))))))
        ≡ front ++ (entity_text d.entity ++ (codes " " ++ (visible d.public
        ++ (numbers_text d.parameters ++ (codes " " ++ text)))))
    head front text =
        ap (λ z. front ++ (entity_text d.entity ++ (codes " " ++ z)))
        (visible_is d.public (numbers_text d.parameters ++ (codes " " ++ text)))

    by : (r : RightSide)
        → declaration_line (make_declaration d.entity d.public d.parameters r)
        ≡ text_by declaration_steps (make_declaration d.entity d.public d.parameters r)
    by (m.OfType cs) =
        head (codes "\nType ") (constructors_text cs)
        ∙ ap (λ z. codes "\nType " ++ (entity_text d.entity ++ (codes " " ++ (visible d.public
        ++ (numbers_text d.parameters ++ (codes " " ++ z))))))
        (sym (append-nil (constructors_text cs))
        ∙ sym (append-nil (constructors_text cs ++ [])))
    by (m.OfTypeSyn t) =
        head (codes "\nTypeSyn ") (in_parentheses (type_text t))
        ∙ ap (λ z. codes "\nTypeSyn " ++ (entity_text d.entity ++ (codes " " ++ (visible d.public
        ++ (numbers_text d.parameters ++ (codes " " ++ z))))))
        (sym (append-nil (in_parentheses (type_text t))))

declaration_reads : Reads no_digit declaration_at declaration_line IsDeclaration
unfolding declaration_at
declaration_reads =
    same_reads no_digit declaration_at (text_by declaration_steps) declaration_line
    (Fits declaration_steps) IsDeclaration
    (steps_read declaration_steps (
      form_reads,
      λ f o. (
        entity_reads,
        λ e g. (
          visibility_reads,
          λ v h. (
            numbers_reads,
            λ xs i. (
              right_reads f,
              λ r j. tt,
              λ r d j k. ap (λ (x : Declaration). x.right_side) k,
              inr (λ r d rest j k ends. ends),
            ),
            λ xs d i k. ap (λ (x : Declaration). x.parameters) k.1,
            inr (λ xs d rest i k ends. refl),
          ),
          λ v d h k. ap (λ (x : Declaration). x.public) k.1.1,
          inl (λ b. refl),
        ),
        λ e d g k. ap (λ (x : Declaration). x.entity) k.1.1.1,
        inr (λ e d rest g k ends. refl),
      ),
      λ f d o k. right_form f d.right_side k.1.1.1.0,
      inl (λ b. refl),
    ))
    (λ d g. ((tt, (g.0, (tt, (g.1, (right_from d.right_side g.2, refl))))), declaration_spelled d))
    (λ d g. ((g.1.0, g.1.1.1.0, right_into d.right_side g.1.1.1.1.0), declaration_spelled d))

-- ---- functions

abbrev rule_word : RuleForm → List ℕ
rule_word rule.Rule = codes "Rule "
rule_word rule.External = codes "External "

abbrev AnyRule : RuleForm → Type 0
AnyRule f = Unit {0}

rule_finds : (f : RuleForm) → AnyRule f → Finds rule_word rule_words f
rule_finds rule.Rule g = inl (refl, refl)
rule_finds rule.External g = inr (refl, inl (refl, refl))

abbrev rule_form : FunctionRule → RuleForm
rule_form (m.Rule xs t) = rule.Rule
rule_form (m.External name) = rule.External

abbrev parameters_of : FunctionRule → List ℕ
parameters_of (m.Rule xs t) = xs
parameters_of (m.External name) = []

abbrev body_of : FunctionRule → Expression Entity
body_of (m.Rule xs t) = t
body_of (m.External name) = m.Var 0

abbrev external_of : FunctionRule → List ℕ
external_of (m.Rule xs t) = []
external_of (m.External name) = name

abbrev rule_steps : RuleForm → Steps FunctionRule
rule_steps rule.Rule =
    Part (List ℕ) no_digit numbers_at numbers_text (All IsNumber) parameters_of
    (λ xs. Word (codes " (")
    (Part (Expression Entity) no_digit (expression_at most_nested) expression_text
    (IsExpression most_nested) body_of (λ t. Word (codes ")") (Done (m.Rule xs t)))))
rule_steps rule.External =
    Part (List ℕ) always quoted_at quoted IsName external_of (λ name. Done (m.External name))

rule_second : (f : RuleForm) → AnyRule f
    → Reads no_digit (rule_of_form f) (text_by (rule_steps f)) (Fits (rule_steps f))
unfolding rule_of_form
rule_second rule.Rule g =
    steps_read (rule_steps rule.Rule) (
      numbers_reads,
      λ xs h. (
        deepest_expression,
        λ t i. tt,
        λ t r i f. ap body_of f,
        inr (λ t r rest i f ends. refl),
      ),
      λ xs r h f. ap parameters_of f.1,
      inr (λ xs r rest h f ends. refl),
    )
rule_second rule.External g =
    steps_read (rule_steps rule.External) (
      quoted_reads,
      λ name h. tt,
      λ name r h f. ap external_of f,
      inl (λ b. refl),
    )

rule_exact : (f : RuleForm) (r : FunctionRule) → AnyRule f → Fits (rule_steps f) r
    → rule_form r ≡ f
rule_exact rule.Rule r g h = ap rule_form h.1.1
rule_exact rule.External r g h = ap rule_form h.1

rule_spelled : (r : FunctionRule)
    → rule_text r ≡ rule_word (rule_form r) ++ text_by (rule_steps (rule_form r)) r
rule_spelled (m.Rule xs t) = refl
rule_spelled (m.External name) =
    ap (λ z. codes "External " ++ z) (sym (append-nil (quoted name)))

rule_from : (r : FunctionRule) → IsRule r
    → AnyRule (rule_form r) × Fits (rule_steps (rule_form r)) r
rule_from (m.Rule xs t) g = (tt, (g.0, (g.1, refl)))
rule_from (m.External name) g = (tt, (g, refl))

rule_into : (r : FunctionRule) → AnyRule (rule_form r) × Fits (rule_steps (rule_form r)) r
    → IsRule r
rule_into (m.Rule xs t) g = (g.1.0, g.1.1.0)
rule_into (m.External name) g = g.1.0

rule_reads : Reads no_digit rule_at rule_text IsRule
unfolding rule_at
rule_reads =
    same_reads no_digit rule_at
    (λ r. rule_word (rule_form r) ++ text_by (rule_steps (rule_form r)) r) rule_text
    (λ r. AnyRule (rule_form r) × Fits (rule_steps (rule_form r)) r) IsRule
    (tag_reads rule_words rule_word AnyRule rule.Rule tt ((tt, refl), ((tt, refl), tt)) rule_finds
    rule_of_form (λ f. text_by (rule_steps f)) (λ f. Fits (rule_steps f)) rule_form rule_second
    rule_exact)
    (λ r g. (rule_from r g, rule_spelled r)) (λ r g. (rule_into r g, rule_spelled r))

abbrev make_function : Entity → ℕ → Bool → TypeExpression Entity → FunctionRule → Function
make_function e n v t r = record { entity = e; arity = n; public = v; of_type = t; rule = r }

abbrev function_steps : Steps Function
function_steps =
    Word (codes "\nFunc ")
    (Part Entity no_digit entity_at entity_text IsEntity (λ f. f.entity)
    (λ e. Word (codes " ")
    (Part ℕ no_digit number_at decimal IsNumber (λ f. f.arity)
    (λ n. Word (codes " ")
    (Part Bool always visibility_at visible AnyBool (λ f. f.public)
    (λ v. Word (codes "(")
    (Part (TypeExpression Entity) no_digit (type_at most_nested) type_text (IsType most_nested)
    (λ f. f.of_type)
    (λ t. Word (codes ") (")
    (Part FunctionRule no_digit rule_at rule_text IsRule (λ f. f.rule)
    (λ r. Word (codes ")") (Done (make_function e n v t r))))))))))))

abbrev function_line : Function → List ℕ
function_line f = on_a_line (function_text f)

function_spelled : (f : Function) → function_line f ≡ text_by function_steps f
function_spelled f =
    ap (λ z. codes "\nFunc " ++ (entity_text f.entity ++ (codes " " ++ (decimal f.arity
    ++ (codes " " ++ z)))))
    (visible_is f.public (in_parentheses (type_text f.of_type)
    ++ (codes " " ++ in_parentheses (rule_text f.rule)))
    ∙ ap (λ z. visible f.public ++ z)
    (closed (type_text f.of_type) (codes " " ++ in_parentheses (rule_text f.rule))))

function_reads : Reads no_digit function_at function_line IsFunction
unfolding function_at
function_reads =
    same_reads no_digit function_at (text_by function_steps) function_line (Fits function_steps)
    IsFunction
    (steps_read function_steps (
      entity_reads,
      λ e g. (
        number_reads,
        λ n h. (
          visibility_reads,
          λ v i. (
            deepest_type,
            λ t j. (
              rule_reads,
              λ r k. tt,
              λ r f k l. ap (λ (x : Function). x.rule) l,
              inr (λ r f rest k l ends. refl),
            ),
            λ t f j l. ap (λ (x : Function). x.of_type) l.1,
            inr (λ t f rest j l ends. refl),
          ),
          λ v f i l. ap (λ (x : Function). x.public) l.1.1,
          inl (λ b. refl),
        ),
        λ n f h l. ap (λ (x : Function). x.arity) l.1.1.1,
        inr (λ n f rest h l ends. refl),
      ),
      λ e f g l. ap (λ (x : Function). x.entity) l.1.1.1.1,
      inr (λ e f rest g l ends. refl),
    ))
    (λ f g. ((g.0, (g.1, (tt, (g.2, (g.3, refl))))), function_spelled f))
    (λ f g. ((g.0, g.1.0, g.1.1.1.0, g.1.1.1.1.0), function_spelled f))

-- ---- operators

-- on which side an operator associates, and the space after that
abbrev sided : Side → List ℕ
sided to.Left = codes "InfixlOp "
sided to.Right = codes "InfixrOp "
sided to.Neither = codes "InfixOp "

abbrev AnySide : Side → Type 0
AnySide side = Unit {0}

side_finds : (side : Side) → AnySide side → Finds sided side_words side
side_finds to.Left g = inl (refl, refl)
side_finds to.Right g = inr (refl, inl (refl, refl))
side_finds to.Neither g = inr (refl, inr (refl, inl (refl, refl)))

side_reads : Reads always (one_of side_words) sided AnySide
side_reads =
    table_reads sided AnySide side_words to.Left tt
    ((tt, refl), ((tt, refl), ((tt, refl), tt))) side_finds

sided_is : (side : Side) (z : List ℕ) → side_text side ++ (codes " " ++ z) ≡ sided side ++ z
sided_is to.Left z = refl
sided_is to.Right z = refl
sided_is to.Neither z = refl

abbrev make_operator : Entity → Side → ℕ → Operator
make_operator e side n = record { entity = e; side = side; level = n }

abbrev operator_steps : Steps Operator
operator_steps =
    Word (codes "\nOp ")
    (Part Entity no_digit entity_at entity_text IsEntity (λ o. o.entity)
    (λ e. Word (codes " ")
    (Part Side always (one_of side_words) sided AnySide (λ o. o.side)
    (λ side. Part ℕ no_digit level_at decimal IsLevel (λ o. o.level)
    (λ n. Done (make_operator e side n))))))

abbrev operator_line : Operator → List ℕ
operator_line o = on_a_line (operator_text o)

operator_spelled : (o : Operator) → operator_line o ≡ text_by operator_steps o
operator_spelled o =
    ap (λ z. codes "\nOp " ++ (entity_text o.entity ++ (codes " " ++ z)))
    (sided_is o.side (decimal o.level)
    ∙ ap (λ z. sided o.side ++ z) (sym (append-nil (decimal o.level))))

operator_reads : Reads no_digit operator_at operator_line IsOperator
unfolding operator_at
operator_reads =
    same_reads no_digit operator_at (text_by operator_steps) operator_line (Fits operator_steps)
    IsOperator
    (steps_read operator_steps (
      entity_reads,
      λ e g. (
        side_reads,
        λ side h. (
          level_reads,
          λ n i. tt,
          λ n o i f. ap (λ (x : Operator). x.level) f,
          inr (λ n o rest i f ends. ends),
        ),
        λ side o h f. ap (λ (x : Operator). x.side) f.1,
        inl (λ b. refl),
      ),
      λ e o g f. ap (λ (x : Operator). x.entity) f.1.1,
      inr (λ e o rest g f ends. refl),
    ))
    (λ o g. ((g.0, (tt, (g.1, refl))), operator_spelled o))
    (λ o g. ((g.0, g.1.1.0), operator_spelled o))

-- ---- lists of them

lists : {A : Type 0} (r : Reader A) (t : A → List ℕ) (G : A → Type 0) → Reads no_digit r t G
    → ((x : A) (rest : List ℕ) → is_at 93 (t x ++ rest) ≡ false)
    → Reads no_digit (list_at r) (λ xs. list_text (map t xs)) (All G)
lists r t G reads starts =
    same_reads no_digit (list_at r) (λ xs. list_text (map t xs)) (λ xs. list_text (map t xs))
    (AllByRecursion G) (All G) (list_reads r t G reads (λ x rest g. starts x rest))
    (λ xs g. (recursion_from_All G xs g, refl)) (λ xs g. (All-from_recursion G xs g, refl))

map_map : {A : Type 0} (f : List ℕ → List ℕ) (g : A → List ℕ) (xs : List A)
    → map (λ x. f (g x)) xs ≡ map f (map g xs)
map_map f g [] = refl
map_map f g (x ∷ xs) = ap (λ ys. f (g x) ∷ ys) (map_map f g xs)

-- ---- modules

abbrev make_module : List ℕ → List (List ℕ) → List Declaration → List Function → List Operator
    → Module
make_module name imports types functions operators = record {
  name = name;
  imports = imports;
  types = types;
  functions = functions;
  operators = operators;
}

abbrev imports_text : List (List ℕ) → List ℕ
imports_text xs = list_text (map quoted xs)

abbrev declarations_text : List Declaration → List ℕ
declarations_text ds = list_text (map declaration_line ds)

abbrev functions_text : List Function → List ℕ
functions_text fs = list_text (map function_line fs)

abbrev operators_text : List Operator → List ℕ
operators_text os = list_text (map operator_line os)

abbrev module_steps : Steps Module
module_steps =
    Word (codes "Prog ")
    (Part (List ℕ) always quoted_at quoted IsName (λ x. x.name)
    (λ name. Word (codes " ")
    (Part (List (List ℕ)) no_digit (list_at quoted_at) imports_text (All IsName) (λ x. x.imports)
    (λ imports. Word (codes " ")
    (Part (List Declaration) no_digit (list_at declaration_at) declarations_text
    (All IsDeclaration) (λ x. x.types)
    (λ types. Word (codes " ")
    (Part (List Function) no_digit (list_at function_at) functions_text (All IsFunction)
    (λ x. x.functions)
    (λ functions. Word (codes " ")
    (Part (List Operator) no_digit (list_at operator_at) operators_text (All IsOperator)
    (λ x. x.operators)
    (λ operators. Word (codes "\n")
    (Done (make_module name imports types functions operators))))))))))))

module_spelled : (x : Module) → module_text x ≡ text_by module_steps x
module_spelled x =
    ap (λ z. codes "Prog " ++ (quoted x.name ++ (codes " " ++ (imports_text x.imports
    ++ (codes " " ++ (list_text z ++ (codes " " ++ (lines_text (map function_text x.functions)
    ++ (codes " " ++ (lines_text (map operator_text x.operators) ++ codes "\n"))))))))))
    (sym (map_map on_a_line declaration_text x.types))
    ∙ ap (λ z. codes "Prog " ++ (quoted x.name ++ (codes " " ++ (imports_text x.imports
    ++ (codes " " ++ (declarations_text x.types ++ (codes " " ++ (list_text z
    ++ (codes " " ++ (lines_text (map operator_text x.operators) ++ codes "\n"))))))))))
    (sym (map_map on_a_line function_text x.functions))
    ∙ ap (λ z. codes "Prog " ++ (quoted x.name ++ (codes " " ++ (imports_text x.imports
    ++ (codes " " ++ (declarations_text x.types ++ (codes " " ++ (functions_text x.functions
    ++ (codes " " ++ (list_text z ++ codes "\n"))))))))))
    (sym (map_map on_a_line operator_text x.operators))

pub module_reads : Reads no_digit module_at module_text IsModule
unfolding module_at
module_reads =
    same_reads no_digit module_at (text_by module_steps) module_text (Fits module_steps) IsModule
    (steps_read module_steps (
      quoted_reads,
      λ name g. (
        lists quoted_at quoted IsName (stops_there no_digit quoted_at quoted IsName quoted_reads)
            (λ x rest. refl),
        λ imports h. (
          lists declaration_at declaration_line IsDeclaration declaration_reads (λ x rest. refl),
          λ types i. (
            lists function_at function_line IsFunction function_reads (λ x rest. refl),
            λ functions j. (
              lists operator_at operator_line IsOperator operator_reads (λ x rest. refl),
              λ operators k. tt,
              λ operators x k e. ap (λ (y : Module). y.operators) e,
              inr (λ operators x rest k e ends. refl),
            ),
            λ functions x j e. ap (λ (y : Module). y.functions) e.1,
            inr (λ functions x rest j e ends. refl),
          ),
          λ types x i e. ap (λ (y : Module). y.types) e.1.1,
          inr (λ types x rest i e ends. refl),
        ),
        λ imports x h e. ap (λ (y : Module). y.imports) e.1.1.1,
        inr (λ imports x rest h e ends. refl),
      ),
      λ name x g e. ap (λ (y : Module). y.name) e.1.1.1.1,
      inl (λ b. refl),
    ))
    (λ x g. ((g.0, (g.1, (g.2, (g.3, (g.4, refl))))), module_spelled x))
    (λ x g. ((g.0, g.1.0, g.1.1.0, g.1.1.1.0, g.1.1.1.1.0), module_spelled x))
