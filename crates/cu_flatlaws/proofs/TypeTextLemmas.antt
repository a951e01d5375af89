-- The texts of types, constructors, data types and synonyms are those of what is printed.
use Rattle.std.proofs.Common.{◌≡◌, ℕ, zero, suc, ◌+◌, ◌≤◌, ◌<◌, Bool, true, false, ◌&&◌, not, List, [], ◌∷◌, ◌++◌, Option, None, Some, IsTrue, codes, decimal, if◌then◌else◌, length, map, nat_eq, slice_get, slice_index_or, refl, ap, ap₂, ◌∙◌, arith, eqb-true}
use Rattle.std.proofs.lemmas.Bool.{and_parts}
use Rattle.std.specs.List.{list_all}
use Rattle.cu_calculus.proofs.Lists.{passed_at}
use Rattle.cu_flatlaws.proofs.NumberTexts.{numbers_agree}
use Rattle.cu_flatlaws.proofs.TypeVariables.{AllBelow, Below, breadth_below, parameters_below}
use Rattle.cu_flatlaws.specs.PrintedTypes.{Synonyms, argument, as_written, body_type, entity, expanded, expanded_once, expanded_within, field_types, printed_constructor, printed_data_type, printed_synonym, printed_type, printed_types, type_count, written_type}
use Rattle.cu_flatread.specs.Modules as m
use Rattle.cu_flatread.specs.Modules.{TypeExpression, TypeExpressions}
use Rattle.cu_flatread.specs.Notation.{Entity, entity_text, in_parentheses, list_text, visibility_text}
use Rattle.cu_flatread.specs.Text.{constructor_text, declaration_text, type_text, type_texts}
use Rattle.cu_flattext.specs.Naming.{Lowered, entity_of, type_entity}
use Rattle.cu_flattext.specs.TypeTexts as texts
use Rattle.cu_flattext.specs.TypeTexts.{is_expanded, leads_to_itself}
use Rattle.cu_kernel.specs.Kernel.{Constructor, DataType, Synonym}
use Rattle.cu_kernel.specs.TypeExpr as type
use Rattle.cu_kernel.specs.TypeExpr.{TypeExpr, TypeExprs}
use Rattle.cu_kernel.specs.Valid.{IsValid, fits_constructor, fits_data_type, fits_synonym, fits_type, is_module, is_parameter}
use Rattle.cu_kernel.specs.declared.type_term.SynonymId.{SynonymId}
use Rattle.cu_kernel.specs.declared.type_term.TypeName.TheVariants as named
use Rattle.cu_types.specs.Equations.{breadth}

-- ---- types

-- texts of synonyms are those of what synonyms are
abbrev Agree : texts.Synonyms → Synonyms → Type 0
Agree written synonyms =
    (s : SynonymId) (ts : TypeExpressions Entity) → written s (type_texts ts) ≡ type_text (synonyms s ts)

-- texts of variables are those of what the variables below a bound stand for
abbrev Same : ℕ → List (List ℕ) → (ℕ → TypeExpression Entity) → Type 0
Same n written types = (x : ℕ) → x < n → slice_index_or written x [] ≡ type_text (types x)

mutual
  type_agrees : (program : Lowered) (written : texts.Synonyms) (synonyms : Synonyms)
      (variables : List (List ℕ)) (arguments : ℕ → TypeExpression Entity) (n : ℕ)
      → Agree written synonyms → Same n variables arguments → (t : TypeExpr) → Below n t
      → texts.type_text program written variables t
      ≡ type_text (printed_type program synonyms arguments t)
  type_agrees program written synonyms variables arguments n agree same (type.Variable x) below =
      same x below
  type_agrees program written synonyms variables arguments n agree same (type.Arrow a b) below =
      ap₂ (λ (x y : List ℕ). codes "FuncType " ++ (in_parentheses x ++ (codes " " ++ in_parentheses y)))
      (type_agrees program written synonyms variables arguments n agree same a below.0)
      (type_agrees program written synonyms variables arguments n agree same b below.1)
  type_agrees program written synonyms variables arguments n agree same (type.Named (named.Data t) ts) below =
      ap (texts.constructed_text (type_entity program (named.Data t)))
      (types_agree program written synonyms variables arguments n agree same ts below)
  type_agrees program written synonyms variables arguments n agree same (type.Named (named.Synonym s) ts) below =
      ap (written s) (types_agree program written synonyms variables arguments n agree same ts below)
      ∙ agree s (printed_types program synonyms arguments ts)

  types_agree : (program : Lowered) (written : texts.Synonyms) (synonyms : Synonyms)
      (variables : List (List ℕ)) (arguments : ℕ → TypeExpression Entity) (n : ℕ)
      → Agree written synonyms → Same n variables arguments → (ts : TypeExprs) → AllBelow n ts
      → texts.type_texts program written variables ts
      ≡ type_texts (printed_types program synonyms arguments ts)
  types_agree program written synonyms variables arguments n agree same type.NoType below = refl
  types_agree program written synonyms variables arguments n agree same (type.MoreTypes t ts) below =
      ap₂ (λ (x : List ℕ) (xs : List (List ℕ)). x ∷ xs)
      (type_agrees program written synonyms variables arguments n agree same t below.0)
      (types_agree program written synonyms variables arguments n agree same ts below.1)

-- ---- synonyms

count_agrees : (ts : TypeExpressions Entity) → length (type_texts ts) ≡ type_count ts
count_agrees m.NoType = refl
count_agrees (m.MoreTypes t ts) = ap suc (count_agrees ts)

argument_agrees : (ts : TypeExpressions Entity) (x : ℕ) → x < type_count ts
    → slice_index_or (type_texts ts) x [] ≡ type_text (argument ts x)
argument_agrees m.NoType x below = absurd (omega (arith, below))
argument_agrees (m.MoreTypes t ts) zero below = refl
argument_agrees (m.MoreTypes t ts) (suc x) below = argument_agrees ts x (omega (arith, below))

written_agree : (program : Lowered) → Agree (texts.as_written program) (as_written program)
written_agree program s ts = refl

-- the variables of the type that a synonym stands for are parameters of it
abbrev pub Fits : Option Synonym → Type 0
Fits found = (s : Synonym) → found ≡ Some s → Below s.arity s.body

body_agrees : (program : Lowered) (written : texts.Synonyms) (synonyms : Synonyms) (s : SynonymId)
    (ts : TypeExpressions Entity) (found : Option Synonym) → Agree written synonyms → Fits found
    → is_expanded program.kernel.synonyms s (type_count ts) found ≡ true
    → texts.body_text program written (type_texts ts) found ≡ type_text (body_type program synonyms ts found)
body_agrees program written synonyms s ts None agree fits test = let no : ⊥ = cc in absurd no
body_agrees program written synonyms s ts (Some synonym) agree fits test =
    let count : type_count ts ≡ synonym.arity =
    eqb-true (type_count ts) synonym.arity
    (and_parts (nat_eq (type_count ts) synonym.arity) (not (leads_to_itself program.kernel.synonyms s)) test).0 in
    type_agrees program written synonyms (type_texts ts) (argument ts) synonym.arity agree
    (λ x below. argument_agrees ts x (omega (arith, below, count))) synonym.body (fits synonym refl)

once_by_test : (program : Lowered) (written : texts.Synonyms) (synonyms : Synonyms) (s : SynonymId)
    (ts : TypeExpressions Entity) (found : Option Synonym) (test : Bool) → Agree written synonyms → Fits found
    → is_expanded program.kernel.synonyms s (type_count ts) found ≡ test
    → (if test then texts.body_text program written (type_texts ts) found else texts.as_written program s (type_texts ts))
    ≡ type_text (if test then body_type program synonyms ts found else as_written program s ts)
once_by_test program written synonyms s ts found true agree fits e =
    body_agrees program written synonyms s ts found agree fits e
once_by_test program written synonyms s ts found false agree fits e = refl

-- each synonym's variables are parameters of it
abbrev pub AllFit : Lowered → Type 0
AllFit program = (s : SynonymId) → Fits (slice_get program.kernel.synonyms s.0)

once_agrees : (program : Lowered) (written : texts.Synonyms) (synonyms : Synonyms) → AllFit program
    → Agree written synonyms → Agree (texts.expanded_once program written) (expanded_once program synonyms)
once_agrees program written synonyms fit agree s ts =
    let found = slice_get program.kernel.synonyms s.0 in
    let test = is_expanded program.kernel.synonyms s (type_count ts) found in
    ap (λ (n : ℕ). if is_expanded program.kernel.synonyms s n found
    then texts.body_text program written (type_texts ts) found
    else texts.as_written program s (type_texts ts)) (count_agrees ts)
    ∙ once_by_test program written synonyms s ts found test agree (fit s) refl

within_agree : (program : Lowered) → AllFit program → (n : ℕ)
    → Agree (texts.expanded_within n program) (expanded_within n program)
within_agree program fit zero = written_agree program
within_agree program fit (suc n) =
    once_agrees program (texts.expanded_within n program) (expanded_within n program) fit
    (within_agree program fit n)

pub synonyms_fit : (program : Lowered) → IsValid program.kernel → AllFit program
synonyms_fit program valid s synonym found =
    let fits = passed_at (fits_synonym program.kernel) program.kernel.synonyms s.0 synonym valid.synonyms found in
    parameters_below program.kernel synonym.arity synonym.body
    (and_parts (is_module program.kernel synonym.module)
    (fits_type program.kernel (is_parameter synonym.arity) synonym.body) fits).1

-- ---- type variables

numbered_variable : (first count x : ℕ) → x < count
    → slice_index_or (map texts.type_variable_text (texts.numbers_from first count)) x []
    ≡ codes "TVar " ++ decimal (first + x)
numbered_variable first zero x below = absurd (omega (arith, below))
numbered_variable first (suc count) zero below =
    let same : first ≡ first + 0 = omega arith in ap (λ (n : ℕ). codes "TVar " ++ decimal n) same
numbered_variable first (suc count) (suc x) below =
    let same : first + 1 + x ≡ first + suc x = omega arith in
    numbered_variable (first + 1) count x (omega (arith, below))
    ∙ ap (λ (n : ℕ). codes "TVar " ++ decimal n) same

variables_agree : (count : ℕ) → Same count (texts.type_variables count) m.Variable
variables_agree count x below =
    let same : 0 + x ≡ x = omega arith in
    numbered_variable 0 count x below ∙ ap (λ (n : ℕ). codes "TVar " ++ decimal n) same

-- a type in which synonyms stand as they are written
written_type_agrees : (program : Lowered) (count : ℕ) (t : TypeExpr) → Below count t
    → texts.written_type_text program count t ≡ type_text (written_type program t)
written_type_agrees program count t below =
    type_agrees program (texts.as_written program) (as_written program) (texts.type_variables count) m.Variable
    count (written_agree program) (variables_agree count) t below

pub inferred_type_agrees : (program : Lowered) (t : TypeExpr)
    → texts.inferred_type_text program t ≡ type_text (written_type program t)
inferred_type_agrees program t = written_type_agrees program (breadth t) t (breadth_below t)

-- ---- declarations

fields_agree : (program : Lowered) (arity : ℕ) (ts : List TypeExpr) → IsValid program.kernel
    → IsTrue (list_all (fits_type program.kernel (is_parameter arity)) ts)
    → map (texts.type_text program (texts.expanded program) (texts.type_variables arity)) ts
    ≡ type_texts (field_types program ts)
fields_agree program arity [] valid fits = refl
fields_agree program arity (t ∷ ts) valid fits =
    let both = and_parts (fits_type program.kernel (is_parameter arity) t)
    (list_all (fits_type program.kernel (is_parameter arity)) ts) fits in
    ap₂ (λ (x : List ℕ) (xs : List (List ℕ)). x ∷ xs)
    (type_agrees program (texts.expanded program) (expanded program) (texts.type_variables arity) m.Variable arity
    (within_agree program (synonyms_fit program valid) (length program.kernel.synonyms)) (variables_agree arity) t
    (parameters_below program.kernel arity t both.0))
    (fields_agree program arity ts valid both.1)

constructor_agrees : (program : Lowered) (home arity : ℕ) (c : Constructor) → IsValid program.kernel
    → IsTrue (fits_constructor program.kernel arity c)
    → texts.constructor_text program home arity c ≡ constructor_text (printed_constructor program home c)
constructor_agrees program home arity c valid fits =
    ap (λ (fields : List (List ℕ)). codes "Cons " ++ (entity_text (entity (entity_of program home c.name))
    ++ (codes " " ++ (decimal (length c.fields) ++ (codes " " ++ (visibility_text c.public ++ (codes " "
    ++ list_text fields))))))) (fields_agree program arity c.fields valid fits)

constructors_agree : (program : Lowered) (home arity : ℕ) (cs : List Constructor) → IsValid program.kernel
    → IsTrue (list_all (fits_constructor program.kernel arity) cs)
    → map (texts.constructor_text program home arity) cs
    ≡ map constructor_text (map (printed_constructor program home) cs)
constructors_agree program home arity [] valid fits = refl
constructors_agree program home arity (c ∷ cs) valid fits =
    let both = and_parts (fits_constructor program.kernel arity c) (list_all (fits_constructor program.kernel arity) cs) fits in
    ap₂ (λ (x : List ℕ) (xs : List (List ℕ)). x ∷ xs) (constructor_agrees program home arity c valid both.0)
    (constructors_agree program home arity cs valid both.1)

pub data_type_agrees : (program : Lowered) (t : DataType) → IsValid program.kernel
    → IsTrue (fits_data_type program.kernel t)
    → texts.data_type_text program t ≡ declaration_text (printed_data_type program t)
data_type_agrees program t valid fits =
    let fit = and_parts (is_module program.kernel t.module) (list_all (fits_constructor program.kernel t.arity) t.constructors) fits in
    ap₂ (λ (numbers cs : List (List ℕ)). codes "Type " ++ (entity_text (entity (entity_of program t.module t.name))
    ++ (codes " " ++ (visibility_text t.public ++ (codes " " ++ (list_text numbers ++ (codes " "
    ++ list_text cs)))))))
    (numbers_agree 0 t.arity) (constructors_agree program t.module t.arity t.constructors valid fit.1)

pub synonym_agrees : (program : Lowered) (s : Synonym) → IsTrue (fits_synonym program.kernel s)
    → texts.synonym_text program s ≡ declaration_text (printed_synonym program s)
synonym_agrees program s fits =
    let fit = and_parts (is_module program.kernel s.module) (fits_type program.kernel (is_parameter s.arity) s.body) fits in
    ap₂ (λ (numbers : List (List ℕ)) (t : List ℕ). codes "TypeSyn " ++ (entity_text (entity (entity_of program s.module s.name))
    ++ (codes " " ++ (visibility_text s.public ++ (codes " " ++ (list_text numbers ++ (codes " "
    ++ in_parentheses t)))))))
    (numbers_agree 0 s.arity)
    (written_type_agrees program s.arity s.body (parameters_below program.kernel s.arity s.body fit.1))
