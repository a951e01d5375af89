-- A valid program stays one where its functions are lowered.
use Rattle.std.proofs.Common.{◌≡◌, ℕ, Bool, true, false, ◌&&◌, List, [], ◌∷◌, Option, None, Some, length, map, nat_eq, nat_le, option_map, slice_get, refl, ap, ap₂, sym, ◌∙◌}
use Rattle.std.specs.List.{list_all}
use Rattle.std.proofs.lemmas.Option.{slice_get-map}
use Rattle.cu_calculus.specs.Program as calculus
use Rattle.cu_kernel.specs.Kernel.{Constructor, DataType, Function, Goal, Kernel, Mark, Synonym, plain_function, program_of}
use Rattle.cu_kernel.specs.TypeExpr as type
use Rattle.cu_kernel.specs.TypeExpr.{TypeExpr, TypeExprs}
use Rattle.cu_kernel.specs.Valid.{IsValid, fit_marks, fit_types, fits_constructor, fits_data_type, fits_goal, fits_mark, fits_signature, fits_synonym, fits_type, has_rules, is_module, is_parameter, is_type_name, takes_names}
use Rattle.cu_kernel.specs.declared.type_term.TypeName.TheVariants as name
use Rattle.cu_kernel.specs.declared.type_term.TypeName.{TypeName}
use Rattle.cu_deftree.specs.Inside.Functions.{AreLowered}
use Rattle.cu_deftree.specs.Inside.OtherFunctions.{with_functions}
use Rattle.cu_deftree.specs.LoweredProgram as lowered
use Rattle.cu_deftree.specs.LoweredProgram.{FunctionLowers}
use Rattle.cu_deftree.proofs.FlatIsValid.{flat_valid}
use Rattle.cu_deftree.proofs.LoweredFunctions.{all_flat, flattens_of, same_under}

-- ---- what a flat program's functions share with those that they are of

-- how many parameters a function has, and whether it has rules
pub record Form : Type 0 where
  pub arity : ℕ
  pub by_rules : Bool

abbrev form_of : Function → Form
form_of f = record { arity = f.arity; by_rules = has_rules f.body }

form_kept : (program : calculus.Program) (function one : Function) → FunctionLowers program (plain_function function) (plain_function one)
    → form_of one ≡ form_of function
form_kept program function one (lowered.external operation _ e is) =
    ap (λ (f : calculus.Function). let form : Form = record { arity = f.arity; by_rules = has_rules f.body } in form) is
form_kept program function one (lowered.by_tree rules params t _ e f tree is) =
    ap (λ (g : calculus.Function). let form : Form = record { arity = g.arity; by_rules = has_rules g.body } in form) is
    ∙ ap (λ (b : calculus.Body). let form : Form = record { arity = function.arity; by_rules = has_rules b } in form) (sym e)

-- ---- declarations

module _ (kernel : Kernel) (functions : List Function) where
  abbrev other : Kernel
  other = with_functions kernel functions

  name_same : (n : TypeName) → is_type_name other n ≡ is_type_name kernel n
  name_same (name.Data t) = refl
  name_same (name.Synonym s) = refl

  mutual
    type_same : (may : ℕ → Bool) (t : TypeExpr) → fits_type other may t ≡ fits_type kernel may t
    type_same may (type.Variable x) = refl
    type_same may (type.Arrow a b) = ap₂ (λ (p q : Bool). p && q) (type_same may a) (type_same may b)
    type_same may (type.Named n ts) = ap₂ (λ (p q : Bool). p && q) (name_same n) (types_same may ts)

    types_same : (may : ℕ → Bool) (ts : TypeExprs) → fit_types other may ts ≡ fit_types kernel may ts
    types_same may type.NoType = refl
    types_same may (type.MoreTypes t ts) = ap₂ (λ (p q : Bool). p && q) (type_same may t) (types_same may ts)

  -- two tests that agree pass the same lists
  pass_same : {A : Type 0} (p q : A → Bool) → ((x : A) → p x ≡ q x) → (xs : List A) → list_all p xs ≡ list_all q xs
  pass_same p q each [] = refl
  pass_same p q each (x ∷ xs) = ap₂ (λ (a b : Bool). a && b) (each x) (pass_same p q each xs)

  constructor_same : (arity : ℕ) (c : Constructor) → fits_constructor other arity c ≡ fits_constructor kernel arity c
  constructor_same arity c =
      pass_same (fits_type other (is_parameter arity)) (fits_type kernel (is_parameter arity)) (type_same (is_parameter arity)) c.fields

  data_type_same : (t : DataType) → fits_data_type other t ≡ fits_data_type kernel t
  data_type_same t =
      ap (λ (b : Bool). is_module kernel t.module && b)
      (pass_same (fits_constructor other t.arity) (fits_constructor kernel t.arity) (constructor_same t.arity) t.constructors)

  synonym_same : (s : Synonym) → fits_synonym other s ≡ fits_synonym kernel s
  synonym_same s = ap (λ (b : Bool). is_module kernel s.module && b) (type_same (is_parameter s.arity) s.body)

  signature_same : (declared : Option TypeExpr) → fits_signature other declared ≡ fits_signature kernel declared
  signature_same None = refl
  signature_same (Some t) = type_same (λ x. true) t

  -- ---- marks

  mark_same : (m : Mark) (f g : Function) → form_of g ≡ form_of f → fits_mark other m g ≡ fits_mark kernel m f
  mark_same m f g e =
      ap₂ (λ (n : ℕ) (b : Bool). is_module kernel m.module && nat_le m.captured n && b) (ap (λ (form : Form). form.arity) e) (signature_same m.declared)

  first_of : {A : Type 0} (x y : A) (xs ys : List A) → x ∷ xs ≡ y ∷ ys → x ≡ y
  first_of x y xs ys e = cc

  rest_of : {A : Type 0} (x y : A) (xs ys : List A) → x ∷ xs ≡ y ∷ ys → xs ≡ ys
  rest_of x y xs ys e = cc

  marks_same : (ms : List Mark) (fs gs : List Function) → map form_of gs ≡ map form_of fs → fit_marks other ms gs ≡ fit_marks kernel ms fs
  marks_same [] [] [] e = refl
  marks_same (m ∷ ms) [] [] e = refl
  marks_same [] [] (g ∷ gs) e = let no : ⊥ = cc in absurd no
  marks_same (m ∷ ms) [] (g ∷ gs) e = let no : ⊥ = cc in absurd no
  marks_same [] (f ∷ fs) [] e = let no : ⊥ = cc in absurd no
  marks_same (m ∷ ms) (f ∷ fs) [] e = let no : ⊥ = cc in absurd no
  marks_same [] (f ∷ fs) (g ∷ gs) e = refl
  marks_same (m ∷ ms) (f ∷ fs) (g ∷ gs) e =
      ap₂ (λ (p q : Bool). p && q) (mark_same m f g (first_of (form_of g) (form_of f) (map form_of gs) (map form_of fs) e))
      (marks_same ms fs gs (rest_of (form_of g) (form_of f) (map form_of gs) (map form_of fs) e))

  -- ---- the goal

  abbrev takes_form : ℕ → Option Form → Bool
  takes_form count None = false
  takes_form count (Some form) = nat_eq form.arity count && form.by_rules

  form_at : (fs : List Function) (k : ℕ) → option_map form_of (slice_get fs k) ≡ slice_get (map form_of fs) k
  form_at fs k = sym (slice_get-map form_of fs k)

  takes_by_form : (count : ℕ) (found : Option Function) → takes_names count found ≡ takes_form count (option_map form_of found)
  takes_by_form count None = refl
  takes_by_form count (Some f) = refl

  goal_same : (goal : Option Goal) → map form_of functions ≡ map form_of kernel.functions → fits_goal other goal ≡ fits_goal kernel goal
  goal_same None e = refl
  goal_same (Some g) e =
      let count = length g.names in
      let k = g.function.0 in
      takes_by_form count (slice_get functions k) ∙ ap (takes_form count) (form_at functions k)
      ∙ ap (λ (forms : List Form). takes_form count (slice_get forms k)) e ∙ sym (ap (takes_form count) (form_at kernel.functions k))
      ∙ sym (takes_by_form count (slice_get kernel.functions k))

pub kernel_stays : (kernel : Kernel) (functions : List Function) → IsValid kernel
    → AreLowered (program_of kernel) kernel.functions (length kernel.functions) functions → IsValid (with_functions kernel functions)
unfolding program_of
kernel_stays kernel functions valid are =
    let forms : map form_of functions ≡ map form_of kernel.functions = same_under form_of kernel.functions functions are.count
    (λ k one e function f. form_kept (program_of kernel) function one (are.each k one e function f).lowers) in
    record {
      program = flat_valid (program_of kernel) (program_of (with_functions kernel functions)) valid.program
          (flattens_of (program_of kernel) (program_of (with_functions kernel functions))
          (all_flat (program_of kernel) (program_of (with_functions kernel functions)) kernel.functions functions refl refl refl refl are));
      first_types = valid.first_types;
      types = pass_same kernel functions (fits_data_type (with_functions kernel functions)) (fits_data_type kernel) (data_type_same kernel functions)
          kernel.types ∙ valid.types;
      synonyms = pass_same kernel functions (fits_synonym (with_functions kernel functions)) (fits_synonym kernel) (synonym_same kernel functions)
          kernel.synonyms ∙ valid.synonyms;
      marks = marks_same kernel functions kernel.marks kernel.functions functions forms ∙ valid.marks;
      goal = goal_same kernel functions kernel.goal forms ∙ valid.goal;
    }
