-- The tests decide whether the parts of a program fit together.
use Rattle.std.proofs.Common.{◌≡◌, ◌↔◌, Err, IfOk, IsTrue, Ok, Result, Bool, true, false, ◌&&◌, List, Option, None, Some, map, nat_eq, nat_lt, refl, sym, ◌∙◌, ap, slice_get}
use Rattle.std.specs.List.{list_all}
use Rattle.std.specs.declared.alloc.AllocError.{AllocError}
use Rattle.std.specs.declared.alloc.Global.{Global}
use Rattle.std.specs.declared.vec.Vec.{Vec}
use Rattle.std.proofs.lemmas.Bool.{eq-eqb, eqb-true}
use denote.Ref.{Bor}
use Rattle.cu_calculus.specs.Program as calculus
use Rattle.cu_calculus.specs.declared.ConId.{ConId}
use Rattle.cu_calculus.specs.declared.builtin.Special.{Special}
use Rattle.cu_kernel.proofs.Conjunction.{parts_true, true_parts}
use Rattle.cu_kernel.specs.FirstTypes.{has_first_types}
use Rattle.cu_kernel.specs.Heads as table
use Rattle.cu_kernel.specs.Heads.{shape_meaning}
use Rattle.cu_kernel.specs.Kernel.{constructors_from, plain_function}
use Rattle.cu_kernel.specs.KernelOf.{function_meaning, type_meaning}
use Rattle.cu_kernel.specs.LocalKernel.{LocalKernel}
use Rattle.cu_kernel.specs.LocalKernelOf.{local_kernel_of, top_function_meaning}
use Rattle.cu_kernel.specs.LocalValid.{HasEntities, IsFirst, IsJoined, builds, function_fits, goal_fits, heads_program, mark_is_placed, synonym_is_placed, type_is_placed, without_rules}
use Rattle.cu_kernel.specs.declared.heads.Shape.{Shape}
use Rattle.cu_kernel.specs.declared.local_program.LocalParts.{LocalParts}
use Rattle.cu_kernel.specs.declared.term.Function.{Function}
use Rattle.cu_parts.proofs.LocalBoth.{both_is, is_the_both}
use Rattle.cu_parts.specs.Inside.Joining.{begins, heads_fit, names_fit}
use Rattle.cu_parts.specs.Inside.LocalConjunction.{has_entities, has_values, is_local_both}

-- a table of the functions and constructors of a program's parts has what its heads take
pub parts_heads : (functions : Bor (List Function)) (constructors : Vec Shape Global) (special : Bor Special) (parts : LocalParts)
    → map plain_function (map function_meaning functions.now) ≡ map without_rules (map top_function_meaning parts.functions.items)
    → map shape_meaning constructors.items ≡ constructors_from 0 (map type_meaning parts.types.items) → special.now ≡ parts.special
    → table.heads_program (record { functions = functions; constructors = constructors; special = special }) ≡ heads_program (local_kernel_of parts)
unfolding table.heads_program
parts_heads functions constructors special parts same_functions same_constructors same_special = λ i. record {
  functions = same_functions i;
  constructors = same_constructors i;
  special = same_special i;
}

-- ---- numbers begin with 0

is_first : (kernel : LocalKernel) → begins kernel.start ≡ true → IsFirst kernel
is_first kernel so =
    let s = kernel.start in
    let types = nat_eq s.types 0 in let constructors = nat_eq s.constructors 0 in let functions = nat_eq s.functions 0 in
    let synonyms = nat_eq s.synonyms 0 in let modules = nat_eq s.modules 0 in
    let five = parts_true (types && constructors && functions && synonyms) modules so in
    let four = parts_true (types && constructors && functions) synonyms five.0 in
    let three = parts_true (types && constructors) functions four.0 in
    let two = parts_true types constructors three.0 in record {
      types = eqb-true s.types 0 two.0;
      constructors = eqb-true s.constructors 0 two.1;
      functions = eqb-true s.functions 0 three.1;
      synonyms = eqb-true s.synonyms 0 four.1;
      modules = eqb-true s.modules 0 five.1;
    }

first_is : (kernel : LocalKernel) → IsFirst kernel → begins kernel.start ≡ true
first_is kernel is =
    let s = kernel.start in
    let types = nat_eq s.types 0 in let constructors = nat_eq s.constructors 0 in let functions = nat_eq s.functions 0 in
    let synonyms = nat_eq s.synonyms 0 in let modules = nat_eq s.modules 0 in
    true_parts (types && constructors && functions && synonyms) modules
    (true_parts (types && constructors && functions) synonyms
    (true_parts (types && constructors) functions
    (true_parts types constructors (eq-eqb s.types 0 is.types) (eq-eqb s.constructors 0 is.constructors))
    (eq-eqb s.functions 0 is.functions)) (eq-eqb s.synonyms 0 is.synonyms)) (eq-eqb s.modules 0 is.modules)

-- ---- built-in entities

values_are : (program : calculus.Program) (values : Option ConId) → has_values program values ≡ true → (c : ConId) → values ≡ Some c
    → builds program c 1 ≡ true
values_are program None so c is = let absent : ⊥ = cc in absurd absent
values_are program (Some d) so c is = let same : c ≡ d = cc in ap (λ e. builds program e 1) same ∙ so

are_values : (program : calculus.Program) (values : Option ConId) → ((c : ConId) → values ≡ Some c → builds program c 1 ≡ true)
    → has_values program values ≡ true
are_values program None each = refl
are_values program (Some c) each = each c refl

module _ (kernel : LocalKernel) where
  abbrev program : calculus.Program
  program = heads_program kernel

  abbrev falsity : Bool
  falsity = builds program kernel.special.falsity 0

  abbrev truth : Bool
  truth = builds program kernel.special.truth 0

  abbrev ordered : Bool
  ordered = nat_lt kernel.special.falsity.0 kernel.special.truth.0

  abbrev values : Bool
  values = has_values program kernel.special.values

  abbrev both : Bool
  both = is_local_both kernel.special (slice_get kernel.functions kernel.special.both.0)

  entities_are : has_entities kernel program ≡ true → HasEntities kernel
  entities_are so =
      let five = parts_true (falsity && truth && ordered && values) both so in
      let four = parts_true (falsity && truth && ordered) values five.0 in
      let three = parts_true (falsity && truth) ordered four.0 in
      let two = parts_true falsity truth three.0 in record {
        falsity = two.0;
        truth = two.1;
        ordered = three.1;
        values = values_are program kernel.special.values four.1;
        both = both_is kernel.special (slice_get kernel.functions kernel.special.both.0) five.1;
      }

  are_entities : HasEntities kernel → has_entities kernel program ≡ true
  are_entities has =
      true_parts (falsity && truth && ordered && values) both
      (true_parts (falsity && truth && ordered) values
      (true_parts (falsity && truth) ordered (true_parts falsity truth has.falsity has.truth) has.ordered)
      (are_values program kernel.special.values has.values))
      (is_the_both kernel.special (slice_get kernel.functions kernel.special.both.0) has.both.0 has.both.1 has.both.2)

  -- ---- the whole

  abbrev types : Bool
  types = list_all (type_is_placed kernel) kernel.types

  abbrev synonyms : Bool
  synonyms = list_all (synonym_is_placed kernel) kernel.synonyms

  abbrev marks : Bool
  marks = list_all (mark_is_placed kernel) kernel.marks

  abbrev goal : Bool
  goal = goal_fits kernel kernel.goal

  abbrev functions : Bool
  functions = list_all (function_fits kernel) kernel.functions

  pub joined_is : begins kernel.start ≡ true → has_first_types kernel.special kernel.types ≡ true → names_fit kernel ≡ true → heads_fit kernel ≡ true
      → IsJoined kernel
  joined_is first first_types names fit =
      let four = parts_true (types && synonyms && marks) goal names in
      let three = parts_true (types && synonyms) marks four.0 in
      let two = parts_true types synonyms three.0 in
      let rest = parts_true (has_entities kernel program) functions fit in record {
        first = is_first kernel first;
        first_types = first_types;
        types = two.0;
        synonyms = two.1;
        functions = rest.1;
        marks = three.1;
        goal = four.1;
        entities = entities_are rest.0;
      }

  pub begins_where_joined : IsJoined kernel → begins kernel.start ≡ true
  begins_where_joined joined = first_is kernel joined.first

  pub names_where_joined : IsJoined kernel → names_fit kernel ≡ true
  names_where_joined joined =
      true_parts (types && synonyms && marks) goal (true_parts (types && synonyms) marks (true_parts types synonyms joined.types joined.synonyms) joined.marks)
      joined.goal

  pub heads_where_joined : IsJoined kernel → heads_fit kernel ≡ true
  heads_where_joined joined = true_parts (has_entities kernel program) functions (are_entities joined.entities) joined.functions

-- both tests, with a table of heads
pub heads_both : (kernel : LocalKernel) (given : calculus.Program) (h r : Bool) → given ≡ heads_program kernel → h ≡ has_entities kernel given
    → h ≡ true → r ≡ list_all (function_fits kernel) kernel.functions → r ≡ heads_fit kernel
heads_both kernel given h r same entities is functions =
    functions
    ∙ sym (ap (λ b. b && list_all (function_fits kernel) kernel.functions) (ap (has_entities kernel) (sym same) ∙ sym entities ∙ is))

pub heads_none : (kernel : LocalKernel) (given : calculus.Program) (h : Bool) → given ≡ heads_program kernel → h ≡ has_entities kernel given
    → h ≡ false → false ≡ heads_fit kernel
heads_none kernel given h same entities isnt =
    sym (ap (λ b. b && list_all (function_fits kernel) kernel.functions) (ap (has_entities kernel) (sym same) ∙ sym entities ∙ isnt))

-- the last test decides
pub joined_decided : (kernel : LocalKernel) (result : Result Bool AllocError) → begins kernel.start ≡ true
    → has_first_types kernel.special kernel.types ≡ true → names_fit kernel ≡ true → IfOk result (λ fit. fit ≡ heads_fit kernel)
    → IfOk result (λ fit. IsTrue fit ↔ IsJoined kernel)
joined_decided kernel (Err e) first first_types names fit = tt
joined_decided kernel (Ok b) first first_types names fit =
    (λ h. joined_is kernel first first_types names (sym fit ∙ h), λ joined. fit ∙ heads_where_joined kernel joined)
