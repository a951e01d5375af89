-- Lookups in a table of heads are those in its program.
use Rattle.std.proofs.Common.{◌≡◌, ℕ, ◌<◌, ◌≤◌, None, Some, List, ◌++◌, append_assoc, drop, get_or, length, map, option_map, refl, sym, ◌∙◌, ap, ◌+◌}
use Rattle.std.proofs.lemmas.Option.{slice_get-map, slice_get_past, slice_get_read}
use Rattle.cu_calculus.specs.Program as calculus
use Rattle.cu_calculus.specs.declared.ConId.{ConId}
use Rattle.cu_calculus.specs.declared.FunId.{FunId}
use Rattle.cu_calculus.specs.declared.Head.TheVariants as head
use Rattle.cu_kernel.specs.Heads.{heads_program, shape_meaning}
use Rattle.cu_kernel.specs.Kernel.{constructors_from, constructors_of, plain_function, program_of}
use Rattle.cu_kernel.specs.KernelOf.{constructor_meaning, function_meaning, kernel_of, type_meaning}
use Rattle.cu_kernel.specs.declared.heads.Heads.{Heads}
use Rattle.cu_kernel.specs.declared.heads.Shape.{Shape}
use Rattle.cu_kernel.specs.declared.term.Function.{Function}
use Rattle.cu_kernel.specs.declared.declarations.DataType.{DataType}
use Rattle.cu_kernel.specs.declared.program.ProgramParts.{ProgramParts}
use Rattle.cu_calculus.specs.declared.builtin.Special.{Special}
use Rattle.std.specs.declared.alloc.Global.{Global}
use Rattle.std.specs.declared.vec.Vec.{Vec}
use denote.Ref.{Bor}
use Rattle.cu_kernel.proofs.Loops.{left}

pub function_at : (heads : Heads) (f : FunId) (g : Function) → f.0 < length heads.functions.now → g ≡ get_or heads.functions.now f.0 g
    → calculus.function_of (heads_program heads) f ≡ Some (plain_function (function_meaning g))
unfolding heads_program
function_at heads f g below is =
    let fs = heads.functions.now in
    slice_get-map plain_function _ f.0 ∙ ap (option_map plain_function)
    (slice_get-map function_meaning fs f.0 ∙ ap (option_map function_meaning) (slice_get_read fs (length fs) f.0 g refl below is))

pub function_past : (heads : Heads) (f : FunId) → length heads.functions.now ≤ f.0 → calculus.function_of (heads_program heads) f ≡ None
unfolding heads_program
function_past heads f past =
    let fs = heads.functions.now in
    slice_get-map plain_function _ f.0 ∙ ap (option_map plain_function)
    (slice_get-map function_meaning fs f.0 ∙ ap (option_map function_meaning) (slice_get_past fs f.0 past))

pub function_found : (heads : Heads) (f : FunId) (g : Function) → f.0 < length heads.functions.now → g ≡ get_or heads.functions.now f.0 g
    → Some g.arity ≡ calculus.arity_in (heads_program heads) (head.Fun f)
function_found heads f g below is = sym (ap (option_map (λ h. h.arity)) (function_at heads f g below is))

pub function_missing : (heads : Heads) (f : FunId) → length heads.functions.now ≤ f.0
    → None ≡ calculus.arity_in (heads_program heads) (head.Fun f)
function_missing heads f past = sym (ap (option_map (λ h. h.arity)) (function_past heads f past))

pub constructor_found : (heads : Heads) (c : ConId) (s : Shape) → c.0 < length heads.constructors.items → s ≡ get_or heads.constructors.items c.0 s
    → Some s.arity ≡ calculus.arity_in (heads_program heads) (head.Con c)
unfolding heads_program
constructor_found heads c s below is =
    let cs = heads.constructors.items in
    sym (ap (option_map (λ h. h.arity)) (slice_get-map shape_meaning cs c.0
    ∙ ap (option_map shape_meaning) (slice_get_read cs (length cs) c.0 s refl below is)))

pub constructor_missing : (heads : Heads) (c : ConId) → length heads.constructors.items ≤ c.0
    → None ≡ calculus.arity_in (heads_program heads) (head.Con c)
unfolding heads_program
constructor_missing heads c past =
    let cs = heads.constructors.items in
    sym (ap (option_map (λ h. h.arity)) (slice_get-map shape_meaning cs c.0 ∙ ap (option_map shape_meaning) (slice_get_past cs c.0 past)))

-- a loop that pushes the constructors of each type
pub types_pushed : (ts : List DataType) (i : ℕ) (t : DataType) → i < length ts → t ≡ get_or ts i t
    → (done new whole : List calculus.Constructor) → new ≡ done ++ constructors_of i (map constructor_meaning t.constructors.items)
    → done ++ constructors_from i (map type_meaning (drop i ts)) ≡ whole
    → new ++ constructors_from (i + 1) (map type_meaning (drop (i + 1) ts)) ≡ whole
types_pushed ts i t below is done new whole more before =
    ap (λ cs. cs ++ constructors_from (i + 1) (map type_meaning (drop (i + 1) ts))) more
    ∙ append_assoc done (constructors_of i (map constructor_meaning t.constructors.items)) _
    ∙ ap (λ us. done ++ constructors_from i (map type_meaning us)) (sym (left ts i t below is)) ∙ before

-- a table of the functions and constructors of a program's parts has that program
pub parts_program : (functions : Bor (List Function)) (constructors : Vec Shape Global) (special : Bor Special) (parts : ProgramParts)
    → functions.now ≡ parts.functions.items → map shape_meaning constructors.items ≡ constructors_from 0 (map type_meaning parts.types.items)
    → special.now ≡ parts.special
    → heads_program (record { functions = functions; constructors = constructors; special = special }) ≡ program_of (kernel_of parts)
unfolding heads_program program_of
parts_program functions constructors special parts same_functions same_constructors same_special = λ i. record {
  functions = map plain_function (map function_meaning (same_functions i));
  constructors = same_constructors i;
  special = same_special i;
}

pub special_is : (heads : Heads) → heads.special.now ≡ (heads_program heads).special
unfolding heads_program
special_is heads = refl
