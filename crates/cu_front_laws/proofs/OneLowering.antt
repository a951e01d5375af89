-- Lowering gives one flat program, or one function that is too big.
use Rattle.std.proofs.Common.{◌≡◌, ℕ, ◌<◌, ◌≤◌, Result, Ok, Err, Some, slice_get, refl, subst, arith}
use Rattle.cu_calculus.specs.Program.{Function, Program, function_of}
use Rattle.cu_calculus.specs.declared.FunId.{FunId}
use Rattle.cu_deftree.specs.LoweredProgram as lowered
use Rattle.cu_deftree.specs.LoweredProgram.{Flattens, Lowering, body_size, most_expressions}
use Rattle.cu_front_laws.proofs.OneRecursion.{one_function}

-- a program has at most one flat program
abbrev pub FlatProgramsAgree : Type 0
FlatProgramsAgree = (program flat other : Program) → Flattens program flat → Flattens program other → flat ≡ other

record IsSmall (program flat : Program) : Type 0 where
  flattens : Flattens program flat
  small : (k : ℕ) (function : Function) → slice_get flat.functions k ≡ Some function → body_size function.body ≤ most_expressions

record IsTooBig (program : Program) (f : FunId) : Type 0 where
  flat : Program
  function : Function
  flattens : Flattens program flat
  is_function : function_of flat f ≡ Some function
  big : most_expressions < body_size function.body
  before : (k : ℕ) (other : Function) → k < f.0 → slice_get flat.functions k ≡ Some other → body_size other.body ≤ most_expressions

small_at : (program flat : Program) (r : Result Program FunId) → Lowering program r → r ≡ Ok flat → IsSmall program flat
small_at program flat _ (lowered.flat made flattens small) e =
    let same : made ≡ flat = cc in
    subst (λ (p : Program). IsSmall program p) same (record { flattens = flattens; small = small })
small_at program flat _ (lowered.too_big made f function flattens there big before) e = let no : ⊥ = cc in absurd no

big_at : (program : Program) (f : FunId) (r : Result Program FunId) → Lowering program r → r ≡ Err f → IsTooBig program f
big_at program f _ (lowered.flat made flattens small) e = let no : ⊥ = cc in absurd no
big_at program f _ (lowered.too_big made g function flattens there big before) e =
    let same : g ≡ f = cc in
    subst (λ (h : FunId). IsTooBig program h) same
    (record { flat = made; function = function; flattens = flattens; is_function = there; big = big; before = before })

not_both : (most size : ℕ) → most < size → size ≤ most → ⊥
not_both most size big small = omega arith

module _ (agree : FlatProgramsAgree) where
  pub one_flat : (program flat other : Program) → Lowering program (Ok flat) → Lowering program (Ok other) → flat ≡ other
  one_flat program flat other one two =
      let small = small_at program flat (Ok flat) one refl in
      let small_too = small_at program other (Ok other) two refl in
      agree program flat other small.flattens small_too.flattens

  pub flat_or_too_big : (program flat : Program) (f : FunId) → Lowering program (Ok flat) → Lowering program (Err f) → ⊥
  flat_or_too_big program flat f one two =
      let small = small_at program flat (Ok flat) one refl in
      let big = big_at program f (Err f) two refl in
      let same = agree program big.flat flat big.flattens small.flattens in
      not_both most_expressions (body_size big.function.body) big.big
      (small.small f.0 big.function (subst (λ (p : Program). slice_get p.functions f.0 ≡ Some big.function) same big.is_function))

  earlier : (program : Program) (f g : FunId) → IsTooBig program f → IsTooBig program g → f.0 < g.0 → ⊥
  earlier program f g one two less =
      let same = agree program one.flat two.flat one.flattens two.flattens in
      not_both most_expressions (body_size one.function.body) one.big
      (two.before f.0 one.function less (subst (λ (p : Program). slice_get p.functions f.0 ≡ Some one.function) same one.is_function))

  pub one_too_big : (program : Program) (f g : FunId) → Lowering program (Err f) → Lowering program (Err g) → f ≡ g
  one_too_big program f g one two =
      let big = big_at program f (Err f) one refl in
      let big_too = big_at program g (Err g) two refl in
      one_function f g (earlier program f g big big_too) (earlier program g f big_too big)
