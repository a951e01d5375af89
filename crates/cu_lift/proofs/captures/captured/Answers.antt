use Rattle.std.proofs.Common.{rules, ◌≡◌, ◌<◌, ◌∷◌, ◌∙◌, ℕ, List, Bool, ap, length, refl, subst, arith}
use Rattle.cu_kernel.specs.LocalKernelOf.{top_function_meaning}
use Rattle.cu_kernel.specs.declared.local.LocalFunction.{LocalFunction}
use Rattle.cu_lift.proofs.CaptureLaws.{are_captured}
use Rattle.cu_lift.proofs.Elements.{all_above}
use Rattle.cu_lift.proofs.SetSteps.{sets_next, sets_none}
use Rattle.cu_lift.proofs.SortSteps.{popped_none}
use Rattle.cu_lift.specs.Inside.Capturing.{AreLocals, AreMet, Pushes, SetsTo}
use Rattle.cu_lift.specs.declared.captures.Local.{Local}
use Rattle.cu_lift.proofs.captures.captured.Goals as goal

pub loop-x-init : goal.loop-x-init
loop-x-init c =
    let size : Rattle.std.specs.Vec.vec_len c.in_ok-locals.field-0.locals ≡ length c.in_ok-locals.field-0.locals.items = search rules in
    sets_none c.in_ok-locals.field-0.locals.items c.in_ok-locals.field-0.variables.keys c.in_ok-sets.sets.items (c.in_ok-sets.ensures.sized ∙ c.len.ensures ∙ size)
    c.in_ok-sets.ensures.empty c.in_ok-locals.ensures.owned

pub push_captured-requires : goal.push_captured-requires
push_captured-requires c =
    let met : length c.as_slice-in-Some-3.result.now ≡ length c.in_ok-met.met.items = ap length c.as_slice-in-Some-3.ensures.value in
    let a : length c.in_ok-met.met.items ≡ length c.as_slice-in-Some.result.now = c.in_ok-met.ensures.sized in
    let b : length c.as_slice-in-Some.result.now ≡ length c.in_ok-locals.field-0.locals.items = ap length c.as_slice-in-Some.ensures.value in
    let d = c.loop-x.invariant.sized in
    omega arith

pub loop-x-preserved : goal.loop-x-preserved
loop-x-preserved c =
    let locals = c.in_ok-locals.field-0.locals.items in
    let met = subst (λ (xs : List Local). AreMet xs c.in-Some.x c.in_ok-met.met.items) c.as_slice-in-Some.ensures.value c.in_ok-met.ensures in
    let pushes =
    subst (λ (xs : List Bool). Pushes xs c.in-Some.x (length xs) c.loop-x.sets.items c.push_captured.new.sets.items) c.as_slice-in-Some-3.ensures.value
    c.in_ok-push_captured.ensures in
    sets_next locals c.loop-x.variables.keys c.pop_first.new.self.keys c.in-Some.x c.in_ok-met.met.items c.loop-x.sets.items
    c.push_captured.new.sets.items c.loop-x.invariant c.in-Some.ensures.removal
    (all_above c.in-Some.x c.pop_first.new.self.keys c.in-Some.ensures.all_above) met pushes

pub loop-x-smaller : goal.loop-x-smaller
loop-x-smaller c =
    let shorter : length c.loop-x.variables.keys ≡ length (c.in-Some.x ∷ c.pop_first.new.self.keys) = ap length c.in-Some.ensures.removal in
    let less : length c.pop_first.new.self.keys < length c.loop-x.variables.keys = omega arith in
    less

pub returns : goal.returns
returns c =
    let locals = c.in_ok-locals.field-0.locals.items in
    let functions = c.args.function.now.locals.items in
    let none = popped_none c.pop_first.result c.loop-x.variables.keys c.pop_first.ensures.variant.1 c.in_default.not-Some in
    let to = subst (λ (xs : List ℕ). SetsTo locals xs c.loop-x.sets.items) none c.loop-x.invariant in
    let sized : length locals ≡ length functions = c.in_ok-locals.ensures.sized ∙ ap length c.as_slice.ensures.value in
    let are = subst (λ (xs : List LocalFunction). AreLocals xs locals) c.as_slice.ensures.value c.in_ok-locals.ensures.locals in record {
      sized = c.loop-x.invariant.sized ∙ sized;
      captured = are_captured (top_function_meaning c.args.function.now) functions locals c.requires refl sized are c.loop-x.sets.items to;
    }
