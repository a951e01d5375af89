use Rattle.cu_lift.proofs.captures.survey_of.Goals as goal
use Rattle.std.proofs.Common.{◌≡◌, ◌<◌, ◌+◌, ◌∷◌, ◌∙◌, [], List, ap, length, length-append, map, refl, sym, subst, arith}
use Rattle.std.proofs.lemmas.Option.{slice_get_read}
use Rattle.cu_kernel.specs.LocalKernelOf.{local_rule_meaning}
use Rattle.cu_kernel.specs.declared.local.LocalRule.{LocalRule}
use Rattle.cu_lift.proofs.Surveying.{locals_next, no_local, owned_next}
use Rattle.cu_lift.specs.Inside.Capturing.{AllOwned, AreLocals, IsLocal, rules_parts}
use Rattle.cu_lift.specs.declared.captures.Local.{Local}
use Rattle.cu_lift.specs.declared.captures.Part.{Part}

pub loop-function-init : goal.loop-function-init
loop-function-init c = (
  ap length c.new-locals.ensures.items,
  λ k f l e d. absurd (no_local c.new-locals.result.items k l c.new-locals.ensures.items d),
  λ k x l e owns. absurd (no_local c.new-locals.result.items k l c.new-locals.ensures.items e),
)

pub loop-function-preserved : goal.loop-function-preserved
loop-function-preserved c =
    let functions = c.args.functions.now in
    let i = c.loop-function.function-index in
    let low : i < length functions = omega arith in
    let f = c.function-item.result in
    let at = slice_get_read functions (length functions) i f refl low c.function-item.is in
    let size : length c.loop-function.locals.items ≡ i = c.loop-function.invariant.0 in
    let pushed = c.in_ok-push.ensures.items in
    let parts = c.in_ok-parts.ensures ∙ ap (λ (xs : List LocalRule). rules_parts (map local_rule_meaning xs)) c.as_slice.ensures.value in
    let local = subst (λ (xs : List Part). IsLocal xs c.in_ok-local.local) (c.as_slice-in-loop-function.ensures.value ∙ parts) c.in_ok-local.ensures in
    let longer : length c.push.new.self.items ≡ length c.loop-function.locals.items + 1 =
    ap length pushed ∙ length-append c.loop-function.locals.items (c.in_ok-local.local ∷ []) in
    let sized : length c.push.new.self.items ≡ i + 1 = omega arith in (
      sized,
      subst (λ (xs : List Local). AreLocals functions xs) (sym pushed)
          (locals_next functions c.loop-function.locals.items i f c.in_ok-local.local at size local c.loop-function.invariant.1),
      subst (λ (xs : List Local). AllOwned xs c.add_owned.new.variables.keys) (sym pushed)
          (owned_next c.loop-function.locals.items c.loop-function.variables.keys c.add_owned.new.variables.keys c.in_ok-local.local
          c.in_ok-add_owned.ensures.keeps c.in_ok-add_owned.ensures.owned c.loop-function.invariant.2),
    )

pub returns : goal.returns
returns c =
    let size : length c.loop-function.locals.items ≡ c.loop-function.function-index = c.loop-function.invariant.0 in
    record { sized = omega arith; locals = c.loop-function.invariant.1; owned = c.loop-function.invariant.2 }
