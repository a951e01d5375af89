use Rattle.std.proofs.Common.{◌≡◌, List, ◌∷◌, [], ◌++◌, length, map, refl, ◌∙◌, ap, sym}
use Rattle.std.proofs.lemmas.List.{length-map, map_push}
use Rattle.cu_kernel.proofs.Loops.{pushed}
use Rattle.cu_kernel.specs.Kernel.{constructors_of}
use Rattle.cu_kernel.specs.KernelOf as kernel
use Rattle.cu_kernel.specs.TypesOf.{type_of}
use Rattle.cu_kernel.specs.declared.declarations.Constructor.{Constructor}
use Rattle.cu_flat.specs.Meaning.{constructor_meaning}
use Rattle.cu_flat.proofs.Constructing.{next-constructor}
use Rattle.cu_flat.proofs.of.push_constructors.Goals as goal

pub loop-constructor-preserved : goal.loop-constructor-preserved
loop-constructor-preserved c =
    let fields = c.constructor-item.result.fields in
    let count : c.len.result ≡ length (map type_of fields.items) = c.len.ensures ∙ fields.ok.0 ∙ sym (length-map fields.items type_of) in
    let all = λ (cs : List Constructor). constructors_of c.args.place (map kernel.constructor_meaning cs) in (
      (next-constructor c.args.place c.args.constructors.now c.loop-constructor.constructor-index c.constructor-item.result
          c.loop-constructor-test.true c.constructor-item.is c.loop-constructor.invariant.0).1,
      pushed all (λ d. all (d ∷ [])) (λ d ds. refl) c.args.constructors.now c.loop-constructor.constructor-index c.constructor-item.result
          c.loop-constructor-test.true c.constructor-item.is _ _ _
          (ap (map constructor_meaning) c.in_ok-push.ensures.items ∙ map_push constructor_meaning c.loop-constructor.made.items _
          ∙ ap (λ n. map constructor_meaning c.loop-constructor.made.items ++ record { of_type = c.args.place; arity = n } ∷ []) count)
          c.loop-constructor.invariant.1,
    )
