use Rattle.std.proofs.Common.{◌≡◌, ℕ, ◌+◌, List, subst, length, map, slice_get, Some, get_or, ap, ◌∙◌, refl, arith}
use Rattle.std.proofs.lemmas.List.{length-map, length_push}
use Rattle.std.proofs.lemmas.Option.{slice_get_read}
use Rattle.cu_calculus.proofs.Lists.{get_map}
use Rattle.cu_kernel.specs.LocalKernel.{TopFunction}
use Rattle.cu_kernel.specs.LocalKernelOf.{top_function_meaning}
use Rattle.cu_kernel.specs.declared.local.TopFunction as code
use Rattle.cu_lift.proofs.LiftedPlacing.{length_tops, placements_step}
use Rattle.cu_cycles.proofs.Places.{mapped_at}
use Rattle.cu_names.specs.Texts.{IsKnown}
use Rattle.cu_names.proofs.Growth.{extends-trans, known-extends}
use Rattle.cu_lift.proofs.placing.placements.Goals as goal

pub bounds-numbers-index : goal.bounds-numbers-index
bounds-numbers-index c =
    let fs = map top_function_meaning c.args.functions.now in
    let many = ap length c.requires.numbers ∙ length_tops 0 fs ∙ length-map c.args.functions.now top_function_meaning in
    omega (arith, many)

pub placement-requires : goal.placement-requires
placement-requires c = record {
  known = known-extends c.loop-index.invariant.table c.index-functions-index.result.name
      (c.requires.known c.loop-index.index c.index-functions-index.result
      (slice_get_read c.args.functions.now (length c.args.functions.now) c.loop-index.index c.index-functions-index.result refl c.loop-index-test.true c.index-functions-index.is));
  scoped = c.requires.scoped c.loop-index.index c.index-functions-index.result
      (slice_get_read c.args.functions.now (length c.args.functions.now) c.loop-index.index c.index-functions-index.result refl c.loop-index-test.true c.index-functions-index.is);
}

known_in : (texts : List (List ℕ)) (functions : List code.TopFunction) → ((k : ℕ) (f : code.TopFunction) → slice_get functions k ≡ Some f → IsKnown texts f.name)
    → (k : ℕ) (g : TopFunction) → slice_get (map top_function_meaning functions) k ≡ Some g → IsKnown texts g.name
known_in texts functions known k g at =
    let found = mapped_at top_function_meaning functions k g at in
    subst (λ (h : TopFunction). IsKnown texts h.name) found.2 (known k found.0 found.1)

pub loop-index-preserved : goal.loop-index-preserved
loop-index-preserved c =
    let fs = map top_function_meaning c.args.functions.now in
    let f = c.index-functions-index.result in
    let at = slice_get_read c.args.functions.now (length c.args.functions.now) c.loop-index.index f refl c.loop-index-test.true c.index-functions-index.is in
    record {
      table = extends-trans c.loop-index.invariant.table c.in_ok-placement.ensures.table;
      many = ap length c.in_ok-push.ensures.items ∙ length_push c.loop-index.placements.items c.in_ok-placement.field-0
          ∙ ap (λ n. n + 1) c.loop-index.invariant.many;
      placed = placements_step c.loop-index.names c.placement.new.names fs c.loop-index.placements.items c.push.new.self.items c.loop-index.index
          (get_or c.args.numbers.now c.loop-index.index 0) (top_function_meaning f) c.in_ok-placement.field-0 c.in_ok-placement.ensures.table
          (λ k g there. known-extends c.loop-index.invariant.table g.name (known_in c.args.names.now c.args.functions.now c.requires.known k g there))
          c.loop-index.invariant.many (get_map top_function_meaning c.args.functions.now c.loop-index.index f at)
          (ap (λ xs. get_or xs c.loop-index.index 0) c.requires.numbers) c.loop-index.invariant.placed c.in_ok-placement.ensures.placement
          c.in_ok-push.ensures.items;
    }
