use Rattle.std.proofs.Common.{◌≡◌, ℕ, ◌+◌, List, length, map, reverse, slice_get, Some, ap, sym, ◌∙◌, subst}
use Rattle.std.proofs.lemmas.List.{length-map}
use Rattle.std.specs.declared.alloc.Global.{Global}
use Rattle.std.specs.declared.vec.Vec.{Vec}
use Rattle.cu_kernel.specs.Captures.{AreCaptured}
use Rattle.cu_kernel.specs.LocalKernelOf.{local_function_meaning, top_function_meaning}
use Rattle.cu_kernel.specs.declared.local.LocalFunction.{LocalFunction}
use Rattle.cu_lift.proofs.LiftedPlacing.{AreLifted, numbers_after, order_below, placement_made}
use Rattle.cu_cycles.proofs.Places.{mapped_at}
use Rattle.cu_lift.specs.Inside.LiftedPlaces.{AreBelow, AreNames, AreRows, entry_of, row_items}
use Rattle.cu_lift.specs.Lifting.{in_order}
use Rattle.cu_lift.specs.declared.local_order.Entry.{Entry}
use Rattle.cu_names.specs.Texts.{text_of}
use Rattle.cu_lift.proofs.placing.placement.Goals as goal

sorted_in : (order : List Entry) (slice locals : List LocalFunction) → slice ≡ locals → reverse order ≡ map entry_of (in_order (map local_function_meaning slice))
    → reverse order ≡ map entry_of (in_order (map local_function_meaning locals))
sorted_in order slice locals same sorted = sorted ∙ ap (λ fs. map entry_of (in_order (map local_function_meaning fs))) same

rows_are : (locals : List LocalFunction) (sets : List (Vec ℕ Global)) → length sets ≡ length locals
    → ((k : ℕ) (set : Vec ℕ Global) → slice_get sets k ≡ Some set → AreCaptured (map local_function_meaning locals) k set.items)
    → AreRows (map local_function_meaning locals) (row_items sets)
rows_are locals sets sized captured = record {
  as_many = length-map sets (λ (row : Vec ℕ Global). row.items) ∙ sized ∙ sym (length-map locals local_function_meaning);
  each = λ k row at.
      let found = mapped_at (λ (set : Vec ℕ Global). set.items) sets k row at in
      subst (λ (xs : List ℕ). AreCaptured (map local_function_meaning locals) k xs) found.2 (captured k found.0 found.1);
}

pub lifted_numbers-requires-clause-below : goal.lifted_numbers-requires-clause-below
lifted_numbers-requires-clause-below c =
    let locals = c.args.function.now.locals.items in
    let sorted = sorted_in c.in_ok-order.order.items c.as_slice-locals.result.now locals c.as_slice-locals.ensures.value c.in_ok-order.ensures in
    subst (λ (xs : List Entry). AreBelow (length xs) xs) (sym c.as_slice-2.ensures.value)
    (order_below c.in_ok-order.order.items (map local_function_meaning locals) sorted)

pub local_names-requires-clause-after : goal.local_names-requires-clause-after
local_names-requires-clause-after c =
    let locals = c.args.function.now.locals.items in
    let sorted = sorted_in c.in_ok-order.order.items c.as_slice-locals.result.now locals c.as_slice-locals.ensures.value c.in_ok-order.ensures in
    let lifted = subst (λ (xs : List Entry). AreLifted c.in_ok-numbers.numbers.items xs (c.args.number + 1)) c.as_slice-2.ensures.value c.in_ok-numbers.ensures in
    λ k n at. numbers_after c.in_ok-order.order.items (map local_function_meaning locals) c.args.number c.in_ok-numbers.numbers.items sorted lifted k n
    (subst (λ (xs : List ℕ). slice_get xs k ≡ Some n) c.as_slice-3.ensures.value at)

pub returns-clause-placement : goal.returns-clause-placement
returns-clause-placement c =
    let locals = c.args.function.now.locals.items in
    let sorted = sorted_in c.in_ok-order.order.items c.as_slice-locals.result.now locals c.as_slice-locals.ensures.value c.in_ok-order.ensures in
    let lifted = subst (λ (xs : List Entry). AreLifted c.in_ok-numbers.numbers.items xs (c.args.number + 1)) c.as_slice-2.ensures.value c.in_ok-numbers.ensures in
    placement_made c.args.names.now c.local_names.new.names c.args.number (top_function_meaning c.args.function.now) c.in_ok-order.order.items
    (record { ordered = c.in_ok-ordered.ordered; numbers = c.in_ok-numbers.numbers; end = c.in_ok-end.end; captured = c.in_ok-captured.captured; names = c.in_ok-ids.ids })
    c.in_ok-ids.ensures.table c.requires.known sorted (c.in_ok-end.ensures ∙ ap (λ n. c.args.number + 1 + n) (c.len.ensures ∙ (sym c.as_slice-2.ensures.len ∙ ap length c.as_slice-2.ensures.value)))
    (c.in_ok-ordered.ensures ∙ ap (λ (xs : List Entry). map (λ e. e.number) (reverse xs)) c.as_slice.ensures.value) lifted
    (rows_are locals c.in_ok-captured.captured.items c.in_ok-captured.ensures.sized c.in_ok-captured.ensures.captured)
    (subst (λ (xs : List ℕ). AreNames c.local_names.new.names (text_of c.args.names.now c.args.function.now.name) c.args.number xs c.in_ok-ids.ids.items)
    c.as_slice-3.ensures.value c.in_ok-ids.ensures.names)
