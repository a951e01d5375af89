use Rattle.std.proofs.Common.{◌∙◌, ◌++◌, ap, map}
use Rattle.std.proofs.lemmas.List.{map-append}
use Rattle.cu_translation.specs.Meaning.{binder_meaning}
use Rattle.cu_locals.specs.Places.{positions_meaning}
use Rattle.cu_sites.proofs.numbers.Numbers.of.Goals as goal
use Rattle.cu_sites.specs.Numbered.{binders_meaning}

pub returns : goal.returns
returns c t nodes stands =
    let own = c.as_slice.result.now in
    let last = c.args.last.now in
    record {
      binder_keys = own ++ last;
      place_keys = c.as_slice-2.result.now;
      variables_are = map-append binder_meaning own last ∙ ap (λ bs. bs ++ map binder_meaning last) (ap binders_meaning c.as_slice.ensures.value ∙ c.in_ok-found.ensures t nodes stands);
      functions_are = ap positions_meaning c.as_slice-2.ensures.value ∙ c.in_ok-places.ensures t nodes stands;
      variables_counted = c.in_ok-add_all.ensures own c.in_ok-variables.ensures;
      functions_counted = c.in_ok-functions.ensures;
    }
