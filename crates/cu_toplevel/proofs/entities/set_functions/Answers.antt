use Rattle.std.proofs.Common.{◌++◌, [], arith, subst}
use Rattle.cu_modules.specs.BuiltInEntities.{set_function_names, set_functions_name}
use Rattle.cu_names.proofs.Growth.{known_at, text_of-at}
use Rattle.cu_toplevel.specs.Listings.{IsListing}
use Rattle.cu_toplevel.proofs.GivenLemmas.{sets_for}
use Rattle.cu_toplevel.proofs.entities.set_functions.Goals as goal

pub found-owner-requires : goal.found-owner-requires
found-owner-requires c = c.requires.built_in.modules 1 [] (omega arith)

pub add_given-requires-clause-known : goal.add_given-requires-clause-known
add_given-requires-clause-known c = known_at c.args.names.now c.found-owner.result set_functions_name c.found-owner.ensures

pub returns : goal.returns
returns c =
    let names = c.args.names.now in
    subst (λ text. IsListing names ([] ++ sets_for text 0 set_function_names) c.add_given.new.listing) (text_of-at names c.found-owner.result set_functions_name c.found-owner.ensures)
    (c.in_ok-add_given.ensures [] c.count-count.ensures.differ (c.new-listing.ensures names))
