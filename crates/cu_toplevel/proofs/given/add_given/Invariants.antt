use Rattle.std.proofs.Common.{List, ◌++◌, map, take}
use Rattle.cu_names.specs.Texts.{AllDiffer, text_of}
use Rattle.cu_toplevel.specs.Inside.Given.{given_meaning}
use Rattle.cu_toplevel.specs.Listings.{IsListing}
use Rattle.cu_translation.specs.Numbered.{Declared}
use Rattle.cu_toplevel.proofs.given.add_given.Given as goal

abbrev pub invariant-given : goal.invariant-given
invariant-given l = (before : List Declared) → AllDiffer l.names → IsListing l.names before l.fn.listing
    → IsListing l.names (before ++ map (given_meaning (text_of l.names l.owner)) (take l.text-index l.given)) l.listing
