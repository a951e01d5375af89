use Rattle.std.proofs.Common.{List, ◌++◌, map, take}
use Rattle.cu_names.specs.Texts.{AllDiffer, text_of}
use Rattle.cu_toplevel.specs.Inside.Given.{operation_meaning}
use Rattle.cu_toplevel.specs.Listings.{IsListing}
use Rattle.cu_translation.specs.Numbered.{Declared}
use Rattle.cu_toplevel.proofs.externals.add_externals.Given as goal

abbrev pub invariant-externals : goal.invariant-externals
invariant-externals l = (before : List Declared) → AllDiffer l.names → IsListing l.names before l.fn.listing
    → IsListing l.names (before ++ map (operation_meaning (text_of l.names l.owner)) (take l.text-index l.externals)) l.listing
