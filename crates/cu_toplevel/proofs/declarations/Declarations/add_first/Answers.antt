use Rattle.std.proofs.Common.{◌++◌, subst}
use Rattle.cu_toplevel.specs.Listings.{IsListing}
use Rattle.cu_toplevel.proofs.GivenLemmas.{constructors_for, constructors_there, externals_for, types_for, types_there}
use Rattle.cu_toplevel.proofs.declarations.Declarations.add_first.Goals as goal

pub add_given-requires-clause-there : goal.add_given-requires-clause-there
add_given-requires-clause-there c = types_there c.args.names.now c.requires.built_in

pub add_given-requires-2-clause-there : goal.add_given-requires-2-clause-there
add_given-requires-2-clause-there c = constructors_there c.args.names.now c.requires.built_in

pub add_externals-requires-clause-there : goal.add_externals-requires-clause-there
add_externals-requires-clause-there c = c.requires.built_in.externals

pub returns : goal.returns
returns c = λ before differ has.
    let names = c.args.names.now in
    record {
      types = subst (λ text. IsListing names (before.types ++ types_for text) c.add_given.new.listing) c.requires.prelude (c.in_ok-add_given.ensures before.types differ has.types);
      constructors = subst (λ text. IsListing names (before.constructors ++ constructors_for text) c.add_given-2.new.listing) c.requires.prelude
          (c.in_ok-add_given-2.ensures before.constructors differ has.constructors);
      synonyms = has.synonyms;
      functions = subst (λ text. IsListing names (before.functions ++ externals_for text) c.add_externals.new.listing) c.requires.prelude (c.in_ok-add_externals.ensures before.functions differ has.functions);
    }
