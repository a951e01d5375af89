use Rattle.std.proofs.Common.{◌∷◌, [], ap, arith, length}
use Rattle.cu_modules.specs.BuiltInEntities.{prelude_name}
use Rattle.cu_names.proofs.Growth.{known_at, text_of-at}
use Rattle.cu_toplevel.proofs.entities.Entities.new.Goals as goal

pub found-prelude-requires : goal.found-prelude-requires
found-prelude-requires c = c.requires.built_in.modules 0 [] (omega arith)

pub returns : goal.returns
returns c =
    let names = c.args.names.now in
    record {
      differ = c.count-count.ensures.differ;
      declared = c.new.ensures names;
      sets = c.in_ok-set_functions.ensures;
      fixities = c.new-2.ensures names;
      counted = ap length c.new-3.ensures.items;
      starts = λ k within. let no : ⊥ = omega (arith, within) in absurd no;
      tuples = c.in_ok-tuples.ensures;
      prelude = record { known = known_at names c.found-prelude.result prelude_name c.found-prelude.ensures; is = text_of-at names c.found-prelude.result prelude_name c.found-prelude.ensures };
      cons = record { known = known_at names c.found-cons.result (58 ∷ []) c.found-cons.ensures; is = text_of-at names c.found-cons.result (58 ∷ []) c.found-cons.ensures };
    }
