use Rattle.std.proofs.Common.{◌∙◌, ap}
use Rattle.std.specs.List.{position_or_len}
use Rattle.cu_translation.specs.LocalNames.{same_binder}
use Rattle.cu_translation.specs.Meaning.{binder_meaning}
use Rattle.cu_sites.specs.Numbered as numbered
use Rattle.cu_sites.proofs.TableLemmas.{place_of_meanings, same_binders}
use Rattle.cu_sites.proofs.numbers.Numbers.variable.Goals as goal

pub returns : goal.returns
returns c binders functions has =
    let b = c.args.binder in
    c.number.ensures has.binder_keys has.variables_counted ∙ place_of_meanings binder_meaning (numbered.same_binder b) (same_binder (binder_meaning b)) (same_binders b) has.binder_keys
    ∙ ap (position_or_len (same_binder (binder_meaning b))) has.variables_are
