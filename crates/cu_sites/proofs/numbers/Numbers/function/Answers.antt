use Rattle.std.proofs.Common.{◌∙◌, ap}
use Rattle.std.specs.List.{position_or_len}
use Rattle.cu_translation.specs.LocalNames.{same_place}
use Rattle.cu_translation.specs.Meaning.{position_meaning}
use Rattle.cu_sites.proofs.TableLemmas.{place_of_meanings, same_positions}
use Rattle.cu_sites.proofs.numbers.Numbers.function.Goals as goal
use Rattle.cu_sites.specs.Numbered.{same_position}

pub returns : goal.returns
returns c binders functions has =
    let at = c.args.at in
    c.number.ensures has.place_keys has.functions_counted ∙ place_of_meanings position_meaning (same_position at) (same_place (position_meaning at)) (same_positions at) has.place_keys
    ∙ ap (position_or_len (same_place (position_meaning at))) has.functions_are
