use Rattle.std.proofs.Common.{◌∙◌}
use Rattle.cu_sites.proofs.TableLemmas.{place_or_all}
use Rattle.cu_sites.proofs.numbers.PlaceTable.number.Goals as goal
use Rattle.cu_sites.specs.Numbered.{same_position}

pub returns : goal.returns
returns c = λ keys has.
    c.unwrap_or.ensures ∙ place_or_all (same_position c.args.place) keys c.copied.result c.args.self.now.count (c.copied.ensures ∙ c.get.ensures.value ∙ has.found c.args.place) has.counted
