use Rattle.std.proofs.Common.{◌≡◌, refl}
use Rattle.std.specs.Prelude.{All, OnOk, true}
use Rattle.std.proofs.lemmas.Option.{slice_get_read}
use Rattle.cu_peg.specs.Inside.Closure.{marked}
use Rattle.cu_peg.specs.WellFormed.{named}
use Rattle.cu_peg.proofs.ReachLemmas.{same-row}
use Rattle.cu_peg.proofs.reached.reach_row.Goals as goal

pub reach_named-requires : goal.reach_named-requires
reach_named-requires c = c.requires.named c.index-rows-row.result (slice_get_read c.args.rows.now _ c.args.row c.index-rows-row.result refl c.requires.row c.index-rows-row.is)

pub returns-clause-reached : goal.returns-clause-reached
returns-clause-reached c = λ e is.
    same-row c.args.rows.now c.args.row c.index-rows-row.result e (λ x. OnOk c.reach_named.result (All (λ p. marked c.reach_named.new.marks.items p ≡ true) (named x))) (slice_get_read c.args.rows.now _ c.args.row c.index-rows-row.result refl c.requires.row c.index-rows-row.is) is c.reach_named.ensures.reached
