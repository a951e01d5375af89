use Rattle.std.proofs.Common.{subst, sym}
use Rattle.std.proofs.lemmas.List.Elements.{All-get_or}
use Rattle.cu_syntax.specs.Owners.{QualifierIsOf}
use Rattle.cu_translation.specs.Sites.{past_all}
use Rattle.cu_sites.specs.Inside.Walked.{qualifiers_of}
use Rattle.cu_sites.proofs.SpotLemmas.{past_end, past_more, past_start}
use Rattle.cu_sites.proofs.sites.Sites.past_all.Goals as goal

pub loop-q-init : goal.loop-q-init
loop-q-init c t spot is all = past_start t c.args.self.now c.args.at spot c.args.qualifiers.now is

pub loop-q-preserved : goal.loop-q-preserved
loop-q-preserved c t spot is all =
    let qs = c.args.qualifiers.now in
    let of = subst (QualifierIsOf t.owner t.names) (sym c.q-item.is) (All-get_or (QualifierIsOf t.owner t.names) qs c.loop-q.q-index c.q-item.result c.loop-q-test.true all) in
    past_more t c.args.self.now c.loop-q.self c.past.new.self (past_all (qualifiers_of t.names qs) spot) qs c.loop-q.q-index c.q-item.result c.loop-q.inner c.in_ok-inner.inner c.q-item.is c.loop-q-test.true
    (c.loop-q.invariant t spot is all) (λ s at. c.in_ok-inner.ensures t s at of)

pub returns : goal.returns
returns c t spot is all =
    past_end t c.args.self.now c.loop-q.self (past_all (qualifiers_of t.names c.args.qualifiers.now) spot) c.args.qualifiers.now c.loop-q.q-index c.loop-q.inner c.loop-q-test.false (c.loop-q.invariant t spot is all)
