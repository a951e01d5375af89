use Rattle.std.proofs.Common.{◌∙◌, sym}
use Rattle.cu_modules.specs.Inside.Exporting.{is_key}
use Rattle.cu_modules.proofs.ListingLemmas.{all_matched, no_bound, not_matched, one_matched}
use Rattle.cu_modules.proofs.listing.matching.Goals as goal

pub bound-preserved-then-not-is_key : goal.bound-preserved-then-not-is_key
bound-preserved-then-not-is_key c = λ names differ known has.
    let i = c.bound.one-index in
    not_matched names (is_key names c.args.key) c.args.bound.now i no_bound c.bound.found.items c.bound-test.true
    (sym (c.is_key.ensures names differ (known i no_bound c.bound-test.true) has) ∙ c.if-not-is_key.true) (c.bound.invariant names differ known has)

pub bound-preserved : goal.bound-preserved
bound-preserved c = λ names differ known has.
    let i = c.bound.one-index in
    one_matched names (is_key names c.args.key) c.args.bound.now i no_bound c.bound.found.items c.push.new.self.items c.bound-test.true known
    (sym (c.is_key.ensures names differ (known i no_bound c.bound-test.true) has) ∙ c.if-not-is_key.false) c.in_ok-push.ensures.items (c.bound.invariant names differ known has)

pub returns : goal.returns
returns c = λ names differ known has.
    all_matched names (is_key names c.args.key) c.args.bound.now c.bound.one-index c.bound.found.items c.bound-test.false (c.bound.invariant names differ known has)
