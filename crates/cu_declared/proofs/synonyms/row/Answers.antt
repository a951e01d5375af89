use Rattle.std.proofs.Common.{◌++◌, ap, get_or, subst}
use Rattle.std.proofs.lemmas.List.Elements.{All-get_or}
use Rattle.cu_declared.specs.Inside.Gathered.{UseIsOf, uses_meaning}
use Rattle.cu_declared.specs.Inside.Synonyms.{targets}
use Rattle.cu_declared.specs.Inside.Told.{bindings_of}
use Rattle.cu_declared.proofs.ArityLemmas.{get_or_any, no_use}
use Rattle.cu_declared.proofs.SynonymLemmas.{row_end, row_more, row_none}
use Rattle.cu_declared.proofs.synonyms.row.Goals as goal

pub uses-init : goal.uses-init
uses-init c w kept at all have = ap (λ xs. xs ++ targets kept (bindings_of w) (uses_meaning w.names c.args.uses.now)) c.new-row.ensures.items

pub uses-preserved-in_default : goal.uses-preserved-in_default
uses-preserved-in_default c w kept at all have =
    let of = subst (UseIsOf w.owner w.names) (get_or_any c.args.uses.now c.uses.used-index (get_or c.args.uses.now c.uses.used-index no_use) no_use c.uses-test.true) (All-get_or (UseIsOf w.owner w.names) c.args.uses.now c.uses.used-index (get_or c.args.uses.now c.uses.used-index no_use) c.uses-test.true all) in
    row_none w.names kept (bindings_of w) c.args.uses.now c.uses.used-index (get_or c.args.uses.now c.uses.used-index no_use) c.uses.row.items (targets kept (bindings_of w) (uses_meaning w.names c.args.uses.now)) c.target.result (get_or_any c.args.uses.now c.uses.used-index no_use (get_or c.args.uses.now c.uses.used-index no_use) c.uses-test.true) c.uses-test.true
    (c.target.ensures w kept at of have) c.in_default.is (c.uses.invariant w kept at all have)

pub uses-preserved : goal.uses-preserved
uses-preserved c w kept at all have =
    let of = subst (UseIsOf w.owner w.names) (get_or_any c.args.uses.now c.uses.used-index (get_or c.args.uses.now c.uses.used-index no_use) no_use c.uses-test.true) (All-get_or (UseIsOf w.owner w.names) c.args.uses.now c.uses.used-index (get_or c.args.uses.now c.uses.used-index no_use) c.uses-test.true all) in
    row_more w.names kept (bindings_of w) c.args.uses.now c.uses.used-index (get_or c.args.uses.now c.uses.used-index no_use) c.uses.row.items c.push.new.self.items (targets kept (bindings_of w) (uses_meaning w.names c.args.uses.now)) c.target.result c.in-Some.target
    (get_or_any c.args.uses.now c.uses.used-index no_use (get_or c.args.uses.now c.uses.used-index no_use) c.uses-test.true) c.uses-test.true (c.target.ensures w kept at of have) c.in-Some.is c.in_ok-push.ensures.items (c.uses.invariant w kept at all have)

pub returns : goal.returns
returns c w kept at all have =
    row_end w.names kept (bindings_of w) c.args.uses.now c.uses.used-index c.uses.row.items (targets kept (bindings_of w) (uses_meaning w.names c.args.uses.now)) c.uses-test.false (c.uses.invariant w kept at all have)
