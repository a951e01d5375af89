use Rattle.std.proofs.Common.{◌≡◌, ◌++◌, ap, List, subst, sym}
use Rattle.std.specs.List.{All}
use Rattle.std.proofs.lemmas.List.Elements.{All-get_or}
use Rattle.cu_cycles.specs.Graph.{rows_in}
use Rattle.cu_declared.specs.declared.found.TypeUse.{TypeUse}
use Rattle.cu_declared.specs.Inside.Gathered.{UseIsOf, uses_meaning}
use Rattle.cu_declared.specs.Inside.Synonyms.{SynonymIsOf, targets}
use Rattle.cu_declared.specs.Inside.Told.{bindings_of}
use Rattle.cu_declared.proofs.SynonymLemmas.{rows_end, rows_left, rows_more}
use Rattle.cu_declared.proofs.synonyms.graph.Goals as goal

pub loop-synonym-init : goal.loop-synonym-init
loop-synonym-init c w kept at all have = ap (λ xs. rows_in xs ++ rows_left w.names kept (bindings_of w) c.args.synonyms.now) c.new-rows.ensures.items

pub loop-synonym-preserved : goal.loop-synonym-preserved
loop-synonym-preserved c w kept at all have =
    let of = subst (SynonymIsOf w.owner w.names) (sym c.synonym-item.is) (All-get_or (SynonymIsOf w.owner w.names) c.args.synonyms.now c.loop-synonym.synonym-index c.synonym-item.result c.loop-synonym-test.true all) in
    let row_is =
    subst (λ (us : List TypeUse). All (UseIsOf w.owner w.names) us → c.in_ok-row.row.items ≡ targets kept (bindings_of w) (uses_meaning w.names us)) c.as_slice.ensures.value
    (λ all_of. c.in_ok-row.ensures w kept at all_of have) of.uses in
    rows_more w.names kept (bindings_of w) c.args.synonyms.now c.loop-synonym.synonym-index c.synonym-item.result c.loop-synonym.rows.items c.push.new.self.items c.in_ok-row.row (rows_left w.names kept (bindings_of w) c.args.synonyms.now)
    c.synonym-item.is c.loop-synonym-test.true row_is c.in_ok-push.ensures.items (c.loop-synonym.invariant w kept at all have)

pub returns : goal.returns
returns c w kept at all have =
    rows_end w.names kept (bindings_of w) c.args.synonyms.now c.loop-synonym.synonym-index (rows_in c.loop-synonym.rows.items) (rows_left w.names kept (bindings_of w) c.args.synonyms.now) c.loop-synonym-test.false
    (c.loop-synonym.invariant w kept at all have)
