use Rattle.std.proofs.Common.{refl, subst, sym}
use Rattle.std.proofs.lemmas.List.Elements.{All-get_or}
use Rattle.cu_syntax.specs.Owners.{DeclarationIsOf}
use Rattle.cu_locals.proofs.EntryLemmas.{found_all, found_more, found_none}
use Rattle.cu_locals.proofs.entries.block_entries.Goals as goal

pub loop-d-init : goal.loop-d-init
loop-d-init c t all = found_none t c.args.ds.now _ c.new.ensures.items refl

pub loop-d-preserved : goal.loop-d-preserved
loop-d-preserved c t all =
    let before = c.loop-d.invariant t all in
    found_more t c.args.ds.now c.loop-d.d-index c.d-item.result c.loop-d.block c.declaration.new.self c.d-item.is c.loop-d-test.true before
    (c.in_ok-declaration.ensures t (record { begun = before.before.known })
    (subst (DeclarationIsOf t.owner t.names) (sym c.d-item.is) (All-get_or (DeclarationIsOf t.owner t.names) c.args.ds.now c.loop-d.d-index c.d-item.result c.loop-d-test.true all)))

pub returns : goal.returns
returns c t all = found_all t c.args.ds.now c.loop-d.d-index c.loop-d.block c.loop-d-test.false (c.loop-d.invariant t all)
