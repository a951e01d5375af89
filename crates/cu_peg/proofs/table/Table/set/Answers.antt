use Rattle.cu_peg.proofs.TableLemmas.{set-any, within-filled}
use Rattle.cu_peg.proofs.table.Table.set.Goals as goal

pub set_in-requires : goal.set_in-requires
set_in-requires c =
    let t = c.self.inside in
    within-filled t.certain.items t.entries.items t.begins.items t.filled c.args.self.now c.args.row c.self.invariant c.self.view_is c.requires

pub returns : goal.returns
returns c = λ left count.
    let t = c.self.inside in
    set-any t.certain.items t.entries.items t.begins.items t.filled c.set_in.new.filled c.args.self.now c.args.row left c.args.end c.self.invariant c.self.view_is c.set_in.ensures count
