use Rattle.std.proofs.Common.{◌∙◌, ap, length}
use Rattle.cu_peg.specs.Inside.Places.{TableView}
use Rattle.cu_peg.proofs.TableLemmas.{len-some}
use Rattle.cu_peg.proofs.table.Table.len.Goals as goal

pub returns-in-Some : goal.returns-in-Some
returns-in-Some c =
    let t = c.self.inside in
    len-some t.certain.items t.entries.items t.begins.items t.filled _ c.len.result (c.len.ensures ∙ t.begins.ok.0) c.in-Some.is ∙ ap (λ (v : TableView). length v.columns) c.self.view_is
