use Rattle.std.proofs.Common.{◌≡◌, ◌<◌, ◌≤◌, ◌∙◌, sym, ap, arith, length}
use Rattle.cu_peg.specs.Inside.Ends.{end_at}
use Rattle.cu_peg.specs.Inside.Places.{TableView, cell, span_at}
use Rattle.cu_peg.proofs.TableLemmas.{end-filled, end-kept, end-past, end-wide}
use Rattle.cu_peg.proofs.table.Table.end.Goals as goal

pub returns-then-row-len : goal.returns-then-row-len
returns-then-row-len c =
    let t = c.self.inside in
    let inside : c.args.left < length t.begins.items = omega (arith, c.if-left-len.true, c.len.ensures, t.begins.ok.0) in
    let past : length t.certain.items ≤ c.args.row = omega (arith, c.if-row-len.true, c.len-then-left-len.ensures, t.certain.ok.0) in
    sym (end-wide t.certain.items t.entries.items t.begins.items t.filled c.args.row c.args.left inside past) ∙ ap (λ (v : TableView). end_at v.columns c.args.row c.args.left) c.self.view_is

pub returns-then-left-len : goal.returns-then-left-len
returns-then-left-len c =
    let t = c.self.inside in
    let inside : c.args.left < length t.begins.items = omega (arith, c.if-left-len.true, c.len.ensures, t.begins.ok.0) in
    let within : c.args.row < length t.certain.items = omega (arith, c.if-row-len.false, c.len-then-left-len.ensures, t.certain.ok.0) in
    c.end_in.ensures
    ∙ (λ j. cell (c.as_slice-then-left-len-2.ensures.value j) c.args.left (c.entries_at-entries.ensures j) c.args.row)
    ∙ (λ j. cell t.certain.items c.args.left (span_at (c.as_slice.ensures.value j) (c.as_slice-then-left-len.ensures.value j) c.args.left) c.args.row)
    ∙ sym (end-kept t.certain.items t.entries.items t.begins.items t.filled c.args.row c.args.left inside within)
    ∙ ap (λ (v : TableView). end_at v.columns c.args.row c.args.left) c.self.view_is

pub returns-then-left-len-2 : goal.returns-then-left-len-2
returns-then-left-len-2 c =
    let t = c.self.inside in
    let past : length t.begins.items < c.args.left = omega (arith, c.if-left-len-2.true, c.len-2.ensures, t.begins.ok.0) in
    sym (end-past t.certain.items t.entries.items t.begins.items t.filled c.args.row c.args.left past) ∙ ap (λ (v : TableView). end_at v.columns c.args.row c.args.left) c.self.view_is

pub returns-in-Some : goal.returns-in-Some
returns-in-Some c =
    let t = c.self.inside in
    let at : c.args.left ≡ length t.begins.items = omega (arith, c.if-left-len.false, c.len.ensures, t.begins.ok.0, c.if-left-len-2.false, c.len-2.ensures, t.begins.ok.0) in
    c.end.ensures ∙ sym (end-filled t.certain.items t.entries.items t.begins.items t.filled _ c.args.row c.args.left at c.in-Some.is)
    ∙ ap (λ (v : TableView). end_at v.columns c.args.row c.args.left) c.self.view_is
