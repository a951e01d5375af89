use Rattle.std.proofs.Common.{◌∙◌, ◌∷◌, ◌++◌, [], ℕ, List, length, sym, ap, subst}
use Rattle.cu_peg.specs.Inside.Places.{Rising, columns}
use Rattle.cu_peg.proofs.PlaceLemmas.{finished, finished-rising, rising-grows}
use Rattle.cu_peg.proofs.table.finish.Goals as goal

pub returns-in_err-keep-clause-rising : goal.returns-in_err-keep-clause-rising
returns-in_err-keep-clause-rising c = rising-grows c.args.begins.now.items (length c.args.entries.now.items) (length c.keep.new.entries.items) c.keep.ensures.grows c.requires.rising

pub returns-in_err-push-clause-rising : goal.returns-in_err-push-clause-rising
returns-in_err-push-clause-rising c =
    subst (λ (bs : List ℕ). Rising bs (length c.keep.new.entries.items)) (sym c.in_err-push.ensures.items)
    (rising-grows c.args.begins.now.items (length c.args.entries.now.items) (length c.keep.new.entries.items) c.keep.ensures.grows c.requires.rising)

pub returns-clause-rising : goal.returns-clause-rising
returns-clause-rising c =
    finished-rising c.len-begin.result c.args.entries.now.items c.keep.new.entries.items c.args.begins.now.items c.push.new.self.items c.requires.rising c.keep.ensures.grows (c.len-begin.ensures ∙ c.args.entries.now.ok.0) c.in_ok-push.ensures.items

pub returns-clause-columns : goal.returns-clause-columns
returns-clause-columns c =
    finished c.args.certain.now c.as_slice.result.now c.len.result c.len-begin.result c.args.entries.now.items c.keep.new.entries.items c.args.begins.now.items c.push.new.self.items c.requires.rising
    c.in_ok-keep.ensures.kept (c.len.ensures ∙ c.args.begins.now.ok.0) (c.len-begin.ensures ∙ c.args.entries.now.ok.0) c.in_ok-push.ensures.items
    ∙ ap (λ x. columns c.args.certain.now c.args.entries.now.items c.args.begins.now.items 0 ++ x ∷ []) (c.as_slice.ensures.value ∙ c.column.view_is)
