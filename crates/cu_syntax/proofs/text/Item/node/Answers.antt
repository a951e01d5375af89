-- An import, or another item.
use Rattle.std.proofs.Common.{[], ap, sym, ◌∙◌}
use Rattle.cu_syntax.specs.Answer.{item_meaning, item_read}
use Rattle.cu_syntax.specs.Answer as answer
use Rattle.cu_syntax.specs.Items.{item_node}
use Rattle.cu_syntax.specs.Reading.{Tree, import_of, item_as, item_of}
use Rattle.cu_syntax.specs.SubtreeMeaning.{tree_of}
use Rattle.cu_syntax.specs.Subtrees.{is_choice}
use Rattle.cu_syntax.specs.Syntax as syntax
use Rattle.cu_syntax.specs.Table.{rule_of}
use Rattle.cu_syntax.proofs.ItemLemmas.{import_symbol, item_symbol, item_taken}
use Rattle.cu_syntax.proofs.ViewLemmas.{ok_as}
use Rattle.cu_syntax.proofs.text.Item.node.Goals as goal

pub import-requires : goal.import-requires
import-requires c = c.root-tree.ensures.symbol ∙ import_symbol c.args.self.now.parsed.symbol (sym c.is_import.ensures ∙ c.if-is_import.true)

pub chosen-requires : goal.chosen-requires
chosen-requires c =
    ap (λ s. is_choice (rule_of s))
    (c.root-tree.ensures.symbol ∙ item_symbol c.args.self.now.parsed.symbol c.args.self.now.symbol (sym c.is_import.ensures ∙ c.if-is_import.false))

pub item-requires : goal.item-requires
item-requires c =
    let root = c.root-tree.result in
    let is = c.root-tree.ensures.symbol ∙ item_symbol c.args.self.now.parsed.symbol c.args.self.now.symbol (sym c.is_import.ensures ∙ c.if-is_import.false) in
    (item_taken root.symbol (tree_of [] root) c.chosen.result.symbol (tree_of [] c.chosen.result) is (root.fits []) (c.chosen.ensures.tree [])).is_node

pub returns-then-is_import-clause-meaning : goal.returns-then-is_import-clause-meaning
returns-then-is_import-clause-meaning c = λ names.
    let whole = answer.tree_of names c.args.self.now.parsed in
    ap syntax.ImportItem (c.in_ok-import.ensures.meaning names) ∙ ap (λ (t : Tree). syntax.ImportItem (import_of t)) (c.root-tree.ensures.tree names)
    ∙ sym (ap (λ s. item_read s whole) (import_symbol c.args.self.now.parsed.symbol (sym c.is_import.ensures ∙ c.if-is_import.true)))

pub returns-clause-meaning : goal.returns-clause-meaning
returns-clause-meaning c = λ names.
    let root = c.root-tree.result in
    let inner = tree_of names c.chosen.result in
    let whole = answer.tree_of names c.args.self.now.parsed in
    let is = item_symbol c.args.self.now.parsed.symbol c.args.self.now.symbol (sym c.is_import.ensures ∙ c.if-is_import.false) in
    ok_as (item_node names) c.item.result (item_as c.chosen.result.symbol inner) (item_meaning names c.args.self.now) (c.item.ensures.meaning names)
    (sym (item_taken root.symbol (tree_of names root) c.chosen.result.symbol inner (c.root-tree.ensures.symbol ∙ is) (root.fits names) (c.chosen.ensures.tree names)).is
    ∙ ap item_of (c.root-tree.ensures.tree names) ∙ sym (ap (λ s. item_read s whole) is))

pub returns-then-is_import-clause-owned : goal.returns-then-is_import-clause-owned
returns-then-is_import-clause-owned c = λ owner names whole. c.in_ok-import.ensures.owned owner names (c.root-tree.ensures.owned owner names whole)

pub returns-clause-owned : goal.returns-clause-owned
returns-clause-owned c = λ owner names whole. c.item.ensures.owned owner names (c.chosen.ensures.owned owner names (c.root-tree.ensures.owned owner names whole))
