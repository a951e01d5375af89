use Rattle.std.proofs.Common.{◌≡◌, ◌+◌, ◌<◌, ◌∙◌, ℕ, Bool, List, [], Option, None, Some, sym, ap, subst, arith, length, map}
use Rattle.std.proofs.lemmas.List.{length-map}
use Rattle.cu_lex.specs.Reading.{lexeme_of}
use Rattle.cu_lex.specs.Tokens.{Lexeme}
use Rattle.cu_peg.specs.declared.node.Node.{Node}
use Rattle.cu_peg.specs.declared.row.Row.{Row}
use Rattle.cu_peg.specs.declared.table.End.{End}
use Rattle.cu_peg.specs.Inside.Ends.{IsEnd, IsRight, end_at, last}
use Rattle.cu_peg.specs.Matches.{Matches}
use Rattle.cu_peg.specs.Parse.{ParseTree, spelled}
use Rattle.cu_peg.specs.Inside.Reached.{IsReached, kept}
use Rattle.cu_peg.specs.Result.{HasNoTree, IsTreeOf, has_at}
use Rattle.cu_peg.specs.Spelling.{read, read-spelled}
use Rattle.cu_peg.proofs.EndLemmas.{length-last}
use Rattle.cu_peg.proofs.GrammarLemmas.{no-tree-of, of-kept, tree-of, within-kept}
use Rattle.cu_peg.proofs.OverLemmas.{no_tree_fails, no_tree_left, tree_of}
use Rattle.cu_peg.proofs.ReadLemmas.{whole_tree}
use Rattle.cu_peg.proofs.matching.matches.Goals as goal

module _ (rows : List Row) (text : List Lexeme) (n : ℕ) (as_long : length text ≡ n) (table : List (List (Option End))) (right : IsRight rows (has_at text) n table)
    (long : length table ≡ n + 1) (start : ℕ) (within : start < length rows) where
  -- what the table says of the whole text
  at_start : (o : Option End) → end_at table start n ≡ o → IsEnd rows (has_at text) n start n o
  at_start o e = subst (λ (o : Option End). IsEnd rows (has_at text) n start n o) e (right n start (omega arith) within)

  no_end : end_at table start n ≡ None → HasNoTree rows start text
  no_end e = no_tree_fails rows text n start as_long (at_start None e)

  some_left : (end : End) → end_at table start n ≡ Some end → 0 < end.left → HasNoTree rows start text
  some_left end e h = let d = at_start (Some end) e in
      no_tree_left rows text n start end.left d.tree as_long (omega (arith, length-last n end.left)) d.matched

-- what is reached, of the same rows and marks
reached-of : (rows rows' : List Row) (start : ℕ) (marks marks' : List Bool) → rows' ≡ rows → marks ≡ marks' → IsReached rows' start marks' → IsReached rows start marks
reached-of rows rows' start marks marks' same is reached =
    subst (λ (ms : List Bool). IsReached rows start ms) (sym is) (subst (λ (rs : List Row). IsReached rs start marks') same reached)

pub returns-in_default-clause-none : goal.returns-in_default-clause-none
returns-in_default-clause-none c = λ names.
    let marks = c.as_slice.result.now in
    let reached = reached-of c.args.grammar.now c.rows-rows.result.now c.args.start marks c.in_ok-marks.marks.items c.rows-rows.ensures.rows c.as_slice.ensures.value c.in_ok-marks.ensures in
    no-tree-of c.args.grammar.now c.args.start marks reached (map (lexeme_of names) c.args.tokens.now)
    (no_end (kept marks c.args.grammar.now) (map (lexeme_of names) c.args.tokens.now) (length c.args.tokens.now) (length-map c.args.tokens.now (lexeme_of names)) c.in_ok-table.table.columns
    (c.in_ok-table.ensures.right names) c.in_ok-table.ensures.long c.args.start (within-kept marks c.args.grammar.now c.args.start c.requires) (sym c.end.ensures ∙ c.in_default.is))

pub returns-then-end-gt0-clause-none : goal.returns-then-end-gt0-clause-none
returns-then-end-gt0-clause-none c = λ names.
    let marks = c.as_slice.result.now in
    let reached = reached-of c.args.grammar.now c.rows-rows.result.now c.args.start marks c.in_ok-marks.marks.items c.rows-rows.ensures.rows c.as_slice.ensures.value c.in_ok-marks.ensures in
    no-tree-of c.args.grammar.now c.args.start marks reached (map (lexeme_of names) c.args.tokens.now)
    (some_left (kept marks c.args.grammar.now) (map (lexeme_of names) c.args.tokens.now) (length c.args.tokens.now) (length-map c.args.tokens.now (lexeme_of names)) c.in_ok-table.table.columns
    (c.in_ok-table.ensures.right names) c.in_ok-table.ensures.long c.args.start (within-kept marks c.args.grammar.now c.args.start c.requires) c.in-Some.end (sym c.end.ensures ∙ c.in-Some.is) c.if-end-gt0.true)

pub read-requires-clause-right : goal.read-requires-clause-right
read-requires-clause-right c = record {
  marks = c.as_slice.result.now;
  reached = subst (λ (ms : List Bool). IsReached c.rows-rows.result.now c.args.start ms) (sym c.as_slice.ensures.value) c.in_ok-marks.ensures;
  right = λ names.
      subst (λ (rows : List Row). IsRight (kept c.as_slice.result.now rows) (has_at (map (lexeme_of names) c.args.tokens.now)) (length c.args.tokens.now) c.in_ok-table.table.columns) (sym c.rows-rows.ensures.rows)
      (c.in_ok-table.ensures.right names);
}

-- reading nodes that a tree spells
spelled_again : (nodes : List Node) (tree : ParseTree ℕ) → nodes ≡ spelled tree → spelled (read nodes) ≡ nodes
spelled_again nodes tree e = ap (λ xs. spelled (read xs)) e ∙ ap spelled (read-spelled tree) ∙ sym e

pub new-requires : goal.new-requires
new-requires c =
    let rows = c.rows-rows.ensures.rows in
    let n = length c.args.tokens.now in
    let marks = c.as_slice.result.now in
    let has = has_at (map (lexeme_of []) c.args.tokens.now) in
    let reached = reached-of c.args.grammar.now c.rows-rows.result.now c.args.start marks c.in_ok-marks.marks.items c.rows-rows.ensures.rows c.as_slice.ensures.value c.in_ok-marks.ensures in
    let whole = whole_tree (kept marks c.args.grammar.now) has n c.in_ok-table.table.columns (c.in_ok-table.ensures.right []) c.in_ok-table.ensures.long
    c.args.start c.in-Some.end (within-kept marks c.args.grammar.now c.args.start c.requires) (sym c.end.ensures ∙ c.in-Some.is) (omega (arith, c.if-end-gt0.false)) in
    spelled_again c.in_ok-nodes.nodes.items whole.tree
    (c.in_ok-nodes.ensures [] whole.tree (subst (λ (rows : List Row). Matches rows has c.args.start (last n n) [] whole.tree) (sym rows) (of-kept c.args.grammar.now c.args.start marks reached has whole.matched)))

pub returns-clause-tree : goal.returns-clause-tree
returns-clause-tree c = λ names.
    let rows = c.rows-rows.ensures.rows in
    let n = length c.args.tokens.now in
    let marks = c.as_slice.result.now in
    let has = has_at (map (lexeme_of names) c.args.tokens.now) in
    let reached = reached-of c.args.grammar.now c.rows-rows.result.now c.args.start marks c.in_ok-marks.marks.items c.rows-rows.ensures.rows c.as_slice.ensures.value c.in_ok-marks.ensures in
    let whole = whole_tree (kept marks c.args.grammar.now) has n c.in_ok-table.table.columns (c.in_ok-table.ensures.right names) c.in_ok-table.ensures.long
    c.args.start c.in-Some.end (within-kept marks c.args.grammar.now c.args.start c.requires) (sym c.end.ensures ∙ c.in-Some.is) (omega (arith, c.if-end-gt0.false)) in
    let nodes = c.in_ok-nodes.ensures names whole.tree (subst (λ (rows : List Row). Matches rows has c.args.start (last n n) [] whole.tree) (sym rows) (of-kept c.args.grammar.now c.args.start marks reached has whole.matched)) in
    subst (IsTreeOf c.args.grammar.now c.args.start (map (lexeme_of names) c.args.tokens.now))
    (sym (c.new.ensures ∙ ap read nodes ∙ read-spelled whole.tree))
    (tree-of c.args.grammar.now c.args.start marks reached (map (lexeme_of names) c.args.tokens.now) whole.tree
    (tree_of (kept marks c.args.grammar.now) (map (lexeme_of names) c.args.tokens.now) n c.args.start whole.tree (length-map c.args.tokens.now (lexeme_of names)) whole.matched))
