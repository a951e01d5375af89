use Rattle.std.proofs.Common.{◌≡◌, ◌∷◌, ◌++◌, ℕ, ◌+◌, ◌<◌, ◌∙◌, List, [], None, Option, sym, ap, subst, refl, arith, length, map, get_or, set, length-set}
use Rattle.std.specs.Prelude.{Contains, replicate}
use Rattle.std.proofs.lemmas.List.{length-map, length-replicate, length_push, take_all}
use Rattle.std.proofs.lemmas.Option.{slice_get_read}
use Rattle.cu_lex.specs.Reading.{lexeme_of}
use Rattle.cu_peg.specs.declared.table.End.{End}
use Rattle.cu_peg.specs.Inside.Ends.{IsEnd, end_at}
use Rattle.cu_peg.specs.Inside.Places.{TableView}
use Rattle.cu_peg.specs.Inside.Closure.{marked}
use Rattle.cu_peg.specs.Inside.Reached.{kept, kept_row}
use Rattle.cu_peg.specs.Result.{has_at}
use Rattle.cu_peg.proofs.KeptLemmas.{grammar-kept, kept-get, length-kept}
use Rattle.cu_peg.proofs.FillLemmas.{below_or_at, column-append, column-set, end_at-append, end_at-set_place, placed}
use Rattle.cu_peg.proofs.ends.add_place.Goals as goal

pub loop-row-init : goal.loop-row-init
loop-row-init c =
    let old = c.args.table.now.columns in
    let added = c.in_ok-add_column.ensures in
    let width : c.args.table.now.width ≡ length (kept c.args.grammar.marks.now c.args.grammar.rows.now) = c.requires.wide ∙ sym (length-kept c.args.grammar.marks.now c.args.grammar.rows.now) in
    let grown = ap (λ (t : TableView). t.columns) added ∙ ap (λ (n : ℕ). old ++ replicate n None ∷ []) width in
    let column : List (Option End) = replicate (length (kept c.args.grammar.marks.now c.args.grammar.rows.now)) None in
    record {
      as_wide = ap (λ (t : TableView). t.width) added ∙ width;
      long = ap length grown ∙ length_push old column ∙ ap (λ (n : ℕ). n + 1) (sym c.len-left.ensures);
      wide = ap (λ (t : List (List (Option End))). length (get_or t c.len-left.result [])) grown
          ∙ ap length (column-append old column c.len-left.result (sym c.len-left.ensures)) ∙ length-replicate (length (kept c.args.grammar.marks.now c.args.grammar.rows.now)) None;
      before = λ names k r h w.
          let inside : k < length old = omega (arith, c.len-left.ensures) in
          subst (λ (o : Option End). IsEnd (kept c.args.grammar.marks.now c.args.grammar.rows.now) (has_at (map (lexeme_of names) c.args.tokens.now)) (length c.args.tokens.now) r k o)
          (sym (ap (λ (t : List (List (Option End))). end_at t r k) grown ∙ end_at-append old column r k inside))
          (c.requires.right names k r inside w);
      here = λ names r at. absurd (omega (arith, at.1));
    }

pub set-requires : goal.set-requires
set-requires c =
    let row = get_or c.args.order.now c.loop-row.row-index 0 in
    let within : row < length c.args.grammar.rows.now = c.requires.rows.ordered.within c.loop-row.row-index 0 c.loop-row-test.true in
    subst (λ (n : ℕ). row < n) (sym (c.loop-row.invariant.as_wide ∙ length-kept c.args.grammar.marks.now c.args.grammar.rows.now)) within

pub loop-row-preserved : goal.loop-row-preserved
loop-row-preserved c =
    let table = c.loop-row.table.columns in
    let left = c.len-left.result in
    let row = get_or c.args.order.now c.loop-row.row-index 0 in
    let column = set (get_or table left []) row c.kept_end-end.result in
    let inside : left < length table = omega (arith, c.loop-row.invariant.long) in
    let set_to = c.set.ensures left c.loop-row.invariant.long in
    let made = ap (λ (t : TableView). t.columns) set_to in
    record {
      as_wide = ap (λ (t : TableView). t.width) set_to ∙ c.loop-row.invariant.as_wide;
      long = ap length made ∙ length-set table left column ∙ c.loop-row.invariant.long;
      wide = ap (λ (t : List (List (Option End))). length (get_or t left [])) made
          ∙ ap length (column-set table column left inside) ∙ length-set (get_or table left []) row c.kept_end-end.result ∙ c.loop-row.invariant.wide;
      before = λ names k r h w.
          subst (λ (o : Option End). IsEnd (kept c.args.grammar.marks.now c.args.grammar.rows.now) (has_at (map (lexeme_of names) c.args.tokens.now)) (length c.args.tokens.now) r k o)
          (sym (ap (λ (t : List (List (Option End))). end_at t r k) made ∙ end_at-set_place table column r left k h))
          (c.loop-row.invariant.before names k r h w);
      here = λ names r at.
          let within : row < length c.args.grammar.rows.now = c.requires.rows.ordered.within c.loop-row.row-index 0 c.loop-row-test.true in
          placed (kept c.args.grammar.marks.now c.args.grammar.rows.now) c.args.order.now (grammar-kept c.args.grammar.marks.now c.args.grammar.rows.now c.args.order.now c.requires.rows) (map (lexeme_of names) c.args.tokens.now) (length c.args.tokens.now)
          (length-map c.args.tokens.now (lexeme_of names)) table left (omega (arith, c.len-left.ensures, c.requires.place)) c.loop-row.invariant.long c.loop-row.invariant.wide
          c.loop-row.row-index row (kept_row (marked c.args.grammar.marks.now row) c.index-rows-row.result) c.kept_end-end.result c.set.new.self.columns c.loop-row-test.true refl
          (kept-get c.args.grammar.marks.now c.args.grammar.rows.now row c.index-rows-row.result (slice_get_read c.args.grammar.rows.now (length c.args.grammar.rows.now) row c.index-rows-row.result refl within c.index-rows-row.is)) (c.kept_end-end.ensures names) made
          (c.loop-row.invariant.before names) (c.loop-row.invariant.here names) r at;
    }

pub returns-clause-right : goal.returns-clause-right
returns-clause-right c = λ names left r h w.
    let known = c.requires.rows.ordered.complete r (subst (λ (n : ℕ). r < n) (length-kept c.args.grammar.marks.now c.args.grammar.rows.now) w) in
    below_or_at c.len-left.result left (omega (arith, c.loop-row.invariant.long))
    (λ k. IsEnd (kept c.args.grammar.marks.now c.args.grammar.rows.now) (has_at (map (lexeme_of names) c.args.tokens.now)) (length c.args.tokens.now) r k (end_at c.loop-row.table.columns r k))
    (λ below. c.loop-row.invariant.before names left r below w)
    (c.loop-row.invariant.here names r
    (subst (λ (xs : List ℕ). Contains xs r) (sym (take_all c.loop-row.row-index c.args.order.now c.loop-row-test.false)) known))

pub returns-clause-wide : goal.returns-clause-wide
returns-clause-wide c = c.loop-row.invariant.as_wide ∙ length-kept c.args.grammar.marks.now c.args.grammar.rows.now
