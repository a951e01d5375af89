-- What a grammar matches, and the rows that the start reaches alone.
use Rattle.std.proofs.Common.{◌≡◌, ◌∙◌, ◌<◌, length, subst, ℕ, Bool, true, false, List, [], ◌∷◌, refl, Option, Some, ap, sym}
use Rattle.std.specs.Prelude.{slice_get}
use Rattle.cu_lex.specs.Tokens.{Lexeme}
use Rattle.cu_peg.specs.Inside.Closure.{marked}
use Rattle.cu_peg.specs.Inside.Cursors.{next_part}
use Rattle.cu_peg.specs.declared.class.Class.{Class}
use Rattle.cu_peg.specs.declared.reading.Cursor.{Cursor}
use Rattle.cu_peg.specs.declared.row.Row.{Row}
use Rattle.cu_peg.specs.declared.row.Row.TheVariants as row
use Rattle.cu_peg.specs.declared.table.End.{End}
use Rattle.cu_peg.specs.Matches.{Matches}
use Rattle.cu_peg.specs.Parse.{ParseTree}
use Rattle.cu_peg.specs.Inside.Reached.{IsReached, kept, kept_row}
use Rattle.cu_peg.specs.Result.{HasNoTree, IsTreeOf}
use Rattle.cu_peg.proofs.KeptLemmas.{is_nothing, kept-get, kept-marked, kept-real, length-kept}
use Rattle.cu_peg.proofs.TransferLemmas.{matches-over}

module _ {T : Type 0} (rows : List Row) (start : ℕ) (marks : List Bool) (reached : IsReached rows start marks) (has : Class → T → Bool) where
  -- what all rows match, those that are reached match
  pub to-kept : {text rest : List T} {tree : ParseTree T} → Matches rows has start text rest tree → Matches (kept marks rows) has start text rest tree
  to-kept d =
      matches-over rows (kept marks rows) has (λ r. marked marks r ≡ true)
      (λ r e mark is. (kept-get marks rows r e is ∙ ap (λ b. Some (kept_row b e)) mark, reached.closed r e mark is)) d reached.start_in

  -- and the other way
  pub of-kept : {text rest : List T} {tree : ParseTree T} → Matches (kept marks rows) has start text rest tree → Matches rows has start text rest tree
  of-kept d =
      matches-over (kept marks rows) rows has (λ r. marked marks r ≡ true)
      (λ r e mark is. let real = kept-marked marks rows r e is mark in (real, reached.closed r e mark real)) d reached.start_in

module _ (rows : List Row) (start : ℕ) (marks : List Bool) (reached : IsReached rows start marks) where
  pub no-tree-of : (text : List Lexeme) → HasNoTree (kept marks rows) start text → HasNoTree rows start text
  no-tree-of text none = λ tree d. none tree (to-kept rows start marks reached _ d)

  pub tree-of : (text : List Lexeme) (found : ParseTree ℕ) → IsTreeOf (kept marks rows) start text found → IsTreeOf rows start text found
  tree-of text found t = record { numbered = of-kept rows start marks reached _ t.numbered; tree = t.tree; stands = t.stands; whole = of-kept rows start marks reached _ t.whole }

pub within-kept : (marks : List Bool) (rows : List Row) (r : ℕ) → r < length rows → r < length (kept marks rows)
within-kept marks rows r h = subst (λ n. r < n) (sym (length-kept marks rows)) h

pub within-real : (marks : List Bool) (rows : List Row) (r : ℕ) → r < length (kept marks rows) → r < length rows
within-real marks rows r h = subst (λ n. r < n) (length-kept marks rows) h

-- a row of which parts are read is the grammar's own
pub owner-real : (marks : List Bool) (rows : List Row) (cell : ℕ → ℕ → Option End) (owner : Row) (c : Cursor) (part : ℕ) (parts : Option Cursor) → slice_get (kept marks rows) c.row ≡ Some owner
    → next_part cell owner c ≡ Some (part, parts) → slice_get rows c.row ≡ Some owner
owner-real marks rows cell owner c part parts is found = kept-real marks rows c.row owner is (by owner found)
  where
    by : (owner : Row) → next_part cell owner c ≡ Some (part, parts) → is_nothing owner ≡ false
    by (row.Choice []) found = let never : ⊥ = cc in absurd never
    by (row.Choice (p ∷ ps)) found = refl
    by (row.Token k) found = refl
    by (row.Sequence ps) found = refl
    by (row.Optional p) found = refl
    by (row.Many p) found = refl
    by (row.AtLeastOne p) found = refl
    by (row.SeparatedBy p s) found = refl
    by (row.Ahead p) found = refl
    by (row.NotAhead p) found = refl
