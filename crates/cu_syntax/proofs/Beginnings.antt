-- How the first token of a text decides that a row of the grammar fails: an import begins with its keyword, and no other item does.
use Rattle.std.specs.Prelude.{◌≡◌, ℕ, zero, suc, Bool, true, false, not, List, [], ◌∷◌, Option, None, Some, refl, slice_get}
use Rattle.std.specs.List.{list_all}
use Rattle.std.proofs.Common.{ap, subst, sym, true≢false, ◌∙◌}
use Rattle.std.proofs.lemmas.Bool.{and_parts}
use Rattle.cu_lex.specs.declared.token.Keyword.TheVariants as keyword
use Rattle.cu_lex.specs.Kind as kind
use Rattle.cu_lex.specs.Kind.{Kind}
use Rattle.cu_lex.specs.Tokens.{Lexeme}
use Rattle.cu_peg.specs.declared.class.Class.{Class}
use Rattle.cu_peg.specs.declared.class.Class.TheVariants as class
use Rattle.cu_peg.specs.declared.row.Row.{Row}
use Rattle.cu_peg.specs.declared.row.Row.TheVariants as row
use Rattle.cu_peg.specs.Classes.{has, has_kind}
use Rattle.cu_peg.specs.Matches.{Fails, Matches, RowFails, RowMatches}
use Rattle.cu_peg.specs.Parse.{ParseTree}
use Rattle.cu_peg.proofs.OneTree.{refutes}
use Rattle.cu_syntax.specs.declared.symbol.Symbol.TheVariants as symbol
use Rattle.cu_syntax.specs.Parsing.{Has, HasNone}
use Rattle.cu_syntax.specs.Table.{number, rows}

-- A row fails at once where its first part does. This asks which classes have the first token.

abbrev row_fails : (ℕ → Bool) → (Class → Bool) → Row → Bool
row_fails f h (row.Token c) = not (h c)
row_fails f h (row.Sequence []) = false
row_fails f h (row.Sequence (p ∷ ps)) = f p
row_fails f h (row.Choice ps) = list_all f ps
row_fails f h (row.AtLeastOne p) = f p
row_fails f h (row.SeparatedBy p s) = f p
row_fails f h (row.Ahead p) = f p
row_fails f h _ = false

abbrev at_row : (Row → Bool) → Option Row → Bool
at_row f None = false
at_row f (Some e) = f e

abbrev pub fails_at : ℕ → (Class → Bool) → ℕ → Bool
fails_at zero h r = false
fails_at (suc k) h r = at_row (row_fails (fails_at k h) h) (slice_get rows r)

is_not : (b : Bool) → not b ≡ true → b ≡ false
is_not true e = absurd (true≢false (sym e))
is_not false e = refl

choice_fails : (text : List Lexeme) (f : ℕ → Bool) → ((r : ℕ) → f r ≡ true → Fails rows has r text) → (ps : List ℕ) → list_all f ps ≡ true → RowFails rows has (row.Choice ps) text
choice_fails text f g [] e = RowFails.no_alternative text
choice_fails text f g (p ∷ ps) e =
    RowFails.all_fail p ps text (g p (and_parts (f p) (list_all f ps) e).0) (choice_fails text f g ps (and_parts (f p) (list_all f ps) e).1)

row_sound : (text : List Lexeme) (f : ℕ → Bool) (h : Class → Bool) → ((c : Class) → h c ≡ false → RowFails rows has (row.Token c) text)
    → ((r : ℕ) → f r ≡ true → Fails rows has r text) → (e : Row) → row_fails f h e ≡ true → RowFails rows has e text
row_sound text f h t g (row.Token c) e = t c (is_not (h c) e)
row_sound text f h t g (row.Sequence []) e = absurd (true≢false (sym e))
row_sound text f h t g (row.Sequence (p ∷ ps)) e = RowFails.part_fails p ps text (g p e)
row_sound text f h t g (row.Choice ps) e = choice_fails text f g ps e
row_sound text f h t g (row.AtLeastOne p) e = RowFails.not_even_one p text (g p e)
row_sound text f h t g (row.SeparatedBy p s) e = RowFails.no_part p s text (g p e)
row_sound text f h t g (row.Ahead p) e = RowFails.not_found p text (g p e)
row_sound text f h t g (row.Optional p) e = absurd (true≢false (sym e))
row_sound text f h t g (row.Many p) e = absurd (true≢false (sym e))
row_sound text f h t g (row.NotAhead p) e = absurd (true≢false (sym e))

at_sound : (text : List Lexeme) (f : ℕ → Bool) (h : Class → Bool) → ((c : Class) → h c ≡ false → RowFails rows has (row.Token c) text)
    → ((r : ℕ) → f r ≡ true → Fails rows has r text) → (r : ℕ) (o : Option Row) → slice_get rows r ≡ o → at_row (row_fails f h) o ≡ true → Fails rows has r text
at_sound text f h t g r None s e = absurd (true≢false (sym e))
at_sound text f h t g r (Some e) s k = Fails.fails r e text s (row_sound text f h t g e k)

pub fails_sound : (k : ℕ) (text : List Lexeme) (h : Class → Bool) → ((c : Class) → h c ≡ false → RowFails rows has (row.Token c) text)
    → (r : ℕ) → fails_at k h r ≡ true → Fails rows has r text
fails_sound zero text h t r e = absurd (true≢false (sym e))
fails_sound (suc k) text h t r e = at_sound text (fails_at k h) h t (fails_sound k text h t) r (slice_get rows r) refl e

-- where there is no token

abbrev no_class : Class → Bool
no_class c = false

pub no_empty_import : HasNone symbol.ImportDecl []
no_empty_import = λ tree m. refutes rows has m (fails_sound 20 [] no_class (λ c e. RowFails.no_token c) (number symbol.ImportDecl) refl)

pub no_empty_item : HasNone symbol.Item []
no_empty_item = λ tree m. refutes rows has m (fails_sound 20 [] no_class (λ c e. RowFails.no_token c) (number symbol.Item) refl)

-- where the first token is the keyword of imports

abbrev has_import : Class → Bool
has_import c = has_kind c (kind.Keyword keyword.Import)

no_item : (x : Lexeme) (rest : List Lexeme) → x.what ≡ kind.Keyword keyword.Import → HasNone symbol.Item (x ∷ rest)
no_item x rest w = λ tree m.
    refutes rows has m
    (fails_sound 20 (x ∷ rest) has_import (λ c e. RowFails.other_token c x rest (ap (has_kind c) w ∙ e)) (number symbol.Item) refl)

is_import : (k : Kind) → has_kind (class.Keyword keyword.Import) k ≡ true → k ≡ kind.Keyword keyword.Import
is_import (kind.Keyword keyword.Import) e = refl
is_import k e = absurd (true≢false (sym e))

row_of : (r : ℕ) (e : Row) (text rest : List Lexeme) (tree : ParseTree Lexeme) → slice_get rows r ≡ Some e → Matches rows has r text rest tree → RowMatches rows has e text rest tree
row_of r e text rest tree s (Matches.matches _ other _ _ _ found d) =
    let same : other ≡ e = cc in
    subst (λ (row : Row). RowMatches rows has row text rest tree) same d

-- a text begins with a token of a class
record Begins (c : Class) (text : List Lexeme) : Type 0 where
  pub first : Lexeme
  pub others : List Lexeme
  pub whole : text ≡ first ∷ others
  pub is_of : has c first ≡ true

token_begins : (c : Class) (text rest : List Lexeme) (tree : ParseTree Lexeme) → RowMatches rows has (row.Token c) text rest tree → Begins c text
token_begins c text rest tree (RowMatches.token _ x _ h) = record { first = x; others = rest; whole = refl; is_of = h }

sequence_begins : (c : Class) (p : ℕ) (ps : List ℕ) (text rest : List Lexeme) (tree : ParseTree Lexeme) → slice_get rows p ≡ Some (row.Token c)
    → RowMatches rows has (row.Sequence (p ∷ ps)) text rest tree → Begins c text
sequence_begins c p ps text rest tree s (RowMatches.sequence _ _ _ after _ first trees m d) = token_begins c text after first (row_of p (row.Token c) text after first s m)

import_begins : (text : List Lexeme) (tree : ParseTree Lexeme) → Has symbol.ImportDecl text tree → Begins (class.Keyword keyword.Import) text
import_begins text tree m =
    sequence_begins (class.Keyword keyword.Import) (number symbol.Import)
    (number symbol.OptionalQualified ∷ number symbol.ModuleName ∷ number symbol.OptionalAlias ∷ number symbol.OptionalImports ∷ []) text [] tree refl
    (row_of (number symbol.ImportDecl)
    (row.Sequence (number symbol.Import ∷ number symbol.OptionalQualified ∷ number symbol.ModuleName ∷ number symbol.OptionalAlias ∷ number symbol.OptionalImports ∷ []))
    text [] tree refl m)

pub import_or_item : (text : List Lexeme) (tree other : ParseTree Lexeme) → Has symbol.ImportDecl text tree → Has symbol.Item text other → ⊥
import_or_item text tree other m n =
    let b = import_begins text tree m in
    no_item b.first b.others (is_import b.first.what b.is_of) other (subst (λ (tokens : List Lexeme). Has symbol.Item tokens other) b.whole n)
