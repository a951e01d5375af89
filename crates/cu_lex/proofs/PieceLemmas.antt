-- The longest piece at the start of a text, class by class.
use Rattle.std.proofs.Common.{◌≡◌, ℕ, ◌<◌, ◌≤◌, Bool, true, false, ◌&&◌, ◌||◌, not, List, [], ◌∷◌, ◌++◌, length, Option, Some, None, is_some, IsSome, if◌then◌else◌, refl, sym, ap, subst, ◌∙◌, arith, true≢false, nat_le, eqb-true}
use Rattle.std.proofs.lemmas.List.{length-append}
use Rattle.std.specs.Char.{is_ascii_lowercase, is_ascii_uppercase}
use Rattle.std.specs.List.{list_all}
use Rattle.std.specs.Option.{option_map, option_or, option_and_then}
use Rattle.cu_lex.specs.declared.token.Keyword as keyword
use Rattle.cu_lex.specs.declared.token.Mark as mark
use Rattle.cu_lex.specs.declared.token.ReservedOperator.{ReservedOperator}
use Rattle.cu_lex.specs.declared.word.WordKind.{WordKind}
use Rattle.cu_lex.specs.declared.word.WordKind.TheVariants as kind
use Rattle.cu_lex.specs.Inside.Chains.{Reaches}
use Rattle.cu_lex.specs.Inside.Chains.Reaches.{last}
use Rattle.cu_lex.specs.Kind.{Kind}
use Rattle.cu_lex.specs.Kind.Kind.{Keyword, Reserved, Mark}
use Rattle.cu_lex.specs.Literals.{items_between}
use Rattle.cu_lex.specs.Located.{Located, characters}
use Rattle.cu_lex.specs.Munch.{cut_at, longest}
use Rattle.cu_lex.specs.Pieces.{Piece, piece, blank, word, number, one_character, string, start, word_kind, word_before, name_kind, stands_before}
use Rattle.cu_lex.specs.Pieces.Piece.{Token}
use Rattle.cu_lex.specs.Inside.Scanning.{is_underscore, is_base, class_of, IsWord, IsOfKind}
use Rattle.cu_lex.specs.Words.{begins_with, is_name_character, is_symbol, is_dash, is_dashes, is_run, keyword_of, keywords, reserved_of, reserved_operators, mark_of, is_con_id, has_variable_form, is_module_name, qualified_parts, between_dots}
use Rattle.cu_lex.proofs.AsciiLemmas.{and-left, and-right, and-both, capital-name, small-name-character, underscore-name}
use Rattle.cu_lex.proofs.ChainLemmas.{entry-none, var-form, con-capital, con-all, operator-run, first-prefix}
use Rattle.cu_lex.proofs.FirstLemmas.{is_dashes_kind, stands-named, Named, name-cases}
use Rattle.cu_lex.proofs.MunchLemmas.{is-longest, longest_from_none}
use Rattle.cu_lex.proofs.QualifiedLemmas.{capital-prefix, chain-at, module-capital, parts-from}

-- ---- words of a kind are runs

or-first : (b : Bool) → b || false ≡ true → b ≡ true
or-first true is = refl
or-first false is = is

form-all : (w : List ℕ) → has_variable_form w ≡ true → list_all is_name_character w ≡ true
form-all [] form = refl
form-all (c ∷ w) form = by (λ h. form-all w h) (is_underscore c) refl (is_ascii_lowercase c) refl form
  where
    by : (has_variable_form w ≡ true → list_all is_name_character w ≡ true) → (a : Bool) → is_underscore c ≡ a → (b : Bool) → is_ascii_lowercase c ≡ b
        → (a && has_variable_form w) || (b && list_all is_name_character w) ≡ true → is_name_character c && list_all is_name_character w ≡ true
    by more true h true hb is = absurd (true≢false (sym hb ∙ ap is_ascii_lowercase (eqb-true c 95 h)))
    by more true h false hb is = rw (underscore-name c h) (more (or-first (has_variable_form w) is))
    by more false h true hb is = rw (small-name-character c hb) is
    by more false h false hb is = absurd (true≢false (sym is))

form-run : (w : List ℕ) → has_variable_form w ≡ true → is_run is_name_character w ≡ true
form-run [] form = absurd (true≢false (sym form))
form-run (c ∷ w) form =
    let all = form-all (c ∷ w) form in
    and-both (is_name_character c) (list_all is_name_character (c ∷ w)) (and-left (is_name_character c) (list_all is_name_character w) all) all

keyword-run : (w : List ℕ) (k : keyword.Keyword) → keyword_of w ≡ Some k → is_run is_name_character w ≡ true
unfolding keyword_of is_name_character
keyword-run w k is = by (is_run is_name_character w) refl
  where
    by : (b : Bool) → is_run is_name_character w ≡ b → b ≡ true
    by true h = refl
    by false h = let none = entry-none (is_run is_name_character) keywords refl w h in cc

reserved-run : (w : List ℕ) (k : ReservedOperator) → reserved_of w ≡ Some k → is_run is_symbol w ≡ true
unfolding reserved_of is_symbol
reserved-run w k is = by (is_run is_symbol w) refl
  where
    by : (b : Bool) → is_run is_symbol w ≡ b → b ≡ true
    by true h = refl
    by false h = let none = entry-none (is_run is_symbol) reserved_operators refl w h in cc

pub reserved-dashes : (w : List ℕ) (k : ReservedOperator) → reserved_of w ≡ Some k → is_dashes w ≡ false
unfolding reserved_of
reserved-dashes w k is = by (is_dashes w) refl
  where
    by : (b : Bool) → is_dashes w ≡ b → b ≡ false
    by false h = refl
    by true h = let none = entry-none (λ x. not (is_dashes x)) reserved_operators refl w (ap not h) in cc

pub dash-symbol : (c : ℕ) → is_dash c ≡ true → is_symbol c ≡ true
unfolding is_symbol
dash-symbol c is = let at : c ≡ 45 = eqb-true c 45 is in rw at refl

dashes-symbols : (w : List ℕ) → list_all is_dash w ≡ true → list_all is_symbol w ≡ true
dashes-symbols [] all = refl
dashes-symbols (c ∷ w) all = rw (dash-symbol c (and-left (is_dash c) (list_all is_dash w) all), dashes-symbols w (and-right (is_dash c) (list_all is_dash w) all)) refl

pub dashes-run : (w : List ℕ) → is_dashes w ≡ true → is_run is_symbol w ≡ true
dashes-run [] is = is
dashes-run (c ∷ w) is =
    let all = dashes-symbols (c ∷ w) (and-right (nat_le 2 (length (c ∷ w))) (list_all is_dash (c ∷ w)) is) in
    and-both (is_symbol c) (list_all is_symbol (c ∷ w)) (and-left (is_symbol c) (list_all is_symbol w) all) all

capital-first-name : (w : List ℕ) → begins_with is_ascii_uppercase w ≡ true → begins_with is_name_character w ≡ true
capital-first-name [] is = is
capital-first-name (c ∷ w) is = capital-name c is

pub kind-run : (k : WordKind) (w : List ℕ) → IsOfKind k w → is_run (class_of k) w ≡ true
kind-run kind.VarId w is = form-run w (var-form w is)
kind-run kind.ConId w is = and-both (begins_with is_name_character w) (list_all is_name_character w) (capital-first-name w (con-capital w is)) (con-all w is)
kind-run kind.VarOp w is = operator-run w is.0
kind-run kind.ConOp w is = operator-run w is.0
kind-run (kind.Keyword k) w is = keyword-run w k is
kind-run (kind.Reserved k) w is = reserved-run w k is
kind-run kind.Dashes w is = dashes-run w is

pub word-of : (text f r : List Located) → f ++ r ≡ text → (k : WordKind) → IsOfKind k (characters f) → begins_with (class_of k) (characters r) ≡ false → IsWord text k r
word-of text f r whole k is ended =
    let all = kind-run k (characters f) is in
    record {
      prefix = f;
      whole = whole;
      is = is;
      all = and-right (begins_with (class_of k) (characters f)) (list_all (class_of k) (characters f)) all;
      some = and-left (begins_with (class_of k) (characters f)) (list_all (class_of k) (characters f)) all;
      ended = ended;
    }

-- ---- what a prefix that is a word is

pub data PrefixIs (text f r : List Located) : Type 0 where
  plain : (k : WordKind) → IsWord text k r → is_dashes_kind k ≡ false → PrefixIs text f r
  marked : (m : mark.Mark) → mark_of (characters f) ≡ Some m → stands_before (Mark m) (characters r) ≡ true → PrefixIs text f r
  chained : begins_with is_ascii_uppercase (characters text) ≡ true → Reaches r text → PrefixIs text f r

stands : (next : List ℕ) (k : Kind) → IsSome (word_before next k) → stands_before k next ≡ true
stands next k some = by (stands_before k next) refl some
  where
    by : (b : Bool) → stands_before k next ≡ b → IsSome (if b then Some (Token k) else None) → b ≡ true
    by true h is = refl
    by false h is = absurd (true≢false (sym is))

not-false : (b : Bool) → not b ≡ true → b ≡ false
not-false true is = sym is
not-false false is = refl

pub base-dashes : (k : WordKind) → is_base k ≡ true → is_dashes_kind k ≡ false
base-dashes kind.VarId is = refl
base-dashes kind.ConId is = refl
base-dashes kind.VarOp is = refl
base-dashes kind.ConOp is = refl
base-dashes (kind.Keyword k) is = refl
base-dashes (kind.Reserved k) is = refl
base-dashes kind.Dashes is = sym is

named-ended : (q : Option (List ℕ)) (w next : List ℕ) (found : Kind) (n : Named q w found) → stands_before found next ≡ true → begins_with (class_of n.what) next ≡ false
named-ended q w next found n is =
    not-false (begins_with (class_of n.what) next) (sym (stands-named q n.what w next (base-dashes n.what n.base)) ∙ ap (λ k. stands_before k next) (sym n.same_kind) ∙ is)

prefix-capital : (o i w : List ℕ) → o ++ 46 ∷ i ≡ w → begins_with is_ascii_uppercase o ≡ true → begins_with is_ascii_uppercase w ≡ true
prefix-capital o i w at is = subst (λ t. begins_with is_ascii_uppercase t ≡ true) at (capital-prefix o (46 ∷ i) is)

module-all : (o : List ℕ) → is_module_name o ≡ true → list_all is_con_id (between_dots o) ≡ true
unfolding is_module_name
module-all o is = is

pub prefix-cases : (text f r : List Located) → f ++ r ≡ text → IsSome (word (characters f) (characters r)) → PrefixIs text f r
unfolding word_kind
prefix-cases text f r whole some =
    by (keyword_of (characters f)) refl (reserved_of (characters f)) refl (mark_of (characters f)) refl (name_kind None (characters f)) refl (qualified_parts (characters f)) refl some
  where
    qualified : (o i : List ℕ) → qualified_parts (characters f) ≡ Some (o, i) → (found : Option Kind) → name_kind (Some o) i ≡ found → IsSome (option_and_then (word_before (characters r)) found) → PrefixIs text f r
    qualified o i at None is some = absurd (true≢false (sym some))
    qualified o i at (Some found) is some =
        let parts = parts-from (characters f) o i at in
        let n = name-cases (Some o) i found is in
        let ended = named-ended (Some o) i (characters r) found n (stands (characters r) found some) in
        let capital = prefix-capital o i (characters f) parts.0 (module-capital o parts.1) in
        chained
        (subst (λ t. begins_with is_ascii_uppercase (characters t) ≡ true) whole (first-prefix is_ascii_uppercase f r capital))
        (subst (Reaches r) whole (chain-at (length o) o i f r (omega arith) (module-all o parts.1) (sym parts.0)
        (λ g h. last n.what (word-of (g ++ r) g r refl n.what (subst (IsOfKind n.what) (sym h) n.is) ended) n.base)))

    by : (a : Option keyword.Keyword) → keyword_of (characters f) ≡ a → (b : Option ReservedOperator) → reserved_of (characters f) ≡ b → (c : Option mark.Mark) → mark_of (characters f) ≡ c
        → (d : Option Kind) → name_kind None (characters f) ≡ d → (e : Option (List ℕ × List ℕ)) → qualified_parts (characters f) ≡ e
        → IsSome (option_and_then (word_before (characters r)) (option_or (option_map Keyword a) (option_or (option_map Reserved b) (option_or (option_map Mark c) (option_or d (option_and_then (λ parts. name_kind (Some parts.0) parts.1) e))))))
        → PrefixIs text f r
    by (Some k) ha b hb c hc d hd e he some =
        plain (kind.Keyword k) (word-of text f r whole (kind.Keyword k) ha (not-false (begins_with is_name_character (characters r)) (stands (characters r) (Keyword k) some))) refl
    by None ha (Some k) hb c hc d hd e he some =
        plain (kind.Reserved k) (word-of text f r whole (kind.Reserved k) hb (not-false (begins_with is_symbol (characters r)) (stands (characters r) (Reserved k) some))) refl
    by None ha None hb (Some m) hc d hd e he some = marked m hc (stands (characters r) (Mark m) some)
    by None ha None hb None hc (Some found) hd e he some =
        let n = name-cases None (characters f) found hd in
        plain n.what (word-of text f r whole n.what n.is (named-ended None (characters f) (characters r) found n (stands (characters r) found some))) (base-dashes n.what n.base)
    by None ha None hb None hc None hd None he some = absurd (true≢false (sym some))
    by None ha None hb None hc None hd (Some (o, i)) he some = qualified o i he (name_kind (Some o) i) refl some

-- ---- which class a prefix that is a piece is of

pub data PieceIs (f r : List Located) : Type 0 where
  blank_prefix : IsSome (blank (characters f)) → PieceIs f r
  word_prefix : IsSome (word (characters f) (characters r)) → PieceIs f r
  number_prefix : IsSome (number (start f) (characters f) (characters r)) → PieceIs f r
  character_prefix : IsSome (option_and_then one_character (items_between 39 f)) → PieceIs f r
  string_prefix : IsSome (items_between 34 f) → PieceIs f r

pub piece-cases : (f r : List Located) → IsSome (piece f r) → PieceIs f r
unfolding piece
piece-cases f r some =
    by (blank (characters f)) refl (word (characters f) (characters r)) refl (number (start f) (characters f) (characters r)) refl (option_and_then one_character (items_between 39 f)) refl (items_between 34 f) refl some
  where
    by : (a : Option Piece) → blank (characters f) ≡ a → (b : Option Piece) → word (characters f) (characters r) ≡ b → (c : Option Piece) → number (start f) (characters f) (characters r) ≡ c
        → (d : Option Piece) → option_and_then one_character (items_between 39 f) ≡ d → (e : _) → items_between 34 f ≡ e
        → IsSome (option_or a (option_or b (option_or c (option_or d (option_map string e))))) → PieceIs f r
    by (Some x) ha b hb c hc d hd e he some = blank_prefix (ap is_some ha)
    by None ha (Some x) hb c hc d hd e he some = word_prefix (ap is_some hb)
    by None ha None hb (Some x) hc d hd e he some = number_prefix (ap is_some hc)
    by None ha None hb None hc (Some x) hd e he some = character_prefix (ap is_some hd)
    by None ha None hb None hc None hd (Some x) he some = string_prefix (ap is_some he)
    by None ha None hb None hc None hd None he some = absurd (true≢false (sym some))

-- the longest piece, by what other prefixes can be
pub piece-longest : (text prefix rest : List Located) (what : Piece) → prefix ++ rest ≡ text → 0 < length prefix → piece prefix rest ≡ Some what
    → ((f r : List Located) → f ++ r ≡ text → 0 < length f → PieceIs f r → length f ≤ length prefix) → longest piece text ≡ Some (cut_at prefix rest what)
piece-longest text prefix rest what whole some is most =
    is-longest piece text (cut_at prefix rest what) (record { whole = whole; some = some; allowed = is; most = all })
  where
    all : (f r : List Located) → f ++ r ≡ text → IsSome (piece f r) → length f ≤ length prefix
    all [] r w is = omega arith
    all (c ∷ f) r w is = most (c ∷ f) r w (omega arith) (piece-cases (c ∷ f) r is)

pub piece-none : (text : List Located) → ((f r : List Located) → f ++ r ≡ text → 0 < length f → PieceIs f r → ⊥) → longest piece text ≡ None
piece-none text none = longest_from_none piece text (λ f r w some. by f r w some (piece f r) refl)
  where
    by : (f r : List Located) → f ++ r ≡ text → 0 < length f → (o : Option Piece) → piece f r ≡ o → o ≡ None
    by f r w some None is = refl
    by f r w some (Some p) is = absurd (none f r w some (piece-cases f r (ap is_some is)))

-- the first character of a prefix is the text's
pub prefix-first : (p : ℕ → Bool) (f r text : List Located) → f ++ r ≡ text → 0 < length f → begins_with p (characters f) ≡ begins_with p (characters text)
prefix-first p [] r text whole some = absurd (omega arith)
prefix-first p (c ∷ f) r text whole some = ap (λ t. begins_with p (characters t)) whole

pub shorter-prefix : (f r prefix rest text : List Located) → f ++ r ≡ text → prefix ++ rest ≡ text → length rest ≤ length r → length f ≤ length prefix
shorter-prefix f r prefix rest text whole whole' short = omega (arith, ap length whole, ap length whole', length-append f r, length-append prefix rest)
