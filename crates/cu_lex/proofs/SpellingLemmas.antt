-- The texts of names in a table.
use Rattle.std.proofs.Common.{◌≡◌, ℕ, ◌<◌, ◌⊎◌, Bool, true, false, ◌&&◌, ◌||◌, ◌==◌, List, [], ◌∷◌, ◌++◌, Option, Some, None, slice_get, if◌then◌else◌, refl, sym, ap, subst, ◌∙◌, arith, true≢false, append_assoc, eqb-true, inl, inr}
use Rattle.std.proofs.lemmas.List.{map-append}
use Rattle.std.proofs.lemmas.Str.{encode_ascii, encodes-append}
use Rattle.std.specs.List.{list_all}
use lib.Utf8.{encodes}
use Rattle.cu_names.specs.declared.names.NameId.{NameId}
use Rattle.cu_names.specs.Texts.{interned, text_of, Extends}
use Rattle.cu_names.proofs.Growth.{text_of-at, known_at, text_of-extends, known-extends, extends-itself, extends-trans, interned-extends}
use Rattle.cu_lex.specs.declared.cursor.Cursor.{Cursor}
use Rattle.cu_lex.specs.declared.token.Special.{Special}
use Rattle.cu_lex.specs.declared.word.Qualified.{Qualified}
use Rattle.cu_lex.specs.declared.word.WordKind.{WordKind}
use Rattle.cu_lex.specs.Inside.Chains.{BeginsAt}
use Rattle.cu_lex.specs.Inside.Lexing.{IsNamed, IsOuter}
use Rattle.cu_lex.specs.Located.{Located, characters}
use Rattle.cu_lex.specs.Pieces.{special_of, spelled}
use Rattle.cu_lex.specs.Reading.{spelling_of, HasName}
use Rattle.cu_lex.specs.Inside.Scanning.{left, class_of, EndsIn, IsWord}
use Rattle.cu_lex.specs.Words.{is_name_character, is_symbol, is_con_id, is_module_name, between_dots, with_first}
use Rattle.cu_lex.proofs.AsciiLemmas.{and-left, and-right, encodes-class, small-name, small-symbol}
use Rattle.cu_lex.proofs.ChainLemmas.{class-cases, dotted, con-all}

-- ---- the bytes of words

pub word-bytes : (text : List Located) (k : WordKind) (end : List Located) (w : IsWord text k end) → encodes (characters w.prefix) ≡ characters w.prefix
word-bytes text k end w = encodes-class (class_of k) (characters w.prefix) (small (class-cases k)) w.all
  where
    small : (class_of k ≡ is_name_character) ⊎ (class_of k ≡ is_symbol) → (c : ℕ) → class_of k c ≡ true → c < 128
    small (inl h) c is = small-name c (subst (λ p. p c ≡ true) h is)
    small (inr h) c is = small-symbol c (subst (λ p. p c ≡ true) h is)

is_module_character : ℕ → Bool
is_module_character c = is_name_character c || c == 46

small-module : (c : ℕ) → is_module_character c ≡ true → c < 128
unfolding is_module_character
small-module c is = by (is_name_character c) refl (c == 46) refl is
  where
    by : (a : Bool) → is_name_character c ≡ a → (b : Bool) → (c == 46) ≡ b → a || b ≡ true → c < 128
    by true h b hb is = small-name c h
    by false h true hb is = let at = eqb-true c 46 hb in omega arith
    by false h false hb is = absurd (true≢false (sym is))

all-names : List (List ℕ) → Bool
all-names ps = list_all (λ p. list_all is_name_character p) ps

parts-names : (ps : List (List ℕ)) → list_all is_con_id ps ≡ true → all-names ps ≡ true
unfolding all-names
parts-names [] is = refl
parts-names (p ∷ ps) is = rw (con-all p (and-left (is_con_id p) (list_all is_con_id ps) is)) (parts-names ps (and-right (is_con_id p) (list_all is_con_id ps) is))

dots-all : (o : List ℕ) → all-names (between_dots o) ≡ true → list_all is_module_character o ≡ true
unfolding all-names is_module_character
dots-all [] all = refl
dots-all (c ∷ o) all = by (λ h. dots-all o h) (c == 46) refl (between_dots o) refl all
  where
    by : (all-names (between_dots o) ≡ true → list_all is_module_character o ≡ true) → (b : Bool) → (c == 46) ≡ b → (ps : List (List ℕ)) → between_dots o ≡ ps
        → all-names (if b then [] ∷ ps else with_first c ps) ≡ true → (is_name_character c || c == 46) && list_all is_module_character o ≡ true
    by more true h ps at all = rw (h, more (ap all-names at ∙ all)) (or-true (is_name_character c))
      where
        or-true : (b : Bool) → (b || true) && true ≡ true
        or-true true = refl
        or-true false = refl
    by more false h [] at all = rw (and-left (is_name_character c) true (and-left (is_name_character c && true) true all), more (ap all-names at)) refl
    by more false h (p ∷ ps) at all =
        let first = and-left (is_name_character c && list_all is_name_character p) (all-names ps) all in
        let rest = and-right (is_name_character c && list_all is_name_character p) (all-names ps) all in
        let others : all-names (p ∷ ps) ≡ true = rw (and-right (is_name_character c) (list_all is_name_character p) first) rest in
        rw (and-left (is_name_character c) (list_all is_name_character p) first, more (ap all-names at ∙ others)) refl

pub module-bytes : (o : List ℕ) → is_module_name o ≡ true → encodes o ≡ o
unfolding is_module_name
module-bytes o is = encodes-class is_module_character o small-module (dots-all o (parts-names (between_dots o) is))

-- ---- a word with its qualifier

pub plain-parts : (text : List Located) (found : Qualified) (n : IsNamed text found) → found.dot ≡ None → (n.word.prefix ++ left found.word.end ≡ text) × (n.outer ≡ None)
plain-parts text found n none = by found.dot none n.begins n.outer n.is_outer
  where
    by : (dot : Option Cursor) → dot ≡ None → BeginsAt text (left found.base) dot → (outer : Option (List Located)) → IsOuter text dot outer → (n.word.prefix ++ left found.word.end ≡ text) × (outer ≡ None)
    by None h begins None is = (n.word.whole ∙ begins, refl)
    by None h begins (Some outer) is = absurd is
    by (Some dot) h begins outer is = absurd (let impossible : ⊥ = cc in impossible)

pub record After (text : List Located) (found : Qualified) (n : IsNamed text found) (dot : Cursor) : Type 0 where
  pub outer : List Located
  pub point : Located
  pub is : n.outer ≡ Some outer
  pub whole : outer ++ left dot ≡ text
  pub all : (outer ++ point ∷ n.word.prefix) ++ left found.word.end ≡ text
  pub outer_bytes : encodes (characters outer) ≡ characters outer
  pub all_bytes : encodes (characters (outer ++ point ∷ n.word.prefix)) ≡ characters outer ++ 46 ∷ characters n.word.prefix

pub after-parts : (text : List Located) (found : Qualified) (n : IsNamed text found) (dot : Cursor) → found.dot ≡ Some dot → After text found n dot
after-parts text found n dot some = by found.dot some n.begins n.outer refl n.is_outer
  where
    by : (d : Option Cursor) → d ≡ Some dot → BeginsAt text (left found.base) d → (outer : Option (List Located)) → n.outer ≡ outer → IsOuter text d outer → After text found n dot
    by None h begins outer same is = absurd (let impossible : ⊥ = cc in impossible)
    by (Some d) h begins None same is = absurd is
    by (Some d) h begins (Some outer) same is =
        let at : d ≡ dot = cc in
        let point = dotted (left d) is.2 in
        let chars : characters (outer ++ point.0 ∷ n.word.prefix) ≡ characters outer ++ 46 ∷ characters n.word.prefix =
        map-append (λ (l : Located). l.char) outer (point.0 ∷ n.word.prefix) ∙ ap (λ x. characters outer ++ x ∷ characters n.word.prefix) point.1 in
        record {
          outer = outer;
          point = point.0;
          is = same;
          whole = ap (λ x. outer ++ left x) (sym at) ∙ is.0;
          all = append_assoc outer (point.0 ∷ n.word.prefix) (left found.word.end) ∙ ap (λ t. outer ++ point.0 ∷ t) (n.word.whole ∙ begins.after) ∙ ap (λ t. outer ++ t) (sym point.2) ∙ is.0;
          outer_bytes = module-bytes (characters outer) is.1;
          all_bytes = ap encodes chars ∙ encodes-append (characters outer) (46 ∷ characters n.word.prefix)
              ∙ (λ j. module-bytes (characters outer) is.1 j ++ (encode_ascii 46 (omega arith) j ++ word-bytes (left found.base) found.word.kind (left found.word.end) n.word j));
        }

pub ends : (text : List Located) (found : Qualified) → IsNamed text found → EndsIn text (left found.word.end)
ends text found n = by found.dot refl
  where
    by : (d : Option Cursor) → found.dot ≡ d → EndsIn text (left found.word.end)
    by None h = (n.word.prefix, (plain-parts text found n h).0)
    by (Some dot) h = let b = after-parts text found n dot h in (b.outer ++ b.point ∷ n.word.prefix, b.all)

-- ---- names in tables

pub grown : (old new : List (List ℕ)) (text : List ℕ) → new ≡ interned old text → Extends old new
grown old new text is = subst (Extends old) (sym is) (interned-extends old text)

pub kept : (old new : List (List ℕ)) → new ≡ old → Extends old new
kept old new is = subst (Extends old) (sym is) (extends-itself old)

pub plain-spelled : (names : List (List ℕ)) (id : NameId) (whole word : List ℕ) (mark : Option Special) (q : Option (List ℕ)) → slice_get names id.0 ≡ Some whole → mark ≡ special_of whole → whole ≡ word → q ≡ None
    → (spelling_of names (record { text = id; qualifier = None; base = id; special = mark }) ≡ spelled q word) × HasName names (record { text = id; qualifier = None; base = id; special = mark })
plain-spelled names id whole word mark q at special same none =
    let text : text_of names id ≡ word = text_of-at names id whole at ∙ same in
    (rw (text, special, same, none) refl, (known_at names id whole at, tt, known_at names id whole at))

pub qualified-spelled : (first second third : List (List ℕ)) (id outer base : NameId) (whole before after o w : List ℕ) (q : Option (List ℕ)) → Extends first second → Extends second third
    → slice_get first id.0 ≡ Some whole → slice_get second outer.0 ≡ Some before → slice_get third base.0 ≡ Some after → whole ≡ o ++ 46 ∷ w → before ≡ o → after ≡ w → q ≡ Some o
    → (spelling_of third (record { text = id; qualifier = Some outer; base = base; special = None }) ≡ spelled q w) × HasName third (record { text = id; qualifier = Some outer; base = base; special = None })
qualified-spelled first second third id outer base whole before after o w q grows grows' at at' at'' same same' same'' is =
    let all = extends-trans grows grows' in
    let text : text_of third id ≡ (o ++ 46 ∷ []) ++ w = text_of-extends all id (known_at first id whole at) ∙ text_of-at first id whole at ∙ same ∙ sym (append_assoc o (46 ∷ []) w) in
    let prefix : text_of third outer ≡ o = text_of-extends grows' outer (known_at second outer before at') ∙ text_of-at second outer before at' ∙ same' in
    let last : text_of third base ≡ w = text_of-at third base after at'' ∙ same'' in
    (rw (text, prefix, last, is) refl, (known-extends all id (known_at first id whole at), known-extends grows' outer (known_at second outer before at'), known_at third base after at''))
