-- Words at the start of a text.
use Rattle.std.proofs.Common.{◌≡◌, ℕ, ◌<◌, Bool, true, false, ◌==◌, List, [], ◌∷◌, ◌++◌, None, if◌then◌else◌, refl, sym, ap, subst, ◌∙◌, arith, slice_index_or, length}
use Rattle.std.specs.Char.{is_ascii_lowercase, is_ascii_uppercase}
use Rattle.std.specs.List.{list_all}
use lib.Utf8.{encodes}
use Rattle.cu_lex.specs.declared.word.WordKind.{WordKind}
use Rattle.cu_lex.specs.Located.{Located, characters}
use Rattle.cu_lex.specs.Inside.Scanning.{run, skip, is_underscore, IsWord, IsOfKind, class_of}
use Rattle.cu_lex.specs.Words.{begins_with, has_variable_form, is_colon, is_con_id, is_dashes, is_name_character, is_operator, is_run, is_symbol, is_var_id, keyword_of, reserved_of}
use Rattle.cu_lex.proofs.AsciiLemmas.{encodes-class, and-both, capital-name, small-name-character, underscore-name}
use Rattle.cu_lex.proofs.ScanLemmas.{run-skip, all-run, skip-ended}

pub begins-run : (p class : ℕ → Bool) (text : List Located) → ((c : ℕ) → p c ≡ true → class c ≡ true) → begins_with p (characters text) ≡ true → begins_with p (characters (run class text)) ≡ true
begins-run p class [] within is = is
begins-run p class (c ∷ text) within is = rw (within c.char is) is

pub is-run : (class : ℕ → Bool) (text : List Located) → begins_with class (characters text) ≡ true → is_run class (characters (run class text)) ≡ true
is-run class text is = and-both (begins_with class (characters (run class text))) (list_all class (characters (run class text))) (begins-run class class text (λ c h. h) is) (all-run class text)

-- what a cursor's text is
pub run-text : (class : ℕ → Bool) (text end : List Located) (word : List ℕ) → ((c : ℕ) → class c ≡ true → c < 128) → end ≡ skip class text
    → ((prefix : List Located) → prefix ++ end ≡ text → word ≡ encodes (characters prefix)) → word ≡ characters (run class text)
run-text class text end word small at is =
    is (run class text) (ap (λ t. run class text ++ t) at ∙ run-skip class text) ∙ encodes-class class (characters (run class text)) small (all-run class text)

pub word-at : (class : ℕ → Bool) (text end : List Located) (kind : WordKind) → class_of kind ≡ class → end ≡ skip class text
    → begins_with class (characters text) ≡ true → IsOfKind kind (characters (run class text)) → IsWord text kind end
word-at class text end kind same at some is = record {
  prefix = run class text;
  whole = ap (λ t. run class text ++ t) at ∙ run-skip class text;
  is = is;
  all = subst (λ f. list_all f (characters (run class text)) ≡ true) (sym same) (all-run class text);
  some = subst (λ f. begins_with f (characters (run class text)) ≡ true) (sym same) (begins-run class class text (λ c h. h) some);
  ended = subst (λ f. begins_with f (characters end) ≡ false) (sym same) (ap (λ t. begins_with class (characters t)) at ∙ skip-ended class text);
}

pub is-con-id : (text : List Located) → begins_with is_ascii_uppercase (characters text) ≡ true → is_con_id (characters (run is_name_character text)) ≡ true
unfolding is_con_id
is-con-id text is =
    and-both (begins_with is_ascii_uppercase (characters (run is_name_character text))) (list_all is_name_character (characters (run is_name_character text)))
    (begins-run is_ascii_uppercase is_name_character text capital-name is) (all-run is_name_character text)

pub capital-first : (text : List Located) → begins_with is_ascii_uppercase (characters text) ≡ true → begins_with is_name_character (characters text) ≡ true
capital-first [] is = is
capital-first (c ∷ text) is = capital-name c.char is

-- names of variables
pub variable-form : (text : List Located) → begins_with is_ascii_lowercase (characters (skip is_underscore text)) ≡ true → has_variable_form (characters (run is_name_character text)) ≡ true
variable-form [] is = is
variable-form (c ∷ text) is = by (λ h. variable-form text h) (is_underscore c.char) refl is
  where
    go : (b : Bool) → has_variable_form (characters (run is_name_character text)) ≡ true → is_underscore c.char ≡ true → has_variable_form (c.char ∷ characters (run is_name_character text)) ≡ true
    go b more under = rw (under, more) refl

    by : (begins_with is_ascii_lowercase (characters (skip is_underscore text)) ≡ true → has_variable_form (characters (run is_name_character text)) ≡ true)
        → (b : Bool) → is_underscore c.char ≡ b → begins_with is_ascii_lowercase (characters (if b then skip is_underscore text else c ∷ text)) ≡ true
        → has_variable_form (characters (run is_name_character (c ∷ text))) ≡ true
    by more true under is = rw (underscore-name c.char under) (go true (more is) under)
    by more false under is =
        rw (small-name-character c.char is, under, is) (all-run is_name_character text)

pub variable-first : (text : List Located) → begins_with is_ascii_lowercase (characters (skip is_underscore text)) ≡ true → begins_with is_name_character (characters text) ≡ true
variable-first [] is = is
variable-first (c ∷ text) is = by (is_underscore c.char) refl is
  where
    by : (b : Bool) → is_underscore c.char ≡ b → begins_with is_ascii_lowercase (characters (if b then skip is_underscore text else c ∷ text)) ≡ true → is_name_character c.char ≡ true
    by true under is = underscore-name c.char under
    by false under is = small-name-character c.char is

pub var-id-kind : (word : List ℕ) → has_variable_form word ≡ true → keyword_of word ≡ None → is_var_id word ≡ true
unfolding is_var_id
var-id-kind word form none = rw (form, none) refl

pub operator-is : (word : List ℕ) → is_run is_symbol word ≡ true → reserved_of word ≡ None → is_dashes word ≡ false → is_operator word ≡ true
unfolding is_operator
operator-is word form none dashes = rw (form, none, dashes) refl

pub colon-first : (word : List ℕ) → 0 < length word → (slice_index_or word 0 0 == 58) ≡ begins_with is_colon word
colon-first [] some = absurd (omega arith)
colon-first (c ∷ word) some = refl

pub no-colon : (word : List ℕ) → length word ≡ 0 → false ≡ begins_with is_colon word
no-colon [] none = refl
no-colon (c ∷ word) none = absurd (omega arith)
