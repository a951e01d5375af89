-- Words at the start of a text are whole runs, and so are unique; chains of them.
use Rattle.std.proofs.Common.{◌≡◌, ℕ, ◌<◌, ◌≤◌, ◌⊎◌, inl, inr, Bool, true, false, ◌&&◌, ◌||◌, ◌==◌, not, List, [], ◌∷◌, ◌++◌, length, Option, Some, None, is_none, if◌then◌else◌, refl, sym, ap, subst, ◌∙◌, arith, true≢false, append_assoc, eqb-true}
use Rattle.std.proofs.lemmas.List.{length-append, map-append}
use Rattle.std.proofs.lemmas.List.Folds.{list_all-append}
use Rattle.std.proofs.lemmas.Slice.Eq.{bytes_eq-Decides}
use Rattle.std.specs.Char.{is_ascii_lowercase, is_ascii_uppercase}
use Rattle.std.specs.List.{list_all}
use Rattle.std.specs.Str.{byte, bytes_eq}
use Rattle.cu_lex.specs.declared.cursor.Cursor.{Cursor}
use Rattle.cu_lex.specs.declared.word.WordKind.{WordKind}
use Rattle.cu_lex.specs.declared.word.WordKind.TheVariants as kind
use Rattle.cu_lex.specs.Inside.Chains.{Reaches, BeginsAt, IsAfter}
use Rattle.cu_lex.specs.Inside.Chains.Reaches.{last, link}
use Rattle.cu_lex.specs.Located.{Located, characters}
use Rattle.cu_lex.specs.Inside.Scanning.{skip, first_of, later, left, is_base, is_underscore, IsWord, IsOfKind, class_of, con_id_kind, HasNoWord, HasNoBase}
use Rattle.cu_lex.specs.Words.{begins_with, between_dots, with_first, entry, has_variable_form, is_con_id, is_dashes, is_module_name, is_name_character, is_operator, is_run, is_symbol, is_var_id, keyword_of, keywords, reserved_of, reserved_operators}
use Rattle.cu_lex.proofs.AsciiLemmas.{and-left, and-right, and-both, apart, small-name, small-capital, small-symbol, small-name-character, underscore-name}
use Rattle.cu_lex.proofs.ScanLemmas.{run-unique}

-- ---- tables of words

-- a word that fails a test which all entries pass has no entry
pub entry-none : {X : Type 0} (p : List ℕ → Bool) (table : List (List ℕ × X)) → list_all (λ e. p e.0) table ≡ true → (word : List ℕ) → p word ≡ false → entry table word ≡ None
entry-none p [] all word fails = refl
entry-none p (e ∷ table) all word fails =
    rw (differs (bytes_eq word e.0) refl) (entry-none p table (and-right (p e.0) (list_all (λ x. p x.0) table) all) word fails)
  where
    differs : (b : Bool) → bytes_eq word e.0 ≡ b → bytes_eq word e.0 ≡ false
    differs false is = is
    differs true is =
        let same : word ≡ e.0 = (bytes_eq-Decides word e.0).0 is in
        absurd (true≢false (sym (and-left (p e.0) (list_all (λ x. p x.0) table) all) ∙ ap p (sym same) ∙ fails))

-- ---- classes of characters that lie apart

pub name-apart : (c : ℕ) → is_name_character c ≡ true → is_symbol c ≡ false
unfolding is_name_character is_symbol
name-apart c is = apart is_name_character is_symbol refl c (small-name c is) is

pub capital-apart : (c : ℕ) → is_ascii_uppercase c ≡ true → is_ascii_lowercase c ≡ false
capital-apart c is = apart is_ascii_uppercase is_ascii_lowercase refl c (small-capital c is) is

pub capital-underscore : (c : ℕ) → is_ascii_uppercase c ≡ true → is_underscore c ≡ false
capital-underscore c is = apart is_ascii_uppercase is_underscore refl c (small-capital c is) is

pub symbol-capital : (c : ℕ) → is_symbol c ≡ true → is_ascii_uppercase c ≡ false
unfolding is_symbol
symbol-capital c is = apart is_symbol is_ascii_uppercase refl c (small-symbol c is) is

pub symbol-name : (c : ℕ) → is_symbol c ≡ true → is_name_character c ≡ false
unfolding is_name_character is_symbol
symbol-name c is = apart is_symbol is_name_character refl c (small-symbol c is) is

-- names and symbols are two classes
pub classes-differ : is_name_character ≡ is_symbol → ⊥
unfolding is_name_character is_symbol
classes-differ same = true≢false (ap (λ (f : ℕ → Bool). f 97) same)

-- ---- kinds

pub class-cases : (k : WordKind) → (class_of k ≡ is_name_character) ⊎ (class_of k ≡ is_symbol)
class-cases kind.VarId = inl refl
class-cases kind.ConId = inl refl
class-cases kind.VarOp = inr refl
class-cases kind.ConOp = inr refl
class-cases (kind.Keyword k) = inl refl
class-cases (kind.Reserved k) = inr refl
class-cases kind.Dashes = inr refl

pub first-prefix : (p : ℕ → Bool) (prefix rest : List Located) → begins_with p (characters prefix) ≡ true → begins_with p (characters (prefix ++ rest)) ≡ true
first-prefix p [] rest is = absurd (true≢false (sym is))
first-prefix p (c ∷ prefix) rest is = is

pub word-first : (text : List Located) (k : WordKind) (end : List Located) → IsWord text k end → begins_with (class_of k) (characters text) ≡ true
word-first text k end word = subst (λ t. begins_with (class_of k) (characters t) ≡ true) word.whole (first-prefix (class_of k) word.prefix end word.some)

pub name-symbol : (text : List Located) → begins_with is_name_character (characters text) ≡ true → begins_with is_symbol (characters text) ≡ true → ⊥
name-symbol [] is is' = true≢false (sym is)
name-symbol (c ∷ text) is is' = true≢false (sym is' ∙ name-apart c.char is)

pub same-class : (text : List Located) (k k' : WordKind) (end end' : List Located) → IsWord text k end → IsWord text k' end' → class_of k ≡ class_of k'
same-class text k k' end end' w w' = by (class-cases k) (class-cases k')
  where
    first : (class : ℕ → Bool) → class_of k ≡ class → begins_with class (characters text) ≡ true
    first class is = subst (λ f. begins_with f (characters text) ≡ true) is (word-first text k end w)

    first' : (class : ℕ → Bool) → class_of k' ≡ class → begins_with class (characters text) ≡ true
    first' class is = subst (λ f. begins_with f (characters text) ≡ true) is (word-first text k' end' w')

    by : (class_of k ≡ is_name_character) ⊎ (class_of k ≡ is_symbol) → (class_of k' ≡ is_name_character) ⊎ (class_of k' ≡ is_symbol) → class_of k ≡ class_of k'
    by (inl a) (inl b) = a ∙ sym b
    by (inl a) (inr b) = absurd (name-symbol text (first is_name_character a) (first' is_symbol b))
    by (inr a) (inl b) = absurd (name-symbol text (first' is_name_character b) (first is_symbol a))
    by (inr a) (inr b) = a ∙ sym b

pub word-end : (text : List Located) (k : WordKind) (end : List Located) → IsWord text k end → skip (class_of k) text ≡ end
word-end text k end w = ap (skip (class_of k)) (sym w.whole) ∙ run-unique (class_of k) w.prefix end w.all w.ended

pub same-end : (text : List Located) (k k' : WordKind) (end end' : List Located) → IsWord text k end → IsWord text k' end' → end ≡ end'
same-end text k k' end end' w w' =
    sym (word-end text k end w) ∙ ap (λ f. skip f text) (same-class text k k' end end' w w') ∙ word-end text k' end' w'

-- what stands before the same end is the same
pub same-prefix : (prefix prefix' end : List Located) → prefix ++ end ≡ prefix' ++ end → prefix ≡ prefix'
same-prefix [] [] end whole = refl
same-prefix [] (d ∷ prefix') end whole = let sizes = ap length whole in absurd (omega (arith, length-append (d ∷ prefix') end))
same-prefix (c ∷ prefix) [] end whole = let sizes = ap length whole in absurd (omega (arith, length-append (c ∷ prefix) end))
same-prefix (c ∷ prefix) (d ∷ prefix') end whole =
    let heads : c ≡ d = cc in
    let tails : prefix ++ end ≡ prefix' ++ end = cc in
    let more = same-prefix prefix prefix' end tails in
    (λ j. heads j ∷ more j)

pub prefixes : (text : List Located) (k k' : WordKind) (end end' : List Located) (w : IsWord text k end) (w' : IsWord text k' end') → w.prefix ≡ w'.prefix
prefixes text k k' end end' w w' =
    same-prefix w.prefix w'.prefix end' (ap (λ t. w.prefix ++ t) (sym (same-end text k k' end end' w w')) ∙ w.whole ∙ sym w'.whole)

-- ---- words of one kind aren't of another

pub capital-var : (word : List ℕ) → begins_with is_ascii_uppercase word ≡ true → has_variable_form word ≡ false
capital-var [] is = refl
capital-var (c ∷ word) is = rw (capital-underscore c is, capital-apart c is) refl

pub symbol-var : (word : List ℕ) → begins_with is_symbol word ≡ true → has_variable_form word ≡ false
symbol-var [] is = refl
symbol-var (c ∷ word) is = by (is_underscore c) refl (is_ascii_lowercase c) refl
  where
    by : (a : Bool) → is_underscore c ≡ a → (b : Bool) → is_ascii_lowercase c ≡ b → has_variable_form (c ∷ word) ≡ false
    by true h b h' = absurd (true≢false (sym (underscore-name c h) ∙ symbol-name c is))
    by false h true h' = absurd (true≢false (sym (small-name-character c h') ∙ symbol-name c is))
    by false h false h' = rw (h, h') refl

pub var-form : (word : List ℕ) → is_var_id word ≡ true → has_variable_form word ≡ true
unfolding is_var_id
var-form word is = and-left (has_variable_form word) (is_none (keyword_of word)) is

pub var-keyword : (word : List ℕ) → is_var_id word ≡ true → is_none (keyword_of word) ≡ true
unfolding is_var_id
var-keyword word is = and-right (has_variable_form word) (is_none (keyword_of word)) is

pub con-capital : (word : List ℕ) → is_con_id word ≡ true → begins_with is_ascii_uppercase word ≡ true
unfolding is_con_id
con-capital word is = and-left (begins_with is_ascii_uppercase word) (list_all is_name_character word) is

pub con-all : (word : List ℕ) → is_con_id word ≡ true → list_all is_name_character word ≡ true
unfolding is_con_id
con-all word is = and-right (begins_with is_ascii_uppercase word) (list_all is_name_character word) is

pub operator-run : (word : List ℕ) → is_operator word ≡ true → is_run is_symbol word ≡ true
unfolding is_operator
operator-run word is = and-left (is_run is_symbol word) (is_none (reserved_of word) && not (is_dashes word)) is

pub operator-first : (word : List ℕ) → is_operator word ≡ true → begins_with is_symbol word ≡ true
operator-first word is = and-left (begins_with is_symbol word) (list_all is_symbol word) (operator-run word is)

pub operator-reserved : (word : List ℕ) → is_operator word ≡ true → is_none (reserved_of word) ≡ true
unfolding is_operator
operator-reserved word is = and-left (is_none (reserved_of word)) (not (is_dashes word)) (and-right (is_run is_symbol word) (is_none (reserved_of word) && not (is_dashes word)) is)

pub operator-dashes : (word : List ℕ) → is_operator word ≡ true → not (is_dashes word) ≡ true
unfolding is_operator
operator-dashes word is = and-right (is_none (reserved_of word)) (not (is_dashes word)) (and-right (is_run is_symbol word) (is_none (reserved_of word) && not (is_dashes word)) is)

-- keywords begin with small letters, and reserved operators with symbols
pub keyword-small : (word : List ℕ) → begins_with is_ascii_lowercase word ≡ false → keyword_of word ≡ None
unfolding keyword_of
keyword-small word is = entry-none (begins_with is_ascii_lowercase) keywords refl word is

pub reserved-symbol : (word : List ℕ) → begins_with is_symbol word ≡ false → reserved_of word ≡ None
unfolding reserved_of is_symbol
reserved-symbol word is = entry-none (begins_with is_symbol) reserved_operators refl word is

pub capital-small : (word : List ℕ) → begins_with is_ascii_uppercase word ≡ true → begins_with is_ascii_lowercase word ≡ false
capital-small [] is = refl
capital-small (c ∷ word) is = capital-apart c is

pub symbol-capitals : (w : List ℕ) → begins_with is_symbol w ≡ true → begins_with is_ascii_uppercase w ≡ true → ⊥
symbol-capitals [] a b = true≢false (sym a)
symbol-capitals (c ∷ w) a b = true≢false (sym b ∙ symbol-capital c a)

-- a ConId is of no other kind that may follow a qualifier
pub con-kind : (word : List ℕ) (k : WordKind) → is_con_id word ≡ true → IsOfKind k word → is_base k ≡ true → k ≡ con_id_kind
con-kind word kind.VarId con is base = absurd (true≢false (sym (var-form word is) ∙ capital-var word (con-capital word con)))
con-kind word kind.ConId con is base = refl
con-kind word kind.VarOp con is base = absurd (symbol-capitals word (operator-first word is.0) (con-capital word con))
con-kind word kind.ConOp con is base = absurd (symbol-capitals word (operator-first word is.0) (con-capital word con))
con-kind word (kind.Keyword k) con is base = cc
con-kind word (kind.Reserved k) con is base = cc
con-kind word kind.Dashes con is base = cc

-- a word that may follow a qualifier is no keyword, no reserved operator and no dashes
pub none-is : {X : Type 0} (o : Option X) (x : X) → is_none o ≡ true → o ≡ Some x → ⊥
none-is None x is at = cc
none-is (Some y) x is at = true≢false (sym is)

pub kinds-apart : (word : List ℕ) (k k' : WordKind) → class_of k ≡ class_of k' → IsOfKind k word → is_base k ≡ true → IsOfKind k' word → is_base k' ≡ false → ⊥
kinds-apart word k kind.VarId same is base is' base' = true≢false base'
kinds-apart word k kind.ConId same is base is' base' = true≢false base'
kinds-apart word k kind.VarOp same is base is' base' = true≢false base'
kinds-apart word k kind.ConOp same is base is' base' = true≢false base'
kinds-apart word kind.VarId (kind.Keyword x) same is base is' base' = none-is (keyword_of word) x (var-keyword word is) is'
kinds-apart word kind.ConId (kind.Keyword x) same is base is' base' =
    none-is (keyword_of word) x (ap is_none (keyword-small word (capital-small word (con-capital word is)))) is'
kinds-apart word kind.VarOp (kind.Keyword x) same is base is' base' = classes-differ (sym same)
kinds-apart word kind.ConOp (kind.Keyword x) same is base is' base' = classes-differ (sym same)
kinds-apart word kind.VarId (kind.Reserved x) same is base is' base' = classes-differ same
kinds-apart word kind.ConId (kind.Reserved x) same is base is' base' = classes-differ same
kinds-apart word kind.VarOp (kind.Reserved x) same is base is' base' = none-is (reserved_of word) x (operator-reserved word is.0) is'
kinds-apart word kind.ConOp (kind.Reserved x) same is base is' base' = none-is (reserved_of word) x (operator-reserved word is.0) is'
kinds-apart word kind.VarId kind.Dashes same is base is' base' = classes-differ same
kinds-apart word kind.ConId kind.Dashes same is base is' base' = classes-differ same
kinds-apart word kind.VarOp kind.Dashes same is base is' base' = true≢false (sym (operator-dashes word is.0) ∙ ap not is')
kinds-apart word kind.ConOp kind.Dashes same is base is' base' = true≢false (sym (operator-dashes word is.0) ∙ ap not is')
kinds-apart word (kind.Keyword y) k' same is base is' base' = true≢false (sym base)
kinds-apart word (kind.Reserved y) k' same is base is' base' = true≢false (sym base)
kinds-apart word kind.Dashes k' same is base is' base' = true≢false (sym base)

-- ---- chains

-- what lies after the dot after a ConId
pub record IsBeyond (k : WordKind) (end rest : List Located) : Type 0 where
  pub con_id : k ≡ con_id_kind
  pub dot : first_of end ≡ Some (byte ".")
  pub more : Reaches rest (later end)

-- a chain ends with its first word, or goes on after the dot after it
pub advance : (text : List Located) (k : WordKind) (end rest : List Located) → IsWord text k end → is_base k ≡ true → Reaches rest text → (length end ≤ length rest) ⊎ IsBeyond k end rest
advance text k end rest w base (last k' w' base') =
    let same = same-end text k k' end rest w w' in
    inl (subst (λ t. length end ≤ length t) same (omega arith))
advance text k end rest w base (link end' w' dot more) =
    let same = same-end text k con_id_kind end end' w w' in
    let con : is_con_id (characters w.prefix) ≡ true = subst (λ f. is_con_id (characters f) ≡ true) (sym (prefixes text k con_id_kind end end' w w')) w'.is in
    inr (record {
      con_id = con-kind (characters w.prefix) k con w.is base;
      dot = subst (λ t. first_of t ≡ Some (byte ".")) (sym same) dot;
      more = subst (λ t. Reaches rest (later t)) (sym same) more;
    })

-- a name of a variable begins with a small letter, after any underscores
pub form-first : (prefix rest : List Located) → has_variable_form (characters prefix) ≡ true → begins_with is_ascii_lowercase (characters (skip is_underscore (prefix ++ rest))) ≡ true
form-first [] rest is = absurd (true≢false (sym is))
form-first (c ∷ prefix) rest is = by (λ h. form-first prefix rest h) (is_underscore c.char) refl (is_ascii_lowercase c.char) refl is
  where
    by : (has_variable_form (characters prefix) ≡ true → begins_with is_ascii_lowercase (characters (skip is_underscore (prefix ++ rest))) ≡ true)
        → (a : Bool) → is_underscore c.char ≡ a → (b : Bool) → is_ascii_lowercase c.char ≡ b
        → (a && has_variable_form (characters prefix)) || (b && list_all is_name_character (characters prefix)) ≡ true
        → begins_with is_ascii_lowercase (characters (skip is_underscore (c ∷ prefix ++ rest))) ≡ true
    by more true h true h' is = absurd (true≢false (sym h' ∙ ap is_ascii_lowercase (eqb-true c.char 95 h)))
    by more true h false h' is = rw h (more (or-first (has_variable_form (characters prefix)) is))
      where
        or-first : (b : Bool) → b || false ≡ true → b ≡ true
        or-first true is = refl
        or-first false is = is
    by more false h true h' is = rw (h, h') refl
    by more false h false h' is = absurd (true≢false (sym is))

-- where no name or operator begins, no chain does
no-word : (text : List Located) (k : WordKind) (end : List Located) → HasNoWord text → IsWord text k end → is_base k ≡ true → ⊥
no-word text kind.VarId end none w base =
    true≢false (sym (subst (λ t. begins_with is_ascii_lowercase (characters (skip is_underscore t)) ≡ true) w.whole (form-first w.prefix end (var-form (characters w.prefix) w.is))) ∙ none.variable)
no-word text kind.ConId end none w base =
    true≢false (sym (subst (λ t. begins_with is_ascii_uppercase (characters t) ≡ true) w.whole (first-prefix is_ascii_uppercase w.prefix end (con-capital (characters w.prefix) w.is))) ∙ none.capital)
no-word text kind.VarOp end none w base =
    true≢false (sym (subst (λ t. begins_with is_symbol (characters t) ≡ true) w.whole (first-prefix is_symbol w.prefix end (operator-first (characters w.prefix) w.is.0))) ∙ none.symbol)
no-word text kind.ConOp end none w base =
    true≢false (sym (subst (λ t. begins_with is_symbol (characters t) ≡ true) w.whole (first-prefix is_symbol w.prefix end (operator-first (characters w.prefix) w.is.0))) ∙ none.symbol)
no-word text (kind.Keyword k) end none w base = true≢false (sym base)
no-word text (kind.Reserved k) end none w base = true≢false (sym base)
no-word text kind.Dashes end none w base = true≢false (sym base)

pub no-chain : (text rest : List Located) → HasNoBase text → Reaches rest text → ⊥
no-chain text rest none (last k w base) = by none
  where
    by : HasNoBase text → ⊥
    by (inl empty) = no-word text k rest empty w base
    by (inr (k', end', w', base')) =
        kinds-apart (characters w.prefix) k k' (same-class text k k' rest end' w w') w.is base (subst (λ f. IsOfKind k' (characters f)) (sym (prefixes text k k' rest end' w w')) w'.is) base'
no-chain text rest none (link end w dot more) = by none
  where
    by : HasNoBase text → ⊥
    by (inl empty) = no-word text con_id_kind end empty w refl
    by (inr (k', end', w', base')) =
        kinds-apart (characters w.prefix) con_id_kind k' (same-class text con_id_kind k' end end' w w') w.is refl (subst (λ f. IsOfKind k' (characters f)) (sym (prefixes text con_id_kind k' end end' w w')) w'.is) base'

-- ---- names of modules

pub name-dot : (c : ℕ) → is_name_character c ≡ true → (c == byte ".") ≡ false
unfolding is_name_character
name-dot c is = apart is_name_character (λ x. x == byte ".") refl c (small-name c is) is

pub between-plain : (word : List ℕ) → list_all is_name_character word ≡ true → between_dots word ≡ word ∷ []
between-plain [] all = refl
between-plain (c ∷ word) all =
    rw (name-dot c (and-left (is_name_character c) (list_all is_name_character word) all), between-plain word (and-right (is_name_character c) (list_all is_name_character word) all)) refl

some-parts : (word : List ℕ) → (part : List ℕ) × (parts : List (List ℕ)) × (between_dots word ≡ part ∷ parts)
some-parts [] = ([], [], refl)
some-parts (c ∷ word) = by (c == byte ".") (between_dots word)
  where
    by : (b : Bool) (ps : List (List ℕ)) → (part : List ℕ) × (parts : List (List ℕ)) × ((if b then [] ∷ ps else with_first c ps) ≡ part ∷ parts)
    by true ps = ([], ps, refl)
    by false [] = (c ∷ [], [], refl)
    by false (p ∷ ps) = (c ∷ p, ps, refl)

pub between-join : (o m : List ℕ) → between_dots (o ++ 46 ∷ m) ≡ between_dots o ++ between_dots m
between-join [] m = refl
between-join (c ∷ o) m =
    let some = some-parts o in
    let more = between-join o m in
    by (c == byte ".") (between_dots o) (between_dots (o ++ 46 ∷ m)) more some.2
  where
    by : (b : Bool) (ps qs : List (List ℕ)) {part : List ℕ} {parts : List (List ℕ)} → qs ≡ ps ++ between_dots m → ps ≡ part ∷ parts
        → (if b then [] ∷ qs else with_first c qs) ≡ (if b then [] ∷ ps else with_first c ps) ++ between_dots m
    by true ps qs more some = ap (λ t. [] ∷ t) more
    by false ps qs more some = rw (more, some) refl

pub con-module : (word : List ℕ) → is_con_id word ≡ true → is_module_name word ≡ true
unfolding is_module_name
con-module word con = rw (between-plain word (con-all word con)) (and-both (is_con_id word) true con refl)

pub module-join : (o m : List ℕ) → is_module_name o ≡ true → is_module_name m ≡ true → is_module_name (o ++ 46 ∷ m) ≡ true
unfolding is_module_name
module-join o m is is' =
    ap (list_all is_con_id) (between-join o m) ∙ list_all-append is_con_id (between_dots o) (between_dots m)
    ∙ and-both (list_all is_con_id (between_dots o)) (list_all is_con_id (between_dots m)) is is'

-- a dot and what follows it
pub dotted : (end : List Located) → first_of end ≡ Some (byte ".") → (d : Located) × (d.char ≡ 46) × (end ≡ d ∷ later end)
dotted [] first = cc
dotted (d ∷ end) first =
    let at : d.char ≡ 46 = cc in
    (d, at, refl)

pub after_dot : (text base end base' : List Located) (dot : Option Cursor) → BeginsAt text base dot → IsWord base con_id_kind end → first_of end ≡ Some (byte ".") → base' ≡ later end → IsAfter text end base'
after_dot text base end base' None begins w dot after = record {
  outer = w.prefix;
  whole = w.whole ∙ begins;
  is = con-module (characters w.prefix) w.is;
  dotted = dot;
  after = after;
}
after_dot text base end base' (Some old) begins w dot after =
    let point = dotted (left old) begins.dotted in
    let joined : characters (begins.outer ++ point.0 ∷ w.prefix) ≡ characters begins.outer ++ 46 ∷ characters w.prefix =
    map-append (λ (l : Located). l.char) begins.outer (point.0 ∷ w.prefix) ∙ ap (λ d. characters begins.outer ++ d ∷ characters w.prefix) point.1 in
    record {
      outer = begins.outer ++ point.0 ∷ w.prefix;
      whole = append_assoc begins.outer (point.0 ∷ w.prefix) end ∙ ap (λ t. begins.outer ++ point.0 ∷ t) (w.whole ∙ begins.after) ∙ ap (λ t. begins.outer ++ t) (sym point.2) ∙ begins.whole;
      is = ap is_module_name joined ∙ module-join (characters begins.outer) (characters w.prefix) begins.is (con-module (characters w.prefix) w.is);
      dotted = dot;
      after = after;
    }

-- what follows a word is shorter
pub word-shorter : (text : List Located) (k : WordKind) (end : List Located) → IsWord text k end → length end < length text
word-shorter text k end w = by w.prefix w.some w.whole
  where
    by : (prefix : List Located) → begins_with (class_of k) (characters prefix) ≡ true → prefix ++ end ≡ text → length end < length text
    by [] some whole = absurd (true≢false (sym some))
    by (c ∷ prefix) some whole = omega (arith, ap length whole, length-append (c ∷ prefix) end)

pub later-shorter : (text : List Located) → length (later text) ≤ length text
later-shorter [] = omega arith
later-shorter (c ∷ text) = omega arith

-- the reach after one more word
pub reach-further : (k : WordKind) (end base' : List Located) (k' : WordKind) (end' rest : List Located) → base' ≡ later end → IsWord base' k' end' → is_base k' ≡ true
    → (length end ≤ length rest) ⊎ IsBeyond k end rest → (length end' ≤ length rest) ⊎ IsBeyond k' end' rest
reach-further k end base' k' end' rest at w base (inl short) =
    inl (let a = word-shorter base' k' end' w in let b = later-shorter end in let c = ap length at in omega arith)
reach-further k end base' k' end' rest at w base (inr beyond) = advance base' k' end' rest w base (subst (Reaches rest) (sym at) beyond.more)

pub reach-ends : (k : WordKind) (end rest : List Located) → (k ≡ con_id_kind → first_of end ≡ Some (byte ".") → HasNoBase (later end))
    → (length end ≤ length rest) ⊎ IsBeyond k end rest → length end ≤ length rest
reach-ends k end rest none (inl short) = short
reach-ends k end rest none (inr beyond) = absurd (no-chain (later end) rest (none beyond.con_id beyond.dot) beyond.more)
