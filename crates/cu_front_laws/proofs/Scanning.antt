-- The pieces of a text, found without a look past the word or the line in which one begins.
use Rattle.std.specs.Prelude.{◌≡◌, ℕ, suc, Bool, true, false, not, ◌&&◌, ◌||◌, ◌==◌, ◌+◌, ◌*◌, fold, List, [], ◌∷◌, ◌++◌, length, codes, drop, take, Option, None, Some, if◌then◌else◌, refl, nat_eq, slice_index_or, IfSome}
use Rattle.std.proofs.Common.{ap, arith, sym, ◌∙◌}
use Rattle.std.proofs.lemmas.Bool.{and_from, and_parts, both_ways, or_from, or_left, or_parts, or_right}
use Rattle.std.proofs.lemmas.Bool.Decides.{Decides-eqb}
use Rattle.std.proofs.lemmas.List.{map-append, take-append-drop}
use Rattle.std.proofs.lemmas.Slice.Eq.{bytes_eq-Decides}
use Rattle.std.specs.Char.{digit_value, is_ascii_lowercase, is_digit}
use Rattle.std.specs.List.{list_all, list_any}
use Rattle.std.specs.Option.{option_and_then, option_map, option_or}
use Rattle.std.specs.Str.{byte, bytes_eq}
use Rattle.cu_lex.specs.Kind.{Kind}
use Rattle.cu_lex.specs.Kind.Kind.{ConId, Keyword, Mark, Reserved, VarId}
use Rattle.cu_lex.specs.Literals.{item, items_between}
use Rattle.cu_lex.specs.Located.{Located, Position, characters}
use Rattle.cu_lex.specs.Munch.{Cut, cut_all, cut_at, longest_after}
use Rattle.cu_lex.specs.Pieces.{Piece, blank, name_kind, number, number_at, one_character, operator, piece, spelled, start, string, word, word_before, word_kind}
use Rattle.cu_lex.specs.Pieces.Piece.{Blank}
use Rattle.cu_lex.specs.Words.{based_number, begins_with, between_dots, decimal_number, digits_value, entry, goes_on_with_number, has_variable_form, is_con_id, is_line_comment, is_module_name, is_name_character, is_nested_comment, is_operator, is_separator, is_single, is_symbol, is_var_id, keyword_of, keywords, mark_of, marks, qualified_parts, reserved_of, reserved_operators, with_first}
use Rattle.cu_lex.proofs.ChainLemmas.{con-all, operator-run, var-form}
use Rattle.cu_lex.proofs.ClassLemmas.{comment-first}
use Rattle.cu_lex.proofs.QualifiedLemmas.{parts-from}

-- ---- words have no separators

abbrev is_sound : ℕ → Bool
is_sound c = not (list_any (λ s. nat_eq c s) (codes " \t\r\n\u{c}"))

abbrev pub no_separator : List ℕ → Bool
no_separator w = list_all is_sound w

not_any : (c : ℕ) (seps : List ℕ) → ((s : ℕ) → list_any (λ t. nat_eq s t) seps ≡ true → nat_eq c s ≡ false)
    → not (list_any (λ s. nat_eq c s) seps) ≡ true
not_any c [] never = refl
not_any c (s ∷ seps) never =
    by (nat_eq c s) (never s (or_left (nat_eq s s) _ ((Decides-eqb s s).1 refl))) (not_any c seps (λ t h. never t (or_right (nat_eq t s) _ h)))
  where
    by : (b : Bool) → b ≡ false → not (list_any (λ s. nat_eq c s) seps) ≡ true → not (b || list_any (λ s. nat_eq c s) seps) ≡ true
    by true e h = absurd (both_ways true e refl)
    by false e h = h

-- a class that no separator has
class_sound : (class : ℕ → Bool) → list_all (λ s. not (class s)) (codes " \t\r\n\u{c}") ≡ true → (c : ℕ) → class c ≡ true → is_sound c ≡ true
class_sound class none c h =
    not_any c (codes " \t\r\n\u{c}") (λ s in'. differs s (nat_eq c s) refl (each (codes " \t\r\n\u{c}") none s in'))
  where
    is_false : (b : Bool) → not b ≡ true → b ≡ false
    is_false true e = absurd (both_ways true (sym e) refl)
    is_false false e = refl

    each : (xs : List ℕ) → list_all (λ s. not (class s)) xs ≡ true → (s : ℕ) → list_any (λ t. nat_eq s t) xs ≡ true → class s ≡ false
    each [] all s in' = absurd (both_ways false refl in')
    each (x ∷ xs) all s in' = by (nat_eq s x) refl in' (and_parts (not (class x)) (list_all (λ s. not (class s)) xs) all) (λ a. each xs a s)
      where
        by : (b : Bool) → nat_eq s x ≡ b → (b || list_any (λ t. nat_eq s t) xs) ≡ true
            → (not (class x) ≡ true) × (list_all (λ s. not (class s)) xs ≡ true)
            → ((list_all (λ s. not (class s)) xs ≡ true) → (list_any (λ t. nat_eq s t) xs ≡ true) → class s ≡ false) → class s ≡ false
        by true e h both go = ap class ((Decides-eqb s x).0 e) ∙ is_false (class x) both.0
        by false e h both go = go both.1 h

    differs : (s : ℕ) (b : Bool) → nat_eq c s ≡ b → class s ≡ false → b ≡ false
    differs s true e other = absurd (both_ways (class c) (ap class ((Decides-eqb c s).0 e) ∙ other) h)
    differs s false e other = refl

all_sound : (class : ℕ → Bool) → ((c : ℕ) → class c ≡ true → is_sound c ≡ true) → (w : List ℕ) → list_all class w ≡ true → no_separator w ≡ true
all_sound class each [] all = refl
all_sound class each (c ∷ w) all =
    let both = and_parts (class c) (list_all class w) all in
    and_from (is_sound c) (no_separator w) (each c both.0) (all_sound class each w both.1)

name_sound : (c : ℕ) → is_name_character c ≡ true → is_sound c ≡ true
unfolding is_name_character
name_sound = class_sound is_name_character refl

symbol_sound : (c : ℕ) → is_symbol c ≡ true → is_sound c ≡ true
unfolding is_symbol
symbol_sound = class_sound is_symbol refl

small_sound : (c : ℕ) → is_ascii_lowercase c ≡ true → is_sound c ≡ true
small_sound = class_sound is_ascii_lowercase refl

form_sound : (w : List ℕ) → has_variable_form w ≡ true → no_separator w ≡ true
form_sound [] h = refl
form_sound (c ∷ w) h = by (c == byte "_") (has_variable_form w) (is_ascii_lowercase c) refl refl refl h (form_sound w)
  where
    by : (u v s : Bool) → (c == byte "_") ≡ u → has_variable_form w ≡ v → is_ascii_lowercase c ≡ s
        → ((u && v) || (s && list_all is_name_character w)) ≡ true
        → ((has_variable_form w ≡ true) → no_separator w ≡ true) → (is_sound c && no_separator w) ≡ true
    by true true s e f g h go = and_from (is_sound c) (no_separator w) (ap is_sound ((Decides-eqb c (byte "_")).0 e)) (go f)
    by true false true e f g h go = and_from (is_sound c) (no_separator w) (small_sound c g) (all_sound is_name_character name_sound w h)
    by true false false e f g h go = absurd (both_ways false refl h)
    by false v true e f g h go = and_from (is_sound c) (no_separator w) (small_sound c g) (all_sound is_name_character name_sound w h)
    by false v false e f g h go = absurd (both_ways false refl h)

-- ---- the kinds of words

entry_sound : {X : Type 0} (table : List (List ℕ × X)) (w : List ℕ) → list_all (λ (e : List ℕ × X). no_separator e.0) table ≡ true
    → IfSome (entry table w) (λ x. no_separator w ≡ true)
entry_sound [] w all = tt
entry_sound {X} (e ∷ table) w all =
    let both = and_parts (no_separator e.0) (list_all (λ (e : List ℕ × X). no_separator e.0) table) all in
    by (bytes_eq w e.0) refl both.0 (entry_sound table w both.1)
  where
    by : (b : Bool) → bytes_eq w e.0 ≡ b → no_separator e.0 ≡ true → IfSome (entry table w) (λ x. no_separator w ≡ true)
        → IfSome (if b then Some e.1 else entry table w) (λ x. no_separator w ≡ true)
    by true h sound later = ap no_separator ((bytes_eq-Decides w e.0).0 h) ∙ sound
    by false h sound later = later

or-if : {X : Type 0} (P : X → Type 0) (a b : Option X) → IfSome a P → IfSome b P → IfSome (option_or a b) P
or-if P None b p q = q
or-if P (Some x) b p q = p

-- a property of what is there, whatever it is
map-there : {X Y : Type 0} (A : Type 0) (f : X → Y) (o : Option X) → IfSome o (λ x. A) → IfSome (option_map f o) (λ y. A)
map-there A f None h = tt
map-there A f (Some x) h = h

keyword_sound : (w : List ℕ) → IfSome (keyword_of w) (λ x. no_separator w ≡ true)
unfolding keyword_of
keyword_sound w = entry_sound keywords w refl

reserved_sound : (w : List ℕ) → IfSome (reserved_of w) (λ x. no_separator w ≡ true)
unfolding reserved_of
reserved_sound w = entry_sound reserved_operators w refl

mark_sound : (w : List ℕ) → IfSome (mark_of w) (λ x. no_separator w ≡ true)
unfolding mark_of
mark_sound w = entry_sound marks w refl

base_sound : (w : List ℕ) → (is_var_id w || (is_con_id w || is_operator w)) ≡ true → no_separator w ≡ true
base_sound w h = by (is_var_id w) (is_con_id w) (is_operator w) refl refl refl h
  where
    by : (v c o : Bool) → is_var_id w ≡ v → is_con_id w ≡ c → is_operator w ≡ o → (v || (c || o)) ≡ true → no_separator w ≡ true
    by true c o e f g h = form_sound w (var-form w e)
    by false true o e f g h = all_sound is_name_character name_sound w (con-all w f)
    by false false true e f g h = all_sound is_symbol symbol_sound w (and_parts (begins_with is_symbol w) (list_all is_symbol w) (operator-run w g)).1
    by false false false e f g h = absurd (both_ways false refl h)

name_kind_sound : (q : Option (List ℕ)) (w : List ℕ) → IfSome (name_kind q w) (λ k. no_separator w ≡ true)
unfolding name_kind
name_kind_sound q w = by (is_var_id w) (is_con_id w) (is_operator w) refl refl refl
  where
    by : (v c o : Bool) → is_var_id w ≡ v → is_con_id w ≡ c → is_operator w ≡ o
        → IfSome (if v then Some (VarId (spelled q w)) else if c then Some (ConId (spelled q w)) else if o then Some (operator w (spelled q w)) else
        None) (λ k. no_separator w ≡ true)
    by true c o e f g = base_sound w (or_left (is_var_id w) _ e)
    by false true o e f g = base_sound w (or_right (is_var_id w) _ (or_left (is_con_id w) _ f))
    by false false true e f g = base_sound w (or_right (is_var_id w) _ (or_right (is_con_id w) _ g))
    by false false false e f g = tt

-- ---- qualified words

sound_append : (v w : List ℕ) → no_separator v ≡ true → no_separator w ≡ true → no_separator (v ++ w) ≡ true
sound_append [] w one two = two
sound_append (c ∷ v) w one two =
    let both = and_parts (is_sound c) (no_separator v) one in
    and_from (is_sound c) (no_separator (v ++ w)) both.0 (sound_append v w both.1 two)

firsts_sound : (c : ℕ) (ps : List (List ℕ)) → list_all no_separator (with_first c ps) ≡ true → (is_sound c ≡ true) × (list_all no_separator ps ≡ true)
firsts_sound c [] all = ((and_parts (is_sound c) true (and_parts (is_sound c && true) true all).0).0, refl)
firsts_sound c (p ∷ ps) all =
    let both = and_parts (is_sound c && no_separator p) (list_all no_separator ps) all in
    let first = and_parts (is_sound c) (no_separator p) both.0 in
    (first.0, and_from (no_separator p) (list_all no_separator ps) first.1 both.1)

parts_sound : (o : List ℕ) → list_all no_separator (between_dots o) ≡ true → no_separator o ≡ true
parts_sound [] all = refl
parts_sound (c ∷ o) all = by (c == byte ".") refl all (parts_sound o)
  where
    by : (b : Bool) → (c == byte ".") ≡ b → list_all no_separator (if b then [] ∷ between_dots o else with_first c (between_dots o)) ≡ true
        → ((list_all no_separator (between_dots o) ≡ true) → no_separator o ≡ true) → (is_sound c && no_separator o) ≡ true
    by true e all go = and_from (is_sound c) (no_separator o) (ap is_sound ((Decides-eqb c (byte ".")).0 e)) (go all)
    by false e all go =
        let both = firsts_sound c (between_dots o) all in
        and_from (is_sound c) (no_separator o) both.0 (go both.1)

each_con : (ps : List (List ℕ)) → list_all is_con_id ps ≡ true → list_all no_separator ps ≡ true
each_con [] all = refl
each_con (p ∷ ps) all =
    let both = and_parts (is_con_id p) (list_all is_con_id ps) all in
    and_from (no_separator p) (list_all no_separator ps) (all_sound is_name_character name_sound p (con-all p both.0)) (each_con ps both.1)

module_sound : (o : List ℕ) → is_module_name o ≡ true → no_separator o ≡ true
unfolding is_module_name
module_sound o h = parts_sound o (each_con (between_dots o) h)

qualified_sound : (w : List ℕ) → IfSome (option_and_then (λ parts. name_kind (Some parts.0) parts.1) (qualified_parts w)) (λ k. no_separator w ≡ true)
qualified_sound w = by (qualified_parts w) refl
  where
    at : (o i : List ℕ) → qualified_parts w ≡ Some (o, i) → no_separator w ≡ true
    at o i e =
        let parts = parts-from w o i e in
        ap no_separator (sym parts.0) ∙ sound_append o (46 ∷ i) (module_sound o parts.1) (base_sound i parts.2)

    give : (k : Option Kind) → no_separator w ≡ true → IfSome k (λ x. no_separator w ≡ true)
    give None h = tt
    give (Some k) h = h

    by : (p : Option (List ℕ × List ℕ)) → qualified_parts w ≡ p
        → IfSome (option_and_then (λ parts. name_kind (Some parts.0) parts.1) p) (λ k. no_separator w ≡ true)
    by None e = tt
    by (Some parts) e = give (name_kind (Some parts.0) parts.1) (at parts.0 parts.1 e)

kind_sound : (w : List ℕ) → IfSome (word_kind w) (λ k. no_separator w ≡ true)
unfolding word_kind
kind_sound w =
    or-if (λ k. no_separator w ≡ true) _ _ (map-there (no_separator w ≡ true) Keyword (keyword_of w) (keyword_sound w))
    (or-if (λ k. no_separator w ≡ true) _ _ (map-there (no_separator w ≡ true) Reserved (reserved_of w) (reserved_sound w))
    (or-if (λ k. no_separator w ≡ true) _ _ (map-there (no_separator w ≡ true) Mark (mark_of w) (mark_sound w))
    (or-if (λ k. no_separator w ≡ true) _ _ (name_kind_sound None w) (qualified_sound w))))

there : {Y : Type 0} (A : Type 0) (r : Option Y) → A → IfSome r (λ y. A)
there A None h = tt
there A (Some y) h = h

then-there : {X Y : Type 0} (A : Type 0) (f : X → Option Y) (o : Option X) → IfSome o (λ x. A) → IfSome (option_and_then f o) (λ y. A)
then-there A f None h = tt
then-there A f (Some x) h = there A (f x) h

word_sound : (prefix next : List ℕ) → IfSome (word prefix next) (λ p. no_separator prefix ≡ true)
word_sound prefix next = then-there (no_separator prefix ≡ true) (word_before next) (word_kind prefix) (kind_sound prefix)

-- ---- numbers

digits_sound : (base : ℕ) (w : List ℕ) → list_all (λ s. not (is_digit s base)) (codes " \t\r\n\u{c}") ≡ true
    → IfSome (digits_value base w) (λ n. no_separator w ≡ true)
unfolding digits_value
digits_sound base w none = by (begins_with (λ c. is_digit c base) w) (list_all (λ c. is_digit c base) w) refl
  where
    by : (b a : Bool) → list_all (λ c. is_digit c base) w ≡ a
        → IfSome (if b && a then Some (fold (λ n c. n * base + digit_value c) 0 w) else None) (λ n. no_separator w ≡ true)
    by true true e = all_sound (λ c. is_digit c base) (class_sound (λ c. is_digit c base) none) w e
    by true false e = tt
    by false a e = tt

decimal_sound : (w next : List ℕ) → IfSome (decimal_number w next) (λ n. no_separator w ≡ true)
unfolding decimal_number
decimal_sound w next = by (goes_on_with_number next)
  where
    by : (b : Bool) → IfSome (if b then None else digits_value 10 w) (λ n. no_separator w ≡ true)
    by true = tt
    by false = digits_sound 10 w refl

abbrev bases : List (List ℕ × ℕ)
bases = (codes "0x", 16) ∷ (codes "0o", 8) ∷ (codes "0b", 2) ∷ []

abbrev IsBase : List ℕ → ℕ → Type 0
IsBase v base = (no_separator v ≡ true) × (list_all (λ s. not (is_digit s base)) (codes " \t\r\n\u{c}") ≡ true)

abbrev AreBases : List (List ℕ × ℕ) → Type 0
AreBases [] = Unit {0}
AreBases (e ∷ table) = IsBase e.0 e.1 × AreBases table

base_of : (table : List (List ℕ × ℕ)) (v : List ℕ) → AreBases table → IfSome (entry table v) (IsBase v)
base_of [] v all = tt
base_of (e ∷ table) v all = by (bytes_eq v e.0) refl (base_of table v all.1)
  where
    by : (b : Bool) → bytes_eq v e.0 ≡ b → IfSome (entry table v) (IsBase v) → IfSome (if b then Some e.1 else entry table v) (IsBase v)
    by true h later = (ap no_separator ((bytes_eq-Decides v e.0).0 h) ∙ all.0.0, all.0.1)
    by false h later = later

based_sound : (w : List ℕ) → IfSome (based_number w) (λ n. no_separator w ≡ true)
unfolding based_number
based_sound w = by (entry bases (take 2 w)) (base_of bases (take 2 w) ((refl, refl), ((refl, refl), ((refl, refl), tt))))
  where
    at : (base : ℕ) → IsBase (take 2 w) base → (o : Option ℕ) → IfSome o (λ n. no_separator (drop 2 w) ≡ true) → IfSome o (λ n. no_separator w ≡ true)
    at base is None h = tt
    at base is (Some n) h = ap no_separator (sym (take-append-drop 2 w)) ∙ sound_append (take 2 w) (drop 2 w) is.0 h

    by : (o : Option ℕ) → IfSome o (IsBase (take 2 w))
        → IfSome (option_and_then (λ base. digits_value base (drop 2 w)) o) (λ n. no_separator w ≡ true)
    by None h = tt
    by (Some base) h = at base h (digits_value base (drop 2 w)) (digits_sound base (drop 2 w) h.1)

number_sound : (p : Position) (prefix next : List ℕ) → IfSome (number p prefix next) (λ x. no_separator prefix ≡ true)
number_sound p prefix next =
    map-there (no_separator prefix ≡ true) (number_at p) (option_or (decimal_number prefix next) (based_number prefix))
    (or-if (λ n. no_separator prefix ≡ true) (decimal_number prefix next) (based_number prefix) (decimal_sound prefix next) (based_sound prefix))

-- ---- the shape of pieces

abbrev no_line_end : List ℕ → Bool
no_line_end w = not (list_any (λ c. c == byte "\n") w)

-- whether characters may be a piece: one alone, a word, a comment in a line, or what begins with a
-- brace or a quote
abbrev pub may_be_piece : List ℕ → Bool
may_be_piece [] = true
may_be_piece (c ∷ []) = true
may_be_piece (c ∷ d ∷ w) =
    no_separator (c ∷ d ∷ w) || ((nat_eq c 45 && no_line_end (c ∷ d ∷ w)) || (nat_eq c 123 || (nat_eq c 39 || nat_eq c 34)))

from_sound : (w : List ℕ) → no_separator w ≡ true → may_be_piece w ≡ true
from_sound [] h = refl
from_sound (c ∷ []) h = refl
from_sound (c ∷ d ∷ w) h = or_left (no_separator (c ∷ d ∷ w)) _ h

begins_as : (n : ℕ) (w : List ℕ) → begins_with (λ c. nat_eq c n) w ≡ true → (nat_eq n 123 || (nat_eq n 39 || nat_eq n 34)) ≡ true
    → may_be_piece w ≡ true
begins_as n [] h is = refl
begins_as n (c ∷ []) h is = refl
begins_as n (c ∷ d ∷ w) h is =
    or_right (no_separator (c ∷ d ∷ w)) _
    (or_right (nat_eq c 45 && no_line_end (c ∷ d ∷ w)) _ (ap (λ m. nat_eq m 123 || (nat_eq m 39 || nat_eq m 34)) ((Decides-eqb c n).0 h) ∙ is))

comment_shape : (w : List ℕ) → is_line_comment w ≡ true → may_be_piece w ≡ true
unfolding is_line_comment
comment_shape [] h = refl
comment_shape (c ∷ []) h = refl
comment_shape (c ∷ d ∷ w) h =
    let ends = (and_parts _ (no_line_end (c ∷ d ∷ w)) (and_parts _ _ h).1).1 in
    or_right (no_separator (c ∷ d ∷ w)) _
    (or_left (nat_eq c 45 && no_line_end (c ∷ d ∷ w)) _ (and_from (nat_eq c 45) (no_line_end (c ∷ d ∷ w)) (comment-first (c ∷ d ∷ w) h) ends))

nested_shape : (w : List ℕ) → is_nested_comment w ≡ true → may_be_piece w ≡ true
unfolding is_nested_comment
nested_shape [] h = refl
nested_shape (c ∷ []) h = refl
nested_shape (c ∷ d ∷ w) h = begins_as 123 (c ∷ d ∷ w) (first (and_parts (bytes_eq (c ∷ d ∷ []) (codes "{-")) _ h).0) refl
  where
    first : bytes_eq (c ∷ d ∷ []) (codes "{-") ≡ true → nat_eq c 123 ≡ true
    first same = (Decides-eqb c 123).1 (ap (λ (xs : List ℕ). slice_index_or xs 0 0) ((bytes_eq-Decides (c ∷ d ∷ []) (codes "{-")).0 same))

single_shape : (w : List ℕ) → is_single is_separator w ≡ true → may_be_piece w ≡ true
single_shape [] h = refl
single_shape (c ∷ []) h = refl
single_shape (c ∷ d ∷ w) h = absurd (both_ways (length (c ∷ d ∷ w) == 1) (long (length w)) (and_parts (is_separator c) (length (c ∷ d ∷ w) == 1) h).1)
  where
    long : (n : ℕ) → (suc (suc n) == 1) ≡ false
    long n = by (suc (suc n) == 1) refl
      where
        by : (b : Bool) → (suc (suc n) == 1) ≡ b → b ≡ false
        by true e =
            let same : suc (suc n) ≡ 1 = (Decides-eqb (suc (suc n)) 1).0 e in
            absurd (omega arith)
        by false e = refl

blank_shape : (w : List ℕ) → IfSome (blank w) (λ x. may_be_piece w ≡ true)
blank_shape w = by (is_single is_separator w) (is_line_comment w) (is_nested_comment w) refl refl refl
  where
    by : (s l n : Bool) → is_single is_separator w ≡ s → is_line_comment w ≡ l → is_nested_comment w ≡ n
        → IfSome (if s || (l || n) then Some Blank else None) (λ x. may_be_piece w ≡ true)
    by true l n e f g = single_shape w e
    by false true n e f g = comment_shape w f
    by false false true e f g = nested_shape w g
    by false false false e f g = tt

literal_shape : (quote : ℕ) (prefix : List Located) → (nat_eq quote 123 || (nat_eq quote 39 || nat_eq quote 34)) ≡ true
    → IfSome (items_between quote prefix) (λ x. may_be_piece (characters prefix) ≡ true)
unfolding items_between
literal_shape quote [] is = tt
literal_shape quote (c ∷ prefix) is = by (c.char == quote) (bytes_eq (characters (cut_all (item quote) prefix).left) (quote ∷ [])) refl
  where
    by : (b e : Bool) → (c.char == quote) ≡ b
        → IfSome (if b && e then Some (cut_all (item quote) prefix).pieces else None) (λ x. may_be_piece (characters (c ∷ prefix)) ≡ true)
    by true true h = begins_as quote (characters (c ∷ prefix)) h is
    by true false h = tt
    by false e h = tt

weaker : {X : Type 0} (A B : Type 0) → (A → B) → (o : Option X) → IfSome o (λ x. A) → IfSome o (λ x. B)
weaker A B go None h = tt
weaker A B go (Some x) h = go h

pub piece_shape : (prefix rest : List Located) → IfSome (piece prefix rest) (λ x. may_be_piece (characters prefix) ≡ true)
unfolding piece
piece_shape prefix rest =
    let w = characters prefix in
    or-if (λ x. may_be_piece w ≡ true) _ _ (blank_shape w)
    (or-if (λ x. may_be_piece w ≡ true) _ _
    (weaker (no_separator w ≡ true) (may_be_piece w ≡ true) (from_sound w) (word w (characters rest)) (word_sound w (characters rest)))
    (or-if (λ x. may_be_piece w ≡ true) _ _
    (weaker (no_separator w ≡ true) (may_be_piece w ≡ true) (from_sound w) (number (start prefix) w (characters rest))
    (number_sound (start prefix) w (characters rest)))
    (or-if (λ x. may_be_piece w ≡ true) _ _
    (then-there (may_be_piece w ≡ true) one_character (items_between (byte "'") prefix) (literal_shape (byte "'") prefix refl))
    (map-there (may_be_piece w ≡ true) string (items_between (byte "\"") prefix) (literal_shape (byte "\"") prefix refl)))))

-- ---- a look no further than what may be a piece

-- the longest piece, of the prefixes that go on with what was begun
unfoldable pub scan_after : List Located → List Located → Option (Cut Piece)
scan_after begun [] = None
scan_after begun (c ∷ text) =
    if may_be_piece (characters (begun ++ c ∷ [])) then option_or (scan_after (begun ++ c ∷ []) text)
    (option_map (cut_at (begun ++ c ∷ []) text) (piece (begun ++ c ∷ []) text)) else None

dead_more : (w : List ℕ) (c : ℕ) → may_be_piece w ≡ false → may_be_piece (w ++ c ∷ []) ≡ false
dead_more [] c h = absurd (both_ways true h refl)
dead_more (a ∷ []) c h = absurd (both_ways true h refl)
dead_more (a ∷ b ∷ w) c h =
    let one = or_parts (no_separator (a ∷ b ∷ w)) _ h in
    let two = or_parts (nat_eq a 45 && no_line_end (a ∷ b ∷ w)) _ one.1 in
    or_from (no_separator (a ∷ b ∷ (w ++ c ∷ []))) _ (still is_sound (a ∷ b ∷ w) one.0)
    (or_from (nat_eq a 45 && no_line_end (a ∷ b ∷ (w ++ c ∷ []))) _ (line (nat_eq a 45) two.0) two.1)
  where
    still : (test : ℕ → Bool) (v : List ℕ) → list_all test v ≡ false → list_all test (v ++ c ∷ []) ≡ false
    still test [] h = absurd (both_ways true h refl)
    still test (x ∷ v) h = by (test x) h (still test v)
      where
        by : (b : Bool) → (b && list_all test v) ≡ false → ((list_all test v ≡ false) → list_all test (v ++ c ∷ []) ≡ false)
            → (b && list_all test (v ++ c ∷ [])) ≡ false
        by true h go = go h
        by false h go = refl

    there' : (v : List ℕ) → list_any (λ c. c == byte "\n") v ≡ true → list_any (λ c. c == byte "\n") (v ++ c ∷ []) ≡ true
    there' [] h = absurd (both_ways false refl h)
    there' (x ∷ v) h = by (x == byte "\n") h (there' v)
      where
        by : (b : Bool) → (b || list_any (λ c. c == byte "\n") v) ≡ true
            → ((list_any (λ c. c == byte "\n") v ≡ true) → list_any (λ c. c == byte "\n") (v ++ c ∷ []) ≡ true)
            → (b || list_any (λ c. c == byte "\n") (v ++ c ∷ [])) ≡ true
        by true h go = refl
        by false h go = go h

    not_of : (b : Bool) → not b ≡ false → b ≡ true
    not_of true h = refl
    not_of false h = absurd (both_ways true h refl)

    line : (d : Bool) → (d && no_line_end (a ∷ b ∷ w)) ≡ false → (d && no_line_end (a ∷ b ∷ (w ++ c ∷ []))) ≡ false
    line true h = ap not (there' (a ∷ b ∷ w) (not_of (list_any (λ c. c == byte "\n") (a ∷ b ∷ w)) h))
    line false h = refl

no_piece : (o : Option Piece) (A : Bool) → IfSome o (λ x. A ≡ true) → A ≡ false → o ≡ None
no_piece None A h e = refl
no_piece (Some x) A h e = absurd (both_ways A e h)

dead : (begun text : List Located) → may_be_piece (characters begun) ≡ false → longest_after piece begun text ≡ None
unfolding longest_after
dead begun [] h = refl
dead begun (c ∷ text) h =
    let more : may_be_piece (characters (begun ++ c ∷ [])) ≡ false = ap may_be_piece (map-append (λ (l : Located). l.char) begun (c ∷ []))
    ∙ dead_more (characters begun) c.char h in
    (λ j. option_or (dead (begun ++ c ∷ []) text more j)
    (option_map (cut_at (begun ++ c ∷ []) text)
    (no_piece (piece (begun ++ c ∷ []) text) (may_be_piece (characters (begun ++ c ∷ []))) (piece_shape (begun ++ c ∷ []) text) more j)))

pub scan_is : (begun text : List Located) → longest_after piece begun text ≡ scan_after begun text
unfolding longest_after scan_after
scan_is begun [] = refl
scan_is begun (c ∷ text) = by (may_be_piece (characters (begun ++ c ∷ []))) refl (scan_is (begun ++ c ∷ []) text)
  where
    by : (b : Bool) → may_be_piece (characters (begun ++ c ∷ [])) ≡ b → longest_after piece (begun ++ c ∷ []) text ≡ scan_after (begun ++ c ∷ []) text
        → option_or (longest_after piece (begun ++ c ∷ []) text) (option_map (cut_at (begun ++ c ∷ []) text) (piece (begun ++ c ∷ []) text))
        ≡ (if b then option_or (scan_after (begun ++ c ∷ []) text) (option_map (cut_at (begun ++ c ∷ []) text) (piece (begun ++ c ∷ []) text)) else
        None)
    by true e later = ap (λ o. option_or o (option_map (cut_at (begun ++ c ∷ []) text) (piece (begun ++ c ∷ []) text))) later
    by false e later = (λ j. option_or (dead (begun ++ c ∷ []) text e j)
        (option_map (cut_at (begun ++ c ∷ []) text)
        (no_piece (piece (begun ++ c ∷ []) text) (may_be_piece (characters (begun ++ c ∷ []))) (piece_shape (begun ++ c ∷ []) text) e j)))
