-- What is left of a text, character by character.
use Rattle.std.proofs.Common.{◌≡◌, ℕ, ◌+◌, ◌*◌, ◌/◌, ◌-◌, ◌<◌, ◌≤◌, true, false, Option, true≢false, List, [], ◌∷◌, ◌++◌, length, take, slice_range, slice_get, Some, None, refl, sym, ap, ◌∙◌, arith, length-append, eq-eqb, ne_eqb}
use Rattle.std.specs.Str.{chars, is_utf8, IsCharBoundary}
use Rattle.std.proofs.lemmas.Str.{chars-nil, chars_past_char, encodes-chars, encodes-append, IsUtf8-from_is_utf8, is_utf8-from_IsUtf8, IsUtf8-past_char, IsCharBoundary-at_seam, length-encode, len_utf8_bounds}
use Rattle.std.proofs.lemmas.List.{map-append}
use Rattle.std.proofs.Math.Seq.{take-append_seam}
use Rattle.std.proofs.Math.Dec.{eqb}
use Rattle.std.proofs.lemmas.Bool.{eqb-true}
use Rattle.std.specs.Option.{option_eq}
use lib.Utf8.{encode, encodes}
use Rattle.cu_lex.specs.Located.{Position, Located, characters, located_from, position_after, without_mark}
use Rattle.cu_lex.specs.Inside.Scanning.{first_of, later}

pub characters-located : (p : Position) (cs : List ℕ) → characters (located_from p cs) ≡ cs
unfolding located_from
characters-located p [] = refl
characters-located p (c ∷ cs) = ap (λ t. c ∷ t) (characters-located (position_after c p) cs)

pub first-located : (p : Position) (cs : List ℕ) → slice_get cs 0 ≡ first_of (located_from p cs)
unfolding located_from
first-located p [] = refl
first-located p (c ∷ cs) = refl

-- the end of a text
pub later-end : (p : Position) (bs : List ℕ) → length bs ≡ 0 → located_from p (chars bs) ≡ later (located_from p (chars bs))
unfolding located_from
later-end p [] none = rw chars-nil refl
later-end p (b ∷ bs) none = absurd (omega arith)

-- after a character
pub later-char : (p q : Position) (bs ds : List ℕ) (c : ℕ) → is_utf8 bs ≡ true → bs ≡ encode c ++ ds → q ≡ position_after c p
    → located_from q (chars ds) ≡ later (located_from p (chars bs))
unfolding located_from
later-char p q bs ds c utf8 is moved = rw (chars_past_char bs ds c (IsUtf8-from_is_utf8 bs utf8) is, moved) refl

pub utf8-later : (bs ds : List ℕ) (c : ℕ) → is_utf8 bs ≡ true → bs ≡ encode c ++ ds → is_utf8 ds ≡ true
utf8-later bs ds c utf8 is = is_utf8-from_IsUtf8 ds (IsUtf8-past_char bs ds c (IsUtf8-from_is_utf8 bs utf8) is)

pub shorter-later : (bs ds : List ℕ) (c : ℕ) → bs ≡ encode c ++ ds → length ds + 1 ≤ length bs
shorter-later bs ds c is =
    let sizes : length bs ≡ length (encode c) + length ds = ap length is ∙ length-append (encode c) ds in
    let bounds = len_utf8_bounds c in
    omega (arith, length-encode c, bounds.0)

-- the bytes of what stands before
pub before : (prefix : List Located) (p q : Position) (bs ds : List ℕ) → is_utf8 bs ≡ true → is_utf8 ds ≡ true
    → prefix ++ located_from q (chars ds) ≡ located_from p (chars bs) → bs ≡ encodes (characters prefix) ++ ds
before prefix p q bs ds utf8 utf8' whole =
    let parts : chars bs ≡ characters prefix ++ chars ds =
    sym (characters-located p (chars bs)) ∙ ap characters (sym whole) ∙ map-append (λ (l : Located). l.char) prefix (located_from q (chars ds))
    ∙ ap (λ t. characters prefix ++ t) (characters-located q (chars ds)) in
    sym (encodes-chars bs (IsUtf8-from_is_utf8 bs utf8)) ∙ ap encodes parts ∙ encodes-append (characters prefix) (chars ds)
    ∙ ap (λ t. encodes (characters prefix) ++ t) (encodes-chars ds (IsUtf8-from_is_utf8 ds utf8'))

pub fits-before : (prefix bs ds : List ℕ) → bs ≡ prefix ++ ds → length ds ≤ length bs
fits-before prefix bs ds is = omega (arith, ap length is, length-append prefix ds)

pub boundary : (prefix bs ds : List ℕ) → is_utf8 ds ≡ true → bs ≡ prefix ++ ds → IsCharBoundary bs (length bs - length ds)
boundary prefix bs ds utf8 is =
    let size : length bs - length ds ≡ length prefix = omega (arith, ap length is, length-append prefix ds) in
    rw size (IsCharBoundary-at_seam bs prefix ds is (IsUtf8-from_is_utf8 ds utf8))

pub taken : (prefix bs ds : List ℕ) → bs ≡ prefix ++ ds → slice_range bs 0 (length bs - length ds) ≡ prefix
taken prefix bs ds is =
    let size : (length bs - length ds) - 0 ≡ length prefix = omega (arith, ap length is, length-append prefix ds) in
    rw size (ap (take (length prefix)) is ∙ take-append_seam prefix ds)

pub first-at : (p : Position) (cs : List ℕ) (first : Located) (rest : List Located) → located_from p cs ≡ first ∷ rest → p ≡ first.at
unfolding located_from
first-at p [] first rest is = cc
first-at p (c ∷ cs) first rest is =
    let heads : record { char = c; at = p } ≡ first = cc in
    ap (λ l. l.at) heads

-- the place after a character
abbrev pub at_pair : ℕ × ℕ → Position
at_pair pair = record { line = pair.0; column = pair.1 }

pub after-line : (p : Position) (c : ℕ) (pair : ℕ × ℕ) → c ≡ 10 → pair ≡ (p.line + 1, 1) → at_pair pair ≡ position_after c p
after-line p c pair is at = rw (is, at) refl

pub after-tab : (p : Position) (c : ℕ) (pair : ℕ × ℕ) → c ≡ 9 → pair ≡ (p.line, (p.column + 7) / 8 * 8 + 1) → at_pair pair ≡ position_after c p
after-tab p c pair is at =
    let same : (p.column + 7) / 8 * 8 + 1 ≡ 8 * ((p.column + 7) / 8) + 1 = omega arith in
    rw (is, at, same) refl

pub after-other : (p : Position) (c : ℕ) (pair : ℕ × ℕ) → (c ≡ 10 → ⊥) → (c ≡ 9 → ⊥) → pair ≡ (p.line, p.column + 1) → at_pair pair ≡ position_after c p
after-other p c pair line tab at = rw (ne_eqb c 10 line, ne_eqb c 9 tab, at) refl

-- at the start
pub start-plain : (cs : List ℕ) → (slice_get cs 0 ≡ Some 65279 → ⊥) → without_mark cs ≡ cs
start-plain [] other = refl
start-plain (c ∷ cs) other = rw (ne_eqb c 65279 (λ is. other (ap Some is))) refl

pub start-mark : (cs : List ℕ) (after : List ℕ) (p q : Position) → slice_get cs 0 ≡ Some 65279 → located_from q after ≡ later (located_from p cs) → without_mark cs ≡ after
unfolding located_from
start-mark [] after p q first is = cc
start-mark (c ∷ cs) after p q first is =
    let mark : c ≡ 65279 = cc in
    let same : after ≡ cs = sym (characters-located q after) ∙ ap characters is ∙ characters-located (position_after c p) cs in
    rw (eq-eqb c 65279 mark, same) refl

-- the characters alone decide
pub same-text : (p q r : Position) (text after : List ℕ) → located_from q after ≡ later (located_from p text) → slice_get text 0 ≡ Some 65279 → located_from r after ≡ located_from r (without_mark text)
same-text p q r text after is first = ap (located_from r) (sym (start-mark text after p q first is))

pub in_lines : (line line' : ℕ) (bs ds : List ℕ) → length ds + 1 ≤ length bs → line + length bs < 33554432 → line' ≤ line + 1 → line' + length ds < 33554432
in_lines line line' bs ds shorter fits most = omega arith

pub in_columns : (column column' : ℕ) (bs ds : List ℕ) → length ds + 1 ≤ length bs → column + 8 * length bs < 268435456 → column' ≤ column + 8 → column' + 8 * length ds < 268435456
in_columns column column' bs ds shorter fits most = omega arith

pub is-some-mark : (o : Option ℕ) (m : ℕ) → true ≡ option_eq eqb o (Some m) → o ≡ Some m
is-some-mark None m is = cc
is-some-mark (Some x) m is = ap Some (eqb-true x m (sym is))

pub no-some-mark : (o : Option ℕ) (m : ℕ) → false ≡ option_eq eqb o (Some m) → o ≡ Some m → ⊥
no-some-mark None m is same = cc
no-some-mark (Some x) m is same =
    let at : x ≡ m = cc in
    true≢false (sym (eq-eqb x m at) ∙ sym is)
