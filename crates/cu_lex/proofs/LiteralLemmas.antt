-- What the items of a literal are worth.
use Rattle.std.proofs.Common.{◌≡◌, ⊎_elim, ℕ, ◌<◌, Bool, true, false, ◌==◌, not, List, [], ◌∷◌, length, Option, Some, None, Result, Ok, if◌then◌else◌, refl, sym, ap, ◌∙◌, arith, true≢false, nat_lt, ne_eqb, eq-eqb}
use Rattle.std.proofs.lemmas.Bool.{ltb-true, eqb-true}
use Rattle.std.specs.List.{list_all}
use Rattle.std.specs.Option.{option_map, option_eq}
use Rattle.std.proofs.Math.Dec.{eqb}
use Rattle.std.proofs.lemmas.List.{append-nil}
use Rattle.std.specs.Str.{bytes_eq, chars}
use lib.Utf8.{scalar}
use Rattle.std.proofs.Math.Utf8.{scalar_cases}
use Rattle.cu_lex.specs.declared.cursor.Cursor.{Cursor}
use Rattle.cu_lex.specs.Inside.Items.{Scan, capped, escape_scan, item_scan, joined, IsQuoted}
use Rattle.cu_lex.specs.Literals.{item, short_escape, short_escapes}
use Rattle.cu_lex.specs.Located.{Located, Position}
use Rattle.cu_lex.specs.Munch.{cut_all, no_pieces, cut_at}
use Rattle.cu_lex.specs.Pieces.{codes_of, with_code}
use Rattle.cu_lex.specs.Inside.Scanning.{cap, first_of, later, left, position}
use Rattle.cu_lex.specs.Words.{entry}
use Rattle.cu_lex.proofs.AsciiLemmas.{and-left, and-right}
use Rattle.cu_lex.proofs.CursorLemmas.{first-at}
use Rattle.cu_lex.proofs.CutLemmas.{cut-step, cut-none, rest-shorter}
use Rattle.cu_lex.proofs.ItemLemmas.{longest-item, no-longest-item}

-- what all entries of a table pass, the entry of a word passes
pub entry-passes : {X : Type 0} (p : X → Bool) (table : List (List ℕ × X)) → list_all (λ e. p e.1) table ≡ true → (word : List ℕ) (x : X) → entry table word ≡ Some x → p x ≡ true
entry-passes p [] all word x is = cc
entry-passes p (e ∷ table) all word x is = by (bytes_eq word e.0) refl (λ h. entry-passes p table (and-right (p e.1) (list_all (λ y. p y.1) table) all) word x h) is
  where
    by : (b : Bool) → bytes_eq word e.0 ≡ b → (entry table word ≡ Some x → p x ≡ true) → (if b then Some e.1 else entry table word) ≡ Some x → p x ≡ true
    by true h more is =
        let same : e.1 ≡ x = cc in
        ap p (sym same) ∙ and-left (p e.1) (list_all (λ y. p y.1) table) all
    by false h more is = more is

short-cap : (word : List ℕ) (code : ℕ) → short_escape word ≡ Some code → cap code ≡ code
unfolding short_escape
short-cap word code is =
    let small = ltb-true code 1114112 (entry-passes (λ n. nat_lt n 1114112) short_escapes refl word code is) in
    omega arith

pub escape-short : (text end : List Located) (c code : ℕ) → first_of text ≡ Some c → end ≡ later text → (c ≡ 38 → ⊥) → (c ≡ 120 → ⊥) → (c ≡ 111 → ⊥) → short_escape (c ∷ []) ≡ Some code
    → Some (Some code, end) ≡ option_map capped (escape_scan text)
escape-short [] end c code first at amp x o is = cc
escape-short (d ∷ text) end c code first at amp x o is =
    let same : d.char ≡ c = cc in
    let amp' : (d.char == 38) ≡ false = ne_eqb d.char 38 (λ h. amp (sym same ∙ h)) in
    let x' : (d.char == 120) ≡ false = ne_eqb d.char 120 (λ h. x (sym same ∙ h)) in
    let o' : (d.char == 111) ≡ false = ne_eqb d.char 111 (λ h. o (sym same ∙ h)) in
    let is' : short_escape (d.char ∷ []) ≡ Some code = ap (λ n. short_escape (n ∷ [])) same ∙ is in
    rw (amp', x', o', is', short-cap (c ∷ []) code is, at) refl

-- ---- codes cut down

pub cap-scalar : (n : ℕ) → scalar (cap n) ≡ true → cap n ≡ n
cap-scalar n is = ⊎_elim (λ low. omega arith) (λ high. omega arith) (scalar_cases (cap n) is)

pub scalar-cap : (n : ℕ) → scalar n ≡ true → cap n ≡ n
scalar-cap n is = ⊎_elim (λ low. omega arith) (λ high. omega arith) (scalar_cases n is)

pub same-scalar : (n : ℕ) → scalar (cap n) ≡ scalar n
same-scalar n = by (scalar (cap n)) refl (scalar n) refl
  where
    by : (a : Bool) → scalar (cap n) ≡ a → (b : Bool) → scalar n ≡ b → a ≡ b
    by true h true h' = refl
    by false h false h' = refl
    by true h false h' = absurd (true≢false (sym h ∙ ap scalar (cap-scalar n h) ∙ h'))
    by false h true h' = absurd (true≢false (sym h' ∙ ap scalar (sym (scalar-cap n h')) ∙ h))

-- the item before it was cut down
pub record Uncapped (scan : Scan) (code : ℕ) (rest : List Located) : Type 0 where
  pub number : ℕ
  pub is : scan ≡ Some (Some number, rest)
  pub cut : code ≡ cap number

pub uncapped : (scan : Scan) (code : ℕ) (rest : List Located) → Some (Some code, rest) ≡ option_map capped scan → Uncapped scan code rest
uncapped None code rest is = cc
uncapped (Some (None, end)) code rest is =
    let parts : (Some code, rest) ≡ capped (None, end) = cc in
    let heads : Some code ≡ None = ap (λ p. p.0) parts in
    absurd (let impossible : ⊥ = cc in impossible)
uncapped (Some (Some n, end)) code rest is =
    let parts : (Some code, rest) ≡ capped (Some n, end) = cc in
    let at : rest ≡ end = ap (λ p. p.1) parts in
    let heads : Some code ≡ Some (cap n) = ap (λ p. p.0) parts in
    let cut : code ≡ cap n = cc in
    record { number = n; is = ap (λ t. Some (Some n, t)) (sym at); cut = cut }

pub quoted : (quote : ℕ) (text end : List Located) → first_of text ≡ Some quote → end ≡ later text → IsQuoted quote text end
quoted quote [] end first at = cc
quoted quote (c ∷ text) end first at =
    let same : c.char ≡ quote = cc in
    record { mark = c; is = same; whole = ap (λ t. c ∷ t) (sym at) }

-- the item before its code was cut down, if it has one
pub record Found (scan : Scan) (code : Option ℕ) (rest : List Located) : Type 0 where
  pub what : Option ℕ
  pub is : scan ≡ Some (what, rest)
  pub cut : code ≡ option_map cap what

pub found-item : (scan : Scan) (code : Option ℕ) (rest : List Located) → Some (code, rest) ≡ option_map capped scan → Found scan code rest
found-item None code rest is = cc
found-item (Some (what, end)) code rest is =
    let parts : (code, rest) ≡ capped (what, end) = cc in
    let at : rest ≡ end = ap (λ p. p.1) parts in
    let cut : code ≡ option_map cap what = ap (λ p. p.0) parts in
    record { what = what; is = ap (λ t. Some (what, t)) (sym at); cut = cut }

pub cut-code : (what : Option ℕ) (p : Position) (more : Result (List ℕ) Position) → with_code (option_map cap what) p more ≡ with_code what p more
cut-code None p more = refl
cut-code (Some n) p more = by (scalar n) refl
  where
    by : (b : Bool) → scalar n ≡ b → with_code (Some (cap n)) p more ≡ with_code (Some n) p more
    by true is = rw (same-scalar n, is, scalar-cap n is) refl
    by false is = rw (same-scalar n, is) refl

pub left-at : (cursor : Cursor) (c : Located) (text : List Located) → left cursor ≡ c ∷ text → position cursor ≡ c.at
unfolding left
left-at cursor c text is = first-at (position cursor) (chars cursor.text.now) c text is

-- one item more
pub record Step (quote : ℕ) (text : List Located) (p : Position) (what : Option ℕ) (end : List Located) : Type 0 where
  pub left_over : (cut_all (item quote) text).left ≡ (cut_all (item quote) end).left
  pub codes : codes_of (cut_all (item quote) text).pieces ≡ with_code what p (codes_of (cut_all (item quote) end).pieces)
  pub shorter : length end < length text

pub step-item : (quote : ℕ) (text : List Located) (p : Position) (what : Option ℕ) (end : List Located) → ((c : Located) (t : List Located) → text ≡ c ∷ t → p ≡ c.at)
    → item_scan quote text ≡ Some (what, end) → Step quote text p what end
step-item quote [] p what end place is = cc
step-item quote (c ∷ text) p what end place is =
    let found = longest-item quote (c ∷ text) what end is in
    let step = cut-step (item quote) c text (cut_at found.0 end what) found.1 in
    record {
      left_over = ap (λ cut. cut.left) step;
      codes = ap (λ cut. codes_of cut.pieces) step ∙ ap (λ at. with_code what at (codes_of (cut_all (item quote) end).pieces)) (sym (place c text refl));
      shorter = rest-shorter (item quote) (c ∷ text) (cut_at found.0 end what) found.1;
    }

pub quote-ends : (text : List Located) → first_of text ≡ Some 34 → item_scan 34 text ≡ None
quote-ends [] first = cc
quote-ends (c ∷ text) first =
    let same : c.char ≡ 34 = cc in
    rw same refl

pub ended : (quote : ℕ) (text : List Located) → item_scan quote text ≡ None → cut_all (item quote) text ≡ no_pieces text
ended quote text is = cut-none (item quote) text (no-longest-item quote text is)

pub quoted-first : (quote : ℕ) (text end : List Located) → IsQuoted quote text end → first_of text ≡ Some quote
quoted-first quote text end q = ap first_of q.whole ∙ ap Some q.is

-- `!=` on characters that may be there
pub same-char : (o : Option ℕ) (m : ℕ) (b : Bool) → b ≡ not (option_eq eqb o (Some m)) → b ≡ false → o ≡ Some m
same-char None m b is fails = absurd (true≢false (sym is ∙ fails))
same-char (Some x) m b is fails = by (eqb x m) refl
  where
    by : (a : Bool) → eqb x m ≡ a → Some x ≡ Some m
    by true h = ap Some (eqb-true x m h)
    by false h = absurd (true≢false (sym (is ∙ ap not h) ∙ fails))

pub other-char : (o : Option ℕ) (m : ℕ) (b : Bool) → b ≡ not (option_eq eqb o (Some m)) → b ≡ true → o ≡ Some m → ⊥
other-char o m b is holds at = true≢false (sym holds ∙ is ∙ ap (λ x. not (option_eq eqb x (Some m))) at ∙ ap not (eq-eqb m m refl))

-- the value when all items were read
pub all-read : (value : List ℕ) (codes : Result (List ℕ) Position) → joined (Ok value) (Ok []) ≡ codes → codes ≡ Ok value
all-read value codes is = sym is ∙ ap Ok (append-nil value)

pub no-item : (scan : Scan) → None ≡ option_map capped scan → scan ≡ None
no-item None is = refl
no-item (Some found) is = cc

-- a character literal's code
pub char-value : (text end after : List Located) (code c : ℕ) → Some (Some code, end) ≡ option_map capped (item_scan 39 text) → scalar code ≡ true → c ≡ code → first_of end ≡ Some 39 → after ≡ later end
    → (close : List Located) × (item_scan 39 text ≡ Some (Some c, close)) × IsQuoted 39 close after × (scalar c ≡ true)
char-value text end after code c is fits same first at =
    let u = uncapped (item_scan 39 text) code end is in
    let number : u.number ≡ c = sym (cap-scalar u.number (ap scalar (sym u.cut) ∙ fits)) ∙ sym u.cut ∙ sym same in
    (end, u.is ∙ ap (λ n. Some (Some n, end)) number, quoted 39 end after first at, ap scalar same ∙ fits)

pub not-true : (b : Bool) → (b ≡ true → ⊥) → b ≡ false
not-true true wrong = absurd (wrong refl)
not-true false wrong = refl

pub char-fault : (text end at : List Located) (code : ℕ) → Some (Some code, end) ≡ option_map capped (item_scan 39 text) → (scalar code ≡ true → ⊥) → first_of end ≡ Some 39 → at ≡ text
    → (n : ℕ) × (close : List Located) × (rest : List Located) × (item_scan 39 text ≡ Some (Some n, close)) × IsQuoted 39 close rest × (scalar n ≡ false) × (at ≡ text)
char-fault text end at code is wrong first same =
    let u = uncapped (item_scan 39 text) code end is in
    (u.number, end, later end, u.is, quoted 39 end (later end) first refl, sym (same-scalar u.number) ∙ ap scalar (sym u.cut) ∙ not-true (scalar code) wrong, same)
