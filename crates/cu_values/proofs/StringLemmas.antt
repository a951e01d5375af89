-- The text of a string, character after character.
use Rattle.std.specs.Prelude.{◌≡◌, ℕ, zero, suc, ◌+◌, ◌<◌, ◌≤◌, Bool, true, false, ◌&&◌, List, [], ◌∷◌, ◌++◌, if◌then◌else◌, codes, length, refl}
use Rattle.std.proofs.Common.{ap, arith, append_assoc, drop, get_or, sym, subst, ◌∙◌}
use Rattle.cu_calculus.specs.declared.ConId.{ConId}
use Rattle.cu_calculus.specs.declared.Lit.TheVariants as lit
use Rattle.cu_calculus.specs.Value as value
use Rattle.cu_calculus.specs.Value.{Value, Values, count}
use Rattle.cu_values.specs.declared.cell.Cell.{Cell}
use Rattle.cu_values.specs.declared.cell.Cell.TheVariants as cell
use Rattle.cu_values.specs.Cells.{arity_of, suffix, first, prefix, put, read_all, IsSpelled}
use Rattle.cu_values.specs.Display.{characters, escaped, gap, is_digit, is_numeric, string_text}
use Rattle.cu_values.specs.Inside.Tasks.{are_characters, character_of}
use Rattle.cu_values.proofs.CellLemmas.{some_cell}
use Rattle.cu_values.proofs.PlaceLemmas.{here, literal_cell, taken, Here}

-- the parting of an escape by number from a digit
abbrev pub parting : Bool → List ℕ → List ℕ
parting numeric [] = []
parting numeric (d ∷ ds) = if numeric && is_digit d then 92 ∷ codes "&" else []

-- what stands after a character, which was escaped by its number or not
abbrev pub string_after : Bool → List ℕ → List ℕ
string_after numeric cs = parting numeric cs ++ string_text cs

pub gap_is : (c : ℕ) (cs : List ℕ) → gap c cs ≡ parting (is_numeric c) cs
gap_is c [] = refl
gap_is c (d ∷ ds) = refl

pub no_parting : (cs : List ℕ) → string_after false cs ≡ string_text cs
no_parting [] = refl
no_parting (c ∷ cs) = refl

-- one character more
pub string_on : (numeric : Bool) (c : ℕ) (cs : List ℕ) (text between longer whole : List ℕ)
    → between ≡ text ++ (if numeric && is_digit c then 92 ∷ codes "&" else []) → longer ≡ between ++ escaped 34 c
    → text ++ string_after numeric (c ∷ cs) ≡ whole → longer ++ string_after (is_numeric c) cs ≡ whole
string_on numeric c cs text between longer whole e f h =
    let parted = if numeric && is_digit c then 92 ∷ codes "&" else [] in
    let rest = string_after (is_numeric c) cs in
    let g : string_text (c ∷ cs) ≡ escaped 34 c ++ rest = ap (λ (x : List ℕ). escaped 34 c ++ (x ++ string_text cs)) (gap_is c cs) in
    rw (f, e, append_assoc (text ++ parted) (escaped 34 c) rest, append_assoc text parted (escaped 34 c ++ rest))
    (ap (λ (x : List ℕ). text ++ (parted ++ x)) (sym g) ∙ h)

-- the first cell of a list of characters that isn't empty, and the cells of its first character and
-- of its rest
pub record Longer (cells : List Cell) (at : ℕ) : Type 0 where
  pub letter : ℕ
  pub is : character_of (get_or cells (at + 1) cell.Bottom) ≡ letter
  pub within : at + 2 < length cells
  pub spelled : IsSpelled (drop (at + 2) cells)
  pub rest : are_characters (first (read_all (drop (at + 2) cells))) ≡ true
  pub all : characters (first (read_all (drop at cells))) ≡ letter ∷ characters (first (read_all (drop (at + 2) cells)))
  pub others : suffix 1 (read_all (drop (at + 2) cells)) ≡ suffix 1 (read_all (drop at cells))

-- the values after the head of such a list
pub record Spread (c : Cell) (us : Values) : Type 0 where
  pub letter : ℕ
  pub rest : Value
  pub others : Values
  pub are : us ≡ value.MoreValues (value.Literal (lit.Char letter)) (value.MoreValues rest others)
  pub suffix_is : suffix 1 (put c us) ≡ others
  pub tested : are_characters rest ≡ true
  pub all : characters (first (put c us)) ≡ letter ∷ characters rest

pub spread_by : (k : ConId) (n : ℕ) (us vs : Values) → prefix n us ≡ vs → count vs ≡ n → 0 < n → are_characters (value.Constructed k vs) ≡ true
    → Spread (cell.Con k n) us
spread_by k n us value.NoValue e f some h = absurd (omega (arith, f, some))
spread_by k n us (value.MoreValues (value.Literal (lit.Char x)) (value.MoreValues rest value.NoValue)) e f some h = record {
  letter = x;
  rest = rest;
  others = suffix n us;
  are = taken n us _ e;
  suffix_is = refl;
  tested = h;
  all = ap (λ (ws : Values). characters (value.Constructed k ws)) e;
}
spread_by k n us (value.MoreValues x value.NoValue) e f some h = absurd (one_no k x h)
  where
    one_no : (k : ConId) (x : Value) → are_characters (value.Constructed k (value.MoreValues x value.NoValue)) ≡ true → ⊥
    one_no k (value.Literal (lit.Char c)) h = cc
    one_no k (value.Literal (lit.Int c)) h = cc
    one_no k _ h = cc
spread_by k n us (value.MoreValues x (value.MoreValues y (value.MoreValues z zs))) e f some h = absurd (many_no k x y z zs h)
  where
    many_no : (k : ConId) (x y z : Value) (zs : Values) → are_characters (value.Constructed k (value.MoreValues x (value.MoreValues y (value.MoreValues z zs)))) ≡ true → ⊥
    many_no k (value.Literal (lit.Char c)) y z zs h = cc
    many_no k (value.Literal (lit.Int c)) y z zs h = cc
    many_no k _ y z zs h = cc
spread_by k n us (value.MoreValues (value.Literal (lit.Int x)) (value.MoreValues rest value.NoValue)) e f some h = let no : ⊥ = cc in absurd no
spread_by k n us (value.MoreValues _ (value.MoreValues rest value.NoValue)) e f some h = let no : ⊥ = cc in absurd no

pub spread : (c : Cell) (us : Values) → count (prefix (arity_of c) us) ≡ arity_of c → 0 < arity_of c → are_characters (first (put c us)) ≡ true → Spread c us
spread (cell.Con k n) us whole some h = spread_by k n us (prefix n us) refl whole some h
spread cell.Bottom us whole some h = absurd (omega (arith, some))
spread (cell.LVar x) us whole some h = absurd (omega (arith, some))
spread (cell.Lit l) us whole some h = absurd (omega (arith, some))
spread (cell.Part k n) us whole some h = let no : ⊥ = cc in absurd no

pub longer : (cells : List Cell) (at : ℕ) → at < length cells → IsSpelled (drop at cells) → 0 < arity_of (get_or cells at cell.Bottom)
    → are_characters (first (read_all (drop at cells))) ≡ true → Longer cells at
longer cells at within spelled some h =
    let c = get_or cells at cell.Bottom in
    let us = read_all (drop (at + 1) cells) in
    let p : Here cells at c = here cells at c within refl spelled in
    let s : Spread c us = spread c us p.after.whole some (subst (λ (x : Values). are_characters (first x) ≡ true) p.read h) in
    let one : 1 ≤ count us = rw (s.are) (omega arith) in
    let inside : at + 1 < length cells = some_cell cells (at + 1) one in
    let d = get_or cells (at + 1) cell.Bottom in
    let q : Here cells (at + 1) d = here cells (at + 1) d inside refl p.after.others in
    let two : at + 1 + 1 ≡ at + 2 = omega arith in
    let l = literal_cell d (read_all (drop (at + 1 + 1) cells)) (lit.Char s.letter) (value.MoreValues s.rest s.others) (sym q.read ∙ s.are) in
    let left : read_all (drop (at + 2) cells) ≡ value.MoreValues s.rest s.others = subst (λ (n : ℕ). read_all (drop n cells) ≡ value.MoreValues s.rest s.others) two l.1 in
    record {
      letter = s.letter;
      is = ap character_of l.0;
      within = some_cell cells (at + 2) (rw left (omega arith));
      spelled = subst (λ (n : ℕ). IsSpelled (drop n cells)) two q.after.others;
      rest = rw left s.tested;
      all = ap (λ (x : Values). characters (first x)) p.read ∙ s.all ∙ ap (λ (x : Values). s.letter ∷ characters (first x)) (sym left);
      others = ap (λ (x : Values). suffix 1 x) left ∙ sym s.suffix_is ∙ ap (λ (x : Values). suffix 1 x) (sym p.read);
    }

-- the end of a list of characters
pub no_more : (c : Cell) (us : Values) → arity_of c ≡ 0 → are_characters (first (put c us)) ≡ true → (characters (first (put c us)) ≡ []) × (suffix 1 (put c us) ≡ us)
no_more (cell.Con k n) us none h = by n none h
  where
    by : (m : ℕ) → m ≡ 0 → are_characters (value.Constructed k (prefix m us)) ≡ true → (characters (value.Constructed k (prefix m us)) ≡ []) × (suffix m us ≡ us)
    by zero e g = (refl, refl)
    by (suc m) e g = absurd (omega (arith, e))
no_more cell.Bottom us none h = let no : ⊥ = cc in absurd no
no_more (cell.LVar x) us none h = let no : ⊥ = cc in absurd no
no_more (cell.Lit l) us none h = let no : ⊥ = cc in absurd no
no_more (cell.Part k n) us none h = let no : ⊥ = cc in absurd no

-- the end of such a list is a cell
pub record Ended (cells : List Cell) (at : ℕ) : Type 0 where
  pub none : characters (first (read_all (drop at cells))) ≡ []
  pub spelled : IsSpelled (drop (at + 1) cells)
  pub others : read_all (drop (at + 1) cells) ≡ suffix 1 (read_all (drop at cells))

pub ended : (cells : List Cell) (at : ℕ) → at < length cells → IsSpelled (drop at cells) → arity_of (get_or cells at cell.Bottom) ≡ 0
    → are_characters (first (read_all (drop at cells))) ≡ true → Ended cells at
ended cells at within spelled none h =
    let c = get_or cells at cell.Bottom in
    let us = read_all (drop (at + 1) cells) in
    let p : Here cells at c = here cells at c within refl spelled in
    let n = no_more c us none (subst (λ (x : Values). are_characters (first x) ≡ true) p.read h) in
    record {
      none = ap (λ (x : Values). characters (first x)) p.read ∙ n.0;
      spelled = p.after.others;
      others = sym n.1 ∙ ap (λ (x : Values). suffix 1 x) (sym p.read);
    }

pub nothing_after : (numeric : Bool) → string_after numeric [] ≡ []
nothing_after numeric = refl
