-- Elements of lists, and what is written of them.
use Rattle.std.proofs.Common.{◌≡◌, ℕ, ◌-◌, ◌≤◌, Bool, true, false, List, [], ◌∷◌, ◌++◌, arith, codes, drop, get_or, length, map, reverse, take, refl, sym, ap, ◌∙◌, append_assoc}
use Rattle.std.proofs.lemmas.List.{reverse-append, take_all}
use Rattle.cu_flattext.specs.Inside.LineTasks.{line_part, line_parts}
use Rattle.cu_flattext.specs.declared.line.Line.{Line}
use Rattle.std.specs.Prelude.{nat_eq}
use Rattle.cu_kernel.specs.Kernel.{Synonym}
use Rattle.cu_flattext.specs.Text.{on_a_line, synonym_texts}
use Rattle.cu_flattext.specs.TypeTexts.{synonym_text}
use Rattle.cu_flattext.specs.Naming.{Lowered, comma_text, elements, further}

pub elements_more : (follows : Bool) (x : List ℕ) (xs : List (List ℕ)) → elements follows (x ∷ xs) ≡ comma_text follows ++ (x ++ further xs)
elements_more true x xs = refl
elements_more false x xs = refl

pub elements_none : (follows : Bool) → elements follows [] ≡ []
elements_none true = refl
elements_none false = refl

-- an element was written, and the others are left
pub element_written : (old comma new : List ℕ) (follows : Bool) (x : List ℕ) (xs : List (List ℕ)) (rest : List ℕ)
    → comma ≡ old ++ comma_text follows → new ≡ comma ++ x
    → new ++ (further xs ++ rest) ≡ old ++ (elements follows (x ∷ xs) ++ rest)
element_written old comma new follows x xs rest e f =
    let c = comma_text follows in
    ap (λ (t : List ℕ). t ++ (further xs ++ rest)) (f ∙ ap (λ (t : List ℕ). t ++ x) e ∙ append_assoc old c x)
    ∙ append_assoc old (c ++ x) (further xs ++ rest)
    ∙ ap (λ (t : List ℕ). old ++ t)
    (append_assoc c x (further xs ++ rest)
    ∙ ap (λ (t : List ℕ). c ++ t) (sym (append_assoc x (further xs) rest))
    ∙ sym (append_assoc c (x ++ further xs) rest)
    ∙ ap (λ (t : List ℕ). t ++ rest) (sym (elements_more follows x xs)))

-- a head of two parts after a comma was written, and what opens; then what is inside, what closes
-- and the rest are left
pub head_written : (old first second third comma word name entity a b inside found opens closes rest now : List ℕ)
    → name ≡ entity → first ≡ old ++ comma → second ≡ first ++ (word ++ (name ++ (codes " " ++ (a ++ (codes " " ++ b)))))
    → third ≡ second ++ opens → found ≡ inside → now ≡ closes ++ rest
    → third ++ (found ++ now)
    ≡ old ++ ((comma ++ (word ++ (entity ++ (codes " " ++ (a ++ (codes " " ++ (b ++ (opens ++ (inside ++ closes))))))))) ++ rest)
head_written old first second third comma word name entity a b inside found opens closes rest now e f g h i j =
    rw (h, g, f, e, i, j) (simp append_assoc refl)

-- what was written of the first element and what is left of the others, read as all elements
pub element_read : (got old : List ℕ) (follows : Bool) (x : List ℕ) (xs ys : List (List ℕ)) (rest now : List ℕ)
    → ys ≡ x ∷ xs → now ≡ further xs ++ rest → got ≡ old ++ ((comma_text follows ++ x) ++ now) → got ≡ old ++ (elements follows ys ++ rest)
element_read got old follows x xs ys rest now split left is =
    let c = comma_text follows in
    let same : (c ++ x) ++ (further xs ++ rest) ≡ (c ++ (x ++ further xs)) ++ rest = simp append_assoc refl in
    is ∙ ap (λ (t : List ℕ). old ++ t)
    (ap (λ (n : List ℕ). (c ++ x) ++ n) left ∙ same ∙ ap (λ (t : List ℕ). t ++ rest) (sym (elements_more follows x xs))
    ∙ ap (λ (zs : List (List ℕ)). elements follows zs ++ rest) (sym split))

pub first_and_others : {A : Type 0} → (xs : List A) (x : A) → 1 ≤ length xs → x ≡ get_or xs 0 x → xs ≡ x ∷ drop 1 xs
first_and_others [] x some is = absurd (omega arith)
first_and_others (y ∷ ys) x some is = ap (λ z. z ∷ ys) (sym is)

pub all_others : {A : Type 0} → (xs : List A) (x : A) → 1 ≤ length xs → x ≡ get_or xs 0 x → xs ≡ x ∷ take (length xs - 1) (drop 1 xs)
all_others [] x some is = absurd (omega arith)
all_others (y ∷ ys) x some is =
    let e : length ys ≤ length (y ∷ ys) - 1 = omega arith in
    ap (λ z. z ∷ ys) (sym is) ∙ ap (λ zs. x ∷ zs) (sym (take_all (length (y ∷ ys) - 1) ys e))

-- one more synonym of the module
pub synonym_more : (program : Lowered) (m : ℕ) (y : Synonym) (ys : List Synonym) → nat_eq y.module m ≡ true
    → map on_a_line (synonym_texts program m (y ∷ ys)) ≡ on_a_line (synonym_text program y) ∷ map on_a_line (synonym_texts program m ys)
synonym_more program m y ys its = rw its refl

-- one more line
pub line_pushed : (program : Lowered) (m : ℕ) (old new : List Line) (l : Line) → new ≡ old ++ l ∷ []
    → line_parts program m (reverse new) ≡ line_part program m l ++ line_parts program m (reverse old)
line_pushed program m old new l is =
    ap (λ (ls : List Line). line_parts program m (reverse ls)) is
    ∙ ap (λ (ls : List Line). line_parts program m ls) (reverse-append old (l ∷ []))

pub ruleset element_steps = (elements_more, elements_none)
