-- Calls by the terms of their arguments.
use Rattle.std.proofs.Common.{◌≡◌, ◌∙◌, ◌+◌, ◌-◌, ◌<◌, ◌≤◌, ℕ, zero, suc, Bool, true, false, List, [], ◌∷◌, ◌++◌, Option, None, Some, length, take, drop, map, refl, sym, ap, ap₂, subst, arith, rules, append_assoc, append-nil}
use Rattle.std.proofs.lemmas.List.{drop_all, length-map, length-append, map-append}
use Rattle.std.proofs.Math.Seq.{drop-cons}
use Rattle.std.specs.List.{remove}
use Rattle.std.proofs.Common.{IfOk, OnOk, Result, Ok, Err, get_or, add-one}
use Rattle.cu_calculus.specs.declared.FunId.{FunId}
use Rattle.cu_calculus.specs.declared.Head.TheVariants as global
use Rattle.cu_kernel.specs.LocalTerm as local
use Rattle.cu_kernel.specs.LocalTermsOf.{local_term_of, local_terms_of}
use Rattle.cu_kernel.specs.declared.local.LocalHead.TheVariants as head
use Rattle.cu_kernel.specs.declared.local.LocalHead.{LocalHead}
use Rattle.std.specs.Prelude.{if◌then◌else◌, nat_lt}
use Rattle.cu_kernel.specs.declared.local.LocalTerm.{LocalTerm}
use Rattle.cu_translation.specs.Around as around
use Rattle.cu_translation.specs.Around.{Names, Referent}
use Rattle.cu_translation.specs.Terms.{Operand, applied, call, no_term, plain, referred, set_call_of, terms, terms_of}
use Rattle.cu_forms.specs.Inside.Calls.{built_in_term, function_named, referred_on, set_call_on}

-- ---- lists of terms

pub terms_meant : (ts : List LocalTerm) → local_terms_of ts ≡ terms (map local_term_of ts)
terms_meant [] = refl
terms_meant (t ∷ ts) = ap (local.MoreTerms (local_term_of t)) (terms_meant ts)

pub map-take : {X Y : Type 0} (f : X → Y) (n : ℕ) (xs : List X) → map f (take n xs) ≡ take n (map f xs)
map-take f zero xs = refl
map-take f (suc n) [] = refl
map-take f (suc n) (x ∷ xs) = ap (λ ys. f x ∷ ys) (map-take f n xs)

pub map-drop : {X Y : Type 0} (f : X → Y) (n : ℕ) (xs : List X) → map f (drop n xs) ≡ drop n (map f xs)
map-drop f zero xs = refl
map-drop f (suc n) [] = refl
map-drop f (suc n) (x ∷ xs) = map-drop f n xs

-- ---- the first terms and the others

pub record Splits {X : Type 0} (count : ℕ) (all first others rest : List X) : Type 0 where
  pub prefix : first ++ take (count - length first) rest ≡ take count all
  pub suffix : others ++ drop (count - length first) rest ≡ drop count all
  pub few : length first ≤ count

prefix_more : {X : Type 0} (n k : ℕ) (xs rest : List X) (x : X) → n ≡ suc k → take n (x ∷ rest) ≡ x ∷ take k rest
prefix_more n k xs rest x e = ap (λ m. take m (x ∷ rest)) e

suffix_more : {X : Type 0} (n k : ℕ) (rest : List X) (x : X) → n ≡ suc k → drop n (x ∷ rest) ≡ drop k rest
suffix_more n k rest x e = ap (λ m. drop m (x ∷ rest)) e

pub splits_first : {X : Type 0} (count : ℕ) (all first others rest before after : List X) (x : X) → before ≡ x ∷ rest → length first < count → after ≡ first ++ x ∷ []
    → Splits count all first others before → Splits count all after others rest
splits_first count all first others rest before after x e few pushed s =
    let size : length after ≡ length first + 1 = ap length pushed ∙ length-append first (x ∷ []) in
    let next : count - length first ≡ suc (count - length after) = omega (arith, size) in
    record {
      prefix = ap (λ xs. xs ++ take (count - length after) rest) pushed ∙ append_assoc first (x ∷ []) (take (count - length after) rest)
          ∙ ap (λ xs. first ++ xs) (sym (prefix_more (count - length first) (count - length after) first rest x next) ∙ ap (take (count - length first)) (sym e)) ∙ s.prefix;
      suffix = ap (λ xs. others ++ xs) (sym (suffix_more (count - length first) (count - length after) rest x next) ∙ ap (drop (count - length first)) (sym e)) ∙ s.suffix;
      few = omega (arith, size);
    }

pub splits_other : {X : Type 0} (count : ℕ) (all first others rest before after : List X) (x : X) → before ≡ x ∷ rest → count ≤ length first → after ≡ others ++ x ∷ []
    → Splits count all first others before → Splits count all first after rest
splits_other count all first others rest before after x e full pushed s =
    let none : count - length first ≡ 0 = omega arith in
    record {
      prefix = ap (λ n. first ++ take n rest) none ∙ ap (λ n. first ++ take n before) (sym none) ∙ s.prefix;
      suffix = ap₂ (λ xs n. xs ++ drop n rest) pushed none ∙ append_assoc others (x ∷ []) rest ∙ ap (λ xs. others ++ xs) (sym e)
          ∙ ap (λ n. others ++ drop n before) (sym none) ∙ s.suffix;
      few = s.few;
    }

take_nothing : {X : Type 0} (n : ℕ) (xs : List X) → xs ≡ [] → take n xs ≡ []
take_nothing zero xs e = refl
take_nothing (suc n) xs e = ap (take (suc n)) e

drop_nothing : {X : Type 0} (n : ℕ) (xs : List X) → xs ≡ [] → drop n xs ≡ []
drop_nothing zero xs e = e
drop_nothing (suc n) xs e = ap (drop (suc n)) e

pub splits_all : {X : Type 0} (count : ℕ) (all first others rest : List X) → rest ≡ [] → Splits count all first others rest
    → (first ≡ take count all) × (others ≡ drop count all)
splits_all count all first others rest e s = (
  sym (append-nil first) ∙ ap (λ xs. first ++ xs) (sym (take_nothing (count - length first) rest e)) ∙ s.prefix,
  sym (append-nil others) ∙ ap (λ xs. others ++ xs) (sym (drop_nothing (count - length first) rest e)) ∙ s.suffix,
)

-- ---- calls

ltb_is : (m n : ℕ) → m < n → nat_lt m n ≡ true
ltb_is m n h = search rules

ltb_not : (m n : ℕ) → n ≤ m → nat_lt m n ≡ false
ltb_not m n h = search rules

call_if : (h : LocalHead) (count : ℕ) (ts : List local.LocalTerm) (b : Bool) → nat_lt (length ts) count ≡ b
    → call h count ts ≡ (if b then local.Part h (terms ts) else applied (local.Whole h (terms (take count ts))) (drop count ts))
call_if h count ts b e = ap (λ c. if c then local.Part h (terms ts) else applied (local.Whole h (terms (take count ts))) (drop count ts)) e

pub part_called : (h : LocalHead) (count : ℕ) (ts : List LocalTerm) → length ts < count
    → local.Part h (local_terms_of ts) ≡ call h count (map local_term_of ts)
part_called h count ts few =
    ap (local.Part h) (terms_meant ts)
    ∙ sym (call_if h count (map local_term_of ts) true (ltb_is (length (map local_term_of ts)) count (subst (λ n. n < count) (sym (length-map ts local_term_of)) few)))

pub whole_called : (h : LocalHead) (count : ℕ) (ts first others : List LocalTerm) → count ≤ length ts → first ≡ take count ts → others ≡ drop count ts
    → applied (local.Whole h (local_terms_of first)) (map local_term_of others) ≡ call h count (map local_term_of ts)
whole_called h count ts first others enough prefix suffix =
    ap₂ (λ xs ys. applied (local.Whole h xs) ys)
    (terms_meant first ∙ ap terms (ap (map local_term_of) prefix ∙ map-take local_term_of count ts))
    (ap (map local_term_of) suffix ∙ map-drop local_term_of count ts)
    ∙ sym (call_if h count (map local_term_of ts) false (ltb_not (length (map local_term_of ts)) count (subst (λ n. count ≤ n) (sym (length-map ts local_term_of)) enough)))

-- ---- set functions

pub set_called : (r : Option Referent) (f : FunId) (count : ℕ) (ts : List local.LocalTerm) → Some f ≡ function_named r
    → call (head.Global (global.Set f)) count ts ≡ set_call_of count r ts
set_called None f count ts e = let no : ⊥ = cc in absurd no
set_called (Some (around.Variable x)) f count ts e = let no : ⊥ = cc in absurd no
set_called (Some (around.Callable (head.Local k) n)) f count ts e = let no : ⊥ = cc in absurd no
set_called (Some (around.Callable (head.Global (global.Fun g)) n)) f count ts e = let same : f ≡ g = cc in ap (λ h. call (head.Global (global.Set h)) count ts) same
set_called (Some (around.Callable (head.Global (global.Con g)) n)) f count ts e = let no : ⊥ = cc in absurd no
set_called (Some (around.Callable (head.Global (global.Set g)) n)) f count ts e = let no : ⊥ = cc in absurd no
set_called (Some (around.SetFunction n)) f count ts e = let no : ⊥ = cc in absurd no
set_called (Some around.Nothing) f count ts e = let no : ⊥ = cc in absurd no

pub not_called : (r : Option Referent) (count : ℕ) (ts : List local.LocalTerm) → None ≡ function_named r → no_term ≡ set_call_of count r ts
not_called None count ts e = refl
not_called (Some (around.Variable x)) count ts e = refl
not_called (Some (around.Callable (head.Local k) n)) count ts e = refl
not_called (Some (around.Callable (head.Global (global.Fun g)) n)) count ts e = let no : ⊥ = cc in absurd no
not_called (Some (around.Callable (head.Global (global.Con g)) n)) count ts e = refl
not_called (Some (around.Callable (head.Global (global.Set g)) n)) count ts e = refl
not_called (Some (around.SetFunction n)) count ts e = refl
not_called (Some around.Nothing) count ts e = refl

-- ---- names on arguments

-- what the first of some operands refers to, where that is a name alone
abbrev pub first_name : List Operand → Option Referent
first_name [] = None
first_name (o ∷ operands) = o.name

pub referred_by_terms : (r : Referent) (operands : List Operand) → referred r operands ≡ referred_on r (first_name operands) (terms_of operands)
referred_by_terms (around.Variable x) operands = refl
referred_by_terms (around.Callable h count) operands = refl
referred_by_terms (around.SetFunction count) [] = refl
referred_by_terms (around.SetFunction count) (o ∷ operands) = refl
referred_by_terms around.Nothing operands = refl

terms_plain : (ts : List local.LocalTerm) → terms_of (map plain ts) ≡ ts
terms_plain [] = refl
terms_plain (t ∷ ts) = ap (λ xs. t ∷ xs) (terms_plain ts)

first_plain : (ts : List local.LocalTerm) → first_name (map plain ts) ≡ None
first_plain [] = refl
first_plain (t ∷ ts) = refl

pub built_in_by_terms : (names : Names) (text : List ℕ) (ts : List local.LocalTerm) → built_in_term names text ts ≡ referred_on (names.prelude text) None ts
unfolding built_in_term
built_in_by_terms names text ts =
    referred_by_terms (names.prelude text) (map plain ts) ∙ ap₂ (referred_on (names.prelude text)) (first_plain ts) (terms_plain ts)

-- ---- results

pub if_ok : {A E : Type 0} {P Q : A → Type 0} (r : Result A E) → ((a : A) → P a → Q a) → IfOk r P → IfOk r Q
if_ok (Ok a) f p = f a p
if_ok (Err e) f p = tt

pub on_ok : {A E : Type 0} {P Q : Type 0} (r : Result A E) → (P → Q) → OnOk r P → OnOk r Q
on_ok (Ok a) f p = f p
on_ok (Err e) f p = tt

pub ok_is : {A E : Type 0} (P : A → Type 0) (r : Result A E) (a : A) → r ≡ Ok a → P a → IfOk r P
ok_is P r a is p = subst (λ s. IfOk s P) (sym is) p

-- ---- set functions on arguments

remove_first : {X : Type 0} (x : X) (xs : List X) → remove (x ∷ xs) 0 ≡ xs
remove_first x xs = refl

pub set_call_some : (count : ℕ) (r : Option Referent) (f : FunId) (all others : List LocalTerm) → 0 < length all → others ≡ remove all 0 → Some f ≡ function_named r
    → call (head.Global (global.Set f)) count (map local_term_of others) ≡ set_call_on count r (map local_term_of all)
set_call_some count r f [] others some e named = absurd (omega (arith, some))
set_call_some count r f (t ∷ all) others some e named =
    ap (λ ts. call (head.Global (global.Set f)) count (map local_term_of ts)) e ∙ set_called r f count (map local_term_of all) named

pub set_call_unnamed : (count : ℕ) (r : Option Referent) (all : List LocalTerm) → None ≡ function_named r → no_term ≡ set_call_on count r (map local_term_of all)
set_call_unnamed count r [] named = refl
set_call_unnamed count r (t ∷ all) named = not_called r count (map local_term_of all) named

pub set_call_none : (count : ℕ) (r : Option Referent) (all : List LocalTerm) → all ≡ [] → no_term ≡ set_call_on count r (map local_term_of all)
set_call_none count r all e = ap (λ ts. set_call_on count r (map local_term_of ts)) (sym e)

-- ---- loops that push what they make of each element

pub pushed_one : {X T Y : Type 0} (g : T → Y) (f : X → Y) (xs : List X) (i : ℕ) (d : X) (done after : List T) (t : T) (whole : List Y) → i < length xs
    → after ≡ done ++ t ∷ [] → g t ≡ f (get_or xs i d) → map g done ++ map f (drop i xs) ≡ whole → map g after ++ map f (drop (i + 1) xs) ≡ whole
pushed_one g f xs i d done after t whole within pushed same before =
    ap (λ ys. ys ++ map f (drop (i + 1) xs)) (ap (map g) pushed ∙ map-append g done (t ∷ []))
    ∙ append_assoc (map g done) (g t ∷ []) (map f (drop (i + 1) xs))
    ∙ ap (λ ys. map g done ++ ys) (ap₂ (λ y n. y ∷ map f (drop n xs)) same (add-one i) ∙ sym (ap (map f) (drop-cons xs i d within)))
    ∙ before

pub pushed_all : {X T Y : Type 0} (g : T → Y) (f : X → Y) (xs : List X) (i : ℕ) (done : List T) (whole : List Y) → length xs ≤ i
    → map g done ++ map f (drop i xs) ≡ whole → map g done ≡ whole
pushed_all g f xs i done whole past before =
    sym (append-nil (map g done)) ∙ ap (λ ys. map g done ++ map f ys) (sym (drop_all i xs past)) ∙ before

pub pushed_plain : {X Y : Type 0} (f : X → Y) (xs : List X) (i : ℕ) (d : X) (done after : List Y) (y : Y) (whole : List Y) → i < length xs
    → after ≡ done ++ y ∷ [] → y ≡ f (get_or xs i d) → done ++ map f (drop i xs) ≡ whole → after ++ map f (drop (i + 1) xs) ≡ whole
pushed_plain f xs i d done after y whole within pushed same before =
    ap (λ ys. ys ++ map f (drop (i + 1) xs)) pushed
    ∙ append_assoc done (y ∷ []) (map f (drop (i + 1) xs))
    ∙ ap (λ ys. done ++ ys) (ap₂ (λ z n. z ∷ map f (drop n xs)) same (add-one i) ∙ sym (ap (map f) (drop-cons xs i d within)))
    ∙ before

pub pushed_plain_all : {X Y : Type 0} (f : X → Y) (xs : List X) (i : ℕ) (done whole : List Y) → length xs ≤ i → done ++ map f (drop i xs) ≡ whole → done ≡ whole
pushed_plain_all f xs i done whole past before =
    sym (append-nil done) ∙ ap (λ ys. done ++ map f ys) (sym (drop_all i xs past)) ∙ before
