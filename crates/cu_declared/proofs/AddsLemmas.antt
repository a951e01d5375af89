-- Uses of types that walks add.
use Rattle.std.proofs.Common.{◌≡◌, ◌∙◌, ◌<◌, ◌≤◌, ◌+◌, ℕ, List, [], ◌∷◌, ◌++◌, Result, Ok, Err, OnOk, length, drop, get_or, sym, ap, ap₂, subst, add-one}
use Rattle.std.proofs.Math.Seq.{drop-cons}
use Rattle.std.proofs.lemmas.List.{append-nil, append_assoc, drop_all, map-append}
use Rattle.std.proofs.lemmas.List.Elements.{All-get_or, All-push}
use Rattle.std.specs.List.{All}
use Rattle.cu_names.specs.declared.names.NameId.{NameId}
use Rattle.cu_declared.specs.declared.found.TypeUse as code
use Rattle.cu_declared.specs.Inside.Gathered.{Adds, UseIsOf, use_meaning, uses_meaning}
use Rattle.cu_declared.specs.TypeUses.{TypeUse}

pub on_ok : {A E P Q : Type 0} (r : Result A E) → (P → Q) → OnOk r P → OnOk r Q
on_ok (Ok a) f p = f p
on_ok (Err e) f p = tt

-- ---- lists that a loop walks over

pub prefix : {X Y : Type 0} (F : List X → List Y) (f : X → List Y) → ((x : X) (xs : List X) → F (x ∷ xs) ≡ f x ++ F xs) → (xs : List X) (i : ℕ) (x : X) → x ≡ get_or xs i x → i < length xs
    → f x ++ F (drop (i + 1) xs) ≡ F (drop i xs)
prefix F f cons xs i x is within =
    sym (ap F (drop-cons xs i x within ∙ ap₂ (λ y n. y ∷ drop n xs) (sym is) (sym (add-one i))) ∙ cons x (drop (i + 1) xs))

pub nothing_left : {X Y : Type 0} (F : List X → List Y) → F [] ≡ [] → (xs : List X) (i : ℕ) → length xs ≤ i → F (drop i xs) ≡ []
nothing_left F empty xs i past = ap F (drop_all i xs past) ∙ empty

-- ---- uses that were added

pub adds_none : (owner : NameId) (names : List (List ℕ)) (a : List code.TypeUse) → Adds owner names a [] a
adds_none owner names a = record { adds = sym (append-nil (uses_meaning names a)); owned = λ of. of }

pub adds_one : (owner : NameId) (names : List (List ℕ)) (a b : List code.TypeUse) (x : code.TypeUse) → UseIsOf owner names x → b ≡ a ++ x ∷ []
    → Adds owner names a (use_meaning names x ∷ []) b
adds_one owner names a b x is pushed = record {
  adds = ap (uses_meaning names) pushed ∙ map-append (use_meaning names) a (x ∷ []);
  owned = λ of. subst (All (UseIsOf owner names)) (sym pushed) (All-push (UseIsOf owner names) a x of is);
}

pub adds_both : {owner : NameId} {names : List (List ℕ)} {a b c : List code.TypeUse} {xs ys : List TypeUse} → Adds owner names a xs b → Adds owner names b ys c
    → Adds owner names a (xs ++ ys) c
adds_both {names = names} {a = a} {xs = xs} {ys = ys} one two = record {
  adds = two.adds ∙ ap (λ zs. zs ++ ys) one.adds ∙ append_assoc (uses_meaning names a) xs ys;
  owned = λ of. two.owned (one.owned of);
}

-- the same uses, told in another way
pub adds_as : (owner : NameId) (names : List (List ℕ)) (a b : List code.TypeUse) (xs ys : List TypeUse) → xs ≡ ys → Adds owner names a xs b → Adds owner names a ys b
adds_as owner names a b xs ys same adds = subst (λ zs. Adds owner names a zs b) same adds

-- one round of a loop
pub adds_prefix : {X : Type 0} (P : X → Type 0) (F : List X → List TypeUse) (f : X → List TypeUse)
    → ((x : X) (xs : List X) → F (x ∷ xs) ≡ f x ++ F xs)
    → (owner : NameId) (names : List (List ℕ)) (xs : List X) (i : ℕ) (x : X) (a b c : List code.TypeUse) → x ≡ get_or xs i x → i < length xs → All P xs
    → (P x → Adds owner names a (f x) b) → Adds owner names b (F (drop (i + 1) xs)) c → Adds owner names a (F (drop i xs)) c
adds_prefix P F f cons owner names xs i x a b c is within all here suffix =
    subst (λ ys. Adds owner names a ys c) (prefix F f cons xs i x is within)
    (adds_both (here (subst P (sym is) (All-get_or P xs i x within all))) suffix)

pub adds_end : {X : Type 0} (F : List X → List TypeUse) → F [] ≡ [] → (owner : NameId) (names : List (List ℕ)) (xs : List X) (i : ℕ) (a : List code.TypeUse) → length xs ≤ i
    → Adds owner names a (F (drop i xs)) a
adds_end F empty owner names xs i a past = subst (λ ys. Adds owner names a ys a) (sym (nothing_left F empty xs i past)) (adds_none owner names a)
