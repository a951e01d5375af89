-- Tables of numbers, with one more.
use Rattle.std.proofs.Common.{◌≡◌, ◌∙◌, ◌&&◌, ◌<◌, ◌≤◌, ◌+◌, cond, ℕ, Bool, true, false, List, [], ◌∷◌, ◌++◌, Option, None, Some, length, drop, get_or, if◌then◌else◌, refl, sym, ap, subst}
use Rattle.std.proofs.lemmas.Bool.{and_parts}
use Rattle.std.proofs.lemmas.Bool.Decides.{Decides-eqb}
use Rattle.std.proofs.lemmas.List.{append-nil, append_assoc}
use Rattle.std.proofs.lemmas.List.Elements.{All-get_or}
use Rattle.std.specs.List.{All}
use Rattle.std.specs.Prelude.{nat_eq}
use Rattle.std.specs.Str.{bytes_eq}
use Rattle.cu_entities.proofs.NameLemmas.{same_name}
use Rattle.cu_names.specs.declared.names.NameId.{NameId}
use Rattle.cu_names.specs.Texts.{AllDiffer, IsKnown, text_of}
use Rattle.cu_declared.specs.contracts.numbers.KeyPartialEq.TheImpl as keys
use Rattle.cu_declared.specs.declared.numbers.Key.{Key}
use Rattle.cu_declared.specs.declared.numbers.Numbers as code
use Rattle.cu_declared.specs.Inside.Numbers.{AreNumbers, Gains, Have, first_or, number_for}
use Rattle.cu_declared.specs.Parameters.{Numbered, belongs_to, number_at, numbered}
use Rattle.cu_declared.proofs.AddsLemmas.{prefix, nothing_left}

same_id : (a b : NameId) → nat_eq a.0 b.0 ≡ true → a ≡ b
same_id a b is = ap (λ (n : ℕ). record { 0 = n }) ((Decides-eqb a.0 b.0).0 is)

key_same : (a b : Key) → keys.eq-value.it a b ≡ true → a ≡ b
key_same a b is =
    let parts = and_parts (nat_eq a.owner.0 b.owner.0) (nat_eq a.name.0 b.name.0) is in
    λ j. record { owner = same_id a.owner b.owner parts.0 j; name = same_id a.name b.name parts.1 j }

key_is : (names : List (List ℕ)) (a b : Key) → AllDiffer names → IsKnown names a.owner → IsKnown names a.name → IsKnown names b.owner → IsKnown names b.name
    → keys.eq-value.it a b ≡ (bytes_eq (text_of names a.owner) (text_of names b.owner) && bytes_eq (text_of names a.name) (text_of names b.name))
key_is names a b differ ao an bo bn = λ j. same_name names a.owner b.owner differ ao bo j && same_name names a.name b.name differ an bn j

abbrev or_else : Option ℕ → Option ℕ → Option ℕ
or_else None other = other
or_else (Some n) other = Some n

abbrev last_if : List ℕ → List ℕ → Numbered → Option ℕ
last_if owner name n = if belongs_to owner name n then Some n.number else None

more_if : (b : Bool) (n : ℕ) (found other last : Option ℕ) → other ≡ or_else found last → (if b then Some n else other) ≡ or_else (if b then Some n else found) last
more_if true n found other last e = refl
more_if false n found other last e = e

number_more : (numbers : List Numbered) (n : Numbered) (owner name : List ℕ) → number_at (numbers ++ n ∷ []) owner name ≡ or_else (number_at numbers owner name) (last_if owner name n)
number_more [] n owner name = refl
number_more (m ∷ numbers) n owner name =
    more_if (belongs_to owner name m) m.number (number_at numbers owner name) (number_at (numbers ++ n ∷ []) owner name) (last_if owner name n) (number_more numbers n owner name)

or_first : (found : Option ℕ) (n : ℕ) → Some (first_or found n) ≡ or_else found (Some n)
or_first None n = refl
or_first (Some m) n = refl

or_none : (found : Option ℕ) → found ≡ or_else found None
or_none None = refl
or_none (Some m) = refl

module _ (names : List (List ℕ)) (numbers : List Numbered) (old new : Key → Option ℕ) (owner name : NameId) (n found : ℕ)
    (differ : AllDiffer names) (ko : IsKnown names owner) (kn : IsKnown names name) (are : AreNumbers names numbers old)
    (gives : (k : Key) → new k ≡ cond (keys.eq-value.it (record { owner = owner; name = name }) k) (Some found) (old k))
    (is : found ≡ first_or (old (record { owner = owner; name = name })) n) where
  abbrev key : Key
  key = record { owner = owner; name = name }

  abbrev last : Numbered
  last = numbered (text_of names owner) (text_of names name) n

  at_key : (k : Key) → IsKnown names k.owner → IsKnown names k.name → (b : Bool) → keys.eq-value.it key k ≡ b
      → cond b (Some found) (old k) ≡ or_else (number_for names numbers k) (last_if (text_of names k.owner) (text_of names k.name) last)
  at_key k bo bn true e =
      let same : key ≡ k = key_same key k e in
      let belongs : belongs_to (text_of names k.owner) (text_of names k.name) last ≡ true = sym (key_is names key k differ ko kn bo bn) ∙ e in
      let old_is : old key ≡ number_for names numbers k = ap old same ∙ are.gives k bo bn in
      ap Some is ∙ or_first (old key) n ∙ ap (λ o. or_else o (Some n)) old_is
      ∙ ap (λ (b : Bool). or_else (number_for names numbers k) (if b then Some n else None)) (sym belongs)
  at_key k bo bn false e =
      let belongs : belongs_to (text_of names k.owner) (text_of names k.name) last ≡ false = sym (key_is names key k differ ko kn bo bn) ∙ e in
      are.gives k bo bn ∙ or_none (number_for names numbers k)
      ∙ ap (λ (b : Bool). or_else (number_for names numbers k) (if b then Some n else None)) (sym belongs)

  added : AreNumbers names (numbers ++ last ∷ []) new
  added = record {
    gives = λ k bo bn. gives k ∙ at_key k bo bn (keys.eq-value.it key k) refl ∙ sym (number_more numbers last (text_of names k.owner) (text_of names k.name));
  }

pub gained : (names : List (List ℕ)) (old new : Key → Option ℕ) (owner name : NameId) (n found : ℕ) (before after : code.Numbers)
    → ((numbers : List Numbered) → Have names numbers before → AreNumbers names numbers old)
    → ((numbers : List Numbered) → AreNumbers names numbers new → Have names numbers after)
    → AllDiffer names → IsKnown names owner → IsKnown names name
    → ((k : Key) → new k ≡ cond (keys.eq-value.it (record { owner = owner; name = name }) k) (Some found) (old k))
    → found ≡ first_or (old (record { owner = owner; name = name })) n
    → Gains names before (numbered (text_of names owner) (text_of names name) n ∷ []) after
gained names old new owner name n found before after opens closes differ ko kn gives is = record {
  gains = λ numbers have.
      closes (numbers ++ numbered (text_of names owner) (text_of names name) n ∷ [])
      (added names numbers old new owner name n found differ ko kn (opens numbers have) gives is);
}

-- ---- numbers that were added

pub gains_none : (names : List (List ℕ)) (a : code.Numbers) → Gains names a [] a
gains_none names a = record { gains = λ numbers have. subst (λ (ns : List Numbered). Have names ns a) (sym (append-nil numbers)) have }

pub gains_both : {names : List (List ℕ)} {a b c : code.Numbers} {xs ys : List Numbered} → Gains names a xs b → Gains names b ys c → Gains names a (xs ++ ys) c
gains_both {names = names} {c = c} {xs = xs} {ys = ys} one two = record {
  gains = λ numbers have.
      subst (λ (ns : List Numbered). Have names ns c) (append_assoc numbers xs ys) (two.gains (numbers ++ xs) (one.gains numbers have));
}

pub gains_as : (names : List (List ℕ)) (a b : code.Numbers) (xs ys : List Numbered) → xs ≡ ys → Gains names a xs b → Gains names a ys b
gains_as names a b xs ys same gains = subst (λ (zs : List Numbered). Gains names a zs b) same gains

pub gains_prefix : {X : Type 0} (P : X → Type 0) (F : List X → List Numbered) (f : X → List Numbered) → ((x : X) (xs : List X) → F (x ∷ xs) ≡ f x ++ F xs)
    → (names : List (List ℕ)) (xs : List X) (i : ℕ) (x : X) (a b c : code.Numbers) → x ≡ get_or xs i x → i < length xs → All P xs
    → (P x → Gains names a (f x) b) → Gains names b (F (drop (i + 1) xs)) c → Gains names a (F (drop i xs)) c
gains_prefix P F f cons names xs i x a b c is within all here suffix =
    subst (λ ys. Gains names a ys c) (prefix F f cons xs i x is within)
    (gains_both (here (subst P (sym is) (All-get_or P xs i x within all))) suffix)

pub gains_end : {X : Type 0} (F : List X → List Numbered) → F [] ≡ [] → (names : List (List ℕ)) (xs : List X) (i : ℕ) (a : code.Numbers) → length xs ≤ i
    → Gains names a (F (drop i xs)) a
gains_end F empty names xs i a past = subst (λ ys. Gains names a ys a) (sym (nothing_left F empty xs i past)) (gains_none names a)
