-- Lists of declared entities, with one entity more.
use Rattle.std.proofs.Common.{◌≡◌, ◌∙◌, ◌+◌, ◌&&◌, cond, ℕ, Bool, true, false, List, [], ◌∷◌, ◌++◌, Option, None, Some, refl, sym, ap, length, arith, if◌then◌else◌}
use Rattle.std.proofs.lemmas.Bool.{and_parts}
use Rattle.std.specs.Option.{option_map, unwrap_or}
use Rattle.std.specs.Prelude.{nat_eq}
use Rattle.cu_names.specs.Texts.{AllDiffer, IsKnown, text_of}
use Rattle.cu_toplevel.specs.contracts.listing.KeyPartialEq.TheImpl as keys
use Rattle.cu_toplevel.specs.declared.listing.Declared as code
use Rattle.cu_toplevel.specs.declared.listing.Key.{Key}
use Rattle.cu_toplevel.specs.declared.listing.Numbered as code_numbers
use Rattle.cu_toplevel.specs.Listings.{DeclaredIsKnown, GivesFirst, declared_meaning, numbered_meaning}
use Rattle.cu_translation.specs.Numbered.{Declared, Numbered, is_called, numbered, numbered_from}
use Rattle.cu_toplevel.proofs.NameLemmas.{same_id, same_name}

-- what was found, or else something that may be there
abbrev or_if : Option Numbered → Bool → Numbered → Option Numbered
or_if None here n = if here then Some n else None
or_if (Some m) here n = Some m

abbrev at_number : ℕ → ℕ → Numbered
at_number number arity = record { number = number; arity = arity }

one_more : (n : ℕ) (owner name : List ℕ) (ds : List Declared) (d : Declared)
    → numbered_from n owner name (ds ++ d ∷ [])
    ≡ or_if (numbered_from n owner name ds) (is_called owner name d) (at_number (n + length ds) d.arity)
one_more n owner name [] d = ap (λ m. if is_called owner name d then Some (at_number m d.arity) else None) (omega arith)
one_more n owner name (e ∷ ds) d = by (one_more (n + 1) owner name ds d) (is_called owner name e)
  where
    by : numbered_from (n + 1) owner name (ds ++ d ∷ []) ≡ or_if (numbered_from (n + 1) owner name ds) (is_called owner name d) (at_number ((n + 1) + length ds) d.arity)
        → (b : Bool) → (if b then Some (at_number n e.arity) else numbered_from (n + 1) owner name (ds ++ d ∷ []))
        ≡ or_if (if b then Some (at_number n e.arity) else numbered_from (n + 1) owner name ds) (is_called owner name d) (at_number (n + length (e ∷ ds)) d.arity)
    by more true = refl
    by more false =
        more
        ∙ ap (λ m. or_if (numbered_from (n + 1) owner name ds) (is_called owner name d) (at_number m d.arity)) (omega arith)

-- keys by their texts
finds : (names : List (List ℕ)) (d : code.Declared) (k : Key) → AllDiffer names → DeclaredIsKnown names d → IsKnown names k.owner → IsKnown names k.name
    → keys.eq-value.it (record { owner = d.owner; name = d.name }) k ≡ is_called (text_of names k.owner) (text_of names k.name) (declared_meaning names d)
finds names d k differ known owner name = λ j. same_name names d.owner k.owner differ known.owner owner j && same_name names d.name k.name differ known.name name j

key_same : (a b : Key) → keys.eq-value.it a b ≡ true → a ≡ b
key_same a b is =
    let both = and_parts (nat_eq a.owner.0 b.owner.0) (nat_eq a.name.0 b.name.0) is in
    λ j. record { owner = same_id a.owner b.owner both.0 j; name = same_id a.name b.name both.1 j }

-- Look-ups that give the first of two at one key, and what they gave before at others.
pub first_more : (names : List (List ℕ)) (listed : List Declared) (d : code.Declared) (key : Key) (next found : code_numbers.Numbered) (old new : Key → Option code_numbers.Numbered)
    → AllDiffer names → DeclaredIsKnown names d → GivesFirst names listed old → key ≡ record { owner = d.owner; name = d.name }
    → next ≡ record { number = length listed; arity = d.arity } → found ≡ unwrap_or (old key) next
    → ((k : Key) → new k ≡ cond (keys.eq-value.it key k) (Some found) (old k))
    → GivesFirst names (listed ++ declared_meaning names d ∷ []) new
first_more names listed d key next found old new differ known gives is next_is found_is updates = record { each = each }
  where
    kept : (o : Option code_numbers.Numbered) (p : Option Numbered) → option_map numbered_meaning o ≡ p → Some (numbered_meaning (unwrap_or o next)) ≡ or_if p true (at_number (length listed) d.arity)
    kept None p e = ap (λ n. Some (numbered_meaning n)) next_is ∙ ap (λ p. or_if p true (at_number (length listed) d.arity)) e
    kept (Some m) p e = ap (λ p. or_if p true (at_number (length listed) d.arity)) e

    same : (p : Option Numbered) → p ≡ or_if p false (at_number (length listed) d.arity)
    same None = refl
    same (Some m) = refl

    by : (k : Key) → IsKnown names k.owner → IsKnown names k.name → (h : Bool) → keys.eq-value.it key k ≡ h
        → option_map numbered_meaning (cond h (Some found) (old k))
        ≡ or_if (numbered (text_of names k.owner) (text_of names k.name) listed) h (at_number (length listed) d.arity)
    by k owner name true here =
        ap (λ f. Some (numbered_meaning f)) (found_is ∙ ap (λ (k : Key). unwrap_or (old k) next) (key_same key k here))
        ∙ kept (old k) (numbered (text_of names k.owner) (text_of names k.name) listed) (gives.each k owner name)
    by k owner name false here =
        gives.each k owner name ∙ same (numbered (text_of names k.owner) (text_of names k.name) listed)

    each : (k : Key) → IsKnown names k.owner → IsKnown names k.name
        → option_map numbered_meaning (new k) ≡ numbered (text_of names k.owner) (text_of names k.name) (listed ++ declared_meaning names d ∷ [])
    each k owner name =
        ap (option_map numbered_meaning) (updates k)
        ∙ by k owner name (keys.eq-value.it key k) refl
        ∙ ap (λ h. or_if (numbered (text_of names k.owner) (text_of names k.name) listed) h (at_number (length listed) d.arity))
        (ap (λ a. keys.eq-value.it a k) is ∙ finds names d k differ known owner name)
        ∙ ap (λ n. or_if (numbered (text_of names k.owner) (text_of names k.name) listed) (is_called (text_of names k.owner) (text_of names k.name) (declared_meaning names d)) (at_number n d.arity)) (omega arith)
        ∙ sym (one_more 0 (text_of names k.owner) (text_of names k.name) listed (declared_meaning names d))
