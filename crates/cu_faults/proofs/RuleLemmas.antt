-- Rules of functions.
use Rattle.std.proofs.Common.{◌≡◌, ◌∙◌, ◌<◌, ◌≤◌, ◌+◌, ℕ, zero, suc, Bool, true, false, not, List, [], ◌∷◌, None, Some, length, drop, get_or, map, refl, sym, ap, ap₂, subst, add-one, eq-eqb, eqb-true}
use Rattle.std.proofs.Math.Seq.{drop-cons}
use Rattle.std.proofs.lemmas.List.{drop_all}
use Rattle.std.proofs.lemmas.List.Elements.{All-get_or}
use Rattle.std.proofs.lemmas.Option.{slice_get_past, slice_get_read}
use Rattle.std.specs.List.{All, filter}
use Rattle.std.specs.Prelude.{nat_eq, slice_get}
use Rattle.cu_lex.specs.Reading.{position_of}
use Rattle.cu_names.specs.declared.names.NameId.{NameId}
use Rattle.cu_sites.specs.declared.rules.Group as groups
use Rattle.cu_sites.specs.declared.rules.Rule as rules
use Rattle.cu_sites.specs.Meaning.{GroupIsOf, RuleIsOf, group_meaning, rule_meaning}
use Rattle.cu_syntax.specs.Owners.{PlaceIsOf}
use Rattle.cu_translation.specs.FaultOrder.{Arity, Fault, TooLong, fault}
use Rattle.cu_translation.specs.Faults.{differs_from, first_rule, length_faults, most_rules, too_long}
use Rattle.cu_faults.proofs.PatternLemmas.{counted}

-- ---- numbers of patterns

differs_by : (names : List (List ℕ)) (f r : rules.Rule)
    → differs_from (rule_meaning names f) (rule_meaning names r) ≡ not (nat_eq (length r.parameters.items) (length f.parameters.items))
differs_by names f r = ap₂ (λ m n. not (nat_eq m n)) (counted names r.parameters.items) (counted names f.parameters.items)

-- the faults of rules after one
abbrev pub others_faults : List (List ℕ) → rules.Rule → List rules.Rule → List Fault
others_faults names f rs = first_rule (filter (differs_from (rule_meaning names f)) (map (rule_meaning names) rs))

same_count : (names : List (List ℕ)) (f r : rules.Rule) (rs : List rules.Rule) → length r.parameters.items ≡ length f.parameters.items
    → others_faults names f (r ∷ rs) ≡ others_faults names f rs
same_count names f r rs is =
    let equal = eq-eqb (length r.parameters.items) (length f.parameters.items) is in rw (differs_by names f r ∙ ap not equal) refl

unequal_by : (m n : ℕ) (b : Bool) → (m ≡ n → ⊥) → nat_eq m n ≡ b → b ≡ false
unequal_by m n true other is = absurd (other (eqb-true m n is))
unequal_by m n false other is = refl

unequal : (m n : ℕ) → (m ≡ n → ⊥) → nat_eq m n ≡ false
unequal m n other = unequal_by m n (nat_eq m n) other refl

other_count : (names : List (List ℕ)) (f r : rules.Rule) (rs : List rules.Rule) → (length r.parameters.items ≡ length f.parameters.items → ⊥)
    → others_faults names f (r ∷ rs) ≡ fault Arity (position_of r.place) ∷ []
other_count names f r rs other =
    let differ = unequal (length r.parameters.items) (length f.parameters.items) other in rw (differs_by names f r ∙ ap not differ) refl

dropped : (xs : List rules.Rule) (i : ℕ) (x : rules.Rule) → x ≡ get_or xs i x → i < length xs → drop i xs ≡ x ∷ drop (i + 1) xs
dropped xs i x is within = drop-cons xs i x within ∙ ap₂ (λ y n. y ∷ drop n xs) (sym is) (sym (add-one i))

pub others_prefix : (names : List (List ℕ)) (f : rules.Rule) (xs : List rules.Rule) (i : ℕ) (x : rules.Rule) → x ≡ get_or xs i x → i < length xs
    → length x.parameters.items ≡ length f.parameters.items → others_faults names f (drop (i + 1) xs) ≡ others_faults names f (drop i xs)
others_prefix names f xs i x is within same =
    sym (ap (others_faults names f) (dropped xs i x is within) ∙ same_count names f x (drop (i + 1) xs) same)

pub others_found : (names : List (List ℕ)) (f : rules.Rule) (xs : List rules.Rule) (i : ℕ) (x : rules.Rule) → x ≡ get_or xs i x → i < length xs
    → (length x.parameters.items ≡ length f.parameters.items → ⊥) → fault Arity (position_of x.place) ∷ [] ≡ others_faults names f (drop i xs)
others_found names f xs i x is within other =
    sym (ap (others_faults names f) (dropped xs i x is within) ∙ other_count names f x (drop (i + 1) xs) other)

pub others_end : (names : List (List ℕ)) (f : rules.Rule) (xs : List rules.Rule) (i : ℕ) → length xs ≤ i → [] ≡ others_faults names f (drop i xs)
others_end names f xs i past = sym (ap (others_faults names f) (drop_all i xs past))

-- ---- numbers of rules

long_at : (names : List (List ℕ)) (k : ℕ) (xs : List rules.Rule) (r : rules.Rule) → slice_get xs k ≡ Some r
    → too_long (drop k (map (rule_meaning names) xs)) ≡ fault TooLong (position_of r.place) ∷ []
long_at names k [] r is = let no : ⊥ = cc in absurd no
long_at names zero (x ∷ xs) r is = let e : x ≡ r = cc in ap (λ (y : rules.Rule). fault TooLong (position_of y.place) ∷ []) e
long_at names (suc k) (x ∷ xs) r is = long_at names k xs r is

short_at : (names : List (List ℕ)) (k : ℕ) (xs : List rules.Rule) → slice_get xs k ≡ None → too_long (drop k (map (rule_meaning names) xs)) ≡ []
short_at names zero [] is = refl
short_at names (suc k) [] is = refl
short_at names zero (x ∷ xs) is = let no : ⊥ = cc in absurd no
short_at names (suc k) (x ∷ xs) is = short_at names k xs is

lengths : (names : List (List ℕ)) (g : groups.Group) (n k : ℕ) → n ≡ suc k
    → too_long (drop n (rule_meaning names g.first ∷ map (rule_meaning names) g.others.items)) ≡ too_long (drop k (map (rule_meaning names) g.others.items))
lengths names g n k is = ap (λ m. too_long (drop m (rule_meaning names g.first ∷ map (rule_meaning names) g.others.items))) is

pub too_long_at : (names : List (List ℕ)) (g : groups.Group) (xs : List rules.Rule) (k : ℕ) (r : rules.Rule) → most_rules ≡ suc k → xs ≡ g.others.items → k < length xs → r ≡ get_or xs k r
    → length_faults (group_meaning names g) ≡ fault TooLong (position_of r.place) ∷ []
too_long_at names g xs k r is same within at =
    lengths names g most_rules k is ∙ long_at names k g.others.items r (ap (λ ys. slice_get ys k) (sym same) ∙ slice_get_read xs (length xs) k r refl within at)

pub not_too_long : (names : List (List ℕ)) (g : groups.Group) (xs : List rules.Rule) (k : ℕ) → most_rules ≡ suc k → xs ≡ g.others.items → length xs ≤ k
    → length_faults (group_meaning names g) ≡ []
not_too_long names g xs k is same past =
    lengths names g most_rules k is ∙ short_at names k g.others.items (ap (λ ys. slice_get ys k) (sym same) ∙ slice_get_past xs k past)

-- ---- places

pub place_owned : (owner : NameId) (names : List (List ℕ)) (g : groups.Group) (xs : List rules.Rule) (i : ℕ) (x : rules.Rule) → GroupIsOf owner names g → xs ≡ g.others.items
    → i < length xs → x ≡ get_or xs i x → PlaceIsOf owner x.place
place_owned owner names g xs i x of same within is =
    let P = RuleIsOf owner names in
    (subst P (sym is) (All-get_or P xs i x within (subst (All P) (sym same) of.others))).place
