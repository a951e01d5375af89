-- The parts of qualified words.
use Rattle.std.proofs.Common.{◌≡◌, ℕ, zero, suc, ◌≤◌, Bool, true, false, ◌&&◌, ◌||◌, ◌==◌, List, [], ◌∷◌, ◌++◌, length, map, Option, Some, None, if◌then◌else◌, refl, sym, ap, subst, ◌∙◌, arith, true≢false, append_assoc, eqb-true}
use Rattle.std.proofs.lemmas.List.{length-append}
use Rattle.std.proofs.lemmas.List.Folds.{list_all-append}
use Rattle.std.specs.Char.{is_ascii_uppercase}
use Rattle.std.specs.List.{find, list_all}
use Rattle.std.specs.Option.{option_map}
use Rattle.cu_lex.specs.Inside.Chains.{Reaches}
use Rattle.cu_lex.specs.Inside.Chains.Reaches.{link}
use Rattle.cu_lex.specs.Located.{Located, characters}
use Rattle.cu_lex.specs.Words.{around_dots, begins_with, between_dots, with_first, is_con_id, is_module_name, is_name_character, is_operator, is_var_id, qualified_parts}
use Rattle.cu_lex.proofs.AsciiLemmas.{and-left, and-right, and-both, capital-name}
use Rattle.cu_lex.proofs.ChainLemmas.{between-join, con-all, con-capital, var-form, capital-var, operator-first, symbol-capitals}

Parts : Type 0
Parts = List ℕ × List ℕ

abbrev pub is_base_word : List ℕ → Bool
is_base_word w = is_var_id w || (is_con_id w || is_operator w)

abbrev pub are_parts : List ℕ × List ℕ → Bool
are_parts parts = is_module_name parts.0 && is_base_word parts.1

abbrev longer : ℕ → List ℕ × List ℕ → List ℕ × List ℕ
longer c parts = (c ∷ parts.0, parts.1)

find-map : (p : List ℕ × List ℕ → Bool) (g : List ℕ × List ℕ → List ℕ × List ℕ) (xs : List (List ℕ × List ℕ)) → find p (map g xs) ≡ option_map g (find (λ x. p (g x)) xs)
find-map p g [] = refl
find-map p g (x ∷ xs) = by (p (g x)) (find-map p g xs)
  where
    by : (b : Bool) → find p (map g xs) ≡ option_map g (find (λ y. p (g y)) xs) → (if b then Some (g x) else find p (map g xs)) ≡ option_map g (if b then Some x else find (λ y. p (g y)) xs)
    by true more = refl
    by false more = more

-- what was found is a split of the word
pub found-split : (p : List ℕ × List ℕ → Bool) (w : List ℕ) (o i : List ℕ) → find p (around_dots w) ≡ Some (o, i) → (o ++ 46 ∷ i ≡ w) × (p (o, i) ≡ true)
found-split p [] o i is = cc
found-split p (c ∷ w) o i is = by (c == 46) refl (p ([], w)) refl (find (λ x. p (longer c x)) (around_dots w)) refl (λ o' i' h. found-split (λ x. p (longer c x)) w o' i' h) is
  where
    deep : (found : Option (List ℕ × List ℕ)) → ((o' i' : List ℕ) → found ≡ Some (o', i') → (o' ++ 46 ∷ i' ≡ w) × (p (c ∷ o', i') ≡ true)) → option_map (longer c) found ≡ Some (o, i) → (o ++ 46 ∷ i ≡ c ∷ w) × (p (o, i) ≡ true)
    deep None more is = cc
    deep (Some found) more is =
        let both : longer c found ≡ (o, i) = cc in
        let parts = more found.0 found.1 refl in
        (ap (λ x. x.0 ++ 46 ∷ x.1) (sym both) ∙ ap (λ t. c ∷ t) parts.0, ap p (sym both) ∙ parts.1)

    by : (d : Bool) → (c == 46) ≡ d → (b : Bool) → p ([], w) ≡ b → (found : Option (List ℕ × List ℕ)) → find (λ x. p (longer c x)) (around_dots w) ≡ found
        → ((o' i' : List ℕ) → find (λ x. p (longer c x)) (around_dots w) ≡ Some (o', i') → (o' ++ 46 ∷ i' ≡ w) × (p (c ∷ o', i') ≡ true))
        → find p (if d then ([], w) ∷ map (longer c) (around_dots w) else map (longer c) (around_dots w)) ≡ Some (o, i) → (o ++ 46 ∷ i ≡ c ∷ w) × (p (o, i) ≡ true)
    by true dot true pass found at more is =
        let first : (if p ([], w) then Some ([], w) else find p (map (longer c) (around_dots w))) ≡ Some ([], w) = rw pass refl in
        let both : ([], w) ≡ (o, i) = (let e : Some ([], w) ≡ Some (o, i) = sym first ∙ is in cc) in
        (ap (λ x. x.0 ++ 46 ∷ x.1) (sym both) ∙ ap (λ d. d ∷ w) (sym (eqb-true c 46 dot)), ap p (sym both) ∙ pass)
    by true dot false pass found at more is =
        let rest : (if p ([], w) then Some ([], w) else find p (map (longer c) (around_dots w))) ≡ find p (map (longer c) (around_dots w)) = rw pass refl in
        deep found (λ o' i' h. more o' i' (at ∙ h)) (ap (option_map (longer c)) (sym at) ∙ sym (find-map p (longer c) (around_dots w)) ∙ sym rest ∙ is)
    by false dot b pass found at more is =
        deep found (λ o' i' h. more o' i' (at ∙ h)) (ap (option_map (longer c)) (sym at) ∙ sym (find-map p (longer c) (around_dots w)) ∙ is)

-- where nothing was found no split passes
map-none : {X Y : Type 0} (g : X → Y) (o : Option X) → option_map g o ≡ None → o ≡ None
map-none g None is = refl
map-none g (Some x) is = cc

pub none-split : (p : List ℕ × List ℕ → Bool) (o i : List ℕ) → find p (around_dots (o ++ 46 ∷ i)) ≡ None → p (o, i) ≡ false
none-split p [] i is = by (p ([], i)) refl is
  where
    by : (b : Bool) → p ([], i) ≡ b → (if p ([], i) then Some ([], i) else find p (map (longer 46) (around_dots i))) ≡ None → p ([], i) ≡ false
    by false h is = h
    by true h is = absurd (let e : Some ([], i) ≡ None = sym (let f : (if p ([], i) then Some ([], i) else find p (map (longer 46) (around_dots i))) ≡ Some ([], i) = rw h refl in f) ∙ is in let impossible : ⊥ = cc in impossible)
none-split p (c ∷ o) i is = none-split (λ x. p (longer c x)) o i (map-none (longer c) (find (λ x. p (longer c x)) (around_dots (o ++ 46 ∷ i))) (sym (find-map p (longer c) (around_dots (o ++ 46 ∷ i))) ∙ by (c == 46) is))
  where
    rest : List (List ℕ × List ℕ)
    rest = map (longer c) (around_dots (o ++ 46 ∷ i))

    skip : (b : Bool) → (if b then Some ([], o ++ 46 ∷ i) else find p (map (longer c) (around_dots (o ++ 46 ∷ i)))) ≡ None → find p (map (longer c) (around_dots (o ++ 46 ∷ i))) ≡ None
    skip true is = cc
    skip false is = is

    by : (d : Bool) → find p (if d then ([], o ++ 46 ∷ i) ∷ map (longer c) (around_dots (o ++ 46 ∷ i)) else map (longer c) (around_dots (o ++ 46 ∷ i))) ≡ None → find p (map (longer c) (around_dots (o ++ 46 ∷ i))) ≡ None
    by true is = skip (p ([], o ++ 46 ∷ i)) is
    by false is = is

-- two splits of one word
data Aligned (o i o' i' : List ℕ) : Type 0 where
  same : o ≡ o' → i ≡ i' → Aligned o i o' i'
  first : (m : List ℕ) → o' ≡ o ++ 46 ∷ m → i ≡ m ++ 46 ∷ i' → Aligned o i o' i'
  second : (m : List ℕ) → o ≡ o' ++ 46 ∷ m → i' ≡ m ++ 46 ∷ i → Aligned o i o' i'

aligned : (o i o' i' : List ℕ) → o ++ 46 ∷ i ≡ o' ++ 46 ∷ i' → Aligned o i o' i'
aligned [] i [] i' is = let tails : i ≡ i' = cc in same refl tails
aligned [] i (c ∷ o') i' is =
    let heads : 46 ≡ c = cc in
    let tails : i ≡ o' ++ 46 ∷ i' = cc in
    first o' (ap (λ x. x ∷ o') (sym heads)) tails
aligned (c ∷ o) i [] i' is =
    let heads : c ≡ 46 = cc in
    let tails : o ++ 46 ∷ i ≡ i' = cc in
    second o (ap (λ x. x ∷ o) heads) (sym tails)
aligned (c ∷ o) i (d ∷ o') i' is =
    let heads : c ≡ d = cc in
    let tails : o ++ 46 ∷ i ≡ o' ++ 46 ∷ i' = cc in
    elim (aligned o i o' i' tails) [
      | same p q ↦ same (λ j. heads j ∷ p j) q
      | first m p q ↦ first m (λ j. sym heads j ∷ p j) q
      | second m p q ↦ second m (λ j. heads j ∷ p j) q
    ]

-- the first part of the name of a module
module-first : (m : List ℕ) → list_all is_con_id (between_dots m) ≡ true → begins_with is_ascii_uppercase m ≡ true
unfolding is_con_id
module-first [] is = absurd (true≢false (sym is))
module-first (c ∷ m) is = by (c == 46) (between_dots m) is
  where
    by : (b : Bool) (ps : List (List ℕ)) → list_all is_con_id (if b then [] ∷ ps else with_first c ps) ≡ true → is_ascii_uppercase c ≡ true
    by true ps is = absurd (true≢false (sym is))
    by false [] is = con-capital (c ∷ []) (and-left (is_con_id (c ∷ [])) true is)
    by false (p ∷ ps) is = con-capital (c ∷ p) (and-left (is_con_id (c ∷ p)) (list_all is_con_id ps) is)

pub module-capital : (m : List ℕ) → is_module_name m ≡ true → begins_with is_ascii_uppercase m ≡ true
unfolding is_module_name
module-capital m is = module-first m is

pub capital-prefix : (m rest : List ℕ) → begins_with is_ascii_uppercase m ≡ true → begins_with is_ascii_uppercase (m ++ rest) ≡ true
capital-prefix [] rest is = absurd (true≢false (sym is))
capital-prefix (c ∷ m) rest is = is

-- a ConId has no dot
dot-no-name : is_name_character 46 ≡ false
unfolding is_name_character
dot-no-name = refl

pub no-dot : (m rest : List ℕ) → list_all is_name_character (m ++ 46 ∷ rest) ≡ true → ⊥
no-dot [] rest all = true≢false (sym (and-left (is_name_character 46) (list_all is_name_character rest) all) ∙ dot-no-name)
no-dot (c ∷ m) rest all = no-dot m rest (and-right (is_name_character c) (list_all is_name_character (m ++ 46 ∷ rest)) all)

pub capital-base : (w : List ℕ) → begins_with is_ascii_uppercase w ≡ true → is_base_word w ≡ true → is_con_id w ≡ true
capital-base w capital is = by (is_var_id w) refl (is_con_id w) refl (is_operator w) refl is
  where
    by : (a : Bool) → is_var_id w ≡ a → (b : Bool) → is_con_id w ≡ b → (c : Bool) → is_operator w ≡ c → a || (b || c) ≡ true → b ≡ true
    by true h b h' c h'' is = absurd (true≢false (sym (var-form w h) ∙ capital-var w capital))
    by false h true h' c h'' is = refl
    by false h false h' true h'' is = absurd (symbol-capitals w (operator-first w h'') capital)
    by false h false h' false h'' is = is

apart-parts : (o m i : List ℕ) → is_module_name (o ++ 46 ∷ m) ≡ true → is_base_word (m ++ 46 ∷ i) ≡ true → ⊥
unfolding is_module_name
apart-parts o m i outer base =
    let parts = sym (list_all-append is_con_id (between_dots o) (between_dots m)) ∙ ap (list_all is_con_id) (sym (between-join o m)) ∙ outer in
    let capital = module-first m (and-right (list_all is_con_id (between_dots o)) (list_all is_con_id (between_dots m)) parts) in
    no-dot m i (con-all (m ++ 46 ∷ i) (capital-base (m ++ 46 ∷ i) (capital-prefix m (46 ∷ i) capital) base))

pub one-split : (o i o' i' : List ℕ) → are_parts (o, i) ≡ true → are_parts (o', i') ≡ true → o ++ 46 ∷ i ≡ o' ++ 46 ∷ i' → (o ≡ o') × (i ≡ i')
one-split o i o' i' is is' whole = elim (aligned o i o' i' whole) [
  | same p q ↦ (p, q)
  | first m p q ↦ absurd (apart-parts o m i' (subst (λ x. is_module_name x ≡ true) p (and-left (is_module_name o') (is_base_word i') is')) (subst (λ x. is_base_word x ≡ true) q (and-right (is_module_name o) (is_base_word i) is)))
  | second m p q ↦ absurd (apart-parts o' m i (subst (λ x. is_module_name x ≡ true) p (and-left (is_module_name o) (is_base_word i) is)) (subst (λ x. is_base_word x ≡ true) q (and-right (is_module_name o') (is_base_word i') is')))
]

-- the parts of a word that has some
pub parts-are : (o i : List ℕ) → is_module_name o ≡ true → is_base_word i ≡ true → qualified_parts (o ++ 46 ∷ i) ≡ Some (o, i)
unfolding qualified_parts
parts-are o i outer base = by (find are_parts (around_dots (o ++ 46 ∷ i))) refl
  where
    good : are_parts (o, i) ≡ true
    good = and-both (is_module_name o) (is_base_word i) outer base

    by : (found : Option (List ℕ × List ℕ)) → find are_parts (around_dots (o ++ 46 ∷ i)) ≡ found → found ≡ Some (o, i)
    by None is = absurd (true≢false (sym good ∙ none-split are_parts o i is))
    by (Some (o', i')) is =
        let split = found-split are_parts (o ++ 46 ∷ i) o' i' is in
        let eqs = one-split o' i' o i split.1 good split.0 in
        (λ j. Some (eqs.0 j, eqs.1 j))

pub parts-from : (w o i : List ℕ) → qualified_parts w ≡ Some (o, i) → (o ++ 46 ∷ i ≡ w) × (is_module_name o ≡ true) × (is_base_word i ≡ true)
unfolding qualified_parts
parts-from w o i is =
    let split = found-split are_parts w o i is in
    (split.0, and-left (is_module_name o) (is_base_word i) split.1, and-right (is_module_name o) (is_base_word i) split.1)

-- ---- the chain of a qualified word

-- a module's name is a ConId, or a ConId before a dot
data Outer (o : List ℕ) : Type 0 where
  one : is_con_id o ≡ true → Outer o
  more : (a o' : List ℕ) → o ≡ a ++ 46 ∷ o' → is_con_id a ≡ true → list_all is_con_id (between_dots o') ≡ true → Outer o

-- the text up to the first dot, and after it
data Cut1 (o : List ℕ) : Type 0 where
  whole : between_dots o ≡ o ∷ [] → Cut1 o
  dot : (a o' : List ℕ) → o ≡ a ++ 46 ∷ o' → between_dots o ≡ a ∷ between_dots o' → Cut1 o

cut1 : (o : List ℕ) → Cut1 o
cut1 [] = whole refl
cut1 (c ∷ o) = by (c == 46) refl (cut1 o)
  where
    by : (b : Bool) → (c == 46) ≡ b → Cut1 o → Cut1 (c ∷ o)
    by true is rest = dot [] o (ap (λ x. x ∷ o) (eqb-true c 46 is)) (rw is refl)
    by false is (whole p) = whole (rw (is, p) refl)
    by false is (dot a o' p q) = dot (c ∷ a) o' (ap (λ t. c ∷ t) p) (rw (is, q) refl)

outer : (o : List ℕ) → list_all is_con_id (between_dots o) ≡ true → Outer o
outer o is = by (cut1 o)
  where
    by : Cut1 o → Outer o
    by (whole p) = one (and-left (is_con_id o) true (ap (list_all is_con_id) (sym p) ∙ is))
    by (dot a o' p q) =
        let both = ap (list_all is_con_id) (sym q) ∙ is in
        more a o' p (and-left (is_con_id a) (list_all is_con_id (between_dots o')) both) (and-right (is_con_id a) (list_all is_con_id (between_dots o')) both)

pub record SplitAt (prefix : List Located) (a b : List ℕ) : Type 0 where
  pub before : List Located
  pub after : List Located
  pub whole : before ++ after ≡ prefix
  pub first : characters before ≡ a
  pub second : characters after ≡ b

pub split-at : (prefix : List Located) (a b : List ℕ) → characters prefix ≡ a ++ b → SplitAt prefix a b
split-at prefix [] b is = record { before = []; after = prefix; whole = refl; first = refl; second = is }
split-at [] (x ∷ a) b is = cc
split-at (c ∷ prefix) (x ∷ a) b is =
    let heads : c.char ≡ x = cc in
    let tails : characters prefix ≡ a ++ b = cc in
    let more = split-at prefix a b tails in
    record { before = c ∷ more.before; after = more.after; whole = ap (λ t. c ∷ t) more.whole; first = (λ j. heads j ∷ more.first j); second = more.second }

-- a ConId and a dot, before a chain
pub link-at : (prefix rest : List Located) (a w : List ℕ) → characters prefix ≡ a ++ 46 ∷ w → is_con_id a ≡ true
    → ((f : List Located) → characters f ≡ w → Reaches rest (f ++ rest)) → Reaches rest (prefix ++ rest)
link-at prefix rest a w is con reaches =
    let s = split-at prefix a (46 ∷ w) is in
    by s.before s.after s.whole s.first s.second
  where
    by : (before after : List Located) → before ++ after ≡ prefix → characters before ≡ a → characters after ≡ 46 ∷ w → Reaches rest (prefix ++ rest)
    by before [] at head tail = cc
    by before (d ∷ after) at head tail =
        let dotted : d.char ≡ 46 = cc in
        let tails : characters after ≡ w = cc in
        let con' : is_con_id (characters before) ≡ true = ap is_con_id head ∙ con in
        link (d ∷ after ++ rest) (record {
          prefix = before;
          whole = sym (append_assoc before (d ∷ after) rest) ∙ ap (λ t. t ++ rest) at;
          is = con';
          all = con-all (characters before) con';
          some = first-name (characters before) (con-capital (characters before) con');
          ended = ap is_name_character dotted ∙ dot-no-name;
        }) (ap Some dotted) (reaches after tails)
      where
        first-name : (word : List ℕ) → begins_with is_ascii_uppercase word ≡ true → begins_with is_name_character word ≡ true
        first-name [] is = is
        first-name (c ∷ word) is = capital-name c is

-- a qualified word is a chain
pub chain-at : (n : ℕ) (o i : List ℕ) (prefix rest : List Located) → length o ≤ n → list_all is_con_id (between_dots o) ≡ true → characters prefix ≡ o ++ 46 ∷ i
    → ((f : List Located) → characters f ≡ i → Reaches rest (f ++ rest)) → Reaches rest (prefix ++ rest)
chain-at zero o i prefix rest fits is at reaches = by (outer o is)
  where
    by : Outer o → Reaches rest (prefix ++ rest)
    by (one con) = link-at prefix rest o i at con reaches
    by (more a o' p con all) = absurd (omega (arith, ap length p, length-append a (46 ∷ o')))
chain-at (suc n) o i prefix rest fits is at reaches = by (outer o is) (λ o' small all f h. chain-at n o' i f rest small all h reaches)
  where
    by : Outer o → ((o' : List ℕ) → length o' ≤ n → list_all is_con_id (between_dots o') ≡ true → (f : List Located) → characters f ≡ o' ++ 46 ∷ i → Reaches rest (f ++ rest))
        → Reaches rest (prefix ++ rest)
    by (one con) next = link-at prefix rest o i at con reaches
    by (more a o' p con all) next =
        link-at prefix rest a (o' ++ 46 ∷ i) (at ∙ ap (λ t. t ++ 46 ∷ i) p ∙ append_assoc a (46 ∷ o') (46 ∷ i)) con (λ f h. next o' (omega (arith, ap length p, length-append a (46 ∷ o'))) all f h)
