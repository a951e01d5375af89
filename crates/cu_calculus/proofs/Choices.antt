-- The alternative that is taken on values is taken on greater ones.
use Rattle.std.proofs.Common.{◌≡◌, ℕ, zero, suc, ◌+◌, Bool, true, false, List, [], ◌∷◌, ◌++◌, if◌then◌else◌, length, take, drop, Option, None, Some, ◌||◌, filter, map, slice_get, refl, ap, subst}
use Rattle.cu_calculus.specs.declared.ConId.{ConId}
use Rattle.cu_calculus.specs.declared.Lit.{Lit}
use Rattle.cu_calculus.specs.Below as below
use Rattle.cu_calculus.specs.Below.{AllBelow, Below}
use Rattle.cu_calculus.specs.Choose as choose
use Rattle.cu_calculus.specs.Choose.{AConstructor, ALiteral, Again, Chooses, Demand, Look, Specialize, Nothing, Nowhere, Row, Take, at_constructor, at_literal, demand_at, has_variable, leftmost, look, look_at, look_from, specialized_look, specialized_row, not_literal, same_type, spliced, demands_constructor, demands_literal, demands_nothing}
use Rattle.cu_calculus.specs.Literal.{same_literal}
use Rattle.cu_calculus.specs.Program.{Program}
use Rattle.cu_calculus.specs.Value as value
use Rattle.cu_calculus.specs.Value.{Value, Values, list_of, values_of}
use Rattle.cu_calculus.proofs.Weaken.{below_more, below_none}

-- a list of values below another, in pairs
abbrev pub ListBelow : List Value → List Value → Type 0
ListBelow [] [] = Unit {0}
ListBelow (u ∷ us) (v ∷ vs) = Below u v × ListBelow us vs
ListBelow _ _ = ⊥

pub list_below : (us vs : Values) → AllBelow us vs → ListBelow (list_of us) (list_of vs)
list_below _ _ below.none = tt
list_below _ _ (below.more u v us vs p ps) = (p, list_below us vs ps)

pub as_list : (us vs : List Value) → AllBelow (values_of us) (values_of vs) → ListBelow us vs
as_list [] [] h = tt
as_list [] (v ∷ vs) h = none_below (values_of []) (values_of (v ∷ vs)) h refl refl
  where
    none_below : (ws xs : Values) → AllBelow ws xs → ws ≡ value.NoValue → xs ≡ value.MoreValues v (values_of vs) → ⊥
    none_below _ _ below.none e f = cc
    none_below _ _ (below.more w x ws xs p ps) e f = cc
as_list (u ∷ us) [] h = let no : value.MoreValues u (values_of us) ≡ value.NoValue = below_none (values_of (u ∷ us)) (values_of []) h refl in
    let impossible : ⊥ = cc in absurd impossible
as_list (u ∷ us) (v ∷ vs) h =
    let low = below_more (values_of (u ∷ us)) (values_of (v ∷ vs)) h v (values_of vs) refl in
    let is : value.MoreValues u (values_of us) ≡ value.MoreValues low.first low.others = low.is in
    let first : low.first ≡ u = cc in
    let others : low.others ≡ values_of us = cc in (
      subst (λ (x : Value). Below x v) first low.below_first,
      as_list us vs (subst (λ (x : Values). AllBelow x (values_of vs)) others low.below_others),
    )

pub lists_append : (us vs more greater : List Value) → ListBelow us vs → ListBelow more greater → ListBelow (us ++ more) (vs ++ greater)
lists_append [] [] more greater h k = k
lists_append [] (v ∷ vs) more greater h k = absurd h
lists_append (u ∷ us) [] more greater h k = absurd h
lists_append (u ∷ us) (v ∷ vs) more greater h k = (h.0, lists_append us vs more greater h.1 k)

pub lists_take : (n : ℕ) (us vs : List Value) → ListBelow us vs → ListBelow (take n us) (take n vs)
lists_take zero us vs h = tt
lists_take (suc n) [] [] h = tt
lists_take (suc n) [] (v ∷ vs) h = absurd h
lists_take (suc n) (u ∷ us) [] h = absurd h
lists_take (suc n) (u ∷ us) (v ∷ vs) h = (h.0, lists_take n us vs h.1)

pub lists_drop : (n : ℕ) (us vs : List Value) → ListBelow us vs → ListBelow (drop n us) (drop n vs)
lists_drop zero us vs h = h
lists_drop (suc n) [] [] h = tt
lists_drop (suc n) [] (v ∷ vs) h = absurd h
lists_drop (suc n) (u ∷ us) [] h = absurd h
lists_drop (suc n) (u ∷ us) (v ∷ vs) h = lists_drop n us vs h.1

pub lists_length : (us vs : List Value) → ListBelow us vs → length us ≡ length vs
lists_length [] [] h = refl
lists_length [] (v ∷ vs) h = absurd h
lists_length (u ∷ us) [] h = absurd h
lists_length (u ∷ us) (v ∷ vs) h = ap suc (lists_length us vs h.1)

pub lists_splice : (position : ℕ) (arguments greater us vs : List Value) → ListBelow arguments greater → ListBelow us vs
    → ListBelow (spliced position arguments us) (spliced position greater vs)
lists_splice position arguments greater us vs h k =
    lists_append (take position us ++ arguments) (take position vs ++ greater) (drop (position + 1) us) (drop (position + 1) vs)
    (lists_append (take position us) (take position vs) arguments greater (lists_take position us vs k) h) (lists_drop (position + 1) us vs k)

-- a look at values that finds what one at lower values does, where that finds something
data LookBelow : Look → Look → Type 0 where
  nowhere : (found : Look) → LookBelow Nowhere found
  takes : (choice : ℕ) → LookBelow (Take choice) (Take choice)
  again : (rows : List Row) → LookBelow (Again rows) (Again rows)
  specialized_rows : (rows : List Row) (us vs : List Value) → ListBelow us vs → LookBelow (Specialize rows us) (Specialize rows vs)

specialize_rises : (position : ℕ) (test : Demand → Bool) (rows : List Row) (arguments greater us vs : List Value) → ListBelow arguments greater
    → ListBelow us vs → LookBelow (specialized_look position test rows arguments us) (specialized_look position test rows greater vs)
specialize_rises position test rows arguments greater us vs h k =
    let same : length arguments ≡ length greater = lists_length arguments greater h in
    let parts = spliced position arguments us in
    subst (λ (n : ℕ). LookBelow (specialized_look position test rows arguments us)
    (Specialize (map (specialized_row position n) (filter (λ row. test (demand_at position row)) rows)) (spliced position greater vs))) same
    (specialized_rows (map (specialized_row position (length arguments)) (filter (λ row. test (demand_at position row)) rows)) parts (spliced position greater vs)
    (lists_splice position arguments greater us vs h k))

look_if : (b : Bool) (one two three four : Look) → LookBelow one three → LookBelow two four → LookBelow (if b then one else two) (if b then three else four)
look_if true one two three four h k = h
look_if false one two three four h k = k

literal_rises : (position : ℕ) (l : Lit) (first : Demand) (b : Bool) (rows : List Row) (us vs : List Value) → ListBelow us vs
    → LookBelow (at_literal position l first b rows us) (at_literal position l first b rows vs)
literal_rises position l first false rows us vs h = specialize_rises position (demands_literal l) rows [] [] us vs tt h
literal_rises position l Nothing true rows us vs h = nowhere Nowhere
literal_rises position l (AConstructor c) true rows us vs h = nowhere Nowhere
literal_rises position l (ALiteral m) true rows us vs h =
    let fewer = filter (λ row. not_literal m (demand_at position row)) rows in
    let test = λ (d : Demand). demands_nothing d || demands_literal l d in
    look_if (same_literal l m) (specialized_look position test rows [] us) (Again fewer) (specialized_look position test rows [] vs) (Again fewer)
    (specialize_rises position test rows [] [] us vs tt h) (again fewer)

constructor_rises : (program : Program) (position : ℕ) (c : ConId) (first : Demand) (b : Bool) (rows : List Row) (arguments greater us vs : List Value)
    → ListBelow arguments greater → ListBelow us vs
    → LookBelow (at_constructor program position c first b rows arguments us) (at_constructor program position c first b rows greater vs)
constructor_rises program position c first false rows arguments greater us vs h k =
    specialize_rises position (demands_constructor c) rows arguments greater us vs h k
constructor_rises program position c Nothing true rows arguments greater us vs h k = nowhere Nowhere
constructor_rises program position c (ALiteral m) true rows arguments greater us vs h k =
    again (filter (λ row. not_literal m (demand_at position row)) rows)
constructor_rises program position c (AConstructor d) true rows arguments greater us vs h k =
    let test = λ (e : Demand). demands_nothing e || demands_constructor c e in
    look_if (same_type program c d) (specialized_look position test rows arguments us) Nowhere (specialized_look position test rows greater vs) Nowhere
    (specialize_rises position test rows arguments greater us vs h k) (nowhere Nowhere)

at_rises : (program : Program) (position : ℕ) (first : Row) (rows : List Row) (us vs : List Value) (u v : Value) → Below u v → ListBelow us vs
    → LookBelow (look_at program position first rows us (Some u)) (look_at program position first rows vs (Some v))
at_rises program position first rows us vs _ v (below.bottom _) h = nowhere (look_at program position first rows vs (Some v))
at_rises program position first rows us vs _ _ (below.variable x) h = nowhere Nowhere
at_rises program position first rows us vs _ _ (below.literal l) h =
    literal_rises position l (demand_at position first) (has_variable position rows) rows us vs h
at_rises program position first rows us vs _ _ (below.constructed c ws xs p) h =
    constructor_rises program position c (demand_at position first) (has_variable position rows) rows (list_of ws) (list_of xs) us vs
    (list_below ws xs p) h
at_rises program position first rows us vs _ _ (below.partial k ws xs p) h = nowhere Nowhere

place_rises : (program : Program) (position : ℕ) (first : Row) (rows : List Row) (us vs some more : List Value) (k : ℕ) → ListBelow us vs
    → ListBelow some more
    → LookBelow (look_at program position first rows us (slice_get some k)) (look_at program position first rows vs (slice_get more k))
place_rises program position first rows us vs [] [] k h p = nowhere Nowhere
place_rises program position first rows us vs [] (x ∷ more) k h p = absurd p
place_rises program position first rows us vs (w ∷ some) [] k h p = absurd p
place_rises program position first rows us vs (w ∷ some) (x ∷ more) zero h p = at_rises program position first rows us vs w x p.0 h
place_rises program position first rows us vs (w ∷ some) (x ∷ more) (suc k) h p = place_rises program position first rows us vs some more k h p.1

from_rises : (program : Program) (first : Row) (rows : List Row) (us vs : List Value) (position : Option ℕ) → ListBelow us vs
    → LookBelow (look_from program first rows us position) (look_from program first rows vs position)
from_rises program first rows us vs None h = takes first.choice
from_rises program first rows us vs (Some position) h = place_rises program position first rows us vs us vs position h h

look_rises : (program : Program) (rows : List Row) (us vs : List Value) → ListBelow us vs → LookBelow (look program rows us) (look program rows vs)
look_rises program [] us vs h = nowhere Nowhere
look_rises program (first ∷ rows) us vs h = from_rises program first (first ∷ rows) us vs (leftmost first.patterns) h

still_takes : (one two : Look) → LookBelow one two → (choice : ℕ) → one ≡ Take choice → two ≡ Take choice
still_takes _ _ (nowhere found) choice e = let no : ⊥ = cc in absurd no
still_takes _ _ (takes choice) k e = e
still_takes _ _ (again rows) choice e = e
still_takes _ _ (specialized_rows rows us vs p) choice e = let no : ⊥ = cc in absurd no

still_again : (one two : Look) → LookBelow one two → (rows : List Row) → one ≡ Again rows → two ≡ Again rows
still_again _ _ (nowhere found) rows e = let no : ⊥ = cc in absurd no
still_again _ _ (takes choice) rows e = e
still_again _ _ (again fewer) rows e = e
still_again _ _ (specialized_rows fewer us vs p) rows e = let no : ⊥ = cc in absurd no

still_specialized : (one two : Look) → LookBelow one two → (rows : List Row) (us : List Value) → one ≡ Specialize rows us
    → (vs : List Value) × (two ≡ Specialize rows vs) × ListBelow us vs
still_specialized _ _ (nowhere found) rows us e = let no : ⊥ = cc in absurd no
still_specialized _ _ (takes choice) rows us e = let no : ⊥ = cc in absurd no
still_specialized _ _ (again fewer) rows us e = let no : ⊥ = cc in absurd no
still_specialized _ _ (specialized_rows fewer ws vs p) rows us e =
    let same : fewer ≡ rows = cc in
    let parts : ws ≡ us = cc in
    (vs, ap (λ r. Specialize r vs) same, subst (λ (x : List Value). ListBelow x vs) parts p)

choice_rises : (program : Program) (rows : List Row) (us vs : List Value) (choice : ℕ) → Chooses program rows us choice → ListBelow us vs
    → Chooses program rows vs choice
choice_rises program rows us vs choice (choose.taken _ _ _ e) h =
    choose.taken rows vs choice (still_takes (look program rows us) (look program rows vs) (look_rises program rows us vs h) choice e)
choice_rises program rows us vs choice (choose.again _ fewer _ _ e rest) h =
    choose.again rows fewer vs choice (still_again (look program rows us) (look program rows vs) (look_rises program rows us vs h) fewer e)
    (choice_rises program fewer us vs choice rest h)
choice_rises program rows us vs choice (choose.specialized_rows _ fewer _ parts _ e rest) h =
    let found = still_specialized (look program rows us) (look program rows vs) (look_rises program rows us vs h) fewer parts e in
    choose.specialized_rows rows fewer vs found.0 choice found.1 (choice_rises program fewer parts found.0 choice rest found.2)

pub chooses_rises : (program : Program) (rows : List Row) (us vs : List Value) (choice : ℕ) → AllBelow (values_of us) (values_of vs)
    → Chooses program rows us choice → Chooses program rows vs choice
chooses_rises program rows us vs choice h chosen = choice_rises program rows us vs choice chosen (as_list us vs h)

pub chooses_one_rises : (program : Program) (rows : List Row) (u v : Value) (choice : ℕ) → Below u v → Chooses program rows (u ∷ []) choice
    → Chooses program rows (v ∷ []) choice
chooses_one_rises program rows u v choice h chosen = choice_rises program rows (u ∷ []) (v ∷ []) choice chosen (h, tt)
