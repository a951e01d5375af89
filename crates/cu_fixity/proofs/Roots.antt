-- The operator at the top of a tree whose operands fit is found by its level and place.
use Rattle.std.specs.Prelude.{◌≡◌, ℕ, suc, ◌+◌, Bool, true, false, ◌&&◌, List, [], ◌∷◌, ◌++◌, Option, None, Some, if◌then◌else◌, length, refl}
use Rattle.std.proofs.Common.{ap, arith, ◌∙◌, inl}
use Rattle.std.proofs.lemmas.Bool.{and_parts, ltb-true}
use Rattle.cu_fixity.specs.declared.fixity.Fixity.{Fixity}
use Rattle.cu_syntax.specs.declared.items.Side.TheVariants.{Left, Right}
use Rattle.cu_fixity.specs.Grouping.{Applied, Between, Infix, Item, Leaf, Operand, Prefix, Tree, fits_after, fits_left, fits_right, flatten, is_grouped, top}
use Rattle.cu_fixity.specs.Ranges.{Candidate, better, is_above, root}
use Rattle.cu_fixity.proofs.Levels.{Near, Over, above, near_over, near_self, not_above, over_near, over_of}

-- All operators among items are so.
abbrev pub AllOperators : {A O : Type 0} → (O → Type 0) → List (Item A O) → Type 0
AllOperators P [] = Unit {0}
AllOperators P (Operand a ∷ items) = AllOperators P items
AllOperators P (Prefix o ∷ items) = P o × AllOperators P items
AllOperators P (Infix o ∷ items) = P o × AllOperators P items

all_append : {A O : Type 0} (P : O → Type 0) (xs ys : List (Item A O)) → AllOperators P xs → AllOperators P ys → AllOperators P (xs ++ ys)
all_append P [] ys h k = k
all_append P (Operand a ∷ xs) ys h k = all_append P xs ys h k
all_append P (Prefix o ∷ xs) ys h k = (h.0, all_append P xs ys h.1 k)
all_append P (Infix o ∷ xs) ys h k = (h.0, all_append P xs ys h.1 k)

all_map : {A O : Type 0} (P Q : O → Type 0) (f : (o : O) → P o → Q o) (xs : List (Item A O)) → AllOperators P xs → AllOperators Q xs
all_map P Q f [] h = h
all_map P Q f (Operand a ∷ xs) h = all_map P Q f xs h
all_map P Q f (Prefix o ∷ xs) h = (f o h.0, all_map P Q f xs h.1)
all_map P Q f (Infix o ∷ xs) h = (f o h.0, all_map P Q f xs h.1)

-- below the operator at the top
abbrev NearTop : {O : Type 0} → (O → Fixity) → Option O → O → Type 0
NearTop fixity None o = ⊥
NearTop fixity (Some p) o = Near (fixity p) (fixity o)

left_of : {O : Type 0} (fixity : O → Fixity) (o : O) (p : Option O) → fits_left fixity o p ≡ true → (q : O) → NearTop fixity p q → Over Left (fixity o) (fixity q)
left_of fixity o None e q h = absurd h
left_of fixity o (Some p) e q h = over_near Left (fixity o) (fixity p) (fixity q) (over_of Left (fixity o) (fixity p) e) h

right_of : {O : Type 0} (fixity : O → Fixity) (o : O) (p : Option O) → fits_right fixity o p ≡ true → (q : O) → NearTop fixity p q → Over Right (fixity o) (fixity q)
right_of fixity o None e q h = absurd h
right_of fixity o (Some p) e q h = over_near Right (fixity o) (fixity p) (fixity q) (over_of Right (fixity o) (fixity p) e) h

after_of : {O : Type 0} (fixity : O → Fixity) (o : O) (p : Option O) → fits_after fixity o p ≡ true → (q : O) → NearTop fixity p q → Over Right (fixity o) (fixity q)
after_of fixity o None e q h = absurd h
after_of fixity o (Some p) e q h = over_near Right (fixity o) (fixity p) (fixity q) (inl (ltb-true (fixity o).level (fixity p).level e)) h

-- what a tree whose operands fit has in its parts
pub record Fitting {A O : Type 0} (fixity : O → Fixity) (l : Tree A O) (o : O) (r : Tree A O) : Type 0 where
  pub left : fits_left fixity o (top l) ≡ true
  pub right : fits_right fixity o (top r) ≡ true
  pub on_left : is_grouped fixity l ≡ true
  pub on_right : is_grouped fixity r ≡ true

pub fitting : {A O : Type 0} (fixity : O → Fixity) (l : Tree A O) (o : O) (r : Tree A O) → is_grouped fixity (Between l o r) ≡ true → Fitting fixity l o r
fitting fixity l o r e =
    let p = and_parts (fits_left fixity o (top l) && fits_right fixity o (top r)) (is_grouped fixity l && is_grouped fixity r) e in
    let q = and_parts (fits_left fixity o (top l)) (fits_right fixity o (top r)) p.0 in
    let s = and_parts (is_grouped fixity l) (is_grouped fixity r) p.1 in
    record { left = q.0; right = q.1; on_left = s.0; on_right = s.1 }

all_near : {A O : Type 0} (fixity : O → Fixity) (t : Tree A O) → is_grouped fixity t ≡ true → AllOperators (NearTop fixity (top t)) (flatten t)
all_near fixity (Leaf a) e = tt
all_near fixity (Applied o t) e =
    let p = and_parts (fits_after fixity o (top t)) (is_grouped fixity t) e in (
      near_self (fixity o),
      all_map (NearTop fixity (top t)) (λ q. Near (fixity o) (fixity q))
          (λ q h. near_over Right (fixity o) (fixity q) (after_of fixity o (top t) p.0 q h)) (flatten t) (all_near fixity t p.1),
    )
all_near fixity (Between l o r) e =
    let f = fitting fixity l o r e in
    all_append (λ q. Near (fixity o) (fixity q)) (flatten l) (Infix o ∷ flatten r)
    (all_map (NearTop fixity (top l)) (λ q. Near (fixity o) (fixity q))
    (λ q h. near_over Left (fixity o) (fixity q) (left_of fixity o (top l) f.left q h)) (flatten l) (all_near fixity l f.on_left)) (
      near_self (fixity o),
      all_map (NearTop fixity (top r)) (λ q. Near (fixity o) (fixity q))
          (λ q h. near_over Right (fixity o) (fixity q) (right_of fixity o (top r) f.right q h)) (flatten r) (all_near fixity r f.on_right),
    )

pub root_append : {A O : Type 0} (fixity : O → Fixity) (n : ℕ) (before : Option (Candidate O)) (xs ys : List (Item A O))
    → root fixity n before (xs ++ ys) ≡ root fixity (n + length xs) (root fixity n before xs) ys
root_append fixity n before [] ys = let e : n ≡ n + 0 = omega arith in ap (λ m. root fixity m before ys) e
root_append fixity n before (Operand a ∷ xs) ys =
    let e : (n + 1) + length xs ≡ n + suc (length xs) = omega arith in
    root_append fixity (n + 1) before xs ys ∙ ap (λ m. root fixity m (root fixity (n + 1) before xs) ys) e
root_append fixity n before (Prefix o ∷ xs) ys =
    let next = Some (better fixity before (record { at = n; operator = o })) in
    let e : (n + 1) + length xs ≡ n + suc (length xs) = omega arith in
    root_append fixity (n + 1) next xs ys ∙ ap (λ m. root fixity m (root fixity (n + 1) next xs) ys) e
root_append fixity n before (Infix o ∷ xs) ys =
    let next = Some (better fixity before (record { at = n; operator = o })) in
    let e : (n + 1) + length xs ≡ n + suc (length xs) = omega arith in
    root_append fixity (n + 1) next xs ys ∙ ap (λ m. root fixity m (root fixity (n + 1) next xs) ys) e

-- an operator stays above those that stand below it on its right
keeps_one : {O : Type 0} (fixity : O → Fixity) (c d : Candidate O) → Over Right (fixity c.operator) (fixity d.operator) → better fixity (Some c) d ≡ c
keeps_one fixity c d h = rw (not_above (fixity c.operator) (fixity d.operator) h) refl

keeps : {A O : Type 0} (fixity : O → Fixity) (n : ℕ) (c : Candidate O) (items : List (Item A O))
    → AllOperators (λ q. Over Right (fixity c.operator) (fixity q)) items → root fixity n (Some c) items ≡ Some c
keeps fixity n c [] h = refl
keeps fixity n c (Operand a ∷ items) h = keeps fixity (n + 1) c items h
keeps fixity n c (Prefix o ∷ items) h =
    ap (λ d. root fixity (n + 1) (Some d) items) (keeps_one fixity c (record { at = n; operator = o }) h.0) ∙ keeps fixity (n + 1) c items h.1
keeps fixity n c (Infix o ∷ items) h =
    ap (λ d. root fixity (n + 1) (Some d) items) (keeps_one fixity c (record { at = n; operator = o }) h.0) ∙ keeps fixity (n + 1) c items h.1

-- what came before, if there is something, may stand below an operator on its left
abbrev Beaten : {O : Type 0} → (O → Fixity) → O → Option (Candidate O) → Type 0
Beaten fixity o None = Unit {0}
Beaten fixity o (Some c) = Over Left (fixity o) (fixity c.operator)

beaten_better : {O : Type 0} (fixity : O → Fixity) (o : O) (before : Option (Candidate O)) (d : Candidate O)
    → Beaten fixity o before → Over Left (fixity o) (fixity d.operator) → Beaten fixity o (Some (better fixity before d))
beaten_better fixity o None d h k = k
beaten_better fixity o (Some c) d h k = by_test (is_above (fixity d.operator) (fixity c.operator))
  where
    by_test : (b : Bool) → Beaten fixity o (Some (if b then d else c))
    by_test true = k
    by_test false = h

beaten : {A O : Type 0} (fixity : O → Fixity) (o : O) (n : ℕ) (before : Option (Candidate O)) (items : List (Item A O))
    → Beaten fixity o before → AllOperators (λ q. Over Left (fixity o) (fixity q)) items → Beaten fixity o (root fixity n before items)
beaten fixity o n before [] h k = h
beaten fixity o n before (Operand a ∷ items) h k = beaten fixity o (n + 1) before items h k
beaten fixity o n before (Prefix p ∷ items) h k =
    let d : Candidate _ = record { at = n; operator = p } in beaten fixity o (n + 1) (Some (better fixity before d)) items (beaten_better fixity o before d h k.0) k.1
beaten fixity o n before (Infix p ∷ items) h k =
    let d : Candidate _ = record { at = n; operator = p } in beaten fixity o (n + 1) (Some (better fixity before d)) items (beaten_better fixity o before d h k.0) k.1

beats : {O : Type 0} (fixity : O → Fixity) (before : Option (Candidate O)) (d : Candidate O) → Beaten fixity d.operator before → better fixity before d ≡ d
beats fixity None d h = refl
beats fixity (Some c) d h = rw (above (fixity d.operator) (fixity c.operator) h) refl

-- the operator at the top of a tree, with its place among the items, of which the first has the place n
abbrev pub top_at : {A O : Type 0} → ℕ → Tree A O → Option (Candidate O)
top_at n (Leaf a) = None
top_at n (Applied o t) = Some (record { at = n; operator = o })
top_at n (Between l o r) = Some (record { at = n + length (flatten l); operator = o })

pub root_found : {A O : Type 0} (fixity : O → Fixity) (t : Tree A O) (n : ℕ) → is_grouped fixity t ≡ true → root fixity n None (flatten t) ≡ top_at n t
root_found fixity (Leaf a) n e = refl
root_found fixity (Applied o t) n e =
    let p = and_parts (fits_after fixity o (top t)) (is_grouped fixity t) e in
    keeps fixity (n + 1) (record { at = n; operator = o }) (flatten t)
    (all_map (NearTop fixity (top t)) (λ q. Over Right (fixity o) (fixity q)) (after_of fixity o (top t) p.0) (flatten t) (all_near fixity t p.1))
root_found fixity (Between l o r) n e =
    let f = fitting fixity l o r e in
    let here : Candidate _ = record { at = n + length (flatten l); operator = o } in
    let before = root fixity n None (flatten l) in
    let lower : Beaten fixity o before =
    beaten fixity o n None (flatten l) tt
    (all_map (NearTop fixity (top l)) (λ q. Over Left (fixity o) (fixity q)) (left_of fixity o (top l) f.left) (flatten l) (all_near fixity l f.on_left)) in
    root_append fixity n None (flatten l) (Infix o ∷ flatten r)
    ∙ ap (λ d. root fixity ((n + length (flatten l)) + 1) (Some d) (flatten r)) (beats fixity before here lower)
    ∙ keeps fixity ((n + length (flatten l)) + 1) here (flatten r)
    (all_map (NearTop fixity (top r)) (λ q. Over Right (fixity o) (fixity q)) (right_of fixity o (top r) f.right) (flatten r) (all_near fixity r f.on_right))
