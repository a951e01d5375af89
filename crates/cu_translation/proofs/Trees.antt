-- All trees of a list of items are listed, so the grouped one is found.
use Rattle.std.specs.Prelude.{◌≡◌, Option, None, ◌⊎◌, ◌↔◌, Bool, true, false, List, [], ◌∷◌, ◌++◌, Some, find, map, refl}
use Rattle.std.proofs.Common.{ap, sym, ◌∙◌, append_assoc, subst, inl, inr}
use Rattle.cu_fixity.specs.declared.fixity.Fixity.{Fixity}
use Rattle.cu_fixity.specs.Grouping.{Applied, Between, Grouped, HasNoTree, Infix, Item, Leaf, Operand, Prefix, Tree, flatten, is_grouped}
use Rattle.cu_fixity.proofs.OneTree.{one_tree}
use Rattle.cu_translation.proofs.Members.{Among, among_cons, from_flat_map, from_map, here, in_flat_map, in_map, none_among, there}
use Rattle.cu_translation.specs.GroupedTree.{grouped_tree, on_left_spine, trees}

-- what passes a test is found, or another one that does
record Found {X : Type 0} (test : X → Bool) (xs : List X) : Type 0 where
  x : X
  found : find test xs ≡ Some x
  passes : test x ≡ true
  among : Among x xs

found_first : {X : Type 0} (test : X → Bool) (y : X) (ys : List X) (b : Bool) → test y ≡ b → (b ≡ false → Found test ys) → Found test (y ∷ ys)
found_first test y ys true e rest = record { x = y; found = rw e refl; passes = e; among = here ys }
found_first test y ys false e rest =
    let r = rest refl in record { x = r.x; found = rw e r.found; passes = r.passes; among = there y ys r.among }

found : {X : Type 0} (test : X → Bool) (x : X) (xs : List X) → Among x xs → test x ≡ true → Found test xs
found test x _ (here xs) e = record { x = x; found = rw e refl; passes = e; among = here xs }
found test x _ (there y xs a) e = found_first test y xs (test y) refl (λ no. found test x xs a e)

-- what is found passes, and is a member
finds_first : {X : Type 0} (test : X → Bool) (x y : X) (ys : List X) (b : Bool) → test y ≡ b → find test (y ∷ ys) ≡ Some x
    → (find test ys ≡ Some x → (test x ≡ true) × Among x ys) → (test x ≡ true) × Among x (y ∷ ys)
finds_first test x y ys true e f rest =
    let f' : Some y ≡ Some x = rw e at f in
    let same : y ≡ x = cc in
    (subst (λ z. test z ≡ true) same e, subst (λ z. Among z (y ∷ ys)) same (here ys))
finds_first test x y ys false e f rest =
    let f' : find test ys ≡ Some x = rw e at f in let r = rest f' in (r.0, there y ys r.1)

finds : {X : Type 0} (test : X → Bool) (x : X) (xs : List X) → find test xs ≡ Some x → (test x ≡ true) × Among x xs
finds test x [] e = let no : ⊥ = cc in absurd no
finds test x (y ∷ ys) e = finds_first test x y ys (test y) refl e (finds test x ys)

-- ---- each tree is listed

first_is : {A O : Type 0} (taking : Tree A O → Tree A O) (t : Tree A O) → Among (taking t) (on_left_spine taking t)
first_is taking (Leaf a) = here []
first_is taking (Applied o t) = here []
first_is taking (Between l o r) = here (map (λ left. Between left o r) (on_left_spine taking l))

inside_is : {A O : Type 0} (taking : Tree A O → Tree A O) (l : Tree A O) (o : O) (r u : Tree A O)
    → Among u (on_left_spine taking l) → Among (Between u o r) (on_left_spine taking (Between l o r))
inside_is taking l o r u a =
    there (taking (Between l o r)) (map (λ left. Between left o r) (on_left_spine taking l))
    (in_map (λ left. Between left o r) u (on_left_spine taking l) a)

-- a list that begins alike, where its prefix isn't empty
record Begins {X : Type 0} (xs ys : List X) (y : X) (rest : List X) : Type 0 where
  others : List X
  prefix : xs ≡ y ∷ others
  suffix : rest ≡ others ++ ys

begins : {X : Type 0} (xs ys : List X) (y : X) (rest : List X) → xs ++ ys ≡ y ∷ rest → (xs ≡ []) ⊎ Begins xs ys y rest
begins [] ys y rest e = inl refl
begins (x ∷ xs) ys y rest e =
    let same : x ≡ y = cc in
    let others : xs ++ ys ≡ rest = cc in
    inr (record { others = xs; prefix = ap (λ z. z ∷ xs) same; suffix = sym others })

not_empty : {X : Type 0} (xs : List X) (y : X) (ys : List X) → ¬ (xs ++ y ∷ ys ≡ [])
not_empty [] y ys e = cc
not_empty (x ∷ xs) y ys e = cc

never_empty : {A O : Type 0} (t : Tree A O) → ¬ (flatten t ≡ [])
never_empty (Leaf a) e = cc
never_empty (Applied o t) e = cc
never_empty (Between l o r) e = not_empty (flatten l) (Infix o) (flatten r) e

-- the tree after a prefix operator that comes first
record AfterPrefix {A O : Type 0} (o : O) (rest : List (Item A O)) (t : Tree A O) : Type 0 where
  tree : Tree A O
  flattens : flatten tree ≡ rest
  among : Among t (on_left_spine (Applied o) tree)

after_prefix_left : {A O : Type 0} (o p : O) (rest : List (Item A O)) (l r : Tree A O)
    → (flatten l ≡ []) ⊎ Begins (flatten l) (Infix p ∷ flatten r) (Prefix o) rest
    → ((others : List (Item A O)) → flatten l ≡ Prefix o ∷ others → AfterPrefix o others l)
    → AfterPrefix o rest (Between l p r)
after_prefix_left o p rest l r (inl e) go = absurd (never_empty l e)
after_prefix_left o p rest l r (inr b) go =
    let left = go b.others b.prefix in
    record {
      tree = Between left.tree p r;
      flattens = ap (λ xs. xs ++ Infix p ∷ flatten r) left.flattens ∙ sym b.suffix;
      among = inside_is (Applied o) left.tree p r l left.among;
    }

after_prefix : {A O : Type 0} (o : O) (rest : List (Item A O)) (t : Tree A O) → flatten t ≡ Prefix o ∷ rest → AfterPrefix o rest t
after_prefix o rest (Leaf a) e = let no : ⊥ = cc in absurd no
after_prefix o rest (Applied p t) e =
    let same : p ≡ o = cc in
    let others : flatten t ≡ rest = cc in
    record { tree = t; flattens = others; among = subst (λ q. Among (Applied q t) (on_left_spine (Applied o) t)) (sym same) (first_is (Applied o) t) }
after_prefix o rest (Between l p r) e =
    after_prefix_left o p rest l r (begins (flatten l) (Infix p ∷ flatten r) (Prefix o) rest e) (λ others f. after_prefix o others l f)

-- the tree after an operand that comes first, and an operator
record AfterOperand {A O : Type 0} (a : A) (rest : List (Item A O)) (t : Tree A O) : Type 0 where
  operator : O
  others : List (Item A O)
  is : rest ≡ Infix operator ∷ others
  tree : Tree A O
  flattens : flatten tree ≡ others
  among : Among t (on_left_spine (Between (Leaf a) operator) tree)

abbrev AloneOrAfter : {A O : Type 0} → A → List (Item A O) → Tree A O → Type 0
AloneOrAfter a rest t = ((rest ≡ []) × (t ≡ Leaf a)) ⊎ AfterOperand a rest t

after_operand_within : {A O : Type 0} (a : A) (p : O) (rest others : List (Item A O)) (l r : Tree A O)
    → rest ≡ others ++ Infix p ∷ flatten r → AloneOrAfter a others l → AfterOperand a rest (Between l p r)
after_operand_within a p rest others l r e (inl alone) =
    record {
      operator = p;
      others = flatten r;
      is = e ∙ ap (λ xs. xs ++ Infix p ∷ flatten r) alone.0;
      tree = r;
      flattens = refl;
      among = subst (λ u. Among (Between u p r) (on_left_spine (Between (Leaf a) p) r)) (sym alone.1) (first_is (Between (Leaf a) p) r);
    }
after_operand_within a p rest others l r e (inr b) =
    record {
      operator = b.operator;
      others = b.others ++ Infix p ∷ flatten r;
      is = e ∙ ap (λ xs. xs ++ Infix p ∷ flatten r) b.is;
      tree = Between b.tree p r;
      flattens = ap (λ xs. xs ++ Infix p ∷ flatten r) b.flattens;
      among = inside_is (Between (Leaf a) b.operator) b.tree p r l b.among;
    }

after_operand_left : {A O : Type 0} (a : A) (p : O) (rest : List (Item A O)) (l r : Tree A O)
    → (flatten l ≡ []) ⊎ Begins (flatten l) (Infix p ∷ flatten r) (Operand a) rest
    → ((others : List (Item A O)) → flatten l ≡ Operand a ∷ others → AloneOrAfter a others l)
    → AfterOperand a rest (Between l p r)
after_operand_left a p rest l r (inl e) go = absurd (never_empty l e)
after_operand_left a p rest l r (inr b) go = after_operand_within a p rest b.others l r b.suffix (go b.others b.prefix)

after_operand : {A O : Type 0} (a : A) (rest : List (Item A O)) (t : Tree A O) → flatten t ≡ Operand a ∷ rest → AloneOrAfter a rest t
after_operand a rest (Leaf b) e =
    let same : b ≡ a = cc in let none : rest ≡ [] = cc in inl (none, ap Leaf same)
after_operand a rest (Applied p t) e = let no : ⊥ = cc in absurd no
after_operand a rest (Between l p r) e =
    inr (after_operand_left a p rest l r (begins (flatten l) (Infix p ∷ flatten r) (Operand a) rest e) (λ others f. after_operand a others l f))

-- no tree begins with an operator between two
no_infix_left : {A O : Type 0} (o p : O) (rest : List (Item A O)) (l r : Tree A O)
    → (flatten l ≡ []) ⊎ Begins (flatten l) (Infix p ∷ flatten r) (Infix o) rest
    → ((others : List (Item A O)) → ¬ (flatten l ≡ Infix o ∷ others)) → ⊥
no_infix_left o p rest l r (inl e) go = never_empty l e
no_infix_left o p rest l r (inr b) go = go b.others b.prefix

no_infix : {A O : Type 0} (o : O) (rest : List (Item A O)) (t : Tree A O) → ¬ (flatten t ≡ Infix o ∷ rest)
no_infix o rest (Leaf a) e = cc
no_infix o rest (Applied p t) e = cc
no_infix o rest (Between l p r) e =
    no_infix_left o p rest l r (begins (flatten l) (Infix p ∷ flatten r) (Infix o) rest e) (λ others f. no_infix o others l f)

listed_alone : {A O : Type 0} (a : A) (t : Tree A O) → AloneOrAfter a [] t → Among t (trees (Operand a ∷ []))
listed_alone a t (inl alone) = subst (λ u. Among u (Leaf a ∷ [])) (sym alone.1) (here [])
listed_alone a t (inr b) = let e : [] ≡ Infix b.operator ∷ b.others = b.is in let no : ⊥ = cc in absurd no

listed_after : {A O : Type 0} (a : A) (o : O) (items : List (Item A O)) (t : Tree A O)
    → ((u : Tree A O) → flatten u ≡ items → Among u (trees items))
    → AloneOrAfter a (Infix o ∷ items) t → Among t (trees (Operand a ∷ Infix o ∷ items))
listed_after a o items t go (inl alone) = let e = alone.0 in let no : ⊥ = cc in absurd no
listed_after a o items t go (inr b) =
    let e : Infix o ∷ items ≡ Infix b.operator ∷ b.others = b.is in
    let same : b.operator ≡ o = cc in
    let others : b.others ≡ items = cc in
    in_flat_map (on_left_spine (Between (Leaf a) o)) t b.tree (trees items) (go b.tree (b.flattens ∙ others))
    (subst (λ q. Among t (on_left_spine (Between (Leaf a) q) b.tree)) same b.among)

no_operand_next : {A O : Type 0} (a b : A) (items : List (Item A O)) (t : Tree A O) → AloneOrAfter a (Operand b ∷ items) t → ⊥
no_operand_next a b items t (inl alone) = let e = alone.0 in cc
no_operand_next a b items t (inr n) = let e = n.is in cc

no_prefix_next : {A O : Type 0} (a : A) (o : O) (items : List (Item A O)) (t : Tree A O) → AloneOrAfter a (Prefix o ∷ items) t → ⊥
no_prefix_next a o items t (inl alone) = let e = alone.0 in cc
no_prefix_next a o items t (inr n) = let e = n.is in cc

listed : {A O : Type 0} (items : List (Item A O)) (t : Tree A O) → flatten t ≡ items → Among t (trees items)
listed [] t e = absurd (never_empty t e)
listed (Operand a ∷ []) t e = listed_alone a t (after_operand a [] t e)
listed (Operand a ∷ Infix o ∷ items) t e = listed_after a o items t (listed items) (after_operand a (Infix o ∷ items) t e)
listed (Operand a ∷ Operand b ∷ items) t e = absurd (no_operand_next a b items t (after_operand a (Operand b ∷ items) t e))
listed (Operand a ∷ Prefix o ∷ items) t e = absurd (no_prefix_next a o items t (after_operand a (Prefix o ∷ items) t e))
listed (Prefix o ∷ items) t e =
    let b = after_prefix o items t e in
    in_flat_map (on_left_spine (Applied o)) t b.tree (trees items) (listed items b.tree b.flattens) b.among
listed (Infix o ∷ items) t e = absurd (no_infix o items t e)

-- ---- and each tree that is listed has these items

only_one : {X : Type 0} (x y : X) → (x ≡ y) ⊎ Among x [] → x ≡ y
only_one x y (inl e) = e
only_one x y (inr a) = absurd (none_among x a)

prefix_inside : {A O : Type 0} (taking : Tree A O → Tree A O) (prefix : List (Item A O)) (l : Tree A O) (o : O) (r u : Tree A O)
    → flatten (taking (Between l o r)) ≡ prefix ++ flatten (Between l o r)
    → ((v : Tree A O) → Among v (on_left_spine taking l) → flatten v ≡ prefix ++ flatten l)
    → (u ≡ taking (Between l o r)) ⊎ Among u (map (λ left. Between left o r) (on_left_spine taking l))
    → flatten u ≡ prefix ++ flatten (Between l o r)
prefix_inside taking prefix l o r u h go (inl e) = ap flatten e ∙ h
prefix_inside taking prefix l o r u h go (inr a) =
    let m = from_map (λ left. Between left o r) u (on_left_spine taking l) a in
    ap flatten m.is ∙ ap (λ xs. xs ++ Infix o ∷ flatten r) (go m.x m.among) ∙ append_assoc prefix (flatten l) (Infix o ∷ flatten r)

prefix_flattens : {A O : Type 0} (taking : Tree A O → Tree A O) (prefix : List (Item A O))
    → ((t : Tree A O) → flatten (taking t) ≡ prefix ++ flatten t)
    → (t u : Tree A O) → Among u (on_left_spine taking t) → flatten u ≡ prefix ++ flatten t
prefix_flattens taking prefix h (Leaf a) u b = ap flatten (only_one u (taking (Leaf a)) (among_cons u (taking (Leaf a)) [] b)) ∙ h (Leaf a)
prefix_flattens taking prefix h (Applied o t) u b =
    ap flatten (only_one u (taking (Applied o t)) (among_cons u (taking (Applied o t)) [] b)) ∙ h (Applied o t)
prefix_flattens taking prefix h (Between l o r) u b =
    prefix_inside taking prefix l o r u (h (Between l o r)) (prefix_flattens taking prefix h l)
    (among_cons u (taking (Between l o r)) (map (λ left. Between left o r) (on_left_spine taking l)) b)

trees_flatten : {A O : Type 0} (items : List (Item A O)) (t : Tree A O) → Among t (trees items) → flatten t ≡ items
trees_flatten [] t b = absurd (none_among t b)
trees_flatten (Operand a ∷ []) t b = ap flatten (only_one t (Leaf a) (among_cons t (Leaf a) [] b))
trees_flatten (Operand a ∷ Infix o ∷ items) t b =
    let j = from_flat_map (on_left_spine (Between (Leaf a) o)) t (trees items) b in
    prefix_flattens (Between (Leaf a) o) (Operand a ∷ Infix o ∷ []) (λ u. refl) j.x t j.inside
    ∙ ap (λ xs. Operand a ∷ Infix o ∷ xs) (trees_flatten items j.x j.among)
trees_flatten (Operand a ∷ Operand c ∷ items) t b = absurd (none_among t b)
trees_flatten (Operand a ∷ Prefix o ∷ items) t b = absurd (none_among t b)
trees_flatten (Prefix o ∷ items) t b =
    let j = from_flat_map (on_left_spine (Applied o)) t (trees items) b in
    prefix_flattens (Applied o) (Prefix o ∷ []) (λ u. refl) j.x t j.inside ∙ ap (λ xs. Prefix o ∷ xs) (trees_flatten items j.x j.among)
trees_flatten (Infix o ∷ items) t b = absurd (none_among t b)

-- ---- the grouped tree

grouped_is_found : {A O : Type 0} (fixity : O → Fixity) (items : List (Item A O)) (t : Tree A O)
    → Grouped fixity items t → grouped_tree fixity items ≡ Some t
grouped_is_found fixity items t g =
    let f = found (is_grouped fixity) t (trees items) (listed items t g.flattens) g.fits in
    f.found ∙ ap Some (one_tree fixity f.x t f.passes g.fits (trees_flatten items f.x f.among ∙ sym g.flattens))

found_is_grouped : {A O : Type 0} (fixity : O → Fixity) (items : List (Item A O)) (t : Tree A O)
    → grouped_tree fixity items ≡ Some t → Grouped fixity items t
found_is_grouped fixity items t e =
    let f = finds (is_grouped fixity) t (trees items) e in record { flattens = trees_flatten items t f.1; fits = f.0 }

pub grouped_exactly : {A O : Type 0} (fixity : O → Fixity) (items : List (Item A O)) (t : Tree A O)
    → Grouped fixity items t ↔ (grouped_tree fixity items ≡ Some t)
grouped_exactly fixity items t = (grouped_is_found fixity items t, found_is_grouped fixity items t)

-- ---- and none

none_where : {A O : Type 0} (fixity : O → Fixity) (items : List (Item A O)) → grouped_tree fixity items ≡ None → HasNoTree fixity items
none_where fixity items e t g = let f : grouped_tree fixity items ≡ Some t = grouped_is_found fixity items t g in cc

none_by : {A O : Type 0} (fixity : O → Fixity) (items : List (Item A O)) (found : Option (Tree A O)) → grouped_tree fixity items ≡ found
    → HasNoTree fixity items → found ≡ None
none_by fixity items None e h = refl
none_by fixity items (Some t) e h = absurd (h t (found_is_grouped fixity items t e))

pub none_exactly : {A O : Type 0} (fixity : O → Fixity) (items : List (Item A O))
    → HasNoTree fixity items ↔ (grouped_tree fixity items ≡ None)
none_exactly fixity items = (none_by fixity items (grouped_tree fixity items) refl, none_where fixity items)
