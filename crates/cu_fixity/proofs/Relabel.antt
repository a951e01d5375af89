-- Trees of items that are alike in pairs.
use Rattle.std.specs.Prelude.{◌≡◌, ◌&&◌, ◌||◌, List, [], ◌∷◌, ◌++◌, Option, None, Some, nat_lt, refl}
use Rattle.std.specs.List.{AllZip}
use Rattle.std.specs.Option.{option_map}
use Rattle.std.proofs.Common.{ap, ap₂, append-nil, append_assoc, subst, sym, ◌∙◌}
use Rattle.cu_fixity.specs.declared.fixity.Fixity.{Fixity}
use Rattle.cu_syntax.specs.declared.items.Side.TheVariants.{Left, Right}
use Rattle.cu_fixity.specs.Grouping.{Applied, Between, Grouped, HasNoTree, Infix, Item, Leaf, Operand, Prefix, Tree, both, fits_after, fits_left, fits_right, flatten, is_grouped, top}
use Rattle.cu_fixity.specs.Operators.{polish}

-- two operands, or operators of one fixity
abbrev pub Alike : {A B O P : Type 0} → (O → Fixity) → (P → Fixity) → Item A O → Item B P → Type 0
Alike f g (Operand a) (Operand b) = Unit {0}
Alike f g (Prefix o) (Prefix p) = f o ≡ g p
Alike f g (Infix o) (Infix p) = f o ≡ g p
Alike f g _ _ = ⊥

alike_swapped : {A B O P : Type 0} (f : O → Fixity) (g : P → Fixity) (x : Item A O) (y : Item B P) → Alike f g x y → Alike g f y x
alike_swapped f g (Operand a) (Operand b) e = tt
alike_swapped f g (Prefix o) (Prefix p) e = sym e
alike_swapped f g (Infix o) (Infix p) e = sym e
alike_swapped f g (Operand a) (Prefix p) e = absurd e
alike_swapped f g (Operand a) (Infix p) e = absurd e
alike_swapped f g (Prefix o) (Operand b) e = absurd e
alike_swapped f g (Prefix o) (Infix p) e = absurd e
alike_swapped f g (Infix o) (Operand b) e = absurd e
alike_swapped f g (Infix o) (Prefix p) e = absurd e

-- What fits depends on fixities alone.
left_alike : {O P : Type 0} (f : O → Fixity) (g : P → Fixity) (o : O) (p : P) → f o ≡ g p
    → (q : Option O) (s : Option P) → option_map g s ≡ option_map f q → fits_left g p s ≡ fits_left f o q
left_alike f g o p e None None h = refl
left_alike f g o p e None (Some s) h = absurd cc
left_alike f g o p e (Some q) None h = absurd cc
left_alike f g o p e (Some q) (Some s) h =
    let k : g s ≡ f q = cc in ap₂ (λ x y. nat_lt x.level y.level || both Left x y) (sym e) k

right_alike : {O P : Type 0} (f : O → Fixity) (g : P → Fixity) (o : O) (p : P) → f o ≡ g p
    → (q : Option O) (s : Option P) → option_map g s ≡ option_map f q → fits_right g p s ≡ fits_right f o q
right_alike f g o p e None None h = refl
right_alike f g o p e None (Some s) h = absurd cc
right_alike f g o p e (Some q) None h = absurd cc
right_alike f g o p e (Some q) (Some s) h =
    let k : g s ≡ f q = cc in ap₂ (λ x y. nat_lt x.level y.level || both Right x y) (sym e) k

after_alike : {O P : Type 0} (f : O → Fixity) (g : P → Fixity) (o : O) (p : P) → f o ≡ g p
    → (q : Option O) (s : Option P) → option_map g s ≡ option_map f q → fits_after g p s ≡ fits_after f o q
after_alike f g o p e None None h = refl
after_alike f g o p e None (Some s) h = absurd cc
after_alike f g o p e (Some q) None h = absurd cc
after_alike f g o p e (Some q) (Some s) h =
    let k : g s ≡ f q = cc in ap₂ (λ (x y : Fixity). nat_lt x.level y.level) (sym e) k

zip_append : {X Y : Type 0} (R : X → Y → Type 0) (xs us : List X) (ys vs : List Y) → AllZip R xs ys → AllZip R us vs → AllZip R (xs ++ us) (ys ++ vs)
zip_append R [] us [] vs h k = k
zip_append R [] us (y ∷ ys) vs h k = absurd h
zip_append R (x ∷ xs) us [] vs h k = absurd h
zip_append R (x ∷ xs) us (y ∷ ys) vs h k = (h.0, zip_append R xs us ys vs h.1 k)

pub zip_map : {X Y : Type 0} (R S : X → Y → Type 0) → ((x : X) (y : Y) → R x y → S x y) → (xs : List X) (ys : List Y) → AllZip R xs ys → AllZip S xs ys
zip_map R S f [] [] h = tt
zip_map R S f [] (y ∷ ys) h = absurd h
zip_map R S f (x ∷ xs) [] h = absurd h
zip_map R S f (x ∷ xs) (y ∷ ys) h = (f x y h.0, zip_map R S f xs ys h.1)

zip_swapped : {X Y : Type 0} (R : X → Y → Type 0) (S : Y → X → Type 0) → ((x : X) (y : Y) → R x y → S y x)
    → (xs : List X) (ys : List Y) → AllZip R xs ys → AllZip S ys xs
zip_swapped R S f [] [] h = tt
zip_swapped R S f [] (y ∷ ys) h = absurd h
zip_swapped R S f (x ∷ xs) [] h = absurd h
zip_swapped R S f (x ∷ xs) (y ∷ ys) h = (f x y h.0, zip_swapped R S f xs ys h.1)

zip_nothing : {X Y : Type 0} (R : X → Y → Type 0) (ys : List Y) → AllZip R [] ys → ys ≡ []
zip_nothing R [] h = refl
zip_nothing R (y ∷ ys) h = absurd h

-- The items begin with those of a tree that is like another one, and the others are paired too.
record Begins {A B O P : Type 0} (f : O → Fixity) (g : P → Fixity) (R : Item A O → Item B P → Type 0) (t : Tree A O) (rest : List (Item A O)) (ys : List (Item B P)) : Type 0 where
  pub tree : Tree B P
  pub left : List (Item B P)
  pub whole : flatten tree ++ left ≡ ys
  pub others : AllZip R rest left
  pub tops : option_map g (top tree) ≡ option_map f (top t)
  pub fits : is_grouped g tree ≡ is_grouped f t
  pub polished : AllZip R (polish t) (polish tree)

begins_leaf : {A B O P : Type 0} (f : O → Fixity) (g : P → Fixity) (R : Item A O → Item B P → Type 0) (a : A) (rest : List (Item A O)) (y : Item B P) (ys : List (Item B P))
    → Alike {A = A} {B = B} {O = O} {P = P} f g (Operand a) y → R (Operand a) y → AllZip R rest ys → Begins f g R (Leaf a) rest (y ∷ ys)
begins_leaf f g R a rest (Operand b) ys e r k = record { tree = Leaf b; left = ys; whole = refl; others = k; tops = refl; fits = refl; polished = (r, tt) }
begins_leaf f g R a rest (Prefix p) ys e r k = absurd e
begins_leaf f g R a rest (Infix p) ys e r k = absurd e

begins_applied : {A B O P : Type 0} (f : O → Fixity) (g : P → Fixity) (R : Item A O → Item B P → Type 0) (o : O) (t : Tree A O) (rest : List (Item A O)) (y : Item B P) (ys : List (Item B P))
    → Alike {A = A} {B = B} {O = O} {P = P} f g (Prefix o) y → R (Prefix o) y → Begins f g R t rest ys → Begins f g R (Applied o t) rest (y ∷ ys)
begins_applied f g R o t rest (Operand b) ys e r k = absurd e
begins_applied f g R o t rest (Infix p) ys e r k = absurd e
begins_applied f g R o t rest (Prefix p) ys e r k = record {
  tree = Applied p k.tree;
  left = k.left;
  whole = ap (λ zs. Prefix p ∷ zs) k.whole;
  others = k.others;
  tops = ap Some (sym e);
  fits = ap₂ (λ b c. b && c) (after_alike f g o p e (top t) (top k.tree) k.tops) k.fits;
  polished = (r, k.polished);
}

begins_between : {A B O P : Type 0} (f : O → Fixity) (g : P → Fixity) (R : Item A O → Item B P → Type 0)
    → ((x : Item A O) (y : Item B P) → R x y → Alike f g x y)
    → (l : Tree A O) (o : O) (r : Tree A O) (rest : List (Item A O)) (ys : List (Item B P))
    → (k : Begins f g R l (Infix o ∷ flatten r ++ rest) ys)
    → ((zs : List (Item B P)) → AllZip R (flatten r ++ rest) zs → Begins f g R r rest zs)
    → (left : List (Item B P)) → left ≡ k.left → AllZip R (Infix o ∷ flatten r ++ rest) left → Begins f g R (Between l o r) rest ys
begins_between f g R alike l o r rest ys k next [] e h = absurd h
begins_between f g R alike l o r rest ys k next (Operand b ∷ zs) e h = absurd (alike (Infix o) (Operand b) h.0)
begins_between f g R alike l o r rest ys k next (Prefix p ∷ zs) e h = absurd (alike (Infix o) (Prefix p) h.0)
begins_between f g R alike l o r rest ys k next (Infix p ∷ zs) e h =
    let m = next zs h.1 in
    let same : f o ≡ g p = alike (Infix o) (Infix p) h.0 in
    record {
      tree = Between k.tree p m.tree;
      left = m.left;
      whole =
          append_assoc (flatten k.tree) (Infix p ∷ flatten m.tree) m.left ∙ ap (λ ws. flatten k.tree ++ Infix p ∷ ws) m.whole
          ∙ ap (λ ws. flatten k.tree ++ ws) e ∙ k.whole;
      others = m.others;
      tops = ap Some (sym same);
      fits =
          ap₂ (λ b c. b && c)
          (ap₂ (λ b c. b && c) (left_alike f g o p same (top l) (top k.tree) k.tops) (right_alike f g o p same (top r) (top m.tree) m.tops))
          (ap₂ (λ b c. b && c) k.fits m.fits);
      polished = (h.0, zip_append R (polish l) (polish r) (polish k.tree) (polish m.tree) k.polished m.polished);
    }

begins : {A B O P : Type 0} (f : O → Fixity) (g : P → Fixity) (R : Item A O → Item B P → Type 0)
    → ((x : Item A O) (y : Item B P) → R x y → Alike f g x y)
    → (t : Tree A O) (rest : List (Item A O)) (ys : List (Item B P)) → AllZip R (flatten t ++ rest) ys → Begins f g R t rest ys
begins f g R alike (Leaf a) rest [] h = absurd h
begins f g R alike (Leaf a) rest (y ∷ ys) h = begins_leaf f g R a rest y ys (alike (Operand a) y h.0) h.0 h.1
begins f g R alike (Applied o t) rest [] h = absurd h
begins f g R alike (Applied o t) rest (y ∷ ys) h =
    begins_applied f g R o t rest y ys (alike (Prefix o) y h.0) h.0 (begins f g R alike t rest ys h.1)
begins f g R alike (Between l o r) rest ys h =
    let k = begins f g R alike l (Infix o ∷ flatten r ++ rest) ys (subst (λ xs. AllZip R xs ys) (append_assoc (flatten l) (Infix o ∷ flatten r) rest) h) in
    begins_between f g R alike l o r rest ys k (λ zs. begins f g R alike r rest zs) k.left refl k.others

-- a tree of the items that are paired with those of another one
pub record Renamed {A B O P : Type 0} (g : P → Fixity) (R : Item A O → Item B P → Type 0) (t : Tree A O) (ys : List (Item B P)) : Type 0 where
  pub tree : Tree B P
  pub grouped : Grouped g ys tree
  pub polished : AllZip R (polish t) (polish tree)

pub renamed : {A B O P : Type 0} (f : O → Fixity) (g : P → Fixity) (R : Item A O → Item B P → Type 0)
    → ((x : Item A O) (y : Item B P) → R x y → Alike f g x y)
    → (xs : List (Item A O)) (ys : List (Item B P)) (t : Tree A O) → AllZip R xs ys → Grouped f xs t → Renamed g R t ys
renamed f g R alike xs ys t h d =
    let k = begins f g R alike t [] ys (subst (λ zs. AllZip R zs ys) (sym (append-nil (flatten t) ∙ d.flattens)) h) in
    record {
      tree = k.tree;
      grouped = record {
        flattens = sym (append-nil (flatten k.tree)) ∙ ap (λ zs. flatten k.tree ++ zs) (sym (zip_nothing R k.left k.others)) ∙ k.whole;
        fits = k.fits ∙ d.fits;
      };
      polished = k.polished;
    }

pub none_renamed : {A B O P : Type 0} (f : O → Fixity) (g : P → Fixity) (xs : List (Item A O)) (ys : List (Item B P))
    → AllZip (Alike f g) xs ys → HasNoTree f xs → HasNoTree g ys
none_renamed f g xs ys h none = λ u d.
    let converse = zip_swapped (Alike f g) (Alike g f) (alike_swapped f g) xs ys h in
    let k = renamed g f (Alike g f) (λ y x e. e) ys xs u converse d in
    none k.tree k.grouped
