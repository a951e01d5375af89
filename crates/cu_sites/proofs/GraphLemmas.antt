-- That the graph of what local functions use, bind and call tells what they capture.
use Rattle.std.proofs.Common.{◌≡◌, ◌∙◌, ◌<◌, ◌⊎◌, inl, inr, ℕ, suc, Bool, true, false, List, [], ◌∷◌, Option, None, Some, Contains, arith, get_or, length, map, refl, sym, ap, ap₂, subst, slice_get}
use Rattle.std.proofs.lemmas.Bool.{and_from, and_parts, eq-eqb, eqb-true, false_from_ne_true}
use Rattle.std.proofs.lemmas.List.Sums.{passes_at_first}
use Rattle.std.proofs.lemmas.Option.{slice_get_within}
use Rattle.std.specs.Prelude.{nat_eq}
use Rattle.std.specs.List.{filter, flat_map, position_or_len}
use Rattle.cu_lex.specs.Located.{Position}
use Rattle.cu_translation.specs.Dependencies.{Captures, binds, called, function_in, is_innermost, is_variable, own, own_uses, through, used_by, uses}
use Rattle.cu_translation.specs.LocalNames.{At, Binder, Local, LocalFunction, LocalVariable, Otherwise, Selected, Whole, same_binder, same_place}
use Rattle.cu_translation.specs.Numbering.{all_binders, binder_number, binders_of, function_number}
use Rattle.cu_translation.specs.Sites.{Node}
use Rattle.cu_sites.proofs.MemberLemmas.{Among, among_cons, any_from, any_to, from_among, from_filter, from_flat_map, from_map, here, in_flat_map, in_map, none_among, there, to_among}
use Rattle.cu_sites.specs.Depending.{is_in, keys_in, relates, row}
use Rattle.cu_sites.specs.declared.captures.Graph.{Graph}
use Rattle.cu_sites.specs.declared.relations.Relation.{Relation}
use Rattle.cu_sites.specs.Meaning.{innermost}
use Rattle.cu_sites.specs.Inside.Capturing.{IsCaptured, IsGraph, bound_pair, bound_pairs, call_pairs, calls_in, binds_in, in_one, use_pairs, uses_in}
use Rattle.cu_sites.specs.Inside.Relating as relating
use Rattle.cu_sites.specs.Inside.Relating.{Holds, Pair, Reaches, is_pair, pair}
use Rattle.cu_sites.specs.Inside.Using.{Usage, usage_of}
use Rattle.cu_sites.proofs.RelationLemmas.{Row}

-- ---- places and variables

pub place_is : (p q : Position) → same_place p q ≡ true → p ≡ q
place_is p q e =
    let parts = and_parts (nat_eq p.line q.line) (nat_eq p.column q.column) e in
    ap₂ {C = Position} (λ l c. record { line = l; column = c }) (eqb-true p.line q.line parts.0) (eqb-true p.column q.column parts.1)

pub place_itself : (p : Position) → same_place p p ≡ true
place_itself p = and_from (nat_eq p.line p.line) (nat_eq p.column p.column) (eq-eqb p.line p.line refl) (eq-eqb p.column p.column refl)

pub binder_is : (b c : Binder) → same_binder b c ≡ true → b ≡ c
binder_is (At p) (At q) e = ap At (place_is p q e)
binder_is (At p) (Whole q) e = let no : ⊥ = cc in absurd no
binder_is (At p) (Otherwise q) e = let no : ⊥ = cc in absurd no
binder_is (At p) (Selected q y) e = let no : ⊥ = cc in absurd no
binder_is (Whole p) (At q) e = let no : ⊥ = cc in absurd no
binder_is (Whole p) (Whole q) e = ap Whole (place_is p q e)
binder_is (Whole p) (Otherwise q) e = let no : ⊥ = cc in absurd no
binder_is (Whole p) (Selected q y) e = let no : ⊥ = cc in absurd no
binder_is (Otherwise p) (At q) e = let no : ⊥ = cc in absurd no
binder_is (Otherwise p) (Whole q) e = let no : ⊥ = cc in absurd no
binder_is (Otherwise p) (Otherwise q) e = ap Otherwise (place_is p q e)
binder_is (Otherwise p) (Selected q y) e = let no : ⊥ = cc in absurd no
binder_is (Selected p x) (At q) e = let no : ⊥ = cc in absurd no
binder_is (Selected p x) (Whole q) e = let no : ⊥ = cc in absurd no
binder_is (Selected p x) (Otherwise q) e = let no : ⊥ = cc in absurd no
binder_is (Selected p x) (Selected q y) e =
    let parts = and_parts (same_place p q) (same_place x y) e in ap₂ Selected (place_is p q parts.0) (place_is x y parts.1)

pub binder_itself : (b : Binder) → same_binder b b ≡ true
binder_itself (At p) = place_itself p
binder_itself (Whole p) = place_itself p
binder_itself (Otherwise p) = place_itself p
binder_itself (Selected p x) = and_from (same_place p p) (same_place x x) (place_itself p) (place_itself x)

pub variable_is : (b : Binder) (l : Local) → is_variable b l ≡ true → l ≡ LocalVariable b
variable_is b (LocalVariable c) e = ap LocalVariable (sym (binder_is b c e))
variable_is b (LocalFunction at count) e = let no : ⊥ = cc in absurd no

-- a local function of this place
pub record IsCallOf (at : Position) (l : Local) : Type 0 where
  pub count : ℕ
  pub is : l ≡ LocalFunction at count

pub call_is : (at : Position) (l : Local) → Among at (function_in l) → IsCallOf at l
call_is at (LocalVariable b) a = absurd (none_among at a)
call_is at (LocalFunction p count) a = by (among_cons at p [] a)
  where
    by : (at ≡ p) ⊎ Among at [] → IsCallOf at (LocalFunction p count)
    by (inl e) = record { count = count; is = ap (λ q. LocalFunction q count) (sym e) }
    by (inr none) = absurd (none_among at none)

-- ---- numbers

pub first_within : {X : Type 0} (test : X → Bool) (x : X) (xs : List X) → Among x xs → test x ≡ true → position_or_len test xs < length xs
first_within test x _ (here xs) e = rw e (omega arith)
first_within test x _ (there y xs a) e = by (test y) refl (first_within test x xs a e)
  where
    by : (b : Bool) → test y ≡ b → position_or_len test xs < length xs → position_or_len test (y ∷ xs) < length (y ∷ xs)
    by true f low = rw f (omega arith)
    by false f low = rw f (omega (arith, low))

pub one_number : {X : Type 0} (same : X → X → Bool) → ((x y : X) → same x y ≡ true → x ≡ y) → ((x : X) → same x x ≡ true)
    → (x y : X) (xs : List X) → Among x xs → position_or_len (same y) xs ≡ position_or_len (same x) xs → y ≡ x
one_number same is itself x y xs a e =
    let low : position_or_len (same x) xs < length xs = first_within (same x) x xs a (itself x) in
    let at_x = passes_at_first (same x) xs x low in
    let low_y : position_or_len (same y) xs < length xs = omega (arith, low, e) in
    let at_y = passes_at_first (same y) xs x low_y in
    is y (get_or xs (position_or_len (same y) xs) x) at_y
    ∙ ap (λ k. get_or xs k x) e
    ∙ sym (is x (get_or xs (position_or_len (same x) xs) x) at_x)

pub one_binder : (b c : Binder) (binders : List Binder) → Among b binders → binder_number binders c ≡ binder_number binders b → c ≡ b
one_binder b c binders a e = one_number same_binder binder_is binder_itself b c binders a e

pub one_function : (f g : Position) (functions : List Position) → Among f functions → function_number functions g ≡ function_number functions f → g ≡ f
one_function f g functions a e = one_number same_place place_is place_itself f g functions a e

pub number_fits : {X : Type 0} (test : X → Bool) (xs : List X) → position_or_len test xs < suc (length xs)
number_fits test [] = omega arith
number_fits test (x ∷ xs) = by (test x) refl (number_fits test xs)
  where
    by : (b : Bool) → test x ≡ b → position_or_len test xs < suc (length xs) → position_or_len test (x ∷ xs) < suc (length (x ∷ xs))
    by true e low = rw e (omega arith)
    by false e low = rw e (omega (arith, low))

-- ---- members

pub filtered : {X : Type 0} (t : X → Bool) (x : X) (xs : List X) → Among x (filter t xs) → t x ≡ true
filtered t x [] a = absurd (none_among x a)
filtered t x (y ∷ ys) a = by (t y) refl (filtered t x ys)
  where
    first : t y ≡ true → (Among x (filter t ys) → t x ≡ true) → (x ≡ y) ⊎ Among x (filter t ys) → t x ≡ true
    first e go (inl same) = ap t same ∙ e
    first e go (inr b) = go b

    by : (b : Bool) → t y ≡ b → (Among x (filter t ys) → t x ≡ true) → t x ≡ true
    by true e go = let a' : Among x (y ∷ filter t ys) = rw e at a in first e go (among_cons x y (filter t ys) a')
    by false e go = let a' : Among x (filter t ys) = rw e at a in go a'

pub in_filter : {X : Type 0} (t : X → Bool) (x : X) (xs : List X) → Among x xs → t x ≡ true → Among x (filter t xs)
in_filter t x _ (here xs) e = rw e (here (filter t xs))
in_filter t x _ (there y xs a) e = by (t y) refl (in_filter t x xs a e)
  where
    by : (b : Bool) → t y ≡ b → Among x (filter t xs) → Among x (filter t (y ∷ xs))
    by true f rest = rw f (there y (filter t xs) rest)
    by false f rest = rw f rest

pub among_in : (k : ℕ) (xs : List ℕ) → Among k xs → is_in xs k ≡ true
among_in k xs a = any_from (nat_eq k) k xs a (eq-eqb k k refl)

pub in_among : (k : ℕ) (xs : List ℕ) → is_in xs k ≡ true → Among k xs
in_among k xs e = let m = any_to (nat_eq k) xs e in subst (λ (j : ℕ). Among j xs) (sym (eqb-true k m.x m.passes)) m.among

pub only_one : {X : Type 0} (x y : X) → Among x (y ∷ []) → x ≡ y
only_one x y a = by (among_cons x y [] a)
  where
    by : (x ≡ y) ⊎ Among x [] → x ≡ y
    by (inl e) = e
    by (inr none) = absurd (none_among x none)

-- ---- pairs

pub pair_is : (i k : ℕ) (p : Pair) → is_pair i k p ≡ true → p ≡ pair i k
pair_is i k p e =
    let parts = and_parts (nat_eq i p.from) (nat_eq k p.to) e in
    ap₂ {C = Pair} (λ a b. record { from = a; to = b }) (sym (eqb-true i p.from parts.0)) (sym (eqb-true k p.to parts.1))

row_within : (o : Option Row) (k : ℕ) → is_in (keys_in o) k ≡ true → (s : Row) × (o ≡ Some s)
row_within None k e = let no : ⊥ = cc in absurd no
row_within (Some s) k e = (s, refl)

pub related_within : (n : ℕ) (pairs : List Pair) (r : Relation) (i k : ℕ) → Holds n pairs r → relates r i k ≡ true → i < n
related_within n pairs r i k h e =
    let at = row_within (slice_get r.rows.items i) k e in
    let low = slice_get_within r.rows.items i at.0 at.1 in
    let size = h.sized in omega (arith, low, size)

pub related_from : (n : ℕ) (pairs : List Pair) (r : Relation) (i k : ℕ) → Holds n pairs r → i < n → Among (pair i k) pairs → relates r i k ≡ true
related_from n pairs r i k h low a =
    h.exact i k low ∙ any_from (is_pair i k) (pair i k) pairs a (and_from (nat_eq i i) (nat_eq k k) (eq-eqb i i refl) (eq-eqb k k refl))

pub related_to : (n : ℕ) (pairs : List Pair) (r : Relation) (i k : ℕ) → Holds n pairs r → relates r i k ≡ true → Among (pair i k) pairs
related_to n pairs r i k h e =
    let m = any_to (is_pair i k) pairs (sym (h.exact i k (related_within n pairs r i k h e)) ∙ e) in
    subst (λ (p : Pair). Among p pairs) (pair_is i k m.x m.passes) m.among

pub record InOne (o : Option Position) (pairs : Position → List Pair) (p : Pair) : Type 0 where
  pub f : Position
  pub is : o ≡ Some f
  pub among : Among p (pairs f)

pub in_one_to : (o : Option Position) (pairs : Position → List Pair) (p : Pair) → Among p (in_one o pairs) → InOne o pairs p
in_one_to None pairs p a = absurd (none_among p a)
in_one_to (Some f) pairs p a = record { f = f; is = refl; among = a }

pub in_one_from : (o : Option Position) (pairs : Position → List Pair) (p : Pair) (f : Position) → o ≡ Some f → Among p (pairs f) → Among p (in_one o pairs)
in_one_from o pairs p f e a = subst (λ (x : Option Position). Among p (in_one x pairs)) (sym e) a

pub from_is : (p q : Pair) → p ≡ q → p.from ≡ q.from
from_is p q e = ap (λ (x : Pair). x.from) e

pub to_is : (p q : Pair) → p ≡ q → p.to ≡ q.to
to_is p q e = ap (λ (x : Pair). x.to) e

-- ---- what functions use, bind and call

-- what stands in a function at once
pub record Own (nodes : List Node) (f : Position) : Type 0 where
  pub n : Node
  pub among : Among n nodes
  pub inside : innermost n.spot.functions ≡ Some f

pub record UsesOwn (nodes : List Node) (b : Binder) (f : Position) : Type 0 where
  pub own : Own nodes f
  pub used : Among (LocalVariable b) (used_by own.n)

pub record BindsOwn (nodes : List Node) (b : Binder) (f : Position) : Type 0 where
  pub own : Own nodes f
  pub declared : Among b (binders_of own.n)

pub record CallsOwn (nodes : List Node) (g f : Position) : Type 0 where
  pub own : Own nodes f
  pub count : ℕ
  pub used : Among (LocalFunction g count) (used_by own.n)

pub innermost_is : (f : Position) (functions : List Position) → is_innermost f functions ≡ true → innermost functions ≡ Some f
innermost_is f [] e = let no : ⊥ = cc in absurd no
innermost_is f (at ∷ functions) e = ap Some (sym (place_is f at e))

is_innermost_of : (f : Position) (functions : List Position) → innermost functions ≡ Some f → is_innermost f functions ≡ true
is_innermost_of f [] e = let no : ⊥ = cc in absurd no
is_innermost_of f (at ∷ functions) e = let same : at ≡ f = cc in subst (λ (p : Position). same_place f p ≡ true) (sym same) (place_itself f)

abbrev pub is_own : Position → Node → Bool
is_own f n = is_innermost f n.spot.functions

abbrev pub own_to : (nodes : List Node) (f : Position) (n : Node) → Among n (filter (is_own f) nodes) → Own nodes f
own_to nodes f n a = record {
  n = n;
  among = from_filter (is_own f) n nodes a;
  inside = innermost_is f n.spot.functions (filtered (is_own f) n nodes a);
}

pub own_from : (nodes : List Node) (f : Position) (o : Own nodes f) → Among o.n (filter (is_own f) nodes)
own_from nodes f o = in_filter (is_own f) o.n nodes o.among (is_innermost_of f o.n.spot.functions o.inside)

pub uses_own : (nodes : List Node) (b : Binder) (f : Position) → uses nodes f b ≡ true → UsesOwn nodes b f
uses_own nodes b f e =
    let m = any_to (is_variable b) (own_uses nodes f) e in
    let j = from_flat_map used_by m.x (filter (is_own f) nodes) m.among in
    record { own = own_to nodes f j.x j.among; used = subst (λ (l : Local). Among l (used_by j.x)) (variable_is b m.x m.passes) j.inside }

pub own_uses_it : (nodes : List Node) (b : Binder) (f : Position) → UsesOwn nodes b f → uses nodes f b ≡ true
own_uses_it nodes b f u =
    any_from (is_variable b) (LocalVariable b) (own_uses nodes f)
    (in_flat_map used_by (LocalVariable b) u.own.n (filter (is_own f) nodes) (own_from nodes f u.own) u.used) (binder_itself b)

pub binds_own : (nodes : List Node) (b : Binder) (f : Position) → binds nodes f b ≡ true → BindsOwn nodes b f
binds_own nodes b f e =
    let m = any_to (same_binder b) (all_binders (filter (is_own f) nodes)) e in
    let j = from_flat_map binders_of m.x (filter (is_own f) nodes) m.among in
    record { own = own_to nodes f j.x j.among; declared = subst (λ (c : Binder). Among c (binders_of j.x)) (sym (binder_is b m.x m.passes)) j.inside }

pub own_binds_it : (nodes : List Node) (b : Binder) (f : Position) → BindsOwn nodes b f → binds nodes f b ≡ true
own_binds_it nodes b f u =
    any_from (same_binder b) b (all_binders (filter (is_own f) nodes))
    (in_flat_map binders_of b u.own.n (filter (is_own f) nodes) (own_from nodes f u.own) u.declared) (binder_itself b)

pub calls_own : (nodes : List Node) (g f : Position) → Contains (called nodes f) g → CallsOwn nodes g f
calls_own nodes g f c =
    let l = from_flat_map function_in g (own_uses nodes f) (to_among g (called nodes f) c) in
    let is = call_is g l.x l.inside in
    let j = from_flat_map used_by l.x (filter (is_own f) nodes) l.among in
    record { own = own_to nodes f j.x j.among; count = is.count; used = subst (λ (m : Local). Among m (used_by j.x)) is.is j.inside }

pub own_calls_it : (nodes : List Node) (g f : Position) → CallsOwn nodes g f → Contains (called nodes f) g
own_calls_it nodes g f u =
    from_among g (called nodes f)
    (in_flat_map function_in g (LocalFunction g u.count) (own_uses nodes f)
    (in_flat_map used_by (LocalFunction g u.count) u.own.n (filter (is_own f) nodes) (own_from nodes f u.own) u.used) (here []))

-- ---- and by numbers

-- What is used, and what functions stand around, was counted.
pub record IsCounted (nodes : List Node) (binders : List Binder) (functions : List Position) : Type 0 where
  pub variables : (n : Node) (b : Binder) → Among n nodes → Among (LocalVariable b) (used_by n) → Among b binders
  pub around : (n : Node) (f : Position) → Among n nodes → innermost n.spot.functions ≡ Some f → Among f functions

pub record UseFound (nodes : List Node) (binders : List Binder) (functions : List Position) (i k : ℕ) : Type 0 where
  pub b : Binder
  pub f : Position
  pub uses : UsesOwn nodes b f
  pub from : i ≡ binder_number binders b
  pub to : k ≡ function_number functions f

pub record BindFound (nodes : List Node) (binders : List Binder) (functions : List Position) (i k : ℕ) : Type 0 where
  pub b : Binder
  pub f : Position
  pub binds : BindsOwn nodes b f
  pub from : i ≡ binder_number binders b
  pub to : k ≡ function_number functions f

pub record CallFound (nodes : List Node) (functions : List Position) (i k : ℕ) : Type 0 where
  pub g : Position
  pub f : Position
  pub calls : CallsOwn nodes g f
  pub from : i ≡ function_number functions g
  pub to : k ≡ function_number functions f

abbrev usages : List Node → List Usage
usages nodes = map usage_of nodes

-- the node of a usage
record NodeOf (nodes : List Node) (u : Usage) : Type 0 where
  n : Node
  among : Among n nodes
  is : u ≡ usage_of n

node_of : (nodes : List Node) (u : Usage) → Among u (usages nodes) → NodeOf nodes u
node_of nodes u a = let m = from_map usage_of u nodes a in record { n = m.x; among = m.among; is = m.is }

module _ (nodes : List Node) (binders : List Binder) (functions : List Position) (g : Graph) (graph : IsGraph binders functions (usages nodes) g) where
  use_in : (i k : ℕ) (u : Usage) → NodeOf nodes u → Among (pair i k) (uses_in binders functions u) → UseFound nodes binders functions i k
  use_in i k u at a =
      let o = in_one_to u.function (λ f. flat_map (use_pairs binders functions f) u.used) (pair i k) a in
      let j = from_flat_map (use_pairs binders functions o.f) (pair i k) u.used o.among in
      by o.f o.is j.x j.among j.inside
    where
      by : (f : Position) → u.function ≡ Some f → (l : Local) → Among l u.used → Among (pair i k) (use_pairs binders functions f l)
          → UseFound nodes binders functions i k
      by f e (LocalVariable b) among stands =
          let same = only_one (pair i k) (pair (binder_number binders b) (function_number functions f)) stands in record {
            b = b;
            f = f;
            uses = record {
              own = record { n = at.n; among = at.among; inside = subst (λ (x : Usage). x.function ≡ Some f) at.is e };
              used = subst (λ (x : Usage). Among (LocalVariable b) x.used) at.is among;
            };
            from = from_is (pair i k) (pair (binder_number binders b) (function_number functions f)) same;
            to = to_is (pair i k) (pair (binder_number binders b) (function_number functions f)) same;
          }
      by f e (LocalFunction p count) among stands = absurd (none_among (pair i k) stands)

  pub use_found : (i k : ℕ) → relates g.uses i k ≡ true → UseFound nodes binders functions i k
  use_found i k e =
      let a = related_to (suc (length binders)) (flat_map (uses_in binders functions) (usages nodes)) g.uses i k graph.uses_are e in
      let j = from_flat_map (uses_in binders functions) (pair i k) (usages nodes) a in
      use_in i k j.x (node_of nodes j.x j.among) j.inside

  pub use_related : (b : Binder) (f : Position) → UsesOwn nodes b f → relates g.uses (binder_number binders b) (function_number functions f) ≡ true
  use_related b f u =
      let p = pair (binder_number binders b) (function_number functions f) in
      related_from (suc (length binders)) (flat_map (uses_in binders functions) (usages nodes)) g.uses (binder_number binders b) (function_number functions f)
      graph.uses_are (number_fits (same_binder b) binders)
      (in_flat_map (uses_in binders functions) p (usage_of u.own.n) (usages nodes) (in_map usage_of u.own.n nodes u.own.among)
      (in_one_from (innermost u.own.n.spot.functions) (λ h. flat_map (use_pairs binders functions h) (used_by u.own.n)) p f u.own.inside
      (in_flat_map (use_pairs binders functions f) p (LocalVariable b) (used_by u.own.n) u.used (here []))))

  bind_in : (i k : ℕ) (u : Usage) → NodeOf nodes u → Among (pair i k) (binds_in binders functions u) → BindFound nodes binders functions i k
  bind_in i k u at a =
      let o = in_one_to u.function (λ f. bound_pairs binders functions f u.declared) (pair i k) a in
      let m = from_map (bound_pair binders functions o.f) (pair i k) u.declared o.among in record {
        b = m.x;
        f = o.f;
        binds = record {
          own = record { n = at.n; among = at.among; inside = subst (λ (x : Usage). x.function ≡ Some o.f) at.is o.is };
          declared = subst (λ (x : Usage). Among m.x x.declared) at.is m.among;
        };
        from = from_is (pair i k) (bound_pair binders functions o.f m.x) m.is;
        to = to_is (pair i k) (bound_pair binders functions o.f m.x) m.is;
      }

  pub bind_found : (i k : ℕ) → relates g.binds i k ≡ true → BindFound nodes binders functions i k
  bind_found i k e =
      let a = related_to (suc (length binders)) (flat_map (binds_in binders functions) (usages nodes)) g.binds i k graph.binds_are e in
      let j = from_flat_map (binds_in binders functions) (pair i k) (usages nodes) a in
      bind_in i k j.x (node_of nodes j.x j.among) j.inside

  pub bind_related : (b : Binder) (f : Position) → BindsOwn nodes b f → relates g.binds (binder_number binders b) (function_number functions f) ≡ true
  bind_related b f u =
      let p = pair (binder_number binders b) (function_number functions f) in
      related_from (suc (length binders)) (flat_map (binds_in binders functions) (usages nodes)) g.binds (binder_number binders b) (function_number functions f)
      graph.binds_are (number_fits (same_binder b) binders)
      (in_flat_map (binds_in binders functions) p (usage_of u.own.n) (usages nodes) (in_map usage_of u.own.n nodes u.own.among)
      (in_one_from (innermost u.own.n.spot.functions) (λ h. bound_pairs binders functions h (binders_of u.own.n)) p f u.own.inside
      (in_map (bound_pair binders functions f) b (binders_of u.own.n) u.declared)))

  call_in : (i k : ℕ) (u : Usage) → NodeOf nodes u → Among (pair i k) (calls_in functions u) → CallFound nodes functions i k
  call_in i k u at a =
      let o = in_one_to u.function (λ f. flat_map (call_pairs functions f) u.used) (pair i k) a in
      let j = from_flat_map (call_pairs functions o.f) (pair i k) u.used o.among in
      by o.f o.is j.x j.among j.inside
    where
      by : (f : Position) → u.function ≡ Some f → (l : Local) → Among l u.used → Among (pair i k) (call_pairs functions f l)
          → CallFound nodes functions i k
      by f e (LocalVariable b) among stands = absurd (none_among (pair i k) stands)
      by f e (LocalFunction p count) among stands =
          let same = only_one (pair i k) (pair (function_number functions p) (function_number functions f)) stands in record {
            g = p;
            f = f;
            calls = record {
              own = record { n = at.n; among = at.among; inside = subst (λ (x : Usage). x.function ≡ Some f) at.is e };
              count = count;
              used = subst (λ (x : Usage). Among (LocalFunction p count) x.used) at.is among;
            };
            from = from_is (pair i k) (pair (function_number functions p) (function_number functions f)) same;
            to = to_is (pair i k) (pair (function_number functions p) (function_number functions f)) same;
          }

  pub call_found : (i k : ℕ) → relates g.users i k ≡ true → CallFound nodes functions i k
  call_found i k e =
      let a = related_to (suc (length functions)) (flat_map (calls_in functions) (usages nodes)) g.users i k graph.calls_are e in
      let j = from_flat_map (calls_in functions) (pair i k) (usages nodes) a in
      call_in i k j.x (node_of nodes j.x j.among) j.inside

  pub call_related : (h f : Position) → CallsOwn nodes h f → relates g.users (function_number functions h) (function_number functions f) ≡ true
  call_related h f u =
      let p = pair (function_number functions h) (function_number functions f) in
      related_from (suc (length functions)) (flat_map (calls_in functions) (usages nodes)) g.users (function_number functions h) (function_number functions f)
      graph.calls_are (number_fits (same_place h) functions)
      (in_flat_map (calls_in functions) p (usage_of u.own.n) (usages nodes) (in_map usage_of u.own.n nodes u.own.among)
      (in_one_from (innermost u.own.n.spot.functions) (λ q. flat_map (call_pairs functions q) (used_by u.own.n)) p f u.own.inside
      (in_flat_map (call_pairs functions f) p (LocalFunction h u.count) (used_by u.own.n) u.used (here []))))

  -- ---- captured variables

  module _ (counted : IsCounted nodes binders functions) where
    -- a variable that is captured is used
    pub captured_used : (b : Binder) (f : Position) → Captures nodes b f → Among b binders
    captured_used b f (own _ free e) = let u = uses_own nodes b f e in counted.variables u.own.n b u.own.among u.used
    captured_used b f (through _ h free c inner) = captured_used b h inner

    abbrev reached_by : Binder → ℕ → Type 0
    reached_by b k = Reaches g.users (row g.uses (binder_number binders b)) (row g.binds (binder_number binders b)) k

    not_bound : (b : Binder) (f : Position) → Among b binders → Among f functions → binds nodes f b ≡ false
        → relates g.binds (binder_number binders b) (function_number functions f) ≡ false
    not_bound b f a at free =
        false_from_ne_true (relates g.binds (binder_number binders b) (function_number functions f)) (λ e.
        let found = bind_found (binder_number binders b) (function_number functions f) e in
        let same_b : found.b ≡ b = one_binder b found.b binders a (sym found.from) in
        let same_f : found.f ≡ f = one_function f found.f functions at (sym found.to) in
        let bound : binds nodes f b ≡ true =
        subst (λ (q : Position). binds nodes q b ≡ true) same_f (subst (λ (c : Binder). binds nodes found.f c ≡ true) same_b (own_binds_it nodes found.b found.f found.binds)) in
        let no : ⊥ = cc in no)

    bound_not : (b : Binder) (f : Position) → relates g.binds (binder_number binders b) (function_number functions f) ≡ false → binds nodes f b ≡ false
    bound_not b f e =
        false_from_ne_true (binds nodes f b) (λ bound.
        let there = bind_related b f (binds_own nodes b f bound) in
        let no : ⊥ = cc in no)

    pub captured_reached : (b : Binder) (f : Position) → Captures nodes b f → reached_by b (function_number functions f)
    captured_reached b f (own _ free e) =
        let u = uses_own nodes b f e in
        relating.begin (function_number functions f) (use_related b f u)
        (not_bound b f (counted.variables u.own.n b u.own.among u.used) (counted.around u.own.n f u.own.among u.own.inside) free)
    captured_reached b f (through _ h free c inner) =
        let u = calls_own nodes h f c in
        relating.further (function_number functions h) (function_number functions f) (captured_reached b h inner) (call_related h f u)
        (not_bound b f (captured_used b h inner) (counted.around u.own.n f u.own.among u.own.inside) free)

    pub record ReachedFunction (b : Binder) (k : ℕ) : Type 0 where
      pub f : Position
      pub among : Among f functions
      pub is : k ≡ function_number functions f
      pub captures : Captures nodes b f

    pub reached_captured : (b : Binder) → (k : ℕ) → Among b binders → reached_by b k → ReachedFunction b k
    reached_captured b _ a (relating.begin k e free) =
        let found = use_found (binder_number binders b) k e in
        let same : found.b ≡ b = one_binder b found.b binders a (sym found.from) in
        let its : uses nodes found.f b ≡ true = subst (λ (c : Binder). uses nodes found.f c ≡ true) same (own_uses_it nodes found.b found.f found.uses) in record {
          f = found.f;
          among = counted.around found.uses.own.n found.f found.uses.own.among found.uses.own.inside;
          is = found.to;
          captures = own found.f (bound_not b found.f (subst (λ (j : ℕ). relates g.binds (binder_number binders b) j ≡ false) found.to free)) its;
        }
    reached_captured b _ a (relating.further j k from e free) =
        let before = reached_captured b j a from in
        let found = call_found j k e in
        let same : found.g ≡ before.f = one_function before.f found.g functions before.among (sym found.from ∙ before.is) in record {
          f = found.f;
          among = counted.around found.calls.own.n found.f found.calls.own.among found.calls.own.inside;
          is = found.to;
          captures =
              through found.f before.f (bound_not b found.f (subst (λ (i : ℕ). relates g.binds (binder_number binders b) i ≡ false) found.to free))
              (subst (λ (q : Position). Contains (called nodes found.f) q) same (own_calls_it nodes found.g found.f found.calls)) before.captures;
        }

    -- what is reached for a number is reached for a variable
    pub reached_for : (v k : ℕ) → Reaches g.users (row g.uses v) (row g.binds v) k → (b : Binder) × Among b binders × (v ≡ binder_number binders b)
    reached_for v _ (relating.begin k e free) =
        let found = use_found v k e in
        (found.b, counted.variables found.uses.own.n found.b found.uses.own.among found.uses.used, found.from)
    reached_for v _ (relating.further j k from e free) = reached_for v j from

    module _ (c : Relation) (captured : IsCaptured (suc (length functions)) g c) where
      pub related_captures : (b : Binder) (f : Position) → relates c (function_number functions f) (binder_number binders b) ≡ true → Captures nodes b f
      related_captures b f e =
          let reached = (captured.exact (function_number functions f) (binder_number binders b) (number_fits (same_place f) functions)).0 e in
          let for = reached_for (binder_number binders b) (function_number functions f) reached in
          let same : b ≡ for.0 = one_binder for.0 b binders for.1 for.2 in
          let at = reached_captured b (function_number functions f) (subst (λ (x : Binder). Among x binders) (sym same) for.1) reached in
          let same_f : f ≡ at.f = one_function at.f f functions at.among at.is in
          subst (λ (q : Position). Captures nodes b q) (sym same_f) at.captures

      pub captures_related : (b : Binder) (f : Position) → Captures nodes b f → relates c (function_number functions f) (binder_number binders b) ≡ true
      captures_related b f h =
          (captured.exact (function_number functions f) (binder_number binders b) (number_fits (same_place f) functions)).1 (captured_reached b f h)

      -- only variables are captured
      pub related_variable : (f v : ℕ) → f < suc (length functions) → relates c f v ≡ true → (b : Binder) × Among b binders × (v ≡ binder_number binders b)
      related_variable f v low e = reached_for v f ((captured.exact f v low).0 e)
