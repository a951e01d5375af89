-- What is noted of a local function, and who uses whom.
use Rattle.std.proofs.Common.{◌≡◌, ◌↔◌, ◌||◌, ℕ, zero, suc, ◌+◌, ◌≤◌, ◌⊎◌, inl, inr, Bool, true, false, List, [], ◌∷◌, ◌++◌, length, set, take, slice_get, Some, refl, ap, sym, ◌∙◌, subst, arith}
use Rattle.std.proofs.Math.ListN.{length-set}
use Rattle.std.specs.BTreeMap.{is_at}
use Rattle.std.specs.BTreeSet.{insert_key}
use Rattle.std.specs.Cmp.{nat_cmp_is}
use Rattle.std.specs.List.{list_any}
use Rattle.std.specs.Ordering.{is_eq, nat_cmp}
use Rattle.std.specs.declared.cmp.Ordering.TheVariants.{Equal, Greater, Less}
use Rattle.std.specs.declared.cmp.Ordering.{Ordering}
use Rattle.cu_lift.proofs.Elements.{equal_by, first_or_rest, prefix_or_new, in_first, in_prefix, in_last, in_rest, inserted, none_in}
use Rattle.cu_cycles.proofs.Places.{before_or_not, one_element}
use Rattle.cu_lift.proofs.RowSteps.{pushed_keeps, pushed_or_old, pushed_there}
use Rattle.cu_lift.specs.Groups.{IsIn}
use Rattle.cu_lift.specs.Inside.Capturing.{Adds, AreUsers, IsLocal}
use Rattle.cu_lift.specs.Inside.Ordering.{IsAt, Row}
use Rattle.cu_lift.specs.declared.captures.Local.{Local}
use Rattle.cu_lift.specs.declared.captures.Part.TheVariants.{Binds, Calls, Uses}
use Rattle.cu_lift.specs.declared.captures.Part.{Part}

-- ---- membership as a test

at_by : (o : Ordering) (x y : ℕ) (xs : List ℕ) → nat_cmp x y ≡ o → (list_any (is_at (nat_cmp x)) xs ≡ true → IsIn xs x)
    → list_any (is_at (nat_cmp x)) (y ∷ xs) ≡ true → (x ≡ y) ⊎ (list_any (is_at (nat_cmp x)) xs ≡ true)
at_by Less x y xs e rest h = inr (subst (λ (o : Ordering). is_eq o || list_any (is_at (nat_cmp x)) xs ≡ true) e h)
at_by Equal x y xs e rest h = inl (equal_by x y e)
at_by Greater x y xs e rest h = inr (subst (λ (o : Ordering). is_eq o || list_any (is_at (nat_cmp x)) xs ≡ true) e h)

pub is_key : (xs : List ℕ) (x : ℕ) → list_any (is_at (nat_cmp x)) xs ≡ true → IsIn xs x
is_key [] x h = let none : false ≡ true = h in let absent : ⊥ = cc in absurd absent
is_key (y ∷ xs) x h = elim (at_by (nat_cmp x y) x y xs refl (is_key xs x) h) [
  | inl same ↦ subst (λ (z : ℕ). IsIn (z ∷ xs) x) same (in_first x xs)
  | inr rest ↦ in_rest x y xs (is_key xs x rest)
]

equal_self : (x : ℕ) → nat_cmp x x ≡ Equal
equal_self x = sym (nat_cmp_is x x Equal refl)

or_true : (a b : Bool) → b ≡ true → a || b ≡ true
or_true true b h = refl
or_true false b h = h

pub key_is : (xs : List ℕ) (x : ℕ) → IsIn xs x → list_any (is_at (nat_cmp x)) xs ≡ true
key_is [] x h = absurd (none_in x h)
key_is (y ∷ xs) x h = elim (first_or_rest x y xs h) [
  | inl same ↦
      ap (λ (o : Ordering). is_eq o || list_any (is_at (nat_cmp x)) xs) (ap (nat_cmp x) same ∙ equal_self x)
  | inr rest ↦ or_true (is_eq (nat_cmp x y)) (list_any (is_at (nat_cmp x)) xs) (key_is xs x rest)
]

pub no_key : (xs : List ℕ) (x : ℕ) → list_any (is_at (nat_cmp x)) xs ≡ false → IsIn xs x → ⊥
no_key xs x h at = let is : list_any (is_at (nat_cmp x)) xs ≡ true = key_is xs x at in cc

-- ---- one more part

other_kind : (ps : List Part) (part q : Part) (A : Type 0) → (part ≡ q → ⊥) → A ↔ IsIn ps q → A ↔ IsIn (ps ++ part ∷ []) q
other_kind ps part q A other h =
    (λ a. in_prefix q ps (part ∷ []) (h.0 a), λ k. elim (prefix_or_new q part ps k) [ inl old ↦ h.1 old | inr same ↦ absurd (other same) ])

-- a number that is put among others, or after them
module _ (make : ℕ → Part) (same : (x y : ℕ) → make x ≡ make y → x ≡ y) (ps : List Part) (x : ℕ) where
  put_kind : (xs more : List ℕ) (y : ℕ) → IsIn more x → ((z : ℕ) → IsIn xs z → IsIn more z) → ((z : ℕ) → IsIn more z → IsIn xs z ⊎ (x ≡ z))
      → IsIn xs y ↔ IsIn ps (make y) → IsIn more y ↔ IsIn (ps ++ make x ∷ []) (make y)
  put_kind xs more y new old all h = (
    λ k. elim (all y k) [
      | inl p ↦ in_prefix (make y) ps (make x ∷ []) (h.0 p)
      | inr p ↦ subst (λ (z : ℕ). IsIn (ps ++ make x ∷ []) (make z)) p (in_last (make x) ps)
    ],
    λ k. elim (prefix_or_new (make y) (make x) ps k) [
      | inl p ↦ old y (h.1 p)
      | inr p ↦ subst (λ (z : ℕ). IsIn more z) (same x y p) new
    ],
  )

  key_kind : (xs more : List ℕ) (y : ℕ) → more ≡ insert_key nat_cmp xs x → IsIn xs y ↔ IsIn ps (make y) → IsIn more y ↔ IsIn (ps ++ make x ∷ []) (make y)
  key_kind xs more y is h =
      subst (λ (zs : List ℕ). IsIn zs y ↔ IsIn (ps ++ make x ∷ []) (make y)) (sym is)
      (let put = inserted xs x in put_kind xs (insert_key nat_cmp xs x) y put.0 put.1 put.2 h)

  pushed_kind : (xs more : List ℕ) (y : ℕ) → more ≡ xs ++ x ∷ [] → IsIn xs y ↔ IsIn ps (make y) → IsIn more y ↔ IsIn (ps ++ make x ∷ []) (make y)
  pushed_kind xs more y is h =
      subst (λ (zs : List ℕ). IsIn zs y ↔ IsIn (ps ++ make x ∷ []) (make y)) (sym is)
      (put_kind xs (xs ++ x ∷ []) y (in_last x xs) (λ z k. in_prefix z xs (x ∷ []) k) (λ z k. prefix_or_new z x xs k) h)

same_use : (x y : ℕ) → Uses x ≡ Uses y → x ≡ y
same_use x y e = cc

same_call : (x y : ℕ) → Calls x ≡ Calls y → x ≡ y
same_call x y e = cc

same_binder : (x y : ℕ) → Binds x ≡ Binds y → x ≡ y
same_binder x y e = cc

use_no_call : (x y : ℕ) → Uses x ≡ Calls y → ⊥
use_no_call x y e = cc

use_no_binder : (x y : ℕ) → Uses x ≡ Binds y → ⊥
use_no_binder x y e = cc

call_no_binder : (x y : ℕ) → Calls x ≡ Binds y → ⊥
call_no_binder x y e = cc

pub notes_use : (ps : List Part) (x : ℕ) (old new : Local) → new.uses.keys ≡ insert_key nat_cmp old.uses.keys x → new.binds.keys ≡ old.binds.keys
    → new.calls.items ≡ old.calls.items → IsLocal ps old → IsLocal (ps ++ Uses x ∷ []) new
notes_use ps x old new uses binds calls h = record {
  uses = λ y. key_kind Uses same_use ps x old.uses.keys new.uses.keys y uses (h.uses y);
  binds = λ y.
      subst (λ (zs : List ℕ). IsIn zs y ↔ IsIn (ps ++ Uses x ∷ []) (Binds y)) (sym binds)
      (other_kind ps (Uses x) (Binds y) (IsIn old.binds.keys y) (use_no_binder x y) (h.binds y));
  calls = λ y.
      subst (λ (zs : List ℕ). IsIn zs y ↔ IsIn (ps ++ Uses x ∷ []) (Calls y)) (sym calls)
      (other_kind ps (Uses x) (Calls y) (IsIn old.calls.items y) (use_no_call x y) (h.calls y));
}

pub notes_call : (ps : List Part) (x : ℕ) (old new : Local) → new.uses.keys ≡ old.uses.keys → new.binds.keys ≡ old.binds.keys
    → new.calls.items ≡ old.calls.items ++ x ∷ [] → IsLocal ps old → IsLocal (ps ++ Calls x ∷ []) new
notes_call ps x old new uses binds calls h = record {
  uses = λ y.
      subst (λ (zs : List ℕ). IsIn zs y ↔ IsIn (ps ++ Calls x ∷ []) (Uses y)) (sym uses)
      (other_kind ps (Calls x) (Uses y) (IsIn old.uses.keys y) (λ e. use_no_call y x (sym e)) (h.uses y));
  binds = λ y.
      subst (λ (zs : List ℕ). IsIn zs y ↔ IsIn (ps ++ Calls x ∷ []) (Binds y)) (sym binds)
      (other_kind ps (Calls x) (Binds y) (IsIn old.binds.keys y) (call_no_binder x y) (h.binds y));
  calls = λ y. pushed_kind Calls same_call ps x old.calls.items new.calls.items y calls (h.calls y);
}

pub notes_binder : (ps : List Part) (x : ℕ) (old new : Local) → new.uses.keys ≡ old.uses.keys → new.binds.keys ≡ insert_key nat_cmp old.binds.keys x
    → new.calls.items ≡ old.calls.items → IsLocal ps old → IsLocal (ps ++ Binds x ∷ []) new
notes_binder ps x old new uses binds calls h = record {
  uses = λ y.
      subst (λ (zs : List ℕ). IsIn zs y ↔ IsIn (ps ++ Binds x ∷ []) (Uses y)) (sym uses)
      (other_kind ps (Binds x) (Uses y) (IsIn old.uses.keys y) (λ e. use_no_binder y x (sym e)) (h.uses y));
  binds = λ y. key_kind Binds same_binder ps x old.binds.keys new.binds.keys y binds (h.binds y);
  calls = λ y.
      subst (λ (zs : List ℕ). IsIn zs y ↔ IsIn (ps ++ Binds x ∷ []) (Calls y)) (sym calls)
      (other_kind ps (Binds x) (Calls y) (IsIn old.calls.items y) (λ e. call_no_binder y x (sym e)) (h.calls y));
}

pub notes_none : (l : Local) → l.uses.keys ≡ [] → l.binds.keys ≡ [] → l.calls.items ≡ [] → IsLocal [] l
notes_none l uses binds calls = record {
  uses = λ x. (λ k. absurd (none_in x (subst (λ (zs : List ℕ). IsIn zs x) uses k)), λ k. absurd (none_in (Uses x) k));
  binds = λ x. (λ k. absurd (none_in x (subst (λ (zs : List ℕ). IsIn zs x) binds k)), λ k. absurd (none_in (Binds x) k));
  calls = λ x. (λ k. absurd (none_in x (subst (λ (zs : List ℕ). IsIn zs x) calls k)), λ k. absurd (none_in (Calls x) k));
}

-- ---- the first elements of a list

pub take_next : {A : Type 0} (xs : List A) (n : ℕ) (x : A) → slice_get xs n ≡ Some x → take (n + 1) xs ≡ take n xs ++ x ∷ []
take_next [] n x e = let none : ⊥ = cc in absurd none
take_next (y ∷ []) zero x e = let same : y ≡ x = cc in ap (λ z. z ∷ []) same
take_next (y ∷ z ∷ xs) zero x e = let same : y ≡ x = cc in ap (λ w. w ∷ []) same
take_next (y ∷ xs) (suc n) x e =
    let one : suc n + 1 ≡ suc (n + 1) = omega arith in ap (λ (k : ℕ). take k (y ∷ xs)) one ∙ ap (λ zs. y ∷ zs) (take_next xs n x e)

pub take_whole : {A : Type 0} (xs : List A) (n : ℕ) → length xs ≤ n → take n xs ≡ xs
take_whole [] zero h = refl
take_whole [] (suc n) h = refl
take_whole (x ∷ xs) zero h = absurd (omega arith)
take_whole (x ∷ xs) (suc n) h = ap (λ ys. x ∷ ys) (take_whole xs n (omega arith))

pub take_none : {A : Type 0} (xs : List A) → take 0 xs ≡ []
take_none [] = refl
take_none (x ∷ xs) = refl

-- ---- users

pub adds_none : (calls : List ℕ) (k : ℕ) (rows : List Row) → Adds (take 0 calls) k rows rows
adds_none calls k rows = record {
  sized = refl;
  only = λ h j at. inl at;
  keeps = λ h j at. at;
  all = λ h at low. absurd (none_in h (subst (λ (xs : List ℕ). IsIn xs h) (take_none calls) at));
}

module _ (calls : List ℕ) (k i c : ℕ) (first old : List Row) (at : slice_get calls i ≡ Some c) (adds : Adds (take i calls) k first old) where
  more_in : (h : ℕ) → IsIn (take i calls) h → IsIn (take (i + 1) calls) h
  more_in h p = subst (λ (xs : List ℕ). IsIn xs h) (sym (take_next calls i c at)) (in_prefix h (take i calls) (c ∷ []) p)

  now_in : IsIn (take (i + 1) calls) c
  now_in = subst (λ (xs : List ℕ). IsIn xs c) (sym (take_next calls i c at)) (in_last c (take i calls))

  in_or_now : (h : ℕ) → IsIn (take (i + 1) calls) h → IsIn (take i calls) h ⊎ (c ≡ h)
  in_or_now h p = prefix_or_new h c (take i calls) (subst (λ (xs : List ℕ). IsIn xs h) (take_next calls i c at) p)

  -- a call of a local function that there isn't
  pub adds_outside : length old ≤ c → Adds (take (i + 1) calls) k first old
  adds_outside out = record {
    sized = adds.sized;
    only = λ h j p. elim (adds.only h j p) [ inl q ↦ inl q | inr q ↦ inr (q.0, more_in h q.1) ];
    keeps = adds.keeps;
    all = λ h p low. elim (in_or_now h p) [
      | inl q ↦ adds.all h q low
      | inr q ↦ let size = adds.sized in absurd (omega arith)
    ];
  }

  pub adds_one : (row more : Row) → slice_get old c ≡ Some row → more.items ≡ row.items ++ k ∷ [] → Adds (take (i + 1) calls) k first (set old c more)
  adds_one row more is_row pushed = record {
    sized = length-set old c more ∙ adds.sized;
    only = λ h j p. by h j (pushed_or_old old c row more is_row k pushed h j p);
    keeps = λ h j p. pushed_keeps old c row more is_row k pushed h j (adds.keeps h j p);
    all = λ h p low. elim (in_or_now h p) [
      | inl q ↦ pushed_keeps old c row more is_row k pushed h k (adds.all h q low)
      | inr q ↦ subst (λ (x : ℕ). IsAt (set old c more) x k) q (pushed_there old c row more is_row k pushed)
    ];
  }
    where
      old_one : (h j : ℕ) → IsAt first h j ⊎ ((k ≡ j) × IsIn (take i calls) h) → IsAt first h j ⊎ ((k ≡ j) × IsIn (take (i + 1) calls) h)
      old_one h j (inl q) = inl q
      old_one h j (inr q) = inr (q.0, more_in h q.1)

      by : (h j : ℕ) → IsAt old h j ⊎ ((h ≡ c) × (k ≡ j)) → IsAt first h j ⊎ ((k ≡ j) × IsIn (take (i + 1) calls) h)
      by h j (inl q) = old_one h j (adds.only h j q)
      by h j (inr q) = inr (q.1, subst (λ (x : ℕ). IsIn (take (i + 1) calls) x) (sym q.0) now_in)

pub users_none : (locals : List Local) (rows : List Row) → length rows ≡ length locals
    → ((k : ℕ) (row : Row) → slice_get rows k ≡ Some row → row.items ≡ []) → AreUsers locals 0 rows
users_none locals rows sized empty = record {
  sized = sized;
  calls = λ h k at. absurd (none_in k (subst (λ (x : List ℕ). IsIn x k) (empty h at.0 at.1) at.2));
  all = λ h k l less low e at. absurd (omega arith);
}

pub users_next : (locals : List Local) (n : ℕ) (l : Local) (old new : List Row) → AreUsers locals n old → slice_get locals n ≡ Some l → Adds l.calls.items n old new
    → AreUsers locals (n + 1) new
users_next locals n l old new users at adds = record {
  sized = adds.sized ∙ users.sized;
  calls = λ h k p. by h k (adds.only h k p);
  all = λ h k other less low e p. elim (before_or_not k n) [
    | inl under ↦ adds.keeps h k (users.all h k other under low e p)
    | inr over ↦
        let same : n ≡ k = omega arith in
        let its : l ≡ other = one_element locals k l other (subst (λ (x : ℕ). slice_get locals x ≡ Some l) same at) e in
        let size = users.sized in
        subst (λ (x : ℕ). IsAt new h x) same (adds.all h (subst (λ (x : Local). IsIn x.calls.items h) (sym its) p) (omega arith))
  ];
}
  where
    by : (h k : ℕ) → IsAt old h k ⊎ ((n ≡ k) × IsIn l.calls.items h) → (m : Local) × (slice_get locals k ≡ Some m) × IsIn m.calls.items h
    by h k (inl q) = users.calls h k q
    by h k (inr q) = (l, subst (λ (x : ℕ). slice_get locals x ≡ Some l) q.0 at, q.1)

pub users_all : (locals : List Local) (n : ℕ) (rows : List Row) → length locals ≤ n → AreUsers locals n rows → AreUsers locals (length locals) rows
users_all locals n rows end users = record {
  sized = users.sized;
  calls = users.calls;
  all = λ h k l less low e at. users.all h k l (omega arith) low e at;
}

-- ---- one more element

pub first_or_next : {A : Type 0} (xs : List A) (i : ℕ) (x y : A) → slice_get xs i ≡ Some x → IsIn (take (i + 1) xs) y → IsIn (take i xs) y ⊎ (x ≡ y)
first_or_next {A} xs i x y e h = prefix_or_new y x (take i xs) (subst (λ (zs : List A). IsIn zs y) (take_next xs i x e) h)

-- what was added stays, and so does what is added
pub added : (first old new : List ℕ) (x : ℕ) → new ≡ insert_key nat_cmp old x → ((y : ℕ) → IsIn first y → IsIn old y)
    → ((y : ℕ) → IsIn first y → IsIn new y) × ((y : ℕ) → IsIn old y → IsIn new y) × IsIn new x
added first old new x is keeps =
    let put = inserted old x in (
      λ y h. subst (λ (zs : List ℕ). IsIn zs y) (sym is) (put.1 y (keeps y h)),
      λ y h. subst (λ (zs : List ℕ). IsIn zs y) (sym is) (put.1 y h),
      subst (λ (zs : List ℕ). IsIn zs x) (sym is) put.0,
    )

use_is : (p : Part) (x y : ℕ) → p ≡ Uses x → p ≡ Uses y → x ≡ y
use_is p x y e d = same_use x y (sym e ∙ d)

-- a use that isn't bound was added
pub owned_added : (ps : List Part) (i : ℕ) (p : Part) (x : ℕ) (binds old new : List ℕ) → slice_get ps i ≡ Some p → p ≡ Uses x
    → ((y : ℕ) → IsIn (take i ps) (Uses y) → (IsIn binds y → ⊥) → IsIn old y) → ((y : ℕ) → IsIn old y → IsIn new y) → IsIn new x
    → (y : ℕ) → IsIn (take (i + 1) ps) (Uses y) → (IsIn binds y → ⊥) → IsIn new y
owned_added ps i p x binds old new e is before keeps here y h free = elim (first_or_next ps i p (Uses y) e h) [
  | inl early ↦ keeps y (before y early free)
  | inr same ↦ subst (λ (z : ℕ). IsIn new z) (use_is p x y is same) here
]

-- a use that is bound is none of its own
pub owned_bound : (ps : List Part) (i : ℕ) (p : Part) (x : ℕ) (binds old : List ℕ) → slice_get ps i ≡ Some p → p ≡ Uses x → IsIn binds x
    → ((y : ℕ) → IsIn (take i ps) (Uses y) → (IsIn binds y → ⊥) → IsIn old y)
    → (y : ℕ) → IsIn (take (i + 1) ps) (Uses y) → (IsIn binds y → ⊥) → IsIn old y
owned_bound ps i p x binds old e is in_binds before y h free = elim (first_or_next ps i p (Uses y) e h) [
  | inl early ↦ before y early free
  | inr same ↦ absurd (free (subst (λ (z : ℕ). IsIn binds z) (use_is p x y is same) in_binds))
]

pub owned_other : (ps : List Part) (i : ℕ) (p : Part) (binds old : List ℕ) → slice_get ps i ≡ Some p → ((x : ℕ) → p ≡ Uses x → ⊥)
    → ((y : ℕ) → IsIn (take i ps) (Uses y) → (IsIn binds y → ⊥) → IsIn old y)
    → (y : ℕ) → IsIn (take (i + 1) ps) (Uses y) → (IsIn binds y → ⊥) → IsIn old y
owned_other ps i p binds old e other before y h free = elim (first_or_next ps i p (Uses y) e h) [
  | inl early ↦ before y early free
  | inr same ↦ absurd (other y same)
]
