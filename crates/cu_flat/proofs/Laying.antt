-- Terms that are laid out after what there was, form by form.
use Rattle.std.proofs.Common.{◌≡◌, ℕ, ◌+◌, ◌-◌, Bool, true, false, cond, ◌||◌, ◌&&◌, List, [], ◌∷◌, ◌++◌, Result, Ok, Err, IfOk, IsTrue, filter, length, nat_eq, refl, ap, sym, subst, ◌∙◌, append-nil, append_assoc, arith, length-append}
use Rattle.std.specs.List.{list_all}
use Rattle.std.proofs.lemmas.Bool.{and_from, and_parts, eq-eqb, or_left, or_right}
use Rattle.std.proofs.lemmas.List.Elements.{filter-append}
use Rattle.std.proofs.lemmas.List.Folds.{list_any-append}
use Rattle.std.specs.declared.alloc.AllocError.{AllocError}
use Rattle.cu_calculus.specs.declared.ExprId.{ExprId}
use Rattle.cu_calculus.specs.Code as code
use Rattle.cu_calculus.specs.Code.{Branch, Expr}
use Rattle.cu_calculus.specs.Term as term
use Rattle.cu_calculus.specs.Term.{Alternatives, Term, Terms}
use Rattle.cu_calculus.specs.Valid.{holds}
use Rattle.cu_flat.specs.Inside.Laid.{AreLaid, BranchesAreLaid, IsLaid, IsLaidUnder, IsPushed}
use Rattle.cu_flat.specs.Layout.{beside, binding, branch_layouts, branches, branches_use, kept_of, layout, layouts, place, places, size, sizes, some_uses, uses}
use Rattle.cu_flat.specs.declared.arena.Laid.{Laid}
use Rattle.cu_calculus.specs.declared.Mode.{Mode}
use Rattle.cu_flat.proofs.Lengths.{length-branch_layouts, length-layout, length-layouts}

-- a term whose expression was written after its parts
pub laid-over : (r : Result Laid AllocError) (scope : List ℕ) (whole t : Term) (old mid new inside : List Expr) (e own : Expr) (us : List ℕ)
    → whole ≡ t → mid ≡ old ++ inside → length inside ≡ size t - 1
    → IfOk r (λ laid. laid.used.items ≡ us) → IfOk r (λ laid. IsPushed e mid new laid.place)
    → e ≡ own → layout (length old) scope t ≡ inside ++ own ∷ [] → us ≡ filter (uses t) scope
    → IfOk r (λ laid. IsLaid scope whole old new laid.place laid.used.items)
laid-over (Err x) scope whole t old mid new inside e own us is prefix long used pushed same laid use_ = tt
laid-over (Ok l) scope whole t old mid new inside e own us is prefix long used pushed same laid use_ =
    subst (λ (s : Term). IsLaid scope s old new l.place l.used.items) (sym is) (record {
      place = pushed.place ∙ ap (λ n. record { 0 = n }) (omega (arith, ap length prefix, length-append old inside, long));
      used_of = used ∙ use_;
      written = pushed.written ∙ ap (λ (es : List Expr). es ++ e ∷ []) prefix ∙ append_assoc old inside (e ∷ [])
          ∙ ap (λ (x : Expr). old ++ (inside ++ x ∷ [])) same ∙ ap (λ (es : List Expr). old ++ es) (sym laid);
    })

-- where the second of two parts begins
pub next-begins : (old mid inside : List Expr) (m : ℕ) → mid ≡ old ++ inside → length inside ≡ m → length mid ≡ length old + m
next-begins old mid inside m prefix long = omega (arith, ap length prefix, length-append old inside, long)

-- a term of two parts
pub laid-pair : (r : Result Laid AllocError) (scope inner : List ℕ) (whole t a b : Term) (old mid last new : List Expr) (pa pb : ExprId) (ua us : List ℕ)
    (e : ExprId → ExprId → Expr)
    → whole ≡ t → IsLaid scope a old mid pa ua → pb ≡ place (length mid) b → last ≡ mid ++ layout (length mid) inner b
    → IfOk r (λ laid. laid.used.items ≡ us) → IfOk r (λ laid. IsPushed (e pa pb) last new laid.place)
    → layout (length old) scope t ≡ layout (length old) scope a ++ layout (length old + size a) inner b
    ++ e (place (length old) a) (place (length old + size a) b) ∷ []
    → size t - 1 ≡ size a + size b → us ≡ filter (uses t) scope
    → IfOk r (λ laid. IsLaid scope whole old new laid.place laid.used.items)
laid-pair r scope inner whole t a b old mid last new pa pb ua us e is first there prefix used pushed laid sized use_ =
    let n = length old in
    let xs = layout n scope a in
    let ys = layout (n + size a) inner b in
    let next : length mid ≡ n + size a = next-begins old mid xs (size a) first.written (length-layout n scope a) in
    let second : last ≡ mid ++ ys = prefix ∙ ap (λ k. mid ++ layout k inner b) next in
    laid-over r scope whole t old last new (xs ++ ys) (e pa pb) (e (place n a) (place (n + size a) b)) us is
    (second ∙ ap (λ (es : List Expr). es ++ ys) first.written ∙ append_assoc old xs ys)
    (omega (arith, length-append xs ys, length-layout n scope a, length-layout (n + size a) inner b, sized)) used pushed
    (both-places e pa (place n a) pb (place (n + size a) b) first.place (there ∙ ap (λ k. place k b) next)) laid use_
  where
    both-places : (e : ExprId → ExprId → Expr) (a b c d : ExprId) → a ≡ b → c ≡ d → e a c ≡ e b d
    both-places e a b c d p q = rw (p, q) refl

-- ---- where variables are bound

thrice : (p q : ℕ → Bool) (xs : List ℕ) → filter p (filter q (filter p xs)) ≡ filter (λ y. p y && q y) xs
thrice p q [] = refl
thrice p q (x ∷ xs) = by (p x) (q x) refl refl (thrice p q xs)
  where
    by : (b c : Bool) → p x ≡ b → q x ≡ c → filter p (filter q (filter p xs)) ≡ filter (λ y. p y && q y) xs
        → filter p (filter q (cond b (x ∷ filter p xs) (filter p xs))) ≡ cond (b && c) (x ∷ filter (λ y. p y && q y) xs) (filter (λ y. p y && q y) xs)
    by true true is also_ rest = rw (also_, is) (ap (λ ys. x ∷ ys) rest)
    by true false is also_ rest = rw also_ rest
    by false c is also_ rest = rest

none-beside : (bound : List ℕ) (q : ℕ → Bool) (xs : List ℕ) → IsTrue (list_all (λ x. holds x bound) xs) → filter (beside bound) (filter q xs) ≡ []
none-beside bound q [] h = refl
none-beside bound q (x ∷ xs) h =
    let parts = and_parts (holds x bound) (list_all (λ y. holds y bound) xs) h in
    by (q x) (holds x bound) refl parts.0 (none-beside bound q xs parts.1)
  where
    by : (b c : Bool) → holds x bound ≡ c → c ≡ true → filter (beside bound) (filter q xs) ≡ []
        → filter (beside bound) (cond b (x ∷ filter q xs) (filter q xs)) ≡ []
    by true c is held rest = rw (is ∙ held) rest
    by false c is held rest = rest

all-held : (ys xs : List ℕ) → IsTrue (list_all (λ x. holds x (ys ++ xs)) xs)
all-held ys [] = refl
all-held ys (x ∷ xs) =
    let here : holds x (ys ++ x ∷ xs) ≡ true =
    list_any-append (nat_eq x) ys (x ∷ xs) ∙ or_right (holds x ys) (holds x (x ∷ xs)) (or_left (nat_eq x x) (holds x xs) (eq-eqb x x refl)) in
    and_from (holds x (ys ++ x ∷ xs)) (list_all (λ y. holds y (ys ++ x ∷ xs)) xs) here
    (subst (λ (zs : List ℕ). IsTrue (list_all (λ y. holds y zs) xs)) (append_assoc ys (x ∷ []) xs) (all-held (ys ++ x ∷ []) xs))

-- a term that was laid out where variables are bound
pub laid-under : (scope bound inner : List ℕ) (t : Term) (old new : List Expr) (e : ExprId) (used found : List ℕ)
    → inner ≡ binding bound scope → IsLaid inner t old new e used → found ≡ filter (beside bound) used
    → IsLaidUnder scope bound t old new e found
laid-under scope bound inner t old new e used found is laid is_found = record {
  place = laid.place;
  used_of = is_found ∙ ap (filter (beside bound)) (laid.used_of ∙ ap (filter (uses t)) is ∙ filter-append (uses t) (filter (beside bound) scope) bound)
      ∙ filter-append (beside bound) (filter (uses t) (filter (beside bound) scope)) (filter (uses t) bound)
      ∙ ap (λ (ys : List ℕ). filter (beside bound) (filter (uses t) (filter (beside bound) scope)) ++ ys) (none-beside bound (uses t) bound (all-held [] bound))
      ∙ append-nil (filter (beside bound) (filter (uses t) (filter (beside bound) scope)))
      ∙ thrice (beside bound) (uses t) scope;
  written = laid.written ∙ ap (λ xs. old ++ layout (length old) xs t) is;
}

-- a scope by another name
pub laid-with : (scope other : List ℕ) (t : Term) (old new : List Expr) (e : ExprId) (used : List ℕ) → other ≡ scope
    → IsLaid other t old new e used → IsLaid scope t old new e used
laid-with scope other t old new e used is laid = subst (λ (xs : List ℕ). IsLaid xs t old new e used) is laid

-- ---- the other forms

-- a head over its arguments
pub laid-headed : (r : Result Laid AllocError) (scope : List ℕ) (whole : Term) (ts : Terms) (old mid new : List Expr) (at : List ExprId) (us : List ℕ)
    (form : Terms → Term) (own : List ExprId → Expr)
    → whole ≡ form ts → AreLaid scope ts old mid at us
    → IfOk r (λ laid. laid.used.items ≡ us) → IfOk r (λ laid. IsPushed (own at) mid new laid.place)
    → layout (length old) scope (form ts) ≡ layouts (length old) scope ts ++ own (places (length old) ts) ∷ []
    → size (form ts) ≡ sizes ts + 1 → filter (some_uses ts) scope ≡ filter (uses (form ts)) scope
    → IfOk r (λ laid. IsLaid scope whole old new laid.place laid.used.items)
laid-headed r scope whole ts old mid new at us form own is laid used pushed form_is sized use_ =
    laid-over r scope whole (form ts) old mid new (layouts (length old) scope ts) (own at) (own (places (length old) ts)) us is laid.written
    (omega (arith, length-layouts (length old) scope ts, sized)) used pushed (ap own laid.places) form_is (laid.used_of ∙ use_)

-- a free variable
pub laid-bound : (r : Result Laid AllocError) (scope : List ℕ) (whole : Term) (x : ℕ) (t : Term) (old mid new : List Expr) (e : ExprId) (us : List ℕ)
    → whole ≡ term.Free x t → IsLaidUnder scope (x ∷ []) t old mid e us
    → IfOk r (λ laid. laid.used.items ≡ us) → IfOk r (λ laid. IsPushed (code.Free x e) mid new laid.place)
    → IfOk r (λ laid. IsLaid scope whole old new laid.place laid.used.items)
laid-bound r scope whole x t old mid new e us is laid used pushed =
    let inner = binding (x ∷ []) scope in
    laid-over r scope whole (term.Free x t) old mid new (layout (length old) inner t) (code.Free x e) (code.Free x (place (length old) t)) us is laid.written
    (omega (arith, length-layout (length old) inner t)) used pushed (ap (code.Free x) laid.place) refl laid.used_of

-- a case distinction
pub laid-case : (r : Result Laid AllocError) (scope : List ℕ) (whole : Term) (mode : Mode) (a : Term) (rows : Alternatives) (old mid last new : List Expr)
    (e : ExprId) (ua : List ℕ) (made : List Branch) (kept : List ℕ)
    → whole ≡ term.Case mode a rows → IsLaid scope a old mid e ua → BranchesAreLaid scope rows mid last made kept
    → IfOk r (λ laid. laid.used.items ≡ filter (λ x. uses a x || branches_use rows x) scope)
    → IfOk r (λ laid. IsPushed (code.Case mode kept e made) last new laid.place)
    → IfOk r (λ laid. IsLaid scope whole old new laid.place laid.used.items)
laid-case r scope whole mode a rows old mid last new e ua made kept is first second used pushed =
    let n = length old in
    let xs = layout n scope a in
    let ys = branch_layouts (n + size a) scope rows in
    let next : length mid ≡ n + size a = next-begins old mid xs (size a) first.written (length-layout n scope a) in
    let prefix : last ≡ mid ++ ys = second.written ∙ ap (λ k. mid ++ branch_layouts k scope rows) next in
    laid-over r scope whole (term.Case mode a rows) old last new (xs ++ ys) (code.Case mode kept e made)
    (code.Case mode (kept_of scope rows) (place n a) (branches (n + size a) rows)) (filter (λ x. uses a x || branches_use rows x) scope) is
    (prefix ∙ ap (λ (es : List Expr). es ++ ys) first.written ∙ append_assoc old xs ys)
    (omega (arith, length-append xs ys, length-layout n scope a, length-branch_layouts (n + size a) scope rows)) used pushed
    (three kept (kept_of scope rows) e (place n a) made (branches (n + size a) rows) second.used_of first.place
    (second.branches ∙ ap (λ k. branches k rows) next)) refl refl
  where
    three : (ks ls : List ℕ) (a b : ExprId) (bs cs : List Branch) → ks ≡ ls → a ≡ b → bs ≡ cs → code.Case mode ks a bs ≡ code.Case mode ls b cs
    three ks ls a b bs cs p q s = rw (p, q, s) refl
