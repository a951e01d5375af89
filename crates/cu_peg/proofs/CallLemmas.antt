-- What the closures of nullable rows and of calls have.
use Rattle.std.proofs.Common.{◌≡◌, ◌≢◌, ℕ, ◌<◌, ◌≤◌, ◌⊎◌, inl, inr, Bool, true, false, List, [], ◌∷◌, ◌++◌, Option, None, Some, length, map, get_or, set, replicate, take, eqb, refl, ap, sym, subst, ◌∙◌, arith, true≢false, eqb-true, eq-eqb, length-append, length-set, get_or-set_same}
use Rattle.std.specs.Prelude.{All, Contains, slice_get, if◌then◌else◌}
use Rattle.std.specs.List.{list_all, list_any}
use Rattle.std.specs.Option.{option_map}
use Rattle.std.proofs.lemmas.Option.{slice_get_within, slice_get-map, slice_get_cases}
use Rattle.std.proofs.lemmas.List.{get_or_append_left, get_or_at, length-map, length-replicate, take-append-le, take_at}
use Rattle.std.proofs.lemmas.List.Elements.{All-push, Contains-append_left, Contains-push}
use Rattle.cu_peg.specs.Inside.CallTables.{TellsNullable, callees, called, calls_by, nullable_by, repeats}
use Rattle.cu_peg.specs.Inside.Closure as closure
use Rattle.cu_peg.specs.Inside.Closure.{Derived, IsSaturated, MayJoin, holds, marked}
use Rattle.cu_peg.specs.declared.closure.Condition.{Condition}
use Rattle.cu_peg.specs.declared.closure.Quantifier.TheVariants as quantifier
use Rattle.cu_peg.specs.declared.row.Row.{Row}
use Rattle.cu_peg.specs.declared.row.Row.TheVariants as row
use Rattle.cu_peg.specs.Order.{IsOrder}
use Rattle.cu_peg.specs.WellFormed as w
use Rattle.cu_peg.specs.WellFormed.{Calls, IsClosed, IsEndless, IsLeftRecursive, IsNullable, IsWellFormed, Reaches, RepeatsNullable, RowCalls, RowIsNullable, RowRepeatsNullable}
use Rattle.cu_peg.proofs.ClosureLemmas.{Among, all_from, all_pass, any_from, both, derived_have, derived_keep, here, marked-set, none_marked, or_right, some_passes, there}
use Rattle.cu_peg.proofs.FoundedRows.{Founded, all_founded, calls_within, founded}

-- the row that a condition comes from
pub record Source (f : Row → Condition) (rows : List Row) (r : ℕ) (c : Condition) : Type 0 where
  pub source : Row
  pub is : slice_get rows r ≡ Some source
  pub gives : f source ≡ c

pub source_of : (f : Row → Condition) (rows : List Row) (r : ℕ) (c : Condition) → slice_get (map f rows) r ≡ Some c → Source f rows r c
source_of f rows r c e = by (slice_get rows r) refl (sym (slice_get-map f rows r) ∙ e)
  where
    by : (o : Option Row) → slice_get rows r ≡ o → option_map f o ≡ Some c → Source f rows r c
    by None e h = let never : ⊥ = cc in absurd never
    by (Some s) e h = record { source = s; is = e; gives = cc }

pub condition_at : (f : Row → Condition) (rows : List Row) (r : ℕ) (e : Row) → slice_get rows r ≡ Some e → slice_get (map f rows) r ≡ Some (f e)
condition_at f rows r e is = slice_get-map f rows r ∙ ap (option_map f) is

-- a row that may match without end is in the table
pub reaches_within : (rows : List Row) (r q : ℕ) → Reaches rows r q → r < length rows
reaches_within rows _ _ (w.one r q d) = slice_get_within rows r d.caller d.is
reaches_within rows _ _ (w.more r p q d far) = slice_get_within rows r d.caller d.is

pub endless_within : (rows : List Row) (r : ℕ) → IsEndless rows r → r < length rows
endless_within rows r (inl far) = reaches_within rows r r far
endless_within rows r (inr e) = slice_get_within rows r e.repeater e.is

-- nullable rows
module _ (rows : List Row) where
  all_nullable : (ps : List ℕ) → ((q : ℕ) → Among q ps → IsNullable rows q) → RowIsNullable rows (row.Sequence ps)
  all_nullable [] h = w.empty
  all_nullable (p ∷ ps) h = w.sequence p ps (h p (here ps)) (all_nullable ps (λ q a. h q (there p ps a)))

  any_nullable : (q : ℕ) (ps : List ℕ) → Among q ps → IsNullable rows q → RowIsNullable rows (row.Choice ps)
  any_nullable q _ (here ps) n = w.first q ps n
  any_nullable q _ (there p ps a) n = w.later p ps (any_nullable q ps a n)

  nullable_row : (marks : List Bool) (e : Row) → holds marks (nullable_by e) ≡ true → ((q : ℕ) → marked marks q ≡ true → IsNullable rows q) → RowIsNullable rows e
  nullable_row marks (row.Token c) h all = absurd (true≢false (sym h))
  nullable_row marks (row.Sequence ps) h all = all_nullable ps (λ q a. all q (all_pass (marked marks) q ps h a))
  nullable_row marks (row.Choice ps) h all = let p = some_passes (marked marks) ps h in any_nullable p.number ps p.among (all p.number p.passes)
  nullable_row marks (row.Optional p) h all = w.optional p
  nullable_row marks (row.Many p) h all = w.many p
  nullable_row marks (row.AtLeastOne p) h all = w.at_least_one p (all p (all_pass (marked marks) p (p ∷ []) h (here [])))
  nullable_row marks (row.SeparatedBy p s) h all = w.separated p s (all p (all_pass (marked marks) p (p ∷ []) h (here [])))
  nullable_row marks (row.Ahead p) h all = w.ahead p
  nullable_row marks (row.NotAhead p) h all = w.not_ahead p

  one_holds : (marks : List Bool) (p : ℕ) → marked marks p ≡ true → list_all (marked marks) (p ∷ []) ≡ true
  one_holds marks p h = rw h refl

  mutual
    nullable_marked : (marks : List Bool) → IsSaturated (map nullable_by rows) marks → {r : ℕ} → IsNullable rows r → marked marks r ≡ true
    nullable_marked marks full (w.nullable r e is d) = full r (nullable_by e) (condition_at nullable_by rows r e is) (row_holds marks full d)

    row_holds : (marks : List Bool) → IsSaturated (map nullable_by rows) marks → {e : Row} → RowIsNullable rows e → holds marks (nullable_by e) ≡ true
    row_holds marks full w.empty = refl
    row_holds marks full (w.sequence p ps n d) = rw (nullable_marked marks full n) (row_holds marks full d)
    row_holds marks full (w.first p ps n) = rw (nullable_marked marks full n) refl
    row_holds marks full (w.later p ps d) = or_right (marked marks p) (list_any (marked marks) ps) (row_holds marks full d)
    row_holds marks full (w.optional p) = refl
    row_holds marks full (w.many p) = refl
    row_holds marks full (w.at_least_one p n) = one_holds marks p (nullable_marked marks full n)
    row_holds marks full (w.separated p s n) = one_holds marks p (nullable_marked marks full n)
    row_holds marks full (w.ahead p) = refl
    row_holds marks full (w.not_ahead p) = refl

  pub tells_nullable : (conditions : List Condition) (start marks : List Bool) (order : List ℕ) (n : ℕ) → conditions ≡ map nullable_by rows → start ≡ replicate n false
      → Derived conditions start marks order → IsSaturated conditions marks → TellsNullable rows marks
  tells_nullable conditions start marks order n e f d full r = (
    derived_have conditions start (IsNullable rows)
        (λ q h. absurd (none_marked n q (subst (λ (ms : List Bool). marked ms q ≡ true) f h)))
        (λ marks q c is h all.
        let s = source_of nullable_by rows q c (ap (λ (cs : List Condition). slice_get cs q) (sym e) ∙ is) in
        w.nullable q s.source s.is (nullable_row marks s.source (ap (holds marks) s.gives ∙ h) all))
        marks order d r,
    nullable_marked marks (subst (λ (cs : List Condition). IsSaturated cs marks) e full) {r = r},
  )

  -- calls
  module _ (nullable : List Bool) (tells : TellsNullable rows nullable) where
    called_calls : (ps : List ℕ) (q : ℕ) → Among q (called nullable ps) → RowCalls rows (row.Sequence ps) q
    called_calls [] q a = elim a [ ]
    called_calls (p ∷ ps) _ (here _) = w.first_part p ps
    called_calls (p ∷ ps) q (there _ _ a) = by (marked nullable p) refl a (called_calls ps q)
      where
        by : (b : Bool) → marked nullable p ≡ b → Among q (if b then called nullable ps else []) → (Among q (called nullable ps) → RowCalls rows (row.Sequence ps) q)
            → RowCalls rows (row.Sequence (p ∷ ps)) q
        by true e a more = w.later_part p ps q ((tells p).0 e) (more a)
        by false e a more = elim a [ ]

    choice_calls : (q : ℕ) (ps : List ℕ) → Among q ps → RowCalls rows (row.Choice ps) q
    choice_calls q _ (here ps) = w.first_alternative q ps
    choice_calls q _ (there p ps a) = w.later_alternative p ps q (choice_calls q ps a)

    separated_calls : (p s q : ℕ) → RowCalls rows (row.Sequence (p ∷ s ∷ [])) q → RowCalls rows (row.SeparatedBy p s) q
    separated_calls p s _ (w.first_part _ _) = w.separated_part p s
    separated_calls p s _ (w.later_part _ _ _ n (w.first_part _ _)) = w.separator p s n
    separated_calls p s q (w.later_part _ _ _ n (w.later_part _ _ _ k c)) = elim c [ ]

    only_one : (p q : ℕ) → Among q (p ∷ []) → q ≡ p
    only_one p _ (here _) = refl
    only_one p q (there _ _ a) = elim a [ ]

    -- what is among the callees is called
    among_calls : (e : Row) (q : ℕ) → Among q (callees nullable e) → RowCalls rows e q
    among_calls (row.Token c) q a = elim a [ ]
    among_calls (row.Sequence ps) q a = called_calls ps q a
    among_calls (row.Choice ps) q a = choice_calls q ps a
    among_calls (row.Optional p) q a = subst (RowCalls rows (row.Optional p)) (sym (only_one p q a)) (w.optional_part p)
    among_calls (row.Many p) q a = subst (RowCalls rows (row.Many p)) (sym (only_one p q a)) (w.many_part p)
    among_calls (row.AtLeastOne p) q a = subst (RowCalls rows (row.AtLeastOne p)) (sym (only_one p q a)) (w.at_least_one_part p)
    among_calls (row.SeparatedBy p s) q a = separated_calls p s q (called_calls (p ∷ s ∷ []) q a)
    among_calls (row.Ahead p) q a = subst (RowCalls rows (row.Ahead p)) (sym (only_one p q a)) (w.ahead_part p)
    among_calls (row.NotAhead p) q a = subst (RowCalls rows (row.NotAhead p)) (sym (only_one p q a)) (w.not_ahead_part p)

    after : (p q : ℕ) (ps : List ℕ) → IsNullable rows p → Among q ps → Among q (p ∷ (if marked nullable p then ps else []))
    after p q ps n a = there p (if marked nullable p then ps else []) (subst (λ (b : Bool). Among q (if b then ps else [])) (sym ((tells p).1 n)) a)

    -- what is called is among the callees
    calls_among : {e : Row} {q : ℕ} → RowCalls rows e q → Among q (callees nullable e)
    calls_among (w.first_part p ps) = here (if marked nullable p then called nullable ps else [])
    calls_among (w.later_part p ps q n c) = after p q (called nullable ps) n (calls_among c)
    calls_among (w.first_alternative p ps) = here ps
    calls_among (w.later_alternative p ps q c) = there p ps (calls_among c)
    calls_among (w.optional_part p) = here []
    calls_among (w.many_part p) = here []
    calls_among (w.at_least_one_part p) = here []
    calls_among (w.separated_part p s) = here (if marked nullable p then called nullable (s ∷ []) else [])
    calls_among (w.separator p s n) = after p s (called nullable (s ∷ [])) n (here (if marked nullable s then called nullable [] else []))
    calls_among (w.ahead_part p) = here []
    calls_among (w.not_ahead_part p) = here []

    same_row_at : (r : ℕ) (e f : Row) → slice_get rows r ≡ Some e → slice_get rows r ≡ Some f → e ≡ f
    same_row_at r e f p q = cc

    -- a row that repeats nothing, by the test
    pub repeats_by : (e : Row) → repeats nullable e ≡ true → RowRepeatsNullable rows e
    repeats_by (row.Many p) h = w.repeated_many p ((tells p).0 h)
    repeats_by (row.AtLeastOne p) h = w.repeated_at_least_one p ((tells p).0 h)
    repeats_by (row.SeparatedBy p s) h =
        let each = both (marked nullable p) (marked nullable s) h in w.repeated_separated p s ((tells p).0 each.0) ((tells s).0 each.1)
    repeats_by (row.Token c) h = absurd (true≢false (sym h))
    repeats_by (row.Sequence ps) h = absurd (true≢false (sym h))
    repeats_by (row.Choice ps) h = absurd (true≢false (sym h))
    repeats_by (row.Optional p) h = absurd (true≢false (sym h))
    repeats_by (row.Ahead p) h = absurd (true≢false (sym h))
    repeats_by (row.NotAhead p) h = absurd (true≢false (sym h))

    pub by_repeats : (e : Row) → RowRepeatsNullable rows e → repeats nullable e ≡ true
    by_repeats _ (w.repeated_many p n) = (tells p).1 n
    by_repeats _ (w.repeated_at_least_one p n) = (tells p).1 n
    by_repeats _ (w.repeated_separated p s n k) = rw ((tells p).1 n) ((tells s).1 k)

    -- whether a row repeats nothing, and whether it may match without end
    pub repeats_nullable_by : (r : ℕ) (e : Row) → slice_get rows r ≡ Some e → RepeatsNullable rows r → repeats nullable e ≡ true
    repeats_nullable_by r e is d = let same : d.repeater ≡ e = same_row_at r d.repeater e d.is is in ap (repeats nullable) (sym same) ∙ by_repeats d.repeater d.repeats

    pub endless_by : (r : ℕ) (e : Row) → slice_get rows r ≡ Some e → repeats nullable e ≡ false → IsEndless rows r → IsLeftRecursive rows r
    endless_by r e is not_so (inl far) = far
    endless_by r e is not_so (inr d) = absurd (true≢false (sym (repeats_nullable_by r e is d) ∙ not_so))

    -- what a condition on calls asks for
    module _ (conditions : List Condition) (is : conditions ≡ map (calls_by quantifier.Any nullable) rows) where
      calls_at : (r : ℕ) (e : Row) → slice_get rows r ≡ Some e → slice_get conditions r ≡ Some (calls_by quantifier.Any nullable e)
      calls_at r e h = ap (λ (cs : List Condition). slice_get cs r) is ∙ condition_at (calls_by quantifier.Any nullable) rows r e h

      caller_of : (r : ℕ) (c : Condition) → slice_get conditions r ≡ Some c → Source (calls_by quantifier.Any nullable) rows r c
      caller_of r c h = source_of (calls_by quantifier.Any nullable) rows r c (ap (λ (cs : List Condition). slice_get cs r) (sym is) ∙ h)

      reached : (t r : ℕ) (e : Row) (q : ℕ) → slice_get rows r ≡ Some e → Among q (callees nullable e) → (q ≡ t) ⊎ Reaches rows q t → Reaches rows r t
      reached t r e q h a (inl same) = w.one r t (record { caller = e; is = h; calls = subst (RowCalls rows e) same (among_calls e q a) })
      reached t r e q h a (inr far) = w.more r q t (record { caller = e; is = h; calls = among_calls e q a }) far

      held_reaches : (t r : ℕ) (c : Condition) (marks : List Bool) → slice_get conditions r ≡ Some c → holds marks c ≡ true
          → ((q : ℕ) → marked marks q ≡ true → (q ≡ t) ⊎ Reaches rows q t) → Reaches rows r t
      held_reaches t r c marks h held all =
          let s = caller_of r c h in
          let passes = some_passes (marked marks) (callees nullable s.source) (ap (holds marks) s.gives ∙ held) in
          reached t r s.source passes.number s.is passes.among (all passes.number passes.passes)

      calls_held : (marks : List Bool) (r q : ℕ) (d : Calls rows r q) → marked marks q ≡ true → holds marks (calls_by quantifier.Any nullable d.caller) ≡ true
      calls_held marks r q d h = any_from (marked marks) q (callees nullable d.caller) (calls_among d.calls) h

      reaching : (t : ℕ) (marks : List Bool) → IsSaturated conditions marks → marked marks t ≡ true → {r q : ℕ} → Reaches rows r q → q ≡ t → marked marks r ≡ true
      reaching t marks full first (w.one r q d) e =
          full r (calls_by quantifier.Any nullable d.caller) (calls_at r d.caller d.is) (calls_held marks r q d (subst (λ (k : ℕ). marked marks k ≡ true) (sym e) first))
      reaching t marks full first (w.more r p q d far) e =
          full r (calls_by quantifier.Any nullable d.caller) (calls_at r d.caller d.is) (calls_held marks r p d (reaching t marks full first far e))

      same_condition : (r : ℕ) (c d : Condition) → slice_get conditions r ≡ Some c → slice_get conditions r ≡ Some d → d ≡ c
      same_condition r c d p q = cc

      held_from : (t : ℕ) (marks : List Bool) (c : Condition) → slice_get conditions t ≡ Some c → IsSaturated conditions marks → marked marks t ≡ true
          → {r q : ℕ} → Reaches rows r q → r ≡ t → q ≡ t → holds marks c ≡ true
      held_from t marks c h full first (w.one r q d) e f =
          ap (holds marks) (sym (same_condition r c (calls_by quantifier.Any nullable d.caller) (ap (slice_get conditions) e ∙ h) (calls_at r d.caller d.is)))
          ∙ calls_held marks r q d (subst (λ (k : ℕ). marked marks k ≡ true) (sym f) first)
      held_from t marks c h full first (w.more r p q d far) e f =
          ap (holds marks) (sym (same_condition r c (calls_by quantifier.Any nullable d.caller) (ap (slice_get conditions) e ∙ h) (calls_at r d.caller d.is)))
          ∙ calls_held marks r p d (reaching t marks full first far f)

      -- the condition of a row holds of the rows that reach it, and of the row, where it reaches itself
      pub held_by_itself : (t n : ℕ) (start marks : List Bool) (order : List ℕ) (c : Condition) → slice_get conditions t ≡ Some c → start ≡ set (replicate n false) t true
          → n ≡ length conditions → Derived conditions start marks order → IsSaturated conditions marks
          → (holds marks c ≡ true → IsLeftRecursive rows t) × (IsLeftRecursive rows t → holds marks c ≡ true)
      held_by_itself t n start marks order c h from long d full =
          let within : t < length (replicate n false) = omega (arith, slice_get_within conditions t c h, length-replicate n false) in
          let begun : marked start t ≡ true =
          ap (λ (ms : List Bool). marked ms t) from ∙ get_or-set_same (replicate n false) t true false within in
          let as_long : length start ≡ length conditions =
          ap length from ∙ length-set (replicate n false) t true ∙ length-replicate n false ∙ long in
          let first : marked marks t ≡ true = derived_keep conditions start as_long marks order d t begun in
          (λ held. held_reaches t t c marks h held (marked_reach t n start marks order from d), λ far. held_from t marks c h full first far refl refl)
        where
          marked_reach : (t n : ℕ) (start marks : List Bool) (order : List ℕ) → start ≡ set (replicate n false) t true → Derived conditions start marks order
              → (q : ℕ) → marked marks q ≡ true → (q ≡ t) ⊎ Reaches rows q t
          marked_reach t n start marks order from d =
              derived_have conditions start (λ (q : ℕ). (q ≡ t) ⊎ Reaches rows q t)
              (λ q h. at_start t n q (marked-set (replicate n false) t q (subst (λ (ms : List Bool). marked ms q ≡ true) from h)))
              (λ ms q c h held all. inr (held_reaches t q c ms h held all)) marks order d
            where
              at_start : (t n q : ℕ) → (q ≡ t) ⊎ (marked (replicate n false) q ≡ true) → (q ≡ t) ⊎ Reaches rows q t
              at_start t n q (inl e) = inl e
              at_start t n q (inr h) = absurd (none_marked n q h)

    -- the order of calls
    module _ (conditions : List Condition) (is : conditions ≡ map (calls_by quantifier.All nullable) rows) where
      record InOrder (marks : List Bool) (order : List ℕ) : Type 0 where
        within : All (λ r. r < length rows) order
        has : (q : ℕ) → marked marks q ≡ true → Contains order q
        after : (i q : ℕ) → i < length order → Calls rows (get_or order i 0) q → Contains (take i order) q

      same_caller : (r : ℕ) (e f : Row) → slice_get rows r ≡ Some e → slice_get rows r ≡ Some f → f ≡ e
      same_caller r e f p q = cc

      -- the callees of a row that joins
      callee_has : (marks : List Bool) (order : List ℕ) (n : ℕ) → InOrder marks order → MayJoin conditions marks n → (q : ℕ) → Calls rows n q → Contains order q
      callee_has marks order n o j q d =
          let s = source_of (calls_by quantifier.All nullable) rows n j.condition (ap (λ (cs : List Condition). slice_get cs n) (sym is) ∙ j.is) in
          let called = subst (λ (e : Row). RowCalls rows e q) (same_caller n s.source d.caller s.is d.is) d.calls in
          o.has q (all_pass (marked marks) q (callees nullable s.source) (ap (holds marks) s.gives ∙ j.held) (calls_among called))

      joins : (marks : List Bool) (order : List ℕ) (n : ℕ) → InOrder marks order → MayJoin conditions marks n → InOrder (set marks n true) (order ++ n ∷ [])
      joins marks order n o j = record {
        within = All-push (λ r. r < length rows) order n o.within (omega (arith, slice_get_within conditions n j.condition j.is, ap length is, length-map rows (calls_by quantifier.All nullable)));
        has = λ q h. has_by q (marked-set marks n q h);
        after = λ i q h d. after_by i q h d (eqb i (length order)) refl;
      }
        where
          has_by : (q : ℕ) → (q ≡ n) ⊎ (marked marks q ≡ true) → Contains (order ++ n ∷ []) q
          has_by q (inl e) = subst (Contains (order ++ n ∷ [])) (sym e) (Contains-push order n)
          has_by q (inr h) = Contains-append_left order (n ∷ []) q (o.has q h)

          after_by : (i q : ℕ) → i < length (order ++ n ∷ []) → Calls rows (get_or (order ++ n ∷ []) i 0) q → (b : Bool) → eqb i (length order) ≡ b
              → Contains (take i (order ++ n ∷ [])) q
          after_by i q h d true e =
              let at_end : length order ≡ i = sym (eqb-true i (length order) e) in
              let called = subst (λ (r : ℕ). Calls rows r q) (get_or_at order n [] 0 i at_end) d in
              subst (λ (xs : List ℕ). Contains xs q) (sym (take_at order (n ∷ []) i at_end)) (callee_has marks order n o j q called)
          after_by i q h d false e =
              let other : i ≢ length order = λ same. true≢false (sym (eq-eqb i (length order) same) ∙ e) in
              let inside : i < length order = omega (arith, other, length-append order (n ∷ [])) in
              let called = subst (λ (r : ℕ). Calls rows r q) (get_or_append_left order (n ∷ []) 0 i inside) d in
              subst (λ (xs : List ℕ). Contains xs q) (sym (take-append-le i order (n ∷ []) (omega arith))) (o.after i q inside called)

      in_order : (start marks : List Bool) (order : List ℕ) (n : ℕ) → start ≡ replicate n false → Derived conditions start marks order → InOrder marks order
      in_order start _ _ n e closure.begun = record {
        within = λ k d h. absurd (omega arith);
        has = λ q h. absurd (none_marked n q (subst (λ (ms : List Bool). marked ms q ≡ true) e h));
        after = λ i q h d. absurd (omega arith);
      }
      in_order start _ _ n e (closure.joined marks more order longer k d j is_more is_longer) =
          let o = joins marks order k (in_order start marks order n e d) j in
          subst (λ (xs : List ℕ). InOrder more xs) (sym is_longer) (subst (λ (ms : List Bool). InOrder ms (order ++ k ∷ [])) (sym is_more) o)

      marked_all : (marks : List Bool) → IsSaturated conditions marks → IsClosed rows → (r : ℕ) → Founded rows r → r < length rows → marked marks r ≡ true
      marked_all marks full closed r (founded _ calls) h = by (slice_get_cases rows r).1 (λ q d. marked_all marks full closed q (calls q d) (calls_within rows closed r q d))
        where
          by : ((e : Row) × (r < length rows) × (slice_get rows r ≡ Some e) × (get_or rows r e ≡ e)) ⊎ ((length rows ≤ r) × (slice_get rows r ≡ None))
              → ((q : ℕ) → Calls rows r q → marked marks q ≡ true) → marked marks r ≡ true
          by (inl (e, _, at, _)) all =
              full r (calls_by quantifier.All nullable e) (ap (λ (cs : List Condition). slice_get cs r) is ∙ condition_at (calls_by quantifier.All nullable) rows r e at)
              (all_from (marked marks) (callees nullable e) (λ q a. all q (record { caller = e; is = at; calls = among_calls e q a })))
          by (inr past) all = absurd (omega (arith, past.0))

      pub order_of_calls : IsClosed rows → IsWellFormed rows → (start marks : List Bool) (order : List ℕ) (n : ℕ) → start ≡ replicate n false
          → Derived conditions start marks order → IsSaturated conditions marks → IsOrder rows order
      order_of_calls closed good start marks order n e d full =
          let o = in_order start marks order n e d in
          record {
            within = o.within;
            complete = λ r h. o.has r (marked_all marks full closed r (all_founded rows closed good r h) h);
            after_calls = o.after;
          }
