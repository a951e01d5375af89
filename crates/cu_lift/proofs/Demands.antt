-- What mentions demand, one after another.
use Rattle.std.proofs.Common.{◌≡◌, ◌≢◌, ℕ, zero, suc, ◌+◌, ◌<◌, ◌≤◌, ◌⊎◌, inl, inr, max, List, [], ◌∷◌, length, set, take, Some, slice_get, slice_index, refl, ap, sym, ◌∙◌, subst, arith, get_or-set_same, get_or-set_other}
use Rattle.std.proofs.Math.ListN.{length-set}
use Rattle.std.specs.declared.alloc.Global.{Global}
use Rattle.std.specs.declared.vec.Vec.{Vec}
use Rattle.cu_calculus.specs.declared.FunId.{FunId}
use Rattle.cu_cycles.proofs.Places.{before_or_not, one_element, same_or_not, take_keeps, take_less, within}
use Rattle.cu_lift.specs.Inside.Levelling.{AreDemands, AreRaised, Collects, IsDemand, Mentioned, demand}
use Rattle.cu_lift.specs.Inside.MentionsOf.{MentionRows}
use Rattle.cu_lift.specs.declared.mentions.Mention.{Mention}

none_first : {A : Type 0} (xs : List A) (k : ℕ) (x : A) → slice_get (take 0 xs) k ≡ Some x → ⊥
none_first xs k x e = let h = take_less xs 0 k x e in let less : k < 0 = h.0 in omega arith

-- an element of a longer prefix is in the shorter one, or the last
one_of : {A : Type 0} (xs : List A) (i k : ℕ) (x y : A) → slice_get xs i ≡ Some y → slice_get (take (i + 1) xs) k ≡ Some x
    → (slice_get (take i xs) k ≡ Some x) ⊎ ((k ≡ i) × (y ≡ x))
one_of xs i k x y at e = by (before_or_not k i)
  where
    by : (k < i) ⊎ (i ≤ k) → (slice_get (take i xs) k ≡ Some x) ⊎ ((k ≡ i) × (y ≡ x))
    by (inl less) = inl (take_keeps xs i k x less (take_less xs (i + 1) k x e).1)
    by (inr more) =
        let h = take_less xs (i + 1) k x e in
        let less : k < i + 1 = h.0 in
        let same : k ≡ i = omega arith in
        inr (same, one_element xs i y x at (subst (λ (n : ℕ). slice_get xs n ≡ Some x) same h.1))

still_in : {A : Type 0} (xs : List A) (i k : ℕ) (x : A) → slice_get (take i xs) k ≡ Some x → slice_get (take (i + 1) xs) k ≡ Some x
still_in xs i k x e = let h = take_less xs i k x e in let less : k < i = h.0 in take_keeps xs (i + 1) k x (omega arith) h.1

last_in : {A : Type 0} (xs : List A) (i : ℕ) (x : A) → slice_get xs i ≡ Some x → slice_get (take (i + 1) xs) i ≡ Some x
last_in xs i x e = take_keeps xs (i + 1) i x (omega arith) e

all_in : {A : Type 0} (xs : List A) (i k : ℕ) (x : A) → length xs ≤ i → slice_get xs k ≡ Some x → slice_get (take i xs) k ≡ Some x
all_in xs i k x end e = let low = within xs k x e in take_keeps xs i k x (omega arith) e

some_in : {A : Type 0} (xs : List A) (i k : ℕ) (x : A) → slice_get (take i xs) k ≡ Some x → slice_get xs k ≡ Some x
some_in xs i k x e = (take_less xs i k x e).1

-- ---- a row

pub demand_first : (levels : List ℕ) (row : List Mention) (least : ℕ) → IsDemand levels (take 0 row) least least
demand_first levels row least = record { at_least = omega arith; bound = λ k m e. absurd (none_first row k m e); attained = inl refl }

pub demand_next : (levels : List ℕ) (row : List Mention) (least level i : ℕ) (m : Mention) → IsDemand levels (take i row) least level
    → slice_get row i ≡ Some m → IsDemand levels (take (i + 1) row) least (max level (demand levels m))
demand_next levels row least level i m is at = record {
  at_least = let low = is.at_least in omega arith;
  bound = λ k n e. bounded k n (one_of row i k n m at e);
  attained = by (before_or_not (demand levels m) level);
}
  where
    bounded : (k : ℕ) (n : Mention) → (slice_get (take i row) k ≡ Some n) ⊎ ((k ≡ i) × (m ≡ n)) → demand levels n ≤ max level (demand levels m)
    bounded k n (inl old) = let low = is.bound k n old in omega arith
    bounded k n (inr h) = let same : demand levels m ≡ demand levels n = ap (demand levels) h.1 in omega arith

    kept : level ≡ max level (demand levels m) → (level ≡ least) ⊎ ((k : ℕ) × (n : Mention) × (slice_get (take i row) k ≡ Some n) × (demand levels n ≡ level))
        → (max level (demand levels m) ≡ least) ⊎ ((k : ℕ) × (n : Mention) × (slice_get (take (i + 1) row) k ≡ Some n) × (demand levels n ≡ max level (demand levels m)))
    kept same (inl h) = inl (sym same ∙ h)
    kept same (inr h) = inr (h.0, h.1, still_in row i h.0 h.1 h.2, h.3 ∙ same)

    by : (demand levels m < level) ⊎ (level ≤ demand levels m)
        → (max level (demand levels m) ≡ least) ⊎ ((k : ℕ) × (n : Mention) × (slice_get (take (i + 1) row) k ≡ Some n) × (demand levels n ≡ max level (demand levels m)))
    by (inl less) = kept (omega arith) is.attained
    by (inr more) = inr (i, m, last_in row i m at, omega arith)

pub demand_all : (levels : List ℕ) (row : List Mention) (least level i : ℕ) → length row ≤ i → IsDemand levels (take i row) least level
    → IsDemand levels row least level
demand_all levels row least level i end is = record {
  at_least = is.at_least;
  bound = λ k m e. is.bound k m (all_in row i k m end e);
  attained = elim is.attained [ inl h ↦ inl h | inr h ↦ inr (h.0, h.1, some_in row i h.0 h.1 h.2, h.3) ];
}

-- ---- some functions

pub demands_first : (g : MentionRows) (levels : List ℕ) (members : List FunId) → AreDemands g levels (take 0 members) 0
demands_first g levels members = record { bound = λ k f m e h. absurd (none_first members k f e); attained = inl refl }

pub demands_next : (g : MentionRows) (levels : List ℕ) (members : List FunId) (level next i : ℕ) (f : FunId) (row : Vec Mention Global)
    → AreDemands g levels (take i members) level → slice_get members i ≡ Some f → slice_get g f.0 ≡ Some row
    → IsDemand levels row.items level next → AreDemands g levels (take (i + 1) members) next
demands_next g levels members level next i f row are at is_row is = record {
  bound = λ k h m e mentioned. bounded k h m mentioned (one_of members i k h f at e);
  attained = by is.attained;
}
  where
    bounded : (k : ℕ) (h : FunId) (m : Mention) → Mentioned g h.0 m → (slice_get (take i members) k ≡ Some h) ⊎ ((k ≡ i) × (f ≡ h)) → demand levels m ≤ next
    bounded k h m mentioned (inl old) = let low = are.bound k h m old mentioned in let more = is.at_least in omega arith
    bounded k h m mentioned (inr same) =
        let there : slice_get g h.0 ≡ Some row = subst (λ (x : FunId). slice_get g x.0 ≡ Some row) same.1 is_row in
        let one : mentioned.row ≡ row = one_element g h.0 mentioned.row row mentioned.is_row there in
        is.bound mentioned.place m (subst (λ (x : Vec Mention Global). slice_get x.items mentioned.place ≡ Some m) one mentioned.is_there)

    kept : next ≡ level
        → (level ≡ 0) ⊎ ((k : ℕ) × (h : FunId) × (m : Mention) × (slice_get (take i members) k ≡ Some h) × Mentioned g h.0 m × (demand levels m ≡ level))
        → (next ≡ 0) ⊎ ((k : ℕ) × (h : FunId) × (m : Mention) × (slice_get (take (i + 1) members) k ≡ Some h) × Mentioned g h.0 m × (demand levels m ≡ next))
    kept same (inl none) = inl (same ∙ none)
    kept same (inr h) = inr (h.0, h.1, h.2, still_in members i h.0 h.1 h.3, h.4, h.5 ∙ sym same)

    by : (next ≡ level) ⊎ ((k : ℕ) × (m : Mention) × (slice_get row.items k ≡ Some m) × (demand levels m ≡ next))
        → (next ≡ 0) ⊎ ((k : ℕ) × (h : FunId) × (m : Mention) × (slice_get (take (i + 1) members) k ≡ Some h) × Mentioned g h.0 m × (demand levels m ≡ next))
    by (inl same) = kept same are.attained
    by (inr h) = inr (i, f, h.1, last_in members i f at, record { row = row; is_row = is_row; place = h.0; is_there = h.2 }, h.3)

pub demands_all : (g : MentionRows) (levels : List ℕ) (members : List FunId) (level i : ℕ) → length members ≤ i → AreDemands g levels (take i members) level
    → AreDemands g levels members level
demands_all g levels members level i end are = record {
  bound = λ k f m e h. are.bound k f m (all_in members i k f end e) h;
  attained = elim are.attained [ inl h ↦ inl h | inr h ↦ inr (h.0, h.1, h.2, some_in members i h.0 h.1 h.3, h.4, h.5) ];
}

-- ---- raising

pub raised_first : (members : List FunId) (level : ℕ) (levels : List ℕ) → AreRaised (take 0 members) level levels levels
raised_first members level levels = record { sized = refl; raised = λ k f e. absurd (none_first members k f e); others = λ v h. refl }

written : (xs : List ℕ) (i k level : ℕ) → i < length xs → (k ≡ i) ⊎ (k ≢ i) → (k ≢ i → slice_index xs k ≡ level) → slice_index (set xs i level) k ≡ level
written xs i k level low (inl same) h = subst (λ (n : ℕ). slice_index (set xs i level) n ≡ level) (sym same) (get_or-set_same xs i level 0 low)
written xs i k level low (inr other) h = get_or-set_other xs i k level 0 other ∙ h other

pub raised_next : (members : List FunId) (level i : ℕ) (old now : List ℕ) (f : FunId) → AreRaised (take i members) level old now
    → slice_get members i ≡ Some f → f.0 < length now → AreRaised (take (i + 1) members) level old (set now f.0 level)
raised_next members level i old now f are at low = record {
  sized = length-set now f.0 level ∙ are.sized;
  raised = λ k h e. by k h (one_of members i k h f at e);
  others = λ v h.
      let other : v ≢ f.0 = λ same. h i f (last_in members i f at) (sym same) in
      get_or-set_other now f.0 v level 0 other ∙ are.others v (λ k x e is. h k x (still_in members i k x e) is);
}
  where
    by : (k : ℕ) (h : FunId) → (slice_get (take i members) k ≡ Some h) ⊎ ((k ≡ i) × (f ≡ h)) → slice_index (set now f.0 level) h.0 ≡ level
    by k h (inl e) = written now f.0 h.0 level low (same_or_not h.0 f.0) (λ other. are.raised k h e)
    by k h (inr same) =
        subst (λ (x : FunId). slice_index (set now f.0 level) x.0 ≡ level) same.1 (get_or-set_same now f.0 level 0 low)

pub raised_all : (members : List FunId) (level i : ℕ) (old now : List ℕ) → length members ≤ i → AreRaised (take i members) level old now
    → AreRaised members level old now
raised_all members level i old now end are = record {
  sized = are.sized;
  raised = λ k f e. are.raised k f (all_in members i k f end e);
  others = λ v h. are.others v (λ k f e is. h k f (some_in members i k f e) is);
}

-- ---- collecting

pub collects_next : (ranks : List ℕ) (row : List Mention) (rank i : ℕ) (m : Mention) → slice_get row i ≡ Some m
    → ((f : ℕ) → Collects ranks (take i row) rank f → ⊥) → (m.collected ≡ Rattle.std.proofs.Common.true → slice_get ranks m.function.0 ≡ Some rank → ⊥)
    → (f : ℕ) → Collects ranks (take (i + 1) row) rank f → ⊥
collects_next ranks row rank i m at none not f c = by (one_of row i c.place c.mention m at c.is_there)
  where
    by : (slice_get (take i row) c.place ≡ Some c.mention) ⊎ ((c.place ≡ i) × (m ≡ c.mention)) → ⊥
    by (inl old) = none f (record {
      place = c.place;
      mention = c.mention;
      is_there = old;
      collected = c.collected;
      function = c.function;
      is_rank = c.is_rank;
    })
    by (inr h) =
        not (ap (λ (x : Mention). x.collected) h.1 ∙ c.collected)
        (subst (λ (n : ℕ). slice_get ranks n ≡ Some rank) (sym (ap (λ (x : Mention). x.function.0) h.1 ∙ c.function)) c.is_rank)

pub collects_none : (ranks : List ℕ) (row : List Mention) (rank i : ℕ) → length row ≤ i → ((f : ℕ) → Collects ranks (take i row) rank f → ⊥)
    → (f : ℕ) → Collects ranks row rank f → ⊥
collects_none ranks row rank i end none f c = none f (record {
  place = c.place;
  mention = c.mention;
  is_there = all_in row i c.place c.mention end c.is_there;
  collected = c.collected;
  function = c.function;
  is_rank = c.is_rank;
})
