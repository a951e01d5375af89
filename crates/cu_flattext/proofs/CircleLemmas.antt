-- Which synonyms lead to themselves.
use Rattle.std.proofs.Common.{◌≡◌, ℕ, zero, suc, ◌+◌, ◌-◌, ◌≤◌, ◌<◌, Bool, true, false, ◌||◌, List, [], ◌∷◌, ◌++◌, drop, get_or, length, map, take, refl, sym, ap, ◌∙◌, arith}
use Rattle.std.proofs.lemmas.List.{drop_all, drop_more, map-append, map_more}
use Rattle.std.specs.List.{slice_get}
use denote.Ref.{Bor}
use mathlib.Core.Path.{fun_ext}
use Rattle.cu_kernel.specs.Kernel.{Synonym}
use Rattle.cu_kernel.specs.KernelOf.{synonym_meaning}
use Rattle.cu_kernel.specs.TypeExpr as type
use Rattle.cu_kernel.specs.TypeExpr.{TypeExpr}
use Rattle.cu_kernel.specs.TypesOf.{type_of, types_of}
use Rattle.cu_kernel.specs.declared.declarations.Synonym as declared
use Rattle.cu_kernel.specs.declared.type_term.SynonymId.{SynonymId}
use Rattle.cu_kernel.specs.declared.type_term.TypeTerm.{TypeTerm}
use Rattle.cu_flattext.specs.Inside.Circles.{is_known, leads_on, some_left}
use Rattle.cu_flattext.specs.TypeTexts.{is_or_passes, leads_to_itself, leads_within, some_in_body, some_synonym, some_synonym_in}

or_none : (a : Bool) → a || false ≡ a
or_none true = refl
or_none false = refl

or_swap : (a b : Bool) → a || b ≡ b || a
or_swap true true = refl
or_swap true false = refl
or_swap false true = refl
or_swap false false = refl

or_assoc : (a b c : Bool) → (a || b) || c ≡ a || (b || c)
or_assoc true b c = refl
or_assoc false b c = refl

-- one more type is left
pub one_more_left : (test : SynonymId → Bool) (ts : List (Bor TypeTerm)) (t : Bor TypeTerm)
    → some_left test (ts ++ t ∷ []) ≡ some_left test ts || some_synonym test (type_of t.now)
one_more_left test [] t = or_none (some_synonym test (type_of t.now))
one_more_left test (u ∷ us) t =
    ap (λ b. some_synonym test (type_of u.now) || b) (one_more_left test us t)
    ∙ sym (or_assoc (some_synonym test (type_of u.now)) (some_left test us) (some_synonym test (type_of t.now)))

-- a type of a list is left
pub pushed_type : (test : SynonymId → Bool) (left after : List (Bor TypeTerm)) (t : Bor TypeTerm) (types : List TypeTerm) (i : ℕ) (whole : Bool)
    → i < length types → t.now ≡ get_or types i t.now → after ≡ left ++ t ∷ []
    → some_left test left || some_synonym_in test (types_of (drop i types)) ≡ whole
    → some_left test after || some_synonym_in test (types_of (drop (i + 1) types)) ≡ whole
pushed_type test left after t types i whole below is pushed before =
    let rest = some_synonym_in test (types_of (drop (i + 1) types)) in
    let more : some_synonym_in test (types_of (drop i types)) ≡ some_synonym test (type_of t.now) || rest =
    ap (λ (us : List TypeTerm). some_synonym_in test (types_of us)) (drop_more types i t.now below)
    ∙ ap (λ (u : TypeTerm). some_synonym test (type_of u) || rest) (sym is) in
    ap (λ (us : List (Bor TypeTerm)). some_left test us || rest) pushed
    ∙ ap (λ b. b || rest) (one_more_left test left t)
    ∙ or_assoc (some_left test left) (some_synonym test (type_of t.now)) rest
    ∙ ap (λ b. some_left test left || b) (sym more)
    ∙ before

-- a synonym is known to lead to the goal within one step more
at_place : (test : SynonymId → Bool) (ys : List Synonym) (i : ℕ)
    → get_or (map (leads_on test) ys) i false ≡ some_in_body test (slice_get ys i)
at_place test [] i = refl
at_place test (y ∷ ys) zero = refl
at_place test (y ∷ ys) (suc i) = at_place test ys i

one_step : (ys : List Synonym) (goal : SynonymId) (n : ℕ) (known more : List Bool)
    → ((r : SynonymId) → is_known known r ≡ leads_within n ys goal r) → more ≡ map (leads_on (is_or_passes goal (is_known known))) ys
    → (r : SynonymId) → is_known more r ≡ leads_within (suc n) ys goal r
unfolding leads_within
one_step ys goal n known more before is r =
    ap (λ (bs : List Bool). is_known bs r) is
    ∙ at_place (is_or_passes goal (is_known known)) ys r.0
    ∙ ap (λ (test : SynonymId → Bool). some_in_body (is_or_passes goal test) (slice_get ys r.0)) (fun_ext before)

pub one_step_further : (ys : List Synonym) (goal : SynonymId) (n : ℕ) (known more : List Bool)
    → ((r : SynonymId) → is_known known r ≡ leads_within n ys goal r) → more ≡ map (leads_on (is_or_passes goal (is_known known))) ys
    → (r : SynonymId) → is_known more r ≡ leads_within (n + 1) ys goal r
one_step_further ys goal n known more before is r =
    one_step ys goal n known more before is r ∙ ap (λ m. leads_within m ys goal r) (let e : suc n ≡ n + 1 = omega arith in e)

-- where one step more leads nowhere else, no more steps do
stays : (ys : List Synonym) (goal : SynonymId) (n k : ℕ) → leads_within (suc n) ys goal ≡ leads_within n ys goal
    → leads_within (k + n) ys goal ≡ leads_within n ys goal
unfolding leads_within
stays ys goal n zero same = ap (λ m. leads_within m ys goal) (let e : 0 + n ≡ n = omega arith in e)
stays ys goal n (suc k) same =
    let e : suc k + n ≡ suc (k + n) = omega arith in
    ap (λ m. leads_within m ys goal) e
    ∙ fun_ext (λ (r : SynonymId). ap (λ (test : SynonymId → Bool). some_in_body (is_or_passes goal test) (slice_get ys r.0)) (stays ys goal n k same))
    ∙ same

-- as many steps as were taken suffice
pub settled : (ys : List Synonym) (goal : SynonymId) (n : ℕ) (known more : List Bool) → n ≤ length ys
    → ((r : SynonymId) → is_known known r ≡ leads_within n ys goal r) → more ≡ map (leads_on (is_or_passes goal (is_known known))) ys
    → more ≡ known → is_known known goal ≡ leads_to_itself ys goal
unfolding leads_to_itself
settled ys goal n known more within before is same =
    let next = one_step ys goal n known more before is in
    let equal : leads_within (suc n) ys goal ≡ leads_within n ys goal =
    fun_ext (λ (r : SynonymId). sym (next r) ∙ ap (λ (bs : List Bool). is_known bs r) same ∙ before r) in
    let count : length ys - n + n ≡ length ys = omega arith in
    before goal
    ∙ ap (λ (f : SynonymId → Bool). f goal) (sym (stays ys goal n (length ys - n) equal))
    ∙ ap (λ m. leads_within m ys goal goal) count

-- before the first step
pub at_first : (ys : List Synonym) (goal r : SynonymId) (known : List Bool) → known ≡ [] → is_known known r ≡ leads_within 0 ys goal r
unfolding leads_within
at_first ys goal r known is = ap (λ (bs : List Bool). is_known bs r) is

pub at_last : (ys : List Synonym) (goal : SynonymId) (n : ℕ) (known : List Bool) → n ≡ length ys
    → ((r : SynonymId) → is_known known r ≡ leads_within n ys goal r) → is_known known goal ≡ leads_to_itself ys goal
unfolding leads_to_itself
at_last ys goal n known all before = before goal ∙ ap (λ m. leads_within m ys goal goal) all

-- the parts of a type of functions are left
pub looked_arrow : (test : SynonymId → Bool) (left first second : List (Bor TypeTerm)) (a b : Bor TypeTerm) (t x y : TypeExpr)
    → t ≡ type.Arrow x y → type_of a.now ≡ x → type_of b.now ≡ y → first ≡ left ++ a ∷ [] → second ≡ first ++ b ∷ []
    → some_left test second ≡ some_left test left || some_synonym test t
looked_arrow test left first second a b t x y is one other e f =
    ap (some_left test) f
    ∙ one_more_left test first b
    ∙ ap (λ c. c || some_synonym test (type_of b.now)) (ap (some_left test) e ∙ one_more_left test left a)
    ∙ or_assoc (some_left test left) (some_synonym test (type_of a.now)) (some_synonym test (type_of b.now))
    ∙ ap (λ (u : TypeExpr). some_left test left || (some_synonym test u || some_synonym test (type_of b.now))) one
    ∙ ap (λ (u : TypeExpr). some_left test left || (some_synonym test x || some_synonym test u)) other
    ∙ ap (λ (u : TypeExpr). some_left test left || some_synonym test u) (sym is)

-- all types of a list are left
pub none_to_push : (test : SynonymId → Bool) (left : List (Bor TypeTerm)) (types : List TypeTerm) (i : ℕ) (whole : Bool) → length types ≤ i
    → some_left test left || some_synonym_in test (types_of (drop i types)) ≡ whole → some_left test left ≡ whole
none_to_push test left types i whole past before =
    sym (or_none (some_left test left))
    ∙ ap (λ (us : List TypeTerm). some_left test left || some_synonym_in test (types_of us)) (sym (drop_all i types past))
    ∙ before

-- one type is left at first
pub first_left : (test : SynonymId → Bool) (left after : List (Bor TypeTerm)) (t : Bor TypeTerm) → left ≡ [] → after ≡ left ++ t ∷ []
    → some_left test after ≡ some_synonym test (type_of t.now)
first_left test left after t none is =
    ap (some_left test) (is ∙ ap (λ (us : List (Bor TypeTerm)). us ++ t ∷ []) none) ∙ or_none (some_synonym test (type_of t.now))

-- what a look says of what was left
looked : (test : SynonymId → Bool) (left rest after : List (Bor TypeTerm)) (part : Bor TypeTerm) (b whole : Bool) → left ≡ rest ++ part ∷ []
    → b || some_left test after ≡ some_left test rest || some_synonym test (type_of part.now) → some_left test left ≡ whole
    → b || some_left test after ≡ whole
looked test left rest after part b whole is look before =
    look ∙ sym (one_more_left test rest part) ∙ ap (some_left test) (sym is) ∙ before

pub look_found : (test : SynonymId → Bool) (left rest after : List (Bor TypeTerm)) (part : Bor TypeTerm) (b whole : Bool) → b ≡ true
    → left ≡ rest ++ part ∷ [] → b || some_left test after ≡ some_left test rest || some_synonym test (type_of part.now)
    → some_left test left ≡ whole → true ≡ whole
look_found test left rest after part b whole found is look before =
    sym (ap (λ c. c || some_left test after) found) ∙ looked test left rest after part b whole is look before

pub look_goes_on : (test : SynonymId → Bool) (left rest after : List (Bor TypeTerm)) (part : Bor TypeTerm) (b whole : Bool) → b ≡ false
    → left ≡ rest ++ part ∷ [] → b || some_left test after ≡ some_left test rest || some_synonym test (type_of part.now)
    → some_left test left ≡ whole → some_left test after ≡ whole
look_goes_on test left rest after part b whole missed is look before =
    sym (ap (λ c. c || some_left test after) missed) ∙ looked test left rest after part b whole is look before

-- one more synonym was looked at
pub one_more_synonym : (test : SynonymId → Bool) (ys : List declared.Synonym) (i : ℕ) (y : declared.Synonym) (more after : List Bool) (leads : Bool)
    → i < length ys → y ≡ get_or ys i y → after ≡ more ++ leads ∷ [] → leads ≡ some_synonym test (type_of y.body)
    → more ≡ map (leads_on test) (map synonym_meaning (take i ys)) → after ≡ map (leads_on test) (map synonym_meaning (take (i + 1) ys))
one_more_synonym test ys i y more after leads below is pushed leads_is before =
    pushed
    ∙ ap (λ b. more ++ b ∷ []) (leads_is ∙ ap (λ (z : declared.Synonym). some_synonym test (type_of z.body)) is)
    ∙ ap (λ (bs : List Bool). bs ++ some_synonym test (type_of (get_or ys i y).body) ∷ []) before
    ∙ sym (map-append (leads_on test) (map synonym_meaning (take i ys)) (synonym_meaning (get_or ys i y) ∷ []))
    ∙ ap (map (leads_on test)) (sym (map_more synonym_meaning ys i y below))

pub mapped_length : {A B : Type 0} → (f : A → B) (xs : List A) → length (map f xs) ≡ length xs
mapped_length f [] = refl
mapped_length f (x ∷ xs) = let e = mapped_length f xs in omega arith
