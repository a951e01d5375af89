-- What a row demands at a position is among the constructors and the literals that occur there.
use Rattle.std.proofs.Common.{◌≡◌, ℕ, zero, suc, ◌+◌, Bool, true, false, not, ◌||◌, List, [], ◌∷◌, cond, filter, length, nat_eq, Option, None, Some, slice_get, refl, ap, sym, ◌∙◌, subst, arith, eq-eqb}
use Rattle.std.specs.List.{flat_map, list_all, list_any}
use Rattle.std.proofs.lemmas.Bool.{and_parts}
use Rattle.cu_calculus.specs.declared.ConId.{ConId}
use Rattle.cu_calculus.specs.declared.Lit.{Lit}
use Rattle.cu_calculus.specs.Choose.{ALiteral, AConstructor, Demand, Nothing, same_type, demands_constructor, demands_literal}
use Rattle.cu_calculus.specs.Literal.{same_literal}
use Rattle.cu_calculus.specs.Program.{Constructor, Program, constructor_of}
use Rattle.cu_calculus.specs.Term.{Pattern}
use Rattle.cu_calculus.proofs.Answering.{literal_is}
use Rattle.cu_calculus.proofs.Comparing.{same_is}
use Rattle.cu_calculus.proofs.Lists.{get_suffix, get_prefix, get_map}
use Rattle.cu_deftree.specs.Rows.{Row, constructor_ids, constructors_at, demand_at, demanded_by_all, demanded_from, demands, first_occurrences, literal_in, literals_at, numbers, siblings}
use Rattle.cu_deftree.proofs.Suits.{there_too}

-- ---- lists

-- an element that passes a test is among those that do
pub filtered : {A : Type 0} (test : A → Bool) (xs : List A) (i : ℕ) (x : A) → slice_get xs i ≡ Some x → test x ≡ true
    → (j : ℕ) × (slice_get (filter test xs) j ≡ Some x)
filtered test [] i x e h = let no : ⊥ = cc in absurd no
filtered {A} test (y ∷ xs) i x e h = by (test y) refl i e (λ j f. filtered test xs j x f h)
  where
    by : (b : Bool) → test y ≡ b → (j : ℕ) → slice_get (y ∷ xs) j ≡ Some x
        → ((j : ℕ) → slice_get xs j ≡ Some x → (n : ℕ) × (slice_get (filter test xs) n ≡ Some x))
        → (n : ℕ) × (slice_get (cond b (y ∷ filter test xs) (filter test xs)) n ≡ Some x)
    by true t zero f later = (0, f)
    by true t (suc j) f later = let rest = later j f in (suc rest.0, rest.1)
    by false t zero f later =
        let same : y ≡ x = cc in
        let no : ⊥ = cc in absurd no
    by false t (suc j) f later = later j f

any_at : {A : Type 0} (test : A → Bool) (xs : List A) (i : ℕ) (x : A) → slice_get xs i ≡ Some x → test x ≡ true → list_any test xs ≡ true
any_at test [] i x e h = let no : ⊥ = cc in absurd no
any_at {A} test (y ∷ xs) zero x e h =
    let same : y ≡ x = cc in by (test y) (ap test same ∙ h)
  where
    by : (b : Bool) → b ≡ true → (b || list_any test xs) ≡ true
    by true f = refl
    by false f = let no : ⊥ = cc in absurd no
any_at {A} test (y ∷ xs) (suc i) x e h = by (test y) (any_at test xs i x e h)
  where
    by : (b : Bool) → list_any test xs ≡ true → (b || list_any test xs) ≡ true
    by true f = refl
    by false f = f

all_at : {A : Type 0} (test : A → Bool) (xs : List A) (i : ℕ) (x : A) → list_all test xs ≡ true → slice_get xs i ≡ Some x → test x ≡ true
all_at test [] i x h e = let no : ⊥ = cc in absurd no
all_at test (y ∷ xs) zero x h e =
    let same : y ≡ x = cc in ap test (sym same) ∙ (and_parts (test y) (list_all test xs) h).0
all_at test (y ∷ xs) (suc i) x h e = all_at test xs i x (and_parts (test y) (list_all test xs) h).1 e

-- ---- constructors

numbers_place : (from n k x : ℕ) → slice_get (numbers from n) k ≡ Some x → x ≡ from + k
numbers_place from zero k x e = let no : ⊥ = cc in absurd no
numbers_place from (suc n) zero x e = let same : from ≡ x = cc in omega (arith, same)
numbers_place from (suc n) (suc k) x e = let rest = numbers_place (suc from) n k x e in omega (arith, rest)

numbers_many : (from n : ℕ) → length (numbers from n) ≡ n
numbers_many from zero = refl
numbers_many from (suc n) = ap suc (numbers_many (suc from) n)

-- each constructor of a program is listed
constructor_listed : (program : Program) (c : ConId) (constructor : Constructor) → constructor_of program c ≡ Some constructor
    → (i : ℕ) × (slice_get (constructor_ids program) i ≡ Some c)
constructor_listed program c constructor e =
    let many = length program.constructors in
    let found = there_too (numbers 0 many) program.constructors c.0 constructor (numbers_many 0 many) e in
    let place : found.0 ≡ c.0 = let at = numbers_place 0 many c.0 found.0 found.1 in omega (arith, at) in
    let numbered = λ (n : ℕ). let d : ConId = record { 0 = n } in d in (
      c.0,
      get_map numbered (numbers 0 many) c.0 found.0 found.1 ∙ ap Some (ap numbered place ∙ same_is (numbered c.0) c (eq-eqb c.0 c.0 refl)),
    )

pub constructor_occurs : (program : Program) (k : ℕ) (rows : List Row) (c : ConId) (constructor : Constructor) (i : ℕ) (row : Row)
    → constructor_of program c ≡ Some constructor → slice_get rows i ≡ Some row → demands_constructor c (demand_at k row) ≡ true
    → (j : ℕ) × (slice_get (constructors_at program k rows) j ≡ Some c)
constructor_occurs program k rows c constructor i row e f h =
    let listed = constructor_listed program c constructor e in
    filtered (λ d. list_any (λ other. demands_constructor d (demand_at k other)) rows) (constructor_ids program) listed.0 c listed.1
    (any_at (λ other. demands_constructor c (demand_at k other)) rows i row f h)

typed : (program : Program) (c d : ConId) → same_type program c d ≡ true → (constructor : Constructor) × (constructor_of program d ≡ Some constructor)
typed program c d e = by (constructor_of program c) (constructor_of program d) e refl
  where
    by : (one two : Option Constructor)
        → elim one [ Some a ↦ elim two [ Some b ↦ nat_eq a.of_type b.of_type | None ↦ false ] | None ↦ false ] ≡ true
        → constructor_of program d ≡ two → (constructor : Constructor) × (constructor_of program d ≡ Some constructor)
    by None two f g = let no : ⊥ = cc in absurd no
    by (Some a) None f g = let no : ⊥ = cc in absurd no
    by (Some a) (Some b) f g = (b, g)

-- the constructors of a type are siblings
pub sibling_occurs : (program : Program) (c d : ConId) → same_type program c d ≡ true → (j : ℕ) × (slice_get (siblings program c) j ≡ Some d)
sibling_occurs program c d e =
    let of_type = typed program c d e in
    let listed = constructor_listed program d of_type.0 of_type.1 in
    filtered (same_type program c) (constructor_ids program) listed.0 d listed.1 e

-- ---- literals

occurs_first : (ls : List Lit) (i : ℕ) (l : Lit) → slice_get ls i ≡ Some l → (j : ℕ) × (slice_get (first_occurrences ls) j ≡ Some l)
occurs_first [] i l e = let no : ⊥ = cc in absurd no
occurs_first (m ∷ ls) zero l e = (0, e)
occurs_first (m ∷ ls) (suc i) l e = by (same_literal m l) refl (occurs_first ls i l e)
  where
    by : (b : Bool) → same_literal m l ≡ b → (j : ℕ) × (slice_get (first_occurrences ls) j ≡ Some l)
        → (j : ℕ) × (slice_get (first_occurrences (m ∷ ls)) j ≡ Some l)
    by true f rest = (0, ap Some (literal_is m l f))
    by false f rest =
        let there = filtered (λ n. not (same_literal m n)) (first_occurrences ls) rest.0 l rest.1 (ap not f) in (suc there.0, there.1)

flat_at : {A B : Type 0} (f : A → List B) (xs : List A) (i j : ℕ) (x : A) (y : B) → slice_get xs i ≡ Some x → slice_get (f x) j ≡ Some y
    → (n : ℕ) × (slice_get (flat_map f xs) n ≡ Some y)
flat_at f [] i j x y e h = let no : ⊥ = cc in absurd no
flat_at {A} {B} f (z ∷ xs) zero j x y e h =
    let same : z ≡ x = cc in
    (j, get_prefix (f z) (flat_map f xs) j y (subst (λ (w : A). slice_get (f w) j ≡ Some y) (sym same) h))
flat_at f (z ∷ xs) (suc i) j x y e h =
    let rest = flat_at f xs i j x y e h in (length (f z) + rest.0, get_suffix (f z) (flat_map f xs) rest.0 ∙ rest.1)

literal_there : (l : Lit) (d : Demand) → demands_literal l d ≡ true → slice_get (literal_in d) 0 ≡ Some l
literal_there l Nothing e = let no : ⊥ = cc in absurd no
literal_there l (AConstructor c) e = let no : ⊥ = cc in absurd no
literal_there l (ALiteral m) e = ap Some (sym (literal_is l m e))

pub literal_occurs : (k : ℕ) (rows : List Row) (l : Lit) (i : ℕ) (row : Row) → slice_get rows i ≡ Some row
    → demands_literal l (demand_at k row) ≡ true → (j : ℕ) × (slice_get (literals_at k rows) j ≡ Some l)
literal_occurs k rows l i row e h =
    let all = flat_map (λ other. literal_in (demand_at k other)) rows in
    let there = flat_at (λ (other : Row). literal_in (demand_at k other)) rows i 0 row l e (literal_there l (demand_at k row) h) in
    occurs_first all there.0 l there.1

-- ---- positions that all rows demand

demanded_at : (k j : ℕ) (ps : List Pattern) (rows : List Row) → demanded_from j ps rows ≡ Some k → list_all (demands k) rows ≡ true
demanded_at k j [] rows e = let no : ⊥ = cc in absurd no
demanded_at k j (p ∷ ps) rows e = by (list_all (demands j) rows) refl e (λ f. demanded_at k (suc j) ps rows f)
  where
    by : (b : Bool) → list_all (demands j) rows ≡ b → cond b (Some j) (demanded_from (suc j) ps rows) ≡ Some k
        → (demanded_from (suc j) ps rows ≡ Some k → list_all (demands k) rows ≡ true) → list_all (demands k) rows ≡ true
    by true f g rest = let same : j ≡ k = cc in ap (λ (n : ℕ). list_all (demands n) rows) (sym same) ∙ f
    by false f g rest = rest g

-- each row demands the position that all demand
pub all_demand_it : (k : ℕ) (rows : List Row) (i : ℕ) (row : Row) → demanded_by_all rows ≡ Some k → slice_get rows i ≡ Some row
    → demands k row ≡ true
all_demand_it k [] i row e f = let no : ⊥ = cc in absurd no
all_demand_it k (first ∷ rows) i row e f =
    all_at (demands k) (first ∷ rows) i row (demanded_at k 0 first.patterns (first ∷ rows) e) f
