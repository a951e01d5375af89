-- The relation of choosing and its function say the same: each look drops a row or meets one of its
-- demands.
use Rattle.std.proofs.Common.{◌≡◌, ℕ, zero, suc, ◌+◌, ◌<◌, ◌≤◌, Bool, true, false, not, ◌||◌, List, [], ◌∷◌, ◌++◌, if◌then◌else◌, cond, filter, map, replicate, take, drop, length, Option, None, Some, option_map, slice_get, refl, ap, sym, ◌∙◌, subst, arith, add-one, eq-eqb}
use Rattle.std.proofs.lemmas.Bool.Decides.{Decides-int_eq}
use Rattle.cu_calculus.specs.declared.ConId.{ConId}
use Rattle.cu_calculus.specs.declared.Lit.{Lit}
use Rattle.cu_calculus.specs.declared.Lit.TheVariants.{Char, Int}
use Rattle.cu_calculus.specs.Choose as choose
use Rattle.cu_calculus.specs.Choose.{AConstructor, ALiteral, Again, Chooses, Demand, Look, Specialize, Nothing, Nowhere, Row, Take, arguments_of, at_constructor, at_literal, demand_at, demand_of, has_variable, is_demanding, leftmost, list_patterns, look, look_at, look_from, specialized_look, specialized_row, not_literal, same_type, spliced, demands_constructor, demands_literal, demands_nothing}
use Rattle.cu_calculus.specs.Chosen.{all_demands, chosen, chosen_after, chosen_within, demands, list_demands, looks}
use Rattle.cu_calculus.specs.Literal.{same_literal}
use Rattle.cu_calculus.specs.Program.{Program}
use Rattle.cu_calculus.specs.Term as term
use Rattle.cu_calculus.specs.Term.{Pattern, Patterns}
use Rattle.cu_calculus.specs.Value as value
use Rattle.cu_calculus.specs.Value.{Value, list_of}

-- a literal is the same as itself
pub literal_itself : (l : Lit) → same_literal l l ≡ true
literal_itself (Int n) = (Decides-int_eq n n).1 refl
literal_itself (Char n) = eq-eqb n n refl

pub list_demands-append : (xs ys : List Pattern) → list_demands (xs ++ ys) ≡ list_demands xs + list_demands ys
list_demands-append [] ys = omega arith
list_demands-append (x ∷ xs) ys = let rest = list_demands-append xs ys in omega arith

list_demands-replicate : (n x : ℕ) → list_demands (replicate n (term.Any x)) ≡ 0
list_demands-replicate zero x = refl
list_demands-replicate (suc n) x = let rest = list_demands-replicate n x in omega arith

list_demands-patterns : (ps : Patterns) → list_demands (list_patterns ps) ≡ all_demands ps
list_demands-patterns term.NoPattern = refl
list_demands-patterns (term.MorePatterns p ps) = ap (λ n. demands p + n) (list_demands-patterns ps)

-- what a pattern demands itself
abbrev pub demanded : Demand → ℕ
demanded Nothing = 0
demanded (ALiteral l) = 1
demanded (AConstructor c) = 1

-- the arguments' patterns demand the rest
arguments_demand : (n : ℕ) (p : Pattern) → list_demands (arguments_of n p) + demanded (demand_of p) ≤ demands p
arguments_demand n (term.Any x) = let none = list_demands-replicate n x in omega arith
arguments_demand n (term.Exactly l) = omega arith
arguments_demand n (term.Built c ps) = let same = list_demands-patterns ps in omega arith
arguments_demand n (term.Named x p) = arguments_demand n p

-- patterns but for one
around : (k : ℕ) (ps : List Pattern) → list_demands (take k ps) + list_demands (drop (suc k) ps) ≤ list_demands ps
around zero [] = omega arith
around zero (p ∷ ps) = omega arith
around (suc k) [] = omega arith
around (suc k) (p ∷ ps) = let rest = around k ps in omega arith

around_one : (k : ℕ) (ps : List Pattern) (p : Pattern) → slice_get ps k ≡ Some p
    → list_demands (take k ps) + (demands p + list_demands (drop (suc k) ps)) ≡ list_demands ps
around_one zero [] p e = let no : ⊥ = cc in absurd no
around_one zero (q ∷ ps) p e = let same : q ≡ p = cc in let equal = ap demands same in omega arith
around_one (suc k) [] p e = let no : ⊥ = cc in absurd no
around_one (suc k) (q ∷ ps) p e = let rest = around_one k ps p e in omega arith

spliced_demands : (k : ℕ) (arguments ps : List Pattern)
    → list_demands (spliced k arguments ps) ≡ (list_demands (take k ps) + list_demands arguments) + list_demands (drop (suc k) ps)
spliced_demands k arguments ps =
    let outer = list_demands-append (take k ps ++ arguments) (drop (k + 1) ps) in
    let inner = list_demands-append (take k ps) arguments in
    let place : list_demands (drop (k + 1) ps) ≡ list_demands (drop (suc k) ps) = ap (λ n. list_demands (drop n ps)) (add-one k) in
    omega arith

-- the patterns of a row, specialized, demand no more than before, and less where the row demands
-- something there
specialized_demands : (k n : ℕ) (row : Row) → list_demands (specialized_row k n row).patterns + demanded (demand_at k row) ≤ list_demands row.patterns
specialized_demands k n row = by (slice_get row.patterns k) refl
  where
    by : (found : Option Pattern) → slice_get row.patterns k ≡ found
        → list_demands (spliced k (elim found [ Some p ↦ arguments_of n p | None ↦ [] ]) row.patterns)
        + demanded (elim found [ Some p ↦ demand_of p | None ↦ Nothing ]) ≤ list_demands row.patterns
    by None e =
        let whole = spliced_demands k [] row.patterns in
        let parts = around k row.patterns in
        omega arith
    by (Some p) e =
        let whole = spliced_demands k (arguments_of n p) row.patterns in
        let parts = around_one k row.patterns p e in
        let inner = arguments_demand n p in
        omega arith

-- a row that passes a test stays, and counts
kept_looks : (b : Bool) (k n : ℕ) (row : Row) (kept rows : List Row) → looks (map (specialized_row k n) kept) ≤ looks rows
    → looks (map (specialized_row k n) (cond b (row ∷ kept) kept)) ≤ looks (row ∷ rows)
kept_looks true k n row kept rows h = let fewer = specialized_demands k n row in omega arith
kept_looks false k n row kept rows h = omega arith

kept_fewer : (b : Bool) (k n : ℕ) (row : Row) (kept rows : List Row) → demanded (demand_at k row) ≡ 1 → looks (map (specialized_row k n) kept) ≤ looks rows
    → looks (map (specialized_row k n) (cond b (row ∷ kept) kept)) < looks (row ∷ rows)
kept_fewer true k n row kept rows e h = let fewer = specialized_demands k n row in omega arith
kept_fewer false k n row kept rows e h = omega arith

-- rows that pass a test, specialized, take no more looks, and fewer where the first demands something
-- there
specialized_looks : (k n : ℕ) (test : Row → Bool) (rows : List Row) → looks (map (specialized_row k n) (filter test rows)) ≤ looks rows
specialized_looks k n test [] = omega arith
specialized_looks k n test (row ∷ rows) = kept_looks (test row) k n row (filter test rows) rows (specialized_looks k n test rows)

kept_or_dropped : (b : Bool) (row : Row) (kept rows : List Row) → looks kept ≤ looks rows → looks (cond b (row ∷ kept) kept) ≤ looks (row ∷ rows)
kept_or_dropped true row kept rows h = omega arith
kept_or_dropped false row kept rows h = omega arith

filtered_looks : (test : Row → Bool) (rows : List Row) → looks (filter test rows) ≤ looks rows
filtered_looks test [] = omega arith
filtered_looks test (row ∷ rows) = kept_or_dropped (test row) row (filter test rows) rows (filtered_looks test rows)

-- what a look leaves takes fewer looks
abbrev pub LeavesFewer : ℕ → Look → Type 0
LeavesFewer n Nowhere = Unit {0}
LeavesFewer n (Take choice) = Unit {0}
LeavesFewer n (Again rows) = looks rows < n
LeavesFewer n (Specialize rows parts) = looks rows < n

specialize_fewer : (k : ℕ) (test : Demand → Bool) (first : Row) (rows : List Row) (arguments values : List Value) → demanded (demand_at k first) ≡ 1
    → LeavesFewer (looks (first ∷ rows)) (specialized_look k test (first ∷ rows) arguments values)
specialize_fewer k test first rows arguments values e =
    let passes = λ (row : Row). test (demand_at k row) in
    kept_fewer (passes first) k (length arguments) first (filter passes rows) rows e (specialized_looks k (length arguments) passes rows)

-- the first row goes where it wants this literal
again_fewer : (k : ℕ) (m : Lit) (first : Row) (rows : List Row) → demand_at k first ≡ ALiteral m
    → LeavesFewer (looks (first ∷ rows)) (Again (filter (λ row. not_literal m (demand_at k row)) (first ∷ rows)))
again_fewer k m first rows e =
    let goes : not_literal m (demand_at k first) ≡ false = ap (not_literal m) e ∙ ap not (literal_itself m) in
    let others = filter (λ (row : Row). not_literal m (demand_at k row)) rows in
    let few : looks others ≤ looks rows = filtered_looks (λ row. not_literal m (demand_at k row)) rows in
    let none : looks others < looks (first ∷ rows) = omega arith in
    subst (λ (b : Bool). looks (cond b (first ∷ others) others) < looks (first ∷ rows)) (sym goes) none

fewer_if : (b : Bool) (n : ℕ) (one two : Look) → LeavesFewer n one → LeavesFewer n two → LeavesFewer n (if b then one else two)
fewer_if true n one two h k = h
fewer_if false n one two h k = k

at_literal_fewer : (k : ℕ) (l : Lit) (demand : Demand) (b : Bool) (first : Row) (rows : List Row) (values : List Value) → demand_at k first ≡ demand
    → demanded demand ≡ 1 → LeavesFewer (looks (first ∷ rows)) (at_literal k l demand b (first ∷ rows) values)
at_literal_fewer k l demand false first rows values e d = specialize_fewer k (demands_literal l) first rows [] values (ap demanded e ∙ d)
at_literal_fewer k l Nothing true first rows values e d = tt
at_literal_fewer k l (AConstructor c) true first rows values e d = tt
at_literal_fewer k l (ALiteral m) true first rows values e d =
    let test = λ (a : Demand). demands_nothing a || demands_literal l a in
    fewer_if (same_literal l m) (looks (first ∷ rows)) (specialized_look k test (first ∷ rows) [] values)
    (Again (filter (λ row. not_literal m (demand_at k row)) (first ∷ rows))) (specialize_fewer k test first rows [] values (ap demanded e ∙ d))
    (again_fewer k m first rows e)

at_constructor_fewer : (program : Program) (k : ℕ) (c : ConId) (demand : Demand) (b : Bool) (first : Row) (rows : List Row)
    (arguments values : List Value) → demand_at k first ≡ demand → demanded demand ≡ 1
    → LeavesFewer (looks (first ∷ rows)) (at_constructor program k c demand b (first ∷ rows) arguments values)
at_constructor_fewer program k c demand false first rows arguments values e d =
    specialize_fewer k (demands_constructor c) first rows arguments values (ap demanded e ∙ d)
at_constructor_fewer program k c Nothing true first rows arguments values e d = tt
at_constructor_fewer program k c (ALiteral m) true first rows arguments values e d = again_fewer k m first rows e
at_constructor_fewer program k c (AConstructor f) true first rows arguments values e d =
    let test = λ (a : Demand). demands_nothing a || demands_constructor c a in
    fewer_if (same_type program c f) (looks (first ∷ rows)) (specialized_look k test (first ∷ rows) arguments values) Nowhere
    (specialize_fewer k test first rows arguments values (ap demanded e ∙ d)) tt

look_at_fewer : (program : Program) (k : ℕ) (first : Row) (rows : List Row) (values : List Value) (found : Option Value)
    → demanded (demand_at k first) ≡ 1 → LeavesFewer (looks (first ∷ rows)) (look_at program k first (first ∷ rows) values found)
look_at_fewer program k first rows values None d = tt
look_at_fewer program k first rows values (Some value.Bottom) d = tt
look_at_fewer program k first rows values (Some (value.Variable x)) d = tt
look_at_fewer program k first rows values (Some (value.Partial h vs)) d = tt
look_at_fewer program k first rows values (Some (value.Literal l)) d =
    at_literal_fewer k l (demand_at k first) (has_variable k (first ∷ rows)) first rows values refl d
look_at_fewer program k first rows values (Some (value.Constructed c vs)) d =
    at_constructor_fewer program k c (demand_at k first) (has_variable k (first ∷ rows)) first rows (list_of vs) values refl d

-- something is demanded at the leftmost position that is demanded
demanding_is : (d : Demand) → is_demanding d ≡ true → demanded d ≡ 1
demanding_is Nothing e = let no : ⊥ = cc in absurd no
demanding_is (ALiteral l) e = refl
demanding_is (AConstructor c) e = refl

-- what a list of patterns demands at a place
abbrev pub demand_in : List Pattern → ℕ → Demand
demand_in ps k = elim (slice_get ps k) [ Some p ↦ demand_of p | None ↦ Nothing ]

leftmost_demands : (ps : List Pattern) (k : ℕ) → leftmost ps ≡ Some k → demanded (demand_in ps k) ≡ 1
leftmost_demands [] k e = let no : ⊥ = cc in absurd no
leftmost_demands (p ∷ ps) k e = by (is_demanding (demand_of p)) refl (leftmost ps) (λ m f. leftmost_demands ps m f) e
  where
    by : (b : Bool) → is_demanding (demand_of p) ≡ b → (rest : Option ℕ) → ((m : ℕ) → rest ≡ Some m → demanded (demand_in ps m) ≡ 1)
        → (if b then Some 0 else option_map (λ n. n + 1) rest) ≡ Some k → demanded (demand_in (p ∷ ps) k) ≡ 1
    by true d rest inner f =
        let first : 0 ≡ k = cc in subst (λ (n : ℕ). demanded (demand_in (p ∷ ps) n) ≡ 1) first (demanding_is (demand_of p) d)
    by false d None inner f = let no : ⊥ = cc in absurd no
    by false d (Some m) inner f =
        let place : m + 1 ≡ k = cc in
        let next : suc m ≡ k = sym (add-one m) ∙ place in
        subst (λ (n : ℕ). demanded (demand_in (p ∷ ps) n) ≡ 1) next (inner m refl)

look_fewer : (program : Program) (rows : List Row) (values : List Value) → LeavesFewer (looks rows) (look program rows values)
look_fewer program [] values = tt
look_fewer program (first ∷ rows) values = by (leftmost first.patterns) refl
  where
    by : (found : Option ℕ) → leftmost first.patterns ≡ found
        → LeavesFewer (looks (first ∷ rows)) (look_from program first (first ∷ rows) values found)
    by None e = tt
    by (Some k) e = look_at_fewer program k first rows values (slice_get values k) (leftmost_demands first.patterns k e)

-- what is chosen is found, within enough looks
pub chosen_enough : (program : Program) (rows : List Row) (values : List Value) (choice : ℕ) → Chooses program rows values choice
    → (n : ℕ) → looks rows < n → chosen_within n program rows values ≡ Some choice
chosen_enough program rows values choice h zero l = absurd (omega arith)
chosen_enough program rows values choice (choose.taken _ _ _ e) (suc n) l = ap (chosen_after (chosen_within n program) values) e
chosen_enough program rows values choice (choose.again _ fewer _ _ e rest) (suc n) l =
    let less : looks fewer < looks rows = subst (λ (found : Look). LeavesFewer (looks rows) found) e (look_fewer program rows values) in
    ap (chosen_after (chosen_within n program) values) e ∙ chosen_enough program fewer values choice rest n (omega arith)
chosen_enough program rows values choice (choose.specialized_rows _ fewer _ parts _ e rest) (suc n) l =
    let less : looks fewer < looks rows = subst (λ (found : Look). LeavesFewer (looks rows) found) e (look_fewer program rows values) in
    ap (chosen_after (chosen_within n program) values) e ∙ chosen_enough program fewer parts choice rest n (omega arith)

pub chooses_chosen : (program : Program) (rows : List Row) (values : List Value) (choice : ℕ) → Chooses program rows values choice
    → chosen program rows values ≡ Some choice
chooses_chosen program rows values choice h = chosen_enough program rows values choice h (looks rows + 1) (omega arith)

-- what is found is chosen
chosen_within_chooses : (n : ℕ) (program : Program) (rows : List Row) (values : List Value) (choice : ℕ)
    → chosen_within n program rows values ≡ Some choice → Chooses program rows values choice
chosen_within_chooses zero program rows values choice e = let no : ⊥ = cc in absurd no
chosen_within_chooses (suc n) program rows values choice e =
    by (look program rows values) refl (λ fewer parts f. chosen_within_chooses n program fewer parts choice f) e
  where
    by : (found : Look) → look program rows values ≡ found
        → ((fewer : List Row) (parts : List Value) → chosen_within n program fewer parts ≡ Some choice → Chooses program fewer parts choice)
        → chosen_after (chosen_within n program) values found ≡ Some choice → Chooses program rows values choice
    by Nowhere is inner f = let no : ⊥ = cc in absurd no
    by (Take k) is inner f = let same : k ≡ choice = cc in choose.taken rows values choice (is ∙ ap Take same)
    by (Again fewer) is inner f = choose.again rows fewer values choice is (inner fewer values f)
    by (Specialize fewer parts) is inner f = choose.specialized_rows rows fewer values parts choice is (inner fewer parts f)

pub chosen_chooses : (program : Program) (rows : List Row) (values : List Value) (choice : ℕ) → chosen program rows values ≡ Some choice
    → Chooses program rows values choice
chosen_chooses program rows values choice e = chosen_within_chooses (looks rows + 1) program rows values choice e

-- at most one alternative is taken
pub chooses_one : (program : Program) (rows : List Row) (values : List Value) (one two : ℕ) → Chooses program rows values one
    → Chooses program rows values two → one ≡ two
chooses_one program rows values one two h k =
    let first = chooses_chosen program rows values one h in
    let second = chooses_chosen program rows values two k in
    cc

-- enough looks are enough
chosen_within_same : (n m : ℕ) (program : Program) (rows : List Row) (values : List Value) → looks rows < n → looks rows < m
    → chosen_within n program rows values ≡ chosen_within m program rows values
chosen_within_same zero m program rows values l k = absurd (omega arith)
chosen_within_same (suc n) zero program rows values l k = absurd (omega arith)
chosen_within_same (suc n) (suc m) program rows values l k =
    by (look program rows values) (look_fewer program rows values) (λ fewer parts a b. chosen_within_same n m program fewer parts a b)
  where
    by : (found : Look) → LeavesFewer (looks rows) found
        → ((fewer : List Row) (parts : List Value) → looks fewer < n → looks fewer < m
        → chosen_within n program fewer parts ≡ chosen_within m program fewer parts)
        → chosen_after (chosen_within n program) values found ≡ chosen_after (chosen_within m program) values found
    by Nowhere less inner = refl
    by (Take choice) less inner = refl
    by (Again fewer) less inner = inner fewer values (omega arith) (omega arith)
    by (Specialize fewer parts) less inner = inner fewer parts (omega arith) (omega arith)

-- one look, and then the choice among what it leaves
pub chosen_looks : (program : Program) (rows : List Row) (values : List Value)
    → chosen program rows values ≡ chosen_after (chosen program) values (look program rows values)
chosen_looks program rows values = whole ∙ by (look program rows values) (look_fewer program rows values)
  where
    whole : chosen_within (looks rows + 1) program rows values
        ≡ chosen_after (chosen_within (looks rows) program) values (look program rows values)
    whole = ap (λ n. chosen_within n program rows values) (add-one (looks rows))

    by : (found : Look) → LeavesFewer (looks rows) found
        → chosen_after (chosen_within (looks rows) program) values found ≡ chosen_after (chosen program) values found
    by Nowhere less = refl
    by (Take choice) less = refl
    by (Again fewer) less = chosen_within_same (looks rows) (looks fewer + 1) program fewer values less (omega arith)
    by (Specialize fewer parts) less = chosen_within_same (looks rows) (looks fewer + 1) program fewer parts less (omega arith)

pub again_takes_fewer : (program : Program) (rows fewer : List Row) (values : List Value) → look program rows values ≡ Again fewer
    → looks fewer < looks rows
again_takes_fewer program rows fewer values e = subst (λ (found : Look). LeavesFewer (looks rows) found) e (look_fewer program rows values)

pub specialize_takes_fewer : (program : Program) (rows fewer : List Row) (values parts : List Value) → look program rows values ≡ Specialize fewer parts
    → looks fewer < looks rows
specialize_takes_fewer program rows fewer values parts e = subst (λ (found : Look). LeavesFewer (looks rows) found) e (look_fewer program rows values)
