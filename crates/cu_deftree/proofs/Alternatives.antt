-- Rows of a case distinction beside the rows among which its value chooses.
use Rattle.std.proofs.Common.{◌≡◌, ◌≢◌, ℕ, zero, suc, ◌+◌, ◌<◌, inl, inr, Bool, true, false, not, ◌&&◌, ◌||◌, List, [], ◌∷◌, ◌++◌, if◌then◌else◌, cond, filter, length, map, nat_eq, Option, None, Some, slice_get, IsTrue, refl, ap, ap₂, sym, ◌∙◌, subst, arith, eq-eqb, eqb-true}
use Rattle.std.specs.List.{list_all, list_any}
use Rattle.std.proofs.lemmas.Bool.{and_parts}
use Rattle.cu_calculus.specs.declared.ConId.{ConId}
use Rattle.cu_calculus.specs.declared.FunId.{FunId}
use Rattle.cu_calculus.specs.declared.Head.TheVariants as head
use Rattle.cu_calculus.specs.declared.Lit.{Lit}
use Rattle.cu_calculus.specs.declared.Lit.TheVariants.{Char, Int}
use Rattle.cu_calculus.specs.declared.Mode.{Mode}
use Rattle.cu_calculus.specs.declared.builtin.Primitive.{Primitive}
use Rattle.cu_calculus.specs.declared.builtin.Primitive.TheVariants as prim
use Rattle.cu_calculus.specs.Below as below
use Rattle.cu_calculus.specs.Below.{Below}
use Rattle.cu_calculus.specs.Builtin as builtin
use Rattle.cu_calculus.specs.Builtin.{Answers, Compares, on_literals, truth_of}
use Rattle.cu_calculus.specs.Choose as choose
use Rattle.cu_calculus.specs.Choose.{ALiteral, AConstructor, Again, Chooses, Demand, Look, Specialize, Nothing, alternative_at, arguments_of, at_constructor, at_literal, demand_of, has_variable, is_demanding, leftmost, look, look_at, look_from, specialized_look, specialized_row, not_literal, rows_from, same_type, spliced, demands_constructor, demands_literal, demands_nothing}
use Rattle.cu_calculus.specs.Gives as gives
use Rattle.cu_calculus.specs.Gives.{Applied, Claim, Gives}
use Rattle.cu_calculus.specs.Literal.{same_literal}
use Rattle.cu_calculus.specs.Match.{Bindings, Environment, bind_all}
use Rattle.cu_calculus.specs.Program.{Constructor, Function, Program, constructor_of, function_of}
use Rattle.cu_calculus.specs.Term as term
use Rattle.cu_calculus.specs.Term.{Alternatives, Pattern, Term, Terms}
use Rattle.cu_calculus.specs.Valid.{also_all, fit_alternatives, fits_pattern, fits_term, holds, is_linear, variables_of}
use Rattle.cu_calculus.specs.Value as value
use Rattle.cu_calculus.specs.Value.{Value, Values, list_of}
use Rattle.cu_calculus.proofs.Choosing.{literal_itself}
use Rattle.cu_calculus.proofs.Fitting.{any, fits_any}
use Rattle.cu_deftree.specs.Lowering.{IsOperation, goes_on, test_of}
use Rattle.cu_deftree.specs.Rows.{Names, Row, demand_at, demands, name_of, names_at, rows_of, specialized}
use Rattle.cu_deftree.proofs.Meets.{bound_agrees, bound_in, fits_meets, matched_binds, matched_fits, others_stay, shape_fits, shape_matched}
use Rattle.cu_deftree.proofs.Opening.{Known, Low, holds_append, inner, known_at, low_names_at}
use Rattle.cu_deftree.proofs.Shows as shows
use Rattle.cu_deftree.proofs.Shows.{AllShow, Shows}
use Rattle.cu_deftree.proofs.Suits.{RowsFit, Suits}

-- ---- rows with the same patterns

abbrev pub Alike : List Row → List choose.Row → Type 0
Alike [] [] = Unit {0}
Alike (row ∷ rows) (twin ∷ twins) = (twin.patterns ≡ row.patterns) × Alike rows twins
Alike [] (twin ∷ twins) = ⊥
Alike (row ∷ rows) [] = ⊥

abbrev demand_in : ℕ → List Pattern → Demand
demand_in k ps = elim (slice_get ps k) [ Some p ↦ demand_of p | None ↦ Nothing ]

pub same_demand : (k : ℕ) (row : Row) (twin : choose.Row) → twin.patterns ≡ row.patterns → choose.demand_at k twin ≡ demand_at k row
same_demand k row twin e = ap (demand_in k) e

-- tests that agree on rows with the same patterns
abbrev pub Agree : (Row → Bool) → (choose.Row → Bool) → Type 0
Agree test other = (row : Row) (twin : choose.Row) → twin.patterns ≡ row.patterns → other twin ≡ test row

pub tests_agree : (k : ℕ) (test other : Demand → Bool) → ((d : Demand) → other d ≡ test d)
    → Agree (λ row. test (demand_at k row)) (λ twin. other (choose.demand_at k twin))
tests_agree k test other h row twin e = ap other (same_demand k row twin e) ∙ h (demand_at k row)

pub alike_filter : (test : Row → Bool) (other : choose.Row → Bool) (rows : List Row) (twins : List choose.Row) → Agree test other → Alike rows twins
    → Alike (filter test rows) (filter other twins)
alike_filter test other [] [] a h = tt
alike_filter test other [] (twin ∷ twins) a h = absurd h
alike_filter test other (row ∷ rows) [] a h = absurd h
alike_filter test other (row ∷ rows) (twin ∷ twins) a h =
    by (test row) (other twin) (a row twin h.0) (alike_filter test other rows twins a h.1)
  where
    by : (b c : Bool) → c ≡ b → Alike (filter test rows) (filter other twins)
        → Alike (cond b (row ∷ filter test rows) (filter test rows)) (cond c (twin ∷ filter other twins) (filter other twins))
    by true true e rest = (h.0, rest)
    by true false e rest = let no : ⊥ = cc in absurd no
    by false true e rest = let no : ⊥ = cc in absurd no
    by false false e rest = rest

abbrev specialized_patterns : ℕ → ℕ → List Pattern → List Pattern
specialized_patterns k n ps = spliced k (elim (slice_get ps k) [ Some p ↦ arguments_of n p | None ↦ [] ]) ps

pub alike_specialized : (k n : ℕ) (new : List ℕ) (rows : List Row) (twins : List choose.Row) → length new ≡ n → Alike rows twins
    → Alike (map (specialized k new) rows) (map (specialized_row k n) twins)
alike_specialized k n new [] [] e h = tt
alike_specialized k n new [] (twin ∷ twins) e h = absurd h
alike_specialized k n new (row ∷ rows) [] e h = absurd h
alike_specialized k n new (row ∷ rows) (twin ∷ twins) e h =
    (ap₂ (specialized_patterns k) (sym e) h.0, alike_specialized k n new rows twins e h.1)

some_variable : (d : Demand) → demands_nothing d ≡ not (is_demanding d)
some_variable Nothing = refl
some_variable (ALiteral l) = refl
some_variable (AConstructor c) = refl

pub variable_there : (k : ℕ) (rows : List Row) (twins : List choose.Row) → Alike rows twins
    → has_variable k twins ≡ list_any (λ other. not (demands k other)) rows
variable_there k [] [] h = refl
variable_there k [] (twin ∷ twins) h = absurd h
variable_there k (row ∷ rows) [] h = absurd h
variable_there k (row ∷ rows) (twin ∷ twins) h =
    ap₂ (λ (a b : Bool). a || b) (ap demands_nothing (same_demand k row twin h.0) ∙ some_variable (demand_at k row)) (variable_there k rows twins h.1)

-- ---- rows that suit values and are chosen

pub record FoundAmong (program : Program) (claims : List Claim) (env : Environment) (vs : List Value) (v : Value) (rows : List Row)
    (twins : List choose.Row) : Type 0 where
  pub place : ℕ
  pub row : Row
  pub twin : choose.Row
  pub there : slice_get rows place ≡ Some row
  pub twin_there : slice_get twins place ≡ Some twin
  pub suits : Suits program claims env vs v row
  pub chosen : Chooses program twins vs twin.choice

pub record KeptAt (rows : List Row) (twins : List choose.Row) (test : Row → Bool) (row : Row) (twin : choose.Row) : Type 0 where
  pub place : ℕ
  pub there : slice_get rows place ≡ Some row
  pub twin_there : slice_get twins place ≡ Some twin
  pub passes : test row ≡ true

kept_on : (rows : List Row) (twins : List choose.Row) (test : Row → Bool) (r row : Row) (t twin : choose.Row) → KeptAt rows twins test row twin
    → KeptAt (r ∷ rows) (t ∷ twins) test row twin
kept_on rows twins test r row t twin k = record { place = suc k.place; there = k.there; twin_there = k.twin_there; passes = k.passes }

pub kept_at : (rows : List Row) (twins : List choose.Row) (test : Row → Bool) (other : choose.Row → Bool) (i : ℕ) (row : Row) (twin : choose.Row)
    → Agree test other → Alike rows twins → slice_get (filter test rows) i ≡ Some row → slice_get (filter other twins) i ≡ Some twin
    → KeptAt rows twins test row twin
kept_at [] [] test other i row twin a h e f = let no : ⊥ = cc in absurd no
kept_at [] (t ∷ twins) test other i row twin a h e f = absurd h
kept_at (r ∷ rows) [] test other i row twin a h e f = absurd h
kept_at (r ∷ rows) (t ∷ twins) test other i row twin a h e f =
    by (test r) (other t) refl (a r t h.0) i e f (λ j g k. kept_at rows twins test other j row twin a h.1 g k)
  where
    by : (b c : Bool) → test r ≡ b → c ≡ b → (j : ℕ) → slice_get (cond b (r ∷ filter test rows) (filter test rows)) j ≡ Some row
        → slice_get (cond c (t ∷ filter other twins) (filter other twins)) j ≡ Some twin
        → ((j : ℕ) → slice_get (filter test rows) j ≡ Some row → slice_get (filter other twins) j ≡ Some twin → KeptAt rows twins test row twin)
        → KeptAt (r ∷ rows) (t ∷ twins) test row twin
    by true true p s zero g k later =
        let same : r ≡ row = cc in record { place = 0; there = g; twin_there = k; passes = ap test (sym same) ∙ p }
    by true true p s (suc j) g k later = kept_on rows twins test r row t twin (later j g k)
    by true false p s j g k later = let no : ⊥ = cc in absurd no
    by false true p s j g k later = let no : ⊥ = cc in absurd no
    by false false p s j g k later = kept_on rows twins test r row t twin (later j g k)

pub map_at : {A B : Type 0} (f : A → B) (xs : List A) (i : ℕ) (y : B) → slice_get (map f xs) i ≡ Some y → (x : A) × (slice_get xs i ≡ Some x) × (y ≡ f x)
map_at f [] i y e = let no : ⊥ = cc in absurd no
map_at f (x ∷ xs) zero y e = (x, refl, cc)
map_at f (x ∷ xs) (suc i) y e = map_at f xs i y e

pub found_again : (program : Program) (claims : List Claim) (env : Environment) (vs : List Value) (v : Value) (test : Row → Bool)
    (other : choose.Row → Bool) (rows : List Row) (twins : List choose.Row) → Agree test other → Alike rows twins
    → look program twins vs ≡ Again (filter other twins) → FoundAmong program claims env vs v (filter test rows) (filter other twins)
    → FoundAmong program claims env vs v rows twins
found_again program claims env vs v test other rows twins a h e found =
    let before = kept_at rows twins test other found.place found.row found.twin a h found.there found.twin_there in
    record {
      place = before.place;
      row = found.row;
      twin = found.twin;
      there = before.there;
      twin_there = before.twin_there;
      suits = found.suits;
      chosen = choose.again twins (filter other twins) vs found.twin.choice e found.chosen;
    }

-- ---- looks

abbrev pub goes_too : Bool → (Demand → Bool) → Demand → Bool
goes_too false test d = test d
goes_too true test d = demands_nothing d || test d

pub goes_same : (b : Bool) (test : Demand → Bool) (d : Demand) → goes_too b test d ≡ goes_on b test d
goes_same false test d = by (test d)
  where
    by : (c : Bool) → c ≡ (c || (false && demands_nothing d))
    by true = refl
    by false = refl
goes_same true test d = by (demands_nothing d) (test d)
  where
    by : (a c : Bool) → (a || c) ≡ (c || (true && a))
    by true true = refl
    by true false = refl
    by false true = refl
    by false false = refl

pub looks_at : (program : Program) (k : ℕ) (row : Row) (twin : choose.Row) (twins : List choose.Row) (vs : List Value) (w : Value)
    → twin.patterns ≡ row.patterns → leftmost row.patterns ≡ Some k → slice_get vs k ≡ Some w
    → look program (twin ∷ twins) vs ≡ look_at program k twin (twin ∷ twins) vs (Some w)
looks_at program k row twin twins vs w e f g =
    ap (look_from program twin (twin ∷ twins) vs) (ap leftmost e ∙ f) ∙ ap (look_at program k twin (twin ∷ twins) vs) g

pub same_type_swaps : (program : Program) (c d : ConId) → same_type program c d ≡ true → same_type program d c ≡ true
same_type_swaps program c d e = by (constructor_of program c) (constructor_of program d) e
  where
    by : (one two : Option Constructor)
        → elim one [ Some a ↦ elim two [ Some b ↦ nat_eq a.of_type b.of_type | None ↦ false ] | None ↦ false ] ≡ true
        → elim two [ Some b ↦ elim one [ Some a ↦ nat_eq b.of_type a.of_type | None ↦ false ] | None ↦ false ] ≡ true
    by None None f = f
    by None (Some b) f = f
    by (Some a) None f = f
    by (Some a) (Some b) f = eq-eqb b.of_type a.of_type (sym (eqb-true a.of_type b.of_type f))

pub passes_at : {A : Type 0} (test : A → Bool) (xs : List A) (i : ℕ) (x : A) → slice_get (filter test xs) i ≡ Some x → test x ≡ true
passes_at test [] i x e = let no : ⊥ = cc in absurd no
passes_at {A} test (y ∷ xs) i x e = by (test y) refl i e (λ j f. passes_at test xs j x f)
  where
    by : (b : Bool) → test y ≡ b → (j : ℕ) → slice_get (cond b (y ∷ filter test xs) (filter test xs)) j ≡ Some x
        → ((j : ℕ) → slice_get (filter test xs) j ≡ Some x → test x ≡ true) → test x ≡ true
    by true p zero f later = let same : y ≡ x = cc in ap test (sym same) ∙ p
    by true p (suc j) f later = later j f
    by false p j f later = later j f

-- ---- the test by `==`

no_equal_literals : (program : Program) (ls : List Lit) (v : Value) → on_literals program prim.Equal ls ≡ Some v → ⊥
no_equal_literals program [] v e = cc
no_equal_literals program (Int m ∷ []) v e = cc
no_equal_literals program (Char c ∷ []) v e = cc
no_equal_literals program (Int m ∷ Int n ∷ []) v e = cc
no_equal_literals program (Int m ∷ Char d ∷ []) v e = cc
no_equal_literals program (Char c ∷ Int n ∷ []) v e = cc
no_equal_literals program (Char c ∷ Char d ∷ []) v e = cc
no_equal_literals program (Int m ∷ Int n ∷ l ∷ ls) v e = cc
no_equal_literals program (Int m ∷ Char d ∷ l ∷ ls) v e = cc
no_equal_literals program (Char c ∷ Int n ∷ l ∷ ls) v e = cc
no_equal_literals program (Char c ∷ Char d ∷ l ∷ ls) v e = cc

record Compared (program : Program) (a b v : Value) : Type 0 where
  pub answer : Bool
  pub compares : Compares a b answer
  pub is : v ≡ truth_of program answer

equal_answers : (program : Program) (operation : Primitive) (us : Values) (v a b : Value) → Answers program operation us v → operation ≡ prim.Equal
    → us ≡ value.MoreValues a (value.MoreValues b value.NoValue) → Compared program a b v
equal_answers program _ _ v a b (builtin.of_literals operation ls us _ e f) same args =
    absurd (no_equal_literals program ls v (ap (λ (o : Primitive). on_literals program o ls) (sym same) ∙ f))
equal_answers program _ _ v a b (builtin.equal c d _ answer compares e) same args =
    let one : c ≡ a = cc in
    let two : d ≡ b = cc in
    record {
      answer = answer;
      compares = subst (λ (x : Value). Compares a x answer) two (subst (λ (x : Value). Compares x d answer) one compares);
      is = e;
    }
equal_answers program _ _ v a b (builtin.unified c d _ alike total e) same args = let no : ⊥ = cc in absurd no
equal_answers program _ _ v a b (builtin.conjoined c d _ p q e) same args = let no : ⊥ = cc in absurd no

same_function : (f g : Function) (found : Option Function) → found ≡ Some f → found ≡ Some g → f ≡ g
same_function f g found e h = cc

equal_applied : (program : Program) (claims : List Claim) (f : FunId) (a b v : Value) (us : Values) → IsOperation program prim.Equal f
    → us ≡ value.MoreValues a (value.MoreValues b value.NoValue) → Applied program claims (head.Fun f) us v → Compared program a b v
equal_applied program claims _ a b v us is args (gives.by_rule f function rules k rule bindings _ _ e h r m p) =
    let same = ap (λ (x : Function). x.body) (same_function function is.function (function_of program f) e is.is_there) in
    let body = is.is_built_in in
    let no : ⊥ = cc in absurd no
equal_applied program claims _ a b v us is args (gives.builtin f function operation _ _ e h answers) =
    let same = ap (λ (x : Function). x.body) (same_function function is.function (function_of program f) e is.is_there) in
    let body = is.is_built_in in
    let operations : operation ≡ prim.Equal = cc in
    equal_answers program operation us v a b answers operations args

below_literal : (w z : Value) → Below w z → (m : Lit) → w ≡ value.Literal m → z ≡ value.Literal m
below_literal _ _ (below.bottom v) m e = let no : ⊥ = cc in absurd no
below_literal _ _ (below.variable x) m e = let no : ⊥ = cc in absurd no
below_literal _ _ (below.literal l) m e = e
below_literal _ _ (below.constructed c us vs p) m e = let no : ⊥ = cc in absurd no
below_literal _ _ (below.partial h us vs p) m e = let no : ⊥ = cc in absurd no

below_constructed : (w z : Value) → Below w z → (c : ConId) (us : Values) → w ≡ value.Constructed c us → (vs : Values) × (z ≡ value.Constructed c vs)
below_constructed _ _ (below.bottom v) c us e = let no : ⊥ = cc in absurd no
below_constructed _ _ (below.variable x) c us e = let no : ⊥ = cc in absurd no
below_constructed _ _ (below.literal l) c us e = let no : ⊥ = cc in absurd no
below_constructed _ _ (below.constructed d ws vs p) c us e =
    let same : d ≡ c = cc in (vs, ap (λ (x : ConId). value.Constructed x vs) same)
below_constructed _ _ (below.partial h ws vs p) c us e = let no : ⊥ = cc in absurd no

-- what a value is by the answer of its test
pub data Tested (w : Value) (l : Lit) : Bool → Type 0 where
  a_literal : (m : Lit) (answer : Bool) → w ≡ value.Literal m → answer ≡ same_literal m l → Tested w l answer
  a_constructor : (c : ConId) (us : Values) (answer : Bool) → w ≡ value.Constructed c us → answer ≡ false → Tested w l answer

tested_by : (a b w : Value) (l : Lit) (answer : Bool) → Compares a b answer → Below a w → Below b (value.Literal l) → Tested w l answer
tested_by _ _ w l _ (builtin.two_literals m n answer e) p q =
    let same : value.Literal l ≡ value.Literal n = below_literal (value.Literal n) (value.Literal l) q n refl in
    let one : n ≡ l = cc in
    a_literal m answer (below_literal (value.Literal m) w p m refl) (e ∙ ap (same_literal m) one)
tested_by _ _ w l _ (builtin.literal_first m c vs) p q =
    let found = below_constructed (value.Constructed c vs) (value.Literal l) q c vs refl in
    let is = found.1 in
    let no : ⊥ = cc in absurd no
tested_by _ _ w l _ (builtin.literal_second c us m) p q =
    let found = below_constructed (value.Constructed c us) w p c us refl in a_constructor c found.0 false found.1 refl
tested_by _ _ w l _ (builtin.different c d us vs e) p q =
    let found = below_constructed (value.Constructed d vs) (value.Literal l) q d vs refl in
    let is = found.1 in
    let no : ⊥ = cc in absurd no
tested_by _ _ w l _ (builtin.alike c us vs answer all) p q =
    let found = below_constructed (value.Constructed c vs) (value.Literal l) q c vs refl in
    let is = found.1 in
    let no : ⊥ = cc in absurd no

variable_low : (program : Program) (claims : List Claim) (env : Environment) (x : ℕ) (w : Value) → Shows program claims env (term.Variable x) w
    → Below w (env x)
variable_low program claims env x _ (shows.bottom _ _) = below.bottom (env x)
variable_low program claims env x w (shows.variable _ _ _ p) = p

literal_low : (program : Program) (claims : List Claim) (env : Environment) (l : Lit) (w : Value) → Shows program claims env (term.Literal l) w
    → Below w (value.Literal l)
literal_low program claims env l _ (shows.bottom _ _) = below.bottom (value.Literal l)
literal_low program claims env l _ (shows.literal _ _) = below.literal l

pub record TestShown (program : Program) (env : Environment) (x : ℕ) (l : Lit) (u : Value) : Type 0 where
  pub answer : Bool
  pub is : u ≡ truth_of program answer
  pub tested : Tested (env x) l answer

pub test_shown : (program : Program) (claims : List Claim) (env : Environment) (f : FunId) (x : ℕ) (l : Lit) (u : Value) → u ≢ value.Bottom
    → IsOperation program prim.Equal f → Shows program claims env (test_of f x l) u → TestShown program env x l u
test_shown program claims env f x l _ some is (shows.bottom _ _) = absurd (some refl)
test_shown program claims env f x l u some is
    (shows.whole _ _ _ us _ (shows.more _ _ _ a _ p (shows.more _ _ _ b _ q (shows.none _))) called) =
    let found = equal_applied program claims f a b u (value.MoreValues a (value.MoreValues b value.NoValue)) is refl called in
    record {
      answer = found.answer;
      is = found.is;
      tested = tested_by a b (env x) l found.answer found.compares (variable_low program claims env x a p) (literal_low program claims env l b q);
    }

-- ---- the alternatives themselves

pub alternatives_alike : (names : Names) (position n : ℕ) (alternatives : Alternatives) → Alike (rows_of names position alternatives) (rows_from n alternatives)
alternatives_alike names position n term.NoAlternative = tt
alternatives_alike names position n (term.MoreAlternatives p t alternatives) = (refl, alternatives_alike names position (n + 1) alternatives)

record AlternativeFits (program : Program) (p : Pattern) (t : Term) : Type 0 where
  pub known : IsTrue (fits_pattern program p)
  pub linear : IsTrue (is_linear (variables_of p))
  pub right : IsTrue (fits_term program any t)

alternative_fits : (program : Program) (p : Pattern) (t : Term) (alternatives : Alternatives)
    → IsTrue (fit_alternatives program any (term.MoreAlternatives p t alternatives))
    → AlternativeFits program p t × IsTrue (fit_alternatives program any alternatives)
alternative_fits program p t alternatives h =
    let may = also_all (variables_of p) any in
    let known = fits_pattern program p in
    let linear = is_linear (variables_of p) in
    let one = and_parts (known && linear && fits_term program may t) (fit_alternatives program any alternatives) h in
    let two = and_parts (known && linear) (fits_term program may t) one.0 in
    let three = and_parts known linear two.0 in
    (record { known = three.0; linear = three.1; right = fits_any program may t two.1 }, one.1)

pub alternatives_fit : (program : Program) (names : Names) (position next : ℕ) (alternatives : Alternatives) → position < next → Low next names
    → IsTrue (fit_alternatives program any alternatives) → RowsFit program (position ∷ []) next (rows_of names position alternatives)
alternatives_fit program names position next term.NoAlternative l low h = tt
alternatives_fit program names position next (term.MoreAlternatives p t alternatives) l low h =
    let parts = alternative_fits program p t alternatives h in (
      record {
        many = refl;
        known = one_fits p parts.0.known;
        low = low_names_at next position p names l low;
        right = parts.0.right;
      },
      alternatives_fit program names position next alternatives l low parts.1,
    )
  where
    one_fits : (q : Pattern) → IsTrue (fits_pattern program q) → IsTrue (list_all (fits_pattern program) (q ∷ []))
    one_fits q h = by (fits_pattern program q) h
      where
        by : (b : Bool) → b ≡ true → (b && true) ≡ true
        by true e = refl
        by false e = e

pub record AlternativeAt (program : Program) (names : Names) (position n : ℕ) (alternatives : Alternatives) (i : ℕ) (row : Row) (twin : choose.Row) : Type 0 where
  pub p : Pattern
  pub t : Term
  pub there : alternative_at alternatives i ≡ Some (p, t)
  pub is : row ≡ record { patterns = p ∷ []; names = names_at position p ++ names; body = t }
  pub choice : twin.choice ≡ n + i
  pub linear : IsTrue (is_linear (variables_of p))

pub alternative_of : (program : Program) (names : Names) (position n : ℕ) (alternatives : Alternatives) (i : ℕ) (row : Row) (twin : choose.Row)
    → IsTrue (fit_alternatives program any alternatives) → slice_get (rows_of names position alternatives) i ≡ Some row
    → slice_get (rows_from n alternatives) i ≡ Some twin → AlternativeAt program names position n alternatives i row twin
alternative_of program names position n term.NoAlternative i row twin h e f = let no : ⊥ = cc in absurd no
alternative_of program names position n (term.MoreAlternatives p t alternatives) zero row twin h e f =
    let parts = alternative_fits program p t alternatives h in
    let whole = first_twin (record { patterns = p ∷ []; choice = n }) twin f in
    record {
      p = p;
      t = t;
      there = refl;
      is = cc;
      choice = ap (λ (c : choose.Row). c.choice) whole ∙ plus_zero;
      linear = parts.0.linear;
    }
  where
    first_twin : (a b : choose.Row) → Some a ≡ Some b → b ≡ a
    first_twin a b g = cc

    plus_zero : n ≡ n + 0
    plus_zero = omega arith
alternative_of program names position n (term.MoreAlternatives p t alternatives) (suc i) row twin h e f =
    let parts = alternative_fits program p t alternatives h in
    let rest = alternative_of program names position (n + 1) alternatives i row twin parts.1 e f in
    let number = rest.choice in
    record { p = rest.p; t = rest.t; there = rest.there; is = rest.is; choice = omega arith; linear = rest.linear }

-- the alternative that is found gives what the distinction gives
pub alternative_gives : (program : Program) (claims : List Claim) (names : Names) (position : ℕ) (alternatives : Alternatives) (E env : Environment)
    (a : Term) (v : Value) (mode : Mode) → IsTrue (fit_alternatives program any alternatives) → ((x : ℕ) → E x ≡ env (name_of names x))
    → Gives program claims E a (env position)
    → FoundAmong program claims env (env position ∷ []) v (rows_of names position alternatives) (rows_from 0 alternatives)
    → Gives program claims E (term.Case mode a alternatives) v
alternative_gives program claims names position alternatives E env a v mode fits same given found =
    let at = alternative_of program names position 0 alternatives found.place found.row found.twin fits found.there found.twin_there in
    let p = at.p in
    let w = env position in
    let row : Row = record { patterns = p ∷ []; names = names_at position p ++ names; body = at.t } in
    let suits : Suits program claims env (w ∷ []) v row = subst (λ (r : Row). Suits program claims env (w ∷ []) v r) at.is found.suits in
    let matches = shape_matched p w (shape_fits p w suits.shape.0) in
    let inside = bind_all E matches.0 in
    let binds : bound_in matches.0 ≡ variables_of p = matched_binds p w matches.0 matches.1 in
    let linear : IsTrue (is_linear (bound_in matches.0)) = ap is_linear binds ∙ at.linear in
    let fit = matched_fits inside p w matches.0 matches.1 (bound_agrees E matches.0 linear) in
    let number : found.twin.choice ≡ found.place = at.choice ∙ none_more found.place in
    gives.chosen E mode a at.t alternatives matches.0 w v given
    (record {
      choice = found.place;
      pattern = p;
      chooses = subst (λ (k : ℕ). Chooses program (rows_from 0 alternatives) (w ∷ []) k) number found.chosen;
      at = at.there;
      matches = matches.1;
    })
    (suits.gives inside (fits_meets (Some inside) p w fit, tt)
    (λ x h. alternative_names E env names position p matches.0 x same binds
    (known_at inside env position p w names x fit refl (holds_append x (inner p) [] h).0)))
  where
    none_more : (i : ℕ) → 0 + i ≡ i
    none_more i = omega arith

    alternative_names : (F more : Environment) (ns : Names) (place : ℕ) (p : Pattern) (b : Bindings) (x : ℕ) → ((y : ℕ) → F y ≡ more (name_of ns y))
        → bound_in b ≡ variables_of p → Known (bind_all F b) more (names_at place p ++ ns) ns x (variables_of p)
        → bind_all F b x ≡ more (name_of (names_at place p ++ ns) x)
    alternative_names F more ns place p b x equal binds (inl known) = known
    alternative_names F more ns place p b x equal binds (inr new) =
        others_stay F b x (ap (holds x) binds ∙ new.1) ∙ equal x ∙ ap more (sym new.0)

-- ---- looks at a position

module _ (program : Program) (k : ℕ) (row : Row) (rows : List Row) (twin : choose.Row) (twins : List choose.Row) (vs : List Value)
    (alike : Alike (row ∷ rows) (twin ∷ twins)) (leftmost_is : leftmost row.patterns ≡ Some k) where
  variables_are : (b : Bool) → list_any (λ other. not (demands k other)) (row ∷ rows) ≡ b → has_variable k (twin ∷ twins) ≡ b
  variables_are b e = variable_there k (row ∷ rows) (twin ∷ twins) alike ∙ e

  pub look_constructor_all : (c : ConId) (us : Values) → slice_get vs k ≡ Some (value.Constructed c us)
      → list_any (λ other. not (demands k other)) (row ∷ rows) ≡ false
      → look program (twin ∷ twins) vs ≡ specialized_look k (goes_too false (demands_constructor c)) (twin ∷ twins) (list_of us) vs
  look_constructor_all c us e f =
      looks_at program k row twin twins vs (value.Constructed c us) alike.0 leftmost_is e
      ∙ ap (λ (b : Bool). at_constructor program k c (choose.demand_at k twin) b (twin ∷ twins) (list_of us) vs) (variables_are false f)

  pub look_literal_all : (l : Lit) → slice_get vs k ≡ Some (value.Literal l) → list_any (λ other. not (demands k other)) (row ∷ rows) ≡ false
      → look program (twin ∷ twins) vs ≡ specialized_look k (goes_too false (demands_literal l)) (twin ∷ twins) [] vs
  look_literal_all l e f =
      looks_at program k row twin twins vs (value.Literal l) alike.0 leftmost_is e
      ∙ ap (λ (b : Bool). at_literal k l (choose.demand_at k twin) b (twin ∷ twins) vs) (variables_are false f)

  pub look_constructor_some : (c d : ConId) (us : Values) → slice_get vs k ≡ Some (value.Constructed c us)
      → list_any (λ other. not (demands k other)) (row ∷ rows) ≡ true → demand_at k row ≡ AConstructor d → same_type program c d ≡ true
      → look program (twin ∷ twins) vs ≡ specialized_look k (goes_too true (demands_constructor c)) (twin ∷ twins) (list_of us) vs
  look_constructor_some c d us e f g h =
      looks_at program k row twin twins vs (value.Constructed c us) alike.0 leftmost_is e
      ∙ ap₂ (λ (demand : Demand) (b : Bool). at_constructor program k c demand b (twin ∷ twins) (list_of us) vs)
      (same_demand k row twin alike.0 ∙ g) (variables_are true f)
      ∙ ap (λ (b : Bool). if b then specialized_look k (goes_too true (demands_constructor c)) (twin ∷ twins) (list_of us) vs else choose.Nowhere) h

  pub look_literal_same : (l : Lit) → slice_get vs k ≡ Some (value.Literal l) → list_any (λ other. not (demands k other)) (row ∷ rows) ≡ true
      → demand_at k row ≡ ALiteral l → look program (twin ∷ twins) vs ≡ specialized_look k (goes_too true (demands_literal l)) (twin ∷ twins) [] vs
  look_literal_same l e f g =
      looks_at program k row twin twins vs (value.Literal l) alike.0 leftmost_is e
      ∙ ap₂ (λ (demand : Demand) (b : Bool). at_literal k l demand b (twin ∷ twins) vs) (same_demand k row twin alike.0 ∙ g) (variables_are true f)
      ∙ ap (λ (b : Bool). if b then specialized_look k (goes_too true (demands_literal l)) (twin ∷ twins) [] vs
      else Again (filter (λ one. not_literal l (choose.demand_at k one)) (twin ∷ twins))) (literal_itself l)

  pub look_literal_other : (m l : Lit) → slice_get vs k ≡ Some (value.Literal m) → list_any (λ other. not (demands k other)) (row ∷ rows) ≡ true
      → demand_at k row ≡ ALiteral l → same_literal m l ≡ false
      → look program (twin ∷ twins) vs ≡ Again (filter (λ one. not_literal l (choose.demand_at k one)) (twin ∷ twins))
  look_literal_other m l e f g h =
      looks_at program k row twin twins vs (value.Literal m) alike.0 leftmost_is e
      ∙ ap₂ (λ (demand : Demand) (b : Bool). at_literal k m demand b (twin ∷ twins) vs) (same_demand k row twin alike.0 ∙ g) (variables_are true f)
      ∙ ap (λ (b : Bool). if b then specialized_look k (goes_too true (demands_literal m)) (twin ∷ twins) [] vs
      else Again (filter (λ one. not_literal l (choose.demand_at k one)) (twin ∷ twins))) h

  pub look_constructor_other : (c : ConId) (us : Values) (l : Lit) → slice_get vs k ≡ Some (value.Constructed c us)
      → list_any (λ other. not (demands k other)) (row ∷ rows) ≡ true → demand_at k row ≡ ALiteral l
      → look program (twin ∷ twins) vs ≡ Again (filter (λ one. not_literal l (choose.demand_at k one)) (twin ∷ twins))
  look_constructor_other c us l e f g =
      looks_at program k row twin twins vs (value.Constructed c us) alike.0 leftmost_is e
      ∙ ap₂ (λ (demand : Demand) (b : Bool). at_constructor program k c demand b (twin ∷ twins) (list_of us) vs)
      (same_demand k row twin alike.0 ∙ g) (variables_are true f)
