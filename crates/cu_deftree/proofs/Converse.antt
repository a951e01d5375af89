-- What a lowered term, tree or case distinction gives, the term, a rule or the alternative that is taken gives.
use Rattle.std.proofs.Common.{◌≡◌, ◌≢◌, ℕ, zero, suc, ◌+◌, ◌<◌, ◌≤◌, ◌⊎◌, inl, inr, Bool, true, false, not, ◌&&◌, ◌||◌, List, [], ◌∷◌, ◌++◌, if◌then◌else◌, filter, length, map, nat_eq, Option, None, Some, option_map, slice_get, IsTrue, refl, ap, ap₂, sym, ◌∙◌, subst, arith, eq-eqb, eqb-true, true≢false}
use Rattle.std.specs.List.{list_any}
use Rattle.std.proofs.lemmas.Bool.{and_from, and_parts, or_from}
use Rattle.std.proofs.lemmas.Option.{some_pair_parts}
use Rattle.cu_calculus.specs.declared.ConId.{ConId}
use Rattle.cu_calculus.specs.declared.FunId.{FunId}
use Rattle.cu_calculus.specs.declared.Head.TheVariants as head
use Rattle.cu_calculus.specs.declared.Lit.{Lit}
use Rattle.cu_calculus.specs.declared.Lit.TheVariants.{Char, Int}
use Rattle.cu_calculus.specs.declared.Mode.{Mode}
use Rattle.cu_calculus.specs.declared.builtin.Primitive.{Primitive}
use Rattle.cu_calculus.specs.declared.builtin.Primitive.TheVariants as prim
use Rattle.cu_calculus.specs.Below.{Below}
use Rattle.cu_calculus.specs.Builtin as builtin
use Rattle.cu_calculus.specs.Builtin.{Answers, on_literals, truth_of}
use Rattle.cu_calculus.specs.Choose as choose
use Rattle.cu_calculus.specs.Choose.{ALiteral, AConstructor, Again, Chooses, look, look_from, specialized_look, specialized_row, not_literal, rows_from, same_type, demands_nothing, Demand, alternative_at, arguments_of, demand_of, is_demanding, leftmost, spliced, demands_constructor, demands_literal}
use Rattle.cu_calculus.specs.Gives as gives
use Rattle.cu_calculus.specs.Gives.{AllGive, Applied, Claim, Gives}
use Rattle.cu_calculus.specs.Match.{Bindings, Environment, bind, bind_all, matched}
use Rattle.cu_calculus.specs.Program.{Function, Program, function_of}
use Rattle.cu_calculus.specs.Term as term
use Rattle.cu_calculus.specs.Term.{Alternatives, Pattern, Patterns, Term, Terms}
use Rattle.cu_calculus.specs.Valid.{all_variables, also, fit_alternatives, fit_terms, fits_pattern, fits_term, holds, is_linear}
use Rattle.cu_calculus.specs.Value as value
use Rattle.cu_calculus.specs.Value.{Value, Values, list_of}
use Rattle.cu_calculus.proofs.Answering.{literal_is}
use Rattle.cu_calculus.proofs.BelowLaws.{below_itself}
use Rattle.cu_calculus.proofs.Fitting.{any, fits_any, fits_bound}
use Rattle.cu_calculus.proofs.ValuesOf.{fits_part, fits_whole}
use Rattle.cu_deftree.specs.Lowering as lowering
use Rattle.cu_deftree.specs.Lowering.{AllLower, Branches, Cases, Distinguishes, IsOperation, Lowers, Tree, failure, goes_on, variables}
use Rattle.cu_deftree.specs.Rows.{Names, Row, constructor_arity, constructor_ids, constructors_at, rows_of, siblings, demand_at, demands, literals_at, name_of, numbers, specialize, specialized}
use Rattle.cu_deftree.proofs.Alternatives.{Alike, FoundAmong, Tested, a_constructor, a_literal, alike_filter, alike_specialized, alternative_gives, alternatives_alike, alternatives_fit, found_again, goes_same, goes_too, kept_at, look_constructor_all, look_constructor_other, look_constructor_some, look_literal_all, look_literal_other, look_literal_same, map_at, passes_at, same_type_swaps, test_shown, tests_agree}
use Rattle.cu_deftree.proofs.Meets.{AllFit, AllMeet, Meets, all_matched_binds, all_matched_fits, bound_agrees, bound_in, built_fits, literal_fits, literal_binds, others_stay}
use Rattle.cu_deftree.proofs.Opening.{AllLow, At, Low, SameBelow, at_place, at_put, at_same, inner, inner_all, low_cons, low_more, low_put, put, spliced_put}
use Rattle.cu_deftree.proofs.Shows as shows
use Rattle.cu_deftree.proofs.Shows.{AllShow, Shows}
use Rattle.cu_deftree.proofs.Suits.{Opens, RowFits, RowsFit, Suits, built_count, demand_is, filter_fits, kept, opened, opens_any, opens_built, opens_literal, passed, pattern_fits, row_fits, specialize_fits, specialized_is, suits_closed, there_too}

-- ---- the built-in operation that has no value

none_of_literals : (program : Program) (ls : List Lit) (v : Value) → on_literals program prim.Failed ls ≡ Some v → ⊥
none_of_literals program [] v e = cc
none_of_literals program (Int m ∷ []) v e = cc
none_of_literals program (Char c ∷ []) v e = cc
none_of_literals program (Int m ∷ Int n ∷ []) v e = cc
none_of_literals program (Int m ∷ Char d ∷ []) v e = cc
none_of_literals program (Char c ∷ Int n ∷ []) v e = cc
none_of_literals program (Char c ∷ Char d ∷ []) v e = cc
none_of_literals program (Int m ∷ Int n ∷ l ∷ ls) v e = cc
none_of_literals program (Int m ∷ Char d ∷ l ∷ ls) v e = cc
none_of_literals program (Char c ∷ Int n ∷ l ∷ ls) v e = cc
none_of_literals program (Char c ∷ Char d ∷ l ∷ ls) v e = cc

no_answer : (program : Program) (operation : Primitive) (us : Values) (v : Value) → Answers program operation us v → operation ≡ prim.Failed → ⊥
no_answer program _ _ v (builtin.of_literals operation ls us _ e f) same =
    none_of_literals program ls v (ap (λ (o : Primitive). on_literals program o ls) (sym same) ∙ f)
no_answer program _ _ v (builtin.equal a b _ answer c e) same = cc
no_answer program _ _ v (builtin.unified a b _ alike total e) same = cc
no_answer program _ _ v (builtin.conjoined a b _ p q e) same = cc

one_function : (f g : Function) (found : Option Function) → found ≡ Some f → found ≡ Some g → f ≡ g
one_function f g found e h = cc

pub never_applied : (program : Program) (claims : List Claim) (f : FunId) (us : Values) (v : Value) → IsOperation program prim.Failed f
    → Applied program claims (head.Fun f) us v → ⊥
never_applied program claims _ us v is (gives.by_rule f function rules k rule bindings _ _ e b r m p) =
    let same = ap (λ (x : Function). x.body) (one_function function is.function (function_of program f) e is.is_there) in
    let body = is.is_built_in in
    cc
never_applied program claims _ us v is (gives.builtin f function operation _ _ e b answers) =
    let same = ap (λ (x : Function). x.body) (one_function function is.function (function_of program f) e is.is_there) in
    let body = is.is_built_in in
    let operations : operation ≡ prim.Failed = cc in
    no_answer program operation us v answers operations

-- ---- new variables

pub high_not_held : (x next n : ℕ) → x < next → holds x (numbers next n) ≡ false
high_not_held x next zero l = refl
high_not_held x next (suc n) l = or_from (nat_eq x next) (holds x (numbers (suc next) n)) (differs (nat_eq x next) refl) (high_not_held x (suc next) n (omega arith))
  where
    differs : (b : Bool) → nat_eq x next ≡ b → b ≡ false
    differs true e = let same = eqb-true x next e in absurd (omega arith)
    differs false e = refl

pub negated : (b : Bool) → b ≡ false → not b ≡ true
negated true e = let no : ⊥ = cc in absurd no
negated false e = refl

pub numbers_linear : (next n : ℕ) → is_linear (numbers next n) ≡ true
numbers_linear next zero = refl
numbers_linear next (suc n) =
    and_from (not (holds next (numbers (suc next) n))) (is_linear (numbers (suc next) n))
    (negated (holds next (numbers (suc next) n)) (high_not_held next (suc next) n (omega arith))) (numbers_linear (suc next) n)

pub numbers_low : (next more n : ℕ) → next + n ≤ more → AllLow more (numbers next n)
numbers_low next more zero l = tt
numbers_low next more (suc n) l = (omega arith, numbers_low (suc next) more n (omega arith))

pub numbers_count : (next n : ℕ) → length (numbers next n) ≡ n
numbers_count next zero = refl
numbers_count next (suc n) = ap suc (numbers_count (suc next) n)

pub variables_are : (xs : List ℕ) → all_variables (variables xs) ≡ xs
variables_are [] = refl
variables_are (x ∷ xs) = ap (λ ys. x ∷ ys) (variables_are xs)

pub variables_at : (env : Environment) (xs : List ℕ) (us : Values) → AllFit (Some env) (variables xs) us → At env xs (list_of us)
variables_at env [] us h = subst (λ (x : Values). At env [] (list_of x)) (sym h) tt
variables_at env (x ∷ xs) us h =
    subst (λ (y : Values). At env (x ∷ xs) (list_of y)) (sym h.2) (h.3, variables_at env xs h.1 h.4)

at_count : (env : Environment) (xs : List ℕ) (vs : List Value) → At env xs vs → length xs ≡ length vs
at_count env [] [] h = refl
at_count env [] (v ∷ vs) h = absurd h
at_count env (x ∷ xs) [] h = absurd h
at_count env (x ∷ xs) (v ∷ vs) h = ap suc (at_count env xs vs h.1)

-- what a branch for a constructor binds
pub record AfterMatch (env : Environment) (next n : ℕ) (xs : List ℕ) (c : ConId) (w : Value) (bindings : Bindings) : Type 0 where
  pub us : Values
  pub is : w ≡ value.Constructed c us
  pub at : At (bind_all env bindings) xs (list_of us)
  pub same : SameBelow next env (bind_all env bindings)
  pub many : length (list_of us) ≡ n

pub after_match : (env : Environment) (next n : ℕ) (xs : List ℕ) (c : ConId) (w : Value) (bindings : Bindings) → xs ≡ numbers next n
    → matched (term.Built c (variables xs)) w ≡ Some bindings → AfterMatch env next n xs c w bindings
after_match env next n xs c w bindings e m =
    let found = built_fits c (variables xs) w bindings m in
    let us = found.0 in
    let bound : bound_in bindings ≡ numbers next n = all_matched_binds (variables xs) us bindings found.2 ∙ variables_are xs ∙ e in
    let linear : IsTrue (is_linear (bound_in bindings)) = ap is_linear bound ∙ numbers_linear next n in
    let fit = all_matched_fits (bind_all env bindings) (variables xs) us bindings found.2 (bound_agrees env bindings linear) in
    let at = variables_at (bind_all env bindings) xs us fit in
    record {
      us = us;
      is = found.1;
      at = at;
      same = λ x l. sym (others_stay env bindings x (ap (holds x) bound ∙ high_not_held x next n l));
      many = sym (at_count (bind_all env bindings) xs (list_of us) at) ∙ ap length e ∙ numbers_count next n;
    }

-- ---- rows over values

pub record Ready (program : Program) (positions : List ℕ) (next : ℕ) (rows : List Row) (env : Environment) (vs : List Value) : Type 0 where
  pub at : At env positions vs
  pub low : AllLow next positions
  pub fit : RowsFit program positions next rows

pub ready_opened : (program : Program) (positions : List ℕ) (next more k position : ℕ) (new : List ℕ) (test : Demand → Bool) (rows : List Row)
    (env inside : Environment) (vs args : List Value) → next ≤ more → AllLow more new → slice_get positions k ≡ Some position
    → ((p : Pattern) → test (demand_of p) ≡ true → IsTrue (fits_pattern program p) → length (arguments_of (length new) p) ≡ length new)
    → At inside new args → SameBelow next env inside → Ready program positions next rows env vs
    → Ready program (spliced k new positions) more (specialize k new test rows) inside (put k args vs)
ready_opened program positions next more k position new test rows env inside vs args l low e many at same ready =
    let is = spliced_put k new positions position e in
    record {
      at = subst (λ (xs : List ℕ). At inside xs (put k args vs)) (sym is)
          (at_put inside k new positions args vs at (at_same next env inside positions vs same ready.low ready.at));
      low = subst (λ (xs : List ℕ). AllLow more xs) (sym is) (low_put more k new positions low (low_more next more positions l ready.low));
      fit = subst (λ (xs : List ℕ). RowsFit program xs more (specialize k new test rows)) (sym is)
          (specialize_fits program positions next more k position new test rows l low e many ready.fit);
    }

-- a row that suits values
pub record FoundIn (program : Program) (claims : List Claim) (env : Environment) (vs : List Value) (v : Value) (rows : List Row) : Type 0 where
  pub place : ℕ
  pub row : Row
  pub there : slice_get rows place ≡ Some row
  pub suits : Suits program claims env vs v row

found_kept : (program : Program) (claims : List Claim) (env : Environment) (vs : List Value) (v : Value) (test : Row → Bool) (rows : List Row)
    → FoundIn program claims env vs v (filter test rows) → FoundIn program claims env vs v rows
found_kept program claims env vs v test rows found =
    let before = kept rows test found.place found.row found.there in
    record { place = before.0; row = found.row; there = before.1; suits = found.suits }

found_opened : (program : Program) (claims : List Claim) (positions : List ℕ) (next k position : ℕ) (new : List ℕ) (test : Demand → Bool)
    (rows : List Row) (env inside : Environment) (vs : List Value) (args : List Value) (v : Value) → slice_get positions k ≡ Some position
    → ((p : Pattern) → test (demand_of p) ≡ true → IsTrue (fits_pattern program p) → Opens (length new) p (env position) args)
    → At inside new args → SameBelow next env inside → Ready program positions next rows env vs
    → FoundIn program claims inside (put k args vs) v (specialize k new test rows) → FoundIn program claims env vs v rows
found_opened program claims positions next k position new test rows env inside vs args v e opens at same ready found =
    let before = passed rows (λ (r : Row). test (demand_at k r)) (specialized k new) found.place found.row found.there in
    let row = before.row in
    let fits = row_fits program positions next rows before.place row ready.fit before.there in
    let there = there_too row.patterns positions k position fits.many e in
    let p = there.0 in
    let wanted : test (demand_of p) ≡ true = ap test (sym (demand_is k row p there.1)) ∙ before.passes in
    let whole : found.row ≡ opened k new p row = before.is ∙ specialized_is k new p row there.1 in
    record {
      place = before.place;
      row = row;
      there = before.there;
      suits = suits_closed program claims next k new p row env inside vs (env position) args v there.1
          (at_place env k positions vs position e ready.at) (opens p wanted (pattern_fits program row.patterns k p fits.known there.1)) at same fits.low
          (subst (λ (r : Row). Suits program claims inside (put k args vs) v r) whole found.suits);
    }

-- ---- leaves

if_none : (b : Bool) (rest : Option ℕ) → (if b then Some 0 else option_map (λ k. k + 1) rest) ≡ None → (b ≡ false) × (rest ≡ None)
if_none true rest e = let no : ⊥ = cc in absurd no
if_none false None e = (refl, refl)
if_none false (Some k) e = let no : ⊥ = cc in absurd no

nothing_inside : (p : Pattern) → is_demanding (demand_of p) ≡ false → inner p ≡ []
nothing_inside (term.Any x) e = refl
nothing_inside (term.Named x p) e = nothing_inside p e
nothing_inside (term.Exactly l) e = refl
nothing_inside (term.Built c ps) e = let no : ⊥ = cc in absurd no

any_meets : (p : Pattern) (v : Value) → is_demanding (demand_of p) ≡ false → Meets None p v
any_meets (term.Any x) v e = tt
any_meets (term.Named x p) v e = any_meets p v e
any_meets (term.Exactly l) v e = let no : ⊥ = cc in absurd no
any_meets (term.Built c ps) v e = let no : ⊥ = cc in absurd no

pub none_inside : (ps : List Pattern) → leftmost ps ≡ None → inner_all ps ≡ []
none_inside [] e = refl
none_inside (p ∷ ps) e =
    let parts = if_none (is_demanding (demand_of p)) (leftmost ps) e in
    ap₂ (λ (xs ys : List ℕ). xs ++ ys) (nothing_inside p parts.0) (none_inside ps parts.1)

all_meet_any : (ps : List Pattern) (vs : List Value) → leftmost ps ≡ None → length ps ≡ length vs → AllMeet None ps vs
all_meet_any [] [] e l = tt
all_meet_any [] (v ∷ vs) e l = absurd (omega arith)
all_meet_any (p ∷ ps) [] e l = absurd (omega arith)
all_meet_any (p ∷ ps) (v ∷ vs) e l =
    let parts = if_none (is_demanding (demand_of p)) (leftmost ps) e in
    (any_meets p v parts.0, all_meet_any ps vs parts.1 (omega arith))

leaf_suits : (program : Program) (claims : List Claim) (positions : List ℕ) (next : ℕ) (env : Environment) (vs : List Value) (v : Value) (row : Row)
    → leftmost row.patterns ≡ None → At env positions vs → RowFits program positions next row
    → ((E : Environment) → ((x : ℕ) → E x ≡ env (name_of row.names x)) → Gives program claims E row.body v)
    → Suits program claims env vs v row
leaf_suits program claims positions next env vs v row e at fits given = record {
  shape = all_meet_any row.patterns vs e (fits.many ∙ at_count env positions vs at);
  gives = λ E meets named. given E (λ x. named x (ap (holds x) (none_inside row.patterns e)));
}

-- ---- binders

pub named_bind : (E env : Environment) (names : Names) (next x : ℕ) (w : Value) → ((y : ℕ) → E y ≡ env (name_of names y)) → Low next names
    → (y : ℕ) → bind E x w y ≡ bind env next w (name_of ((x, next) ∷ names) y)
named_bind E env names next x w same low y = by (nat_eq x y) refl
  where
    here : (b : Bool) (u : Value) → b ≡ true → (if b then w else u) ≡ w
    here true u e = refl
    here false u e = let no : ⊥ = cc in absurd no

    other : (b : Bool) (z : ℕ) (u : Value) → nat_eq next z ≡ b → z < next → (if b then w else u) ≡ u
    other true z u e l = let equal = eqb-true next z e in absurd (omega arith)
    other false z u e l = refl

    by : (b : Bool) → nat_eq x y ≡ b → (if b then w else E y) ≡ bind env next w (if b then next else name_of names y)
    by true e = sym (here (nat_eq next next) (env next) (eq-eqb next next refl))
    by false e = same y ∙ sym (other (nat_eq next (name_of names y)) (name_of names y) (env (name_of names y)) refl (low y))

pub bound_here : (env : Environment) (x : ℕ) (w : Value) → bind env x w x ≡ w
bound_here env x w = by (nat_eq x x) (eq-eqb x x refl)
  where
    by : (b : Bool) → b ≡ true → (if b then w else env x) ≡ w
    by true e = refl
    by false e = let no : ⊥ = cc in absurd no

-- the names of variables below a new one stay
pub still_named : (E env : Environment) (names : Names) (next : ℕ) (w : Value) → ((y : ℕ) → E y ≡ env (name_of names y)) → Low next names
    → (y : ℕ) → E y ≡ bind env next w (name_of names y)
still_named E env names next w same low y = same y ∙ sym (other (nat_eq next (name_of names y)) (name_of names y) (env (name_of names y)) refl (low y))
  where
    other : (b : Bool) (z : ℕ) (u : Value) → nat_eq next z ≡ b → z < next → (if b then w else u) ≡ u
    other true z u e l = let equal = eqb-true next z e in absurd (omega arith)
    other false z u e l = refl

pub next_low : (next : ℕ) → next < suc next
next_low next = omega arith

pub low_on : (next : ℕ) (names : Names) → Low next names → Low (suc next) names
low_on next names low y = let l = low y in omega arith

pub low_bound : (next x : ℕ) (names : Names) → Low next names → Low (suc next) ((x, next) ∷ names)
low_bound next x names low = low_cons (suc next) x next names (omega arith) (λ y. let l = low y in omega arith)

-- a value is Bottom or not
pub bottom_or : (v : Value) → (v ≡ value.Bottom) ⊎ (v ≢ value.Bottom)
bottom_or value.Bottom = inl refl
bottom_or (value.Variable x) = inr (λ e. let no : ⊥ = cc in no)
bottom_or (value.Literal l) = inr (λ e. let no : ⊥ = cc in no)
bottom_or (value.Constructed c vs) = inr (λ e. let no : ⊥ = cc in no)
bottom_or (value.Partial h vs) = inr (λ e. let no : ⊥ = cc in no)

-- what is to be given matters only where it isn't Bottom
unless_bottom : (program : Program) (claims : List Claim) (E : Environment) (t : Term) (v : Value)
    → (v ≢ value.Bottom → Gives program claims E t v) → Gives program claims E t v
unless_bottom program claims E t v given = by (bottom_or v)
  where
    by : (v ≡ value.Bottom) ⊎ (v ≢ value.Bottom) → Gives program claims E t v
    by (inl e) = subst (λ (x : Value). Gives program claims E t x) (sym e) (gives.bottom E t)
    by (inr some) = given some

-- ---- alternatives

found_specialized : (program : Program) (claims : List Claim) (positions : List ℕ) (next k position : ℕ) (new : List ℕ) (test other : Demand → Bool)
    (rows : List Row) (twins : List choose.Row) (env inside : Environment) (vs : List Value) (args : List Value) (v : Value)
    → slice_get positions k ≡ Some position
    → ((p : Pattern) → test (demand_of p) ≡ true → IsTrue (fits_pattern program p) → Opens (length new) p (env position) args)
    → At inside new args → SameBelow next env inside → Ready program positions next rows env vs → Alike rows twins
    → ((d : Demand) → other d ≡ test d) → look program twins vs ≡ specialized_look k other twins args vs
    → FoundAmong program claims inside (put k args vs) v (specialize k new test rows)
    (map (specialized_row k (length args)) (filter (λ one. other (choose.demand_at k one)) twins))
    → FoundAmong program claims env vs v rows twins
found_specialized program claims positions next k position new test other rows twins env inside vs args v e opens at same ready alike agree looked found =
    let passes = λ (r : Row). test (demand_at k r) in
    let passes_too = λ (one : choose.Row). other (choose.demand_at k one) in
    let one = map_at (specialized k new) (filter passes rows) found.place found.row found.there in
    let two = map_at (specialized_row k (length args)) (filter passes_too twins) found.place found.twin found.twin_there in
    let before = kept_at rows twins passes passes_too found.place one.0 two.0 (tests_agree k test other agree) alike one.1 two.1 in
    let row = one.0 in
    let fits = row_fits program positions next rows before.place row ready.fit before.there in
    let there = there_too row.patterns positions k position fits.many e in
    let p = there.0 in
    let wanted : test (demand_of p) ≡ true = ap test (sym (demand_is k row p there.1)) ∙ before.passes in
    let whole : found.row ≡ opened k new p row = one.2 ∙ specialized_is k new p row there.1 in
    let value_there = at_place env k positions vs position e ready.at in
    let fewer = map (specialized_row k (length args)) (filter passes_too twins) in
    let chosen : Chooses program fewer (spliced k args vs) found.twin.choice =
    subst (λ (ws : List Value). Chooses program fewer ws found.twin.choice) (sym (spliced_put k args vs (env position) value_there)) found.chosen in
    let choice : found.twin.choice ≡ two.0.choice = ap (λ (one : choose.Row). one.choice) two.2 in
    record {
      place = before.place;
      row = row;
      twin = two.0;
      there = before.there;
      twin_there = before.twin_there;
      suits = suits_closed program claims next k new p row env inside vs (env position) args v there.1 value_there
          (opens p wanted (pattern_fits program row.patterns k p fits.known there.1)) at same fits.low
          (subst (λ (r : Row). Suits program claims inside (put k args vs) v r) whole found.suits);
      chosen = choose.specialized_rows twins fewer vs (spliced k args vs) two.0.choice looked
          (subst (λ (n : ℕ). Chooses program fewer (spliced k args vs) n) choice chosen);
    }

-- what is left by a look at what stands at a position, in a branch for each constructor and literal
pub record Looks (program : Program) (b : Bool) (k : ℕ) (twins : List choose.Row) (vs : List Value) (w : Value) (cs : List ConId) (ls : List Lit) : Type 0 where
  pub con : (i : ℕ) (c : ConId) (us : Values) → slice_get cs i ≡ Some c → w ≡ value.Constructed c us
      → look program twins vs ≡ specialized_look k (goes_too b (demands_constructor c)) twins (list_of us) vs
  pub lit : (i : ℕ) (l : Lit) → slice_get ls i ≡ Some l → w ≡ value.Literal l
      → look program twins vs ≡ specialized_look k (goes_too b (demands_literal l)) twins [] vs

goes_by : (b : Bool) (test : Demand → Bool) (d : Demand) → goes_on b test d ≡ true → (test d ≡ true) ⊎ (demands_nothing d ≡ true)
goes_by b test d e = by (test d) b refl e
  where
    by : (c a : Bool) → test d ≡ c → (c || (a && demands_nothing d)) ≡ true → (test d ≡ true) ⊎ (demands_nothing d ≡ true)
    by true a f g = inl f
    by false true f g = inr g
    by false false f g = let no : ⊥ = cc in absurd no

module _ (program : Program) (claims : List Claim) (ordered : program.special.falsity.0 < program.special.truth.0) where
  no_bindings : (b : Bindings) → bound_in b ≡ [] → b ≡ []
  no_bindings [] e = refl
  no_bindings (x ∷ b) e = let no : ⊥ = cc in absurd no

  pub count_at : (c : ConId) (xs : List ℕ) (p : Pattern) (n : ℕ) → length xs ≡ n → n ≡ constructor_arity program c
      → demands_constructor c (demand_of p) ≡ true → IsTrue (fits_pattern program p) → length (arguments_of (length xs) p) ≡ length xs
  count_at c xs p n many count w f = built_count program c p (length xs) w f (many ∙ count)

  pub opens_at : (c : ConId) (xs : List ℕ) (u : Value) (us : Values) (p : Pattern) (n : ℕ) → length xs ≡ n → n ≡ constructor_arity program c
      → u ≡ value.Constructed c us → length (list_of us) ≡ n → demands_constructor c (demand_of p) ≡ true → IsTrue (fits_pattern program p)
      → Opens (length xs) p u (list_of us)
  opens_at c xs u us p n many count is as_many w f =
      subst (λ (x : Value). Opens (length xs) p x (list_of us)) (sym is)
      (opens_built program c p us (length xs) w f (many ∙ count) (as_many ∙ sym many))

  pub goes_at : (b : Bool) (c : ConId) (xs : List ℕ) (u : Value) (us : Values) (p : Pattern) (n : ℕ) → length xs ≡ n → n ≡ constructor_arity program c
      → u ≡ value.Constructed c us → length (list_of us) ≡ n → goes_on b (demands_constructor c) (demand_of p) ≡ true → IsTrue (fits_pattern program p)
      → Opens (length xs) p u (list_of us)
  goes_at b c xs u us p n many count is as_many w f = by (goes_by b (demands_constructor c) (demand_of p) w)
    where
      by : (demands_constructor c (demand_of p) ≡ true) ⊎ (demands_nothing (demand_of p) ≡ true) → Opens (length xs) p u (list_of us)
      by (inl wanted) = opens_at c xs u us p n many count is as_many wanted f
      by (inr none) = opens_any p u (length xs) (list_of us) none (as_many ∙ sym many)

  pub goes_literal : (b : Bool) (l : Lit) (u : Value) (p : Pattern) → u ≡ value.Literal l → goes_on b (demands_literal l) (demand_of p) ≡ true → Opens 0 p u []
  goes_literal b l u p is w = by (goes_by b (demands_literal l) (demand_of p) w)
    where
      by : (demands_literal l (demand_of p) ≡ true) ⊎ (demands_nothing (demand_of p) ≡ true) → Opens 0 p u []
      by (inl wanted) = subst (λ (x : Value). Opens 0 p x []) (sym is) (opens_literal p l wanted)
      by (inr none) = opens_any p u 0 [] none refl

  never_both : program.special.truth ≡ program.special.falsity → ⊥
  never_both e = let same = ap (λ (c : ConId). c.0) e in omega arith

  -- which alternative of the test by `==` is taken
  truth_taken : (answer : Bool) (u : Value) (bindings : Bindings) → u ≡ truth_of program answer
      → matched (term.Built program.special.truth term.NoPattern) u ≡ Some bindings → (answer ≡ true) × (bindings ≡ [])
  truth_taken true u bindings e m =
      let found = built_fits program.special.truth term.NoPattern u bindings m in
      (refl, no_bindings bindings (all_matched_binds term.NoPattern found.0 bindings found.2))
  truth_taken false u bindings e m =
      let found = built_fits program.special.truth term.NoPattern u bindings m in
      let is = found.1 in
      let same : program.special.truth ≡ program.special.falsity = cc in
      absurd (never_both same)

  falsity_taken : (answer : Bool) (u : Value) (bindings : Bindings) → u ≡ truth_of program answer
      → matched (term.Built program.special.falsity term.NoPattern) u ≡ Some bindings → (answer ≡ false) × (bindings ≡ [])
  falsity_taken false u bindings e m =
      let found = built_fits program.special.falsity term.NoPattern u bindings m in
      (refl, no_bindings bindings (all_matched_binds term.NoPattern found.0 bindings found.2))
  falsity_taken true u bindings e m =
      let found = built_fits program.special.falsity term.NoPattern u bindings m in
      let is = found.1 in
      let same : program.special.truth ≡ program.special.falsity = cc in
      absurd (never_both same)

  not_bottom : (answer : Bool) (u : Value) → u ≡ truth_of program answer → u ≢ value.Bottom
  not_bottom true u e f = let no : ⊥ = cc in no
  not_bottom false u e f = let no : ⊥ = cc in no

  built_not_bottom : (c : ConId) (u : Value) (bindings : Bindings) → matched (term.Built c term.NoPattern) u ≡ Some bindings → u ≢ value.Bottom
  built_not_bottom c u bindings m e =
      let found = built_fits c term.NoPattern u bindings m in
      let is = found.1 in
      let no : ⊥ = cc in no

  is_the_literal : (w : Value) (l : Lit) (answer : Bool) → Tested w l answer → answer ≡ true → w ≡ value.Literal l
  is_the_literal w l _ (a_literal m answer e f) t = e ∙ ap value.Literal (literal_is m l (sym f ∙ t))
  is_the_literal w l _ (a_constructor c us answer e f) t = absurd (true≢false (sym t ∙ f))

  pub look_other : (k x : ℕ) (l : Lit) (row : Row) (rows : List Row) (twin : choose.Row) (twins : List choose.Row) (env : Environment) (vs : List Value)
      → Alike (row ∷ rows) (twin ∷ twins) → leftmost row.patterns ≡ Some k → slice_get vs k ≡ Some (env x)
      → list_any (λ other. not (demands k other)) (row ∷ rows) ≡ true → demand_at k row ≡ ALiteral l → (answer : Bool)
      → Tested (env x) l answer → answer ≡ false
      → look program (twin ∷ twins) vs ≡ Again (filter (λ one. not_literal l (choose.demand_at k one)) (twin ∷ twins))
  look_other k x l row rows twin twins env vs alike e place g h _ (a_literal m answer is f) no_answer =
      look_literal_other program k row rows twin twins vs alike e m l (place ∙ ap Some is) g h (sym f ∙ no_answer)
  look_other k x l row rows twin twins env vs alike e place g h _ (a_constructor c us answer is f) no_answer =
      look_constructor_other program k row rows twin twins vs alike e c us l (place ∙ ap Some is) g h

  shown_inside : (env : Environment) (bindings : Bindings) (s t : Term) (v : Value) → bindings ≡ [] → s ≡ t
      → Shows program claims (bind_all env bindings) t v → Shows program claims env s v
  shown_inside env bindings s t v e f shown =
      subst (λ (b : Bindings). Shows program claims (bind_all env b) s v) e (subst (λ (r : Term). Shows program claims (bind_all env bindings) r v) (sym f) shown)

  mutual
    pub lowers_converse : (names : Names) (next : ℕ) (t u : Term) → Lowers program names next t u → (E env : Environment) (v : Value)
        → ((x : ℕ) → E x ≡ env (name_of names x)) → Low next names → IsTrue (fits_term program any t) → Shows program claims env u v
        → Gives program claims E t v
    lowers_converse _ _ _ _ (lowering.variable names next x) E env v same low fits (shows.bottom _ _) = gives.bottom E (term.Variable x)
    lowers_converse _ _ _ _ (lowering.variable names next x) E env v same low fits (shows.variable _ _ _ p) =
        gives.variable E x v (subst (λ (w : Value). Below v w) (sym (same x)) p)
    lowers_converse _ _ _ _ (lowering.literal names next l) E env v same low fits (shows.bottom _ _) = gives.bottom E (term.Literal l)
    lowers_converse _ _ _ _ (lowering.literal names next l) E env v same low fits (shows.literal _ _) = gives.literal E l
    lowers_converse _ _ _ _ (lowering.whole names next h ts us p) E env v same low fits (shows.bottom _ _) = gives.bottom E (term.Whole h ts)
    lowers_converse _ _ _ _ (lowering.whole names next h ts us p) E env v same low fits (shows.whole _ _ _ ws _ q called) =
        gives.whole E h ts ws v (all_lower_converse names next ts us p E env ws same low (fits_whole program h ts fits).1 q) called
    lowers_converse _ _ _ _ (lowering.part names next h ts us p) E env v same low fits (shows.bottom _ _) = gives.bottom E (term.Part h ts)
    lowers_converse _ _ _ _ (lowering.part names next h ts us p) E env v same low fits (shows.part _ _ _ ws q) =
        gives.part E h ts ws (all_lower_converse names next ts us p E env ws same low (fits_part program h ts fits).1 q)
    lowers_converse _ _ _ _ (lowering.applied names next f a g b p q) E env v same low fits (shows.bottom _ _) = gives.bottom E (term.Apply f a)
    lowers_converse _ _ _ _ (lowering.applied names next f a g b p q) E env v same low fits (shows.applied _ _ _ w u _ r s called) =
        let parts = and_parts (fits_term program any f) (fits_term program any a) fits in
        gives.applied E f a w u v (lowers_converse names next f g p E env w same low parts.0 r) (lowers_converse names next a b q E env u same low parts.1 s)
        called
    lowers_converse _ _ _ _ (lowering.bound names next x a b c d p q) E env v same low fits (shows.bottom _ _) = gives.bottom E (term.Let x a b)
    lowers_converse _ _ _ _ (lowering.bound names next x a b c d p q) E env v same low fits (shows.bound _ _ _ _ w _ r s) =
        let parts = fits_bound program x a b fits in
        gives.bound E x a b w v (lowers_converse names next a c p E env w same low parts.0 r)
        (lowers_converse ((x, next) ∷ names) (suc next) b d q (bind E x w) (bind env next w) v (named_bind E env names next x w same low)
        (low_bound next x names low) parts.1 s)
    lowers_converse _ _ _ _ (lowering.free names next x a b p) E env v same low fits (shows.bottom _ _) = gives.bottom E (term.Free x a)
    lowers_converse _ _ _ _ (lowering.free names next x a b p) E env v same low fits (shows.free _ _ _ w _ total known r) =
        gives.free E x a w v total known
        (lowers_converse ((x, next) ∷ names) (suc next) a b p (bind E x w) (bind env next w) v (named_bind E env names next x w same low)
        (low_bound next x names low) (fits_any program (also x any) a fits) r)
    lowers_converse _ _ _ _ (lowering.either names next a b c d p q) E env v same low fits (shows.bottom _ _) = gives.bottom E (term.Or a b)
    lowers_converse _ _ _ _ (lowering.either names next a b c d p q) E env v same low fits (shows.left _ _ _ _ r) =
        gives.left E a b v
        (lowers_converse names next a c p E env v same low (and_parts (fits_term program any a) (fits_term program any b) fits).0 r)
    lowers_converse _ _ _ _ (lowering.either names next a b c d p q) E env v same low fits (shows.right _ _ _ _ r) =
        gives.right E a b v
        (lowers_converse names next b d q E env v same low (and_parts (fits_term program any a) (fits_term program any b) fits).1 r)
    lowers_converse _ _ _ u (lowering.on_variable names next x mode alternatives _ p) E env v same low fits shown =
        unless_bottom program claims E (term.Case mode (term.Variable x) alternatives) v (λ some.
        let position = name_of names x in
        alternative_gives program claims names position alternatives E env (term.Variable x) v mode fits same
        (gives.variable E x (env position) (subst (λ (w : Value). Below (env position) w) (sym (same x)) (below_itself (env position))))
        (distinguishes_converse mode (position ∷ []) next (rows_of names position alternatives) u p env (env position ∷ []) v some
        (record { at = (refl, tt); low = (low x, tt); fit = alternatives_fit program names position next alternatives (low x) low fits }) shown
        (rows_from 0 alternatives) (alternatives_alike names position 0 alternatives)))
    lowers_converse _ _ _ _ (lowering.on_term names next mode a b alternatives t is p q) E env v same low fits (shows.bottom _ _) =
        gives.bottom E (term.Case mode a alternatives)
    lowers_converse _ _ _ _ (lowering.on_term names next mode a b alternatives t is p q) E env v same low fits (shows.bound _ _ _ _ w _ r s) =
        unless_bottom program claims E (term.Case mode a alternatives) v (λ some.
        let parts = and_parts (fits_term program any a) (fit_alternatives program any alternatives) fits in
        let inside = bind env next w in
        alternative_gives program claims names next alternatives E inside a v mode parts.1 (still_named E env names next w same low)
        (subst (λ (u : Value). Gives program claims E a u) (sym (bound_here env next w)) (lowers_converse names next a b p E env w same low parts.0 r))
        (distinguishes_converse mode (next ∷ []) (suc next) (rows_of names next alternatives) t q inside (inside next ∷ []) v some
        (record {
          at = (refl, tt);
          low = (next_low next, tt);
          fit = alternatives_fit program names next (suc next) alternatives (next_low next) (low_on next names low) parts.1;
        }) s
        (rows_from 0 alternatives) (alternatives_alike names next 0 alternatives)))

    pub all_lower_converse : (names : Names) (next : ℕ) (ts us : Terms) → AllLower program names next ts us → (E env : Environment) (vs : Values)
        → ((x : ℕ) → E x ≡ env (name_of names x)) → Low next names → IsTrue (fit_terms program any ts) → AllShow program claims env us vs
        → AllGive program claims E ts vs
    all_lower_converse _ _ _ _ (lowering.no_term names next) E env _ same low fits (shows.none _) = gives.none E
    all_lower_converse _ _ _ _ (lowering.more_terms names next t u ts us p ps) E env _ same low fits (shows.more _ _ _ v vs q qs) =
        let parts = and_parts (fits_term program any t) (fit_terms program any ts) fits in
        gives.more E t ts v vs (lowers_converse names next t u p E env v same low parts.0 q)
        (all_lower_converse names next ts us ps E env vs same low parts.1 qs)

    pub tree_converse : (positions : List ℕ) (next : ℕ) (rows : List Row) (t : Term) → Tree program positions next rows t → (env : Environment)
        (vs : List Value) (v : Value) → v ≢ value.Bottom → Ready program positions next rows env vs → Shows program claims env t v
        → FoundIn program claims env vs v rows
    tree_converse _ _ _ _ (lowering.no_rules positions next f is) env vs v some ready (shows.bottom _ _) = absurd (some refl)
    tree_converse _ _ _ _ (lowering.no_rules positions next f is) env vs v some ready (shows.whole _ _ _ us _ p called) =
        absurd (never_applied program claims f us v is called)
    tree_converse _ _ _ t (lowering.rule positions next row _ e p) env vs v some ready shown = record {
      place = 0;
      row = row;
      there = refl;
      suits = leaf_suits program claims positions next env vs v row e ready.at ready.fit.0
          (λ E same. lowers_converse row.names next row.body t p E env v same ready.fit.0.low ready.fit.0.right shown);
    }
    tree_converse _ _ _ _ (lowering.overlap positions next row other rows a b e p q) env vs v some ready (shows.bottom _ _) = absurd (some refl)
    tree_converse _ _ _ _ (lowering.overlap positions next row other rows a b e p q) env vs v some ready (shows.left _ _ _ _ shown) = record {
      place = 0;
      row = row;
      there = refl;
      suits = leaf_suits program claims positions next env vs v row e ready.at ready.fit.0
          (λ E same. lowers_converse row.names next row.body a p E env v same ready.fit.0.low ready.fit.0.right shown);
    }
    tree_converse _ _ _ _ (lowering.overlap positions next row other rows a b e p q) env vs v some ready (shows.right _ _ _ _ shown) =
        let rest = tree_converse positions next (other ∷ rows) b q env vs v some (record { at = ready.at; low = ready.low; fit = ready.fit.1 }) shown in
        record { place = suc rest.place; row = rest.row; there = rest.there; suits = rest.suits }
    tree_converse _ _ _ _ (lowering.branch positions next k x row rows a e f p) env vs v some ready (shows.bottom _ _) = absurd (some refl)
    tree_converse _ _ _ _ (lowering.branch positions next k x row rows a e f p) env vs v some ready (shows.looked _ _ _ t _ j q bindings _ g m shown) =
        branches_converse positions next k (row ∷ rows) (constructors_at program k (row ∷ rows)) (literals_at k (row ∷ rows)) a p x env vs v some f ready
        j q t bindings g m shown
    tree_converse _ _ _ _ (lowering.branch positions next k x row rows a e f p) env vs v some ready (shows.chosen _ _ _ t _ j q bindings u _ is d g m shown) =
        absurd (true≢false is)
    tree_converse _ _ _ _ (lowering.split positions next k row rows a b e f p q) env vs v some ready (shows.bottom _ _) = absurd (some refl)
    tree_converse _ _ _ _ (lowering.split positions next k row rows a b e f p q) env vs v some ready (shows.left _ _ _ _ shown) =
        found_kept program claims env vs v (demands k) (row ∷ rows)
        (tree_converse positions next (filter (demands k) (row ∷ rows)) a p env vs v some
        (record { at = ready.at; low = ready.low; fit = filter_fits program positions next (demands k) (row ∷ rows) ready.fit }) shown)
    tree_converse _ _ _ _ (lowering.split positions next k row rows a b e f p q) env vs v some ready (shows.right _ _ _ _ shown) =
        found_kept program claims env vs v (λ (other : Row). not (demands k other)) (row ∷ rows)
        (tree_converse positions next (filter (λ (other : Row). not (demands k other)) (row ∷ rows)) b q env vs v some
        (record {
          at = ready.at;
          low = ready.low;
          fit = filter_fits program positions next (λ (other : Row). not (demands k other)) (row ∷ rows) ready.fit;
        }) shown)

    pub branches_converse : (positions : List ℕ) (next k : ℕ) (rows : List Row) (cs : List ConId) (ls : List Lit) (a : Alternatives)
        → Branches program positions next k rows cs ls a → (position : ℕ) (env : Environment) (vs : List Value) (v : Value) → v ≢ value.Bottom
        → slice_get positions k ≡ Some position → Ready program positions next rows env vs → (j : ℕ) (q : Pattern) (t : Term) (bindings : Bindings)
        → alternative_at a j ≡ Some (q, t) → matched q (env position) ≡ Some bindings → Shows program claims (bind_all env bindings) t v
        → FoundIn program claims env vs v rows
    branches_converse _ _ _ _ _ _ _ (lowering.no_branch positions next k rows) position env vs v some place ready j q t bindings e m shown =
        let no : ⊥ = cc in absurd no
    branches_converse _ _ _ _ _ _ _ (lowering.constructor_branch positions next k n xs rows c cs ls s a count is p rest) position env vs v some place ready
        zero q t bindings e m shown =
        let pair = some_pair_parts (term.Built c (variables xs)) q s t e in
        let inside = bind_all env bindings in
        let after = after_match env next n xs c (env position) bindings is (subst (λ (r : Pattern). matched r (env position) ≡ Some bindings) (sym pair.0) m) in
        let many : length xs ≡ n = ap length is ∙ numbers_count next n in
        let low = subst (λ (zs : List ℕ). AllLow (next + n) zs) (sym is) (numbers_low next (next + n) n (omega arith)) in
        found_opened program claims positions next k position xs (demands_constructor c) rows env inside vs (list_of after.us) v place
        (λ r w f. opens_at c xs (env position) after.us r n many count after.is after.many w f) after.at after.same ready
        (tree_converse (spliced k xs positions) (next + n) (specialize k xs (demands_constructor c) rows) s p inside (put k (list_of after.us) vs) v some
        (ready_opened program positions next (next + n) k position xs (demands_constructor c) rows env inside vs (list_of after.us) (omega arith) low place
        (λ r w f. count_at c xs r n many count w f) after.at after.same ready)
        (subst (λ (r : Term). Shows program claims inside r v) (sym pair.1) shown))
    branches_converse _ _ _ _ _ _ _ (lowering.constructor_branch positions next k n xs rows c cs ls s a count is p rest) position env vs v some place ready
        (suc j) q t bindings e m shown =
        branches_converse positions next k rows cs ls a rest position env vs v some place ready j q t bindings e m shown
    branches_converse _ _ _ _ _ _ _ (lowering.literal_branch positions next k rows l ls s a p rest) position env vs v some place ready zero q t bindings e m shown =
        let pair = some_pair_parts (term.Exactly l) q s t e in
        let here : matched (term.Exactly l) (env position) ≡ Some bindings =
        subst (λ (r : Pattern). matched r (env position) ≡ Some bindings) (sym pair.0) m in
        let same = literal_fits l (env position) bindings here in
        let none = no_bindings bindings (literal_binds l (env position) bindings here) in
        let shown_here : Shows program claims env s v =
        subst (λ (b : Bindings). Shows program claims (bind_all env b) s v) none
        (subst (λ (r : Term). Shows program claims (bind_all env bindings) r v) (sym pair.1) shown) in
        found_opened program claims positions next k position [] (demands_literal l) rows env env vs [] v place
        (λ r w f. subst (λ (u : Value). Opens 0 r u []) (sym same) (opens_literal r l w)) tt (λ x b. refl) ready
        (tree_converse (spliced k [] positions) next (specialize k [] (demands_literal l) rows) s p env (put k [] vs) v some
        (ready_opened program positions next next k position [] (demands_literal l) rows env env vs [] (omega arith) tt place
        (λ r w f. (opens_literal r l w).many) tt (λ x b. refl) ready) shown_here)
    branches_converse _ _ _ _ _ _ _ (lowering.literal_branch positions next k rows l ls s a p rest) position env vs v some place ready (suc j) q t bindings e m shown =
        branches_converse positions next k rows [] ls a rest position env vs v some place ready j q t bindings e m shown

    pub distinguishes_converse : (mode : Mode) (positions : List ℕ) (next : ℕ) (rows : List Row) (t : Term)
        → Distinguishes program mode positions next rows t → (env : Environment) (vs : List Value) (v : Value) → v ≢ value.Bottom
        → Ready program positions next rows env vs → Shows program claims env t v → (twins : List choose.Row) → Alike rows twins
        → FoundAmong program claims env vs v rows twins
    distinguishes_converse _ _ _ _ _ (lowering.no_alternatives mode positions next f is) env vs v some ready (shows.bottom _ _) twins alike =
        absurd (some refl)
    distinguishes_converse _ _ _ _ _ (lowering.no_alternatives mode positions next f is) env vs v some ready (shows.whole _ _ _ us _ p called) twins alike =
        absurd (never_applied program claims f us v is called)
    distinguishes_converse _ _ _ _ t (lowering.taken mode positions next row rows _ e p) env vs v some ready shown [] alike = absurd alike
    distinguishes_converse _ _ _ _ t (lowering.taken mode positions next row rows _ e p) env vs v some ready shown (twin ∷ twins) alike = record {
      place = 0;
      row = row;
      twin = twin;
      there = refl;
      twin_there = refl;
      suits = leaf_suits program claims positions next env vs v row e ready.at ready.fit.0
          (λ E same. lowers_converse row.names next row.body t p E env v same ready.fit.0.low ready.fit.0.right shown);
      chosen = choose.taken (twin ∷ twins) vs twin.choice (ap (look_from program twin (twin ∷ twins) vs) (ap leftmost alike.0 ∙ e));
    }
    distinguishes_converse _ _ _ _ _ (lowering.all_demand mode positions next k x row rows a e f g p) env vs v some ready shown [] alike = absurd alike
    distinguishes_converse _ _ _ _ _ (lowering.all_demand mode positions next k x row rows a e f g p) env vs v some ready (shows.bottom _ _) (twin ∷ twins)
        alike = absurd (some refl)
    distinguishes_converse _ _ _ _ _ (lowering.all_demand mode positions next k x row rows a e f g p) env vs v some ready
        (shows.chosen _ _ _ t _ j q bindings u _ is d i m shown) (twin ∷ twins) alike = absurd (true≢false is)
    distinguishes_converse _ _ _ _ _ (lowering.all_demand mode positions next k x row rows a e f g p) env vs v some ready
        (shows.looked _ _ _ t _ j q bindings _ i m shown) (twin ∷ twins) alike =
        let place = at_place env k positions vs x f ready.at in
        cases_converse mode false positions next k (row ∷ rows) (constructors_at program k (row ∷ rows)) (literals_at k (row ∷ rows)) a p x env vs v some f ready
        (twin ∷ twins) alike
        (record {
          con = λ n c us there is. look_constructor_all program k row rows twin twins vs alike e c us (place ∙ ap Some is) g;
          lit = λ n l there is. look_literal_all program k row rows twin twins vs alike e l (place ∙ ap Some is) g;
        }) j q t bindings i m shown
    distinguishes_converse _ _ _ _ _ (lowering.first_constructor mode positions next k x c row rows a e f g h p) env vs v some ready shown [] alike =
        absurd alike
    distinguishes_converse _ _ _ _ _ (lowering.first_constructor mode positions next k x c row rows a e f g h p) env vs v some ready (shows.bottom _ _)
        (twin ∷ twins) alike = absurd (some refl)
    distinguishes_converse _ _ _ _ _ (lowering.first_constructor mode positions next k x c row rows a e f g h p) env vs v some ready
        (shows.chosen _ _ _ t _ j q bindings u _ is d i m shown) (twin ∷ twins) alike = absurd (true≢false is)
    distinguishes_converse _ _ _ _ _ (lowering.first_constructor mode positions next k x c row rows a e f g h p) env vs v some ready
        (shows.looked _ _ _ t _ j q bindings _ i m shown) (twin ∷ twins) alike =
        let place = at_place env k positions vs x f ready.at in
        cases_converse mode true positions next k (row ∷ rows) (siblings program c) [] a p x env vs v some f ready (twin ∷ twins) alike
        (record {
          con = λ n d us there is. look_constructor_some program k row rows twin twins vs alike e d c us (place ∙ ap Some is) g h
              (same_type_swaps program c d (passes_at (same_type program c) (constructor_ids program) n d there));
          lit = λ n l there is. let no : ⊥ = cc in absurd no;
        }) j q t bindings i m shown
    distinguishes_converse _ _ _ _ _ (lowering.first_literal mode positions next k x equal l row rows a b e f g h is p q) env vs v some ready shown [] alike =
        absurd alike
    distinguishes_converse _ _ _ _ _ (lowering.first_literal mode positions next k x equal l row rows a b e f g h is p q) env vs v some ready (shows.bottom _ _)
        (twin ∷ twins) alike = absurd (some refl)
    distinguishes_converse _ _ _ _ _ (lowering.first_literal mode positions next k x equal l row rows a b e f g h is p q) env vs v some ready
        (shows.chosen _ _ _ t _ zero r bindings u _ not_it d i m shown) (twin ∷ twins) alike =
        let pair = some_pair_parts (term.Built program.special.truth term.NoPattern) r a t i in
        let here : matched (term.Built program.special.truth term.NoPattern) u ≡ Some bindings =
        subst (λ (y : Pattern). matched y u ≡ Some bindings) (sym pair.0) m in
        let tested = test_shown program claims env equal x l u (built_not_bottom program.special.truth u bindings here) is d in
        let taken = truth_taken tested.answer u bindings tested.is here in
        let literal = is_the_literal (env x) l tested.answer tested.tested taken.0 in
        let place = at_place env k positions vs x f ready.at in
        let test = goes_on true (demands_literal l) in
        found_specialized program claims positions next k x [] test (goes_too true (demands_literal l)) (row ∷ rows) (twin ∷ twins) env env vs [] v f
        (λ y w fit. goes_literal true l (env x) y literal w) tt (λ y low. refl) ready alike (goes_same true (demands_literal l))
        (look_literal_same program k row rows twin twins vs alike e l (place ∙ ap Some literal) g h)
        (distinguishes_converse mode (spliced k [] positions) next (specialize k [] test (row ∷ rows)) a p env (put k [] vs) v some
        (ready_opened program positions next next k x [] test (row ∷ rows) env env vs [] (omega arith) tt f
        (λ y w fit. (goes_literal true l (value.Literal l) y refl w).many) tt (λ y low. refl) ready)
        (shown_inside env bindings a t v taken.1 pair.1 shown)
        (map (specialized_row k 0) (filter (λ one. goes_too true (demands_literal l) (choose.demand_at k one)) (twin ∷ twins)))
        (alike_specialized k 0 [] (filter (λ one. test (demand_at k one)) (row ∷ rows))
        (filter (λ one. goes_too true (demands_literal l) (choose.demand_at k one)) (twin ∷ twins)) refl
        (alike_filter (λ one. test (demand_at k one)) (λ one. goes_too true (demands_literal l) (choose.demand_at k one)) (row ∷ rows) (twin ∷ twins)
        (tests_agree k test (goes_too true (demands_literal l)) (goes_same true (demands_literal l))) alike)))
    distinguishes_converse _ _ _ _ _ (lowering.first_literal mode positions next k x equal l row rows a b e f g h is p q) env vs v some ready
        (shows.chosen _ _ _ t _ (suc zero) r bindings u _ not_it d i m shown) (twin ∷ twins) alike =
        let pair = some_pair_parts (term.Built program.special.falsity term.NoPattern) r b t i in
        let here : matched (term.Built program.special.falsity term.NoPattern) u ≡ Some bindings =
        subst (λ (y : Pattern). matched y u ≡ Some bindings) (sym pair.0) m in
        let tested = test_shown program claims env equal x l u (built_not_bottom program.special.falsity u bindings here) is d in
        let taken = falsity_taken tested.answer u bindings tested.is here in
        let place = at_place env k positions vs x f ready.at in
        let test = λ (one : Row). not_literal l (demand_at k one) in
        let other = λ (one : choose.Row). not_literal l (choose.demand_at k one) in
        let agree = tests_agree k (not_literal l) (not_literal l) (λ y. refl) in
        found_again program claims env vs v test other (row ∷ rows) (twin ∷ twins) agree alike
        (look_other k x l row rows twin twins env vs alike e place g h tested.answer tested.tested taken.0)
        (distinguishes_converse mode positions next (filter test (row ∷ rows)) b q env vs v some
        (record { at = ready.at; low = ready.low; fit = filter_fits program positions next test (row ∷ rows) ready.fit })
        (shown_inside env bindings b t v taken.1 pair.1 shown) (filter other (twin ∷ twins))
        (alike_filter test other (row ∷ rows) (twin ∷ twins) agree alike))
    distinguishes_converse _ _ _ _ _ (lowering.first_literal mode positions next k x equal l row rows a b e f g h is p q) env vs v some ready
        (shows.chosen _ _ _ t _ (suc (suc j)) r bindings u _ not_it d i m shown) (twin ∷ twins) alike = let no : ⊥ = cc in absurd no

    pub cases_converse : (mode : Mode) (b : Bool) (positions : List ℕ) (next k : ℕ) (rows : List Row) (cs : List ConId) (ls : List Lit) (a : Alternatives)
        → Cases program mode b positions next k rows cs ls a → (position : ℕ) (env : Environment) (vs : List Value) (v : Value) → v ≢ value.Bottom
        → slice_get positions k ≡ Some position → Ready program positions next rows env vs → (twins : List choose.Row) → Alike rows twins
        → Looks program b k twins vs (env position) cs ls → (j : ℕ) (q : Pattern) (t : Term) (bindings : Bindings)
        → alternative_at a j ≡ Some (q, t) → matched q (env position) ≡ Some bindings → Shows program claims (bind_all env bindings) t v
        → FoundAmong program claims env vs v rows twins
    cases_converse _ _ _ _ _ _ _ _ _ (lowering.no_case mode b positions next k rows) position env vs v some place ready twins alike looks j q t bindings e m
        shown = let no : ⊥ = cc in absurd no
    cases_converse _ _ _ _ _ _ _ _ _ (lowering.constructor_case mode b positions next k n xs rows c cs ls s a count is p rest) position env vs v some place
        ready twins alike looks zero q t bindings e m shown =
        let pair = some_pair_parts (term.Built c (variables xs)) q s t e in
        let inside = bind_all env bindings in
        let after = after_match env next n xs c (env position) bindings is (subst (λ (r : Pattern). matched r (env position) ≡ Some bindings) (sym pair.0) m) in
        let many : length xs ≡ n = ap length is ∙ numbers_count next n in
        let low = subst (λ (zs : List ℕ). AllLow (next + n) zs) (sym is) (numbers_low next (next + n) n (omega arith)) in
        let test = goes_on b (demands_constructor c) in
        let args = list_of after.us in
        let as_many : length xs ≡ length args = many ∙ sym after.many in
        found_specialized program claims positions next k position xs test (goes_too b (demands_constructor c)) rows twins env inside vs args v place
        (λ r w f. goes_at b c xs (env position) after.us r n many count after.is after.many w f) after.at after.same ready alike
        (goes_same b (demands_constructor c)) (looks.con 0 c after.us refl after.is)
        (distinguishes_converse mode (spliced k xs positions) (next + n) (specialize k xs test rows) s p inside (put k args vs) v some
        (ready_opened program positions next (next + n) k position xs test rows env inside vs args (omega arith) low place
        (λ r w f. (goes_at b c xs (value.Constructed c after.us) after.us r n many count refl after.many w f).many ∙ sym as_many) after.at after.same ready)
        (subst (λ (r : Term). Shows program claims inside r v) (sym pair.1) shown)
        (map (specialized_row k (length args)) (filter (λ one. goes_too b (demands_constructor c) (choose.demand_at k one)) twins))
        (alike_specialized k (length args) xs (filter (λ one. test (demand_at k one)) rows)
        (filter (λ one. goes_too b (demands_constructor c) (choose.demand_at k one)) twins) as_many
        (alike_filter (λ one. test (demand_at k one)) (λ one. goes_too b (demands_constructor c) (choose.demand_at k one)) rows twins
        (tests_agree k test (goes_too b (demands_constructor c)) (goes_same b (demands_constructor c))) alike)))
    cases_converse _ _ _ _ _ _ _ _ _ (lowering.constructor_case mode b positions next k n xs rows c cs ls s a count is p rest) position env vs v some place
        ready twins alike looks (suc j) q t bindings e m shown =
        cases_converse mode b positions next k rows cs ls a rest position env vs v some place ready twins alike
        (record { con = λ i d us there. looks.con (suc i) d us there; lit = looks.lit }) j q t bindings e m shown
    cases_converse _ _ _ _ _ _ _ _ _ (lowering.literal_of_case mode b positions next k rows l ls s a p rest) position env vs v some place ready twins alike
        looks zero q t bindings e m shown =
        let pair = some_pair_parts (term.Exactly l) q s t e in
        let here : matched (term.Exactly l) (env position) ≡ Some bindings =
        subst (λ (r : Pattern). matched r (env position) ≡ Some bindings) (sym pair.0) m in
        let literal = literal_fits l (env position) bindings here in
        let none = no_bindings bindings (literal_binds l (env position) bindings here) in
        let test = goes_on b (demands_literal l) in
        found_specialized program claims positions next k position [] test (goes_too b (demands_literal l)) rows twins env env vs [] v place
        (λ r w f. goes_literal b l (env position) r literal w) tt (λ x low. refl) ready alike (goes_same b (demands_literal l)) (looks.lit 0 l refl literal)
        (distinguishes_converse mode (spliced k [] positions) next (specialize k [] test rows) s p env (put k [] vs) v some
        (ready_opened program positions next next k position [] test rows env env vs [] (omega arith) tt place
        (λ r w f. (goes_literal b l (value.Literal l) r refl w).many) tt (λ x low. refl) ready)
        (shown_inside env bindings s t v none pair.1 shown)
        (map (specialized_row k 0) (filter (λ one. goes_too b (demands_literal l) (choose.demand_at k one)) twins))
        (alike_specialized k 0 [] (filter (λ one. test (demand_at k one)) rows)
        (filter (λ one. goes_too b (demands_literal l) (choose.demand_at k one)) twins) refl
        (alike_filter (λ one. test (demand_at k one)) (λ one. goes_too b (demands_literal l) (choose.demand_at k one)) rows twins
        (tests_agree k test (goes_too b (demands_literal l)) (goes_same b (demands_literal l))) alike)))
    cases_converse _ _ _ _ _ _ _ _ _ (lowering.literal_of_case mode b positions next k rows l ls s a p rest) position env vs v some place ready twins alike
        looks (suc j) q t bindings e m shown =
        cases_converse mode b positions next k rows [] ls a rest position env vs v some place ready twins alike
        (record { con = looks.con; lit = λ i d there. looks.lit (suc i) d there }) j q t bindings e m shown
