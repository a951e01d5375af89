-- A row suits values where its patterns have their shape and its right side has a value; it does where the row over the arguments
-- of one of them does.
use Rattle.std.proofs.Common.{◌≡◌, ℕ, zero, suc, ◌+◌, ◌≤◌, inl, inr, Bool, true, false, List, [], ◌∷◌, ◌++◌, cond, filter, length, map, replicate, Option, None, Some, option_map, slice_get, IsTrue, refl, ap, sym, ◌∙◌, subst, arith, add-one, eqb-true}
use Rattle.std.specs.List.{list_all}
use Rattle.std.proofs.lemmas.Bool.{and_from, and_parts}
use Rattle.cu_calculus.specs.declared.ConId.{ConId}
use Rattle.cu_calculus.specs.declared.Head.TheVariants as head
use Rattle.cu_calculus.specs.declared.Lit.{Lit}
use Rattle.cu_calculus.specs.Choose.{Demand, Nothing, arguments_of, demand_of, list_patterns, spliced, demands_constructor, demands_literal, demands_nothing}
use Rattle.cu_calculus.specs.Gives.{Claim, Gives}
use Rattle.cu_calculus.specs.Match.{Environment}
use Rattle.cu_calculus.specs.Program.{Constructor, Program, arity_in, constructor_of}
use Rattle.cu_calculus.specs.Shape.{takes}
use Rattle.cu_calculus.specs.Term as term
use Rattle.cu_calculus.specs.Term.{Pattern, Patterns, Term}
use Rattle.cu_calculus.specs.Valid.{fit_patterns, fits_pattern, fits_term, holds, pattern_count}
use Rattle.cu_calculus.specs.Value as value
use Rattle.cu_calculus.specs.Value.{Value, Values, list_of}
use Rattle.cu_calculus.proofs.Answering.{literal_is}
use Rattle.cu_calculus.proofs.Comparing.{same_is}
use Rattle.cu_calculus.proofs.Fitting.{any}
use Rattle.cu_deftree.specs.Rows.{Names, Row, argument_names, constructor_arity, demand_at, name_of, specialize, specialized}
use Rattle.cu_deftree.proofs.Meets.{AllFit, AllMeet, Meets, fits_meets, shape_fits}
use Rattle.cu_deftree.proofs.Opening.{AllLow, At, Known, Low, SameBelow, inner, inner_all, inner_put, known_all, low_argument_names, meet_at, meet_converse, meet_put, put, spliced_put}

-- ---- what stands at a position, and its arguments

-- how a pattern and a value are opened into patterns and values of n arguments
pub record Opens (n : ℕ) (p : Pattern) (v : Value) (args : List Value) : Type 0 where
  pub many : length (arguments_of n p) ≡ length args
  pub shape : AllMeet None (arguments_of n p) args → Meets None p v
  pub deep : (E : Environment) → Meets (Some E) p v → AllMeet (Some E) (arguments_of n p) args
  pub known : (E env : Environment) (new : List ℕ) (names : Names) (x : ℕ) → Meets (Some E) p v → At env new args
      → holds x (inner_all (arguments_of n p)) ≡ false → Known E env (argument_names new p ++ names) names x (inner p)

pub opens_literal : (p : Pattern) (l : Lit) → demands_literal l (demand_of p) ≡ true → Opens 0 p (value.Literal l) []
opens_literal (term.Any x) l e = let no : ⊥ = cc in absurd no
opens_literal (term.Named x p) l e =
    let rest = opens_literal p l e in record { many = rest.many; shape = rest.shape; deep = rest.deep; known = rest.known }
opens_literal (term.Built c ps) l e = let no : ⊥ = cc in absurd no
opens_literal (term.Exactly m) l e = record {
  many = refl;
  shape = λ h. ap value.Literal (literal_is l m e);
  deep = λ E h. tt;
  known = λ E env new names x h a b. inr (refl, refl);
}

pub opens_any : (p : Pattern) (v : Value) (n : ℕ) (args : List Value) → demands_nothing (demand_of p) ≡ true → length args ≡ n → Opens n p v args
opens_any (term.Named x p) v n args e l =
    let rest = opens_any p v n args e l in record { many = rest.many; shape = rest.shape; deep = rest.deep; known = rest.known }
opens_any (term.Built c ps) v n args e l = let no : ⊥ = cc in absurd no
opens_any (term.Exactly m) v n args e l = let no : ⊥ = cc in absurd no
opens_any (term.Any y) v n args e l = record {
  many = as_many n ∙ sym l;
  shape = λ h. tt;
  deep = λ E h. meet_any E n args l;
  known = λ E env new names x h a b. inr (refl, refl);
}
  where
    as_many : (m : ℕ) → length (replicate m (term.Any y)) ≡ m
    as_many zero = refl
    as_many (suc m) = ap suc (as_many m)

    meet_any : (E : Environment) (m : ℕ) (vs : List Value) → length vs ≡ m → AllMeet (Some E) (replicate m (term.Any y)) vs
    meet_any E zero [] h = tt
    meet_any E zero (w ∷ vs) h = absurd (omega arith)
    meet_any E (suc m) [] h = absurd (omega arith)
    meet_any E (suc m) (w ∷ vs) h = (tt, meet_any E m vs (omega arith))

pub patterns_count : (ps : Patterns) → length (list_patterns ps) ≡ pattern_count ps
patterns_count term.NoPattern = refl
patterns_count (term.MorePatterns p ps) = ap suc (patterns_count ps) ∙ sym (add-one (pattern_count ps))

pub takes_arity : (found : Option Constructor) (m : ℕ) → takes (option_map (λ constructor. constructor.arity) found) m ≡ true
    → elim found [ Some constructor ↦ constructor.arity | None ↦ 0 ] ≡ m
takes_arity None m e = let no : ⊥ = cc in absurd no
takes_arity (Some constructor) m e = eqb-true constructor.arity m e

-- a constructor's pattern has as many arguments as it takes
pub built_count : (program : Program) (c : ConId) (p : Pattern) (n : ℕ) → demands_constructor c (demand_of p) ≡ true
    → IsTrue (fits_pattern program p) → n ≡ constructor_arity program c → length (arguments_of n p) ≡ n
built_count program c (term.Any x) n e f a = let no : ⊥ = cc in absurd no
built_count program c (term.Exactly l) n e f a = let no : ⊥ = cc in absurd no
built_count program c (term.Named x p) n e f a = built_count program c p n e f a
built_count program c (term.Built d ps) n e f a =
    let whole = (and_parts (takes (arity_in program (head.Con d)) (pattern_count ps)) (fit_patterns program ps) f).0 in
    let count : constructor_arity program d ≡ pattern_count ps = takes_arity (constructor_of program d) (pattern_count ps) whole in
    patterns_count ps ∙ sym count ∙ ap (constructor_arity program) (sym (same_is c d e)) ∙ sym a

pub from_list : (ps : Patterns) (us : Values) → AllMeet None (list_patterns ps) (list_of us) → AllFit None ps us
from_list term.NoPattern value.NoValue h = refl
from_list term.NoPattern (value.MoreValues u us) h = absurd h
from_list (term.MorePatterns p ps) value.NoValue h = absurd h
from_list (term.MorePatterns p ps) (value.MoreValues u us) h = (u, us, refl, shape_fits p u h.0, from_list ps us h.1)

pub to_list : (env : Option Environment) (ps : Patterns) (us : Values) → AllFit env ps us → AllMeet env (list_patterns ps) (list_of us)
to_list env term.NoPattern us h = subst (λ (x : Values). AllMeet env [] (list_of x)) (sym h) tt
to_list env (term.MorePatterns p ps) us h =
    subst (λ (x : Values). AllMeet env (p ∷ list_patterns ps) (list_of x)) (sym h.2) (fits_meets env p h.0 h.3, to_list env ps h.1 h.4)

pub opens_built : (program : Program) (c : ConId) (p : Pattern) (us : Values) (n : ℕ) → demands_constructor c (demand_of p) ≡ true
    → IsTrue (fits_pattern program p) → n ≡ constructor_arity program c → length (list_of us) ≡ n
    → Opens n p (value.Constructed c us) (list_of us)
opens_built program c (term.Any x) us n e f a l = let no : ⊥ = cc in absurd no
opens_built program c (term.Exactly m) us n e f a l = let no : ⊥ = cc in absurd no
opens_built program c (term.Named x p) us n e f a l =
    let rest = opens_built program c p us n e f a l in record { many = rest.many; shape = rest.shape; deep = rest.deep; known = rest.known }
opens_built program c (term.Built d ps) us n e f a l = record {
  many = built_count program c (term.Built d ps) n e f a ∙ sym l;
  shape = λ h. (us, ap (λ (x : ConId). value.Constructed x us) (same_is c d e), from_list ps us h);
  deep = λ E h. to_list (Some E) ps us (fit E h);
  known = λ E env new names x h at b. known_all E env new ps us names x (fit E h) at b;
}
  where
    fit : (E : Environment) → Meets (Some E) (term.Built d ps) (value.Constructed c us) → AllFit (Some E) ps us
    fit E h = let same : h.0 ≡ us = cc in subst (λ (x : Values). AllFit (Some E) ps x) same h.2

-- ---- rows over arguments

abbrev pub opened : ℕ → List ℕ → Pattern → Row → Row
opened k new p row = record { patterns = put k (arguments_of (length new) p) row.patterns; names = argument_names new p ++ row.names; body = row.body }

abbrev shaped : ℕ → List ℕ → Row → Option Pattern → Row
shaped k new row found = record {
  patterns = spliced k (elim found [ Some p ↦ arguments_of (length new) p | None ↦ [] ]) row.patterns;
  names = elim found [ Some p ↦ argument_names new p ++ row.names | None ↦ row.names ];
  body = row.body;
}

pub specialized_is : (k : ℕ) (new : List ℕ) (p : Pattern) (row : Row) → slice_get row.patterns k ≡ Some p
    → specialized k new row ≡ opened k new p row
specialized_is k new p row e =
    ap (shaped k new row) e
    ∙ ap (λ (ps : List Pattern). let r : Row = record { patterns = ps; names = argument_names new p ++ row.names; body = row.body } in r)
    (spliced_put k (arguments_of (length new) p) row.patterns p e)

-- each variable of a row that has no place inside its patterns stands for what its name does
abbrev pub NamesOf : Environment → Environment → Row → Type 0
NamesOf E env row = (x : ℕ) → holds x (inner_all row.patterns) ≡ false → E x ≡ env (name_of row.names x)

pub names_opened : (next k : ℕ) (new : List ℕ) (p : Pattern) (row : Row) (E env more : Environment) (v : Value) (args : List Value)
    → slice_get row.patterns k ≡ Some p → Opens (length new) p v args → Meets (Some E) p v → At more new args → SameBelow next env more
    → Low next row.names → NamesOf E env row → NamesOf E more (opened k new p row)
names_opened next k new p row E env more v args e opens meets at same low named x h =
    let parts = inner_put x k (arguments_of (length new) p) row.patterns p e h in
    by parts.1 (opens.known E more new row.names x meets at parts.0)
  where
    by : (holds x (inner p) ≡ false → holds x (inner_all row.patterns) ≡ false) → Known E more (argument_names new p ++ row.names) row.names x (inner p)
        → E x ≡ more (name_of (argument_names new p ++ row.names) x)
    by outside (inl known) = known
    by outside (inr new_name) =
        named x (outside new_name.1) ∙ same (name_of row.names x) (low x) ∙ ap more (sym new_name.0)

pub record Suits (program : Program) (claims : List Claim) (env : Environment) (vs : List Value) (v : Value) (row : Row) : Type 0 where
  pub shape : AllMeet None row.patterns vs
  pub gives : (E : Environment) → AllMeet (Some E) row.patterns vs → NamesOf E env row → Gives program claims E row.body v

pub suits_closed : (program : Program) (claims : List Claim) (next k : ℕ) (new : List ℕ) (p : Pattern) (row : Row) (env more : Environment)
    (vs : List Value) (u : Value) (args : List Value) (v : Value) → slice_get row.patterns k ≡ Some p → slice_get vs k ≡ Some u
    → Opens (length new) p u args → At more new args → SameBelow next env more → Low next row.names
    → Suits program claims more (put k args vs) v (opened k new p row) → Suits program claims env vs v row
suits_closed program claims next k new p row env more vs u args v e f opens at same low suits =
    let mid = arguments_of (length new) p in
    let converse = meet_converse None k mid row.patterns args vs p u e f opens.many suits.shape in
    record {
      shape = converse.1 (opens.shape converse.0);
      gives = λ E meets named.
          let here = meet_at (Some E) k row.patterns vs p u e f meets in
          suits.gives E (meet_put (Some E) k mid row.patterns args vs (opens.deep E here) meets)
          (names_opened next k new p row E env more u args e opens here at same low named);
    }

-- ---- rows that fit

pub record RowFits (program : Program) (positions : List ℕ) (next : ℕ) (row : Row) : Type 0 where
  pub many : length row.patterns ≡ length positions
  pub known : IsTrue (list_all (fits_pattern program) row.patterns)
  pub low : Low next row.names
  pub right : IsTrue (fits_term program any row.body)

abbrev pub RowsFit : Program → List ℕ → ℕ → List Row → Type 0
RowsFit program positions next [] = Unit {0}
RowsFit program positions next (row ∷ rows) = RowFits program positions next row × RowsFit program positions next rows

length_append : {A : Type 0} (xs ys : List A) → length (xs ++ ys) ≡ length xs + length ys
length_append [] ys = omega arith
length_append (x ∷ xs) ys = let rest = length_append xs ys in omega arith

length_put : {A B : Type 0} (k : ℕ) (mid xs : List A) (new ys : List B) → length mid ≡ length new → length xs ≡ length ys
    → length (put k mid xs) ≡ length (put k new ys)
length_put k mid [] new [] e f = refl
length_put k mid [] new (y ∷ ys) e f = absurd (omega arith)
length_put k mid (x ∷ xs) new [] e f = absurd (omega arith)
length_put zero mid (x ∷ xs) new (y ∷ ys) e f = let one = length_append mid xs in let two = length_append new ys in omega arith
length_put (suc k) mid (x ∷ xs) new (y ∷ ys) e f = ap suc (length_put k mid xs new ys e (omega arith))

all_append : (test : Pattern → Bool) (xs ys : List Pattern) → IsTrue (list_all test xs) → IsTrue (list_all test ys) → IsTrue (list_all test (xs ++ ys))
all_append test [] ys h k = k
all_append test (x ∷ xs) ys h k =
    let parts = and_parts (test x) (list_all test xs) h in and_from (test x) (list_all test (xs ++ ys)) parts.0 (all_append test xs ys parts.1 k)

all_put : (test : Pattern → Bool) (k : ℕ) (mid xs : List Pattern) → IsTrue (list_all test mid) → IsTrue (list_all test xs)
    → IsTrue (list_all test (put k mid xs))
all_put test k mid [] h e = e
all_put test zero mid (x ∷ xs) h e = all_append test mid xs h (and_parts (test x) (list_all test xs) e).1
all_put test (suc k) mid (x ∷ xs) h e =
    let parts = and_parts (test x) (list_all test xs) e in and_from (test x) (list_all test (put k mid xs)) parts.0 (all_put test k mid xs h parts.1)

pub listed_fit : (program : Program) (ps : Patterns) → IsTrue (fit_patterns program ps) → IsTrue (list_all (fits_pattern program) (list_patterns ps))
listed_fit program term.NoPattern h = refl
listed_fit program (term.MorePatterns p ps) h =
    let parts = and_parts (fits_pattern program p) (fit_patterns program ps) h in
    and_from (fits_pattern program p) (list_all (fits_pattern program) (list_patterns ps)) parts.0 (listed_fit program ps parts.1)

arguments_fit : (program : Program) (n : ℕ) (p : Pattern) → IsTrue (fits_pattern program p) → IsTrue (list_all (fits_pattern program) (arguments_of n p))
arguments_fit program n (term.Any x) h = each n
  where
    each : (m : ℕ) → IsTrue (list_all (fits_pattern program) (replicate m (term.Any x)))
    each zero = refl
    each (suc m) = each m
arguments_fit program n (term.Named x p) h = arguments_fit program n p h
arguments_fit program n (term.Exactly l) h = refl
arguments_fit program n (term.Built c ps) h =
    listed_fit program ps (and_parts (takes (arity_in program (head.Con c)) (pattern_count ps)) (fit_patterns program ps) h).1

pub pattern_fits : (program : Program) (ps : List Pattern) (k : ℕ) (p : Pattern) → IsTrue (list_all (fits_pattern program) ps)
    → slice_get ps k ≡ Some p → IsTrue (fits_pattern program p)
pattern_fits program [] k p h e = let no : ⊥ = cc in absurd no
pattern_fits program (q ∷ ps) zero p h e =
    let same : q ≡ p = cc in
    subst (λ (x : Pattern). IsTrue (fits_pattern program x)) same (and_parts (fits_pattern program q) (list_all (fits_pattern program) ps) h).0
pattern_fits program (q ∷ ps) (suc k) p h e =
    pattern_fits program ps k p (and_parts (fits_pattern program q) (list_all (fits_pattern program) ps) h).1 e

pub there_too : {A B : Type 0} (xs : List A) (ys : List B) (k : ℕ) (y : B) → length xs ≡ length ys → slice_get ys k ≡ Some y
    → (x : A) × (slice_get xs k ≡ Some x)
there_too xs [] k y e h = let no : ⊥ = cc in absurd no
there_too [] (z ∷ ys) k y e h = absurd (omega arith)
there_too (x ∷ xs) (z ∷ ys) zero y e h = (x, refl)
there_too (x ∷ xs) (z ∷ ys) (suc k) y e h = there_too xs ys k y (omega arith) h

opened_fits : (program : Program) (positions : List ℕ) (next more k : ℕ) (new : List ℕ) (p : Pattern) (row : Row) → next ≤ more
    → AllLow more new → slice_get row.patterns k ≡ Some p → length (arguments_of (length new) p) ≡ length new
    → RowFits program positions next row → RowFits program (put k new positions) more (opened k new p row)
opened_fits program positions next more k new p row l low e m fits = record {
  many = length_put k (arguments_of (length new) p) row.patterns new positions m fits.many;
  known = all_put (fits_pattern program) k (arguments_of (length new) p) row.patterns
      (arguments_fit program (length new) p (pattern_fits program row.patterns k p fits.known e)) fits.known;
  low = low_argument_names more new p row.names low (λ x. let h = fits.low x in omega arith);
  right = fits.right;
}

-- what a row demands is what its pattern does
pub demand_is : (k : ℕ) (row : Row) (p : Pattern) → slice_get row.patterns k ≡ Some p → demand_at k row ≡ demand_of p
demand_is k row p e = ap (λ (found : Option Pattern). elim found [ Some q ↦ demand_of q | None ↦ Nothing ]) e

-- the rows that pass a test fit over the arguments
pub specialize_fits : (program : Program) (positions : List ℕ) (next more k position : ℕ) (new : List ℕ) (test : Demand → Bool) (rows : List Row)
    → next ≤ more → AllLow more new → slice_get positions k ≡ Some position
    → ((p : Pattern) → test (demand_of p) ≡ true → IsTrue (fits_pattern program p) → length (arguments_of (length new) p) ≡ length new)
    → RowsFit program positions next rows → RowsFit program (put k new positions) more (specialize k new test rows)
specialize_fits program positions next more k position new test [] l low e many h = tt
specialize_fits program positions next more k position new test (row ∷ rows) l low e many h =
    by (test (demand_at k row)) refl (specialize_fits program positions next more k position new test rows l low e many h.1)
  where
    by : (b : Bool) → test (demand_at k row) ≡ b → RowsFit program (put k new positions) more (specialize k new test rows)
        → RowsFit program (put k new positions) more (map (specialized k new) (cond b (row ∷ filter (λ r. test (demand_at k r)) rows) (filter (λ r. test (demand_at k r)) rows)))
    by false t rest = rest
    by true t rest =
        let there = there_too row.patterns positions k position h.0.many e in
        let wanted : test (demand_of there.0) ≡ true = ap test (sym (demand_is k row there.0 there.1)) ∙ t in
        let count = many there.0 wanted (pattern_fits program row.patterns k there.0 h.0.known there.1) in (
          subst (λ (r : Row). RowFits program (put k new positions) more r) (sym (specialized_is k new there.0 row there.1))
              (opened_fits program positions next more k new there.0 row l low there.1 count h.0),
          rest,
        )

pub filter_fits : (program : Program) (positions : List ℕ) (next : ℕ) (test : Row → Bool) (rows : List Row) → RowsFit program positions next rows
    → RowsFit program positions next (filter test rows)
filter_fits program positions next test [] h = tt
filter_fits program positions next test (row ∷ rows) h = by (test row) (filter_fits program positions next test rows h.1)
  where
    by : (b : Bool) → RowsFit program positions next (filter test rows)
        → RowsFit program positions next (cond b (row ∷ filter test rows) (filter test rows))
    by true rest = (h.0, rest)
    by false rest = rest

pub row_fits : (program : Program) (positions : List ℕ) (next : ℕ) (rows : List Row) (i : ℕ) (row : Row) → RowsFit program positions next rows
    → slice_get rows i ≡ Some row → RowFits program positions next row
row_fits program positions next [] i row h e = let no : ⊥ = cc in absurd no
row_fits program positions next (r ∷ rows) zero row h e =
    let same : r ≡ row = cc in subst (λ (x : Row). RowFits program positions next x) same h.0
row_fits program positions next (r ∷ rows) (suc i) row h e = row_fits program positions next rows i row h.1 e

-- ---- where rows that pass a test stand

pub record Passed (rows : List Row) (test : Row → Bool) (change : Row → Row) (changed : Row) : Type 0 where
  pub place : ℕ
  pub row : Row
  pub there : slice_get rows place ≡ Some row
  pub passes : test row ≡ true
  pub is : changed ≡ change row

further : (rows : List Row) (row : Row) (test : Row → Bool) (change : Row → Row) (changed : Row) → Passed rows test change changed
    → Passed (row ∷ rows) test change changed
further rows row test change changed p = record { place = suc p.place; row = p.row; there = p.there; passes = p.passes; is = p.is }

pub passed : (rows : List Row) (test : Row → Bool) (change : Row → Row) (i : ℕ) (changed : Row)
    → slice_get (map change (filter test rows)) i ≡ Some changed → Passed rows test change changed
passed [] test change i changed e = let no : ⊥ = cc in absurd no
passed (row ∷ rows) test change i changed e = by (test row) refl i e (λ j f. passed rows test change j changed f)
  where
    by : (b : Bool) → test row ≡ b → (j : ℕ) → slice_get (map change (cond b (row ∷ filter test rows) (filter test rows))) j ≡ Some changed
        → ((j : ℕ) → slice_get (map change (filter test rows)) j ≡ Some changed → Passed rows test change changed)
        → Passed (row ∷ rows) test change changed
    by true t zero f later = record { place = 0; row = row; there = refl; passes = t; is = cc }
    by true t (suc j) f later = further rows row test change changed (later j f)
    by false t j f later = further rows row test change changed (later j f)

pub kept : (rows : List Row) (test : Row → Bool) (i : ℕ) (row : Row) → slice_get (filter test rows) i ≡ Some row
    → (j : ℕ) × (slice_get rows j ≡ Some row)
kept [] test i row e = let no : ⊥ = cc in absurd no
kept (r ∷ rows) test i row e = by (test r) i e (λ j f. kept rows test j row f)
  where
    by : (b : Bool) (j : ℕ) → slice_get (cond b (r ∷ filter test rows) (filter test rows)) j ≡ Some row
        → ((j : ℕ) → slice_get (filter test rows) j ≡ Some row → (n : ℕ) × (slice_get rows n ≡ Some row))
        → (n : ℕ) × (slice_get (r ∷ rows) n ≡ Some row)
    by true zero f later = (0, f)
    by true (suc j) f later = let rest = later j f in (suc rest.0, rest.1)
    by false j f later = let rest = later j f in (suc rest.0, rest.1)
