-- What a look at rows finds, and which rows it leaves.
use Rattle.std.proofs.Common.{◌≡◌, ℕ, Bool, true, false, ◌||◌, List, [], ◌∷◌, ◌⊎◌, inl, inr, if◌then◌else◌, cond, filter, map, length, Option, None, Some, slice_get, refl, ap, sym, ◌∙◌, subst}
use Rattle.std.proofs.lemmas.Bool.{or_parts, or_right}
use Rattle.cu_calculus.specs.declared.ConId.{ConId}
use Rattle.cu_calculus.specs.declared.Lit.{Lit}
use Rattle.cu_calculus.specs.Choose.{AConstructor, ALiteral, Again, Demand, Look, Specialize, Nothing, Nowhere, Row, Take, at_constructor, at_literal, demand_at, has_variable, leftmost, look, look_at, look_from, specialized_look, specialized_row, not_literal, same_type, spliced, demands_constructor, demands_literal, demands_nothing}
use Rattle.cu_calculus.specs.Literal.{same_literal}
use Rattle.cu_calculus.specs.Program.{Program}
use Rattle.cu_calculus.specs.Value as value
use Rattle.cu_calculus.specs.Value.{Value, Values, list_of}

-- a row among others
abbrev pub Among : Row → List Row → Type 0
Among row [] = ⊥
Among row (other ∷ rows) = (other ≡ row) ⊎ Among row rows

among_kept : (b : Bool) (row other : Row) (kept : List Row) → Among row kept → Among row (cond b (other ∷ kept) kept)
among_kept true row other kept h = inr h
among_kept false row other kept h = h

pub among_filter : (test : Row → Bool) (row : Row) (rows : List Row) → Among row rows → test row ≡ true → Among row (filter test rows)
among_filter test row [] h e = absurd h
among_filter test row (other ∷ rows) (inl same) e =
    subst (λ (b : Bool). Among row (cond b (other ∷ filter test rows) (filter test rows))) (sym (ap test same ∙ e)) (inl same)
among_filter test row (other ∷ rows) (inr h) e = among_kept (test other) row other (filter test rows) (among_filter test row rows h e)

pub filtered_among : (test : Row → Bool) (row : Row) (rows : List Row) → Among row (filter test rows) → Among row rows × (test row ≡ true)
filtered_among test row [] h = absurd h
filtered_among test row (other ∷ rows) h = by (test other) refl (λ k. filtered_among test row rows k) h
  where
    by : (b : Bool) → test other ≡ b → (Among row (filter test rows) → Among row rows × (test row ≡ true))
        → Among row (cond b (other ∷ filter test rows) (filter test rows)) → Among row (other ∷ rows) × (test row ≡ true)
    by true e rest (inl same) = (inl same, ap test (sym same) ∙ e)
    by true e rest (inr k) = (inr (rest k).0, (rest k).1)
    by false e rest k = (inr (rest k).0, (rest k).1)

pub among_map : (f : Row → Row) (row : Row) (rows : List Row) → Among row rows → Among (f row) (map f rows)
among_map f row [] h = absurd h
among_map f row (other ∷ rows) (inl same) = inl (ap f same)
among_map f row (other ∷ rows) (inr h) = inr (among_map f row rows h)

-- the row that one of a map comes from
pub record Origin (f : Row → Row) (rows : List Row) (row : Row) : Type 0 where
  pub source : Row
  pub is : f source ≡ row
  pub among : Among source rows

pub mapped_among : (f : Row → Row) (row : Row) (rows : List Row) → Among row (map f rows) → Origin f rows row
mapped_among f row [] h = absurd h
mapped_among f row (other ∷ rows) (inl same) = record { source = other; is = same; among = inl refl }
mapped_among f row (other ∷ rows) (inr h) =
    let rest = mapped_among f row rows h in record { source = rest.source; is = rest.is; among = inr rest.among }

-- a value is what is demanded
abbrev pub meets : Value → Demand → Bool
meets (value.Literal l) d = demands_literal l d
meets (value.Constructed c us) d = demands_constructor c d
meets _ d = false

-- a value is what is demanded, if something is
abbrev pub admits : Value → Demand → Bool
admits v d = demands_nothing d || meets v d

-- the arguments of a literal or a constructor
abbrev pub parts_of : Value → Option (List Value)
parts_of (value.Literal l) = Some []
parts_of (value.Constructed c us) = Some (list_of us)
parts_of _ = None

-- the first row is taken, which demands nothing
pub record TakesFirst (rows : List Row) (choice : ℕ) : Type 0 where
  pub first : Row
  pub others : List Row
  pub are : rows ≡ first ∷ others
  pub free : leftmost first.patterns ≡ None
  pub is : first.choice ≡ choice

-- the rows go that want a literal at a place, where another value stands
pub record GoesOn (rows : List Row) (values : List Value) (fewer : List Row) : Type 0 where
  pub place : ℕ
  pub here : Value
  pub literal : Lit
  pub at : slice_get values place ≡ Some here
  pub differs : meets here (ALiteral literal) ≡ false
  pub are : fewer ≡ filter (λ row. not_literal literal (demand_at place row)) rows

-- of the rows those are left that what stands at a place admits, over its arguments
pub record Specializes (rows : List Row) (values : List Value) (fewer : List Row) (parts : List Value) : Type 0 where
  pub place : ℕ
  pub here : Value
  pub arguments : List Value
  pub test : Demand → Bool
  pub at : slice_get values place ≡ Some here
  pub inner : parts_of here ≡ Some arguments
  pub are : fewer ≡ map (specialized_row place (length arguments)) (filter (λ row. test (demand_at place row)) rows)
  pub parts_are : parts ≡ spliced place arguments values
  pub sound : (d : Demand) → test d ≡ true → admits here d ≡ true
  pub complete : (row : Row) → Among row rows → admits here (demand_at place row) ≡ true → test (demand_at place row) ≡ true

abbrev pub Looked : List Row → List Value → Look → Type 0
Looked rows values Nowhere = Unit {0}
Looked rows values (Take choice) = TakesFirst rows choice
Looked rows values (Again fewer) = GoesOn rows values fewer
Looked rows values (Specialize fewer parts) = Specializes rows values fewer parts

or_other : (a b : Bool) → a ≡ false → (a || b) ≡ true → b ≡ true
or_other true b e h = let no : ⊥ = cc in absurd no
or_other false b e h = h

-- where no row demands nothing at a place, each demands something there
no_variable : (k : ℕ) (rows : List Row) → has_variable k rows ≡ false → (row : Row) → Among row rows → demands_nothing (demand_at k row) ≡ false
no_variable k [] e row h = absurd h
no_variable k (other ∷ rows) e row (inl same) =
    ap (λ (r : Row). demands_nothing (demand_at k r)) (sym same) ∙ (or_parts (demands_nothing (demand_at k other)) (has_variable k rows) e).0
no_variable k (other ∷ rows) e row (inr h) =
    no_variable k rows (or_parts (demands_nothing (demand_at k other)) (has_variable k rows) e).1 row h

-- the rows that want just what stands there are left
specialize_looked : (k : ℕ) (v : Value) (arguments values : List Value) (rows : List Row) → slice_get values k ≡ Some v → parts_of v ≡ Some arguments
    → has_variable k rows ≡ false → Looked rows values (specialized_look k (meets v) rows arguments values)
specialize_looked k v arguments values rows at inner none = record {
  place = k;
  here = v;
  arguments = arguments;
  test = meets v;
  at = at;
  inner = inner;
  are = refl;
  parts_are = refl;
  sound = λ d e. or_right (demands_nothing d) (meets v d) e;
  complete = λ row among e. or_other (demands_nothing (demand_at k row)) (meets v (demand_at k row)) (no_variable k rows none row among) e;
}

-- the rows that demand what stands at the place, or demand nothing there
wide_looked : (k : ℕ) (v : Value) (arguments values : List Value) (rows : List Row) → slice_get values k ≡ Some v → parts_of v ≡ Some arguments
    → Looked rows values (specialized_look k (admits v) rows arguments values)
wide_looked k v arguments values rows at inner = record {
  place = k;
  here = v;
  arguments = arguments;
  test = admits v;
  at = at;
  inner = inner;
  are = refl;
  parts_are = refl;
  sound = λ d e. e;
  complete = λ row among e. e;
}

again_looked : (k : ℕ) (v : Value) (m : Lit) (values : List Value) (rows : List Row) → slice_get values k ≡ Some v
    → meets v (ALiteral m) ≡ false → Looked rows values (Again (filter (λ row. not_literal m (demand_at k row)) rows))
again_looked k v m values rows at differs =
    record { place = k; here = v; literal = m; at = at; differs = differs; are = refl }

looked_if : (b : Bool) (rows : List Row) (values : List Value) (one two : Look) → (b ≡ true → Looked rows values one)
    → (b ≡ false → Looked rows values two) → Looked rows values (if b then one else two)
looked_if true rows values one two h k = h refl
looked_if false rows values one two h k = k refl

literal_looked : (k : ℕ) (l : Lit) (demand : Demand) (b : Bool) (rows : List Row) (values : List Value) → slice_get values k ≡ Some (value.Literal l)
    → has_variable k rows ≡ b → Looked rows values (at_literal k l demand b rows values)
literal_looked k l demand false rows values at e = specialize_looked k (value.Literal l) [] values rows at refl e
literal_looked k l Nothing true rows values at e = tt
literal_looked k l (AConstructor c) true rows values at e = tt
literal_looked k l (ALiteral m) true rows values at e =
    looked_if (same_literal l m) rows values (specialized_look k (admits (value.Literal l)) rows [] values)
    (Again (filter (λ row. not_literal m (demand_at k row)) rows)) (λ same. wide_looked k (value.Literal l) [] values rows at refl)
    (λ differs. again_looked k (value.Literal l) m values rows at differs)

constructor_looked : (program : Program) (k : ℕ) (c : ConId) (vs : Values) (demand : Demand) (b : Bool) (rows : List Row) (values : List Value)
    → slice_get values k ≡ Some (value.Constructed c vs) → has_variable k rows ≡ b
    → Looked rows values (at_constructor program k c demand b rows (list_of vs) values)
constructor_looked program k c vs demand false rows values at e = specialize_looked k (value.Constructed c vs) (list_of vs) values rows at refl e
constructor_looked program k c vs Nothing true rows values at e = tt
constructor_looked program k c vs (ALiteral m) true rows values at e = again_looked k (value.Constructed c vs) m values rows at refl
constructor_looked program k c vs (AConstructor d) true rows values at e =
    looked_if (same_type program c d) rows values (specialized_look k (admits (value.Constructed c vs)) rows (list_of vs) values) Nowhere
    (λ same. wide_looked k (value.Constructed c vs) (list_of vs) values rows at refl) (λ differs. tt)

look_at_looked : (program : Program) (k : ℕ) (first : Row) (rows : List Row) (values : List Value) (found : Option Value)
    → slice_get values k ≡ found → Looked rows values (look_at program k first rows values found)
look_at_looked program k first rows values None at = tt
look_at_looked program k first rows values (Some value.Bottom) at = tt
look_at_looked program k first rows values (Some (value.Variable x)) at = tt
look_at_looked program k first rows values (Some (value.Partial h vs)) at = tt
look_at_looked program k first rows values (Some (value.Literal l)) at =
    literal_looked k l (demand_at k first) (has_variable k rows) rows values at refl
look_at_looked program k first rows values (Some (value.Constructed c vs)) at =
    constructor_looked program k c vs (demand_at k first) (has_variable k rows) rows values at refl

pub looked : (program : Program) (rows : List Row) (values : List Value) → Looked rows values (look program rows values)
looked program [] values = tt
looked program (first ∷ rows) values = by (leftmost first.patterns) refl
  where
    by : (found : Option ℕ) → leftmost first.patterns ≡ found → Looked (first ∷ rows) values (look_from program first (first ∷ rows) values found)
    by None e = record { first = first; others = rows; are = refl; free = e; is = refl }
    by (Some k) e = look_at_looked program k first (first ∷ rows) values (slice_get values k) refl
