-- What nodes have, they have where a free variable is bound to what it is worth.
use Rattle.std.proofs.Common.{◌≡◌, ◌≢◌, ℕ, zero, suc, ◌+◌, ◌-◌, ◌<◌, ◌≤◌, ◌⊎◌, inl, inr, Bool, true, false, ◌&&◌, if◌then◌else◌, List, [], ◌∷◌, Option, None, Some, IsTrue, refl, ap, ap₂, sym, ◌∙◌, subst, length, nat_eq, eqb-true, eq-eqb, slice_get, true≢false, arith, length-set, get_or-set_same, get_or-set_other}
use Rattle.std.specs.List.{list_all}
use Rattle.std.proofs.lemmas.Bool.{and_from, and_parts, cases_lt}
use Rattle.cu_calculus.specs.declared.ConId.{ConId}
use Rattle.cu_calculus.specs.declared.Lit.{Lit}
use Rattle.cu_calculus.specs.declared.Mode.TheVariants.{Flex}
use Rattle.cu_calculus.specs.declared.builtin.Primitive.TheVariants as prim
use Rattle.cu_calculus.specs.declared.Head.TheVariants as head
use Rattle.cu_calculus.specs.Below.{Below}
use Rattle.cu_calculus.specs.Builtin.{truth_of}
use Rattle.cu_calculus.specs.Code as code
use Rattle.cu_calculus.specs.Code.{Branch, Code, Shallow}
use Rattle.cu_calculus.specs.FlatProgram.{all_any, pattern_of, program_of, term_of}
use Rattle.cu_calculus.specs.Gives.{Claim}
use Rattle.cu_calculus.specs.Literal.{same_literal}
use Rattle.cu_calculus.specs.Match.{Bindings, all_matched, both, matched, same_constructor}
use Rattle.cu_calculus.specs.Program.{Program, arity_in}
use Rattle.cu_calculus.specs.Shape.{are_data, are_of, are_total, is_data, is_of, is_total, is_total_data, takes}
use Rattle.cu_calculus.specs.Term.{Pattern}
use Rattle.cu_calculus.specs.Value as value
use Rattle.cu_calculus.specs.Value.{Value, Values, count, values_of}
use Rattle.cu_calculus.proofs.Answering.{literal_is}
use Rattle.cu_calculus.proofs.BelowLaws.{below_itself}
use Rattle.cu_calculus.proofs.Comparing.{same_is}
use Rattle.cu_machine.specs.declared.Kind.{Kind}
use Rattle.cu_machine.specs.declared.Kind.TheVariants as kind
use Rattle.cu_machine.specs.Among.{Among}
use Rattle.cu_machine.specs.Build.{Scope}
use Rattle.cu_machine.specs.Graph.{Graph, Node, alone, head_at, head_of, node_at, put, renaming, stuck}
use Rattle.cu_machine.specs.Rewrite.{bound_to}
use Rattle.cu_machine.specs.State.{numbers}
use Rattle.cu_machine.specs.Steps as row
use Rattle.cu_machine.specs.Steps.{CaseAt, FreeBeside, imitating, node, on_the_left, on_the_right, telling}
use Rattle.cu_machine.proofs.Frames.{same_or_other}
use Rattle.cu_laws.specs.Continues.{NothingPast}
use Rattle.cu_laws.specs.Good.{Assignment, Loose, MayHave, NoValue}
use Rattle.cu_laws.proofs.AnswerKept.{constant_may, sides_equal}
use Rattle.cu_laws.proofs.Binding.{imitating_new, imitating_same, imitating_there, length_imitating}
use Rattle.cu_laws.proofs.CallKept.{SomeRow}
use Rattle.cu_laws.proofs.CaseKept.{branches_on}
use Rattle.cu_laws.proofs.Continuing.{Kept, continues_where, kept_by_put}
use Rattle.cu_laws.proofs.Extended.{alternative_is}
use Rattle.cu_laws.proofs.Heads.{made_may, values_at}
use Rattle.cu_laws.proofs.Known.{is_known}
use Rattle.cu_laws.proofs.LiteralRows.{truth_is_node, truth_kind}
use Rattle.cu_laws.proofs.LooseNodes.{AnyValue, head_above, loose_at, loosened}
use Rattle.cu_laws.proofs.Raising.{there_unless_stuck}
use Rattle.cu_laws.proofs.Rising.{total_above}

-- ---- another name of what it equals

module _ (program : Code) (claims : List Claim) (graph : Graph) (id : ℕ) (assigned : Assignment) (loose : Loose program claims graph assigned)
    (past : NothingPast graph assigned) (known : is_known (assigned id) ≡ true) where
  pub above_at : (x place : ℕ) → head_of graph x ≡ place → Below (assigned x) (assigned place)
  above_at x place is = subst (λ (y : ℕ). Below (assigned x) (assigned y)) is (head_above program claims graph assigned loose (length graph) x)

  -- the variable has what the other side's head has
  pub variable_is : (a b v other : ℕ) (k : Kind) (args : List ℕ) → node_at graph id ≡ node (kind.Prim prim.Unify) (a ∷ b ∷ []) → FreeBeside graph a b v other k args
      → assigned v ≡ assigned other
  variable_is a b v other k args is (on_the_left us place_a head_a place_b head_b) =
      let sides = sides_equal program claims graph id assigned loose known a b is in
      let total : is_total (assigned a) ≡ true = (and_parts (is_total (assigned a)) (is_data (assigned a)) sides.1).0 in
      sym (total_above (assigned a) (assigned v) (above_at a v place_a) total) ∙ sides.0
      ∙ total_above (assigned b) (assigned other) (above_at b other place_b) (subst (λ (u : Value). is_total u ≡ true) sides.0 total)
  variable_is a b v other k args is (on_the_right us place_b head_b place_a head_a) =
      let sides = sides_equal program claims graph id assigned loose known a b is in
      let total : is_total (assigned a) ≡ true = (and_parts (is_total (assigned a)) (is_data (assigned a)) sides.1).0 in
      sym (sides.0 ∙ total_above (assigned b) (assigned v) (above_at b v place_b) (subst (λ (u : Value). is_total u ≡ true) sides.0 total))
      ∙ total_above (assigned a) (assigned other) (above_at a other place_a) total

  pub free_there : (a b v other : ℕ) (k : Kind) (args : List ℕ) → FreeBeside graph a b v other k args → (us : List ℕ) × (node_at graph v ≡ node kind.Free us)
  free_there a b v other k args (on_the_left us place_a head_a place_b head_b) = (us, subst (λ (y : ℕ). node_at graph y ≡ node kind.Free us) place_a head_a)
  free_there a b v other k args (on_the_right us place_b head_b place_a head_a) = (us, subst (λ (y : ℕ). node_at graph y ≡ node kind.Free us) place_b head_b)

  pub renamed_kept : (after : Graph) (a b v other : ℕ) (k : Kind) (args : List ℕ) → node_at graph id ≡ node (kind.Prim prim.Unify) (a ∷ b ∷ [])
      → FreeBeside graph a b v other k args → after ≡ telling program (put graph v (renaming other)) id true → Kept program claims graph after assigned
  renamed_kept after a b v other k args is sides after_is = (
    assigned,
    continues_where program claims graph after assigned assigned loose past loose.of_program (λ x later. past x (no_longer x later)) (λ x below. refl) each,
  )
    where
      truth : Node
      truth = alone (truth_kind program true)

      middle : Graph
      middle = put graph v (renaming other)

      whole : after ≡ put middle id truth
      whole = after_is ∙ ap (put middle id) (truth_is_node program true)

      as_long : length after ≡ length graph
      as_long = ap (λ (g : Graph). length g) whole ∙ length-set middle id truth ∙ length-set graph v (renaming other)

      no_longer : (x : ℕ) → length after ≤ x → length graph ≤ x
      no_longer x later = let long = as_long in omega arith

      within : (x : ℕ) → x < length after → x < length graph
      within x below = let long = as_long in omega arith

      here : id < length middle
      here = let long = length-set graph v (renaming other) in let less = there_unless_stuck graph id (kind.Prim prim.Unify) (a ∷ b ∷ []) is refl in omega arith

      at_id : node_at after id ≡ truth
      at_id = ap (λ (g : Graph). node_at g id) whole ∙ get_or-set_same middle id truth stuck here

      at_other : (x : ℕ) → x ≢ id → node_at after x ≡ node_at middle x
      at_other x differ = ap (λ (g : Graph). node_at g x) whole ∙ get_or-set_other middle id x truth stuck differ

      at_v : node_at middle v ≡ renaming other
      at_v = let free = free_there a b v other k args sides in get_or-set_same graph v (renaming other) stuck (there_unless_stuck graph v kind.Free free.0 free.1 refl)

      of_id : MayHave AnyValue program claims assigned (node_at after id).kind (node_at after id).args (assigned id)
      of_id =
          subst (λ (n : Node). MayHave AnyValue program claims assigned n.kind n.args (assigned id)) (sym at_id)
          (loosened program claims assigned (truth_kind program true) [] (assigned id)
          (constant_may program claims assigned (truth_kind program true) (assigned id) (truth_of (program_of program) true) refl
          (sides_equal program claims graph id assigned loose known a b is).2))

      of_v : v ≢ id → MayHave AnyValue program claims assigned (node_at after v).kind (node_at after v).args (assigned v)
      of_v differ =
          subst (λ (n : Node). MayHave AnyValue program claims assigned n.kind n.args (assigned v)) (sym (at_other v differ ∙ at_v))
          (subst (λ (u : Value). Below (assigned v) u) (variable_is a b v other k args is sides) (below_itself (assigned v)))

      each : (x : ℕ) → x < length after
          → ((x < length graph) × (node_at after x ≡ node_at graph x)) ⊎ MayHave AnyValue program claims assigned (node_at after x).kind (node_at after x).args (assigned x)
      each x below = elim (same_or_other x id) [
        | inl same ↦
            inr (subst (λ (y : ℕ). MayHave AnyValue program claims assigned (node_at after y).kind (node_at after y).args (assigned y)) (sym same) of_id)
        | inr differ ↦ elim (same_or_other x v) [
          | inl same ↦
              inr (subst (λ (y : ℕ). MayHave AnyValue program claims assigned (node_at after y).kind (node_at after y).args (assigned y)) (sym same)
              (of_v (λ e. differ (same ∙ e))))
          | inr apart ↦ inl (within x below, at_other x differ ∙ get_or-set_other graph v x (renaming other) stuck apart)
        ]
      ]

-- ---- values one after another

-- an assignment with further values from a place on
abbrev filling : Assignment → ℕ → List Value → Assignment
filling assigned from [] x = assigned x
filling assigned from (u ∷ us) x = if nat_eq from x then u else filling assigned (from + 1) us x

not_eq : (a b : ℕ) → a ≢ b → nat_eq a b ≡ false
not_eq a b other = by (nat_eq a b) refl
  where
    by : (t : Bool) → nat_eq a b ≡ t → t ≡ false
    by true same = absurd (other (eqb-true a b same))
    by false differ = refl

fill_low : (assigned : Assignment) (from : ℕ) (us : List Value) (x : ℕ) → x < from → filling assigned from us x ≡ assigned x
fill_low assigned from [] x low = refl
fill_low assigned from (u ∷ us) x low =
    ap (λ (t : Bool). if t then u else filling assigned (from + 1) us x) (not_eq from x (λ same. let no : ⊥ = omega (arith, same, low) in no))
    ∙ fill_low assigned (from + 1) us x (omega arith)

fill_past : (assigned : Assignment) (from : ℕ) (us : List Value) (x : ℕ) → from + length us ≤ x → filling assigned from us x ≡ assigned x
fill_past assigned from [] x after = refl
fill_past assigned from (u ∷ us) x after =
    ap (λ (t : Bool). if t then u else filling assigned (from + 1) us x) (not_eq from x (λ same. let no : ⊥ = omega (arith, same, after) in no))
    ∙ fill_past assigned (from + 1) us x (omega arith)

further : (from x : ℕ) → from ≤ x → from ≢ x → from + 1 ≤ x
further from x low other = elim (cases_lt from x) [
  | inl less ↦ omega arith
  | inr past ↦ let same : from ≡ x = omega arith in absurd (other same)
]

fill_each : (p : Value → Bool) (assigned : Assignment) (from : ℕ) (us : List Value) (x : ℕ) → list_all p us ≡ true → from ≤ x → x < from + length us
    → p (filling assigned from us x) ≡ true
fill_each p assigned from [] x all low below = let no : ⊥ = omega arith in absurd no
fill_each p assigned from (u ∷ us) x all low below =
    let parts = and_parts (p u) (list_all p us) all in
    by (nat_eq from x) refl parts.0
    (λ other. let later = further from x low other in let before : x < (from + 1) + length us = omega arith in fill_each p assigned (from + 1) us x parts.1 later before)
  where
    by : (t : Bool) → nat_eq from x ≡ t → p u ≡ true → (from ≢ x → p (filling assigned (from + 1) us x) ≡ true)
        → p (if t then u else filling assigned (from + 1) us x) ≡ true
    by true same first rest = first
    by false differ first rest = rest (λ e. true≢false (sym (eq-eqb from x e) ∙ differ))

-- assignments that agree from a place on
agree_from : (low high : Assignment) (from n : ℕ) → ((x : ℕ) → from ≤ x → low x ≡ high x) → values_at low (numbers from n) ≡ values_at high (numbers from n)
agree_from low high from zero same = refl
agree_from low high from (suc n) same =
    ap₂ value.MoreValues (same from (omega arith)) (agree_from low high (from + 1) n (λ x after. same x (omega arith)))

fill_values : (assigned : Assignment) (from : ℕ) (us : List Value) → values_at (filling assigned from us) (numbers from (length us)) ≡ values_of us
fill_values assigned from [] = refl
fill_values assigned from (u ∷ us) =
    ap₂ value.MoreValues (ap (λ (t : Bool). if t then u else filling assigned (from + 1) us from) (eq-eqb from from refl))
    (agree_from (filling assigned from (u ∷ us)) (filling assigned (from + 1) us) (from + 1) (length us)
    (λ x after. ap (λ (t : Bool). if t then u else filling assigned (from + 1) us x) (not_eq from x (λ same. let no : ⊥ = omega (arith, same, after) in no)))
    ∙ fill_values assigned (from + 1) us)

-- ---- what patterns match

exactly_is : (l : Lit) (u : Value) (bindings : Bindings) → matched (pattern_of (code.Exactly l)) u ≡ Some bindings → u ≡ value.Literal l
exactly_is l (value.Literal m) bindings is = by (same_literal l m) refl is
  where
    by : (b : Bool) → same_literal l m ≡ b → (if b then Some [] else None) ≡ Some bindings → value.Literal m ≡ value.Literal l
    by true same e = ap value.Literal (sym (literal_is l m same))
    by false differ e = let no : ⊥ = cc in absurd no
exactly_is l _ bindings is = let no : ⊥ = cc in absurd no

built_is : (c : ConId) (xs : List ℕ) (u : Value) (bindings : Bindings) → matched (pattern_of (code.Built c xs)) u ≡ Some bindings
    → (us : Values) × (u ≡ value.Constructed c us) × (all_matched (all_any xs) us ≡ Some bindings)
built_is c xs (value.Constructed d us) bindings is = by (same_constructor c d) refl is
  where
    by : (b : Bool) → same_constructor c d ≡ b → (if b then all_matched (all_any xs) us else None) ≡ Some bindings
        → (vs : Values) × (value.Constructed d us ≡ value.Constructed c vs) × (all_matched (all_any xs) vs ≡ Some bindings)
    by true same e = (us, ap (λ (x : ConId). value.Constructed x us) (sym (same_is c d same)), e)
    by false differ e = let no : ⊥ = cc in absurd no
built_is c xs _ bindings is = let no : ⊥ = cc in absurd no

-- variables match as many values as they are
matched_as_list : (xs : List ℕ) (us : Values) (bindings : Bindings) → all_matched (all_any xs) us ≡ Some bindings
    → (vs : List Value) × (us ≡ values_of vs) × (length vs ≡ length xs)
matched_as_list [] value.NoValue bindings is = ([], refl, refl)
matched_as_list [] (value.MoreValues u us) bindings is = let no : ⊥ = cc in absurd no
matched_as_list (x ∷ xs) value.NoValue bindings is = let no : ⊥ = cc in absurd no
matched_as_list (x ∷ xs) (value.MoreValues u us) bindings is = by (all_matched (all_any xs) us) (matched_as_list xs us) is
  where
    by : (found : Option Bindings) → ((b : Bindings) → found ≡ Some b → (vs : List Value) × (us ≡ values_of vs) × (length vs ≡ length xs))
        → both (Some ((x, u) ∷ [])) found ≡ Some bindings → (vs : List Value) × (value.MoreValues u us ≡ values_of vs) × (length vs ≡ length (x ∷ xs))
    by None rest e = let no : ⊥ = cc in absurd no
    by (Some b) rest e = let found = rest b refl in (u ∷ found.0, ap (value.MoreValues u) found.1, ap suc found.2)

-- ---- narrowing

abbrev is_fitting : Program → Value → Bool
is_fitting program u = is_total_data u && is_of program u

all_fitting : (program : Program) (us : List Value) → are_total (values_of us) ≡ true → are_data (values_of us) ≡ true → are_of program (values_of us) ≡ true
    → list_all (is_fitting program) us ≡ true
all_fitting program [] total data_is of = refl
all_fitting program (u ∷ us) total data_is of =
    let first = and_parts (is_total u) (are_total (values_of us)) total in
    let second = and_parts (is_data u) (are_data (values_of us)) data_is in
    let third = and_parts (is_of program u) (are_of program (values_of us)) of in
    and_from (is_fitting program u) (list_all (is_fitting program) us)
    (and_from (is_total_data u) (is_of program u) (and_from (is_total u) (is_data u) first.0 second.0) third.0)
    (all_fitting program us first.1 second.1 third.1)

at_among : (branches : List Branch) (k : ℕ) (branch : Branch) → slice_get branches k ≡ Some branch → Among branch branches
at_among [] k branch is = let no : ⊥ = cc in absurd no
at_among (first ∷ branches) zero branch is = let same : first ≡ branch = cc in inl same
at_among (first ∷ branches) (suc k) branch is = inr (at_among branches k branch is)

module _ (program : Code) (claims : List Claim) (graph : Graph) (assigned : Assignment) (loose : Loose program claims graph assigned) (past : NothingPast graph assigned)
    (v : ℕ) (args : List ℕ) (free : node_at graph v ≡ node kind.Free args) where
  here : v < length graph
  here = there_unless_stuck graph v kind.Free args free refl

  total_data : is_total_data (assigned v) ≡ true
  total_data = loose_at program claims graph assigned v kind.Free args loose free refl

  to_literal : (l : Lit) → assigned v ≡ value.Literal l → Kept program claims graph (put graph v (alone (kind.Lit l))) assigned
  to_literal l is =
      kept_by_put program claims graph (put graph v (alone (kind.Lit l))) v (alone (kind.Lit l)) assigned here refl loose past
      (inr (value.Literal l, refl, subst (λ (u : Value). Below u (value.Literal l)) (sym is) (below_itself (value.Literal l))))

  pub to_constructor : (c : ConId) (us : List Value) → assigned v ≡ value.Constructed c (values_of us) → Kept program claims graph (imitating graph v c (length us)) assigned
  to_constructor c us is = (
    later,
    continues_where program claims graph after assigned later loose past all suffix (λ x below. fill_low assigned (length graph) us x below) each,
  )
    where
      n : ℕ
      n = length us

      after : Graph
      after = imitating graph v c n

      later : Assignment
      later = filling assigned (length graph) us

      P : Program
      P = program_of program

      as_long : length after ≡ length graph + n
      as_long = length_imitating graph v c n

      fitting : list_all (is_fitting P) us ≡ true
      fitting =
          let whole : is_total_data (value.Constructed c (values_of us)) ≡ true = subst (λ (u : Value). is_total_data u ≡ true) is total_data in
          let parts = and_parts (are_total (values_of us)) (are_data (values_of us)) whole in
          let of : is_of P (value.Constructed c (values_of us)) ≡ true = subst (λ (u : Value). is_of P u ≡ true) is (loose.of_program v) in
          all_fitting P us parts.0 parts.1 (and_parts (takes (arity_in P (head.Con c)) (count (values_of us))) (are_of P (values_of us)) of).1

      new_fits : (x : ℕ) → length graph ≤ x → x < length graph + n → is_fitting P (later x) ≡ true
      new_fits x low below = fill_each (is_fitting P) assigned (length graph) us x fitting low below

      all : (x : ℕ) → IsTrue (is_of P (later x))
      all x = elim (cases_lt x (length graph)) [
        | inl old ↦ subst (λ (u : Value). IsTrue (is_of P u)) (sym (fill_low assigned (length graph) us x old)) (loose.of_program x)
        | inr low ↦ elim (cases_lt x (length graph + n)) [
          | inl below ↦ (and_parts (is_total_data (later x)) (is_of P (later x)) (new_fits x low below)).1
          | inr gone ↦ subst (λ (u : Value). IsTrue (is_of P u)) (sym (fill_past assigned (length graph) us x gone)) (loose.of_program x)
        ]
      ]

      suffix : NothingPast after later
      suffix x gone =
          let long = as_long in
          let far : length graph + n ≤ x = omega arith in
          fill_past assigned (length graph) us x far ∙ past x (omega arith)

      of_v : MayHave AnyValue program claims later (node_at after v).kind (node_at after v).args (later v)
      of_v =
          let most = value.Constructed c (values_of us) in
          let fresh = numbers (length graph) n in
          subst (λ (m : Node). MayHave AnyValue program claims later m.kind m.args (later v)) (sym (imitating_there graph v c n here))
          (loosened program claims later (kind.Cons c) fresh (later v)
          (subst (λ (u : Value). MayHave NoValue program claims later (kind.Cons c) fresh u) (sym (fill_low assigned (length graph) us v here ∙ is))
          (made_may program claims later (kind.Cons c) fresh most (ap (λ (vs : Values). Some (value.Constructed c vs)) (fill_values assigned (length graph) us)))))

      of_new : (i : ℕ) → i < n → (x : ℕ) → length graph + i ≡ x → MayHave AnyValue program claims later (node_at after x).kind (node_at after x).args (later x)
      of_new i below x same =
          let there : node_at after x ≡ alone kind.Free = subst (λ (y : ℕ). node_at after y ≡ alone kind.Free) same (imitating_new graph v c n i here below) in
          subst (λ (m : Node). MayHave AnyValue program claims later m.kind m.args (later x)) (sym there)
          (and_parts (is_total_data (later x)) (is_of P (later x)) (new_fits x (omega (arith, same)) (omega (arith, same, below)))).0

      each : (x : ℕ) → x < length after
          → ((x < length graph) × (node_at after x ≡ node_at graph x)) ⊎ MayHave AnyValue program claims later (node_at after x).kind (node_at after x).args (later x)
      each x below = elim (cases_lt x (length graph)) [
        | inl old ↦ elim (same_or_other x v) [
          | inl same ↦ inr (subst (λ (y : ℕ). MayHave AnyValue program claims later (node_at after y).kind (node_at after y).args (later y)) (sym same) of_v)
          | inr other ↦ inl (old, imitating_same graph v c n x old other)
        ]
        | inr low ↦
            let long = as_long in
            let i = x - length graph in
            let is_there : length graph + i ≡ x = omega arith in
            let less : i < n = omega arith in
            inr (of_new i less x is_there)
      ]

  -- the variable becomes what a pattern asks for that matches what it has
  to_pattern : (p : Shallow) (bindings : Bindings) → matched (pattern_of p) (assigned v) ≡ Some bindings → Kept program claims graph (bound_to graph v p) assigned
  to_pattern (code.Exactly l) bindings is = to_literal l (exactly_is l (assigned v) bindings is)
  to_pattern (code.Built c xs) bindings is =
      let found = built_is c xs (assigned v) bindings is in
      let listed = matched_as_list xs found.0 bindings found.2 in
      subst (λ (m : ℕ). Kept program claims graph (imitating graph v c m) assigned) listed.2
      (to_constructor c listed.0 (found.1 ∙ ap (value.Constructed c) listed.1))

pub narrowing_kept : (program : Code) (claims : List Claim) (graph : Graph) (id scrutinee : ℕ) (scope : Scope) (branches : List Branch) (args : List ℕ) (assigned : Assignment)
    → Loose program claims graph assigned → NothingPast graph assigned → is_known (assigned id) ≡ true → CaseAt program graph id Flex scrutinee scope branches
    → head_at graph scrutinee ≡ node kind.Free args → SomeRow program claims graph id assigned
narrowing_kept program claims graph id scrutinee scope branches args assigned loose past known at head_is =
    let v = head_of graph scrutinee in
    let found = branches_on program claims graph id Flex scrutinee scope branches (assigned v) assigned loose known at
    (head_above program claims graph assigned loose (length graph) scrutinee) in
    let place = alternative_is (term_of program) branches found.selects.choice found.selects.pattern found.term found.selects.at in
    let branch = place.0 in
    let matches : matched (pattern_of branch.pattern) (assigned v) ≡ Some found.bindings =
    subst (λ (p : Pattern). matched p (assigned v) ≡ Some found.bindings) place.2 found.selects.matches in
    record {
      after = bound_to graph v branch.pattern;
      step = row.narrowing scrutinee scope branches args branch at head_is (at_among branches found.selects.choice branch place.1) refl;
      kept = to_pattern program claims graph assigned loose past v args head_is branch.pattern found.bindings matches;
    }
