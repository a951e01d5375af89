-- Narrowing: a free variable had what a pattern asks for.
use Rattle.std.proofs.Common.{◌≡◌, ℕ, suc, ◌+◌, inl, inr, true, List, [], ◌∷◌, Some, refl, ap, sym, ◌∙◌, subst, length, slice_get, arith, length-set, get_or-set_same, get_or-set_other}
use Rattle.std.proofs.lemmas.Bool.{and_from, and_parts}
use Rattle.cu_calculus.specs.declared.ConId.{ConId}
use Rattle.cu_calculus.specs.declared.Head.TheVariants as head
use Rattle.cu_calculus.specs.declared.Lit.{Lit}
use Rattle.cu_calculus.specs.declared.Mode.TheVariants.{Flex}
use Rattle.cu_calculus.specs.Code as code
use Rattle.cu_calculus.specs.Code.{Branch, Code, Shallow, arity_of}
use Rattle.cu_calculus.specs.Gives.{Claim}
use Rattle.cu_calculus.specs.Literal.{is_literal}
use Rattle.cu_calculus.specs.Shape.{are_data, are_total, is_total_data, takes}
use Rattle.cu_calculus.specs.Valid.{is_linear}
use Rattle.cu_calculus.specs.Value as value
use Rattle.cu_calculus.specs.Value.{Value}
use Rattle.cu_calculus.specs.WellFormed.{fits_pattern, is_well_formed}
use Rattle.cu_machine.specs.declared.Kind.TheVariants as kind
use Rattle.cu_machine.specs.Among.{Among}
use Rattle.cu_machine.specs.Build.{Scope}
use Rattle.cu_machine.specs.Graph.{Graph, Node, alone, head_at, head_of, node_at, put, stuck}
use Rattle.cu_machine.specs.Rewrite.{bound_to}
use Rattle.cu_machine.specs.State.{numbers}
use Rattle.cu_machine.specs.Steps.{CaseAt, imitating, node}
use Rattle.cu_machine.specs.Validity.{has_arguments}
use Rattle.cu_laws.specs.Good.{Assignment, Good, MayHave, NoValue}
use Rattle.cu_laws.proofs.Binding.{Bound, Filled, all_total_data, before_binding, filled_head, good_everywhere, imitating_new, imitating_same, imitating_there, length_imitating, length_numbers}
use Rattle.cu_laws.proofs.CaseRows.{branch_fits}
use Rattle.cu_laws.proofs.Changed.{Sound, sound_as}
use Rattle.cu_laws.proofs.Heads.{values_at}
use Rattle.cu_laws.proofs.Raising.{there_unless_stuck}

among_at : (branches : List Branch) (branch : Branch) → Among branch branches → (k : ℕ) × (slice_get branches k ≡ Some branch)
among_at [] branch among = absurd among
among_at (first ∷ branches) branch (inl same) = (0, ap Some same)
among_at (first ∷ branches) branch (inr rest) = let found = among_at branches branch rest in (suc found.0, found.1)

-- a variable whose place is filled with total data
filled_sound : (program : Code) (claims : List Claim) (graph after : Graph) (v : ℕ) (new : Node) (most : Value) (later : Assignment) → Bound graph v v after new
    → Filled program claims after later v most → is_total_data most ≡ true → Sound program claims graph later
filled_sound program claims graph after v new most later bound fill total =
    let whole : is_total_data (fill.higher v) ≡ true = ap is_total_data fill.there ∙ total in
    sound_as program claims graph v kind.Free bound.args later fill.higher bound.free
    (before_binding program claims graph v v after new fill.higher bound fill.good whole) fill.rises whole

narrowed_to_literal : (program : Code) (claims : List Claim) (graph after : Graph) (v : ℕ) (args : List ℕ) (l : Lit) (later : Assignment) → node_at graph v ≡ node kind.Free args
    → is_literal l ≡ true → after ≡ put graph v (alone (kind.Lit l)) → Good program claims after later → Sound program claims graph later
narrowed_to_literal program claims graph after v args l later free fit after_is good =
    let here = there_unless_stuck graph v kind.Free args free refl in
    let bound : Bound graph v v after (alone (kind.Lit l)) = subst (λ (g : Graph). Bound graph v v g (alone (kind.Lit l))) (sym after_is) (record {
      args = args;
      free = free;
      here = here;
      longer = let as_long = length-set graph v (alone (kind.Lit l)) in omega arith;
      same = λ x below other apart. get_or-set_other graph v x (alone (kind.Lit l)) stuck other;
      there = get_or-set_same graph v (alone (kind.Lit l)) stuck here;
    }) in
    let longer = bound.longer in
    let fill = filled_head program claims after later v (kind.Lit l) [] (value.Literal l) (good_everywhere program claims after later good) (omega arith) bound.there
    (and_from (is_literal l) true fit refl) refl in
    filled_sound program claims graph after v (alone (kind.Lit l)) (value.Literal l) later bound fill refl

narrowed_to_constructor : (program : Code) (claims : List Claim) (graph after : Graph) (v : ℕ) (args : List ℕ) (c : ConId) (n : ℕ) (later : Assignment)
    → node_at graph v ≡ node kind.Free args → takes (arity_of program (head.Con c)) n ≡ true → after ≡ imitating graph v c n → Good program claims after later
    → Sound program claims graph later
narrowed_to_constructor program claims graph after v args c n later free fit after_is good =
    let here = there_unless_stuck graph v kind.Free args free refl in
    let fresh = numbers (length graph) n in
    let new = node (kind.Cons c) fresh in
    let as_long = length_imitating graph v c n in
    let bound : Bound graph v v (imitating graph v c n) new = record {
      args = args;
      free = free;
      here = here;
      longer = omega arith;
      same = λ x below other apart. imitating_same graph v c n x below other;
      there = imitating_there graph v c n here;
    } in
    let good_there : Good program claims (imitating graph v c n) later = subst (λ (g : Graph). Good program claims g later) after_is good in
    let most = value.Constructed c (values_at later fresh) in
    let whole : has_arguments program (kind.Cons c) (length fresh) ≡ true =
    subst (λ (m : ℕ). takes (arity_of program (head.Con c)) m ≡ true) (sym (length_numbers (length graph) n)) fit in
    let fill = filled_head program claims (imitating graph v c n) later v (kind.Cons c) fresh most (good_everywhere program claims (imitating graph v c n) later good_there)
    (omega arith) bound.there whole refl in
    let total = all_total_data later (length graph) n (λ i below.
    subst (λ (m : Node). MayHave NoValue program claims later m.kind m.args (later (length graph + i))) (imitating_new graph v c n i here below)
    (good_there.each (length graph + i) (omega arith))) in
    filled_sound program claims graph (imitating graph v c n) v new most later bound fill
    (and_from (are_total (values_at later fresh)) (are_data (values_at later fresh)) total.0 total.1)

pub narrowing_sound : (program : Code) (claims : List Claim) (graph after : Graph) (id scrutinee : ℕ) (scope : Scope) (branches : List Branch) (args : List ℕ) (branch : Branch)
    (later : Assignment) → is_well_formed program ≡ true → CaseAt program graph id Flex scrutinee scope branches → head_at graph scrutinee ≡ node kind.Free args
    → Among branch branches → after ≡ bound_to graph (head_of graph scrutinee) branch.pattern → Good program claims after later → Sound program claims graph later
narrowing_sound program claims graph after id scrutinee scope branches args branch later well at head_is among after_is good =
    let place = among_at branches branch among in
    let fitting = branch_fits program at.number Flex at.kept at.inner branches place.0 branch well at.code_is place.1 in
    by branch.pattern fitting.pattern after_is
  where
    by : (p : Shallow) → fits_pattern program p ≡ true → after ≡ bound_to graph (head_of graph scrutinee) p → Sound program claims graph later
    by (code.Exactly l) fit is = narrowed_to_literal program claims graph after (head_of graph scrutinee) args l later head_is fit is good
    by (code.Built c xs) fit is =
        narrowed_to_constructor program claims graph after (head_of graph scrutinee) args c (length xs) later head_is
        (and_parts (takes (arity_of program (head.Con c)) (length xs)) (is_linear xs) fit).0 is good
