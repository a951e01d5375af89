-- Equations of pairs, joined by `&`, say that both sides are one value and total data.
use Rattle.std.proofs.Common.{◌≡◌, ◌⊎◌, inl, inr, Bool, true, false, ◌&&◌, List, None, Some, refl, ap, ap₂, sym, ◌∙◌, subst, if◌then◌else◌}
use Rattle.std.proofs.lemmas.Bool.{and_from, and_parts}
use Rattle.cu_calculus.specs.declared.builtin.Primitive.TheVariants as prim
use Rattle.cu_calculus.specs.Answered.{same_value}
use Rattle.cu_calculus.specs.Below.{Below}
use Rattle.cu_calculus.specs.Builtin.{Answers, truth_of}
use Rattle.cu_calculus.specs.Code.{Code}
use Rattle.cu_calculus.specs.FlatProgram.{program_of}
use Rattle.cu_calculus.specs.Gives.{Claim}
use Rattle.cu_calculus.specs.Program.{Program}
use Rattle.cu_calculus.specs.Shape.{are_data, are_total, is_data, is_total, is_total_data}
use Rattle.cu_calculus.specs.Value as value
use Rattle.cu_calculus.specs.Value.{Value, Values}
use Rattle.cu_calculus.proofs.Answering.{answers_answered, value_is}
use Rattle.cu_calculus.proofs.BelowLaws.{below_trans}
use Rattle.cu_machine.specs.declared.Kind.TheVariants as kind
use Rattle.cu_laws.specs.Good.{Assignment, AtMost}
use Rattle.cu_laws.proofs.PairRows.{two}
use Rattle.cu_laws.proofs.Pairs.{Says}
use Rattle.cu_laws.proofs.Truth.{no_truth, under_bottom}

-- what a node is worth that equates two values: nothing, or at most True where they are one and
-- total data
abbrev pub OneEquates : Program → Value → Value → Value → Type 0
OneEquates program a b v = (v ≡ value.Bottom) ⊎ ((a ≡ b) × (is_total_data a ≡ true) × Below v (truth_of program true))

abbrev pub AllEquate : Program → Values → Values → Value → Type 0
AllEquate program us vs v =
    (v ≡ value.Bottom) ⊎ ((us ≡ vs) × (are_total us ≡ true) × (are_data us ≡ true) × Below v (truth_of program true))

unify_answers : (program : Program) (a b w : Value) → Answers program prim.Unify (two a b) w → (a ≡ b) × (is_total_data a ≡ true) × (w ≡ truth_of program true)
unify_answers program a b w answers = go (same_value a b) (is_total_data a) refl refl (answers_answered program prim.Unify (two a b) w answers)
  where
    go : (s t : Bool) → same_value a b ≡ s → is_total_data a ≡ t → (if s && t then Some (truth_of program true) else None) ≡ Some w
        → (a ≡ b) × (is_total_data a ≡ true) × (w ≡ truth_of program true)
    go true true same total e = let is : truth_of program true ≡ w = cc in (value_is a b same, total, sym is)
    go true false same total e = let no : ⊥ = cc in absurd no
    go false t same total e = let no : ⊥ = cc in absurd no

and_answers : (program : Program) (a b w : Value) → Answers program prim.And (two a b) w
    → (a ≡ truth_of program true) × (b ≡ truth_of program true) × (w ≡ truth_of program true)
and_answers program a b w answers =
    go (same_value a (truth_of program true)) (same_value b (truth_of program true)) refl refl (answers_answered program prim.And (two a b) w answers)
  where
    go : (s t : Bool) → same_value a (truth_of program true) ≡ s → same_value b (truth_of program true) ≡ t
        → (if s && t then Some (truth_of program true) else None) ≡ Some w → (a ≡ truth_of program true) × (b ≡ truth_of program true) × (w ≡ truth_of program true)
    go true true one other e =
        let is : truth_of program true ≡ w = cc in (value_is a (truth_of program true) one, value_is b (truth_of program true) other, sym is)
    go true false one other e = let no : ⊥ = cc in absurd no
    go false t one other e = let no : ⊥ = cc in absurd no

one_equates : (program : Program) (a b v : Value) → AtMost (Answers program prim.Unify (two a b)) v → OneEquates program a b v
one_equates program a b v (inl none) = inl none
one_equates program a b v (inr found) =
    let told = unify_answers program a b found.0 found.1 in inr (told.0, told.1, subst (λ (x : Value). Below v x) told.2 found.2)

last_equates : (program : Program) (a b v w : Value) → OneEquates program a b v → Below w v
    → AllEquate program (value.MoreValues a value.NoValue) (value.MoreValues b value.NoValue) w
last_equates program a b v w (inl none) low = inl (under_bottom w (subst (λ (x : Value). Below w x) none low))
last_equates program a b v w (inr told) low =
    let parts = and_parts (is_total a) (is_data a) told.1 in
    inr (
      ap (λ (x : Value). value.MoreValues x value.NoValue) told.0,
      and_from (is_total a) true parts.0 refl,
      and_from (is_data a) true parts.1 refl,
      below_trans w v (truth_of program true) low told.2,
    )

joint_equates : (program : Program) (a b : Value) (us vs : Values) (x y v : Value) → OneEquates program a b x → AllEquate program us vs y
    → AtMost (Answers program prim.And (two x y)) v → AllEquate program (value.MoreValues a us) (value.MoreValues b vs) v
joint_equates program a b us vs x y v one all (inl none) = inl none
joint_equates program a b us vs x y v one all (inr found) =
    let told = and_answers program x y found.0 found.1 in go told.0 told.1 (subst (λ (z : Value). Below v z) told.2 found.2) one all
  where
    go : x ≡ truth_of program true → y ≡ truth_of program true → Below v (truth_of program true) → OneEquates program a b x → AllEquate program us vs y
        → AllEquate program (value.MoreValues a us) (value.MoreValues b vs) v
    go first second low (inl none) all = absurd (no_truth program true (sym none ∙ first))
    go first second low (inr here) (inl none) = absurd (no_truth program true (sym none ∙ second))
    go first second low (inr here) (inr rest) =
        let parts = and_parts (is_total a) (is_data a) here.1 in
        inr (
          ap₂ value.MoreValues here.0 rest.0,
          and_from (is_total a) (are_total us) parts.0 rest.1,
          and_from (is_data a) (are_data us) parts.1 rest.2,
          low,
        )

pub equations_say : (program : Code) (claims : List Claim) (assigned : Assignment)
    → Says program claims assigned (kind.Prim prim.Unify) (kind.Prim prim.And) (OneEquates (program_of program)) (AllEquate (program_of program))
equations_say program claims assigned =
    let P = program_of program in
    record {
      one = λ a b v may. one_equates P (assigned a) (assigned b) v may;
      last = last_equates P;
      step = λ a b us vs i j v one all may. joint_equates P a b us vs (assigned i) (assigned j) v one all may;
      nothing = λ v low. inr (refl, refl, refl, low);
    }
