-- Operations on literals are worth what they answer.
use Rattle.std.proofs.Common.{◌≡◌, ℕ, inr, Bool, true, false, if◌then◌else◌, List, [], ◌∷◌, None, Some, refl, ap, ap₂, sym, ◌∙◌, subst, map, nat_eq, ℤ, pos}
use Rattle.std.specs.Prelude.{◌+ℤ◌, ◌-ℤ◌, ◌*ℤ◌, int_lt, int_le}
use Rattle.std.specs.Ordering.{int_eq}
use Rattle.cu_calculus.specs.declared.Lit.{Lit}
use Rattle.cu_calculus.specs.declared.Lit.TheVariants.{Char, Int}
use Rattle.cu_calculus.specs.declared.builtin.Primitive.{Primitive}
use Rattle.cu_calculus.specs.declared.builtin.Primitive.TheVariants as prim
use Rattle.cu_int.specs.Integers.{floor_quotient, floor_rest, is_integer}
use Rattle.cu_calculus.specs.Below.{AllBelow, Below}
use Rattle.cu_calculus.specs.Builtin as builtin
use Rattle.cu_calculus.specs.Builtin.{Answers, character, integer, literals, on_integers, on_literals, truth_of}
use Rattle.cu_calculus.specs.Code.{Code}
use Rattle.cu_calculus.specs.FlatProgram.{program_of}
use Rattle.cu_calculus.specs.Gives.{Claim}
use Rattle.cu_calculus.specs.Literal.{is_scalar}
use Rattle.cu_calculus.specs.Program.{Program}
use Rattle.cu_calculus.specs.Value as value
use Rattle.cu_calculus.specs.Value.{Value, Values}
use Rattle.cu_machine.specs.declared.Kind.{Kind}
use Rattle.cu_machine.specs.declared.Kind.TheVariants as kind
use Rattle.cu_machine.specs.Graph.{Graph, Node, alone, head_at, node_at, put}
use Rattle.cu_machine.specs.Rewrite.{truth_node}
use Rattle.cu_machine.specs.Steps.{kinds_of, node, number_of, telling, test_of}
use Rattle.cu_machine.specs.Validity.{NodesFit}
use Rattle.cu_machine.proofs.RowMoves.{some_is}
use Rattle.cu_laws.specs.Good.{Assignment, Good, RisesTo}
use Rattle.cu_laws.proofs.Changed.{Sound, apart_before, changed_by_put, new_may, sound_as}
use Rattle.cu_laws.proofs.Heads.{made, made_is_most, values_at}
use Rattle.cu_laws.proofs.Lifting.{lifted}
use Rattle.cu_laws.proofs.Raising.{GoodApart, rises_itself, rises_trans, there_unless_stuck}
use Rattle.cu_laws.proofs.Rising.{literals_above, values_rise}

-- ---- literals as arguments

-- a higher assignment, in which places have the values of literals, and another one what it had
pub record LiftedLiterals (program : Code) (claims : List Claim) (graph : Graph) (id : ℕ) (assigned : Assignment) (args : List ℕ) (ls : List Lit) : Type 0 where
  pub higher : Assignment
  pub good : GoodApart (nat_eq id) program claims graph higher
  pub rises : RisesTo assigned higher
  pub there : values_at higher args ≡ literals ls
  pub kept : higher id ≡ assigned id

pub node_by_kind : (n : Node) (k : Kind) → n.kind ≡ k → n ≡ node k n.args
node_by_kind n k same = ap (λ (x : Kind). node x n.args) same

first_kind : (k l : Kind) (ks ls : List Kind) → k ∷ ks ≡ l ∷ ls → k ≡ l
first_kind k l ks ls same = cc

other_kinds : (k l : Kind) (ks ls : List Kind) → k ∷ ks ≡ l ∷ ls → ks ≡ ls
other_kinds k l ks ls same = cc

pub lifted_literals : (program : Code) (claims : List Claim) (graph : Graph) (id : ℕ) (assigned : Assignment) (operation : Primitive) (all : List ℕ)
    → node_at graph id ≡ node (kind.Prim operation) all → NodesFit program graph → GoodApart (nat_eq id) program claims graph assigned → (args : List ℕ) (ls : List Lit)
    → kinds_of graph args ≡ map kind.Lit ls → LiftedLiterals program claims graph id assigned args ls
lifted_literals program claims graph id assigned operation all is fit apart [] [] kinds =
    record { higher = assigned; good = apart; rises = rises_itself assigned; there = refl; kept = refl }
lifted_literals program claims graph id assigned operation all is fit apart [] (l ∷ ls) kinds = let no : ⊥ = cc in absurd no
lifted_literals program claims graph id assigned operation all is fit apart (arg ∷ args) [] kinds = let no : ⊥ = cc in absurd no
lifted_literals program claims graph id assigned operation all is fit apart (arg ∷ args) (l ∷ ls) kinds =
    let here : (head_at graph arg).kind ≡ kind.Lit l = first_kind (head_at graph arg).kind (kind.Lit l) (kinds_of graph args) (map kind.Lit ls) kinds in
    let others : kinds_of graph args ≡ map kind.Lit ls = other_kinds (head_at graph arg).kind (kind.Lit l) (kinds_of graph args) (map kind.Lit ls) kinds in
    let rest = lifted_literals program claims graph id assigned operation all is fit apart args ls others in
    let head_is : head_at graph arg ≡ node (kind.Lit l) (head_at graph arg).args = node_by_kind (head_at graph arg) (kind.Lit l) here in
    let lift = lifted program claims graph id rest.higher (kind.Prim operation) all is refl fit rest.good arg (kind.Lit l) (head_at graph arg).args (value.Literal l) head_is refl in
    let same : values_at lift.higher args ≡ literals ls =
    literals_above ls (values_at lift.higher args)
    (subst (λ (us : Values). AllBelow us (values_at lift.higher args)) rest.there (values_rise rest.higher lift.higher args lift.rises)) in
    record {
      higher = lift.higher;
      good = lift.good;
      rises = rises_trans assigned rest.higher lift.higher rest.rises lift.rises;
      there = ap₂ value.MoreValues lift.there same;
      kept = lift.kept ∙ rest.kept;
    }

-- an operation on literals, in whose place stands its answer
pub answer_sound : (program : Code) (claims : List Claim) (graph after : Graph) (id : ℕ) (operation : Primitive) (args : List ℕ) (ls : List Lit) (h : Kind) (parts : List ℕ)
    (answer : Value) (later : Assignment) → NodesFit program graph → node_at graph id ≡ node (kind.Prim operation) args → kinds_of graph args ≡ map kind.Lit ls
    → on_literals (program_of program) operation ls ≡ Some answer → after ≡ put graph id (node h parts) → made h (values_at later parts) ≡ Some answer
    → Good program claims after later → Sound program claims graph later
answer_sound program claims graph after id operation args ls h parts answer later fit is kinds answers after_is made_is good =
    let here = there_unless_stuck graph id (kind.Prim operation) args is refl in
    let changed = changed_by_put graph id after (node h parts) here after_is in
    let apart = apart_before program claims graph id after (node h parts) later changed good in
    let lift = lifted_literals program claims graph id later operation args is fit apart args ls kinds in
    let low : Below (later id) answer = made_is_most program claims later h parts (later id) answer (new_may program claims graph id after (node h parts) later changed good) made_is in
    sound_as program claims graph id (kind.Prim operation) args later lift.higher is lift.good lift.rises
    (inr (
      answer,
      builtin.of_literals operation ls (values_at lift.higher args) answer lift.there answers,
      subst (λ (x : Value). Below x answer) (sym lift.kept) low,
    ))

-- ---- numbers

some_integer : (m n : ℤ) → Some m ≡ Some n → is_integer n ≡ true → integer m ≡ Some (value.Literal (Int n))
some_integer m n same fit = ap integer (some_is m n same) ∙ ap (λ (b : Bool). if b then Some (value.Literal (Int n)) else None) fit

divided : (b : Bool) (m n : ℤ) → (if b then None else Some m) ≡ Some n → is_integer n ≡ true → (if b then None else integer m) ≡ Some (value.Literal (Int n))
divided true m n same fit = let no : ⊥ = cc in absurd no
divided false m n same fit = some_integer m n same fit

pub number_answers : (program : Program) (operation : Primitive) (m n result : ℤ) → number_of operation m n ≡ Some result → is_integer result ≡ true
    → on_integers program operation m n ≡ Some (value.Literal (Int result))
number_answers program prim.Add m n result is fit = some_integer (m +ℤ n) result is fit
number_answers program prim.Sub m n result is fit = some_integer (m -ℤ n) result is fit
number_answers program prim.Mul m n result is fit = some_integer (m *ℤ n) result is fit
number_answers program prim.Div m n result is fit = divided (int_eq n (pos 0)) (floor_quotient m n) result is fit
number_answers program prim.Mod m n result is fit = divided (int_eq n (pos 0)) (floor_rest m n) result is fit
number_answers program _ m n result is fit = let no : ⊥ = cc in absurd no

pub number_sound : (program : Code) (claims : List Claim) (graph after : Graph) (id : ℕ) (operation : Primitive) (args : List ℕ) (m n result : ℤ) (later : Assignment)
    → NodesFit program graph → node_at graph id ≡ node (kind.Prim operation) args → kinds_of graph args ≡ kind.Lit (Int m) ∷ kind.Lit (Int n) ∷ []
    → number_of operation m n ≡ Some result → is_integer result ≡ true → after ≡ put graph id (alone (kind.Lit (Int result)))
    → Good program claims after later → Sound program claims graph later
number_sound program claims graph after id operation args m n result later fit is kinds result_is whole after_is good =
    answer_sound program claims graph after id operation args (Int m ∷ Int n ∷ []) (kind.Lit (Int result)) [] (value.Literal (Int result)) later fit is kinds
    (number_answers (program_of program) operation m n result result_is whole) after_is refl good

-- ---- comparisons of numbers

some_truth : (program : Program) (a b : Bool) → Some a ≡ Some b → Some (truth_of program a) ≡ Some (truth_of program b)
some_truth program a b same = ap (λ (x : Bool). Some (truth_of program x)) (some_is a b same)

pub test_answers : (program : Program) (operation : Primitive) (m n : ℤ) (answer : Bool) → test_of operation m n ≡ Some answer
    → on_integers program operation m n ≡ Some (truth_of program answer)
test_answers program prim.Less m n answer is = some_truth program (int_lt m n) answer is
test_answers program prim.AtMost m n answer is = some_truth program (int_le m n) answer is
test_answers program prim.Greater m n answer is = some_truth program (int_lt n m) answer is
test_answers program prim.AtLeast m n answer is = some_truth program (int_le n m) answer is
test_answers program _ m n answer is = let no : ⊥ = cc in absurd no

-- True and False as nodes
abbrev pub truth_kind : Code → Bool → Kind
truth_kind program true = kind.Cons program.special.truth
truth_kind program false = kind.Cons program.special.falsity

pub truth_is_node : (program : Code) (answer : Bool) → truth_node program.special answer ≡ node (truth_kind program answer) []
truth_is_node program true = refl
truth_is_node program false = refl

pub truth_made : (program : Code) (answer : Bool) → made (truth_kind program answer) value.NoValue ≡ Some (truth_of (program_of program) answer)
truth_made program true = refl
truth_made program false = refl

pub test_sound : (program : Code) (claims : List Claim) (graph after : Graph) (id : ℕ) (operation : Primitive) (args : List ℕ) (m n : ℤ) (answer : Bool) (later : Assignment)
    → NodesFit program graph → node_at graph id ≡ node (kind.Prim operation) args → kinds_of graph args ≡ kind.Lit (Int m) ∷ kind.Lit (Int n) ∷ []
    → test_of operation m n ≡ Some answer → after ≡ telling program graph id answer → Good program claims after later → Sound program claims graph later
test_sound program claims graph after id operation args m n answer later fit is kinds answer_is after_is good =
    answer_sound program claims graph after id operation args (Int m ∷ Int n ∷ []) (truth_kind program answer) [] (truth_of (program_of program) answer) later fit is kinds
    (test_answers (program_of program) operation m n answer answer_is) (after_is ∙ ap (put graph id) (truth_is_node program answer)) (truth_made program answer) good

-- ---- characters

pub code_point_sound : (program : Code) (claims : List Claim) (graph after : Graph) (id : ℕ) (args : List ℕ) (c : ℕ) (later : Assignment) → NodesFit program graph
    → node_at graph id ≡ node (kind.Prim prim.Ord) args → kinds_of graph args ≡ kind.Lit (Char c) ∷ [] → after ≡ put graph id (alone (kind.Lit (Int (pos c))))
    → Good program claims after later → Sound program claims graph later
code_point_sound program claims graph after id args c later fit is kinds after_is good =
    answer_sound program claims graph after id prim.Ord args (Char c ∷ []) (kind.Lit (Int (pos c))) [] (value.Literal (Int (pos c))) later fit is kinds refl after_is refl good

pub character_sound : (program : Code) (claims : List Claim) (graph after : Graph) (id : ℕ) (args : List ℕ) (c : ℕ) (later : Assignment) → NodesFit program graph
    → node_at graph id ≡ node (kind.Prim prim.Chr) args → kinds_of graph args ≡ kind.Lit (Int (pos c)) ∷ [] → is_scalar c ≡ true
    → after ≡ put graph id (alone (kind.Lit (Char c))) → Good program claims after later → Sound program claims graph later
character_sound program claims graph after id args c later fit is kinds scalar after_is good =
    answer_sound program claims graph after id prim.Chr args (Int (pos c) ∷ []) (kind.Lit (Char c)) [] (value.Literal (Char c)) later fit is kinds
    (ap (λ (b : Bool). if b then Some (value.Literal (Char c)) else None) scalar) after_is refl good
