-- What an operation has, its answer has that stands in its place; and without an answer it has
-- nothing.
use Rattle.std.proofs.Common.{◌≡◌, ℕ, inl, inr, Bool, true, false, ◌&&◌, ◌||◌, if◌then◌else◌, List, [], ◌∷◌, Option, None, Some, refl, ap, ap₂, sym, ◌∙◌, subst, map, option_map, true≢false, ℤ, pos, negsuc}
use Rattle.std.specs.List.{list_all}
use Rattle.std.specs.Ordering.{int_eq}
use Rattle.std.proofs.lemmas.Bool.{and_from, and_parts}
use Rattle.cu_calculus.specs.declared.ConId.{ConId}
use Rattle.cu_calculus.specs.declared.Lit.{Lit}
use Rattle.cu_calculus.specs.declared.Lit.TheVariants.{Char, Int}
use Rattle.cu_calculus.specs.declared.builtin.Primitive.{Primitive}
use Rattle.cu_calculus.specs.declared.builtin.Primitive.TheVariants as prim
use Rattle.cu_int.specs.Integers.{is_integer}
use Rattle.cu_calculus.specs.Answered.{answered}
use Rattle.cu_calculus.specs.Below as below
use Rattle.cu_calculus.specs.Below.{AllBelow, Below}
use Rattle.cu_calculus.specs.Builtin as builtin
use Rattle.cu_calculus.specs.Builtin.{Answers, Compares, character, literals, on_integers, on_literals, truth_of}
use Rattle.cu_calculus.specs.Code.{Code}
use Rattle.cu_calculus.specs.Compared.{compared}
use Rattle.cu_calculus.specs.FlatProgram.{program_of}
use Rattle.cu_calculus.specs.Gives as gives
use Rattle.cu_calculus.specs.Gives.{Claim}
use Rattle.cu_calculus.specs.Literal.{is_scalar, same_literal}
use Rattle.cu_calculus.specs.Match.{same_constructor}
use Rattle.cu_calculus.specs.Program.{Program}
use Rattle.cu_calculus.specs.Shape.{is_data, is_total, is_total_data}
use Rattle.cu_calculus.specs.Value as value
use Rattle.cu_calculus.specs.Value.{Value, Values}
use Rattle.cu_calculus.specs.WellFormed.{is_well_formed}
use Rattle.cu_calculus.proofs.Answering.{answers_answered}
use Rattle.cu_calculus.proofs.Choosing.{literal_itself}
use Rattle.cu_calculus.proofs.Comparing.{same_itself}
use Rattle.cu_machine.specs.declared.Kind.{Kind}
use Rattle.cu_machine.specs.declared.Kind.TheVariants as kind
use Rattle.cu_machine.specs.Graph.{Graph, alone, head_at, node_at, put}
use Rattle.cu_machine.specs.Rewrite.{is_true}
use Rattle.cu_machine.specs.Steps.{are_mixed, are_operands, divides, is_on_integers, is_on_literals, is_partial, kinds_of, node, number_of, telling, test_of}
use Rattle.cu_machine.specs.Validity.{NodesFit}
use Rattle.cu_machine.proofs.Frames.{either}
use Rattle.cu_machine.proofs.NeedPlaces.{has_bound_head, is_bound}
use Rattle.cu_machine.proofs.RowMoves.{divides_on, if_false, if_true, some_is}
use Rattle.cu_laws.specs.Continues.{NothingPast}
use Rattle.cu_laws.specs.Good.{Assignment, Loose, MayHave, NoValue, Worth}
use Rattle.cu_laws.proofs.Continuing.{Kept, kept_by_put}
use Rattle.cu_laws.proofs.LooseNodes.{head_most, loose_at, loosened}
use Rattle.cu_laws.proofs.Heads.{made, values_at}
use Rattle.cu_laws.proofs.Known.{is_known, worth_of}
use Rattle.cu_laws.proofs.LiteralRows.{node_by_kind, number_answers, test_answers, truth_is_node, truth_kind, truth_made}
use Rattle.cu_laws.proofs.NeededValues.{is_settled, is_truth}
use Rattle.cu_laws.proofs.Raising.{there_unless_stuck}
use Rattle.cu_laws.proofs.Rising.{answers_rise, total_above}
use Rattle.cu_laws.proofs.Truth.{true_head}

-- ---- operations on known heads

-- a head without arguments may have at most the value that it is
pub constant_may : (program : Code) (claims : List Claim) (assigned : Assignment) (k : Kind) (v most : Value) → made k value.NoValue ≡ Some most → Below v most
    → MayHave NoValue program claims assigned k [] v
constant_may program claims assigned (kind.Cons c) v most is low =
    let same : value.Constructed c value.NoValue ≡ most = cc in
    inr (value.Constructed c value.NoValue, applied_constant c, subst (λ (x : Value). Below v x) (sym same) low)
  where
    applied_constant : (c : ConId) → Worth program claims (kind.Cons c) [] (value.Constructed c value.NoValue)
    applied_constant c = gives.constructed c value.NoValue
constant_may program claims assigned (kind.Lit l) v most is low =
    let same : value.Literal l ≡ most = cc in inr (value.Literal l, refl, subst (λ (x : Value). Below v x) (sym same) low)
constant_may program claims assigned (kind.Part h) v most is low =
    let same : value.Partial h value.NoValue ≡ most = cc in inr (value.Partial h value.NoValue, refl, subst (λ (x : Value). Below v x) (sym same) low)
constant_may program claims assigned _ v most is low = let no : ⊥ = cc in absurd no

module _ (program : Code) (claims : List Claim) (graph : Graph) (id : ℕ) (operation : Primitive) (args : List ℕ) (assigned : Assignment)
    (loose : Loose program claims graph assigned) (known : is_known (assigned id) ≡ true) (is : node_at graph id ≡ node (kind.Prim operation) args) where
  -- what the operation answers on the values of its arguments
  pub operation_answers : (w : Value) × Answers (program_of program) operation (values_at assigned args) w × Below (assigned id) w
  operation_answers =
      worth_of (Worth program claims (kind.Prim operation) (map assigned args)) (assigned id) known
      (loose_at program claims graph assigned id (kind.Prim operation) args loose is refl)

  -- the operation answers on values that are above those of its arguments
  pub answers_above : (us : Values) → AllBelow (values_at assigned args) us
      → (w : Value) × (answered (program_of program) operation us ≡ Some w) × Below (assigned id) w
  answers_above us up =
      let found = operation_answers in (
        found.0,
        answers_answered (program_of program) operation us found.0 (answers_rise (program_of program) operation (values_at assigned args) us found.0 found.1 up),
        found.2,
      )

  -- the answer stands in the place of the operation
  pub answer_kept : (after : Graph) (us : Values) (k : Kind) (answer : Value) → NothingPast graph assigned → AllBelow (values_at assigned args) us
      → Answers (program_of program) operation us answer → after ≡ put graph id (alone k) → made k value.NoValue ≡ Some answer → Kept program claims graph after assigned
  answer_kept after us k answer past up answers after_is made_is =
      let found = answers_above us up in
      let same : found.0 ≡ answer = some_is found.0 answer (sym found.1 ∙ answers_answered (program_of program) operation us answer answers) in
      kept_by_put program claims graph after id (alone k) assigned (there_unless_stuck graph id (kind.Prim operation) args is refl) after_is loose past
      (loosened program claims assigned k [] (assigned id)
      (constant_may program claims assigned k (assigned id) answer made_is (subst (λ (x : Value). Below (assigned id) x) same found.2)))

  pub unanswered : (us : Values) → AllBelow (values_at assigned args) us → answered (program_of program) operation us ≡ None → ⊥
  unanswered us up none = let found = answers_above us up in let some = found.1 in cc

-- ---- literals as arguments

first_kind : (k l : Kind) (ks ls : List Kind) → k ∷ ks ≡ l ∷ ls → k ≡ l
first_kind k l ks ls same = cc

other_kinds : (k l : Kind) (ks ls : List Kind) → k ∷ ks ≡ l ∷ ls → ks ≡ ls
other_kinds k l ks ls same = cc

pub literals_most : (program : Code) (claims : List Claim) (graph : Graph) (assigned : Assignment) → Loose program claims graph assigned → (args : List ℕ) (ls : List Lit)
    → kinds_of graph args ≡ map kind.Lit ls → AllBelow (values_at assigned args) (literals ls)
literals_most program claims graph assigned loose [] [] kinds = below.none
literals_most program claims graph assigned loose [] (l ∷ ls) kinds = let no : ⊥ = cc in absurd no
literals_most program claims graph assigned loose (arg ∷ args) [] kinds = let no : ⊥ = cc in absurd no
literals_most program claims graph assigned loose (arg ∷ args) (l ∷ ls) kinds =
    let here : (head_at graph arg).kind ≡ kind.Lit l = first_kind (head_at graph arg).kind (kind.Lit l) (kinds_of graph args) (map kind.Lit ls) kinds in
    let others : kinds_of graph args ≡ map kind.Lit ls = other_kinds (head_at graph arg).kind (kind.Lit l) (kinds_of graph args) (map kind.Lit ls) kinds in
    below.more (assigned arg) (value.Literal l) (values_at assigned args) (literals ls)
    (head_most program claims graph assigned arg (kind.Lit l) (head_at graph arg).args (value.Literal l) loose (node_by_kind (head_at graph arg) (kind.Lit l) here) refl)
    (literals_most program claims graph assigned loose args ls others)

-- ---- operations on literals alone

-- what an operation on literals answers
record ByLiterals (program : Program) (operation : Primitive) (us : Values) (w : Value) : Type 0 where
  literals_are : List Lit
  is : us ≡ literals literals_are
  answers : on_literals program operation literals_are ≡ Some w

by_literals_alone : (program : Program) (operation : Primitive) (us : Values) (w : Value) → Answers program operation us w → is_on_literals operation ≡ true
    → ByLiterals program operation us w
by_literals_alone program operation us w (builtin.of_literals _ ls _ _ e f) on = record { literals_are = ls; is = e; answers = f }
by_literals_alone program _ _ w (builtin.equal a b _ answer c e) on = absurd (true≢false (sym on))
by_literals_alone program _ _ w (builtin.unified a b _ same total e) on = absurd (true≢false (sym on))
by_literals_alone program _ _ w (builtin.conjoined a b _ f g e) on = absurd (true≢false (sym on))

literals_same : (ls ms : List Lit) → literals ls ≡ literals ms → ls ≡ ms
literals_same [] [] same = refl
literals_same [] (m ∷ ms) same = let no : ⊥ = cc in absurd no
literals_same (l ∷ ls) [] same = let no : ⊥ = cc in absurd no
literals_same (l ∷ ls) (m ∷ ms) same =
    let first : l ≡ m = cc in
    let rest : literals ls ≡ literals ms = cc in
    ap₂ (λ x xs. x ∷ xs) first (literals_same ls ms rest)

none_of_some : (o : Option Value) (w : Value) → o ≡ None → o ≡ Some w → ⊥
none_of_some o w none some = cc

divided_none : (program : Program) (operation : Primitive) (m n : ℤ) → divides operation ≡ true → int_eq n (pos 0) ≡ true
    → on_literals program operation (Int m ∷ Int n ∷ []) ≡ None
divided_none program prim.Div m n by zero_divisor = if_true (int_eq n (pos 0)) None _ zero_divisor
divided_none program prim.Mod m n by zero_divisor = if_true (int_eq n (pos 0)) None _ zero_divisor
divided_none program _ m n by zero_divisor = absurd (true≢false (sym by))

character_none : (n : ℤ) → ((c : ℕ) → n ≡ pos c → is_scalar c ≡ false) → character n ≡ None
character_none (pos c) none = if_false (is_scalar c) (Some (value.Literal (Char c))) None (none c refl)
character_none (negsuc c) none = refl

integers_answer : (program : Program) (operation : Primitive) (m n : ℤ) (w : Value) → on_integers program operation m n ≡ Some w → is_on_integers operation ≡ true
integers_answer program prim.Add m n w is = refl
integers_answer program prim.Sub m n w is = refl
integers_answer program prim.Mul m n w is = refl
integers_answer program prim.Div m n w is = refl
integers_answer program prim.Mod m n w is = refl
integers_answer program prim.Less m n w is = refl
integers_answer program prim.AtMost m n w is = refl
integers_answer program prim.Greater m n w is = refl
integers_answer program prim.AtLeast m n w is = refl
integers_answer program _ m n w is = let no : ⊥ = cc in absurd no

operands_answer : (program : Program) (operation : Primitive) (ls : List Lit) (w : Value) → on_literals program operation ls ≡ Some w
    → are_operands operation (map kind.Lit ls) ≡ true
operands_answer program operation (Int m ∷ Int n ∷ []) w is = integers_answer program operation m n w is
operands_answer program prim.Ord (Char c ∷ []) w is = refl
operands_answer program prim.Chr (Int n ∷ []) w is = refl
operands_answer program _ _ w is = let no : ⊥ = cc in absurd no

-- a bound head of what is worth a literal is that literal
bound_literal : (program : Code) (claims : List Claim) (graph : Graph) (assigned : Assignment) → Loose program claims graph assigned → (arg : ℕ) (l : Lit)
    → assigned arg ≡ value.Literal l → (k : Kind) → (head_at graph arg).kind ≡ k → is_bound k ≡ true → k ≡ kind.Lit l
bound_literal program claims graph assigned loose arg l worth (kind.Cons c) kind_is bound =
    let us = values_at assigned (head_at graph arg).args in
    let up = head_most program claims graph assigned arg (kind.Cons c) (head_at graph arg).args (value.Constructed c us) loose
    (node_by_kind (head_at graph arg) (kind.Cons c) kind_is) refl in
    let same : value.Literal l ≡ value.Constructed c us =
    total_above (value.Literal l) (value.Constructed c us) (subst (λ (x : Value). Below x (value.Constructed c us)) worth up) refl in
    let no : ⊥ = cc in
    absurd no
bound_literal program claims graph assigned loose arg l worth (kind.Lit m) kind_is bound =
    let up = head_most program claims graph assigned arg (kind.Lit m) (head_at graph arg).args (value.Literal m) loose
    (node_by_kind (head_at graph arg) (kind.Lit m) kind_is) refl in
    let same : value.Literal l ≡ value.Literal m = total_above (value.Literal l) (value.Literal m) (subst (λ (x : Value). Below x (value.Literal m)) worth up) refl in
    let literal : l ≡ m = cc in
    ap kind.Lit (sym literal)
bound_literal program claims graph assigned loose arg l worth (kind.Part h) kind_is bound =
    let us = values_at assigned (head_at graph arg).args in
    let up = head_most program claims graph assigned arg (kind.Part h) (head_at graph arg).args (value.Partial h us) loose
    (node_by_kind (head_at graph arg) (kind.Part h) kind_is) refl in
    let same : value.Literal l ≡ value.Partial h us =
    total_above (value.Literal l) (value.Partial h us) (subst (λ (x : Value). Below x (value.Partial h us)) worth up) refl in
    let no : ⊥ = cc in
    absurd no
bound_literal program claims graph assigned loose arg l worth _ kind_is bound = absurd (true≢false (sym bound))

literal_kinds : (program : Code) (claims : List Claim) (graph : Graph) (assigned : Assignment) → Loose program claims graph assigned → (args : List ℕ) (ls : List Lit)
    → list_all (has_bound_head graph) args ≡ true → values_at assigned args ≡ literals ls → kinds_of graph args ≡ map kind.Lit ls
literal_kinds program claims graph assigned loose [] [] ready is = refl
literal_kinds program claims graph assigned loose [] (l ∷ ls) ready is = let no : ⊥ = cc in absurd no
literal_kinds program claims graph assigned loose (arg ∷ args) [] ready is = let no : ⊥ = cc in absurd no
literal_kinds program claims graph assigned loose (arg ∷ args) (l ∷ ls) ready is =
    let first : assigned arg ≡ value.Literal l = cc in
    let rest : values_at assigned args ≡ literals ls = cc in
    let parts = and_parts (has_bound_head graph arg) (list_all (has_bound_head graph) args) ready in
    ap₂ (λ k ks. k ∷ ks) (bound_literal program claims graph assigned loose arg l first (head_at graph arg).kind refl parts.0)
    (literal_kinds program claims graph assigned loose args ls parts.1 rest)

pub pair_most : (a b x y : Value) → Below a x → Below b y
    → AllBelow (value.MoreValues a (value.MoreValues b value.NoValue)) (value.MoreValues x (value.MoreValues y value.NoValue))
pair_most a b x y p q = below.more a x (value.MoreValues b value.NoValue) (value.MoreValues y value.NoValue) p (below.more b y value.NoValue value.NoValue q below.none)

-- ---- other heads

bound_made : (k : Kind) (us : Values) → is_bound k ≡ true → (most : Value) × (made k us ≡ Some most)
bound_made (kind.Cons c) us bound = (value.Constructed c us, refl)
bound_made (kind.Lit l) us bound = (value.Literal l, refl)
bound_made (kind.Part h) us bound = (value.Partial h us, refl)
bound_made _ us bound = absurd (true≢false (sym bound))

compared_none : (k l : Kind) (us vs : Values) (x y : Value) → made k us ≡ Some x → made l vs ≡ Some y → (is_partial k || is_partial l) ≡ true → compared x y ≡ None
compared_none (kind.Part h) l us vs x y is are partial =
    let same : value.Partial h us ≡ x = cc in subst (λ (z : Value). compared z y ≡ None) same refl
compared_none (kind.Cons c) (kind.Part h) us vs x y is are partial =
    let same : value.Constructed c us ≡ x = cc in
    let other : value.Partial h vs ≡ y = cc in
    subst (λ (z : Value). compared z y ≡ None) same (subst (λ (z : Value). compared (value.Constructed c us) z ≡ None) other refl)
compared_none (kind.Cons c) _ us vs x y is are partial = absurd (true≢false (sym partial))
compared_none (kind.Lit l) (kind.Part h) us vs x y is are partial =
    let same : value.Literal l ≡ x = cc in
    let other : value.Partial h vs ≡ y = cc in
    subst (λ (z : Value). compared z y ≡ None) same (subst (λ (z : Value). compared (value.Literal l) z ≡ None) other refl)
compared_none (kind.Lit l) _ us vs x y is are partial = absurd (true≢false (sym partial))
compared_none _ l us vs x y is are partial = let no : ⊥ = cc in absurd no

truth_same : (program : Code) (k : Kind) → is_truth program.special.truth k ≡ is_true program.special k
truth_same program (kind.Cons c) = refl
truth_same program _ = refl

equation_none : (program : Program) (ls : List Lit) → on_literals program prim.Unify ls ≡ None
equation_none program (Int m ∷ Int n ∷ []) = refl
equation_none program _ = refl

-- an equation holds where both sides have one value, which is total data
equation_holds : (program : Program) (operation : Primitive) (us : Values) (w : Value) → Answers program operation us w → operation ≡ prim.Unify → (a b : Value)
    → us ≡ value.MoreValues a (value.MoreValues b value.NoValue) → (a ≡ b) × (is_total_data a ≡ true) × (w ≡ truth_of program true)
equation_holds program operation us w (builtin.of_literals _ ls _ _ e f) op a b is =
    let some : on_literals program prim.Unify ls ≡ Some w = subst (λ (o : Primitive). on_literals program o ls ≡ Some w) op f in
    absurd (none_of_some (on_literals program prim.Unify ls) w (equation_none program ls) some)
equation_holds program _ _ w (builtin.equal x y _ answer c e) op a b is = let no : ⊥ = cc in absurd no
equation_holds program _ _ w (builtin.conjoined x y _ f g e) op a b is = let no : ⊥ = cc in absurd no
equation_holds program _ _ w (builtin.unified x y _ same total e) op a b is =
    let first : x ≡ a = cc in
    let second : y ≡ b = cc in
    (sym first ∙ same ∙ second, subst (λ (v : Value). is_total_data v ≡ true) first total, e)

module _ (program : Code) (claims : List Claim) (graph : Graph) (id : ℕ) (assigned : Assignment) (loose : Loose program claims graph assigned)
    (known : is_known (assigned id) ≡ true) where
  on_literals_kept : (after : Graph) (operation : Primitive) (args : List ℕ) (ls : List Lit) (k : Kind) (answer : Value) → NothingPast graph assigned
      → node_at graph id ≡ node (kind.Prim operation) args → kinds_of graph args ≡ map kind.Lit ls → on_literals (program_of program) operation ls ≡ Some answer
      → after ≡ put graph id (alone k) → made k value.NoValue ≡ Some answer → Kept program claims graph after assigned
  on_literals_kept after operation args ls k answer past is kinds answers after_is made_is =
      answer_kept program claims graph id operation args assigned loose known is after (literals ls) k answer past
      (literals_most program claims graph assigned loose args ls kinds) (builtin.of_literals operation ls (literals ls) answer refl answers) after_is made_is

  pub number_kept : (after : Graph) (operation : Primitive) (args : List ℕ) (m n result : ℤ) → NothingPast graph assigned
      → node_at graph id ≡ node (kind.Prim operation) args → kinds_of graph args ≡ kind.Lit (Int m) ∷ kind.Lit (Int n) ∷ []
      → number_of operation m n ≡ Some result → is_integer result ≡ true → after ≡ put graph id (alone (kind.Lit (Int result))) → Kept program claims graph after assigned
  number_kept after operation args m n result past is kinds result_is whole after_is =
      on_literals_kept after operation args (Int m ∷ Int n ∷ []) (kind.Lit (Int result)) (value.Literal (Int result)) past is kinds
      (number_answers (program_of program) operation m n result result_is whole) after_is refl

  pub test_kept : (after : Graph) (operation : Primitive) (args : List ℕ) (m n : ℤ) (answer : Bool) → NothingPast graph assigned
      → node_at graph id ≡ node (kind.Prim operation) args → kinds_of graph args ≡ kind.Lit (Int m) ∷ kind.Lit (Int n) ∷ []
      → test_of operation m n ≡ Some answer → after ≡ telling program graph id answer → Kept program claims graph after assigned
  test_kept after operation args m n answer past is kinds answer_is after_is =
      on_literals_kept after operation args (Int m ∷ Int n ∷ []) (truth_kind program answer) (truth_of (program_of program) answer) past is kinds
      (test_answers (program_of program) operation m n answer answer_is) (after_is ∙ ap (put graph id) (truth_is_node program answer)) (truth_made program answer)

  pub code_point_kept : (after : Graph) (args : List ℕ) (c : ℕ) → NothingPast graph assigned → node_at graph id ≡ node (kind.Prim prim.Ord) args
      → kinds_of graph args ≡ kind.Lit (Char c) ∷ [] → after ≡ put graph id (alone (kind.Lit (Int (pos c)))) → Kept program claims graph after assigned
  code_point_kept after args c past is kinds after_is =
      on_literals_kept after prim.Ord args (Char c ∷ []) (kind.Lit (Int (pos c))) (value.Literal (Int (pos c))) past is kinds refl after_is refl

  pub character_kept : (after : Graph) (args : List ℕ) (c : ℕ) → NothingPast graph assigned → node_at graph id ≡ node (kind.Prim prim.Chr) args
      → kinds_of graph args ≡ kind.Lit (Int (pos c)) ∷ [] → is_scalar c ≡ true → after ≡ put graph id (alone (kind.Lit (Char c))) → Kept program claims graph after assigned
  character_kept after args c past is kinds scalar after_is =
      on_literals_kept after prim.Chr args (Int (pos c) ∷ []) (kind.Lit (Char c)) (value.Literal (Char c)) past is kinds
      (ap (λ (b : Bool). if b then Some (value.Literal (Char c)) else None) scalar) after_is refl

  -- ---- operations without an answer

  pub literals_answer : (operation : Primitive) (args : List ℕ) (ls : List Lit) → node_at graph id ≡ node (kind.Prim operation) args
      → kinds_of graph args ≡ map kind.Lit ls → is_on_literals operation ≡ true → on_literals (program_of program) operation ls ≡ None → ⊥
  literals_answer operation args ls is kinds on none =
      let found = operation_answers program claims graph id operation args assigned loose known is in
      let up = literals_most program claims graph assigned loose args ls kinds in
      let by = by_literals_alone (program_of program) operation (literals ls) found.0
      (answers_rise (program_of program) operation (values_at assigned args) (literals ls) found.0 found.1 up) on in
      none_of_some (on_literals (program_of program) operation ls) found.0 none
      (subst (λ (xs : List Lit). on_literals (program_of program) operation xs ≡ Some found.0) (sym (literals_same ls by.literals_are by.is)) by.answers)

  pub never_divided : (operation : Primitive) (args : List ℕ) (m n : ℤ) → node_at graph id ≡ node (kind.Prim operation) args
      → kinds_of graph args ≡ kind.Lit (Int m) ∷ kind.Lit (Int n) ∷ [] → divides operation ≡ true → int_eq n (pos 0) ≡ true → ⊥
  never_divided operation args m n is kinds by zero_divisor =
      literals_answer operation args (Int m ∷ Int n ∷ []) is kinds (divides_on operation by) (divided_none (program_of program) operation m n by zero_divisor)

  pub never_character : (args : List ℕ) (n : ℤ) → node_at graph id ≡ node (kind.Prim prim.Chr) args → kinds_of graph args ≡ kind.Lit (Int n) ∷ []
      → ((c : ℕ) → n ≡ pos c → is_scalar c ≡ false) → ⊥
  never_character args n is kinds none = literals_answer prim.Chr args (Int n ∷ []) is kinds refl (character_none n none)

  pub never_answered : (operation : Primitive) (args : List ℕ) → node_at graph id ≡ node (kind.Prim operation) args → is_on_literals operation ≡ true
      → list_all (has_bound_head graph) args ≡ true → are_operands operation (kinds_of graph args) ≡ false → ⊥
  never_answered operation args is on ready other =
      let found = operation_answers program claims graph id operation args assigned loose known is in
      let by = by_literals_alone (program_of program) operation (values_at assigned args) found.0 found.1 on in
      let kinds = literal_kinds program claims graph assigned loose args by.literals_are ready by.is in
      true≢false (sym (operands_answer (program_of program) operation by.literals_are found.0 by.answers) ∙ ap (are_operands operation) (sym kinds) ∙ other)

  -- ---- comparisons

  compared_kept : (after : Graph) (a b : ℕ) (x y : Value) (answer : Bool) → NothingPast graph assigned → node_at graph id ≡ node (kind.Prim prim.Equal) (a ∷ b ∷ [])
      → Below (assigned a) x → Below (assigned b) y → Compares x y answer → after ≡ telling program graph id answer → Kept program claims graph after assigned
  compared_kept after a b x y answer past is low_a low_b compares after_is =
      let us = value.MoreValues x (value.MoreValues y value.NoValue) in
      answer_kept program claims graph id prim.Equal (a ∷ b ∷ []) assigned loose known is after us (truth_kind program answer) (truth_of (program_of program) answer) past
      (pair_most (assigned a) (assigned b) x y low_a low_b) (builtin.equal x y (truth_of (program_of program) answer) answer compares refl)
      (after_is ∙ ap (put graph id) (truth_is_node program answer)) (truth_made program answer)

  pub compared_literals_kept : (after : Graph) (a b : ℕ) (l m : Lit) (us vs : List ℕ) → NothingPast graph assigned
      → node_at graph id ≡ node (kind.Prim prim.Equal) (a ∷ b ∷ []) → head_at graph a ≡ node (kind.Lit l) us → head_at graph b ≡ node (kind.Lit m) vs
      → after ≡ telling program graph id (same_literal l m) → Kept program claims graph after assigned
  compared_literals_kept after a b l m us vs past is head_a head_b after_is =
      compared_kept after a b (value.Literal l) (value.Literal m) (same_literal l m) past is
      (head_most program claims graph assigned a (kind.Lit l) us (value.Literal l) loose head_a refl)
      (head_most program claims graph assigned b (kind.Lit m) vs (value.Literal m) loose head_b refl) (builtin.two_literals l m (same_literal l m) refl) after_is

  pub compared_unlike_kept : (after : Graph) (a b : ℕ) (c d : ConId) (us vs : List ℕ) → NothingPast graph assigned
      → node_at graph id ≡ node (kind.Prim prim.Equal) (a ∷ b ∷ []) → head_at graph a ≡ node (kind.Cons c) us → head_at graph b ≡ node (kind.Cons d) vs
      → same_constructor c d ≡ false → after ≡ telling program graph id false → Kept program claims graph after assigned
  compared_unlike_kept after a b c d us vs past is head_a head_b differ after_is =
      let x = values_at assigned us in
      let y = values_at assigned vs in
      compared_kept after a b (value.Constructed c x) (value.Constructed d y) false past is
      (head_most program claims graph assigned a (kind.Cons c) us (value.Constructed c x) loose head_a refl)
      (head_most program claims graph assigned b (kind.Cons d) vs (value.Constructed d y) loose head_b refl) (builtin.different c d x y differ) after_is

  pub compared_mixed_kept : (after : Graph) (a b : ℕ) → NothingPast graph assigned → node_at graph id ≡ node (kind.Prim prim.Equal) (a ∷ b ∷ []) → (k l : Kind)
      → (head_at graph a).kind ≡ k → (head_at graph b).kind ≡ l → are_mixed k l ≡ true → after ≡ telling program graph id false → Kept program claims graph after assigned
  compared_mixed_kept after a b past is (kind.Lit l) (kind.Cons c) kind_a kind_b mixed after_is =
      let y = values_at assigned (head_at graph b).args in
      compared_kept after a b (value.Literal l) (value.Constructed c y) false past is
      (head_most program claims graph assigned a (kind.Lit l) (head_at graph a).args (value.Literal l) loose (node_by_kind (head_at graph a) (kind.Lit l) kind_a) refl)
      (head_most program claims graph assigned b (kind.Cons c) (head_at graph b).args (value.Constructed c y) loose (node_by_kind (head_at graph b) (kind.Cons c) kind_b) refl)
      (builtin.literal_first l c y) after_is
  compared_mixed_kept after a b past is (kind.Cons c) (kind.Lit l) kind_a kind_b mixed after_is =
      let x = values_at assigned (head_at graph a).args in
      compared_kept after a b (value.Constructed c x) (value.Literal l) false past is
      (head_most program claims graph assigned a (kind.Cons c) (head_at graph a).args (value.Constructed c x) loose (node_by_kind (head_at graph a) (kind.Cons c) kind_a) refl)
      (head_most program claims graph assigned b (kind.Lit l) (head_at graph b).args (value.Literal l) loose (node_by_kind (head_at graph b) (kind.Lit l) kind_b) refl)
      (builtin.literal_second c x l) after_is
  compared_mixed_kept after a b past is _ _ kind_a kind_b mixed after_is = absurd (true≢false (sym mixed))

  -- what has a partial application for a side is never compared
  pub never_compared : (a b : ℕ) → node_at graph id ≡ node (kind.Prim prim.Equal) (a ∷ b ∷ []) → list_all (has_bound_head graph) (a ∷ b ∷ []) ≡ true
      → (is_partial (head_at graph a).kind || is_partial (head_at graph b).kind) ≡ true → ⊥
  never_compared a b is ready partial =
      let one = and_parts (has_bound_head graph a) (has_bound_head graph b && true) ready in
      let two = and_parts (has_bound_head graph b) true one.1 in
      let x = bound_made (head_at graph a).kind (values_at assigned (head_at graph a).args) one.0 in
      let y = bound_made (head_at graph b).kind (values_at assigned (head_at graph b).args) two.0 in
      unanswered program claims graph id prim.Equal (a ∷ b ∷ []) assigned loose known is (value.MoreValues x.0 (value.MoreValues y.0 value.NoValue))
      (pair_most (assigned a) (assigned b) x.0 y.0 (head_most program claims graph assigned a (head_at graph a).kind (head_at graph a).args x.0 loose refl x.1)
      (head_most program claims graph assigned b (head_at graph b).kind (head_at graph b).args y.0 loose refl y.1))
      (ap (option_map (truth_of (program_of program)))
      (compared_none (head_at graph a).kind (head_at graph b).kind (values_at assigned (head_at graph a).args) (values_at assigned (head_at graph b).args) x.0 y.0 x.1 y.1 partial))

  -- ---- conjunctions

  pub both_true_kept : (after : Graph) (a b : ℕ) → is_well_formed program ≡ true → NodesFit program graph → NothingPast graph assigned
      → node_at graph id ≡ node (kind.Prim prim.And) (a ∷ b ∷ []) → (is_true program.special (head_at graph a).kind && is_true program.special (head_at graph b).kind) ≡ true
      → after ≡ telling program graph id true → Kept program claims graph after assigned
  both_true_kept after a b well fit past is both after_is =
      let sides = and_parts (is_true program.special (head_at graph a).kind) (is_true program.special (head_at graph b).kind) both in
      let truth = truth_of (program_of program) true in
      let low_a = head_most program claims graph assigned a (kind.Cons program.special.truth) [] truth loose (true_head program graph a well fit sides.0) refl in
      let low_b = head_most program claims graph assigned b (kind.Cons program.special.truth) [] truth loose (true_head program graph b well fit sides.1) refl in
      answer_kept program claims graph id prim.And (a ∷ b ∷ []) assigned loose known is after (value.MoreValues truth (value.MoreValues truth value.NoValue))
      (truth_kind program true) truth past (pair_most (assigned a) (assigned b) truth truth low_a low_b) (builtin.conjoined truth truth truth refl refl refl) after_is refl

  pub never_untrue : (a b : ℕ) → is_settled program.special.truth graph (kind.Prim prim.And) (a ∷ b ∷ []) ≡ true
      → (is_true program.special (head_at graph a).kind && is_true program.special (head_at graph b).kind) ≡ false → ⊥
  never_untrue a b settled other =
      let one = and_parts (is_truth program.special.truth (head_at graph a).kind) (is_truth program.special.truth (head_at graph b).kind && true) settled in
      let two = and_parts (is_truth program.special.truth (head_at graph b).kind) true one.1 in
      true≢false (sym (and_from (is_true program.special (head_at graph a).kind) (is_true program.special (head_at graph b).kind)
      (sym (truth_same program (head_at graph a).kind) ∙ one.0) (sym (truth_same program (head_at graph b).kind) ∙ two.0)) ∙ other)

  -- ---- equations

  -- the two sides of an equation have one total value
  pub sides_equal : (a b : ℕ) → node_at graph id ≡ node (kind.Prim prim.Unify) (a ∷ b ∷ [])
      → (assigned a ≡ assigned b) × (is_total_data (assigned a) ≡ true) × Below (assigned id) (truth_of (program_of program) true)
  sides_equal a b is =
      let found = operation_answers program claims graph id prim.Unify (a ∷ b ∷ []) assigned loose known is in
      let by = equation_holds (program_of program) prim.Unify (values_at assigned (a ∷ b ∷ [])) found.0 found.1 refl (assigned a) (assigned b) refl in
      (by.0, by.1, subst (λ (v : Value). Below (assigned id) v) by.2 found.2)

  pub equation_kept : (after : Graph) (a b : ℕ) → NothingPast graph assigned → node_at graph id ≡ node (kind.Prim prim.Unify) (a ∷ b ∷ [])
      → after ≡ telling program graph id true → Kept program claims graph after assigned
  equation_kept after a b past is after_is =
      kept_by_put program claims graph after id (alone (truth_kind program true)) assigned (there_unless_stuck graph id (kind.Prim prim.Unify) (a ∷ b ∷ []) is refl) after_is loose past
      (loosened program claims assigned (truth_kind program true) [] (assigned id)
      (constant_may program claims assigned (truth_kind program true) (assigned id) (truth_of (program_of program) true) refl (sides_equal a b is).2))

  -- a side whose head is there has the whole value of its head
  pub left_is : (a b : ℕ) (k : Kind) (x : Value) → node_at graph id ≡ node (kind.Prim prim.Unify) (a ∷ b ∷ []) → (head_at graph a).kind ≡ k
      → made k (values_at assigned (head_at graph a).args) ≡ Some x → assigned a ≡ x
  left_is a b k x is kind_is made_is =
      let up = head_most program claims graph assigned a k (head_at graph a).args x loose (node_by_kind (head_at graph a) k kind_is) made_is in
      total_above (assigned a) x up (and_parts (is_total (assigned a)) (is_data (assigned a)) (sides_equal a b is).1).0

  pub right_is : (a b : ℕ) (k : Kind) (x : Value) → node_at graph id ≡ node (kind.Prim prim.Unify) (a ∷ b ∷ []) → (head_at graph b).kind ≡ k
      → made k (values_at assigned (head_at graph b).args) ≡ Some x → assigned a ≡ x
  right_is a b k x is kind_is made_is =
      let same = (sides_equal a b is).0 in
      let up = head_most program claims graph assigned b k (head_at graph b).args x loose (node_by_kind (head_at graph b) k kind_is) made_is in
      same ∙ total_above (assigned b) x up
      (subst (λ (v : Value). is_total v ≡ true) same (and_parts (is_total (assigned a)) (is_data (assigned a)) (sides_equal a b is).1).0)

  pub never_equal_literals : (a b : ℕ) (l m : Lit) → node_at graph id ≡ node (kind.Prim prim.Unify) (a ∷ b ∷ []) → (head_at graph a).kind ≡ kind.Lit l
      → (head_at graph b).kind ≡ kind.Lit m → same_literal l m ≡ false → ⊥
  never_equal_literals a b l m is kind_a kind_b differ =
      let same : value.Literal l ≡ value.Literal m =
      sym (left_is a b (kind.Lit l) (value.Literal l) is kind_a refl) ∙ right_is a b (kind.Lit m) (value.Literal m) is kind_b refl in
      let literal : l ≡ m = cc in
      true≢false (sym (literal_itself l) ∙ ap (same_literal l) literal ∙ differ)

  pub never_clashing : (a b : ℕ) (c d : ConId) → node_at graph id ≡ node (kind.Prim prim.Unify) (a ∷ b ∷ []) → (head_at graph a).kind ≡ kind.Cons c
      → (head_at graph b).kind ≡ kind.Cons d → same_constructor c d ≡ false → ⊥
  never_clashing a b c d is kind_a kind_b differ =
      let us = values_at assigned (head_at graph a).args in
      let vs = values_at assigned (head_at graph b).args in
      let same : value.Constructed c us ≡ value.Constructed d vs =
      sym (left_is a b (kind.Cons c) (value.Constructed c us) is kind_a refl) ∙ right_is a b (kind.Cons d) (value.Constructed d vs) is kind_b refl in
      let constructor : c ≡ d = cc in
      true≢false (sym (same_itself c) ∙ ap (same_constructor c) constructor ∙ differ)

  pub never_mixed : (a b : ℕ) → node_at graph id ≡ node (kind.Prim prim.Unify) (a ∷ b ∷ []) → (k l : Kind) → (head_at graph a).kind ≡ k → (head_at graph b).kind ≡ l
      → are_mixed k l ≡ true → ⊥
  never_mixed a b is (kind.Lit l) (kind.Cons c) kind_a kind_b mixed =
      let vs = values_at assigned (head_at graph b).args in
      let same : value.Literal l ≡ value.Constructed c vs =
      sym (left_is a b (kind.Lit l) (value.Literal l) is kind_a refl) ∙ right_is a b (kind.Cons c) (value.Constructed c vs) is kind_b refl in
      cc
  never_mixed a b is (kind.Cons c) (kind.Lit l) kind_a kind_b mixed =
      let us = values_at assigned (head_at graph a).args in
      let same : value.Constructed c us ≡ value.Literal l =
      sym (left_is a b (kind.Cons c) (value.Constructed c us) is kind_a refl) ∙ right_is a b (kind.Lit l) (value.Literal l) is kind_b refl in
      cc
  never_mixed a b is _ _ kind_a kind_b mixed = true≢false (sym mixed)

  -- an equation with a partial application never holds
  pub never_partial : (a b : ℕ) → node_at graph id ≡ node (kind.Prim prim.Unify) (a ∷ b ∷ [])
      → (is_partial (head_at graph a).kind || is_partial (head_at graph b).kind) ≡ true → ⊥
  never_partial a b is partial = elim (either (is_partial (head_at graph a).kind) (is_partial (head_at graph b).kind) partial) [
    | inl one ↦ by_left (head_at graph a).kind refl one
    | inr two ↦ by_right (head_at graph b).kind refl two
  ]
    where
      data_side : is_data (assigned a) ≡ true
      data_side = (and_parts (is_total (assigned a)) (is_data (assigned a)) (sides_equal a b is).1).1

      by_left : (k : Kind) → (head_at graph a).kind ≡ k → is_partial k ≡ true → ⊥
      by_left (kind.Part h) kind_is one =
          true≢false (sym data_side ∙ ap is_data (left_is a b (kind.Part h) (value.Partial h (values_at assigned (head_at graph a).args)) is kind_is refl))
      by_left _ kind_is one = true≢false (sym one)

      by_right : (k : Kind) → (head_at graph b).kind ≡ k → is_partial k ≡ true → ⊥
      by_right (kind.Part h) kind_is two =
          true≢false (sym data_side ∙ ap is_data (right_is a b (kind.Part h) (value.Partial h (values_at assigned (head_at graph b).args)) is kind_is refl))
      by_right _ kind_is two = true≢false (sym two)
