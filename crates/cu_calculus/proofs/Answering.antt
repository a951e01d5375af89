-- The relation of what the built-in operations answer and its function say the same.
use Rattle.std.proofs.Common.{◌≡◌, ℕ, Bool, true, false, ◌&&◌, List, [], ◌∷◌, Option, None, Some, if◌then◌else◌, nat_eq, option_map, refl, ap, ap₂, sym, ◌∙◌, subst, eq-eqb, eqb-true}
use Rattle.std.specs.Option.{option_and_then}
use Rattle.std.proofs.lemmas.Bool.{and_from, and_parts}
use Rattle.std.proofs.lemmas.Bool.Decides.{Decides-int_eq}
use Rattle.cu_calculus.specs.declared.FunId.{FunId}
use Rattle.cu_calculus.specs.declared.Head.{Head}
use Rattle.cu_calculus.specs.declared.Head.TheVariants as head
use Rattle.cu_calculus.specs.declared.Lit.{Lit}
use Rattle.cu_calculus.specs.declared.Lit.TheVariants.{Char, Int}
use Rattle.cu_calculus.specs.declared.builtin.Primitive.{Primitive}
use Rattle.cu_calculus.specs.declared.builtin.Primitive.TheVariants as prim
use Rattle.cu_calculus.specs.Answered.{answered, conjoined, literals_in, on_pair, same_head, same_value, same_values, unified}
use Rattle.cu_calculus.specs.Builtin as builtin
use Rattle.cu_calculus.specs.Builtin.{Answers, literals, on_literals, truth_of}
use Rattle.cu_calculus.specs.Compared.{compared}
use Rattle.cu_calculus.specs.Literal.{same_literal}
use Rattle.cu_calculus.specs.Match.{same_constructor}
use Rattle.cu_calculus.specs.Program.{Program}
use Rattle.cu_calculus.specs.Shape.{is_total_data}
use Rattle.cu_calculus.specs.Value as value
use Rattle.cu_calculus.specs.Value.{Value, Values}
use Rattle.cu_calculus.proofs.Choosing.{literal_itself}
use Rattle.cu_calculus.proofs.Comparing.{compared_compares, compares_compared, same_is, same_itself}

-- literals, functions and heads that are the same are one
pub literal_is : (l m : Lit) → same_literal l m ≡ true → l ≡ m
literal_is (Int m) (Int n) h = ap Int ((Decides-int_eq m n).0 h)
literal_is (Char m) (Char n) h = ap Char (eqb-true m n h)
literal_is (Int m) (Char n) h = let no : ⊥ = cc in absurd no
literal_is (Char m) (Int n) h = let no : ⊥ = cc in absurd no

pub function_is : (f g : FunId) → nat_eq f.0 g.0 ≡ true → f ≡ g
function_is f g h = let places : f.0 ≡ g.0 = eqb-true f.0 g.0 h in ap (λ (n : ℕ). let e : FunId = record { 0 = n } in e) places

pub head_is : (h k : Head) → same_head h k ≡ true → h ≡ k
head_is (head.Fun f) (head.Fun g) e = ap head.Fun (function_is f g e)
head_is (head.Con c) (head.Con d) e = ap head.Con (same_is c d e)
head_is (head.Set f) (head.Set g) e = ap head.Set (function_is f g e)
head_is _ _ e = let no : ⊥ = cc in absurd no

pub head_itself : (h : Head) → same_head h h ≡ true
head_itself (head.Fun f) = eq-eqb f.0 f.0 refl
head_itself (head.Con c) = same_itself c
head_itself (head.Set f) = eq-eqb f.0 f.0 refl

mutual
  pub value_is : (u v : Value) → same_value u v ≡ true → u ≡ v
  value_is value.Bottom value.Bottom e = refl
  value_is (value.Variable x) (value.Variable y) e = ap value.Variable (eqb-true x y e)
  value_is (value.Literal l) (value.Literal m) e = ap value.Literal (literal_is l m e)
  value_is (value.Constructed c us) (value.Constructed d vs) e =
      let parts = and_parts (same_constructor c d) (same_values us vs) e in ap₂ value.Constructed (same_is c d parts.0) (values_are us vs parts.1)
  value_is (value.Partial h us) (value.Partial k vs) e =
      let parts = and_parts (same_head h k) (same_values us vs) e in ap₂ value.Partial (head_is h k parts.0) (values_are us vs parts.1)
  value_is _ _ e = let no : ⊥ = cc in absurd no

  pub values_are : (us vs : Values) → same_values us vs ≡ true → us ≡ vs
  values_are value.NoValue value.NoValue e = refl
  values_are value.NoValue (value.MoreValues v vs) e = let no : ⊥ = cc in absurd no
  values_are (value.MoreValues u us) value.NoValue e = let no : ⊥ = cc in absurd no
  values_are (value.MoreValues u us) (value.MoreValues v vs) e =
      let parts = and_parts (same_value u v) (same_values us vs) e in ap₂ value.MoreValues (value_is u v parts.0) (values_are us vs parts.1)

mutual
  pub value_itself : (v : Value) → same_value v v ≡ true
  value_itself value.Bottom = refl
  value_itself (value.Variable x) = eq-eqb x x refl
  value_itself (value.Literal l) = literal_itself l
  value_itself (value.Constructed c vs) = and_from (same_constructor c c) (same_values vs vs) (same_itself c) (values_themselves vs)
  value_itself (value.Partial h vs) = and_from (same_head h h) (same_values vs vs) (head_itself h) (values_themselves vs)

  pub values_themselves : (vs : Values) → same_values vs vs ≡ true
  values_themselves value.NoValue = refl
  values_themselves (value.MoreValues v vs) = and_from (same_value v v) (same_values vs vs) (value_itself v) (values_themselves vs)

pub same_value_from : (u v : Value) → u ≡ v → same_value u v ≡ true
same_value_from u v e = subst (λ (x : Value). same_value u x ≡ true) e (value_itself u)

-- literals as values and back
literals_restored : (ls : List Lit) → literals_in (literals ls) ≡ Some ls
literals_restored [] = refl
literals_restored (l ∷ ls) = ap (option_map (λ ms. l ∷ ms)) (literals_restored ls)

literals_are : (us : Values) (ls : List Lit) → literals_in us ≡ Some ls → us ≡ literals ls
literals_are value.NoValue ls e = let none : [] ≡ ls = cc in ap literals none
literals_are (value.MoreValues (value.Literal l) vs) ls e = by (literals_in vs) (λ ms f. literals_are vs ms f) e
  where
    by : (found : Option (List Lit)) → ((ms : List Lit) → found ≡ Some ms → vs ≡ literals ms) → option_map (λ ms. l ∷ ms) found ≡ Some ls
        → value.MoreValues (value.Literal l) vs ≡ literals ls
    by None inner f = let no : ⊥ = cc in absurd no
    by (Some ms) inner f =
        let whole : l ∷ ms ≡ ls = cc in ap (value.MoreValues (value.Literal l)) (inner ms refl) ∙ ap literals whole
literals_are (value.MoreValues value.Bottom vs) ls e = let no : ⊥ = cc in absurd no
literals_are (value.MoreValues (value.Variable x) vs) ls e = let no : ⊥ = cc in absurd no
literals_are (value.MoreValues (value.Constructed c us) vs) ls e = let no : ⊥ = cc in absurd no
literals_are (value.MoreValues (value.Partial h us) vs) ls e = let no : ⊥ = cc in absurd no

-- the operations on all values answer nothing on literals alone
abbrev pub is_on_literals : Primitive → Bool
is_on_literals prim.Equal = false
is_on_literals prim.Unify = false
is_on_literals prim.And = false
is_on_literals _ = true

by_literals : (program : Program) (operation : Primitive) (us : Values) → is_on_literals operation ≡ true
    → answered program operation us ≡ option_and_then (on_literals program operation) (literals_in us)
by_literals program prim.Equal us e = let no : ⊥ = cc in absurd no
by_literals program prim.Unify us e = let no : ⊥ = cc in absurd no
by_literals program prim.And us e = let no : ⊥ = cc in absurd no
by_literals program _ us e = refl

not_by_literals : (program : Program) (operation : Primitive) (ls : List Lit) → is_on_literals operation ≡ false
    → on_literals program operation ls ≡ None
not_by_literals program prim.Equal (Int m ∷ Int n ∷ []) e = refl
not_by_literals program prim.Unify (Int m ∷ Int n ∷ []) e = refl
not_by_literals program prim.And (Int m ∷ Int n ∷ []) e = refl
not_by_literals program prim.Equal _ e = refl
not_by_literals program prim.Unify _ e = refl
not_by_literals program prim.And _ e = refl
not_by_literals program _ _ e = let no : ⊥ = cc in absurd no

literals_answered : (program : Program) (operation : Primitive) (ls : List Lit) (us : Values) (v : Value) (b : Bool) → is_on_literals operation ≡ b
    → us ≡ literals ls → on_literals program operation ls ≡ Some v → answered program operation us ≡ Some v
literals_answered program operation ls us v true on e f =
    by_literals program operation us on ∙ ap (option_and_then (on_literals program operation)) (ap literals_in e ∙ literals_restored ls) ∙ f
literals_answered program operation ls us v false on e f =
    let none : on_literals program operation ls ≡ None = not_by_literals program operation ls on in
    let no : ⊥ = cc in
    absurd no

if_both : (a b : Bool) (v : Value) → a ≡ true → b ≡ true → (if a && b then Some v else None) ≡ Some v
if_both a b v e f = ap₂ (λ (x y : Bool). if x && y then Some v else None) e f

pub answers_answered : (program : Program) (operation : Primitive) (us : Values) (v : Value) → Answers program operation us v
    → answered program operation us ≡ Some v
answers_answered program operation us v (builtin.of_literals _ ls _ _ e f) =
    literals_answered program operation ls us v (is_on_literals operation) refl e f
answers_answered program _ _ v (builtin.equal a b _ answer c e) = ap (option_map (truth_of program)) (compares_compared a b answer c) ∙ ap Some (sym e)
answers_answered program _ _ v (builtin.unified a b _ alike total e) =
    if_both (same_value a b) (is_total_data a) (truth_of program true) (same_value_from a b alike) total ∙ ap Some (sym e)
answers_answered program _ _ v (builtin.conjoined a b _ p q e) =
    if_both (same_value a (truth_of program true)) (same_value b (truth_of program true)) (truth_of program true)
    (same_value_from a (truth_of program true) p) (same_value_from b (truth_of program true) q) ∙ ap Some (sym e)

-- what a function on pairs answers
pair_answered : (answer : Value → Value → Option Value) (P : Values → Type 0) (us : Values) (v : Value) → on_pair answer us ≡ Some v
    → ((a b : Value) → answer a b ≡ Some v → P (value.MoreValues a (value.MoreValues b value.NoValue))) → P us
pair_answered answer P value.NoValue v e inner = let no : ⊥ = cc in absurd no
pair_answered answer P (value.MoreValues a value.NoValue) v e inner = let no : ⊥ = cc in absurd no
pair_answered answer P (value.MoreValues a (value.MoreValues b value.NoValue)) v e inner = inner a b e
pair_answered answer P (value.MoreValues a (value.MoreValues b (value.MoreValues c us))) v e inner = let no : ⊥ = cc in absurd no

equal_answers : (program : Program) (a b v : Value) (found : Option Bool) → compared a b ≡ found → option_map (truth_of program) found ≡ Some v
    → Answers program prim.Equal (value.MoreValues a (value.MoreValues b value.NoValue)) v
equal_answers program a b v None c e = let no : ⊥ = cc in absurd no
equal_answers program a b v (Some answer) c e =
    let same : truth_of program answer ≡ v = cc in builtin.equal a b v answer (compared_compares a b answer c) (sym same)

both_if : (a b : Bool) (u v : Value) → (if a && b then Some u else None) ≡ Some v → (a ≡ true) × (b ≡ true) × (u ≡ v)
both_if true true u v e = (refl, refl, cc)
both_if true false u v e = let no : ⊥ = cc in absurd no
both_if false b u v e = let no : ⊥ = cc in absurd no

unified_answers : (program : Program) (a b v : Value) → unified program a b ≡ Some v
    → Answers program prim.Unify (value.MoreValues a (value.MoreValues b value.NoValue)) v
unified_answers program a b v e =
    let parts = both_if (same_value a b) (is_total_data a) (truth_of program true) v e in
    builtin.unified a b v (value_is a b parts.0) parts.1 (sym parts.2)

conjoined_answers : (program : Program) (a b v : Value) → conjoined program a b ≡ Some v
    → Answers program prim.And (value.MoreValues a (value.MoreValues b value.NoValue)) v
conjoined_answers program a b v e =
    let truth = truth_of program true in
    let parts = both_if (same_value a truth) (same_value b truth) truth v e in
    builtin.conjoined a b v (value_is a truth parts.0) (value_is b truth parts.1) (sym parts.2)

literal_answers : (program : Program) (operation : Primitive) (us : Values) (v : Value) (found : Option (List Lit)) → literals_in us ≡ found
    → option_and_then (on_literals program operation) found ≡ Some v → Answers program operation us v
literal_answers program operation us v None is e = let no : ⊥ = cc in absurd no
literal_answers program operation us v (Some ls) is e = builtin.of_literals operation ls us v (literals_are us ls is) e

pub answered_answers : (program : Program) (operation : Primitive) (us : Values) (v : Value) → answered program operation us ≡ Some v
    → Answers program operation us v
answered_answers program prim.Equal us v e =
    pair_answered (λ a b. option_map (truth_of program) (compared a b)) (λ (x : Values). Answers program prim.Equal x v) us v e
    (λ a b f. equal_answers program a b v (compared a b) refl f)
answered_answers program prim.Unify us v e =
    pair_answered (unified program) (λ (x : Values). Answers program prim.Unify x v) us v e (λ a b f. unified_answers program a b v f)
answered_answers program prim.And us v e =
    pair_answered (conjoined program) (λ (x : Values). Answers program prim.And x v) us v e (λ a b f. conjoined_answers program a b v f)
answered_answers program operation us v e = literal_answers program operation us v (literals_in us) refl e
