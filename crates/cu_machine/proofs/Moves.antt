-- Each row of the step table keeps graphs fine.
use Rattle.std.proofs.Common.{◌≡◌, ℕ, zero, suc, ◌+◌, ◌-◌, ◌^◌, ◌<◌, ◌≤◌, inl, inr, Bool, true, false, ◌&&◌, ◌||◌, List, [], ◌∷◌, ◌++◌, Option, None, Some, if◌then◌else◌, refl, ap, sym, ◌∙◌, subst, true≢false, length, nat_eq, nat_lt, nat_le, slice_get, get_or, ℤ, pos, negsuc, arith, ltb-true, ltb-false, eq-eqb, eqb-true, leb-true, le-leb, length-append}
use Rattle.std.specs.List.{list_all, zip}
use Rattle.std.specs.Ordering.{int_eq}
use Rattle.std.specs.Prelude.{◌+ℤ◌, ◌-ℤ◌, ◌*ℤ◌, int_lt, int_le}
use Rattle.std.proofs.lemmas.List.Folds.{list_all-append}
use Rattle.cu_calculus.specs.declared.ConId.{ConId}
use Rattle.cu_calculus.specs.declared.ExprId.{ExprId}
use Rattle.cu_calculus.specs.declared.FunId.{FunId}
use Rattle.cu_calculus.specs.declared.Head.{Head}
use Rattle.cu_calculus.specs.declared.Head.TheVariants as head
use Rattle.cu_calculus.specs.declared.Lit.{Lit}
use Rattle.cu_calculus.specs.declared.Lit.TheVariants.{Char, Int}
use Rattle.cu_calculus.specs.declared.Mode.{Mode}
use Rattle.cu_calculus.specs.declared.builtin.Primitive.{Primitive}
use Rattle.cu_calculus.specs.declared.builtin.Primitive.TheVariants as prim
use Rattle.cu_int.specs.Integers.{floor_quotient, floor_rest}
use Rattle.cu_calculus.specs.Code as code
use Rattle.cu_calculus.specs.Code.{Body, Branch, Code, Expr, Function, Shallow, arity_of, body_of, expr_of, function_arity}
use Rattle.cu_int.specs.Integers.{is_integer}
use Rattle.cu_calculus.specs.Literal.{is_literal, is_scalar}
use Rattle.cu_calculus.specs.Match.{same_constructor}
use Rattle.cu_calculus.specs.Shape.{takes, takes_more}
use Rattle.cu_calculus.specs.Valid.{is_arity, is_linear}
use Rattle.cu_calculus.specs.WellFormed.{all_differ, bound_by, fits, fits_body, fits_case, fits_function, fits_pattern, is_allowed, same_mode}
use Rattle.cu_machine.specs.declared.Kind.{Kind}
use Rattle.cu_machine.specs.declared.Kind.TheVariants as kind
use Rattle.cu_machine.specs.Build.{Built, Fresh, Scope, build, build_alone, kind_of_whole, written}
use Rattle.cu_machine.specs.Graph.{Graph, Node, alone, head_at, head_of, put, renaming, stuck}
use Rattle.cu_machine.specs.Rewrite.{Become, Overflows, application_step, arithmetic_step, bound_to, branch_for, branch_step, call_step, case_step, character_step, choice_step, conjunction_step, extended, failing_step, integer_step, is_true, literal_step, narrowing_step, scrutinee_step, takes_constructor, takes_literal, truth_step}
use Rattle.cu_machine.specs.State.{free_nodes, numbers}
use Rattle.cu_machine.specs.Validity.{AllPlain, Plain, has_arguments, is_call, is_case, more, none}
use Rattle.cu_machine.proofs.Building.{ScopeGood, all_get, builds_good, cases_fit, functions_fit, passes_head, scope_more, scope_zip, whole_fits, whole_passes}
use Rattle.cu_machine.proofs.Frames.{AllGood, Frame, GoodBuilt, all_there_below, at_new, at_same, either, is_there, or_right, passes, there_new}
use Rattle.cu_machine.proofs.Fuel.{all_follow, both_true, left_true, right_true}
use Rattle.cu_machine.proofs.Rows.{Base, GraphGood, MoveGood, fails_good, frame_of, graph_good, head_closed, leaf_good, plain_as, put_good, put_is_written, puts_good, sticks_good, tells_good, written_good}

-- ---- free variables one after another

pub length_free : (k : ℕ) → length (free_nodes k) ≡ k
length_free zero = refl
length_free (suc k) = ap suc (length_free k)

pub length_numbers : (from k : ℕ) → length (numbers from k) ≡ k
length_numbers from zero = refl
length_numbers from (suc k) = ap suc (length_numbers (from + 1) k)

pub free_at_place : (k i : ℕ) → i < k → get_or (free_nodes k) i stuck ≡ alone kind.Free
free_at_place zero i below = let none_left : ⊥ = omega arith in absurd none_left
free_at_place (suc k) zero below = refl
free_at_place (suc k) (suc i) below = free_at_place k i (omega arith)

pub free_nodes_good : (f : Frame) (place k : ℕ) → AllGood f place (free_nodes k)
free_nodes_good f place zero = tt
free_nodes_good f place (suc k) = (record { whole = refl; passing = or_right f.sets true refl; there = refl }, free_nodes_good f (suc place) k)

pub numbers_there : (f : Frame) (place from k : ℕ) → f.first ≤ from → from + k ≤ place → list_all (is_there f place) (numbers from k) ≡ true
numbers_there f place from zero low high = refl
numbers_there f place from (suc k) low high =
    both_true (is_there f place from) (list_all (is_there f place) (numbers (from + 1) k)) (there_new f place from low (omega arith))
    (numbers_there f place (from + 1) k (omega arith) (omega arith))

pub numbers_plain : (graph : Graph) (from k : ℕ) → ((i : ℕ) → i < k → Plain graph (from + i)) → AllPlain graph (numbers from k)
numbers_plain graph from zero each = none
numbers_plain graph from (suc k) each =
    more from (numbers (from + 1) k) (subst (λ (x : ℕ). Plain graph x) (omega arith) (each 0 (omega arith)))
    (numbers_plain graph (from + 1) k (λ i below. subst (λ (x : ℕ). Plain graph x) (omega arith) (each (i + 1) (omega arith))))

-- ---- branches

pub branch_found_if : (test : Shallow → Bool) (q : Branch → Bool) (first branch : Branch) (rest : Option Branch) (b : Bool) → test first.pattern ≡ b → q first ≡ true
    → (rest ≡ Some branch → (q branch ≡ true) × (test branch.pattern ≡ true)) → (if b then Some first else rest) ≡ Some branch
    → (q branch ≡ true) × (test branch.pattern ≡ true)
branch_found_if test q first branch rest true is here later found =
    let same : first ≡ branch = cc in
    (subst (λ (x : Branch). q x ≡ true) same here, subst (λ (x : Branch). test x.pattern ≡ true) same is)
branch_found_if test q first branch rest false is here later found = later found

pub branch_found : (test : Shallow → Bool) (q : Branch → Bool) (branches : List Branch) (branch : Branch) → list_all q branches ≡ true
    → branch_for test branches ≡ Some branch → (q branch ≡ true) × (test branch.pattern ≡ true)
branch_found test q [] branch all found = let none_left : ⊥ = cc in absurd none_left
branch_found test q (first ∷ branches) branch all found =
    branch_found_if test q first branch (branch_for test branches) (test first.pattern) refl (left_true (q first) (list_all q branches) all)
    (branch_found test q branches branch (right_true (q first) (list_all q branches) all)) found

pub literal_binds : (l : Lit) (pattern : Shallow) → takes_literal l pattern ≡ true → length (bound_by pattern) ≡ 0
literal_binds l (code.Exactly m) takes = refl
literal_binds l (code.Built c xs) takes = let none_left : ⊥ = true≢false (sym takes) in absurd none_left

pub same_takes : (o : Option ℕ) (m k : ℕ) → takes o m ≡ true → takes o k ≡ true → m ≡ k
same_takes None m k a b = let none_left : ⊥ = true≢false (sym a) in absurd none_left
same_takes (Some arity) m k a b = sym (eqb-true arity m a) ∙ eqb-true arity k b

pub constructor_is : (c d : ConId) → same_constructor c d ≡ true → c ≡ d
constructor_is c d same = let is : c.0 ≡ d.0 = eqb-true c.0 d.0 same in ap (λ (k : ℕ). let con : ConId = record { 0 = k } in con) is

pub constructor_binds : (program : Code) (c : ConId) (k : ℕ) (pattern : Shallow) → takes_constructor c pattern ≡ true → fits_pattern program pattern ≡ true
    → takes (arity_of program (head.Con c)) k ≡ true → length (bound_by pattern) ≡ k
constructor_binds program c k (code.Exactly l) takes_it fit whole = let none_left : ⊥ = true≢false (sym takes_it) in absurd none_left
constructor_binds program c k (code.Built d xs) takes_it fit whole =
    same_takes (arity_of program (head.Con d)) (length xs) k (left_true (takes (arity_of program (head.Con d)) (length xs)) (is_linear xs) fit)
    (subst (λ (e : ConId). takes (arity_of program (head.Con e)) k ≡ true) (constructor_is c d takes_it) whole)

abbrev pub fits_branch : Code → List ℕ → Branch → Bool
fits_branch program variables branch =
    fits_pattern program branch.pattern && fits (length program.expressions) program (variables ++ bound_by branch.pattern) branch.body

-- ---- literals

abbrev pub fits_literal : Kind → Bool
fits_literal (kind.Lit l) = is_literal l
fits_literal _ = true

pub whole_literal : (program : Code) (k : Kind) (m : ℕ) → has_arguments program k m ≡ true → fits_literal k ≡ true
whole_literal program (kind.Lit l) m whole = left_true (is_literal l) (nat_eq m 0) whole
whole_literal program _ m whole = refl

pub scalar_below : (c a b d : ℕ) → a ≤ d → d ≤ b → (nat_lt c a || (nat_le d c && nat_lt c b)) ≡ true → c < b
scalar_below c a b d low high scalar = elim (either (nat_lt c a) (nat_le d c && nat_lt c b) scalar) [
  | inl less ↦ let below : c < a = ltb-true c a less in omega arith
  | inr within ↦ ltb-true c b (right_true (nat_le d c) (nat_lt c b) within)
]

pub at_most : (c b m : ℕ) → c < b → b ≤ m → nat_le c m ≡ true
at_most c b m less high = le-leb c m (omega arith)

pub scalar_integer : (c : ℕ) → is_scalar c ≡ true → is_integer (pos c) ≡ true
scalar_integer c scalar =
    at_most c 0x110000 (2 ^ 127 - 1)
    (scalar_below c 0xD800 0x110000 0xE000 (leb-true 0xD800 0xE000 refl) (leb-true 0xE000 0x110000 refl) scalar)
    (leb-true 0x110000 (2 ^ 127 - 1) refl)

-- ---- rows

-- the head of a node that is below
pub record HeadGood (program : Code) (sets : Bool) (graph : Graph) (p : ℕ → Bool) (arg : ℕ) : Type 0 where
  pub there : head_of graph arg < length graph
  pub low : p (head_of graph arg) ≡ true
  pub whole : has_arguments program (head_at graph arg).kind (length (head_at graph arg).args) ≡ true
  pub passing : passes sets (head_at graph arg).kind ≡ true
  pub args : list_all p (head_at graph arg).args ≡ true

module _ (program : Code) (sets : Bool) (graph : Graph) (goals : List ℕ) (n id : ℕ) (p : ℕ → Bool) (base : Base program sets graph goals n id p) where
  frame : Frame
  frame = record { program = program; sets = sets; below = p; first = length graph }

  pub head_good : (arg : ℕ) → p arg ≡ true → HeadGood program sets graph p arg
  head_good arg low =
      let here = head_closed p graph (length graph) arg base.closed low in
      let there = (base.closed (head_of graph arg) here).0 in
      record {
        there = there;
        low = here;
        whole = base.fine.nodes (head_of graph arg) there;
        passing = base.fine.passing (head_of graph arg) there;
        args = (base.closed (head_of graph arg) here).1;
      }

  -- an expression over places that are below
  pub build_good : (variables : List ℕ) (scope : Scope) (e : ExprId) → fits (length program.expressions) program variables e ≡ true
      → ScopeGood (frame_of program sets graph p) (length graph) variables scope
      → MoveGood program sets goals n (Become (written graph id (build program scope (length graph) e) ∷ []))
  build_good variables scope e fit scoped = (
    written_good program sets graph goals n id p (build program scope (length graph) e) base
        (builds_good (frame_of program sets graph p) base.code (length program.expressions) variables scope (length graph) e (omega arith) fit scoped),
    tt,
  )

  -- ---- calls

  pub unfolded_as : (args : List ℕ) (arity : ℕ) (body : Body) → fits_body program arity body ≡ true → is_call (Some arity) (Some body) (length args) ≡ true
      → list_all p args ≡ true → MoveGood program sets goals n (call_step program graph id args (Some body))
  unfolded_as args arity (code.Rule params e) fit whole low =
      let a = nat_eq (length params) arity in
      let b = is_linear params in
      let c = fits (length program.expressions) program params e in
      build_good params (zip params args) e (right_true (a && b) c fit)
      (scope_zip (frame_of program sets graph p) (length graph) params args
      (eqb-true (length params) arity (left_true a b (left_true (a && b) c fit)) ∙ eqb-true arity (length args) whole)
      (all_there_below (frame_of program sets graph p) (length graph) args low))
  unfolded_as args arity (code.External operation) fit whole low = sticks_good program sets graph goals n id p base

  pub unfolded_of : (f : FunId) (args : List ℕ) (o : Option Function) → slice_get program.functions f.0 ≡ o
      → is_call (elim o [ Some g ↦ Some g.arity | None ↦ None ]) (elim o [ Some g ↦ Some g.body | None ↦ None ]) (length args) ≡ true
      → list_all p args ≡ true → MoveGood program sets goals n (call_step program graph id args (elim o [ Some g ↦ Some g.body | None ↦ None ]))
  unfolded_of f args None got whole low = sticks_good program sets graph goals n id p base
  unfolded_of f args (Some g) got whole low =
      unfolded_as args g.arity g.body
      (right_true (is_arity g.arity) (fits_body program g.arity g.body)
      (all_get (fits_function program) program.functions f.0 g (functions_fit program base.code.well_formed) got))
      whole low

  pub unfolded_good : (f : FunId) (args : List ℕ) → has_arguments program (kind.Call f) (length args) ≡ true → list_all p args ≡ true
      → MoveGood program sets goals n (call_step program graph id args (body_of program f))
  unfolded_good f args whole low = unfolded_of f args (slice_get program.functions f.0) refl whole low

  -- ---- choices

  pub renaming_good : (arg : ℕ) → p arg ≡ true → GraphGood program sets goals n (put graph id (renaming arg))
  renaming_good arg low = put_good program sets graph goals n id p (renaming arg) base refl (or_right sets true refl) (both_true (p arg) true low refl)

  pub chosen_good : (args : List ℕ) → list_all p args ≡ true → MoveGood program sets goals n (choice_step graph id args)
  chosen_good (left ∷ right ∷ []) low = (
    renaming_good left (left_true (p left) (p right && true) low),
    (renaming_good right (left_true (p right) true (right_true (p left) (p right && true) low)), tt),
  )
  chosen_good _ low = sticks_good program sets graph goals n id p base

  -- ---- case distinctions

  pub takes_branch_good : (variables : List ℕ) (scope : Scope) (args : List ℕ) (o : Option Branch) → ScopeGood (frame_of program sets graph p) (length graph) variables scope
      → list_all p args ≡ true
      → ((branch : Branch) → o ≡ Some branch → (length (bound_by branch.pattern) ≡ length args)
      × (fits (length program.expressions) program (variables ++ bound_by branch.pattern) branch.body ≡ true))
      → MoveGood program sets goals n (branch_step program scope graph id args o)
  takes_branch_good variables scope args None scoped low each = fails_good program sets graph goals n id p base
  takes_branch_good variables scope args (Some branch) scoped low each =
      let this = each branch refl in
      build_good (variables ++ bound_by branch.pattern) (scope ++ zip (bound_by branch.pattern) args) branch.body this.1
      (scope_more (frame_of program sets graph p) (length graph) variables (bound_by branch.pattern) scope (zip (bound_by branch.pattern) args) scoped
      (scope_zip (frame_of program sets graph p) (length graph) (bound_by branch.pattern) args this.0
      (all_there_below (frame_of program sets graph p) (length graph) args low)))

  -- a free variable is bound
  pub bind_good : (v : ℕ) (built : Built) → v < length graph → GoodBuilt (frame_of program sets graph (λ x. false)) (length graph) built
      → Plain (written graph v built) v → GraphGood program sets goals n (written graph v built)
  bind_good v built here good is_plain_there =
      graph_good (frame_of program sets graph (λ x. false)) graph goals n v built refl base.fine base.plain base.longer here
      (λ x low. let none_left : ⊥ = true≢false (sym low) in absurd none_left) refl good (λ is. is_plain_there)

  -- to a constructor over new free variables
  pub fresh_plain : (v k : ℕ) (node : Node) → v < length graph → (i : ℕ) → i < k
      → Plain (written graph v (record { parts = free_nodes k; top = Fresh node })) (length graph + i)
  fresh_plain v k node here i below =
      let built : Built = record { parts = free_nodes k; top = Fresh node } in
      plain_as (written graph v built) (length graph + i) (alone kind.Free) (at_new graph v built i here ∙ free_at_place k i below) refl none

  pub bound_cons_good : (v k : ℕ) (c : ConId) → v < length graph → takes (arity_of program (head.Con c)) k ≡ true
      → GraphGood program sets goals n (put (graph ++ free_nodes k) v (record { kind = kind.Cons c; args = numbers (length graph) k }))
  bound_cons_good v k c here whole =
      let node : Node = record { kind = kind.Cons c; args = numbers (length graph) k } in
      let built : Built = record { parts = free_nodes k; top = Fresh node } in
      bind_good v built here
      (record {
        parts = free_nodes_good (frame_of program sets graph (λ x. false)) (length graph) k;
        top = record {
          whole = subst (λ (m : ℕ). takes (arity_of program (head.Con c)) m ≡ true) (sym (length_numbers (length graph) k)) whole;
          passing = or_right sets true refl;
          there = numbers_there (frame_of program sets graph (λ x. false)) (length graph + length (free_nodes k)) (length graph) k (omega arith)
              (rw (length_free k) (omega arith));
        };
      })
      (plain_as (written graph v built) v node (at_same graph v built here) refl
      (numbers_plain (written graph v built) (length graph) k (fresh_plain v k node here)))

  pub bound_to_good : (v : ℕ) (pattern : Shallow) → v < length graph → fits_pattern program pattern ≡ true → GraphGood program sets goals n (bound_to graph v pattern)
  bound_to_good v (code.Exactly l) here fit =
      subst (λ (g : Graph). GraphGood program sets goals n g) (put_is_written graph v (alone (kind.Lit l)))
      (bind_good v (build_alone (alone (kind.Lit l))) here
      (record { parts = tt; top = record { whole = both_true (is_literal l) true fit refl; passing = or_right sets true refl; there = refl } })
      (plain_as (written graph v (build_alone (alone (kind.Lit l)))) v (alone (kind.Lit l)) (at_same graph v (build_alone (alone (kind.Lit l))) here) refl none))
  bound_to_good v (code.Built c xs) here fit =
      bound_cons_good v (length xs) c here (left_true (takes (arity_of program (head.Con c)) (length xs)) (is_linear xs) fit)

  pub narrows_good : (v : ℕ) (branches : List Branch) → v < length graph → list_all (λ branch. fits_pattern program branch.pattern) branches ≡ true
      → MoveGood program sets goals n (narrowing_step graph v branches)
  narrows_good v [] here fit = tt
  narrows_good v (branch ∷ branches) here fit =
      let rest = list_all (λ b. fits_pattern program b.pattern) branches in (
        bound_to_good v branch.pattern here (left_true (fits_pattern program branch.pattern) rest fit),
        narrows_good v branches here (right_true (fits_pattern program branch.pattern) rest fit),
      )

  pub distinguished_good : (variables : List ℕ) (scope : Scope) (branches : List Branch) (v : ℕ) (k : Kind) (args : List ℕ)
      → ScopeGood (frame_of program sets graph p) (length graph) variables scope → list_all (fits_branch program variables) branches ≡ true
      → v < length graph → has_arguments program k (length args) ≡ true → list_all p args ≡ true
      → MoveGood program sets goals n (scrutinee_step program scope graph id branches v k args)
  distinguished_good variables scope branches v (kind.Lit l) args scoped fit here whole low =
      takes_branch_good variables scope [] (branch_for (takes_literal l) branches) scoped refl
      (λ branch found.
      let this = branch_found (takes_literal l) (fits_branch program variables) branches branch fit found in
      (literal_binds l branch.pattern this.1, right_true (fits_pattern program branch.pattern) (fits (length program.expressions) program (variables ++ bound_by branch.pattern) branch.body) this.0))
  distinguished_good variables scope branches v (kind.Cons c) args scoped fit here whole low =
      takes_branch_good variables scope args (branch_for (takes_constructor c) branches) scoped low
      (λ branch found.
      let this = branch_found (takes_constructor c) (fits_branch program variables) branches branch fit found in
      let pattern_fits = left_true (fits_pattern program branch.pattern) (fits (length program.expressions) program (variables ++ bound_by branch.pattern) branch.body) this.0 in (
        constructor_binds program c (length args) branch.pattern this.1 pattern_fits whole,
        right_true (fits_pattern program branch.pattern) (fits (length program.expressions) program (variables ++ bound_by branch.pattern) branch.body) this.0,
      ))
  distinguished_good variables scope branches v (kind.Part h) args scoped fit here whole low = fails_good program sets graph goals n id p base
  distinguished_good variables scope branches v kind.Free args scoped fit here whole low =
      narrows_good v branches here
      (all_follow (fits_branch program variables) (λ branch. fits_pattern program branch.pattern) branches
      (λ branch. left_true (fits_pattern program branch.pattern) (fits (length program.expressions) program (variables ++ bound_by branch.pattern) branch.body)) fit)
  distinguished_good variables scope branches v _ args scoped fit here whole low = sticks_good program sets graph goals n id p base

  pub case_of_good : (mode : Mode) (e scrutinee : ℕ) (values : List ℕ) (o : Option Expr) → slice_get program.expressions e ≡ o
      → is_case mode o (suc (length values)) ≡ true → p scrutinee ≡ true → list_all p values ≡ true
      → MoveGood program sets goals n (case_step program graph id scrutinee values o)
  case_of_good mode e scrutinee values (Some (code.Case other variables s branches)) got whole low lows =
      let fit : fits_case program (code.Case other variables s branches) ≡ true =
      all_get (fits_case program) program.expressions e (code.Case other variables s branches) (cases_fit program base.code.well_formed) got in
      let a = is_linear variables in
      let b = all_differ branches in
      let count : suc (length values) ≡ suc (length variables) =
      eqb-true (suc (length values)) (suc (length variables)) (right_true (same_mode mode other) (nat_eq (suc (length values)) (suc (length variables))) whole) in
      let head : HeadGood program sets graph p scrutinee = head_good scrutinee low in
      distinguished_good variables (zip variables values) branches (head_of graph scrutinee) (head_at graph scrutinee).kind (head_at graph scrutinee).args
      (scope_zip (frame_of program sets graph p) (length graph) variables values (omega (arith, count)) (all_there_below (frame_of program sets graph p) (length graph) values lows))
      (right_true (a && b) (list_all (fits_branch program variables) branches) fit) head.there head.whole head.args
  case_of_good mode e scrutinee values _ got whole low lows = sticks_good program sets graph goals n id p base

  -- ---- applications

  pub extended_if : (h : Head) (args : List ℕ) (arity : ℕ) (fewer : Bool) → nat_lt (length args) arity ≡ fewer → arity_of program h ≡ Some arity
      → is_allowed program h ≡ true → (nat_lt (length args) arity ≡ false → nat_eq arity (length args) ≡ true) → passes_head sets h ≡ true
      → list_all p args ≡ true
      → MoveGood program sets goals n (Become (put graph id (if fewer then record { kind = kind.Part h; args = args } else record { kind = kind_of_whole program h; args = args }) ∷ []))
  extended_if h args arity true less is allowed full passing low =
      puts_good program sets graph goals n id p (record { kind = kind.Part h; args = args }) base
      (both_true (is_allowed program h) (takes_more (arity_of program h) (length args)) allowed
      (subst (λ (o : Option ℕ). takes_more o (length args) ≡ true) (sym is) less))
      passing low
  extended_if h args arity false less is allowed full passing low =
      puts_good program sets graph goals n id p (record { kind = kind_of_whole program h; args = args }) base
      (whole_fits program h (length args) base.code.well_formed allowed
      (subst (λ (o : Option ℕ). takes o (length args) ≡ true) (sym is) (full less)))
      (whole_passes program sets h passing) low

  pub extended_good : (h : Head) (args : List ℕ) (argument : ℕ) (o : Option ℕ) → arity_of program h ≡ o
      → (is_allowed program h && takes_more o (length args)) ≡ true → passes_head sets h ≡ true → list_all p (args ++ argument ∷ []) ≡ true
      → MoveGood program sets goals n (Become (put graph id (extended program h (args ++ argument ∷ []) o) ∷ []))
  extended_good h args argument None is whole passing low = sticks_good program sets graph goals n id p base
  extended_good h args argument (Some arity) is whole passing low =
      let m = length (args ++ argument ∷ []) in
      let count : m ≡ length args + 1 = length-append args (argument ∷ []) in
      let allowed : is_allowed program h ≡ true = left_true (is_allowed program h) (nat_lt (length args) arity) whole in
      let fewer : length args < arity = ltb-true (length args) arity (right_true (is_allowed program h) (nat_lt (length args) arity) whole) in
      extended_if h (args ++ argument ∷ []) arity (nat_lt m arity) refl is allowed
      (λ full. eq-eqb arity m (let past : arity ≤ m = ltb-false m arity full in omega arith)) passing low

  pub applied_good : (argument : ℕ) (k : Kind) (args : List ℕ) → has_arguments program k (length args) ≡ true → passes sets k ≡ true → list_all p args ≡ true
      → p argument ≡ true → MoveGood program sets goals n (application_step program graph id argument k args)
  applied_good argument (kind.Part h) args whole passing low one =
      extended_good h args argument (arity_of program h) refl whole passing
      (list_all-append p args (argument ∷ []) ∙ both_true (list_all p args) (p argument && true) low (both_true (p argument) true one refl))
  applied_good argument _ args whole passing low one = fails_good program sets graph goals n id p base

  -- ---- numbers and characters

  pub literal_good : (l : Lit) → is_literal l ≡ true → MoveGood program sets goals n (Become (put graph id (alone (kind.Lit l)) ∷ []))
  literal_good l fit = leaf_good program sets graph goals n id p base (kind.Lit l) (both_true (is_literal l) true fit refl) (or_right sets true refl)

  pub counted_if : (operation : Primitive) (a b result : ℤ) (fit : Bool) → is_integer result ≡ fit
      → MoveGood program sets goals n (if fit then Become (put graph id (alone (kind.Lit (Int result))) ∷ []) else Overflows operation a b)
  counted_if operation a b result true fit = literal_good (Int result) fit
  counted_if operation a b result false fit = tt

  pub counted_good : (operation : Primitive) (a b result : ℤ) → MoveGood program sets goals n (integer_step graph id operation a b result)
  counted_good operation a b result = counted_if operation a b result (is_integer result) refl

  pub unless_zero : (operation : Primitive) (a b result : ℤ) (zero_divisor : Bool)
      → MoveGood program sets goals n (if zero_divisor then failing_step graph id else integer_step graph id operation a b result)
  unless_zero operation a b result true = fails_good program sets graph goals n id p base
  unless_zero operation a b result false = counted_good operation a b result

  pub calculated_good : (operation : Primitive) (a b : ℤ) → MoveGood program sets goals n (arithmetic_step program.special graph id operation a b)
  calculated_good prim.Add a b = counted_good prim.Add a b (a +ℤ b)
  calculated_good prim.Sub a b = counted_good prim.Sub a b (a -ℤ b)
  calculated_good prim.Mul a b = counted_good prim.Mul a b (a *ℤ b)
  calculated_good prim.Div a b = unless_zero prim.Div a b (floor_quotient a b) (int_eq b (pos 0))
  calculated_good prim.Mod a b = unless_zero prim.Mod a b (floor_rest a b) (int_eq b (pos 0))
  calculated_good prim.Less a b = tells_good program sets graph goals n id p base (int_lt a b)
  calculated_good prim.AtMost a b = tells_good program sets graph goals n id p base (int_le a b)
  calculated_good prim.Greater a b = tells_good program sets graph goals n id p base (int_lt b a)
  calculated_good prim.AtLeast a b = tells_good program sets graph goals n id p base (int_le b a)
  calculated_good _ a b = fails_good program sets graph goals n id p base

  pub character_if : (c : ℕ) (fit : Bool) → is_scalar c ≡ fit
      → MoveGood program sets goals n (if fit then Become (put graph id (alone (kind.Lit (Char c))) ∷ []) else failing_step graph id)
  character_if c true fit = literal_good (Char c) fit
  character_if c false fit = fails_good program sets graph goals n id p base

  pub character_good : (m : ℤ) → MoveGood program sets goals n (character_step graph id m)
  character_good (pos c) = character_if c (is_scalar c) refl
  character_good (negsuc c) = fails_good program sets graph goals n id p base

  pub computed_good : (operation : Primitive) (ks : List Kind) → list_all fits_literal ks ≡ true
      → MoveGood program sets goals n (literal_step program.special graph id operation ks)
  computed_good operation (kind.Lit (Int a) ∷ kind.Lit (Int b) ∷ []) fit = calculated_good operation a b
  computed_good prim.Ord (kind.Lit (Char c) ∷ []) fit = literal_good (Int (pos c)) (scalar_integer c (left_true (is_scalar c) true fit))
  computed_good prim.Chr (kind.Lit (Int m) ∷ []) fit = character_good m
  computed_good _ _ fit = fails_good program sets graph goals n id p base

  -- ---- conjunctions

  pub tells_or_fails : (b : Bool) → MoveGood program sets goals n (if b then truth_step program.special graph id true else failing_step graph id)
  tells_or_fails true = tells_good program sets graph goals n id p base true
  tells_or_fails false = fails_good program sets graph goals n id p base

  pub conjoined_good : (a b : Kind) → MoveGood program sets goals n (conjunction_step program.special graph id a b)
  conjoined_good a b = tells_or_fails (is_true program.special a && is_true program.special b)
