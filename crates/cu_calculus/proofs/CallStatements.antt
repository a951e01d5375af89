-- That a function on argument values concludes a value is what a proof of the call's statement
-- says.
use Rattle.std.proofs.Common.{◌≡◌, ℕ, zero, suc, ◌+◌, Bool, true, false, ◌&&◌, List, [], ◌∷◌, Some, IsTrue, if◌then◌else◌, nat_eq, nat_lt, slice_get, refl, ap, sym, ◌∙◌, subst, arith, add-one, eq-eqb, ne_eqb, lt-ltb}
use Rattle.std.specs.List.{list_all}
use Rattle.std.specs.Prelude.{slice_index_or}
use Rattle.std.proofs.lemmas.Bool.{and_from, and_parts}
use mathlib.Core.Path.{fun_ext}
use Rattle.cu_calculus.specs.declared.FunId.{FunId}
use Rattle.cu_calculus.specs.declared.Head.TheVariants as head
use Rattle.cu_calculus.specs.Calls.{bindings_from, call_statement}
use Rattle.cu_calculus.specs.Claims.{Concludes, arguments_env, variables_from}
use Rattle.cu_calculus.specs.Gives.{Claim, Gives}
use Rattle.cu_calculus.specs.Match.{Environment, bind_all, empty}
use Rattle.cu_calculus.specs.Program.{Program, arity_in}
use Rattle.cu_calculus.specs.Proof.{Statement, Step, are_rising, env_of, is_claim_of, is_statement_of, statements}
use Rattle.cu_calculus.specs.Proved.{IsProved}
use Rattle.cu_calculus.specs.Shape.{are_of, is_of, takes}
use Rattle.cu_calculus.specs.Term as term
use Rattle.cu_calculus.specs.Term.{Term}
use Rattle.cu_calculus.specs.Valid.{IsValid, fit_terms, fits_term, term_count}
use Rattle.cu_calculus.specs.Value as value
use Rattle.cu_calculus.specs.Value.{Value, Values, count, list_of}
use Rattle.cu_calculus.proofs.Fitting.{any}
use Rattle.cu_calculus.proofs.ListToRelation.{concluded, conclusion_stands}
use Rattle.cu_calculus.proofs.OfProgram.{EnvOf, bind_all_of, bindings_of}
use Rattle.cu_calculus.proofs.RelationToList.{proved}
use Rattle.cu_calculus.proofs.ValuesOf.{gives_of}

from_rising : (x : ℕ) (vs : Values) → IsTrue (are_rising (bindings_from x vs))
from_rising x value.NoValue = refl
from_rising x (value.MoreValues v value.NoValue) = refl
from_rising x (value.MoreValues v (value.MoreValues u vs)) =
    and_from (nat_lt x (x + 1)) (are_rising (bindings_from (x + 1) (value.MoreValues u vs))) (lt-ltb x (x + 1) (omega arith))
    (from_rising (x + 1) (value.MoreValues u vs))

from_of : (program : Program) (x : ℕ) (vs : Values) → IsTrue (are_of program vs) → IsTrue (bindings_of program (bindings_from x vs))
from_of program x value.NoValue h = refl
from_of program x (value.MoreValues v vs) h =
    let parts = and_parts (is_of program v) (are_of program vs) h in
    and_from (is_of program v) (bindings_of program (bindings_from (x + 1) vs)) parts.0 (from_of program (x + 1) vs parts.1)

of_from : (program : Program) (x : ℕ) (vs : Values) → IsTrue (bindings_of program (bindings_from x vs)) → IsTrue (are_of program vs)
of_from program x value.NoValue h = refl
of_from program x (value.MoreValues v vs) h =
    let parts = and_parts (is_of program v) (bindings_of program (bindings_from (x + 1) vs)) h in
    and_from (is_of program v) (are_of program vs) parts.0 (of_from program (x + 1) vs parts.1)

-- what the bindings of a call say
from_says : (x : ℕ) (vs : Values) (y k : ℕ) → y ≡ x + k → bind_all empty (bindings_from x vs) y ≡ slice_index_or (list_of vs) k value.Bottom
from_says x value.NoValue y k e = refl
from_says x (value.MoreValues v vs) y zero e =
    let here : nat_eq x y ≡ true = eq-eqb x y (omega arith) in
    ap (λ (b : Bool). if b then v else bind_all empty (bindings_from (x + 1) vs) y) here
from_says x (value.MoreValues v vs) y (suc k) e =
    let elsewhere : nat_eq x y ≡ false = ne_eqb x y (λ same. omega arith) in
    ap (λ (b : Bool). if b then v else bind_all empty (bindings_from (x + 1) vs) y) elsewhere ∙ from_says (x + 1) vs y k (omega arith)

call_env : (f : FunId) (vs : Values) (v : Value) → env_of (call_statement f vs v) ≡ arguments_env vs
call_env f vs v = fun_ext (λ x. from_says 0 vs x x (omega arith))

variables_count : (x n : ℕ) → term_count (variables_from x n) ≡ n
variables_count x zero = refl
variables_count x (suc n) = ap (λ m. m + 1) (variables_count (x + 1) n) ∙ add-one n

variables_fit : (program : Program) (x n : ℕ) → IsTrue (fit_terms program any (variables_from x n))
variables_fit program x zero = refl
variables_fit program x (suc n) = and_from true (fit_terms program any (variables_from (x + 1) n)) refl (variables_fit program (x + 1) n)

call_fits : (program : Program) (f : FunId) (vs : Values) → IsTrue (takes (arity_in program (head.Fun f)) (count vs))
    → IsTrue (fits_term program any (term.Whole (head.Fun f) (variables_from 0 (count vs))))
call_fits program f vs h =
    let ts = variables_from 0 (count vs) in
    let whole : IsTrue (takes (arity_in program (head.Fun f)) (term_count ts)) =
    subst (λ (n : ℕ). IsTrue (takes (arity_in program (head.Fun f)) n)) (sym (variables_count 0 (count vs))) h in
    and_from (true && takes (arity_in program (head.Fun f)) (term_count ts)) (fit_terms program any ts)
    (and_from true (takes (arity_in program (head.Fun f)) (term_count ts)) refl whole) (variables_fit program 0 (count vs))

fits_call : (program : Program) (f : FunId) (vs : Values) → IsTrue (fits_term program any (term.Whole (head.Fun f) (variables_from 0 (count vs))))
    → IsTrue (takes (arity_in program (head.Fun f)) (count vs))
fits_call program f vs h =
    let ts = variables_from 0 (count vs) in
    let parts = and_parts (true && takes (arity_in program (head.Fun f)) (term_count ts)) (fit_terms program any ts) h in
    subst (λ (n : ℕ). IsTrue (takes (arity_in program (head.Fun f)) n)) (variables_count 0 (count vs))
    (and_parts true (takes (arity_in program (head.Fun f)) (term_count ts)) parts.0).1

-- the environment of a call has values of the program
call_of : (program : Program) (vs : Values) → IsTrue (are_of program vs) → EnvOf program (arguments_env vs)
call_of program vs h x =
    subst (λ (v : Value). IsTrue (is_of program v)) (from_says 0 vs x x (omega arith))
    (bind_all_of program empty (bindings_from 0 vs) (λ y. refl) (from_of program 0 vs h) x)

-- what a call concludes is a value of the program
pub concludes_of : (program : Program) (claims : List Claim) (f : FunId) (vs : Values) (v : Value) → IsValid program
    → IsTrue (list_all (is_claim_of program) claims) → Concludes program claims f vs v → IsTrue (is_of program v)
concludes_of program claims f vs v valid claimed h =
    gives_of program claims valid claimed (arguments_env vs) (term.Whole (head.Fun f) (variables_from 0 (count vs))) v h.2
    (call_of program vs h.1) (call_fits program f vs h.0)

pub concludes_proved : (program : Program) (claims : List Claim) (f : FunId) (vs : Values) (v : Value) → IsValid program
    → IsTrue (list_all (is_claim_of program) claims) → Concludes program claims f vs v → IsProved program claims (call_statement f vs v)
concludes_proved program claims f vs v valid claimed h =
    let bindings = bindings_from 0 vs in
    let t = term.Whole (head.Fun f) (variables_from 0 (count vs)) in
    let known = concludes_of program claims f vs v valid claimed h in
    let statement : IsTrue (is_statement_of program (call_statement f vs v)) =
    and_from (are_rising bindings && bindings_of program bindings && fits_term program any t) (is_of program v)
    (and_from (are_rising bindings && bindings_of program bindings) (fits_term program any t)
    (and_from (are_rising bindings) (bindings_of program bindings) (from_rising 0 vs) (from_of program 0 vs h.1)) (call_fits program f vs h.0)) known in
    proved program claims valid claimed (call_statement f vs v) statement
    (subst (λ (e : Environment). Gives program claims e t v) (sym (call_env f vs v)) h.2)

pub proved_concludes : (program : Program) (claims : List Claim) (f : FunId) (vs : Values) (v : Value)
    → IsProved program claims (call_statement f vs v) → Concludes program claims f vs v
proved_concludes program claims f vs v h =
    let s = call_statement f vs v in
    let t = term.Whole (head.Fun f) (variables_from 0 (count vs)) in
    let bindings = bindings_from 0 vs in
    let place = conclusion_stands h.0 s h.2 in
    let speaks : IsTrue (is_statement_of program s) = speaks_at h.0 place.0 s h.1.speaks place.1 in
    let outer = and_parts (are_rising bindings && bindings_of program bindings && fits_term program any t) (is_of program v) speaks in
    let inner = and_parts (are_rising bindings && bindings_of program bindings) (fits_term program any t) outer.0 in
    let known = and_parts (are_rising bindings) (bindings_of program bindings) inner.0 in (
      fits_call program f vs inner.1,
      of_from program 0 vs known.1,
      subst (λ (e : Environment). Gives program claims e t v) (call_env f vs v) (concluded program claims h.0 s h.1.follows h.2),
    )
  where
    speaks_at : (steps : List Step) (k : ℕ) (s : Statement) → IsTrue (list_all (λ step. is_statement_of program step.statement) steps)
        → slice_get (statements steps) k ≡ Some s → IsTrue (is_statement_of program s)
    speaks_at [] k s h e = let no : ⊥ = cc in absurd no
    speaks_at (step ∷ steps) zero s h e =
        let same : step.statement ≡ s = cc in
        subst (λ (x : Statement). IsTrue (is_statement_of program x)) same
        (and_parts (is_statement_of program step.statement) (list_all (λ a. is_statement_of program a.statement) steps) h).0
    speaks_at (step ∷ steps) (suc k) s h e =
        speaks_at steps k s (and_parts (is_statement_of program step.statement) (list_all (λ a. is_statement_of program a.statement) steps) h).1 e
