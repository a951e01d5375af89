use Rattle.std.proofs.Common.{arith, Bool, List, [], refl, sym, ◌∙◌}
use denote.Ref.{Bor}
use Rattle.cu_calculus.specs.Match.{Bindings}
use Rattle.cu_kernel.specs.TermsOf.{term_of, terms_of}
use Rattle.cu_kernel.specs.declared.term.Term.{Term}
use Rattle.cu_crwl.specs.Environments.{all_about, is_about}
use Rattle.cu_crwl.specs.Meaning.{statement_of, statements_at}
use Rattle.cu_crwl.specs.declared.claim.Statement.{Statement}
use Rattle.cu_crwl.proofs.Pairwise.{IsPairwise, ends, goes_on, lengths_differ, stops}
use Rattle.cu_crwl.proofs.environment.concern_all.Goals as goal

abbrev all : Bindings → List (Bor Statement) → List Term → Bool
all env ss ts = all_about (statements_at ss) env (terms_of ts)

abbrev one : Bindings → Bor Statement → Term → Bool
one env s t = is_about (statement_of s.now) [] env (term_of t)

pairs : (env : Bindings) → IsPairwise (all env) (one env)
pairs env = record { none = refl; more = λ x y xs ys. refl; short = λ x xs. refl; long = λ y ys. refl }

pub returns-then-statements-terms : goal.returns-then-statements-terms
returns-then-statements-terms c = lengths_differ (all c.args.env.now) (one c.args.env.now) (pairs c.args.env.now) c.args.statements.now c.args.terms.now c.if-statements-terms.true

pub returns-then-not-concerns : goal.returns-then-not-concerns
returns-then-not-concerns c =
    stops (all c.args.env.now) (one c.args.env.now) (pairs c.args.env.now) c.args.statements.now c.args.terms.now c.loop-i.i c.index-statements-i.result c.index-terms-i.result
    (omega (arith, c.loop-i.invariant.0)) c.loop-i.invariant.0 c.index-statements-i.is c.index-terms-i.is (sym c.concerns.ensures ∙ c.if-not-concerns.true) c.loop-i.invariant.1

pub loop-i-preserved : goal.loop-i-preserved
loop-i-preserved c = (
  c.loop-i.invariant.0,
  goes_on (all c.args.env.now) (one c.args.env.now) (pairs c.args.env.now) c.args.statements.now c.args.terms.now c.loop-i.i c.index-statements-i.result c.index-terms-i.result
      (omega (arith, c.loop-i.invariant.0)) c.loop-i.invariant.0 c.index-statements-i.is c.index-terms-i.is (sym c.concerns.ensures ∙ c.if-not-concerns.false) c.loop-i.invariant.1,
)

pub returns : goal.returns
returns c = ends (all c.args.env.now) (one c.args.env.now) (pairs c.args.env.now) c.args.statements.now c.args.terms.now c.loop-i.i (omega (arith, c.loop-i.invariant.0)) c.loop-i.invariant.0 c.loop-i.invariant.1
