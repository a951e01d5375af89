-- A good assignment stays good over claims that have further rows.
use Rattle.std.proofs.Common.{ℕ, List, [], ◌∷◌}
use Rattle.cu_calculus.specs.declared.Head.{Head}
use Rattle.cu_calculus.specs.declared.Head.TheVariants as head
use Rattle.cu_calculus.specs.declared.ExprId.{ExprId}
use Rattle.cu_calculus.specs.Code.{Code}
use Rattle.cu_calculus.specs.FlatProgram.{program_of}
use Rattle.cu_calculus.specs.Gives.{Applied, AppliedTo, Claim}
use Rattle.cu_calculus.specs.Program.{Program}
use Rattle.cu_calculus.specs.Rows.{AreRows, applied_cited, applied_to_cited}
use Rattle.cu_calculus.specs.Value.{Value, Values}
use Rattle.cu_calculus.proofs.MoreClaims.{applied_by_rows, applied_cited_rows, applied_to_by_rows, applied_to_cited_rows, give_more, rows_trans}
use Rattle.cu_machine.specs.declared.Kind.{Kind}
use Rattle.cu_machine.specs.declared.Kind.TheVariants as kind
use Rattle.cu_machine.specs.Graph.{Graph, node_at}
use Rattle.cu_laws.specs.Good.{Assignment, Distinguished, Good, MayHave, NoValue}
use Rattle.cu_laws.proofs.ApplyRows.{at_most_as}

applied_more : (program : Program) (claims others : List Claim) (h : Head) (us : Values) (v : Value) → AreRows claims others → Applied program claims h us v
    → Applied program others h us v
applied_more program claims others h us v rows d =
    applied_by_rows program claims others h us v d (rows_trans (applied_cited program claims h us v d) claims others (applied_cited_rows program claims h us v d) rows)

applied_to_more : (program : Program) (claims others : List Claim) (w u v : Value) → AreRows claims others → AppliedTo program claims w u v → AppliedTo program others w u v
applied_to_more program claims others w u v rows d =
    applied_to_by_rows program claims others w u v d (rows_trans (applied_to_cited program claims w u v d) claims others (applied_to_cited_rows program claims w u v d) rows)

distinguished_more : (program : Code) (claims others : List Claim) (e : ExprId) (u : Value) (us : List Value) (v : Value) → AreRows claims others
    → Distinguished program claims e u us v → Distinguished program others e u us v
distinguished_more program claims others e u us v rows d = record {
  mode = d.mode;
  kept = d.kept;
  scrutinee = d.scrutinee;
  branches = d.branches;
  code_is = d.code_is;
  term = d.term;
  bindings = d.bindings;
  selects = d.selects;
  gives = give_more (program_of program) claims others _ d.term v rows d.gives;
}

may_have_more : (program : Code) (claims others : List Claim) (assigned : Assignment) (k : Kind) (args : List ℕ) (v : Value) → AreRows claims others
    → MayHave NoValue program claims assigned k args v → MayHave NoValue program others assigned k args v
may_have_more program claims others assigned (kind.Cons c) args v rows may =
    at_most_as _ _ v may (λ w app. applied_more (program_of program) claims others (head.Con c) _ w rows app)
may_have_more program claims others assigned (kind.Call f) args v rows may =
    at_most_as _ _ v may (λ w app. applied_more (program_of program) claims others (head.Fun f) _ w rows app)
may_have_more program claims others assigned (kind.SetCall f) args v rows may =
    at_most_as _ _ v may (λ w app. applied_more (program_of program) claims others (head.Set f) _ w rows app)
may_have_more program claims others assigned kind.Apply (function ∷ argument ∷ []) v rows may =
    at_most_as _ _ v may (λ w app. applied_to_more (program_of program) claims others _ _ w rows app)
may_have_more program claims others assigned (kind.Case mode e) (scrutinee ∷ kept) v rows may =
    at_most_as _ _ v may (λ w d. distinguished_more program claims others _ _ _ w rows d)
may_have_more program claims others assigned _ args v rows may = may

pub good_more : (program : Code) (claims others : List Claim) (graph : Graph) (assigned : Assignment) → AreRows claims others → Good program claims graph assigned
    → Good program others graph assigned
good_more program claims others graph assigned rows good = record {
  of_program = good.of_program;
  each = λ x below. may_have_more program claims others assigned (node_at graph x).kind (node_at graph x).args (assigned x) rows (good.each x below);
}
