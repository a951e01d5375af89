-- A node that fails, and one that gets stuck, has no value, and so it had what any node may have.
use Rattle.std.proofs.Common.{◌≡◌, ℕ, Bool, true, false, List, refl, sym, true≢false}
use Rattle.cu_calculus.specs.Code.{Code}
use Rattle.cu_calculus.specs.Gives.{Claim}
use Rattle.cu_machine.specs.declared.Kind.{Kind}
use Rattle.cu_machine.specs.declared.Kind.TheVariants as kind
use Rattle.cu_machine.specs.Graph.{Graph, alone, node_at, put}
use Rattle.cu_machine.specs.Steps.{failing, node}
use Rattle.cu_laws.specs.Good.{Assignment, Good}
use Rattle.cu_laws.proofs.Changed.{Sound, changed_by_put, is_free, new_may, sound_of_nothing}
use Rattle.cu_laws.proofs.Raising.{is_ind, is_stuck, there_unless_stuck}

-- kinds of nodes that rows rewrite
abbrev pub is_worked : Kind → Bool
is_worked (kind.Call f) = true
is_worked (kind.Prim operation) = true
is_worked kind.Apply = true
is_worked (kind.Case mode e) = true
is_worked kind.Or = true
is_worked (kind.SetCall f) = true
is_worked _ = false

worked_not_stuck : (k : Kind) → is_worked k ≡ true → is_stuck k ≡ false
worked_not_stuck kind.Stuck worked = absurd (true≢false (sym worked))
worked_not_stuck _ worked = refl

worked_not_free : (k : Kind) → is_worked k ≡ true → is_free k ≡ false
worked_not_free kind.Free worked = absurd (true≢false (sym worked))
worked_not_free _ worked = refl

worked_no_ind : (k : Kind) → is_worked k ≡ true → is_ind k ≡ false
worked_no_ind kind.Ind worked = absurd (true≢false (sym worked))
worked_no_ind _ worked = refl

pub failing_sound : (program : Code) (claims : List Claim) (graph after : Graph) (id : ℕ) (k : Kind) (args : List ℕ) (later : Assignment)
    → node_at graph id ≡ node k args → is_worked k ≡ true → after ≡ failing graph id → Good program claims after later → Sound program claims graph later
failing_sound program claims graph after id k args later is worked after_is good =
    let changed = changed_by_put graph id after (alone kind.Fail) (there_unless_stuck graph id k args is (worked_not_stuck k worked)) after_is in
    sound_of_nothing program claims graph id after (alone kind.Fail) k args later is (worked_not_free k worked) (worked_no_ind k worked) changed good
    (new_may program claims graph id after (alone kind.Fail) later changed good)

pub sticking_sound : (program : Code) (claims : List Claim) (graph after : Graph) (id : ℕ) (k : Kind) (args : List ℕ) (later : Assignment)
    → node_at graph id ≡ node k args → is_worked k ≡ true → after ≡ put graph id (alone kind.Stuck) → Good program claims after later → Sound program claims graph later
sticking_sound program claims graph after id k args later is worked after_is good =
    let changed = changed_by_put graph id after (alone kind.Stuck) (there_unless_stuck graph id k args is (worked_not_stuck k worked)) after_is in
    sound_of_nothing program claims graph id after (alone kind.Stuck) k args later is (worked_not_free k worked) (worked_no_ind k worked) changed good
    (new_may program claims graph id after (alone kind.Stuck) later changed good)
