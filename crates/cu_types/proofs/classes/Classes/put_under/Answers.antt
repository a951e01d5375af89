use Rattle.std.proofs.Common.{◌≡◌, ℕ, List, set, sym, ap, subst}
use Rattle.cu_types.proofs.ForestLemmas.{joined_represents}
use Rattle.cu_types.proofs.classes.Classes.put_under.Goals as goal
use Rattle.cu_types.proofs.classes.Classes.put_under.Goals.{then-index-rank+in_ok-self, else-index-rank}
use Rattle.cu_types.specs.Inside.Classes.{Represents, joined}
use Rattle.cu_types.specs.declared.classes.Classes.{Classes}

pub returns-clause-class : goal.returns-clause-class
returns-clause-class c = λ class r.
    let same : c.if-index-rank.self.parents.items ≡ c.args.self.now.parents.items =
    elim c.if-index-rank.branch [
      | then-index-rank+in_ok-self w ↦ ap (λ (s : Classes). s.parents.items) w.self-is
      | else-index-rank w ↦ ap (λ (s : Classes). s.parents.items) w.self-is
    ] in
    subst (λ (ps : List ℕ). Represents (set ps c.args.child c.args.root) (joined c.args.child c.args.root class)) (sym same)
    (joined_represents c.args.self.now.parents.items c.args.child c.args.root class
    (record {
      child_within = c.requires.child;
      root_within = c.requires.root;
      apart = c.requires.apart;
      child_root = c.requires.child_root;
      root_root = c.requires.root_root;
    }) r)
