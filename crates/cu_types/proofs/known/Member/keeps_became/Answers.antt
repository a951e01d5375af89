use Rattle.std.proofs.Common.{ℕ, List, Option, Some, option_map, sym, ap, subst, ◌∙◌}
use Rattle.std.specs.declared.alloc.Global.{Global}
use Rattle.std.specs.declared.vec.Vec.{Vec}
use Rattle.cu_types.proofs.known.Member.keeps_became.Goals as goal
use Rattle.cu_types.specs.Inside.Keeping.{Told, joined_if}
use Rattle.cu_types.specs.Meaning.{subst_of}

pub returns-in-Some : goal.returns-in-Some
returns-in-Some c =
    subst (λ (o : Option (List ℕ)). Told c.in_ok-kept-in-Some.kept c.keeps_variables.new.seen.keys
    (joined_if (subst_of c.args.subst.now) c.args.seen.now.keys c.args.self.now.first c.args.self.now.captured o))
    (ap Some c.as_slice.ensures.value ∙ sym (ap (λ (o : Option (Vec ℕ Global)). option_map (λ ys. ys.items) o) c.in-Some.is))
    c.in_ok-kept-in-Some.ensures

pub returns : goal.returns
returns c =
    ap (λ (o : Option (Vec ℕ Global)). joined_if (subst_of c.args.subst.now) c.args.seen.now.keys c.args.self.now.first
    c.args.self.now.captured (option_map (λ ys. ys.items) o)) c.in-None.is
