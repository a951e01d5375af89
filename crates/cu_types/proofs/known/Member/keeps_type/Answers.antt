use Rattle.std.proofs.Common.{◌≡◌, option_map, sym, subst, ◌∙◌, arith}
use Rattle.cu_types.proofs.KeepingLemmas.{type_became}
use Rattle.cu_types.proofs.known.Member.keeps_type.Goals as goal
use Rattle.cu_types.specs.Equations.{breadth}
use Rattle.cu_types.specs.Inside.Keeping.{Told}
use Rattle.cu_types.specs.Meaning.{subst_of}

pub returns : goal.returns
returns c =
    let same : c.in-Ok.count ≡ c.in_ok-found.found = omega (arith, c.in-Ok.ensures) in
    let counted : c.in-Ok.count ≡ breadth c.args.declared.now = same ∙ c.in_ok-found.ensures in
    subst (Told c.in_ok-kept.kept c.keeps_became.new.seen.keys)
    (sym (type_became (subst_of c.args.subst.now) c.args.seen.now.keys c.args.self.now.first c.args.self.now.arity
    c.args.self.now.captured c.in-Some.first c.in-Ok.count c.args.declared.now (option_map (λ ys. ys.items) c.in_ok-became.became)
    c.in-Some.ensures counted c.in_ok-became.ensures))
    c.in_ok-kept.ensures
