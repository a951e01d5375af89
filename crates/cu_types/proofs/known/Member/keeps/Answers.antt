use Rattle.std.proofs.Common.{Option, sym, ap, subst}
use Rattle.cu_kernel.specs.TypeExpr.{TypeExpr}
use Rattle.cu_types.proofs.known.Member.keeps.Goals as goal
use Rattle.cu_types.specs.Inside.Keeping.{Told, with_declared}
use Rattle.cu_types.specs.Meaning.{subst_of}

pub keeps_type-requires-clause-table : goal.keeps_type-requires-clause-table
keeps_type-requires-clause-table c = c.requires.table

pub keeps_type-requires-clause-places : goal.keeps_type-requires-clause-places
keeps_type-requires-clause-places c = c.requires.places

pub returns-in_ok-kept-in-Some : goal.returns-in_ok-kept-in-Some
returns-in_ok-kept-in-Some c =
    subst (λ (o : Option TypeExpr). Told c.in_ok-kept-in-Some.kept c.keeps_type.new.seen.keys
    (with_declared (subst_of c.args.subst.now) c.args.seen.now.keys c.args.self.now.first c.args.self.now.arity c.args.self.now.captured o))
    (sym c.in-Some.is) c.in_ok-kept-in-Some.ensures

pub returns-in-None : goal.returns-in-None
returns-in-None c =
    ap (λ (o : Option TypeExpr). with_declared (subst_of c.args.subst.now) c.args.seen.now.keys c.args.self.now.first c.args.self.now.arity
    c.args.self.now.captured o) c.in-None.is
