use Rattle.std.proofs.Common.{◌≡◌, length, map, refl, arith}
use Rattle.cu_types.proofs.GrowingLemmas.{grows_pushed}
use Rattle.cu_types.proofs.TableLemmas.{mapped_length}
use Rattle.cu_types.proofs.Unfolding.{pushed_shapes}
use Rattle.cu_types.proofs.unification.Subst.add.Goals as goal
use Rattle.cu_types.specs.Table.{shape_of}

pub returns : goal.returns
returns c =
    let here : c.len-place.result ≡ length (map shape_of c.args.self.now.types.items) =
    omega (arith, c.len-place.ensures, mapped_length shape_of c.args.self.now.types.items, c.args.self.now.types.ok.0) in
    grows_pushed c.args.self.now c.push.new.self (shape_of c.args.node) c.len-place.result c.requires.table c.requires.places
    c.requires.may
    (pushed_shapes c.args.self.now.types.items c.push.new.self.items c.args.node (shape_of c.args.node) c.in_ok-push.ensures.items refl)
    here
