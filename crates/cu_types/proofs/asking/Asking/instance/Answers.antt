use Rattle.cu_types.proofs.AskingLemmas.{adds_made}
use Rattle.cu_types.specs.Equations.{renamed}
use Rattle.cu_types.proofs.asking.Asking.instance.Goals as goal

pub returns : goal.returns
returns c =
    adds_made c.args.self.now c.add.new.self (renamed c.args.next c.args.shared.now) c.in_ok-place.place c.in_ok-place.ensures.reader
    c.in_ok-place.ensures.read
