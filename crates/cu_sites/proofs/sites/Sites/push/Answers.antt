use Rattle.std.proofs.Common.{refl}
use Rattle.cu_sites.proofs.sites.Sites.push.Goals as goal

pub returns : goal.returns
returns c = record { entries = refl; blocks = refl; nodes = c.in_ok-push.ensures.items }
