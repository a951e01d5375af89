-- The listings of the example are computed.
use Rattle.std.proofs.Common.{refl}
use Rattle.cu_machine.specs.Build.{build_within}
use Rattle.cu_machine.specs.Graph.{head_within}
use Rattle.cu_machine.specs.Listing.{round_of, rounds}
use Rattle.cu_machine.specs.Need.{need_within}
use Rattle.cu_machine.specs.Next.{next}
use Rattle.cu_machine.specs.Run.{run_on}
use Rattle.cu_machine.specs.Spell.{spelled_within}
use Rattle.cu_machine.proofs.CoinFound.{coin_found}
use Rattle.cu_machine.proofs.laws.coins_are_listed.Goals as goal

pub returns : goal.returns
unfolding build_within head_within round_of rounds need_within next run_on spelled_within
returns c = record { code = refl; one = refl; two = refl; three = refl; choice = refl; endless = refl; all = refl; found = coin_found }
