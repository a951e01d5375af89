-- The worked example, computed.
use Rattle.std.proofs.Common.{◌≡◌, refl}
use Rattle.std.specs.Fmt.{digits}
use Rattle.cu_flattext.specs.Text.{module_text}
use Rattle.cu_flattext.specs.TypeTexts.{leads_to_itself, leads_within}
use Rattle.cu_flattext.specs.Worked.{worked, worked_text}

pub worked_is_printed : module_text worked 1 ≡ worked_text
unfolding digits leads_to_itself leads_within
worked_is_printed = refl
