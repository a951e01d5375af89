use Rattle.cu_peg.proofs.Total.{total}
use Rattle.cu_peg.proofs.laws.each_row_decides.Goals as goal

pub returns : goal.returns
returns g c = λ has rows closed good r h text. total rows has closed good r h text
