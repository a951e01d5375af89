use Rattle.cu_machine.proofs.RowMoves.{row_moves}
use Rattle.cu_machine.proofs.MoveRows.{moves_row}
use Rattle.cu_machine.proofs.RigidRows.{rigid_waits}
use Rattle.cu_machine.proofs.laws.rows_are_moves.Goals as goal

pub returns : goal.returns
returns c = record { rows = λ program graph after id step. row_moves program graph id after step; moves = moves_row; rigid = rigid_waits }
