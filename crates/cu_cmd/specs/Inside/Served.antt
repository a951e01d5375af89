-- What a session wrote, by how it ended, and what became of the counts of faults.
use Rattle.std.specs.declared.alloc.AllocError.{AllocError}
use Rattle.std.specs.Prelude.{ℕ, List, Option, Result, IfOk}
use Rattle.cu_front.specs.Compiling.{Folder}
use Rattle.cu_session.specs.Ends.{AskerCount, Ends, SinkCount, SourceCount, WritesPrefix}
use Rattle.cu_session.specs.Lines.{lines_of}
use Rattle.cu_session.specs.declared.end.SessionEnd.{SessionEnd}
use Rattle.cu_cmd.specs.Causes.{Counts}
use Rattle.cu_cmd.specs.Replies.{Replies, fresh}

-- The lines of a text were served from a fresh session on, while the library's count of faults went
-- from one number to another. What was written is due by how the session ended, and is a prefix of
-- what is due also where memory ran out.
pub record Served (served : Result SessionEnd AllocError) (folder : Folder) (text : List ℕ)
    (earlier later : ℕ) (before after : Option (List ℕ)) : Type 0 where
  pub whole : IfOk served (λ said.
      Ends said Replies (fresh folder) (lines_of text) earlier later before after)
  pub prefix : WritesPrefix Replies (fresh folder) (lines_of text) before after

-- The counts of faults rose as the end of the session says.
pub record HasCounts (served : Result SessionEnd AllocError) (old new : Counts) : Type 0 where
  pub asker : AskerCount served old.library new.library
  pub source : SourceCount served old.input new.input
  pub sink : SinkCount served old.output new.output
