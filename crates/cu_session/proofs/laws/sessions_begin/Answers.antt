-- By induction over the session.
use Rattle.cu_session.proofs.SessionLemmas.{session_begins}
use Rattle.cu_session.proofs.laws.sessions_begin.Goals as goal

pub returns : goal.returns
returns g c = λ state lines replies ending h. session_begins g.A.Asker.answers state lines replies ending h
