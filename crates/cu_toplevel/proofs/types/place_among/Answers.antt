use Rattle.cu_toplevel.proofs.TypeLemmas.{place_absent, place_there}
use Rattle.cu_toplevel.proofs.types.place_among.Goals as goal

pub returns-in-Some : goal.returns-in-Some
returns-in-Some c = λ owner table differ known all. place_there owner table c.args.names.now c.args.text c.place_in.result c.in-Some.place c.in-Some.is c.place_in.ensures differ known all

pub returns-in-None : goal.returns-in-None
returns-in-None c = λ owner table differ known all. place_absent owner table c.args.names.now c.args.text c.place_in.result c.in-None.is c.place_in.ensures differ known all
