use Rattle.cu_deftree.proofs.NameLaws.{first_name, later_name}
use Rattle.cu_deftree.proofs.names.Names.+name.Goals as goal

pub returns-in-Some : goal.returns-in-Some
returns-in-Some t c = first_name c.args.self.now c.in-WithAll.names c.in-WithAll.around c.args.x c.in-Some.name c.in-WithAll.is c.in-Some.ensures

pub returns-in-None : goal.returns-in-None
returns-in-None t c =
    later_name c.args.self.now c.in-WithAll.names c.in-WithAll.around c.args.x c.name-in-None.result c.in-WithAll.is c.in-None.ensures c.name-in-None.ensures
