use Rattle.std.proofs.lemmas.Result.{on_ok_weaker}
use Rattle.cu_deftree.proofs.NameLaws.{alias_names, built_names, literal_names}
use Rattle.cu_deftree.proofs.patterns.+push_names.Goals as goal

pub returns-in-Lit : goal.returns-in-Lit
returns-in-Lit t c = literal_names c.args.names.now.items c.args.position c.args.pattern.now c.in-Lit.field-0 c.in-Lit.is

pub returns-in-Con : goal.returns-in-Con
returns-in-Con t c = built_names c.args.names.now.items c.args.position c.args.pattern.now c.in-Con.field-0 c.in-Con.field-1 c.in-Con.is

pub returns-in_ok-push-in-Alias : goal.returns-in_ok-push-in-Alias
returns-in_ok-push-in-Alias t c =
    on_ok_weaker c.push_names.result
    (alias_names c.args.names.now.items c.push-in-Alias.new.self.items c.push_names.new.names.items c.args.position c.args.pattern.now
    c.deref.result.now c.in-Alias.x c.in-Alias.part c.in-Alias.is c.deref.ensures c.in_ok-push-in-Alias.ensures.items)
    c.push_names.ensures
