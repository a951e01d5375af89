use Rattle.std.proofs.Common.{◌∙◌}
use Rattle.cu_forms.proofs.ScopeLemmas.{found_inside, found_outermost, missing_inside}
use Rattle.cu_forms.proofs.scope.Scope.+called.Goals as goal

pub returns-in-Outermost : goal.returns-in-Outermost
returns-in-Outermost t c = c.meaning_in.ensures ∙ found_outermost c.args.text c.args.self.now c.in-Outermost.entries c.in-Outermost.is

pub returns-in-Some : goal.returns-in-Some
returns-in-Some t c = found_inside c.args.text c.args.self.now c.in-Inside.entries c.in-Inside.around c.in-Some.local c.in-Inside.is c.in-Some.ensures

pub returns-in-None : goal.returns-in-None
returns-in-None t c = missing_inside c.args.text c.args.self.now c.in-Inside.entries c.in-Inside.around c.called.result c.in-Inside.is c.in-None.ensures c.called.ensures
