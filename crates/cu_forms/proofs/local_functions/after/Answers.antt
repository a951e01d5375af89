use Rattle.cu_forms.proofs.FunctionLemmas.{after_all, take_rest}
use Rattle.cu_forms.proofs.local_functions.after.Goals as goal

pub returns-then-count-qualifiers : goal.returns-then-count-qualifiers
returns-then-count-qualifiers c = after_all c.args.count c.args.qualifiers.now c.if-count-qualifiers.true

pub returns : goal.returns
returns c = take_rest c.args.count c.args.qualifiers.now
