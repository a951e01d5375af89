use Rattle.cu_forms.proofs.local_functions.counted.Goals as goal

pub returns-in-Ok : goal.returns-in-Ok
returns-in-Ok c = c.in-Ok.ensures.1
