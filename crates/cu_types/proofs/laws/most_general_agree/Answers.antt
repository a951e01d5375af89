use Rattle.cu_types.proofs.laws.most_general_agree.Goals as goal

pub returns : goal.returns
returns c = λ equations σ τ first second. (second.general σ first.solves, first.general τ second.solves)
