use Rattle.std.proofs.Common.{[], None}
use Rattle.cu_modules.proofs.BroughtLemmas.{same_bound}
use Rattle.cu_modules.proofs.binding.unqualified.Goals as goal

pub returns : goal.returns
returns c = λ names mine differ are.
    same_bound names [] None mine c.args.own.now c.bind_all.new.self are (c.in_ok-bind_all.ensures names [] differ tt are.known (c.new-scope.ensures names))
