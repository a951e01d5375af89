use Rattle.std.proofs.Common.{map}
use Rattle.cu_kernel.specs.TermsOf.{pattern_of}
use Rattle.cu_forms.specs.Inside.Functions.{parameter_of}
use Rattle.cu_forms.proofs.BlockLemmas.{default_name}
use Rattle.cu_forms.proofs.CallLemmas.{pushed_all, pushed_one}
use Rattle.cu_forms.proofs.local_functions.parameters.Goals as goal

pub loop-name-preserved : goal.loop-name-preserved
loop-name-preserved g c w tells =
    let f = parameter_of w in
    pushed_one pattern_of f c.args.names.now c.loop-name.name-index default_name c.loop-name.found.items c.push.new.self.items c.parameter.result (map f c.args.names.now) c.loop-name-test.true
    c.in_ok-push.ensures.items (c.parameter.ensures w tells) (c.loop-name.invariant w tells)

pub returns : goal.returns
returns g c w tells =
    let f = parameter_of w in
    pushed_all pattern_of f c.args.names.now c.loop-name.name-index c.loop-name.found.items (map f c.args.names.now) c.loop-name-test.false (c.loop-name.invariant w tells)
