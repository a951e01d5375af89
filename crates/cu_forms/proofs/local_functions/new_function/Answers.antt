use Rattle.std.proofs.Common.{◌≡◌, length, arith}
use Rattle.cu_lex.specs.Reading.{position_of}
use Rattle.cu_forms.proofs.FunctionLemmas.{new_is}
use Rattle.cu_forms.proofs.local_functions.new_function.Goals as goal

pub returns : goal.returns
returns g c w tells =
    let size : c.in_ok-arity.arity ≡ length c.args.params.items = omega (arith, c.in_ok-arity.ensures, c.len.ensures) in
    new_is w (position_of c.args.place) c.in_module.result c.in_ok-arity.arity c.args.params c.args.body c.in_ok-rules.rules (c.in_module.ensures w tells) size c.in_ok-rules.ensures.items
