use Rattle.std.proofs.Common.{◌≡◌, List, length, map, refl, subst, sym}
use Rattle.std.specs.Prelude.{Err, Ok}
use Rattle.std.proofs.lemmas.Option.{slice_get_read}
use Rattle.cu_calculus.proofs.Lists.{get_map}
use Rattle.cu_kernel.specs.KernelOf.{function_meaning}
use Rattle.cu_kernel.specs.declared.term.Function.{Function}
use Rattle.cu_deftree.specs.Inside.Functions.{AreLowered, LowersFunction}
use Rattle.cu_deftree.specs.Inside.Ready.{program_in}
use Rattle.cu_deftree.specs.declared.tasks.Stop.TheVariants as stop
use Rattle.cu_deftree.proofs.LoweredFunctions.{all_lowered, next_lowered, none_lowered}
use Rattle.cu_deftree.proofs.trees.Lowerer.functions.Goals as goal

pub loop-index-init : goal.loop-index-init
loop-index-init c =
    let fs = map function_meaning c.args.functions.now in
    subst (λ (xs : List Function). AreLowered (program_in c.args.self.now) fs 0 (map function_meaning xs)) (sym c.new-lowered.ensures.items)
    (none_lowered (program_in c.args.self.now) fs)

pub function-requires : goal.function-requires
function-requires c = c.requires

pub returns-in-Err-TooBig : goal.returns-in-Err-TooBig
returns-in-Err-TooBig c =
    let fs = c.args.functions.now in
    let is = c.in-Err-TooBig.is in
    let big = c.in-Err-TooBig.field-0-is in
    let same : c.function.result ≡ Err stop.TooBig = cc in
    record {
      before = map function_meaning c.loop-index.lowered.items;
      are_lowered = c.loop-index.invariant;
      function = function_meaning c.index-functions-index.result;
      there = get_map function_meaning fs c.loop-index.index c.index-functions-index.result
          (slice_get_read fs (length fs) c.loop-index.index c.index-functions-index.result refl c.loop-index-test.true c.index-functions-index.is);
      too_big = subst (λ r. LowersFunction (program_in c.args.self.now) (function_meaning c.index-functions-index.result) r) same c.function.ensures;
    }

pub loop-index-preserved : goal.loop-index-preserved
loop-index-preserved c =
    let fs = c.args.functions.now in
    let is = c.in-Ok.is in
    let one = c.in-Ok.one-is in
    let same : c.function.result ≡ Ok c.in-Ok.one = cc in
    next_lowered (program_in c.args.self.now) fs c.loop-index.lowered.items c.push.new.self.items c.loop-index.index c.index-functions-index.result c.in-Ok.one
    c.loop-index.invariant
    (slice_get_read fs (length fs) c.loop-index.index c.index-functions-index.result refl c.loop-index-test.true c.index-functions-index.is)
    (subst (λ r. LowersFunction (program_in c.args.self.now) (function_meaning c.index-functions-index.result) r) same c.function.ensures)
    c.in_ok-push-in-Ok.ensures.items

pub returns : goal.returns
returns c =
    all_lowered (program_in c.args.self.now) c.args.functions.now c.loop-index.lowered.items c.loop-index.index c.loop-index.auto.index-end
    c.loop-index-test.false c.loop-index.invariant
