use Rattle.std.proofs.Common.{◌∙◌, ◌∷◌, [], ap, map, subst, sym}
use Rattle.std.specs.List.{All}
use Rattle.std.specs.declared.alloc.Global.{Global}
use Rattle.std.specs.declared.vec.Vec.{Vec}
use Rattle.cu_forms.proofs.CallLemmas.{if_ok}
use Rattle.cu_kernel.specs.LocalKernel.{LocalFunction}
use Rattle.cu_kernel.specs.LocalKernelOf.{local_function_meaning}
use Rattle.cu_sites.specs.Meaning.{blocks_in}
use Rattle.cu_syntax.specs.Owners.{DeclarationIsOf}
use Rattle.cu_syntax.specs.declared.declarations.Declaration.{Declaration}
use Rattle.cu_desugar.proofs.FunctionLemmas.{block_is, block_there, no_block, scope_seen}
use Rattle.cu_desugar.proofs.local_functions.in_block.Goals as goal

pub returns : goal.returns
returns c t a n around spot is =
    let local = n.spot.scope in
    let found = c.in-Some.ensures.lookup in
    let block = c.in-Some.ds.now in
    let same = c.as_slice-2.ensures.value ∙ ap (λ (v : Vec Declaration Global). v.items)
    (block_there (blocks_in c.args.sites.now) c.blocks-2.result.now c.args.placed.block block is.block c.blocks-2.ensures found.3.0 found.1 is.stands) in
    let sees = scope_seen t a local c.in_ok-entries.entries.items c.as_slice.result.now c.outermost-scope.result (c.in_ok-entries.ensures t n.spot spot) c.as_slice.ensures.value c.outermost-scope.ensures in
    let all = subst (All (DeclarationIsOf t.owner t.names)) (sym same) is.owned in
    if_ok c.alone.result
    (λ fs one. ap (map local_function_meaning) one
    ∙ ap (λ (f : LocalFunction). f ∷ []) (c.in_ok-function.ensures t a local around sees all is.group)
    ∙ block_is t a local is.block c.as_slice-2.result.now c.args.placed.group.now n.site same is.is) c.alone.ensures

pub returns-in_default : goal.returns-in_default
returns-in_default c t a n around spot is =
    absurd (no_block (blocks_in c.args.sites.now) c.blocks-2.result.now c.args.placed.block is.block c.blocks-2.ensures c.in_default.ensures.lookup.3 is.stands)
