use Rattle.std.proofs.Common.{◌++◌, List, ap, map, subst, sym}
use Rattle.std.specs.List.{flat_map}
use Rattle.cu_kernel.specs.LocalKernelOf.{local_function_meaning}
use Rattle.cu_sites.proofs.CountLemmas.{node_at}
use Rattle.cu_sites.specs.Meaning.{AreNodes}
use Rattle.cu_sites.specs.declared.sites.Node.{Node}
use Rattle.cu_translation.specs.LocalFunctions.{functions_of, local_functions}
use Rattle.cu_desugar.proofs.FunctionLemmas.{found_all, found_more}
use Rattle.cu_desugar.proofs.local_functions.local_functions.Goals as goal

pub loop-node-init : goal.loop-node-init
loop-node-init c t a nodes around stands = ap (λ fs. map local_function_meaning fs ++ flat_map (functions_of a) nodes) c.new-functions.ensures.items

pub loop-node-preserved : goal.loop-node-preserved
loop-node-preserved c t a nodes around stands =
    let s = c.args.sites.now in
    let es = s.entries.items in
    let bs = s.blocks.items in
    let xs = c.nodes-node-items.result.now in
    let are = subst (λ (found : List Node). AreNodes t es bs found nodes) (sym c.nodes-node-items.ensures) stands.are in
    let at = node_at t es bs xs nodes c.loop-node.node-index c.node-item.result c.node-item.is c.loop-node-test.true are in
    found_more local_function_meaning a t es bs c.node-item.result c.loop-node.node-index nodes c.loop-node.functions.items c.in_ok-found.found.items c.append.new.self.items (local_functions a nodes)
    at c.in_ok-append.ensures.items (c.in_ok-found.ensures t a at.n around at.is.spot at.is.site) (c.loop-node.invariant t a nodes around stands)

pub returns : goal.returns
returns c t a nodes around stands =
    let s = c.args.sites.now in
    let es = s.entries.items in
    let bs = s.blocks.items in
    let xs = c.nodes-node-items.result.now in
    let are = subst (λ (found : List Node). AreNodes t es bs found nodes) (sym c.nodes-node-items.ensures) stands.are in
    found_all local_function_meaning a t es bs xs c.loop-node.node-index nodes c.loop-node.functions.items (local_functions a nodes) c.loop-node-test.false are (c.loop-node.invariant t a nodes around stands)
