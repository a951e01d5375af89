use Rattle.std.proofs.Common.{◌≡◌, ◌≤◌, List, length, map, refl, sym, ap, ◌∙◌, subst, arith}
use Rattle.cu_kernel.specs.KernelOf.{synonym_meaning}
use Rattle.cu_kernel.specs.TypeExpr.{TypeExpr}
use Rattle.cu_types.proofs.SynonymLemmas.{bodies_found, bodies_next, bodies_start}
use Rattle.cu_types.proofs.TableLemmas.{mapped_length}
use Rattle.cu_types.proofs.synonyms.synonym_types.Goals as goal
use Rattle.cu_types.specs.Synonyms.{bodies, expanded_by}
use Rattle.cu_types.specs.Table.{at}

pub loop-depth-init : goal.loop-depth-init
loop-depth-init c =
    subst (λ (ts : List TypeExpr). at ts ≡ bodies c.args.program.now 0) (sym c.new-types.ensures.items) (bodies_start c.args.program.now)

pub returns-then-are_same : goal.returns-then-are_same
returns-then-are_same c =
    let declared = c.synonyms-declared.result.now in
    let are : map synonym_meaning declared ≡ c.args.program.now.synonyms = c.synonyms-declared.ensures.synonyms in
    let long : length declared ≡ length c.args.program.now.synonyms = sym (mapped_length synonym_meaning declared) ∙ ap length are in
    let below : c.loop-depth.depth ≤ length c.args.program.now.synonyms = omega arith in
    bodies_found c.args.program.now c.loop-depth.depth (length c.args.program.now.synonyms) declared c.loop-depth.types.items
    c.in_ok-next.next.items are c.loop-depth.invariant
    (subst (λ (ts : List TypeExpr). c.in_ok-next.next.items ≡ map (λ x. expanded_by (at ts) (synonym_meaning x).body) declared)
    c.as_slice.ensures.value c.in_ok-next.ensures)
    (sym c.as_slice-in-loop-depth.ensures.value ∙ c.if-are_same.ensures refl ∙ c.as_slice-in-loop-depth-2.ensures.value) below

pub loop-depth-preserved : goal.loop-depth-preserved
loop-depth-preserved c =
    let declared = c.synonyms-declared.result.now in
    bodies_next c.args.program.now c.loop-depth.depth declared c.loop-depth.types.items c.in_ok-next.next.items
    c.synonyms-declared.ensures.synonyms c.loop-depth.invariant
    (subst (λ (ts : List TypeExpr). c.in_ok-next.next.items ≡ map (λ x. expanded_by (at ts) (synonym_meaning x).body) declared)
    c.as_slice.ensures.value c.in_ok-next.ensures)

pub returns : goal.returns
returns c =
    let declared = c.synonyms-declared.result.now in
    let are : map synonym_meaning declared ≡ c.args.program.now.synonyms = c.synonyms-declared.ensures.synonyms in
    let long : length declared ≡ length c.args.program.now.synonyms = sym (mapped_length synonym_meaning declared) ∙ ap length are in
    let here : c.loop-depth.depth ≡ length c.args.program.now.synonyms = omega arith in
    c.loop-depth.invariant ∙ ap (bodies c.args.program.now) here
