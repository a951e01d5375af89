use Rattle.std.proofs.Common.{◌≡◌, List, length, map, sym, ap, ◌∙◌, subst, replicate}
use Rattle.std.proofs.lemmas.List.{length-replicate}
use Rattle.std.specs.declared.alloc.Global.{Global}
use Rattle.std.specs.declared.vec.Vec.{Vec}
use Rattle.cu_calculus.specs.declared.FunId.{FunId}
use Rattle.cu_kernel.specs.Kernel.{program_of}
use Rattle.cu_kernel.specs.TypeExpr.{TypeExpr}
use Rattle.cu_lift.specs.Groups.{AreGroups, lists_of}
use Rattle.cu_types.proofs.Inferring.{all_typed, fault_of, functions_count, known_first}
use Rattle.cu_types.proofs.InterfaceLemmas.{written}
use Rattle.cu_types.specs.BuiltInTypes.{constructor_type}
use Rattle.cu_types.specs.Inside.Inferring.{Ended}
use Rattle.cu_types.specs.Inside.Knowing.{kept_type}
use Rattle.cu_types.specs.Synonyms.{bodies}
use Rattle.cu_types.specs.Table.{at}
use Rattle.cu_types.specs.declared.known.Known.TheVariants as known
use Rattle.cu_types.proofs.inference.principal.Goals as goal

pub constructor_types-requires : goal.constructor_types-requires
constructor_types-requires c =
    let p = c.args.program.now in
    subst (λ (ts : List TypeExpr). at ts ≡ bodies p (length p.synonyms)) (sym c.as_slice.ensures.value) c.in_ok-synonyms.ensures

pub all-requires-clause-tables : goal.all-requires-clause-tables
all-requires-clause-tables c =
    let p = c.args.program.now in
    record {
      synonyms = subst (λ (ts : List TypeExpr). at ts ≡ bodies p (length p.synonyms)) (sym c.as_slice-2.ensures.value) c.in_ok-synonyms.ensures;
      constructors = λ k. subst (λ (ts : List TypeExpr). at ts k.0 ≡ constructor_type p k) (sym c.as_slice-3.ensures.value)
          (c.in_ok-constructors.ensures k);
      values = c.values_place.ensures;
    }

pub all-requires-clause-groups : goal.all-requires-clause-groups
all-requires-clause-groups c =
    let p = c.args.program.now in
    subst (λ (rs : List (Vec FunId Global)). AreGroups (program_of p) (lists_of rs)) (sym c.as_slice-4.ensures.value) c.in_ok-rows.ensures

pub all-requires-clause-known : goal.all-requires-clause-known
all-requires-clause-known c =
    let p = c.args.program.now in
    known_first p (lists_of c.as_slice-4.result.now) c.as_mut_slice.result.now
    (c.as_mut_slice.ensures.value ∙ c.in_ok-known.ensures
    ∙ ap (λ n. replicate n known.Nothing) (functions_count c.functions.result.now p.functions c.functions.ensures.functions))

pub returns-in-None : goal.returns-in-None
returns-in-None c =
    let p = c.args.program.now in
    let ks = c.all.new.known in
    let told = subst (Ended p (lists_of c.as_slice-4.result.now) ks) c.in-None.is c.in_ok-found.ensures in
    let first : length c.in_ok-known.known.items ≡ length p.functions =
    ap length c.in_ok-known.ensures ∙ length-replicate _ known.Nothing
    ∙ functions_count c.functions.result.now p.functions c.functions.ensures.functions in
    let size : c.in_ok-known.known.len ≡ length ks = c.in_ok-known.known.ok.0 ∙ first ∙ sym told.sized in
    all_typed p c.as_slice-4.result.now ks c.in_ok-found.found c.in_ok-types-in-None.types.items
    (subst (λ (rs : List (Vec FunId Global)). AreGroups (program_of p) (lists_of rs)) (sym c.as_slice-4.ensures.value) c.in_ok-rows.ensures)
    c.in-None.is c.in_ok-found.ensures
    (c.in_ok-types-in-None.ensures ∙ ap (map kept_type) (written c.in_ok-known.known.len ks c.in_ok-known.known.items size))

pub returns : goal.returns
returns c =
    fault_of c.args.program.now c.as_slice-4.result.now c.all.new.known c.in_ok-found.found c.in-Some.fault c.in-Some.is c.in_ok-found.ensures
