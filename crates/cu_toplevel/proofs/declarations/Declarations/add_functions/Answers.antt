use Rattle.std.proofs.Common.{◌∙◌, ap, map, subst, sym, take_all}
use Rattle.std.specs.List.{All}
use Rattle.cu_modules.specs.Ordering.{module_of}
use Rattle.cu_names.specs.Texts.{text_of}
use Rattle.cu_toplevel.specs.Declarations.{AreListed, Lists}
use Rattle.cu_toplevel.specs.declared.function_heads.FunctionHead.{FunctionHead}
use Rattle.cu_toplevel.specs.Heads.{HeadIsOf, head_meaning}
use Rattle.cu_toplevel.proofs.DeclarationLemmas.{all_heads, and_heads, head_more, no_head}
use Rattle.cu_toplevel.proofs.declarations.Declarations.add_functions.Goals as goal

pub functions-init : goal.functions-init
functions-init c = λ names before differ has_module has. subst (λ (l : Lists). AreListed names l c.args.self.now) (no_head (text_of names c.args.module.now.name) before) has

pub functions-preserved : goal.functions-preserved
functions-preserved c = λ names before differ has_module has.
    let m = c.args.module.now.name in
    let heads = c.as_slice-head-items.result.now in
    let all = c.functions.invariant names before differ has_module has in
    let are = c.in_ok-functions.ensures names differ has_module in
    let d : FunctionHead = record { name = record { 0 = 0 }; arity = 0; place = record { «module» = record { 0 = 0 }; line = 0; column = 0 } } in
    record {
      types = all.types;
      constructors = all.constructors;
      synonyms = all.synonyms;
      functions = head_more names m c.name-owner.result before.functions heads c.functions.head-index d c.functions.self.functions c.add.new.self c.name-owner.ensures c.functions-test.true
          has_module.known (subst (All (HeadIsOf m names)) (sym c.as_slice-head-items.ensures.value) are.owned) (λ all known listed. c.in_ok-add.ensures names all differ known listed) all.functions;
    }

pub returns : goal.returns
returns c = λ names before differ has_module has.
    let m = c.args.module.now in
    let are = c.in_ok-functions.ensures names differ has_module in
    subst (λ (l : Lists). AreListed names l c.functions.self)
    (ap (λ heads. and_heads (text_of names m.name) (map (head_meaning names) heads) before) (take_all c.functions.head-index c.as_slice-head-items.result.now c.functions-test.false ∙ c.as_slice-head-items.ensures.value)
    ∙ all_heads (module_of names m) before (map (head_meaning names) c.in_ok-functions.functions.items) are.are)
    (c.functions.invariant names before differ has_module has)
