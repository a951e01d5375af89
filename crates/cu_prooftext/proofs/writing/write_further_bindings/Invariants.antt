use Rattle.std.proofs.Common.{◌≡◌, ◌++◌, drop}
use Rattle.std.specs.List.{flat_map}
use Rattle.cu_prooftext.specs.Text.{binding_text, further_text}
use Rattle.cu_prooftext.proofs.writing.write_further_bindings.Given as goal

-- what is written and what is left are the whole
abbrev pub invariant-loop-binding : goal.invariant-loop-binding
invariant-loop-binding l =
    l.out.items ++ flat_map (further_text binding_text) (drop l.binding-index l.bindings) ≡ l.fn.out.items ++ flat_map (further_text binding_text) (l.bindings)
