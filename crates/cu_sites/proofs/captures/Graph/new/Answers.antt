use Rattle.std.proofs.Common.{arith, subst, ◌≡◌, ◌+◌, ℕ, [], length, suc}
use Rattle.cu_sites.specs.Inside.Relating.{Holds}
use Rattle.cu_sites.proofs.captures.Graph.new.Goals as goal

pub returns : goal.returns
returns c binders functions h =
    let variables : c.variable_count.result ≡ length binders = c.variable_count.ensures binders functions h in
    let places : c.function_count.result ≡ length functions = c.function_count.ensures binders functions h in
    let all : c.variable_count.result + 1 ≡ suc (length binders) = omega arith in
    let around : c.function_count.result + 1 ≡ suc (length functions) = omega arith in
    record {
      uses_are = subst (λ (n : ℕ). Holds n [] c.in_ok-new.field-0) all c.in_ok-new.ensures;
      binds_are = subst (λ (n : ℕ). Holds n [] c.in_ok-new-2.field-0) all c.in_ok-new-2.ensures;
      calls_are = subst (λ (n : ℕ). Holds n [] c.in_ok-new-3.field-0) around c.in_ok-new-3.ensures;
    }
