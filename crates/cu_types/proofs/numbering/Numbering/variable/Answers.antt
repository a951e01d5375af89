use Rattle.std.proofs.Common.{◌≡◌, ℕ, nat_eq, ◌∙◌, subst, arith}
use Rattle.std.specs.List.{position_or_len}
use Rattle.cu_kernel.specs.TypeExpr as type
use Rattle.cu_types.proofs.numbering.Numbering.variable.Goals as goal
use Rattle.cu_types.specs.Inside.Reading.{Reads, shapes}

pub returns-clause-pushes : goal.returns-clause-pushes
returns-clause-pushes c =
    let number : c.in-Ok.number ≡ c.in_ok-inserted.inserted.0 = omega (arith, c.in-Ok.ensures) in
    let here : c.in-Ok.number ≡ position_or_len (nat_eq c.args.x) c.args.self.now.variables.keys = number ∙ c.in_ok-inserted.ensures.index in
    record {
      place = c.in_ok-made.made;
      reader = c.in_ok-made.ensures.reader;
      reads = subst (λ (n : ℕ). Reads (shapes c.args.self.now.made) (shapes c.variable.new.self) (type.Variable n) c.in_ok-made.made) here
          c.in_ok-made.ensures.read;
      pushed = c.in_ok-push.ensures.items;
    }

pub returns-clause-keys : goal.returns-clause-keys
returns-clause-keys c = c.in_ok-inserted.ensures.keys
