use Rattle.std.proofs.Common.{◌≡◌, ◌+◌, ap, ◌∙◌}
use Rattle.cu_types.proofs.group.end_of.Goals as goal

pub returns : goal.returns
returns c =
    let m = c.args.m.now in
    let own : c.in-Some.own ≡ c.in_ok-right.right + 1 = c.in-Some.ensures.1 in
    let end : c.in-Some-checked_add.end ≡ c.in-Some.own + c.in_ok-count.count = c.in-Some-checked_add.ensures.1 in
    end ∙ ap (λ n. n + c.in_ok-count.count) (own ∙ ap (λ n. n + 1) c.in_ok-right.ensures)
    ∙ ap (λ n. m.first + m.arity + 1 + n) c.in_ok-count.ensures
