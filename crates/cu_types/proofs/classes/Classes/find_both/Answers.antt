use Rattle.cu_types.proofs.classes.Classes.find_both.Goals as goal

pub returns-clause-class : goal.returns-clause-class
returns-clause-class c = λ class r.
    let left = c.find-left.ensures.class class r in
    let right = c.find-right.ensures.class class left.0 in
    (right.0, left.1, right.1)
