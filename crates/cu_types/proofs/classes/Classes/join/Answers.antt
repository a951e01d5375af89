use Rattle.std.proofs.Common.{◌≡◌, ℕ, false, true, length, map, refl, sym, ◌∙◌, subst}
use Rattle.cu_types.proofs.Joins.{Found, each_within_ss, joined_apart, joined_oriented, joined_same, meet_again, oriented_within, shape_read, within_ss}
use Rattle.cu_types.proofs.TableLemmas.{mapped_length}
use Rattle.cu_types.proofs.classes.Classes.join.Goals as goal
use Rattle.cu_types.specs.Inside.Closing.{IsWithin}
use Rattle.cu_types.specs.Table.{shape_of}

pub returns-then-found-clause-joined : goal.returns-then-found-clause-joined
returns-then-found-clause-joined c =
    let nodes = c.args.nodes.now in
    let found : Found c.args.self.now.parents.items c.find_both-found.new.self.parents.items c.args.pair c.find_both-found.result =
    record { roots = c.find_both-found.ensures.roots; class = c.find_both-found.ensures.class } in
    joined_same (map shape_of nodes) c.args.pair c.find_both-found.result c.args.pending.now.items c.args.self.now.parents.items
    c.find_both-found.new.self.parents.items (within_ss nodes c.args.pair c.requires.pair)
    (each_within_ss nodes c.args.pending.now.items c.requires.pending) found c.if-found.true

pub returns-then-not-meets-clause-joined : goal.returns-then-not-meets-clause-joined
returns-then-not-meets-clause-joined c =
    let nodes = c.args.nodes.now in
    let q = c.find_both-found.result in
    let found : Found c.args.self.now.parents.items c.find_both-found.new.self.parents.items c.args.pair c.find_both-found.result =
    record { roots = c.find_both-found.ensures.roots; class = c.find_both-found.ensures.class } in
    let inside : IsWithin (length nodes) q = subst (λ (n : ℕ). IsWithin n q) c.requires.sized c.find_both-found.ensures.within in
    joined_apart (map shape_of nodes) c.args.pair q c.args.pending.now.items c.args.self.now.parents.items
    c.find_both-found.new.self.parents.items (within_ss nodes c.args.pair c.requires.pair) (within_ss nodes q inside)
    (each_within_ss nodes c.args.pending.now.items c.requires.pending) found
    (shape_of c.index-nodes-found.result) (shape_of c.index-nodes-found-2.result)
    (shape_read nodes q.left c.index-nodes-found.result inside.0 c.index-nodes-found.is)
    (shape_read nodes q.right c.index-nodes-found-2.result inside.1 c.index-nodes-found-2.is)
    (λ meet. let no : false ≡ true = c.if-not-meets.ensures.1 meet in let none : ⊥ = cc in none)

pub returns-clause-joined : goal.returns-clause-joined
returns-clause-joined c =
    let nodes = c.args.nodes.now in
    let q = c.find_both-found.result in
    let u = c.oriented-under.result in
    let found : Found c.args.self.now.parents.items c.find_both-found.new.self.parents.items c.args.pair c.find_both-found.result =
    record { roots = c.find_both-found.ensures.roots; class = c.find_both-found.ensures.class } in
    let inside : IsWithin (length nodes) q = subst (λ (n : ℕ). IsWithin n q) c.requires.sized c.find_both-found.ensures.within in
    let under : IsWithin (length nodes) u =
    oriented_within (length nodes) q u (shape_of c.index-nodes-found-3.result) (shape_of c.index-nodes-found-4.result)
    c.oriented-under.ensures inside in
    joined_oriented (map shape_of nodes) c.args.pair q u c.args.pending.now.items c.unite.new.pending.items c.args.self.now.parents.items
    c.find_both-found.new.self.parents.items c.unite.new.self.parents.items c.requires.table
    (c.find_both-found.ensures.sized ∙ c.requires.sized ∙ sym (mapped_length shape_of nodes))
    (within_ss nodes c.args.pair c.requires.pair) (each_within_ss nodes c.args.pending.now.items c.requires.pending) found
    c.if-found.false c.find_both-found.ensures.left c.find_both-found.ensures.right
    (shape_of c.index-nodes-found-3.result) (shape_of c.index-nodes-found-4.result)
    (shape_of c.index-nodes-under.result) (shape_of c.index-nodes-under-2.result)
    (shape_read nodes q.left c.index-nodes-found-3.result inside.0 c.index-nodes-found-3.is)
    (shape_read nodes q.right c.index-nodes-found-4.result inside.1 c.index-nodes-found-4.is)
    (meet_again nodes q.left q.right c.index-nodes-found.result c.index-nodes-found-2.result c.index-nodes-found-3.result c.index-nodes-found-4.result
    inside.0 inside.1 c.index-nodes-found.is c.index-nodes-found-2.is c.index-nodes-found-3.is c.index-nodes-found-4.is (c.if-not-meets.ensures.0 refl))
    c.oriented-under.ensures
    (shape_read nodes u.left c.index-nodes-under.result under.0 c.index-nodes-under.is)
    (shape_read nodes u.right c.index-nodes-under-2.result under.1 c.index-nodes-under-2.is)
    c.in_ok-unite.ensures.united
