use Rattle.std.proofs.Common.{◌≡◌, ◌+◌, ◌-◌, ◌<◌, ◌∙◌, ◌++◌, ◌∷◌, [], ℕ, List, Option, None, Some, sym, ap, subst, arith, refl, length, length-append, map}
use Rattle.std.specs.Prelude.{MatchOption, slice_get}
use Rattle.std.specs.Option.{option_to_list}
use Rattle.std.proofs.lemmas.List.{nil_from_length}
use Rattle.cu_lex.specs.Reading.{lexeme_of}
use Rattle.cu_peg.specs.Inside.Cursors.{first_parts, next_part, node_of}
use Rattle.cu_peg.specs.declared.node.Node.{Node}
use Rattle.cu_peg.specs.declared.reading.Cursor.{Cursor}
use Rattle.cu_peg.specs.Inside.Ends.{end_at}
use Rattle.cu_peg.specs.Inside.Reached.{kept}
use Rattle.cu_peg.specs.Result.{has_at}
use Rattle.cu_peg.proofs.GrammarLemmas.{owner-real, to-kept, within-kept, within-real}
use Rattle.cu_peg.proofs.KeptLemmas.{kept-marked, kept-real}
use Rattle.cu_peg.proofs.ReadLemmas.{at_end, continues, has_row, same_reading, starts, whole_size, whole_tree}
use Rattle.cu_peg.proofs.reading.FilledTable.read.Goals as goal

-- what was found, where it is some
same_found : (o p : Option (ℕ × Option Cursor)) (found : ℕ × Option Cursor) (part : ℕ) (parts : Option Cursor) → o ≡ p → p ≡ Some (part, parts) → o ≡ Some found → found ≡ (part, parts)
same_found o p found part parts e f g = cc

never_none : (o p : Option (ℕ × Option Cursor)) (part : ℕ) (parts : Option Cursor) → o ≡ p → p ≡ Some (part, parts) → o ≡ None → ⊥
never_none o p part parts e f g = cc

sub_smaller : (end n more : ℕ) → more ≡ n + 1 → n < end → end - more < end - n
sub_smaller end n more e h = omega arith

pub loop-parts-init : goal.loop-parts-init
loop-parts-init c = λ marks reached names right long tree d.
    let R = kept marks c.args.self.rows.now in
    let n = length c.args.self.tokens.now in
    let cell = end_at c.args.self.table.now.columns in
    let row = has_row R (has_at (map (lexeme_of names) c.args.self.tokens.now)) n c.args.self.table.now.columns right long c.args.start (within-kept marks c.args.self.rows.now c.args.start c.requires.start) in
    let real = kept-marked marks c.args.self.rows.now c.args.start row.e row.is reached.start_in in
    same_reading R (has_at (map (lexeme_of names) c.args.self.tokens.now)) n c.args.self.table.now.columns right long
    ([] ++ node_of cell row.e c.args.start n n ∷ []) c.visit.new.nodes.items ([] ++ option_to_list (first_parts cell row.e c.args.start n)) c.visit.new.pending.items tree
    (c.in_ok-visit.ensures.nodes row.e real ∙ ap (λ (xs : List Node). xs ++ node_of cell row.e c.args.start n n ∷ []) c.new-nodes.ensures.items)
    (c.in_ok-visit.ensures.parts row.e real ∙ ap (λ (xs : List Cursor). xs ++ option_to_list (first_parts cell row.e c.args.start n)) c.new-pending.ensures.items)
    (starts R (has_at (map (lexeme_of names) c.args.self.tokens.now)) n c.args.self.table.now.columns right long c.args.start row.e c.args.end tree row.is c.requires.end c.requires.few d)

pub unreachable-requires : goal.unreachable-requires
unreachable-requires c =
    let R = kept c.requires.right.marks c.args.self.rows.now in
    let cell = end_at c.args.self.table.now.columns in
    let n = length c.args.self.tokens.now in
    let has = has_at (map (lexeme_of []) c.args.self.tokens.now) in
    let whole = whole_tree R has n c.args.self.table.now.columns (c.requires.right.right []) c.requires.long c.args.start c.args.end (within-kept c.requires.right.marks c.args.self.rows.now c.args.start c.requires.start) c.requires.end c.requires.all in
    let goes = continues R has n c.args.self.table.now.columns (c.requires.right.right []) c.requires.long c.args.start c.args.end c.requires.end c.requires.few
    c.loop-parts.nodes.items c.pop.new.self.items c.loop-parts.pending.items c.in-Some.parts c.in-Some.ensures.items
    (c.loop-parts.invariant c.requires.right.marks c.requires.right.reached [] (c.requires.right.right []) c.requires.long) whole.tree whole.matched in
    never_none c.next_part.result (next_part (end_at c.args.self.table.now.columns) goes.owner c.in-Some.parts) goes.part goes.parts (c.next_part.ensures goes.owner (owner-real c.requires.right.marks c.args.self.rows.now cell goes.owner c.in-Some.parts goes.part goes.parts goes.owned goes.found)) goes.found c.in_default-next_part.is

pub visit-requires-in-Some-clause-row : goal.visit-requires-in-Some-clause-row
visit-requires-in-Some-clause-row c =
    let R = kept c.requires.right.marks c.args.self.rows.now in
    let cell = end_at c.args.self.table.now.columns in
    let n = length c.args.self.tokens.now in
    let has = has_at (map (lexeme_of []) c.args.self.tokens.now) in
    let whole = whole_tree R has n c.args.self.table.now.columns (c.requires.right.right []) c.requires.long c.args.start c.args.end (within-kept c.requires.right.marks c.args.self.rows.now c.args.start c.requires.start) c.requires.end c.requires.all in
    let goes = continues R has n c.args.self.table.now.columns (c.requires.right.right []) c.requires.long c.args.start c.args.end c.requires.end c.requires.few
    c.loop-parts.nodes.items c.pop.new.self.items c.loop-parts.pending.items c.in-Some.parts c.in-Some.ensures.items
    (c.loop-parts.invariant c.requires.right.marks c.requires.right.reached [] (c.requires.right.right []) c.requires.long) whole.tree whole.matched in
    let found = same_found c.next_part.result (next_part (end_at c.args.self.table.now.columns) goes.owner c.in-Some.parts) c.in-Some-next_part.found goes.part goes.parts
    (c.next_part.ensures goes.owner (owner-real c.requires.right.marks c.args.self.rows.now cell goes.owner c.in-Some.parts goes.part goes.parts goes.owned goes.found)) goes.found c.in-Some-next_part.is in
    subst (λ (k : ℕ). k < length c.args.self.rows.now) (sym (ap (λ (p : ℕ × Option Cursor). p.0) found)) (within-real c.requires.right.marks c.args.self.rows.now goes.part goes.within)

pub visit-requires-in-Some-clause-left : goal.visit-requires-in-Some-clause-left
visit-requires-in-Some-clause-left c =
    let R = kept c.requires.right.marks c.args.self.rows.now in
    let n = length c.args.self.tokens.now in
    let has = has_at (map (lexeme_of []) c.args.self.tokens.now) in
    let whole = whole_tree R has n c.args.self.table.now.columns (c.requires.right.right []) c.requires.long c.args.start c.args.end (within-kept c.requires.right.marks c.args.self.rows.now c.args.start c.requires.start) c.requires.end c.requires.all in
    let goes = continues R has n c.args.self.table.now.columns (c.requires.right.right []) c.requires.long c.args.start c.args.end c.requires.end c.requires.few
    c.loop-parts.nodes.items c.pop.new.self.items c.loop-parts.pending.items c.in-Some.parts c.in-Some.ensures.items
    (c.loop-parts.invariant c.requires.right.marks c.requires.right.reached [] (c.requires.right.right []) c.requires.long) whole.tree whole.matched in
    goes.place

pub loop-parts-smaller : goal.loop-parts-smaller
loop-parts-smaller c =
    let R = kept c.requires.right.marks c.args.self.rows.now in
    let cell = end_at c.args.self.table.now.columns in
    let n = length c.args.self.tokens.now in
    let has = has_at (map (lexeme_of []) c.args.self.tokens.now) in
    let whole = whole_tree R has n c.args.self.table.now.columns (c.requires.right.right []) c.requires.long c.args.start c.args.end (within-kept c.requires.right.marks c.args.self.rows.now c.args.start c.requires.start) c.requires.end c.requires.all in
    let goes = continues R has n c.args.self.table.now.columns (c.requires.right.right []) c.requires.long c.args.start c.args.end c.requires.end c.requires.few
    c.loop-parts.nodes.items c.pop.new.self.items c.loop-parts.pending.items c.in-Some.parts c.in-Some.ensures.items
    (c.loop-parts.invariant c.requires.right.marks c.requires.right.reached [] (c.requires.right.right []) c.requires.long) whole.tree whole.matched in
    let found = same_found c.next_part.result (next_part (end_at c.args.self.table.now.columns) goes.owner c.in-Some.parts) c.in-Some-next_part.found goes.part goes.parts
    (c.next_part.ensures goes.owner (owner-real c.requires.right.marks c.args.self.rows.now cell goes.owner c.in-Some.parts goes.part goes.parts goes.owned goes.found)) goes.found c.in-Some-next_part.is in
    let part : c.in-Some-next_part.found.0 ≡ goes.part = ap (λ (p : ℕ × Option Cursor). p.0) found in
    let row = has_row R has n c.args.self.table.now.columns (c.requires.right.right []) c.requires.long goes.part goes.within in
    let node = node_of (end_at c.args.self.table.now.columns) row.e c.in-Some-next_part.found.0 n c.in-Some.parts.left in
    let grown = c.in_ok-visit-2.ensures.nodes row.e (ap (slice_get c.args.self.rows.now) part ∙ kept-real c.requires.right.marks c.args.self.rows.now goes.part row.e row.is (goes.takes row.e row.is)) in
    let longer : length c.visit-in-Some.new.nodes.items ≡ length c.loop-parts.nodes.items + 1 = ap length grown ∙ length-append c.loop-parts.nodes.items (node ∷ []) in
    let size = whole_size R has n c.args.self.table.now.columns (c.requires.right.right []) c.requires.long c.args.start whole.tree c.args.end whole.matched c.requires.end c.requires.few in
    let fewer : length c.loop-parts.nodes.items < c.args.end.nodes = subst (λ (k : ℕ). length c.loop-parts.nodes.items < k) size goes.more_nodes in
    sub_smaller c.args.end.nodes (length c.loop-parts.nodes.items) (length c.visit-in-Some.new.nodes.items) longer fewer

pub loop-parts-preserved : goal.loop-parts-preserved
loop-parts-preserved c = λ marks reached names right long tree d.
    let R = kept marks c.args.self.rows.now in
    let n = length c.args.self.tokens.now in
    let has = has_at (map (lexeme_of names) c.args.self.tokens.now) in
    let cell = end_at c.args.self.table.now.columns in
    let goes = continues R has n c.args.self.table.now.columns right long c.args.start c.args.end c.requires.end c.requires.few
    c.loop-parts.nodes.items c.pop.new.self.items c.loop-parts.pending.items c.in-Some.parts c.in-Some.ensures.items
    (c.loop-parts.invariant marks reached names right long) tree d in
    let found = same_found c.next_part.result (next_part cell goes.owner c.in-Some.parts) c.in-Some-next_part.found goes.part goes.parts
    (c.next_part.ensures goes.owner (owner-real marks c.args.self.rows.now cell goes.owner c.in-Some.parts goes.part goes.parts goes.owned goes.found)) goes.found c.in-Some-next_part.is in
    let part : c.in-Some-next_part.found.0 ≡ goes.part = ap (λ (p : ℕ × Option Cursor). p.0) found in
    let parts : c.in-Some-next_part.found.1 ≡ goes.parts = ap (λ (p : ℕ × Option Cursor). p.1) found in
    let row = has_row R has n c.args.self.table.now.columns right long goes.part goes.within in
    let is : slice_get c.args.self.rows.now c.in-Some-next_part.found.0 ≡ Some row.e = ap (slice_get c.args.self.rows.now) part ∙ kept-real marks c.args.self.rows.now goes.part row.e row.is (goes.takes row.e row.is) in
    let left = c.in-Some.parts.left in
    same_reading R has n c.args.self.table.now.columns right long
    (c.loop-parts.nodes.items ++ node_of cell row.e goes.part n left ∷ []) c.visit-in-Some.new.nodes.items
    (c.pop.new.self.items ++ option_to_list goes.parts ++ option_to_list (first_parts cell row.e goes.part left)) c.visit-in-Some.new.pending.items tree
    (c.in_ok-visit-2.ensures.nodes row.e is ∙ ap (λ (k : ℕ). c.loop-parts.nodes.items ++ node_of cell row.e k n left ∷ []) part)
    (c.in_ok-visit-2.ensures.parts row.e is
    ∙ ap (λ (xs : List Cursor). xs ++ option_to_list (first_parts cell row.e c.in-Some-next_part.found.0 left)) c.in_ok-push_parts.ensures
    ∙ ap (λ (o : Option Cursor). c.pop.new.self.items ++ option_to_list o ++ option_to_list (first_parts cell row.e c.in-Some-next_part.found.0 left)) parts
    ∙ ap (λ (k : ℕ). c.pop.new.self.items ++ option_to_list goes.parts ++ option_to_list (first_parts cell row.e k left)) part)
    (goes.reads row.e row.is)

-- where nothing was popped, nothing was there
nothing_left : (o : Option Cursor) (a b : ℕ) (P : Cursor → Type 0) → o ≡ None → MatchOption o ((a ≡ 0) × (b ≡ 0)) P → a ≡ 0
nothing_left None a b P e h = h.0
nothing_left (Some x) a b P e h = let never : ⊥ = cc in absurd never

pub returns : goal.returns
returns c = λ names tree d.
    let R = kept c.requires.right.marks c.args.self.rows.now in
    let n = length c.args.self.tokens.now in
    let has = has_at (map (lexeme_of names) c.args.self.tokens.now) in
    let done : c.loop-parts.pending.items ≡ [] =
    nil_from_length c.loop-parts.pending.items (sym c.loop-parts.pending.ok.0 ∙ nothing_left c.pop.result _ _ (λ x. _) c.in_default.is c.pop.ensures.cases) in
    at_end R has n c.args.self.table.now.columns (c.requires.right.right names) c.requires.long c.loop-parts.nodes.items tree
    (same_reading R has n c.args.self.table.now.columns (c.requires.right.right names) c.requires.long c.loop-parts.nodes.items c.loop-parts.nodes.items c.loop-parts.pending.items [] tree
    refl (sym done) (c.loop-parts.invariant c.requires.right.marks c.requires.right.reached names (c.requires.right.right names) c.requires.long tree (to-kept c.args.self.rows.now c.args.start c.requires.right.marks c.requires.right.reached has d)))
