-- Patterns by what they are made of.
use Rattle.std.proofs.Common.{◌≡◌, ◌∙◌, ◌+◌, ◌<◌, ℕ, ℤ, List, [], ◌∷◌, ◌++◌, Option, None, Some, IfSome, IfNone, length, map, refl, sym, ap, ap₂, subst, codes, append_assoc, append-nil, add-one, arith, reverse}
use Rattle.std.proofs.lemmas.List.{map-append, reverse-append}
use denote.Param.Weighed.{most}
use denote.Ref.{Bor}
use Rattle.std.specs.List.{All}
use Rattle.std.proofs.lemmas.List.Elements.{All-cons, All-head, All-nil, All-tail}
use Rattle.std.specs.declared.alloc.Global.{Global}
use Rattle.std.specs.declared.vec.Vec.{Vec}
use Rattle.cu_calculus.specs.Term as calculus
use Rattle.cu_calculus.specs.declared.ConId.{ConId}
use Rattle.cu_calculus.specs.declared.Lit.TheVariants as lit
use Rattle.cu_fixity.specs.declared.fixity.Fixity.{Fixity}
use Rattle.cu_fixity.specs.declared.part.Part.{Part}
use Rattle.cu_fixity.specs.declared.part.Part.TheVariants as part
use Rattle.cu_fixity.specs.declared.piece.Piece.{Piece}
use Rattle.cu_fixity.specs.Grouping.{Applied, Between, Infix, Item, Leaf, Operand, Prefix, Tree}
use Rattle.cu_fixity.specs.Operators.{polish}
use Rattle.cu_fixity.specs.Owners.{PartIsOf, part_size}
use Rattle.cu_fixity.specs.Parts.{HasNone, IsOrder, pattern_rest, written_pattern}
use Rattle.cu_fixity.specs.Pieces.{minus}
use Rattle.cu_fixity.proofs.OwnerLemmas.{pattern_owned_in_order, pattern_smaller_in_order}
use Rattle.cu_kernel.specs.TermsOf.{pattern_of, pattern_of-Con, pattern_of-Lit}
use Rattle.cu_kernel.specs.TermsOf as kernel
use Rattle.cu_kernel.specs.declared.term.Pattern as boxed_type
use Rattle.cu_kernel.specs.declared.term.Pattern.TheVariants as boxed
use Rattle.cu_lex.specs.Located.{Position}
use Rattle.cu_lex.specs.Reading.{position_of}
use Rattle.cu_names.specs.declared.names.NameId.{NameId}
use Rattle.cu_syntax.specs.Names.{literal_meaning, name_meaning}
use Rattle.cu_syntax.specs.Owners.{ConstructorItemIsOf, PatItemsAreOf, PatternIsOf}
use Rattle.cu_syntax.specs.Patterns.{pattern_meaning, pattern_node, patterns_meaning, rest_meaning}
use Rattle.cu_syntax.specs.Smaller.{pat_items_size, pattern_size}
use Rattle.cu_syntax.specs.declared.name.Literal.{Literal}
use Rattle.cu_syntax.specs.declared.name.Literal.TheVariants as literal
use Rattle.cu_syntax.specs.declared.patterns.ConstructorItem.{ConstructorItem}
use Rattle.cu_syntax.specs.declared.patterns.PatItems.{PatItems}
use Rattle.cu_syntax.specs.declared.patterns.Pattern.{Pattern}
use Rattle.cu_syntax.specs.declared.patterns.PatternNode.{PatternNode}
use Rattle.cu_syntax.specs.declared.patterns.PatternNode.TheVariants as node
use Rattle.std.specs.Prelude.{neg_ℤ}
use Rattle.cu_translation.specs.Around as around
use Rattle.cu_translation.specs.Around.{Names, Referent, tuple_name}
use Rattle.cu_translation.specs.GroupedTree.{grouped_tree}
use Rattle.cu_translation.specs.LocalNames.{Binder}
use Rattle.cu_translation.specs.Meaning.{Setting, referent_meaning}
use Rattle.cu_translation.specs.PatternTable as table
use Rattle.cu_translation.specs.PatternTable.{ConstructorOperator, character_pattern, constructor_operator, grouped_pattern, no_pattern, patterns_of, rest_items, tree_pattern}
use Rattle.cu_translation.specs.Rules.{pattern_count}
use Rattle.cu_translation.specs.Terms.{constructor_of}
use Rattle.cu_translation.specs.declared.referents.Referent as referents
use Rattle.cu_translation.proofs.Trees.{grouped_exactly, none_exactly}
use Rattle.cu_forms.specs.Forms.{pattern_form}
use Rattle.cu_forms.specs.Inside.Lists.{constant_of}
use Rattle.cu_forms.specs.Inside.PatternParts.{all_placed, before_form, cons_form, first_pattern, list_form, literal_form, number_form, operators_form, part_item, piece_in, placed, placed_pattern}
use Rattle.cu_forms.proofs.OrderLemmas.{Shows, in_order, no_tree}

-- ---- lists of patterns

pub patterns_are : (ps : List boxed_type.Pattern) → kernel.patterns_of ps ≡ patterns_of (map pattern_of ps)
patterns_are [] = refl
patterns_are (p ∷ ps) = ap (calculus.MorePatterns (pattern_of p)) (patterns_are ps)

pub forms_are : (w : Setting) (binder : Position → Binder) (ps : List Pattern) → patterns_of (map (pattern_form w binder) ps) ≡ table.patterns w.around binder (patterns_meaning w.names ps)
unfolding pattern_form
forms_are w binder [] = refl
forms_are w binder (p ∷ ps) = ap (calculus.MorePatterns (table.pattern w.around binder (pattern_meaning w.names p))) (forms_are w binder ps)

pub count_is : (names : List (List ℕ)) (ps : List Pattern) → pattern_count (patterns_meaning names ps) ≡ length ps
count_is names [] = refl
count_is names (p ∷ ps) = ap (λ n. n + 1) (count_is names ps) ∙ add-one (length ps)

-- ---- lists and literals

pub all_before_form : (names : Names) (ps : List calculus.Pattern) → before_form names ps (constant_of names (codes "[]")) ≡ list_form names ps
unfolding list_form constant_of
all_before_form names [] = refl
all_before_form names (p ∷ ps) = ap (cons_form names p) (all_before_form names ps)

pub last_before_form : (names : Names) (ps : List calculus.Pattern) (p rest : calculus.Pattern) → before_form names (ps ++ p ∷ []) rest ≡ before_form names ps (cons_form names p rest)
last_before_form names [] p rest = refl
last_before_form names (q ∷ ps) p rest = ap (cons_form names q) (last_before_form names ps p rest)

pub cons_is : (names : Names) (r : referents.Referent) (c : ConId) (parts : Vec boxed_type.Pattern Global) (p rest : boxed_type.Pattern) → c ≡ constructor_of (referent_meaning r)
    → referent_meaning r ≡ names.prelude (codes ":") → parts.items ≡ p ∷ rest ∷ [] → pattern_of (boxed.Con c parts) ≡ cons_form names (pattern_of p) (pattern_of rest)
cons_is names r c parts p rest constructed meant both =
    pattern_of-Con c parts ∙ ap₂ calculus.Built (constructed ∙ ap constructor_of meant) (ap kernel.patterns_of both)

pub number_form_is : (names : Names) (found : Literal) (n : ℤ) → found ≡ literal.Int n → number_form n ≡ literal_form names (literal_meaning found)
unfolding literal_form
number_form_is names found n e = ap (λ l. literal_form names (literal_meaning l)) (sym e)

pub character_form_is : (names : Names) (found : Literal) (c : ℕ) → found ≡ literal.Char c → pattern_of (boxed.Lit (lit.Char c)) ≡ literal_form names (literal_meaning found)
unfolding literal_form
character_form_is names found c e = pattern_of-Lit (lit.Char c) ∙ ap (λ l. literal_form names (literal_meaning l)) (sym e)

pub string_form_is : (names : Names) (found : Literal) (text : Bor (List ℕ)) → found ≡ literal.String text
    → list_form names (map character_pattern text.now) ≡ literal_form names (literal_meaning found)
unfolding literal_form list_form
string_form_is names found text e = ap (λ l. literal_form names (literal_meaning l)) (sym e)

-- ---- nodes

abbrev pub node_form : Setting → (Position → Binder) → PatternNode → calculus.Pattern
node_form w binder (node.Variable x) = calculus.Any (w.around.numbers.variable (binder (position_of x.place)))
node_form w binder (node.Alias x p) = calculus.Named (w.around.numbers.variable (binder (position_of x.place))) (pattern_form w binder p)
node_form w binder (node.Wildcard at) = calculus.Any (w.around.numbers.variable (binder (position_of at)))
node_form w binder (node.Literal at found) = literal_form w.around.names (literal_meaning found)
node_form w binder (node.Negative at n) = number_form (neg_ℤ n)
node_form w binder (node.Constructed at c ps) = calculus.Built (constructor_of (w.around.names.value (name_meaning w.names c))) (patterns_of (map (pattern_form w binder) ps.items))
node_form w binder (node.Tuple at ps) = calculus.Built (constructor_of (w.around.names.prelude (tuple_name (length ps.items)))) (patterns_of (map (pattern_form w binder) ps.items))
node_form w binder (node.List at ps) = list_form w.around.names (map (pattern_form w binder) ps.items)
node_form w binder (node.Operators items) = operators_form w binder items

formed_in : (w : Setting) (binder : Position → Binder) (n : PatternNode) → node_form w binder n ≡ table.pattern w.around binder (pattern_node w.names n)
unfolding pattern_form literal_form list_form operators_form
formed_in w binder (node.Variable x) = refl
formed_in w binder (node.Alias x p) = refl
formed_in w binder (node.Wildcard at) = refl
formed_in w binder (node.Literal at found) = refl
formed_in w binder (node.Negative at n) = refl
formed_in w binder (node.Constructed at c ps) = ap (calculus.Built (constructor_of (w.around.names.value (name_meaning w.names c)))) (forms_are w binder ps.items)
formed_in w binder (node.Tuple at ps) =
    ap₂ (λ n qs. calculus.Built (constructor_of (w.around.names.prelude (tuple_name n))) qs) (sym (count_is w.names ps.items)) (forms_are w binder ps.items)
formed_in w binder (node.List at ps) = ap (table.list_pattern w.around.names) (forms_are w binder ps.items)
formed_in w binder (node.Operators items) = refl

-- what a pattern stands for, by what it is
pub formed : (w : Setting) (binder : Position → Binder) (p : Pattern) (v n : PatternNode) → pattern_node w.names v ≡ pattern_meaning w.names p → v ≡ n → node_form w binder n ≡ pattern_form w binder p
unfolding pattern_form
formed w binder p v n meaning is = formed_in w binder n ∙ ap (table.pattern w.around binder) (ap (pattern_node w.names) (sym is) ∙ meaning)

-- a constructor on patterns
pub built_on : (c : ConId) (ps : Vec boxed_type.Pattern Global) (r : Referent) (qs : List calculus.Pattern) → c ≡ constructor_of r → map pattern_of ps.items ≡ qs
    → pattern_of (boxed.Con c ps) ≡ calculus.Built (constructor_of r) (patterns_of qs)
built_on c ps r qs constructed same =
    pattern_of-Con c ps ∙ ap₂ calculus.Built constructed (patterns_are ps.items ∙ ap patterns_of same)

-- ---- operators

-- a part as the definitions have it
abbrev operator_item : Setting → (Position → Binder) → Part Pattern → Item calculus.Pattern ConstructorOperator
operator_item w binder (part.Operand p) = Operand (pattern_form w binder p)
operator_item w binder (part.Minus at) = Prefix (record { fixity = minus; means = around.Nothing })
operator_item w binder (part.Operator name) = Infix (constructor_operator w.around.names (name_meaning w.names name))

abbrev fixity_in : ConstructorOperator → Fixity
fixity_in o = o.fixity

shows : (w : Setting) (binder : Position → Binder) (p : Part Pattern) → Shows fixity_in (piece_in w p) (operator_item w binder p)
shows w binder (part.Operand p) = tt
shows w binder (part.Minus at) = refl
shows w binder (part.Operator name) = refl

abbrev named : Item calculus.Pattern ConstructorOperator → Item calculus.Pattern Referent
named (Operand p) = Operand p
named (Prefix o) = Prefix o.means
named (Infix o) = Infix o.means

named_part : (w : Setting) (binder : Position → Binder) (ps : List (Part Pattern)) → map named (map (operator_item w binder) ps) ≡ map (part_item w binder) ps
named_part w binder [] = refl
named_part w binder (part.Operand p ∷ ps) = ap (λ xs. Operand (pattern_form w binder p) ∷ xs) (named_part w binder ps)
named_part w binder (part.Minus at ∷ ps) = ap (λ xs. Prefix around.Nothing ∷ xs) (named_part w binder ps)
named_part w binder (part.Operator name ∷ ps) = ap (λ xs. Infix (w.around.names.value (name_meaning w.names name)) ∷ xs) (named_part w binder ps)

rest_written : (w : Setting) (binder : Position → Binder) (items : List ConstructorItem) → map (operator_item w binder) (pattern_rest items) ≡ rest_items w.around binder (rest_meaning w.names items)
unfolding pattern_form
rest_written w binder [] = refl
rest_written w binder (i ∷ items) =
    ap (λ xs. Infix (constructor_operator w.around.names (name_meaning w.names i.operator)) ∷ Operand (table.pattern w.around binder (pattern_meaning w.names i.operand)) ∷ xs) (rest_written w binder items)

written : (w : Setting) (binder : Position → Binder) (items : PatItems)
    → grouped_pattern (grouped_tree fixity_in (map (operator_item w binder) (written_pattern items))) ≡ operators_form w binder items
unfolding operators_form pattern_form
written w binder items =
    ap (λ xs. grouped_pattern (grouped_tree fixity_in (Operand (table.pattern w.around binder (pattern_meaning w.names items.first)) ∷ xs))) (rest_written w binder items.rest.items)

-- a tree, from its parts
placed_tree : (t : Tree calculus.Pattern ConstructorOperator) (xs : List (Item calculus.Pattern Referent)) → all_placed (map named (polish t) ++ xs) ≡ tree_pattern t ∷ all_placed xs
placed_tree (Leaf p) xs = refl
placed_tree (Applied o t) xs = ap (placed (Prefix o.means)) (placed_tree t xs)
placed_tree (Between l o r) xs =
    ap (λ ys. placed (Infix o.means) (all_placed ys))
    (ap (λ ys. ys ++ xs) (map-append named (polish l) (polish r)) ∙ append_assoc (map named (polish l)) (map named (polish r)) xs)
    ∙ ap (placed (Infix o.means)) (placed_tree l (map named (polish r) ++ xs) ∙ ap (λ ps. tree_pattern l ∷ ps) (placed_tree r xs))

placed_whole : (t : Tree calculus.Pattern ConstructorOperator) → placed_pattern (map named (polish t)) ≡ tree_pattern t
placed_whole t = ap placed_pattern (sym (append-nil (map named (polish t)))) ∙ ap first_pattern (placed_tree t [])

placed_order : (w : Setting) (binder : Position → Binder) (items : PatItems) (all ordered : List (Part Pattern)) → all ≡ written_pattern items → IsOrder (map (piece_in w) all) all ordered
    → placed_pattern (map (part_item w binder) ordered) ≡ operators_form w binder items
placed_order w binder items all ordered e order =
    let m = operator_item w binder in
    let k = in_order fixity_in (piece_in w) m all ordered (shows w binder) order in
    ap placed_pattern (sym (named_part w binder ordered) ∙ ap (map named) (sym k.spelled)) ∙ placed_whole k.tree
    ∙ ap grouped_pattern (sym ((grouped_exactly fixity_in (map m all) k.tree).0 k.grouped)) ∙ ap (λ xs. grouped_pattern (grouped_tree fixity_in (map m xs))) e
    ∙ written w binder items

none_order : (w : Setting) (binder : Position → Binder) (items : PatItems) (all : List (Part Pattern)) → all ≡ written_pattern items → HasNone (map (piece_in w) all)
    → no_pattern ≡ operators_form w binder items
none_order w binder items all e none =
    let m = operator_item w binder in
    ap grouped_pattern (sym ((none_exactly fixity_in (map m all)).0 (no_tree fixity_in (piece_in w) m all (shows w binder) none))) ∙ ap (λ xs. grouped_pattern (grouped_tree fixity_in (map m xs))) e
    ∙ written w binder items

-- ---- what is found, if something is

pub if_some : {X : Type 0} (P Q : X → Type 0) (o : Option X) → ((x : X) → P x → Q x) → IfSome o P → IfSome o Q
if_some P Q None f h = tt
if_some P Q (Some x) f h = f x h

pub if_none : {X : Type 0} (P Q : Type 0) (o : Option X) → (P → Q) → IfNone o P → IfNone o Q
if_none P Q None f h = f h
if_none P Q (Some x) f h = tt

pub some_smaller : (items : PatItems) (ps : List Piece) (all : List (Part Pattern)) (found : Option (Vec (Part Pattern) Global)) → all ≡ written_pattern items
    → IfSome found (λ parts. IsOrder ps all parts.items) → IfSome found (λ parts. most (part_size pattern_size) parts.items < pat_items_size items)
some_smaller items ps all found e h = if_some _ _ found (λ parts order. pattern_smaller_in_order items ps all parts.items e order) h

pub some_owned : (owner : NameId) (names : List (List ℕ)) (items : PatItems) (ps : List Piece) (all : List (Part Pattern)) (found : Option (Vec (Part Pattern) Global)) → all ≡ written_pattern items
    → PatItemsAreOf owner names items → IfSome found (λ parts. IsOrder ps all parts.items) → IfSome found (λ parts. All (PartIsOf PatternIsOf owner names) parts.items)
some_owned owner names items ps all found e of h = if_some _ _ found (λ parts order. pattern_owned_in_order owner names items ps all parts.items of e order) h

pub some_placed : (w : Setting) (binder : Position → Binder) (items : PatItems) (ps : List Piece) (all : List (Part Pattern)) (found : Option (Vec (Part Pattern) Global)) → all ≡ written_pattern items
    → ps ≡ map (piece_in w) all → IfSome found (λ parts. IsOrder ps all parts.items) → IfSome found (λ parts. placed_pattern (map (part_item w binder) parts.items) ≡ operators_form w binder items)
some_placed w binder items ps all found e seen h =
    if_some _ _ found (λ parts order. placed_order w binder items all parts.items e (subst (λ qs. IsOrder qs all parts.items) seen order)) h

pub none_placed : (w : Setting) (binder : Position → Binder) (items : PatItems) (ps : List Piece) (all : List (Part Pattern)) (found : Option (Vec (Part Pattern) Global)) → all ≡ written_pattern items
    → ps ≡ map (piece_in w) all → IfNone found (HasNone ps) → IfNone found (no_pattern ≡ operators_form w binder items)
none_placed w binder items ps all found e seen h = if_none _ _ found (λ none. none_order w binder items all e (subst HasNone seen none)) h

-- ---- the stack

pub top_of : {T X : Type 0} (f : T → X) (before after : List T) (x : T) → after ≡ before ++ x ∷ [] → map f (reverse after) ≡ f x ∷ map f (reverse before)
top_of f before after x e = ap (λ xs. map f (reverse xs)) e ∙ ap (map f) (reverse-append before (x ∷ []))

-- what parts make of patterns after them
abbrev pub placed_on : List (Item calculus.Pattern Referent) → List calculus.Pattern → List calculus.Pattern
placed_on [] ps = ps
placed_on (i ∷ items) ps = placed i (placed_on items ps)

pub all_placed_on : (items : List (Item calculus.Pattern Referent)) → placed_on items [] ≡ all_placed items
all_placed_on [] = refl
all_placed_on (i ∷ items) = ap (placed i) (all_placed_on items)

pub placed_last : (items : List (Item calculus.Pattern Referent)) (i : Item calculus.Pattern Referent) (ps : List calculus.Pattern) → placed_on (items ++ i ∷ []) ps ≡ placed_on items (placed i ps)
placed_last [] i ps = refl
placed_last (j ∷ items) i ps = ap (placed j) (placed_last items i ps)

-- the parts as they are written are of the module
rest_owned : (owner : NameId) (names : List (List ℕ)) (rest : List ConstructorItem) → All (ConstructorItemIsOf owner names) rest → All (PartIsOf PatternIsOf owner names) (pattern_rest rest)
rest_owned owner names [] h = All-nil (PartIsOf PatternIsOf owner names)
rest_owned owner names (i ∷ rest) h =
    let P = PartIsOf PatternIsOf owner names in
    let one = All-head (ConstructorItemIsOf owner names) i rest h in
    All-cons P (part.Operator i.operator) (part.Operand i.operand ∷ pattern_rest rest) one.0
    (All-cons P (part.Operand i.operand) (pattern_rest rest) one.1 (rest_owned owner names rest (All-tail (ConstructorItemIsOf owner names) i rest h)))

pub written_owned : (owner : NameId) (names : List (List ℕ)) (items : PatItems) (all : List (Part Pattern)) → all ≡ written_pattern items → PatItemsAreOf owner names items
    → All (PartIsOf PatternIsOf owner names) all
written_owned owner names items all e of =
    let P = PartIsOf PatternIsOf owner names in
    subst (All P) (sym e) (All-cons P (part.Operand items.first) (pattern_rest items.rest.items) of.1 (rest_owned owner names items.rest.items of.2))

pub operated : (r : referents.Referent) (c : ConId) (parts : Vec boxed_type.Pattern Global) (before one_left two_left after : List boxed_type.Pattern) (first second : boxed_type.Pattern)
    → c ≡ constructor_of (referent_meaning r) → parts.items ≡ first ∷ second ∷ [] → before ≡ one_left ++ first ∷ [] → one_left ≡ two_left ++ second ∷ [] → after ≡ two_left ++ boxed.Con c parts ∷ []
    → map pattern_of (reverse after) ≡ placed (Infix (referent_meaning r)) (map pattern_of (reverse before))
operated r c parts before one_left two_left after first second constructed both e f g =
    top_of pattern_of two_left after (boxed.Con c parts) g
    ∙ ap (λ q. q ∷ map pattern_of (reverse two_left)) (pattern_of-Con c parts ∙ ap₂ calculus.Built constructed (ap kernel.patterns_of both))
    ∙ sym (ap (placed (Infix (referent_meaning r))) (top_of pattern_of one_left before first e ∙ ap (λ qs. pattern_of first ∷ qs) (top_of pattern_of two_left one_left second f)))

-- the pattern on top of the stack, once no part is left
pub whole_on_top : (items left : List (Item calculus.Pattern Referent)) (stack rest : List boxed_type.Pattern) (p : boxed_type.Pattern) → left ≡ [] → stack ≡ rest ++ p ∷ []
    → placed_on left (map pattern_of (reverse stack)) ≡ all_placed items → pattern_of p ≡ placed_pattern items
whole_on_top items left stack rest p none e is =
    ap first_pattern (sym (top_of pattern_of rest stack p e) ∙ ap (λ xs. placed_on xs (map pattern_of (reverse stack))) (sym none) ∙ is)

pub nothing_on_top : (items left : List (Item calculus.Pattern Referent)) (stack : List boxed_type.Pattern) → left ≡ [] → stack ≡ []
    → placed_on left (map pattern_of (reverse stack)) ≡ all_placed items → no_pattern ≡ placed_pattern items
nothing_on_top items left stack none empty is =
    ap first_pattern (ap (λ xs. map pattern_of (reverse xs)) (sym empty) ∙ ap (λ xs. placed_on xs (map pattern_of (reverse stack))) (sym none) ∙ is)

pub no_items : {X Y : Type 0} (f : X → Y) (xs : List X) → length xs ≡ 0 → map f xs ≡ []
no_items f [] e = refl
no_items f (x ∷ xs) e = absurd (omega (arith, e))

pub none_in : {X : Type 0} (xs : List X) → length xs ≡ 0 → xs ≡ []
none_in [] e = refl
none_in (x ∷ xs) e = absurd (omega (arith, e))

pub nothing_on_stack : (stack : List boxed_type.Pattern) → length stack ≡ 0 → no_pattern ≡ first_pattern (map pattern_of (reverse stack))
nothing_on_stack [] e = refl
nothing_on_stack (p ∷ stack) e = absurd (omega (arith, e))
