-- What walks over patterns tell.
use Rattle.std.proofs.Common.{◌≡◌, ◌∙◌, ◌<◌, ◌≤◌, ◌+◌, ℕ, List, [], ◌∷◌, ◌++◌, length, drop, get_or, refl, sym, ap, add-one}
use Rattle.std.proofs.lemmas.List.{append_assoc}
use Rattle.std.specs.List.{All}
use Rattle.cu_syntax.specs.declared.patterns.ConstructorItem.{ConstructorItem}
use Rattle.cu_syntax.specs.declared.patterns.Pattern.{Pattern}
use Rattle.cu_syntax.specs.declared.patterns.PatternNode.{PatternNode}
use Rattle.cu_syntax.specs.declared.patterns.PatternNode.TheVariants as pattern
use Rattle.cu_syntax.specs.Names.{name_meaning}
use Rattle.cu_syntax.specs.Patterns.{pattern_meaning, pattern_node, patterns_meaning}
use Rattle.cu_translation.specs.FaultOrder.{Fault}
use Rattle.cu_translation.specs.Faults.{constructor_fault, constructor_faults, pattern_clashes}
use Rattle.cu_translation.specs.Meaning.{Setting}
use Rattle.cu_translation.specs.Rules.{pattern_count}
use Rattle.cu_faults.specs.declared.first.First.{First}
use Rattle.cu_faults.specs.declared.patterns.Sought.{Sought}
use Rattle.cu_faults.specs.declared.patterns.Sought.TheVariants.{Clashes, Counts}
use Rattle.cu_faults.specs.Inside.Patterns.{constructed_told, operands_told, operators_clash, operators_told, pattern_told, patterns_told}
use Rattle.cu_faults.specs.Telling.{Told}
use Rattle.cu_faults.proofs.ToldLemmas.{told_as, told_end, told_prefix}

pub counted : (names : List (List ℕ)) (ps : List Pattern) → pattern_count (patterns_meaning names ps) ≡ length ps
counted names [] = refl
counted names (p ∷ ps) = ap (λ n. n + 1) (counted names ps) ∙ add-one (length ps)

-- ---- a pattern by what it is

abbrev node_told : Sought → Setting → PatternNode → List Fault
node_told s w (pattern.Alias x p) = pattern_told s w p
node_told s w (pattern.Constructed at c ps) = constructed_told s w c (length ps.items) ++ patterns_told s w ps.items
node_told s w (pattern.Tuple at ps) = patterns_told s w ps.items
node_told s w (pattern.List at ps) = patterns_told s w ps.items
node_told s w (pattern.Operators items) = operators_told s w items ++ (pattern_told s w items.first ++ operands_told s w items.rest.items)
node_told s w _ = []

clashes_in : (w : Setting) (n : PatternNode) → node_told Clashes w n ≡ pattern_clashes w.around.names (pattern_node w.names n)
unfolding pattern_told patterns_told operands_told operators_clash
clashes_in w (pattern.Variable x) = refl
clashes_in w (pattern.Alias x p) = refl
clashes_in w (pattern.Wildcard at) = refl
clashes_in w (pattern.Literal at found) = refl
clashes_in w (pattern.Negative at n) = refl
clashes_in w (pattern.Constructed at c ps) = refl
clashes_in w (pattern.Tuple at ps) = refl
clashes_in w (pattern.List at ps) = refl
clashes_in w (pattern.Operators items) = refl

counts_in : (w : Setting) (n : PatternNode) → node_told Counts w n ≡ constructor_faults w.around.names (pattern_node w.names n)
unfolding pattern_told patterns_told operands_told
counts_in w (pattern.Variable x) = refl
counts_in w (pattern.Alias x p) = refl
counts_in w (pattern.Wildcard at) = refl
counts_in w (pattern.Literal at found) = refl
counts_in w (pattern.Negative at n) = refl
counts_in w (pattern.Constructed at c ps) =
    ap (λ n. constructor_fault w.around.names (name_meaning w.names c) n ++ patterns_told Counts w ps.items) (sym (counted w.names ps.items))
counts_in w (pattern.Tuple at ps) = refl
counts_in w (pattern.List at ps) = refl
counts_in w (pattern.Operators items) = refl

node_is : (s : Sought) (w : Setting) (p : Pattern) (n : PatternNode) → pattern_node w.names n ≡ pattern_meaning w.names p → node_told s w n ≡ pattern_told s w p
unfolding pattern_told
node_is Clashes w p n meaning = clashes_in w n ∙ ap (pattern_clashes w.around.names) meaning
node_is Counts w p n meaning = counts_in w n ∙ ap (constructor_faults w.around.names) meaning

pub pattern_by : (s : Sought) (w : Setting) (p : Pattern) (v n : PatternNode) (a b : First) → pattern_node w.names v ≡ pattern_meaning w.names p → v ≡ n
    → Told w.owner a (node_told s w n) b → Told w.owner a (pattern_told s w p) b
pattern_by s w p v n a b meaning is told = told_as (node_is s w p n (ap (pattern_node w.names) (sym is) ∙ meaning)) told

-- ---- several

patterns_cons : (s : Sought) (w : Setting) (p : Pattern) (ps : List Pattern) → patterns_told s w (p ∷ ps) ≡ pattern_told s w p ++ patterns_told s w ps
unfolding pattern_told patterns_told
patterns_cons Clashes w p ps = refl
patterns_cons Counts w p ps = refl

patterns_nil : (s : Sought) (w : Setting) → patterns_told s w [] ≡ []
unfolding patterns_told
patterns_nil Clashes w = refl
patterns_nil Counts w = refl

pub patterns_prefix : (P : Pattern → Type 0) (s : Sought) (w : Setting) (xs : List Pattern) (i : ℕ) (x : Pattern) (a b c : First) → x ≡ get_or xs i x → i < length xs → All P xs
    → (P x → Told w.owner a (pattern_told s w x) b) → Told w.owner b (patterns_told s w (drop (i + 1) xs)) c → Told w.owner a (patterns_told s w (drop i xs)) c
patterns_prefix P s w = told_prefix P (patterns_told s w) (pattern_told s w) (patterns_cons s w) w.owner

pub patterns_end : (s : Sought) (w : Setting) (xs : List Pattern) (i : ℕ) (a : First) → length xs ≤ i → Told w.owner a (patterns_told s w (drop i xs)) a
patterns_end s w = told_end (patterns_told s w) (patterns_nil s w) w.owner

abbrev operand_told : Sought → Setting → ConstructorItem → List Fault
operand_told s w item = constructed_told s w item.operator 2 ++ pattern_told s w item.operand

operands_cons : (s : Sought) (w : Setting) (x : ConstructorItem) (xs : List ConstructorItem) → operands_told s w (x ∷ xs) ≡ operand_told s w x ++ operands_told s w xs
unfolding pattern_told operands_told
operands_cons Clashes w x xs = refl
operands_cons Counts w x xs =
    sym (append_assoc (constructor_fault w.around.names (name_meaning w.names x.operator) 2) (pattern_told Counts w x.operand) (operands_told Counts w xs))

operands_nil : (s : Sought) (w : Setting) → operands_told s w [] ≡ []
unfolding operands_told
operands_nil Clashes w = refl
operands_nil Counts w = refl

pub operands_prefix : (P : ConstructorItem → Type 0) (s : Sought) (w : Setting) (xs : List ConstructorItem) (i : ℕ) (x : ConstructorItem) (a b c : First) → x ≡ get_or xs i x → i < length xs → All P xs
    → (P x → Told w.owner a (operand_told s w x) b) → Told w.owner b (operands_told s w (drop (i + 1) xs)) c → Told w.owner a (operands_told s w (drop i xs)) c
operands_prefix P s w = told_prefix P (operands_told s w) (operand_told s w) (operands_cons s w) w.owner

pub operands_end : (s : Sought) (w : Setting) (xs : List ConstructorItem) (i : ℕ) (a : First) → length xs ≤ i → Told w.owner a (operands_told s w (drop i xs)) a
operands_end s w = told_end (operands_told s w) (operands_nil s w) w.owner
