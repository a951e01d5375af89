use Rattle.std.proofs.Common.{◌≡◌, ℕ, ◌+◌, List, ◌++◌, ap, eq-eqb, ne_eqb, reverse, rules, sym, ◌∙◌}
use Rattle.cu_kernel.specs.KernelOf.{mark_meaning}
use Rattle.cu_flattext.specs.Inside.LineTasks.{function_at, function_lines, line_parts, lines_left, work_left}
use Rattle.cu_flattext.specs.Inside.Stands.{lowered_of}
use Rattle.cu_flattext.specs.Text.{on_a_line}
use Rattle.cu_flattext.specs.Naming.{elements, further}
use Rattle.cu_flattext.proofs.ElementLemmas.{element_read, elements_none, line_pushed}
use Rattle.cu_flattext.proofs.FunctionLemmas.{has_function, lacks_function, no_function, no_mark, other_function, own_function}
use Rattle.cu_flattext.proofs.module_text.ModuleText.functions.Goals as goal

pub returns-then-k-function_count : goal.returns-then-k-function_count
returns-then-k-function_count c =
    let self = c.args.self.now in
    let page = c.args.page.now.text.items in
    ap (λ (t : List ℕ). page ++ (t ++ lines_left self)) (sym (elements_none c.args.follows))
    ∙ ap (λ (xs : List (List ℕ)). page ++ (elements c.args.follows xs ++ lines_left self))
    (sym (no_function (lowered_of self.wording) self.module c.args.k
    (lacks_function self.wording.flat.now c.function_count.result c.args.k c.function_count.ensures c.if-k-function_count.true)))

pub returns-in_default : goal.returns-in_default
returns-in_default c =
    let self = c.args.self.now in
    let page = c.args.page.now.text.items in
    ap (λ (t : List ℕ). page ++ (t ++ lines_left self)) (sym (elements_none c.args.follows))
    ∙ ap (λ (xs : List (List ℕ)). page ++ (elements c.args.follows xs ++ lines_left self))
    (sym (no_mark (lowered_of self.wording) self.module c.args.k (sym c.in_default.ensures)))

pub returns-in_ok-work : goal.returns-in_ok-work
returns-in_ok-work c =
    let self = c.args.self.now in
    let m = self.module in
    let k = c.args.k in
    let program = lowered_of self.wording in
    let mark = mark_meaning c.in-Some.mark.now in
    let next : c.in_ok-next.next ≡ k + 1 = search rules in
    element_read (c.function.new.page.text.items ++ (work_left c.in_ok-work.work ++ lines_left c.function.new.self)) c.args.page.now.text.items c.args.follows
    (on_a_line (function_at program (record { 0 = k }) mark.public)) (function_lines program m (k + 1)) (function_lines program m k)
    (lines_left self) (line_parts program m (reverse c.push.new.self.items))
    (own_function program m k mark
    (has_function self.wording.flat.now c.function_count.result k c.function_count.ensures c.if-k-function_count.false)
    (sym c.in-Some.ensures) (eq-eqb mark.module m c.if-mark-self.true))
    (line_pushed program m self.lines.items c.push.new.self.items _ c.in_ok-push.ensures.items
    ∙ ap (λ n. further (function_lines program m n) ++ lines_left self) next)
    c.in_ok-work.ensures

pub returns-in_ok-push-2 : goal.returns-in_ok-push-2
returns-in_ok-push-2 c =
    let self = c.args.self.now in
    let m = self.module in
    let k = c.args.k in
    let program = lowered_of self.wording in
    let mark = mark_meaning c.in-Some.mark.now in
    let next : c.in_ok-next.next ≡ k + 1 = search rules in
    ap (λ (t : List ℕ). c.args.page.now.text.items ++ t)
    (line_pushed program m self.lines.items c.push-else-mark-self.new.self.items _ c.in_ok-push-2.ensures.items
    ∙ ap (λ n. elements c.args.follows (function_lines program m n) ++ lines_left self) next
    ∙ ap (λ (xs : List (List ℕ)). elements c.args.follows xs ++ lines_left self)
    (sym (other_function program m k mark
    (has_function self.wording.flat.now c.function_count.result k c.function_count.ensures c.if-k-function_count.false)
    (sym c.in-Some.ensures) (ne_eqb mark.module m c.if-mark-self.false))))
