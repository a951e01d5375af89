use Rattle.std.proofs.Common.{◌∙◌, ◌-◌, arith, length, refl, sym}
use Rattle.std.proofs.lemmas.Bool.{ltb-false}
use Rattle.std.proofs.lemmas.Option.{slice_get_past, slice_get_read}
use Rattle.cu_names.specs.Texts.{text_of}
use Rattle.cu_sites.proofs.UseLemmas.{seeks_all, seeks_found, seeks_missing, seeks_none, seeks_on, unqualified}
use Rattle.cu_sites.proofs.sites.Sites.named.Goals as goal

pub loop-number-init : goal.loop-number-init
loop-number-init c t found at of = seeks_all t c.args.self.now.entries.items found c.args.scope (text_of t.names c.args.name.text) at

pub loop-number-preserved : goal.loop-number-preserved
loop-number-preserved c t found at of =
    let entries = c.args.self.now.entries.items in
    let number = c.loop-number.number in
    let read = rw c.deref.ensures.value at c.in-Some.ensures.lookup in
    seeks_on t entries found number c.min-number.result c.args.name c.in-Some.first.now c.loop-number-test.true
    (slice_get_read entries (length entries) (number - 1) c.in-Some.first.now refl read.3.0 read.1) of (sym c.if-eq.ensures) c.min-number.ensures
    (c.loop-number.invariant t found at of)

pub returns-then-eq : goal.returns-then-eq
returns-then-eq c t found at of =
    let entries = c.args.self.now.entries.items in
    let number = c.loop-number.number in
    let read = rw c.deref.ensures.value at c.in-Some.ensures.lookup in
    seeks_found t entries found number c.args.name c.in-Some.first.now c.loop-number-test.true
    (slice_get_read entries (length entries) (number - 1) c.in-Some.first.now refl read.3.0 read.1) of (sym c.if-eq.ensures)
    (c.loop-number.invariant t found at of)
    ∙ sym (unqualified t.names found c.args.name (sym c.if-is_some.ensures))

pub returns-after-loop-number : goal.returns-after-loop-number
returns-after-loop-number c t found at of =
    seeks_none t c.args.self.now.entries.items found c.loop-number.number (text_of t.names c.args.name.text) (omega (arith, c.loop-number-test.false))
    (c.loop-number.invariant t found at of)
    ∙ sym (unqualified t.names found c.args.name (sym c.if-is_some.ensures))

pub returns-in_default : goal.returns-in_default
returns-in_default c t found at of =
    let entries = c.args.self.now.entries.items in
    let number = c.loop-number.number in
    let read = rw c.deref.ensures.value at c.in_default.ensures.lookup in
    absurd (seeks_missing t entries found number (text_of t.names c.args.name.text) c.loop-number-test.true
    (slice_get_past entries (number - 1) (ltb-false (number - 1) (length entries) (sym read.0))) (c.loop-number.invariant t found at of))
