use Rattle.std.proofs.Common.{ℕ, List, []}
use Rattle.std.specs.Borrow.{Bor}
use Rattle.cu_calculus.specs.declared.builtin.Primitive.{Primitive}
use Rattle.cu_calculus.specs.declared.builtin.Primitive.TheVariants as prim
use Rattle.cu_calculus.specs.Valid.{external_arity}
use Rattle.cu_names.specs.Texts.{text_of}
use Rattle.cu_toplevel.specs.Inside.Given.{external_text, operation_meaning}
use Rattle.cu_toplevel.proofs.GivenLemmas.{all_given, given_more, none_yet, there_at}
use Rattle.cu_toplevel.proofs.externals.add_externals.Goals as goal

pub externals-init : goal.externals-init
externals-init c = λ before differ has. none_yet c.args.names.now before c.args.listing.now has

pub externals-preserved : goal.externals-preserved
externals-preserved c = λ before differ has.
    let arity : Bor (List ℕ) × Primitive → ℕ = λ g. external_arity g.1 in
    let d : Bor (List ℕ) × Primitive = (record { ref_ptr = (0, 0); now = [] }, prim.Add) in
    given_more external_text arity c.args.names.now before c.args.externals.now c.externals.text-index d c.args.owner c.found-name.result _ c.externals.listing c.add.new.self
    c.externals-test.true c.requires.known c.found-name.ensures c.external_arity.ensures (λ all known listed. c.in_ok-add.ensures c.args.names.now all differ known listed)
    (c.externals.invariant before differ has)

pub returns : goal.returns
returns c = λ before differ has.
    all_given (operation_meaning (text_of c.args.names.now c.args.owner)) c.args.names.now before c.args.externals.now c.externals.text-index c.externals.listing c.externals-test.false
    (c.externals.invariant before differ has)

pub found-name-requires : goal.found-name-requires
found-name-requires c = there_at external_text c.args.names.now c.args.externals.now c.externals.text-index (record { ref_ptr = (0, 0); now = [] }, prim.Add) c.externals-test.true c.requires.there
