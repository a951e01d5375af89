use Rattle.std.proofs.Common.{ℕ, List, [], refl}
use Rattle.std.specs.Borrow.{Bor}
use Rattle.cu_names.specs.Texts.{text_of}
use Rattle.cu_toplevel.specs.Inside.Given.{given_meaning, given_text}
use Rattle.cu_toplevel.proofs.GivenLemmas.{all_given, given_more, none_yet, there_at}
use Rattle.cu_toplevel.proofs.given.add_given.Goals as goal

pub given-init : goal.given-init
given-init c = λ before differ has. none_yet c.args.names.now before c.args.listing.now has

pub given-preserved : goal.given-preserved
given-preserved c = λ before differ has.
    let arity : Bor (List ℕ) × ℕ → ℕ = λ g. g.1 in
    let d : Bor (List ℕ) × ℕ = (record { ref_ptr = (0, 0); now = [] }, 0) in
    given_more given_text arity c.args.names.now before c.args.given.now c.given.text-index d c.args.owner c.found-name.result _ c.given.listing c.add.new.self
    c.given-test.true c.requires.known c.found-name.ensures refl (λ all known listed. c.in_ok-add.ensures c.args.names.now all differ known listed) (c.given.invariant before differ has)

pub returns : goal.returns
returns c = λ before differ has.
    all_given (given_meaning (text_of c.args.names.now c.args.owner)) c.args.names.now before c.args.given.now c.given.text-index c.given.listing c.given-test.false (c.given.invariant before differ has)

pub found-name-requires : goal.found-name-requires
found-name-requires c = there_at given_text c.args.names.now c.args.given.now c.given.text-index (record { ref_ptr = (0, 0); now = [] }, 0) c.given-test.true c.requires.there
