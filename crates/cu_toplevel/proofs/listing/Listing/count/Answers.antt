use Rattle.std.proofs.Common.{◌∙◌, ◌≡◌, ap, arith, length, sym}
use Rattle.std.proofs.lemmas.List.{length-map}
use Rattle.cu_toplevel.specs.Listings.{declared_meaning}
use Rattle.cu_toplevel.proofs.listing.Listing.count.Goals as goal

pub returns : goal.returns
returns c = λ names listed has.
    let items = c.args.self.now.list.items in
    let counted : c.len.result ≡ length items = omega (arith, c.len.ensures) in
    counted ∙ sym (length-map items (declared_meaning names)) ∙ ap length has.are
