use Rattle.std.proofs.Common.{◌∙◌, ◌≡◌, ◌++◌, ◌∷◌, [], ap, arith, subst, sym, map, length, refl}
use Rattle.std.proofs.lemmas.List.{length-map, map-append}
use Rattle.std.proofs.lemmas.List.Elements.{All-push}
use Rattle.std.specs.List.{All}
use Rattle.std.specs.Option.{unwrap_or}
use Rattle.indexmap.specs.IndexMap.{get}
use Rattle.cu_toplevel.specs.contracts.listing.KeyPartialEq.TheImpl.{eq-value}
use Rattle.cu_toplevel.specs.declared.listing.Numbered.{Numbered}
use Rattle.cu_toplevel.specs.Listings.{DeclaredIsKnown, declared_meaning}
use Rattle.cu_toplevel.proofs.ListingLemmas.{first_more}
use Rattle.cu_toplevel.proofs.listing.Listing.add.Goals as goal

pub returns : goal.returns
returns c = λ names before differ known has.
    let d = c.args.entity in
    let old = c.args.self.now.list.items in
    let next : Numbered = record { number = c.len.result; arity = d.arity } in
    let counted : c.len.result ≡ length old = omega (arith, c.len.ensures) in
    record {
      are = ap (map (declared_meaning names)) c.in_ok-push.ensures.items ∙ map-append (declared_meaning names) old (d ∷ []) ∙ ap (λ ds. ds ++ declared_meaning names d ∷ []) has.are;
      known = subst (All (DeclaredIsKnown names)) (sym c.in_ok-push.ensures.items) (All-push (DeclaredIsKnown names) old d has.known known);
      first = first_more names before d (record { owner = d.owner; name = d.name }) next c.found_or-first.result (get eq-value.it c.args.self.now.first) (get eq-value.it c.insert.new.self)
          differ known has.first refl
          (ap (λ n. record { number = n; arity = d.arity }) (counted ∙ sym (length-map old (declared_meaning names)) ∙ ap length has.are))
          (c.found_or-first.ensures ∙ ap (λ o. unwrap_or o next) c.get.ensures.value) (λ k. c.in_ok-insert.ensures.updates.0 k);
    }
