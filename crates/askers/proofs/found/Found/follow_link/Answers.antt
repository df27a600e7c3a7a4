use Rattle.std.proofs.Common.{◌≡◌, ◌∙◌, Some, ap, length, refl, slice_get, sym, true}
use Rattle.std.proofs.lemmas.Option.{slice_get_read}
use Rattle.askers.specs.Told.{IsAskerAt, counts, first_of}
use Rattle.askers.proofs.Finding.{found_as}
use Rattle.askers.proofs.found.Found.follow_link.Goals as goal

pub returns-clause-found : goal.returns-clause-found
returns-clause-found g c =
    let same = g.I.PartialEq.eq in
    let told = c.args.told.now in
    let link = c.index-link.result.now in
    let is_at : slice_get told.links.items c.args.place ≡ Some link =
    slice_get_read told.links.items (length told.links.items) c.args.place link refl c.requires.within
    c.index-link.ensures in
    let counted : counts (first_of same told) c.args.place link.asker ≡ true = cc in
    found_as same (λ other. other ≡ link.asker) (IsAskerAt same told c.args.place) c.args.self.now c.note.new.self
    (λ other is. record { link = link; is_at = is_at; same_asker = sym is; is_counted = counted })
    (λ other asks.
    let two : Some asks.link ≡ Some link = sym asks.is_at ∙ is_at in
    let one : asks.link ≡ link = cc in
    sym asks.same_asker ∙ ap (λ l. l.asker) one)
    c.in_ok-note.ensures
