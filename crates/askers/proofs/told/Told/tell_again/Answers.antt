use Rattle.std.proofs.Common.{◌≡◌, Some, false, length, refl, slice_get, true}
use Rattle.std.proofs.lemmas.Option.{slice_get_read}
use Rattle.askers.specs.Told.{counts, first_of}
use Rattle.askers.proofs.Again.{on_ok, tells_nothing, tells_one}
use Rattle.askers.proofs.told.Told.tell_again.Goals as goal

pub returns-then-not-counts-clause-told : goal.returns-then-not-counts-clause-told
returns-then-not-counts-clause-told g c = λ it there.
    let same = g.I.PartialEq.eq in
    let told = c.args.self.now in
    let link = c.index-link.result.now in
    let is_at : slice_get told.links.items c.args.place ≡ Some link =
    slice_get_read told.links.items (length told.links.items) c.args.place link refl c.requires.within
    c.index-link.ensures in
    let none : counts (first_of same told) c.args.place link.asker ≡ false = cc in
    tells_nothing same told c.args.other.now c.args.place link it is_at there none

pub returns-clause-told : goal.returns-clause-told
returns-clause-told g c =
    let same = g.I.PartialEq.eq in
    let told = c.args.self.now in
    let link = c.index-link.result.now in
    let is_at : slice_get told.links.items c.args.place ≡ Some link =
    slice_get_read told.links.items (length told.links.items) c.args.place link refl c.requires.within
    c.index-link.ensures in
    let counted : counts (first_of same told) c.args.place link.asker ≡ true = cc in
    on_ok c.add_one.result
    (λ tells it there.
    tells_one same told c.args.other.now c.add_one.new.self c.args.place link it is_at there counted tells)
    c.add_one.ensures.ok
