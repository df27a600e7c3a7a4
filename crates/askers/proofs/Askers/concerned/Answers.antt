use Rattle.std.proofs.Common.{subst, sym}
use Rattle.askers.specs.Concerned.{IsConcerned}
use Rattle.askers.specs.Told.{told_of}
use Rattle.askers.proofs.Following.{all_found}
use Rattle.askers.proofs.Askers.concerned.Goals as goal

pub returns : goal.returns
returns g c = λ one.
    let same = g.I.PartialEq.eq in
    let found = all_found same (told_of same c.self.inside.told) c.args.changed.now c.new-found.result
    c.note_all.new.self c.follow_all.new.self c.new-found.ensures.none c.in_ok-note_all.ensures
    c.in_ok-follow_all.ensures one in
    let noted = c.into_goals.ensures one in (
      λ has. subst (λ asks. IsConcerned asks c.args.changed.now one) c.self.view_is (found.0 (noted.0 has)),
      λ is. noted.1 (found.1 (subst (λ asks. IsConcerned asks c.args.changed.now one) (sym c.self.view_is) is)),
    )
