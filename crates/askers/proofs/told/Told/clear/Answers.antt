use Rattle.std.proofs.Common.{arith, length, None, refl}
use Rattle.std.proofs.lemmas.List.{length-map}
use Rattle.std.specs.HashMap as hash
use Rattle.askers.specs.Told.{first_of, pair_of, pairs_of}
use Rattle.askers.proofs.Counting.{counted_cleared}
use Rattle.askers.proofs.told.Told.clear.Goals as goal

pub returns-clause-told : goal.returns-clause-told
returns-clause-told g c =
    let same = g.I.PartialEq.eq in
    let links = c.args.self.now.links.items in
    counted_cleared same (first_of same c.args.self.now) (hash.get same c.remove.new.self) c.args.goal
    None 0 (length links) (pairs_of links) (omega (arith, length-map links pair_of))
    (λ other. c.remove.ensures.updates.0 other) (λ place less. refl)
