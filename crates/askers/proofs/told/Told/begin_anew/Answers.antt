use Rattle.std.proofs.Common.{arith, length, Some}
use Rattle.std.proofs.lemmas.Bool.{lt-leb}
use Rattle.std.proofs.lemmas.List.{length-map}
use Rattle.std.specs.HashMap as hash
use Rattle.askers.specs.Told.{first_of, pair_of, pairs_of}
use Rattle.askers.proofs.Counting.{counted_cleared}
use Rattle.askers.proofs.told.Told.begin_anew.Goals as goal

pub returns-clause-told : goal.returns-clause-told
returns-clause-told g c =
    let same = g.I.PartialEq.eq in
    let links = c.args.self.now.links.items in
    counted_cleared same (first_of same c.args.self.now) (hash.get same c.insert.new.self) c.args.goal
    (Some c.len.result) 0 (length links) (pairs_of links) (omega (arith, length-map links pair_of))
    (λ other. c.in_ok-insert.ensures.updates.0 other)
    (λ place less. lt-leb c.len.result place (omega (arith, less, c.len.ensures)))
