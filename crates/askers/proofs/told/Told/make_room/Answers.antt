use Rattle.std.proofs.Common.{◌∙◌, ap, arith}
use Rattle.std.specs.HashMap as hash
use Rattle.askers.specs.Told.{counted, first_of, pairs_of}
use Rattle.askers.proofs.Entering.{told_still}
use Rattle.askers.proofs.told.Told.make_room.Goals as goal

pub returns-clause-told : goal.returns-clause-told
returns-clause-told g c =
    let same = g.I.PartialEq.eq in
    let first = first_of same c.args.self.now in
    told_still first (hash.get same c.enter.new.entries) c.reserve.new.self.items c.len.result
    (omega (arith, c.len.ensures)) c.enter.ensures.kept
    ∙ ap (λ l. counted first 0 (pairs_of l)) c.reserve.ensures.items
