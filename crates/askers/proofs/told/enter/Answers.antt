use Rattle.std.proofs.Common.{◌∙◌, sym}
use Rattle.std.specs.HashMap as hash
use Rattle.askers.proofs.Entering.{entered_kept, none_from}
use Rattle.askers.proofs.told.enter.Goals as goal

pub returns-clause-kept : goal.returns-clause-kept
returns-clause-kept g c =
    let same = g.I.PartialEq.eq in
    entered_kept same c.requires.exact c.args.goal c.args.entry (hash.get same c.args.entries.now)
    (hash.get same c.insert.new.self)
    (none_from (hash.get same c.args.entries.now c.args.goal) (sym c.contains_key.ensures ∙ c.if-contains_key.false))
    (λ other. c.in_ok-insert.ensures.updates.0 other)
