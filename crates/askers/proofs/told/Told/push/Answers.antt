use Rattle.std.proofs.Common.{◌≡◌, ◌∷◌, ◌++◌, [], arith, refl, subst, sym}
use Rattle.std.specs.HashMap as hash
use Rattle.askers.specs.Told.{IsIndex, first_of}
use Rattle.askers.specs.declared.told.Link.{Link}
use Rattle.askers.proofs.Entering.{entries_kept, told_more}
use Rattle.askers.proofs.Indexing.{one_more_indexed}
use Rattle.askers.proofs.told.Told.push.Goals as goal

pub returns-clause-linked : goal.returns-clause-linked
returns-clause-linked g c =
    let same = g.I.PartialEq.eq in
    let old = c.args.self.now in
    let first = first_of same old in
    let last = hash.get same old.last in
    let second = hash.get same c.insert.new.self in
    let link : Link _ = record { asker = c.args.goal; asked = c.args.one; earlier = c.last_of-earlier.result } in
    let items : c.push_reserved.new.self.items ≡ old.links.items ++ link ∷ [] = c.push_reserved.ensures.items in
    record {
      indexed = record {
        exact = c.requires.indexed.exact;
        index = subst (IsIndex first second) (sym items)
            (one_more_indexed same c.requires.indexed.exact g.met.I.Eq.laws.refl first last second old.links.items
            c.requires.indexed.index c.args.one link refl c.last_of-earlier.ensures _ (omega (arith, c.len.ensures))
            (λ other. c.in_ok-insert.ensures.updates.0 other));
      };
      told = told_more first last old.links.items c.push_reserved.new.self.items link c.requires.indexed.index
          c.requires.begun items;
      first = refl;
      entries = entries_kept same c.args.one last second _ (λ other. c.in_ok-insert.ensures.updates.0 other);
      more = c.push_reserved.ensures.len;
      capacity = c.push_reserved.ensures.capacity;
    }
