use Rattle.std.proofs.Common.{rules, ◌≡◌, ◌∙◌, [], Some, None, refl, sym, ap, subst, IsSome}
use Rattle.std.specs.Map.{lookup}
use Rattle.std.specs.Option.{option_map, option_copied_mut, unwrap_or}
use Rattle.provisional_cache.specs.Words.{lists_of}
use Rattle.provisional_cache.proofs.ProvisionalLists.{lists-set_same, puts_last}
use Rattle.provisional_cache.proofs.append.Goals as goal

-- a list that couldn't grow is the old one
pub returns-in_err-push-clause-err : goal.returns-in_err-push-clause-err
returns-in_err-push-clause-err g c =
    let test = g.I.PartialEq.eq c.args.input in
    let old = c.args.lists.now.entries in
    let v = c.in-Some.entries.now in
    let w = c.push.new.self in
    let found : lookup test old ≡ Some v = sym c.in-Some.ensures.value in
    let unchanged : lists_of (c.get_mut.follows.lender w).entries ≡ lists_of old =
    ap lists_of (c.get_mut.follows.holds w).0 ∙ lists-set_same test old v w found c.in_err-push.ensures.items in
    search (rules, unchanged)

pub returns-in-Some-clause-ok : goal.returns-in-Some-clause-ok
returns-in-Some-clause-ok g c =
    let same = g.I.PartialEq.eq in
    let old = c.args.lists.now.entries in
    let v = c.in-Some.entries.now in
    let w = c.push.new.self in
    let found : lookup (same c.args.input) old ≡ Some v = sym c.in-Some.ensures.value in
    let updates = (c.get_mut.follows.holds w).3 (subst IsSome (sym found) refl) in
    puts_last same old (c.get_mut.follows.lender w).entries c.args.input c.args.entry v.items w
    (ap (λ o. unwrap_or (option_map (λ u. u.items) o) []) found) c.in_ok-push.ensures.items updates.0

pub returns-clause-ok : goal.returns-clause-ok
returns-clause-ok g c =
    let same = g.I.PartialEq.eq in
    let old = c.args.lists.now.entries in
    let w = c.push-2.new.self in
    let found : lookup (same c.args.input) old ≡ None =
    sym c.get_mut.ensures.value ∙ ap option_copied_mut c.in_default.is in
    let own : c.get_mut.follows.lender-at-none.entries ≡ old = ap (λ m. m.entries) c.get_mut.follows.holds-at-none in
    let updates = rw own at c.in_ok-insert.ensures.updates.0 in
    puts_last same old c.insert.new.self.entries c.args.input c.args.entry [] w
    (ap (λ o. unwrap_or (option_map (λ u. u.items) o) []) found)
    (rw c.new-entries.ensures.items at c.in_ok-push-2.ensures.items) updates
