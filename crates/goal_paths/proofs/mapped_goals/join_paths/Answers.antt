use Rattle.std.proofs.Common.{◌≡◌, Some, None, is_some, IsSome, refl, sym, ap, subst, ◌∙◌}
use Rattle.std.proofs.lemmas.Bool.{false≢true}
use Rattle.std.specs.Map.{lookup}
use Rattle.std.specs.Option.{option_map, option_copied_mut}
use Rattle.goal_paths.specs.Below.{union}
use Rattle.goal_paths.specs.Words.{joined_paths, paths_now}
use Rattle.goal_paths.proofs.RaisedPaths.{joins_noted, noted-joined, paths_at-noted}
use Rattle.goal_paths.proofs.mapped_goals.join_paths.Goals as goal

-- the paths of a known goal
pub returns-in-Some-clause-ok : goal.returns-in-Some-clause-ok
returns-in-Some-clause-ok g c =
    let same = g.I.PartialEq.eq in
    let old = c.args.goals.now.entries in
    let found : lookup (same c.args.input) old ≡ Some c.in-Some.known.now = sym c.in-Some.ensures.value in
    let updates = (c.get_mut.follows.holds c.note.result).3 (subst IsSome (sym found) refl) in
    joins_noted same c.args.raises.now old (c.get_mut.follows.lender c.note.result).entries c.args.input
    c.args.paths c.union.result c.note.result
    c.note.ensures
    (ap Some ((λ i. record { 0 = c.union.ensures tt i }) ∙ ap (λ paths. union paths c.args.paths) c.paths_now.ensures)
    ∙ sym (ap (λ o. joined_paths (option_map (paths_now c.args.raises.now) o) (Some c.args.paths)) found))
    updates.1 updates.2

-- the paths of a new goal
pub returns-clause-ok : goal.returns-clause-ok
returns-clause-ok g c =
    let same = g.I.PartialEq.eq in
    let old = c.args.goals.now.entries in
    let found : lookup (same c.args.input) old ≡ None =
    sym c.get_mut.ensures.value ∙ ap option_copied_mut c.in_default.is in
    let own : c.get_mut.follows.lender-at-none.entries ≡ old = ap (λ m. m.entries) c.get_mut.follows.holds-at-none in
    let updates = rw own at c.in_ok-insert.ensures.updates in
    joins_noted same c.args.raises.now old c.insert.new.self.entries c.args.input
    c.args.paths c.args.paths c.note-2.result
    c.note-2.ensures
    (sym (ap (λ o. joined_paths (option_map (paths_now c.args.raises.now) o) (Some c.args.paths)) found))
    updates.1 updates.2

-- a goal that could not be put in was not known
pub returns-in_err-insert-clause-known : goal.returns-in_err-insert-clause-known
returns-in_err-insert-clause-known g c =
    let same = g.I.PartialEq.eq in
    let old = c.args.goals.now.entries in
    let found : lookup (same c.args.input) old ≡ None =
    sym c.get_mut.ensures.value ∙ ap option_copied_mut c.in_default.is in
    let none =
    paths_at-noted same c.args.raises.now old c.args.input ∙ ap (option_map (paths_now c.args.raises.now)) found in
    λ some. absurd (false≢true (ap is_some (sym none) ∙ some))

pub returns-in-Some-clause-noted : goal.returns-in-Some-clause-noted
returns-in-Some-clause-noted g c =
    let same = g.I.PartialEq.eq in
    let old = c.args.goals.now.entries in
    let found : lookup (same c.args.input) old ≡ Some c.in-Some.known.now = sym c.in-Some.ensures.value in
    let updates = (c.get_mut.follows.holds c.note.result).3 (subst IsSome (sym found) refl) in
    noted-joined same g.met.I.Eq.laws c.args.raises.now old
    (c.get_mut.follows.lender c.note.result).entries c.args.input c.note.result
    (ap (λ noted. noted.raises) c.note.ensures) updates.1 updates.2 c.requires

pub returns-clause-noted : goal.returns-clause-noted
returns-clause-noted g c =
    let old = c.args.goals.now.entries in
    let own : c.get_mut.follows.lender-at-none.entries ≡ old = ap (λ m. m.entries) c.get_mut.follows.holds-at-none in
    let updates = rw own at c.in_ok-insert.ensures.updates in
    noted-joined g.I.PartialEq.eq g.met.I.Eq.laws c.args.raises.now old
    c.insert.new.self.entries c.args.input c.note-2.result
    (ap (λ noted. noted.raises) c.note-2.ensures) updates.1 updates.2 c.requires
