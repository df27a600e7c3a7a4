use Rattle.std.proofs.Common.{◌≡◌, ◌<◌, Bool, Some, None, length, sym, ap, ◌∙◌}
use Rattle.std.proofs.lemmas.List.Quantifiers.{position-Some}
use Rattle.std.specs.List.{position}
use Rattle.goal_paths.specs.Below.{PathsToNested, union}
use Rattle.goal_paths.proofs.ListedGoals.{joins_at-place, keys_of-set, paths_at-no_place}
use Rattle.goal_paths.proofs.goal_list.join_known.Goals as goal

-- a goal that is not there
pub returns-in_default-clause-absent : goal.returns-in_default-clause-absent
returns-in_default-clause-absent g c =
    let same = g.I.PartialEq.eq in
    let is_goal : g.row.I.Denot × PathsToNested → Bool = λ goal. same c.args.input goal.0 in
    let place : position is_goal c.args.goals.now.items ≡ None =
    sym (c.place_of.ensures ∙ ap (position is_goal) c.as_slice.ensures.value) ∙ c.in_default.is in
    λ _. paths_at-no_place same c.args.goals.now.items c.args.input place

-- a known goal
pub returns-clause-known : goal.returns-clause-known
returns-clause-known g c =
    let same = g.I.PartialEq.eq in
    let is_goal : g.row.I.Denot × PathsToNested → Bool = λ goal. same c.args.input goal.0 in
    let at : position is_goal c.args.goals.now.items ≡ Some c.in-Some.place =
    sym (c.place_of.ensures ∙ ap (position is_goal) c.as_slice.ensures.value) ∙ c.in-Some.is in
    let known = c.index_mut-known.result.now in
    λ _. joins_at-place same g.met.I.Eq.laws c.args.goals.now.items c.args.input c.args.paths c.in-Some.place
    known known.0 c.union-known.result at
    (ap (λ goal. goal.0) c.index_mut-known.ensures.value)
    ((λ i. record { 0 = c.union-known.ensures tt i })
    ∙ ap (λ goal. union goal.1 c.args.paths) c.index_mut-known.ensures.value)

pub returns-clause-keys : goal.returns-clause-keys
returns-clause-keys g c =
    let same = g.I.PartialEq.eq in
    let is_goal : g.row.I.Denot × PathsToNested → Bool = λ goal. same c.args.input goal.0 in
    let at : position is_goal c.args.goals.now.items ≡ Some c.in-Some.place =
    sym (c.place_of.ensures ∙ ap (position is_goal) c.as_slice.ensures.value) ∙ c.in-Some.is in
    let known = c.index_mut-known.result.now in
    let inside : c.in-Some.place < length c.args.goals.now.items =
    (position-Some is_goal c.args.goals.now.items c.in-Some.place known at).0 in
    keys_of-set c.args.goals.now.items c.in-Some.place known known.0 c.union-known.result inside
    (ap (λ goal. goal.0) c.index_mut-known.ensures.value)
