use Rattle.std.proofs.Common.{◌≡◌, [], ◌∷◌, ◌++◌, refl, sym, ap, subst, ◌∙◌}
use Rattle.std.specs.List.{IsDistinct}
use Rattle.std.specs.Map.{keys_of}
use Rattle.goal_paths.specs.Words.{JoinsPaths}
use Rattle.goal_paths.proofs.ListedGoals.{distinct-end, joins_at-end}
use Rattle.goal_paths.proofs.goal_list.join_listed.Goals as goal

-- a goal that is new
pub returns-clause-joins : goal.returns-clause-joins
returns-clause-joins g c =
    let same = g.I.PartialEq.eq in
    let items = c.args.goals.now.items in
    let kept : c.join_known.new.goals.items ≡ items = ap (λ goals. goals.items) (c.if-join_known.ensures.not refl) in
    subst (λ goals. JoinsPaths same items goals c.args.input c.args.paths)
    (sym (c.push_reserved.ensures.items ∙ ap (λ goals. goals ++ (c.args.input, c.args.paths) ∷ []) kept))
    (joins_at-end same g.met.I.Eq.laws items c.args.input c.args.paths (c.if-join_known.ensures.absent refl))

pub returns-clause-distinct : goal.returns-clause-distinct
returns-clause-distinct g c =
    let same = g.I.PartialEq.eq in
    let items = c.args.goals.now.items in
    let kept : c.join_known.new.goals.items ≡ items = ap (λ goals. goals.items) (c.if-join_known.ensures.not refl) in
    subst (λ goals. IsDistinct same (keys_of goals))
    (sym (c.push_reserved.ensures.items ∙ ap (λ goals. goals ++ (c.args.input, c.args.paths) ∷ []) kept))
    (distinct-end same g.met.I.Eq.laws items c.args.input c.args.paths
    (c.if-join_known.ensures.absent refl) c.requires.distinct)
