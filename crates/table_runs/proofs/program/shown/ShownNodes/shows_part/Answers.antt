use Rattle.std.proofs.Common.{subst, sym}
use Rattle.std.specs.Prelude.{IfSome}
use Rattle.table_runs.specs.Parts.{AllAreShown, KnownAreShown}
use Rattle.table_runs.specs.Right.{AreShown}
use Rattle.table_runs.proofs.program.shown.ShownNodes.shows_part.Goals as goal

pub returns-in_err-remember-clause-remembered : goal.returns-in_err-remember-clause-remembered
returns-in_err-remember-clause-remembered g c = λ known.
    let cx = c.args.cache.now.cx in
    let keys : AreShown g.X.Cx cx c.self.inside.shown.entries = subst (AreShown g.X.Cx cx) (sym c.self.view_is) known in
    let part = c.in-Some.part in
    let are_known : KnownAreShown g.X.Cx cx c.sort-sort.result part.known.items part.graph.nodes.items =
    subst (λ o. IfSome o (λ p. KnownAreShown g.X.Cx cx c.sort-sort.result p.known.items p.graph.nodes.items))
    c.in-Some.is (c.in_ok-part.ensures.known keys) in
    let all : AllAreShown g.X.Cx cx part.graph.nodes.items =
    subst (λ k. AllAreShown g.X.Cx k part.graph.nodes.items) c.cx-2.ensures
    (c.in_ok-is_part_shown.ensures (subst (λ k. KnownAreShown g.X.Cx k c.sort-sort.result part.known.items
    part.graph.nodes.items) (sym c.cx-2.ensures) are_known) c.if-not-branch.false) in
    c.remember.ensures cx all keys

pub returns-clause-shown : goal.returns-clause-shown
returns-clause-shown g c = λ known.
    let cx = c.args.cache.now.cx in
    let keys : AreShown g.X.Cx cx c.self.inside.shown.entries = subst (AreShown g.X.Cx cx) (sym c.self.view_is) known in
    let part = c.in-Some.part in
    let are_known : KnownAreShown g.X.Cx cx c.sort-sort.result part.known.items part.graph.nodes.items =
    subst (λ o. IfSome o (λ p. KnownAreShown g.X.Cx cx c.sort-sort.result p.known.items p.graph.nodes.items))
    c.in-Some.is (c.in_ok-part.ensures.known keys) in
    let all : AllAreShown g.X.Cx cx part.graph.nodes.items =
    subst (λ k. AllAreShown g.X.Cx k part.graph.nodes.items) c.cx-2.ensures
    (c.in_ok-is_part_shown.ensures (subst (λ k. KnownAreShown g.X.Cx k c.sort-sort.result part.known.items
    part.graph.nodes.items) (sym c.cx-2.ensures) are_known) c.if-not-branch.false) in
    c.is_first.ensures cx all

pub returns-clause-remembered : goal.returns-clause-remembered
returns-clause-remembered g c = λ known.
    let cx = c.args.cache.now.cx in
    let keys : AreShown g.X.Cx cx c.self.inside.shown.entries = subst (AreShown g.X.Cx cx) (sym c.self.view_is) known in
    let part = c.in-Some.part in
    let are_known : KnownAreShown g.X.Cx cx c.sort-sort.result part.known.items part.graph.nodes.items =
    subst (λ o. IfSome o (λ p. KnownAreShown g.X.Cx cx c.sort-sort.result p.known.items p.graph.nodes.items))
    c.in-Some.is (c.in_ok-part.ensures.known keys) in
    let all : AllAreShown g.X.Cx cx part.graph.nodes.items =
    subst (λ k. AllAreShown g.X.Cx k part.graph.nodes.items) c.cx-2.ensures
    (c.in_ok-is_part_shown.ensures (subst (λ k. KnownAreShown g.X.Cx k c.sort-sort.result part.known.items
    part.graph.nodes.items) (sym c.cx-2.ensures) are_known) c.if-not-branch.false) in
    c.remember.ensures cx all keys
