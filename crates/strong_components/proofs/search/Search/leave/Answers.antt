use Rattle.std.proofs.Common.{arith, refl, subst, sym}
use Rattle.std.proofs.lemmas.Bool.{iff_false}
use Rattle.strong_components.specs.Words.{HasLast}
use Rattle.strong_components.proofs.Indexes.{IsFront-pop}
use Rattle.strong_components.proofs.Opening.{same_search}
use Rattle.strong_components.proofs.Closing.{close_keeps}
use Rattle.strong_components.proofs.Leaving.{leave_keeps}
use Rattle.strong_components.proofs.search.Search.leave.Goals as goal

pub returns-then-ends_with-clause-ongoing : goal.returns-then-ends_with-clause-ongoing
returns-then-ends_with-clause-ongoing c graph ongoing done =
    let s = c.args.self.now in
    let closes = c.close_from.ensures.closes in
    let at_end : HasLast s.starts.items c.args.position =
    subst (λ xs. HasLast xs c.args.position) c.deref.ensures.value (c.ends_with.ensures.0 c.if-ends_with.true) in
    let path_front =
    IsFront-pop s.path.items _ _ s.path.ok.0 (omega (arith, s.path.ok.0, c.requires.last.0)) c.pop.ensures.rest in
    let starts_front = IsFront-pop s.starts.items _ _ s.starts.ok.0 (omega (arith, s.starts.ok.0, at_end.0))
    c.pop-then-ends_with.ensures.rest in
    same_search graph refl closes.left closes.opened closes.starts closes.path c.close_from.ensures.counts
    (close_keeps graph s.states.items c.close_from.new.self.states.items s.left.items s.opened.items s.starts.items _
    s.path.items _ s.closed c.args.position ongoing c.requires.last path_front at_end starts_front done
    closes.states closes.fit closes.news)

pub returns-else-ends_with-clause-ongoing : goal.returns-else-ends_with-clause-ongoing
returns-else-ends_with-clause-ongoing c graph ongoing done =
    let s = c.args.self.now in
    let path_front =
    IsFront-pop s.path.items _ _ s.path.ok.0 (omega (arith, s.path.ok.0, c.requires.last.0)) c.pop.ensures.rest in
    leave_keeps graph s.states.items s.left.items s.opened.items s.starts.items s.path.items _ s.closed c.args.position
    ongoing c.requires.last path_front done
    (λ at_end. iff_false c.ends_with.ensures c.if-ends_with.false
    (subst (λ xs. HasLast xs c.args.position) (sym c.deref.ensures.value) at_end))
