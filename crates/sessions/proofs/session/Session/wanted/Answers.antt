use Rattle.std.proofs.Common.{ap, arith, false, length, nat_eq, refl, sym, true, ◌++◌, ◌<◌, ◌∙◌, ◌∷◌, ◌≡◌, []}
use Rattle.sessions.proofs.Wanted.{fails_more, passes_more, wanted_at}
use Rattle.sessions.proofs.session.Session.wanted.Goals as goal
use Rattle.sessions.proofs.session.Session.wanted.Goals.{else-is_unknown, else-is_unknown-via-else-is_unknown}
use Rattle.sessions.proofs.session.Session.wanted.Goals.{else-is_unknown-via-then-is_unknown+else-has_result}
use Rattle.sessions.proofs.session.Session.wanted.Goals.{then-is_unknown+then-has_result+in_ok-push}
use Rattle.sessions.specs.Known.{has_result, is_wanted}

pub loop-place-preserved : goal.loop-place-preserved
loop-place-preserved g c =
    let rules = g.L.LendsArrays.table_of c.args.self.now.cache.cx.0.0.lender in
    let rows = c.goals-row-items.result.now in
    let results = c.args.self.now.cache.results in
    let at = c.loop-place.place in
    let found = c.loop-place.wanted.items in
    let are : c.goals-row-items.result.now ≡ (g.L.LendsArrays.table_of c.args.self.now.cache.cx.0.0.lender).goals =
    c.goals-row-items.ensures ∙ ap (λ cx. (g.L.LendsArrays.table_of cx.0.0.lender).goals) c.cx.ensures in
    let inside : c.loop-place.place < length c.goals-row-items.result.now = omega (arith, c.loop-place-test.true) in
    let is_goal : c.in-Ok.goal ≡ c.loop-place.place = omega (arith, c.in-Ok.ensures) in
    record {
      found = elim c.if-is_unknown.branch [
        | then-is_unknown+then-has_result+in_ok-push w ↦
            passes_more (is_wanted rules nat_eq results) at found c.if-is_unknown.wanted.items
            c.loop-place.invariant.found
            (wanted_at rules rows nat_eq results at _ true true are inside
            (sym w.if-is_unknown.true ∙ c.is_unknown.ensures)
            (sym w.if-has_result.true ∙ w.has_result.ensures ∙ ap (has_result nat_eq results) is_goal))
            (ap (λ v. v.items) w.wanted-is ∙ w.in_ok-push.ensures.items ∙ ap (λ n. found ++ n ∷ []) is_goal)
        | else-is_unknown w ↦ ap (λ v. v.items) w.wanted-is
            ∙ fails_more (is_wanted rules nat_eq results) at found c.loop-place.invariant.found
            (elim w.else-is_unknown.branch [
              | else-is_unknown-via-then-is_unknown+else-has_result v ↦
                  wanted_at rules rows nat_eq results at _ true false are inside
                  (sym v.if-is_unknown.true ∙ c.is_unknown.ensures)
                  (sym v.if-has_result.false ∙ v.has_result.ensures ∙ ap (has_result nat_eq results) is_goal)
              | else-is_unknown-via-else-is_unknown v ↦
                  wanted_at rules rows nat_eq results at _ false (has_result nat_eq results at) are inside
                  (sym v.if-is_unknown.false ∙ c.is_unknown.ensures) refl
            ])
      ];
      few = omega (arith, c.in-Ok.ensures, c.loop-place-test.true);
    }
