use Rattle.std.proofs.Common.{◌≡◌, [], ◌∷◌, Some, arith, ap, length, refl, reverse, slice_get, sym, subst, ◌∙◌}
use Rattle.std.proofs.lemmas.List.{reverse-append}
use Rattle.std.proofs.lemmas.Option.{slice_get_read}
use Rattle.type_texts.specs.Reasons.{Leads}
use Rattle.type_runs.specs.Search.{IsAt, types_in}
use Rattle.type_runs.proofs.Searching.{at_within, one_at}
use Rattle.type_runs.proofs.program.reason.Search.way_to.Goals as goal

pub loop-at-preserved : goal.loop-at-preserved
loop-at-preserved c =
    let search = c.args.self.now in
    let found = c.index-found.result.now in
    let is_at : slice_get search.found.items c.loop-at.at ≡ Some found =
    slice_get_read search.found.items (length search.found.items) c.loop-at.at found refl
    c.loop-at.invariant.within c.index-found.ensures in
    let link = c.requires.ongoing.is_linked c.loop-at.at found is_at c.loop-at-test.true in
    let come = link.1 in
    let turned = ap reverse c.in_ok-push.ensures.items ∙ reverse-append c.loop-at.way.items (found.step ∷ []) in
    record {
      within = at_within search found.from come.0 come.1;
      leads = λ last at_last.
          let on = c.loop-at.invariant.leads last at_last in
          let same =
          one_at search c.loop-at.at on.0 found.pair on.1 (record { found = found; is_at = is_at; is_pair = refl }) in (
            come.0,
            come.1,
            subst (λ way. Leads (types_in search) way come.0 last) (sym turned) (
              found.pair,
              come.2,
              subst (λ from. Leads (types_in search) (reverse c.loop-at.way.items) from last) same on.2,
            ),
          );
    }

pub returns : goal.returns
returns c = λ first last at_first at_last.
    let search = c.args.self.now in
    let on = c.loop-at.invariant.leads last at_last in
    let zero : c.loop-at.at ≡ 0 = omega (arith, c.loop-at-test.false) in
    let same = one_at search 0 on.0 first (subst (λ place. IsAt search place on.0) zero on.1) at_first in
    subst (λ way. Leads (types_in search) way first last) (sym c.reverse.ensures.items)
    (subst (λ from. Leads (types_in search) (reverse c.loop-at.way.items) from last) same on.2)
