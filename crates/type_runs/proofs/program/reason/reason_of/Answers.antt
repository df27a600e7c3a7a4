use Rattle.std.proofs.Common.{◌≤◌, arith, refl, ◌∙◌}
use Rattle.type_runs.specs.Search.{count_in}
use Rattle.type_runs.proofs.Searching.{at_still, never_all_followed, one_more_followed, past_all, place_read}
use Rattle.type_runs.proofs.program.reason.reason_of.Goals as goal
use Rattle.type_runs.proofs.program.reason.reason_of.Goals.{else-loop-place-test, then-loop-place-test+in_default}

pub told-requires-clause-at : goal.told-requires-clause-at
told-requires-clause-at g c = record {
  found = c.in-Some.found;
  is_at =
      place_read _ _ c.loop-place.place _ _ c.deref.ensures.value c.get.ensures.lookup c.copied.ensures ∙ c.in-Some.is;
  is_pair = refl;
}

pub told-requires-clause-fails : goal.told-requires-clause-fails
told-requires-clause-fails g c =
    c.in-Some-end_of.ensures.some c.in-Some-end_of.end refl
    (c.loop-place.invariant.ongoing.not_below c.loop-place.place c.in-Some.found.pair (record {
      found = c.in-Some.found;
      is_at = place_read _ _ c.loop-place.place _ _ c.deref.ensures.value c.get.ensures.lookup c.copied.ensures
          ∙ c.in-Some.is;
      is_pair = refl;
    }))

pub follow-requires-clause-at : goal.follow-requires-clause-at
follow-requires-clause-at g c = record {
  found = c.in-Some.found;
  is_at =
      place_read _ _ c.loop-place.place _ _ c.deref.ensures.value c.get.ensures.lookup c.copied.ensures ∙ c.in-Some.is;
  is_pair = refl;
}

pub loop-place-preserved : goal.loop-place-preserved
loop-place-preserved g c =
    let so_far = c.loop-place.invariant in
    let on = c.in_ok-follow.ensures.goes_on in
    record {
      ongoing = c.in_ok-follow.ensures.ongoing;
      first = at_still _ _ on 0 c.args.pair so_far.first;
      of_table = on.types ∙ so_far.of_table;
      followed = one_more_followed _ _ c.loop-place.place c.in-Some.found.pair on
          (record {
            found = c.in-Some.found;
            is_at = place_read _ _ c.loop-place.place _ _ c.deref.ensures.value c.get.ensures.lookup c.copied.ensures
                ∙ c.in-Some.is;
            is_pair = refl;
          })
          (c.in_default-end_of.ensures.none refl) so_far.followed c.in_ok-follow.ensures.covered;
      same_types = c.in_ok-follow.ensures.same_types ∙ so_far.same_types;
    }

-- it does not come to this
pub returns-clause-reason : goal.returns-clause-reason
returns-clause-reason g c =
    let so_far = c.loop-place.invariant in
    let search = c.loop-place.search in
    let all : count_in search ≤ c.loop-place.place = elim c.loop-place-test.branch [
      | else-loop-place-test w ↦ let small = search.found.small in let ok = search.found.ok in
          let at_end = w.loop-place-test.false in omega arith
      | then-loop-place-test+in_default w ↦
          past_all search.found.items c.loop-place.place (place_read _ _ c.loop-place.place _ _ w.deref.ensures.value
          w.get.ensures.lookup w.copied.ensures ∙ w.in_default.is)
    ] in
    absurd (never_all_followed search c.loop-place.place all so_far.followed so_far.ongoing 0 c.args.pair so_far.first)
