use Rattle.std.proofs.Common.{◌≡◌, ◌∙◌, Some, arith, inl, inr, refl, sym}
use Rattle.std.proofs.lemmas.Bool.{cases_lt, false≢true}
use Rattle.candidate_lists.specs.Candidate.{question_at}
use Rattle.sessions.proofs.Cuts.{no_question_from, none_more, none_some, same_parts, same_question}
use Rattle.sessions.proofs.causes.asks.Goals as goal
use Rattle.sessions.specs.Below.{candidates_of, question_of}

pub loop-place-preserved : goal.loop-place-preserved
loop-place-preserved g c =
    let cs = candidates_of (g.L.LendsArrays.table_of c.args.rules.lender) c.args.cut.by in
    record {
      none = none_more
          (λ place. question_at question_of cs c.args.candidate place ≡ Some (c.args.cut.kind, c.args.cut.asked))
          c.loop-place.place c.loop-place.invariant.none
          (λ there.
          let same = same_parts c.in-Some.kind c.args.cut.kind c.in-Some.asked c.args.cut.asked
          (c.in-Some.ensures.value ∙ there) in
          c.is_question.ensures.no c.if-is_question.false same.0 same.1);
      few = omega (arith, c.in-Some.ensures.few);
    }

pub returns-then-is_question : goal.returns-then-is_question
returns-then-is_question g c =
    let same = c.is_question.ensures.yes c.if-is_question.true in (
      λ yes. record {
        place = c.loop-place.place;
        is_question = same_question c.in-Some.kind c.args.cut.kind c.in-Some.asked c.args.cut.asked _
            c.in-Some.ensures.value same.0 same.1;
      },
      λ it. refl,
    )

pub returns-in-None : goal.returns-in-None
returns-in-None g c =
    let cs = candidates_of (g.L.LendsArrays.table_of c.args.rules.lender) c.args.cut.by in (
      λ never. absurd (false≢true never),
      λ it. absurd (elim (cases_lt it.place c.loop-place.place) [
        | inl less ↦ c.loop-place.invariant.none it.place less it.is_question
        | inr more ↦ none_some _ _ (no_question_from question_of cs c.args.candidate c.loop-place.place it.place
            (sym c.in-None.ensures.value) more) it.is_question
      ]),
    )
