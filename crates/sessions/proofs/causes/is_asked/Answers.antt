use Rattle.std.proofs.Common.{◌∙◌, arith, inl, inr, refl, sym}
use Rattle.std.proofs.lemmas.Bool.{cases_lt, false≢true}
use Rattle.sessions.proofs.Cuts.{no_candidate_from, none_more, none_some}
use Rattle.sessions.proofs.causes.is_asked.Goals as goal
use Rattle.sessions.specs.Below.{candidates_of, question_of}
use Rattle.sessions.specs.Causes.{Asks}

pub loop-candidate-preserved : goal.loop-candidate-preserved
loop-candidate-preserved g c = record {
  none = none_more (Asks (g.L.LendsArrays.table_of c.args.rules.lender) c.args.cut)
      c.loop-candidate.candidate c.loop-candidate.invariant.none
      (λ it. false≢true (sym c.if-asks.false ∙ c.asks.ensures.1 it));
  few = omega (arith, c.in-Some.ensures.few);
}

pub returns-then-asks : goal.returns-then-asks
returns-then-asks g c = (
  λ yes. record { candidate = c.loop-candidate.candidate; asks = c.asks.ensures.0 c.if-asks.true },
  λ it. refl,
)

pub returns-in_default : goal.returns-in_default
returns-in_default g c =
    let cs = candidates_of (g.L.LendsArrays.table_of c.args.rules.lender) c.args.cut.by in (
      λ never. absurd (false≢true never),
      λ it. absurd (elim (cases_lt it.candidate c.loop-candidate.candidate) [
        | inl less ↦ c.loop-candidate.invariant.none it.candidate less it.asks
        | inr more ↦ none_some _ _ (no_candidate_from question_of cs c.loop-candidate.candidate it.candidate
            it.asks.place (sym c.in_default.ensures.value) more) it.asks.is_question
      ]),
    )
