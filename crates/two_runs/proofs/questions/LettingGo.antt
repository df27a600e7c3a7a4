-- What two runs rest on holds still when nodes are let go.
use Rattle.std.proofs.Common.{Bool, List, Option, subst, sym, ap}
use Rattle.two_runs.specs.Evaluations.{IsSettledStore, Settles}
use Rattle.two_runs.specs.Below.{Cache, Call, CxOf, DelegateOf, NodeId, Received, verdicts}
use Rattle.search_questions.specs.Collecting.{LetsGo, LetsGoAtEnd}
use Rattle.search_state.specs.declared.evaluation.Evaluation.{Evaluation}
use Rattle.two_runs.proofs.settled.Collecting.{answer_stays, settled_stay, settling_stay}

module _ {D C V P F I R A T : Type 0} (G : DelegateOf D C V P F I R A T) (X : CxOf C I R A T) (same : I → I → Bool)
    (cx : C) (e : Evaluation D C V P F I R A T) (old new : Cache C I R T) where
  module _ (received : Received R) (goes : LetsGo same e received.node old new) where
    pub settles_stay : (call : Call I) → Settles G X same cx call received old e
        → Settles G X same cx call received new e
    settles_stay call h =
        subst (λ cache. Settles G X same cx call received cache e) (sym goes.rest)
        (record {
          settling = settling_stay (verdicts X) goes.live old.nodes new.nodes goes.collected same old.results
              e.provisional goes.entries call e.goals e.limits_met goes.results goes.goals h.settling;
          answer = answer_stays (verdicts X) goes.live old.nodes new.nodes goes.collected same old.results e.provisional
              goes.entries e.goals received.reply received.node goes.reply h.answer;
          entries = h.entries;
        })

  -- ---- at the end of a call

  module _ (target : Option NodeId) (goes : LetsGoAtEnd same e target old new) where
    pub store_stays_at_end : (goals : List I) → IsSettledStore G X same cx goals old.nodes old.results
        → IsSettledStore G X same cx goals new.nodes new.results
    store_stays_at_end goals h =
        subst (IsSettledStore G X same cx goals new.nodes) (sym (ap (λ cache. cache.results) goes.rest))
        (record {
          settled = settled_stay (verdicts X) goes.live old.nodes new.nodes goes.collected same
              old.results goals goes.results h.settled;
          suit = h.suit;
        })
