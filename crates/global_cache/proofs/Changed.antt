-- Where rules change, what is kept of a cache that holds by the rules before holds by those after: goals that are kept
-- have the same scripts, and so have all goals that they ask.
use Rattle.std.proofs.Common.{◌≡◌, ℕ, zero, suc, Bool, false, List, [], ◌∷◌, Option, None, Some, slice_get, sym, ◌∙◌}
use Rattle.std.proofs.Common.{ap, refl, subst}
use Rattle.search_context.specs.Rank.{AsksOnly, IsOrderlyTo, IsPlainValue, IsRanked, IsResultOf}
use Rattle.search_context.specs.Run.{AreRepliesTo, IsFitting, IsOrderly, IsReplyTo, request_after}
use Rattle.search_context.specs.declared.context.Reply.TheVariants.{Answer, Begin, Noted}
use Rattle.search_context.specs.declared.context.Request.TheVariants.{Done, EnterCandidate, Evaluate}
use Rattle.search_context.specs.declared.context.Request.TheVariants.{FinishCandidate, Ignore}
use Rattle.path_kinds.specs.declared.path.PathKind.{PathKind}
use Rattle.global_cache.specs.Below.{AreRuns, CacheNode, HasGraph, IsPlainTo, IsRun, NodeId, Reply, Request}
use Rattle.global_cache.specs.Below.{Verdicts}
use Rattle.global_cache.specs.Words.{AreSoundFindings, AreSoundResults, Findings, IsPlainAt, KeepsOtherNodes}
use Rattle.global_cache.specs.Words.{KeepsOtherResults, KeepsOthers, Place, Store, stored_at, StoredResult, Success}
use Rattle.global_cache.specs.Words.{WithOverflow}
use Rattle.graph_nodes.specs.Words.{Collected}
use Rattle.graph_nodes.proofs.Collecting.{AreRuns-collected, HasGraph-live, run_is_live}
use Rattle.graph_nodes.proofs.Forgetting.{node_of_stays, node_that_stays, others_are_collected, stays_in}
use Rattle.global_cache.proofs.Forgotten.{left_there}

module _ {I R : Type 0} (allowed more : I → R → Type 0) where
  -- a reply that is allowed is, where more is
  reply_more : (q : Option (Request I R)) (x : Reply R)
      → ((kind : PathKind) (goal : I) (r : R) → q ≡ Some (Evaluate kind goal) → allowed goal r → more goal r)
      → IsReplyTo allowed q x → IsReplyTo more q x
  reply_more None Begin each is = tt
  reply_more None (Answer r) each is = is
  reply_more None Noted each is = is
  reply_more (Some (Evaluate kind goal)) (Answer r) each is = each kind goal r refl is
  reply_more (Some (Evaluate kind goal)) Begin each is = is
  reply_more (Some (Evaluate kind goal)) Noted each is = is
  reply_more (Some EnterCandidate) Noted each is = tt
  reply_more (Some EnterCandidate) Begin each is = is
  reply_more (Some EnterCandidate) (Answer r) each is = is
  reply_more (Some FinishCandidate) Noted each is = tt
  reply_more (Some FinishCandidate) Begin each is = is
  reply_more (Some FinishCandidate) (Answer r) each is = is
  reply_more (Some (Ignore n)) Noted each is = tt
  reply_more (Some (Ignore n)) Begin each is = is
  reply_more (Some (Ignore n)) (Answer r) each is = is
  reply_more (Some (Done s)) Begin each is = is
  reply_more (Some (Done s)) (Answer r) each is = is
  reply_more (Some (Done s)) Noted each is = is

module _ {I R : Type 0} (is_gone : I → Bool) (before after : I → List (Reply R) → Request I R)
    (others : KeepsOthers is_gone before after) where
  -- a goal that is kept has the same script
  script_same : (goal : I) → is_gone goal ≡ false → before goal ≡ after goal
  script_same goal stays = λ i replies. others.same goal stays replies i

  -- what it asks now it asked before, of goals that are kept
  asks_back : (now was : I → Type 0) → ((h : I) → is_gone h ≡ false → now h → was h) → (goal : I)
      → is_gone goal ≡ false → AsksOnly (λ _ h. now h) (after goal) → AsksOnly (λ _ h. was h) (before goal)
  asks_back now was back goal stays asks replies kind h fits is =
      back h (others.stays goal stays replies kind h fits is)
      (subst (AsksOnly (λ _ h. now h)) (sym (script_same goal stays)) asks replies kind h fits is)

  ranked_back : (n : ℕ) (goal : I) → is_gone goal ≡ false → IsRanked after n goal → IsRanked before n goal
  ranked_back zero goal stays ranked = subst (AsksOnly (λ _ _. ⊥)) (sym (script_same goal stays)) ranked
  ranked_back (suc n) goal stays ranked =
      asks_back (IsRanked after n) (IsRanked before n) (ranked_back n) goal stays ranked

  orderly_back : (n : ℕ) (goal : I) → is_gone goal ≡ false → IsOrderlyTo after n goal → IsOrderlyTo before n goal
  orderly_back zero goal stays orderly = subst IsOrderly (sym (script_same goal stays)) orderly
  orderly_back (suc n) goal stays orderly = (
    subst IsOrderly (sym (script_same goal stays)) orderly.0,
    asks_back (IsOrderlyTo after n) (IsOrderlyTo before n) (orderly_back n) goal stays orderly.1,
  )

  -- the rank of a goal that is kept
  plain_to_back : (n : ℕ) (goal : I) → is_gone goal ≡ false → IsPlainTo after n goal → IsPlainTo before n goal
  plain_to_back n goal stays to = record {
    is_ranked = ranked_back n goal stays to.is_ranked;
    is_orderly = orderly_back n goal stays to.is_orderly;
  }

  -- its replies, where more is allowed of goals that are kept
  replies_more : (allowed more : I → R → Type 0) → ((h : I) (r : R) → is_gone h ≡ false → allowed h r → more h r)
      → (goal : I) → is_gone goal ≡ false → (replies : List (Reply R)) → AreRepliesTo allowed (before goal) replies
      → AreRepliesTo more (before goal) replies × IsFitting (before goal) replies
  replies_more allowed more each goal stays [] are = (tt, tt)
  replies_more allowed more each goal stays (x ∷ earlier) are =
      let rest = replies_more allowed more each goal stays earlier are.1 in (
        (
          reply_more allowed more (request_after (before goal) earlier) x
              (λ kind h r is. each h r (others.stays goal stays earlier kind h rest.1 is)) are.0,
          rest.0,
        ),
        (
          reply_more allowed (λ _ _. Unit {0}) (request_after (before goal) earlier) x (λ kind h r is a. tt) are.0,
          rest.1,
        ),
      )

  -- its plain value
  value_on : (n : ℕ) (goal : I) → is_gone goal ≡ false → (r : R) → IsPlainValue before n goal r
      → IsPlainValue after n goal r
  value_on zero goal stays r value = subst (λ script. IsResultOf (λ _ _. ⊥) script r) (script_same goal stays) value
  value_on (suc n) goal stays r value =
      subst (λ script. IsResultOf (IsPlainValue after n) script r) (script_same goal stays) (record {
        replies = value.replies;
        is_answered = (replies_more (IsPlainValue before n) (IsPlainValue after n)
            (λ h t kept. value_on n h kept t) goal stays value.replies value.is_answered).0;
        is_done = value.is_done;
      })

  -- what its rank allows of results
  IsPlainAt-on : (goal : I) → is_gone goal ≡ false → (place : Place) (r : R) → IsPlainAt before goal place r
      → IsPlainAt after goal place r
  IsPlainAt-on goal stays Success r plain = λ n to. value_on n goal stays r (plain n (plain_to_back n goal stays to))
  IsPlainAt-on goal stays (WithOverflow depth) r below = λ n to. below n (plain_to_back n goal stays to)

  module _ (says : Verdicts R) (old new : List (CacheNode I R)) (kept : KeepsOtherNodes is_gone old new)
      (runs : AreRuns says before old) where
    collected : Collected (stays_in is_gone old) old new
    collected = others_are_collected is_gone says before old new runs kept others.stays

    pub AreRuns-changed : AreRuns says after new
    AreRuns-changed at n run is ended =
        let alive = run_is_live (stays_in is_gone old) old new collected at n run is ended in
        let m = node_that_stays is_gone (slice_get old at) alive in
        let both : Some n ≡ Some m.0 = sym is ∙ (collected.same at alive ∙ m.1) in
        let same : n ≡ m.0 = cc in
        subst (λ script. IsRun says script new run) (script_same n.goal (ap (λ x. is_gone x.goal) same ∙ m.2))
        (AreRuns-collected (stays_in is_gone old) old new collected says before runs at n run is ended)

    pub HasGraph-changed : (goal : I) (r : R) (node : Option NodeId) → is_gone goal ≡ false
        → HasGraph says old goal r node → HasGraph says new goal r node
    HasGraph-changed goal r node stays = HasGraph-live (stays_in is_gone old) old new collected says goal r node
        (node_of_stays is_gone old goal node stays)

    AreSoundResults-changed : {T : Type 0} (same : I → I → Bool) (was now : Store I (StoredResult I R T))
        → KeepsOtherResults same is_gone was now → AreSoundResults same says before old was
        → AreSoundResults same says after new now
    AreSoundResults-changed same was now left sound input place s is =
        let there = left_there (is_gone input) (stored_at same was input place) s (sym (left input place) ∙ is) in
        let k = sound input place s there.1 in
        record {
          graph = HasGraph-changed input s.result.result s.node there.0 k.graph;
          plain = IsPlainAt-on input there.0 place s.result.result k.plain;
        }

-- Sound findings by the scripts before are, without what is gone, sound ones by those after.
pub AreSoundFindings-changed : {I R T : Type 0} (same : I → I → Bool) (says : Verdicts R)
    (before after : I → List (Reply R) → Request I R) (is_gone : I → Bool) (old new : Findings I R T)
    → KeepsOthers is_gone before after → KeepsOtherNodes is_gone old.nodes new.nodes
    → KeepsOtherResults same is_gone old.results new.results → AreSoundFindings same says before old
    → AreSoundFindings same says after new
AreSoundFindings-changed same says before after is_gone old new others kept left sound = record {
  runs = AreRuns-changed is_gone before after others says old.nodes new.nodes kept sound.runs;
  results = AreSoundResults-changed is_gone before after others says old.nodes new.nodes kept sound.runs
      same old.results new.results left sound.results;
}
