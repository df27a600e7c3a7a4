-- A run that is replayed: what it was answered again.
use Rattle.std.proofs.Common.{◌≡◌, ◌↔◌, ◌<◌, ℕ, Bool, true, false, IsTrue, List, [], ◌∷◌, ◌++◌, Option, None, Some}
use Rattle.std.proofs.Common.{slice_get, refl, sym, ap, ◌∙◌, subst, inl, inr, zero, suc, ◌⊎◌}
use Rattle.std.specs.List.{Contains}
use Rattle.graph_nodes.specs.Nodes.{finished_node}
use Rattle.graph_nodes.proofs.Bridge.{edge_step}
use Rattle.std.specs.Option.{is_some}
use Rattle.run_records.proofs.Options.{is_none}
use Rattle.std.proofs.lemmas.Bool.{and_parts}
use Rattle.std.proofs.lemmas.List.Elements.{Contains-append_cases}
use Rattle.lean_runs.specs.Below.{CacheNode, CxOf, DelegateOf, IsNodeOf, EndedRun, IsRun, rank_of, shapes_of}
use Rattle.lean_runs.specs.Below.{verdict_of, PathKind, Verdict, Yes, No, Neither, NodeId, Request, Evaluate}
use Rattle.lean_runs.specs.Below.{EnterCandidate, FinishCandidate, Ignore, Done, Reply, Begin, Answer, Noted, Received}
use Rattle.lean_runs.specs.Below.{DefiniteAnswer, RunRecord, Edge, IsEdgeOfAnswer, Fits, IsReplySorted, IsVerdict}
use Rattle.lean_runs.specs.Below.{KeepsAnswer, edge_to, fault_of, no_record, order_fault, progress_after, received}
use Rattle.lean_runs.specs.Below.{requested, Steps, Verdicts, verdicts, CameTo}
use Rattle.run_records.specs.Progress.{rests_on}
use Rattle.lean_runs.specs.Words.{verdict_shape, AreAnsweredAgain, GivesAgain, HasReplayed, IsAnsweredAgain}
use Rattle.lean_runs.specs.Words.{IsBackedEdge, IsBackedQuestion, IsGuide, IsLeanRun, IsRecordFor, IsReplaying, LeadsTo}
use Rattle.lean_runs.specs.Words.{OnRecord, Refused, Beyond, OfAnswer}
use Rattle.lean_runs.proofs.Verdicts.{verdict_is, neither_is}
use Rattle.open_graphs.specs.Graph as theory
use Rattle.lean_runs.proofs.Places.{place_among}
use Rattle.run_records.proofs.ProgressEdges.{edge_is_of_answer}
use Rattle.run_records.proofs.ProgressLaws.{answers_received, fault_is, records_new, records_received}
use Rattle.run_records.proofs.Verdicts.{fails_at, fails_unless, same_verdict}

-- an answer on record has its edge
pub edge_on_record : {I : Type 0} (answers : List (DefiniteAnswer I)) (ignored : List Bool) (v : Verdict)
    (known : DefiniteAnswer I) (e : Edge I)
    → Contains answers known → known.edge ≡ e → rests_on ignored v known ≡ true → IsEdgeOfAnswer answers ignored v e
edge_on_record answers ignored v known e there is rests =
    record {
      answer = known;
      is_in = there;
      verdict_is = same_verdict _ _ ((and_parts _ _ rests).0);
      edge_is = is;
      kept = (and_parts _ _ rests).1;
    }

one_at : {A : Type 0} (x y : A) (j : ℕ) → slice_get (x ∷ []) j ≡ Some y → x ≡ y
one_at x y zero at = cc
one_at x y (suc j) at = absurd cc

none_at : {A : Type 0} (y : A) (j : ℕ) → slice_get [] j ≡ Some y → ⊥
none_at y j at = cc

nothing_there : {A : Type 0} (y : A) → Contains [] y → ⊥
nothing_there y there = let place = place_among [] y there in none_at y place.0 place.1

module _ {I R : Type 0} (says : Verdicts R) (nodes : List (CacheNode I R)) (own : ℕ)
    (told : RunRecord I R) (v : Verdict) where
  again_more : (answers : List (DefiniteAnswer I)) (more : DefiniteAnswer I)
      → AreAnsweredAgain says nodes own told v answers → IsBackedEdge says nodes own told v more.edge
      → AreAnsweredAgain says nodes own told v (answers ++ more ∷ [])
  again_more answers more before now a there = elim (Contains-append_cases answers (more ∷ []) a there) [
    | inl earlier ↦ before a earlier
    | inr latest ↦ let place = place_among (more ∷ []) a latest in
        subst (λ (x : DefiniteAnswer I). IsBackedEdge says nodes own told v x.edge) (one_at more a place.0 place.1) now
  ]

  -- the edge of an answer may stand in the node,
  pub answer_backs : (e : Edge I) → IsEdgeOfAnswer told.answers told.ignored v e → IsBackedEdge says nodes own told v e
  answer_backs e of = let place = place_among told.answers of.answer of.is_in in
      OfAnswer place.0 of.answer place.1 (ap verdict_shape of.verdict_is) of.kept of.edge_is

  -- and so may one of the guide's
  pub guide_backs : (guide : NodeId) (kind : PathKind) (goal : I) (node : NodeId) → IsGuide own told v guide
      → rank_of kind ≡ theory.cycle_kind (verdict_shape v) → LeadsTo says nodes v guide.0 kind goal node.0
      → IsBackedQuestion says nodes own told v kind goal node
  guide_backs guide kind goal node h is leads =
      let of = h.answer in
      let place = place_among told.answers of.answer of.is_in in
      let at : of.answer.edge.target ≡ guide.0 = ap (λ (e : Edge I). e.target) of.edge_is in
      Beyond place.0 of.answer place.1 (ap verdict_shape of.verdict_is) of.kept
      (subst (λ n. own < n) (sym at) h.after_own) (ap (λ (e : Edge I). rank_of e.kind) of.edge_is ∙ h.kind_is) is
      (subst (λ n. theory.HasShapeEdge (shapes_of says nodes) (verdict_shape v) n
      (theory.cycle_kind (verdict_shape v)) node.0) (sym at)
      (subst (λ k. theory.HasShapeEdge (shapes_of says nodes) (verdict_shape v) guide.0 k node.0) is
      leads.edge)) leads.of_goal

-- ---- an edge of a node that has the verdict

finished_is : {I R : Type 0} (o : Option (CacheNode I R)) (n : CacheNode I R)
    → elim o [ None ↦ None | Some m ↦ elim m.run [ None ↦ None | Some run ↦ Some m ] ] ≡ Some n → o ≡ Some n
finished_is None n is = absurd cc
finished_is (Some m) n is = run_is m m.run refl n is
  where
    run_is : {I R : Type 0} (m : CacheNode I R) (run : Option (EndedRun I R)) → m.run ≡ run → (n : CacheNode I R)
        → elim run [ None ↦ None | Some r ↦ Some m ] ≡ Some n → Some m ≡ Some n
    run_is m None at n is = absurd cc
    run_is m (Some r) at n is = is

-- a verdict is that of the result which it tells
told_shape : {R : Type 0} (says : Verdicts R) (r : R) (v : Verdict) → ((v ≡ Yes) ↔ IsTrue (says.is_yes r))
    → ((v ≡ No) ↔ IsTrue (says.is_no r)) → verdict_shape v ≡ verdict_of says r
told_shape says r Yes holds fails = verdict_is says r Yes holds fails (λ e. cc)
told_shape says r No holds fails = verdict_is says r No holds fails (λ e. cc)
told_shape says r Neither holds fails = sym (neither_is says r (record {
  not_yes = fails_unless (says.is_yes r) (λ y. let e : Neither ≡ Yes = holds.1 y in cc);
  not_no = fails_unless (says.is_no r) (λ n. let e : Neither ≡ No = fails.1 n in cc);
}))

pub sort_shape : {R : Type 0} (says : Verdicts R) (r : R) (sort v : Verdict) → ((sort ≡ Yes) ↔ IsTrue (says.is_yes r))
    → ((sort ≡ No) ↔ IsTrue (says.is_no r)) → sort ≡ v → verdict_shape v ≡ verdict_of says r
sort_shape says r sort v holds fails is = ap verdict_shape (sym is) ∙ told_shape says r sort holds fails

pub edge_leads : {I R : Type 0} (says : Verdicts R) (script : List (Reply R) → Request I R)
    (nodes : List (CacheNode I R)) (v : Verdict) (at : ℕ) (goal : I) (run : EndedRun I R) (i : ℕ) (e : Edge I)
    (kind : PathKind) (input : I) → finished_node nodes at ≡ Some (record { goal = goal; run = Some run; gone = false })
    → verdict_shape v ≡ verdict_of says run.outcome → IsRun says script nodes run → slice_get run.edges i ≡ Some e
    → e ≡ edge_to kind input (record { 0 = e.target }) → LeadsTo says nodes v at kind input e.target
edge_leads says script nodes v at goal run i e kind input finished sort is_run edge asks = record {
  edge =
      subst (λ (x : Edge _). theory.HasShapeEdge (shapes_of says nodes) (verdict_shape v) at (rank_of x.kind) e.target)
      asks
      (edge_step says nodes (verdict_shape v) at (record {
        node = record { goal = goal; run = Some run; gone = false };
        run = run;
        is = finished_is (slice_get nodes at) _ finished;
        ended = refl;
        sort = sym sort;
      }) i e edge);
  of_goal = subst (λ (x : Edge _). IsNodeOf nodes e.target x.input) asks (is_run.targets i e edge);
}

noted_is_none : {R : Type 0} (r : R) → Noted ≡ Answer r → ⊥
noted_is_none r is = cc

-- ---- a reply that is given again

module _ {I R : Type 0} (says : Verdicts R) (nodes : List (CacheNode I R)) (own : ℕ)
    (told : RunRecord I R) (v : Verdict) where
  sorted_answer : (kind : PathKind) (goal : I) (given : Received R) (w : Verdict)
      → IsAnsweredAgain says nodes own told v kind goal given → IsVerdict says given.reply w
      → IsReplySorted says given.reply w given.node
  sorted_answer kind goal given w (OnRecord r node edge) is =
      record { yes = is.0; no = is.1; yes_node = λ y. refl; no_node = λ n. refl }
  sorted_answer kind goal given w (Refused r neither) is = record {
    yes = is.0;
    no = is.1;
    yes_node = λ y. absurd (fails_at neither.not_yes y);
    no_node = λ n. absurd (fails_at neither.not_no n);
  }

  sorted_other : (reply : Reply R) (node : Option NodeId) (w : Verdict)
      → ((r : R) → reply ≡ Answer r → ⊥) → IsReplySorted says reply w node
  sorted_other (Answer r) node w never = absurd (never r refl)
  sorted_other reply node w never = tt

  -- it is sorted
  pub given_sorted : (request : Option (Request I R)) (given : Received R) (w : Verdict)
      → GivesAgain says nodes own told v request given → IsVerdict says given.reply w
      → IsReplySorted says given.reply w given.node
  given_sorted (Some (Evaluate kind goal)) given w h is = sorted_answer kind goal given w h is
  given_sorted request given w h is = sorted_other given.reply given.node w h.1

  node_of_answer : (kind : PathKind) (goal : I) (given : Received R) (node : NodeId)
      → IsAnsweredAgain says nodes own told v kind goal given → given.node ≡ Some node
      → IsBackedQuestion says nodes own told v kind goal node
  node_of_answer kind goal given node (OnRecord r known edge) is =
      let same : known ≡ node = cc in subst (λ n. IsBackedQuestion says nodes own told v kind goal n) same edge
  node_of_answer kind goal given node (Refused r neither) is = absurd cc

  given_edge : (request : Option (Request I R)) (given : Received R) (kind : PathKind) (goal : I) (node : NodeId)
      → GivesAgain says nodes own told v request given → request ≡ Some (Evaluate kind goal) → given.node ≡ Some node
      → IsBackedQuestion says nodes own told v kind goal node
  given_edge request given kind goal node h asks is =
      node_of_answer kind goal given node (subst (λ q. GivesAgain says nodes own told v q given) asks h) is

  again_with : (lean : RunRecord I R) (w : Verdict) (node : Option NodeId) (answers : List (DefiniteAnswer I))
      → ((kind : PathKind) (goal : I) (n : NodeId) → lean.request ≡ Some (Evaluate kind goal) → node ≡ Some n
      → IsBackedQuestion says nodes own told v kind goal n) → AreAnsweredAgain says nodes own told v lean.answers
      → (answers ≡ lean.answers) ⊎ KeepsAnswer lean w node answers → AreAnsweredAgain says nodes own told v answers
  again_with lean w node answers edge again (inl same) = subst (AreAnsweredAgain says nodes own told v) (sym same) again
  again_with lean w node answers edge again (inr keeps) =
      subst (AreAnsweredAgain says nodes own told v) (sym keeps.kept) (again_more says nodes own told v lean.answers _
      again (edge keeps.kind keeps.input keeps.node keeps.was keeps.target_is))

  -- what it adds to the record was answered again
  pub still_again : (lean : RunRecord I R) (given : Received R) (w : Verdict)
      → GivesAgain says nodes own told v lean.request given → AreAnsweredAgain says nodes own told v lean.answers
      → AreAnsweredAgain says nodes own told v (received lean given.reply w given.node).answers
  still_again lean given w gives again =
      again_with lean w given.node (received lean given.reply w given.node).answers
      (λ kind goal n asks is. given_edge lean.request given kind goal n gives asks is) again
      (answers_received lean w given.reply given.node)

-- ---- a turn of the replay

module _ {D C V P F I R A T : Type 0} (G : DelegateOf D C V P F I R A T) (X : CxOf C I R A T) (cx : C) (goal : I)
    (nodes : List (CacheNode I R)) (own : ℕ) (told : RunRecord I R) (v : Verdict) where
  -- it begins
  pub replay_begins : (frame : F) → G.stands frame cx goal []
      → IsReplaying G X cx goal nodes own told v frame no_record (record { reply = Begin; node = None })
  replay_begins frame stood = record {
    replies = [];
    stood = stood;
    is_fitting = (tt, tt);
    on_record = records_new (verdicts X) (G.script cx goal);
    again = λ a there. absurd (nothing_there a there);
    gives = (refl, λ r is. let e : Begin ≡ Answer r = is in absurd cc);
  }

  -- it has made a request,
  pub replay_steps : (frame after : F) (lean : RunRecord I R) (given : Received R) (w : Verdict) (request : Request I R)
      → IsReplaying G X cx goal nodes own told v frame lean given → IsVerdict (verdicts X) given.reply w
      → Steps G.stands G.script frame given.reply request after
      → fault_of (received lean given.reply w given.node) request ≡ None → HasReplayed G X cx goal nodes own told v
      request after (requested (received lean given.reply w given.node) request)
  replay_steps frame after lean given w request h is steps in_order =
      let stepped = steps cx goal h.replies h.stood h.is_fitting in
      let sorted = given_sorted (verdicts X) nodes own told v lean.request given w h.gives is in
      let told_fault = fault_is (verdicts X) (G.script cx goal) lean h.replies given.reply w given.node h.on_record
      h.is_fitting.0 sorted request stepped.0 in
      record {
        replies = given.reply ∷ h.replies;
        stood = stepped.1;
        is_fitting = h.is_fitting;
        requests = ap Some (sym stepped.0);
        on_record =
            records_received (verdicts X) (G.script cx goal) lean h.replies given.reply w given.node h.on_record
            h.is_fitting.0 sorted request stepped.0
            (ap (λ (q : Request I R). order_fault (progress_after (G.script cx goal) (given.reply ∷ h.replies))
            (Some q)) stepped.0 ∙ sym told_fault ∙ in_order);
        again = still_again (verdicts X) nodes own told v lean given w h.gives h.again;
      }

  pub replay_turns : (frame after : F) (lean got made : RunRecord I R) (given : Received R) (w : Verdict)
      (request : Request I R) (fault : Option ℕ) → IsReplaying G X cx goal nodes own told v frame lean given
      → IsVerdict (verdicts X) given.reply w → Steps G.stands G.script frame given.reply request after
      → got ≡ received lean given.reply w given.node → fault ≡ fault_of got request → is_some fault ≡ false
      → made ≡ requested got request → HasReplayed G X cx goal nodes own told v request after made
  replay_turns frame after lean got made given w request fault h is steps gets faults none makes =
      subst (HasReplayed G X cx goal nodes own told v request after) (sym (makes ∙ ap (λ p. requested p request) gets))
      (replay_steps frame after lean given w request h is steps
      (sym (faults ∙ ap (λ p. fault_of p request) gets) ∙ is_none fault none))

  -- gets the reply to it,
  pub replay_goes_on : (frame : F) (lean : RunRecord I R) (request : Request I R) (given : Received R)
      → HasReplayed G X cx goal nodes own told v request frame lean → lean.request ≡ Some request
      → Fits (Some request) given.reply → GivesAgain (verdicts X) nodes own told v (Some request) given
      → IsReplaying G X cx goal nodes own told v frame lean given
  replay_goes_on frame lean request given h made fits gives = record {
    replies = h.replies;
    stood = h.stood;
    is_fitting = (subst (λ q. Fits q given.reply) (sym h.requests) fits, h.is_fitting);
    on_record = h.on_record;
    again = h.again;
    gives = subst (λ q. GivesAgain (verdicts X) nodes own told v q given) (sym made) gives;
  }

  -- or ends
  pub replay_ends : (frame : F) (lean : RunRecord I R) (request : Request I R) (r : R)
      → HasReplayed G X cx goal nodes own told v request frame lean → request ≡ Done r
      → IsLeanRun (verdicts X) (G.script cx goal) nodes own told v r lean
  replay_ends frame lean request r h done = record {
    came = record {
      replies = h.replies;
      is_fitting = h.is_fitting;
      is_done = h.requests ∙ ap Some done;
      on_record = h.on_record;
    };
    again = h.again;
  }

-- what is no question is noted
abbrev NoQuestion : {I R : Type 0} → Request I R → Type 0
NoQuestion request = (request ≡ EnterCandidate) ⊎ ((request ≡ FinishCandidate) ⊎ ((n : ℕ) × (request ≡ Ignore n)))

noted_once : {I R : Type 0} (says : Verdicts R) (nodes : List (CacheNode I R)) (own : ℕ) (told : RunRecord I R)
    (v : Verdict) (request : Request I R) → NoQuestion request → Fits {I = I} {R = R} (Some request) Noted
    × GivesAgain says nodes own told v (Some request) (record { reply = Noted; node = None })
noted_once says nodes own told v request (inl is) = rw is (tt, (refl, noted_is_none))
noted_once says nodes own told v request (inr (inl is)) = rw is (tt, (refl, noted_is_none))
noted_once says nodes own told v request (inr (inr (n, is))) = rw is (tt, (refl, noted_is_none))

pub noted_again : {I R : Type 0} (says : Verdicts R) (nodes : List (CacheNode I R)) (own : ℕ) (told : RunRecord I R)
    (v : Verdict) (request : Request I R) (given : Received R)
    → NoQuestion request → given ≡ record { reply = Noted; node = None }
    → Fits (Some request) given.reply × GivesAgain says nodes own told v (Some request) given
noted_again says nodes own told v request given other is =
    subst (λ (x : Received _). Fits (Some request) x.reply × GivesAgain says nodes own told v (Some request) x) (sym is)
    (noted_once says nodes own told v request other)

-- an answer to a question fits it
pub again_fits : {I R : Type 0} (says : Verdicts R) (nodes : List (CacheNode I R)) (own : ℕ) (told : RunRecord I R)
    (v : Verdict) (kind : PathKind) (goal : I) (given : Received R)
    → IsAnsweredAgain says nodes own told v kind goal given
    → Fits {I = I} {R = R} (Some (Evaluate kind goal)) given.reply
again_fits says nodes own told v kind goal given (OnRecord r node edge) = tt
again_fits says nodes own told v kind goal given (Refused r neither) = tt

-- ---- the record that the node is finished by

module _ {I R : Type 0} (says : Verdicts R) (script : List (Reply R) → Request I R) (nodes : List (CacheNode I R))
    (own : ℕ) (told : RunRecord I R) (v : Verdict) (r : R) where
  -- the one of the run as it was will do,
  pub told_for_itself : CameTo says script told r → IsRecordFor says script nodes own told v r told
  told_for_itself came = record {
    came = came;
    edges = λ e there. answer_backs says nodes own told v e (edge_is_of_answer told v e there);
    answers = λ a there. inl (a, there, refl);
  }

  -- and so will that of a replay
  pub lean_for_told : (lean : RunRecord I R) → IsLeanRun says script nodes own told v r lean
      → IsRecordFor says script nodes own told v r lean
  lean_for_told lean h = record {
    came = h.came;
    edges = λ e there. let of = edge_is_of_answer lean v e there in
        subst (IsBackedEdge says nodes own told v) of.edge_is (h.again of.answer of.is_in);
    answers = λ a there. inr (h.again a there);
  }
