-- Where two runs of a goal are enough: the newest goal's step, and what it notes of candidates, keep its answers off
-- the goals under evaluation.
use Rattle.std.proofs.Common.{◌≡◌, ◌≢◌, ◌<◌, ◌≤◌, ◌⊎◌, ◌||◌, ℕ, nat_lt, Bool, true, false, IsSome, List, [], ◌∷◌, ◌++◌}
use Rattle.std.proofs.Common.{length, map, Option, None, Some, unwrap_or, slice_set, inl, inr, refl, sym, ap, ◌∙◌}
use Rattle.std.proofs.Common.{subst, arith}
use Rattle.std.specs.List.{list_any}
use Rattle.std.specs.Option.{is_none, IsSomeAnd}
use Rattle.std.proofs.lemmas.Bool.{or_from}
use Rattle.std.proofs.lemmas.Bool.Decides.{nat_tests}
use Rattle.run_records.specs.declared.runs.Fate.{Fate}
use Rattle.run_records.specs.declared.runs.Fate.TheVariants as becomes
use Rattle.two_runs.specs.Below.{Answer, AreSoundResults, at_depth, AvailableDepth, Begin, Cache, CacheNode, Call}
use Rattle.two_runs.specs.Below.{change_newest, counted_by, CxOf, DefiniteAnswer, DelegateOf, edge_to, EnterCandidate}
use Rattle.two_runs.specs.Below.{enters, EntryState, Evaluate, fates_of, FinishCandidate, finishes, first_accepted}
use Rattle.two_runs.specs.Below.{HasStepped, Ignore, ignored_by, is_in_cycle, IsNew, IsVerdict, KeepsAnswer, Lists}
use Rattle.two_runs.specs.Below.{Neither, NestedPaths, No, NodeId, Noted, NotesCandidate, open_number, OpenGoal}
use Rattle.two_runs.specs.Below.{OpenRun, Outset, PathKind, paths_at, ProvisionalCacheEntry, Pushes, Received, received}
use Rattle.two_runs.specs.Below.{Reply, Request, requested, Requests, Run, run_of, RunRecord, runs_of, stack_of}
use Rattle.two_runs.specs.Below.{StackDepth, StackEntry, Store, StoredResult, Tally, tally_of, usable, Verdict}
use Rattle.two_runs.specs.Below.{verdict_of, Verdicts, verdicts, Yes}
use Rattle.search_rules.specs.Justified.{cycles_node, frames_of}
use Rattle.lean_runs.specs.Backed.{verdict_shape}
use Rattle.search_questions.specs.Asked.{question_depth}
use Rattle.two_runs.specs.Evaluations.{EntriesSuitCall, IsSettledStore, Settles}
use Rattle.search_state.specs.declared.evaluation.Evaluation.{Evaluation}
use Rattle.two_runs.proofs.questions.KeptEntries.{began_keeps_entries, noted_keeps_entries}
use Rattle.two_runs.proofs.questions.Settling.{pushed_settles}
use Rattle.two_runs.specs.Leads.{WalksToGoals}
use Rattle.two_runs.specs.Older.{IsStop, RestOnOlder}
use Rattle.two_runs.specs.Lone.{IsLone, LoneRequire, NoneIsLone}
use Rattle.two_runs.specs.Settled.{AnswerStaysOff, AreSettledGoals, CallNeedsTwoRuns, IsAside, IsOff}
use Rattle.two_runs.specs.Settled.{IsSettling, StaysOff}
use Rattle.two_runs.proofs.settled.LoneGoals.{noted_none_lone, stepped_none_lone, top_not_lone}
use Rattle.search_rules.proofs.answers.Kept.{ignored_counts}
use Rattle.two_runs.proofs.settled.OffStack.{aside_leads, GoesOn, off_answered, off_kept}
use Rattle.two_runs.proofs.settled.OlderEntries.{all_stay, Follows}
use Rattle.two_runs.proofs.settled.SettledGoals.{begin_stays_off}
use Rattle.lean_runs.proofs.Verdicts.{in_theory_definite, verdict_is}
use Rattle.search_rules.proofs.justified.Replies.{unanswered}
use Rattle.run_records.proofs.ProgressLaws.{answers_received}
use Rattle.search_rules.proofs.moves.Questions.{enclosed_refuses_none}
use Rattle.search_graph.proofs.turns.Beginning.{new_right}
use Rattle.search_graph.proofs.requests.Noted.{acted_same, counted_before, counted_longer, ignores_here}
use Rattle.search_graph.proofs.requests.Noted.{ignoring_run, may_ignore}

-- ---- the reply is on record

module _ {X F I R A T : Type 0} (says : Verdicts R) (same : I → I → Bool) (nodes : List (CacheNode I R))
    (results : Store I (StoredResult I R T)) (entries : Lists I (ProvisionalCacheEntry X I R A T))
    (entry : StackEntry X I R A T) (run : Run X F I R A T) (below : List (OpenGoal X F I R A T)) where
  abbrev pub WithAnswers : List (DefiniteAnswer I) → Type 0
  WithAnswers answers = StaysOff says same nodes results entries (record (run_of (entry, run)) { answers = answers })
      entry.state.nested_goals (runs_of below)

  -- an answer of the theory's verdict
  answered_off : (r : R) (node : Option NodeId) (v : Verdict) → v ≢ Neither → IsVerdict says (Answer r) v
      → AnswerStaysOff says same nodes results entries ((entry, run) ∷ below) (Answer r) node
      → WithAnswers run.progress.answers → (answers : List (DefiniteAnswer I))
      → KeepsAnswer run.progress v node answers → WithAnswers answers
  answered_off r node v definite verdict off h answers keeps =
      let shape : verdict_shape v ≡ verdict_of says r = verdict_is says r v verdict.0 verdict.1 definite in
      let leads = subst (λ (o : Option NodeId). IsSomeAnd o (λ n. WalksToGoals says nodes (IsStop same entries (run_of (
        entry,
        run,
      ))) (IsAside same results entries (run_of (entry, run)) entry.state.nested_goals (runs_of below))
      (verdict_of says r) (stack_of (frames_of says (runs_of ((entry, run) ∷ below)))) n.0)) keeps.target_is
      (off r refl (λ neither. in_theory_definite v definite (shape ∙ neither))) in
      subst WithAnswers (sym keeps.kept)
      (off_answered says same nodes results entries
      (record { edge = edge_to keeps.kind keeps.input keeps.node; verdict = v; candidate = open_number run.progress })
      (run_of (entry, run)) entry.state.nested_goals (runs_of below)
      (subst (λ w. WalksToGoals says nodes (IsStop same entries (run_of (entry, run)))
      (IsAside same results entries (run_of (entry, run)) entry.state.nested_goals (runs_of below)) w
      (stack_of (frames_of says (runs_of ((entry, run) ∷ below)))) keeps.node.0) (sym shape) leads) h)

  definite_off : (reply : Reply R) (node : Option NodeId) (v : Verdict) → v ≢ Neither → IsVerdict says reply v
      → AnswerStaysOff says same nodes results entries ((entry, run) ∷ below) reply node
      → WithAnswers run.progress.answers → WithAnswers (received run.progress reply v node).answers
  definite_off (Answer r) node v definite verdict off h = elim (answers_received run.progress v (Answer r) node) [
    | inl unchanged ↦ subst WithAnswers (sym unchanged) h
    | inr keeps ↦ answered_off r node v definite verdict off h (received run.progress (Answer r) v node).answers keeps
  ]
  definite_off reply node v definite verdict off h = absurd (definite verdict)

  replied_off : (reply : Reply R) (node : Option NodeId) (v : Verdict) → IsVerdict says reply v
      → AnswerStaysOff says same nodes results entries ((entry, run) ∷ below) reply node
      → WithAnswers run.progress.answers → WithAnswers (received run.progress reply v node).answers
  replied_off reply node Yes verdict off h = definite_off reply node Yes (λ e. cc) verdict off h
  replied_off reply node No verdict off h = definite_off reply node No (λ e. cc) verdict off h
  replied_off reply node Neither verdict off h =
      subst WithAnswers (sym (unanswered run.progress run.progress.request node)) h

-- ---- the request is, and what it notes of candidates

module _ {D C V P F I R A T : Type 0} (G : DelegateOf D C V P F I R A T) (X : CxOf C I R A T) (cx : C)
    (same : I → I → Bool) (nodes : List (CacheNode I R)) (results : Store I (StoredResult I R T))
    (entries : Lists I (ProvisionalCacheEntry C I R A T)) where
  abbrev Goals : Type 0
  Goals = List (OpenGoal C F I R A T)

  module _ (given : Received R) (request : Request I R) (old mid : Goals) (s : HasStepped G X cx given request old mid)
      (off : AnswerStaysOff (verdicts X) same nodes results entries old given.reply given.node)
      (h : AreSettledGoals (verdicts X) same nodes results entries None old) where
    abbrev replied_record : RunRecord I R
    replied_record = received s.run.progress given.reply s.verdict given.node

    abbrev later_run : Run C F I R A T
    later_run = record s.run {
      frame = s.frame;
      progress = requested (received s.run.progress given.reply s.verdict given.node) request;
    }

    abbrev replied_goal : OpenRun I R
    replied_goal = record (run_of (s.entry, s.run)) {
      answers = (received s.run.progress given.reply s.verdict given.node).answers;
    }

    was : AreSettledGoals (verdicts X) same nodes results entries None ((s.entry, s.run) ∷ s.below)
    was = subst (AreSettledGoals (verdicts X) same nodes results entries None) s.was h

    got : StaysOff (verdicts X) same nodes results entries replied_goal s.entry.state.nested_goals (runs_of s.below)
    got =
        replied_off (verdicts X) same nodes results entries s.entry s.run s.below
        given.reply given.node s.verdict s.is_verdict
        (subst (λ (v : Goals). AnswerStaysOff (verdicts X) same nodes results entries v given.reply given.node) s.was
        off) was.0.off

    counted_there : (c : Option ℕ) → counted_by replied_record.ignored c ≡ true
        → counted_by replied_goal.ignored c ≡ true
    counted_there c kept = ap (λ (p : RunRecord I R). counted_by p.ignored c)
        (sym (acted_same s.run.progress s.verdict given.node s.run.progress.request)) ∙ kept

    -- the goal that takes its place goes on with its answers
    module _ (t : OpenGoal C F I R A T) (goes : GoesOn replied_goal (run_of t))
        (nested : t.0.state.nested_goals ≡ s.entry.state.nested_goals) (input : t.0.input ≡ s.entry.input)
        (in_cycle : is_in_cycle t.0.state ≡ is_in_cycle s.entry.state)
        (provisional : t.0.state.provisional_result ≡ s.entry.state.provisional_result)
        (finished : t.1.finished_runs ≡ s.run.finished_runs) (fate : t.1.fate ≡ s.run.fate) where
      nested_stay : (goal : I) → IsSome (paths_at same s.entry.state.nested_goals goal)
          → IsSome (paths_at same t.0.state.nested_goals goal)
      nested_stay goal there = subst (λ (ns : NestedPaths I). IsSome (paths_at same ns goal)) (sym nested) there

      follows : Follows (run_of (s.entry, s.run)) (run_of t)
      follows = record { goal_is = goes.follows.goal_is; first_is = goes.follows.first_is; heads = goes.follows.heads }

      settled_then : AreSettledGoals (verdicts X) same nodes results entries None (t ∷ s.below)
      settled_then = (
        record {
          off = off_kept (verdicts X) same nodes nodes (λ place goal is. is) (λ a v edges is. is) results results
              (λ goal lone. lone) (λ node. Unit {0}) entries entries (all_stay same entries) replied_goal (run_of t)
              goes (λ node older. tt) s.entry.state.nested_goals
              t.0.state.nested_goals nested_stay (runs_of s.below) got;
          made = λ goal entry node has since before.
              aside_leads (verdicts X) same nodes nodes (λ place g is. is) (λ a v edges is. is) results results
              (λ g lone. lone) (λ node. Unit {0}) entries entries (all_stay same entries) (run_of (s.entry, s.run))
              (run_of t) follows (λ node older. tt)
              s.entry.state.nested_goals t.0.state.nested_goals nested_stay (runs_of s.below)
              (verdict_of (verdicts X) entry.result) node
              (was.0.made goal entry node has (subst (λ first. first ≤ node) follows.first_is since) tt);
          began = tt;
          apart = subst (IsOff (runs_of s.below)) (sym input) was.0.apart;
          itself =
              subst (λ (ns : NestedPaths I).
              IsSome (paths_at same ns t.0.input) ⊎ ((ns ≡ []) × (is_in_cycle t.0.state ≡ false))) (sym nested)
              (subst (λ g. IsSome (paths_at same s.entry.state.nested_goals g)
              ⊎ ((s.entry.state.nested_goals ≡ []) × (is_in_cycle t.0.state ≡ false))) (sym input)
              (subst (λ b. IsSome (paths_at same s.entry.state.nested_goals s.entry.input)
              ⊎ ((s.entry.state.nested_goals ≡ []) × (b ≡ false))) (sym in_cycle) was.0.itself));
          first = λ none. finished ∙ was.0.first (sym provisional ∙ none);
          stored = fate ∙ was.0.stored;
        },
        subst (λ first. AreSettledGoals (verdicts X) same nodes results entries (Some first) s.below)
            (sym follows.first_is) was.1,
      )

    -- what it counts changes, and its candidates
    goes_on : (tally : Tally) (is_open : Bool) (ignored : List Bool)
        → ((head : StackDepth) → IsSome (at_depth s.entry.state.heads head) → IsSome (at_depth tally.heads head))
        → ((c : Option ℕ) → counted_by ignored c ≡ true → counted_by replied_record.ignored c ≡ true)
        → GoesOn replied_goal
        (record replied_goal { tally = tally; is_open = is_open; ignored = ignored; request = Some request })
    goes_on tally is_open ignored heads before = record {
      follows = record { goal_is = refl; first_is = refl; heads = heads };
      answers = λ i a at counts. (at, counted_there a.candidate (before a.candidate counts));
      provisional = refl;
    }

  noted_goals :
      (given : Received R) (request : Request I R) (old mid after : Goals) (s : HasStepped G X cx given request old mid)
      → AnswerStaysOff (verdicts X) same nodes results entries old given.reply given.node
      → AreSettledGoals (verdicts X) same nodes results entries None old → NotesCandidate request mid after
      → AreSettledGoals (verdicts X) same nodes results entries None after
  noted_goals given EnterCandidate old mid after s off h noted =
      subst (AreSettledGoals (verdicts X) same nodes results entries None)
      (sym (noted ∙ ap (change_newest enters) s.is))
      (settled_then given EnterCandidate old mid s off h
      (enters (s.entry, later_run given EnterCandidate old mid s off h))
      (goes_on given EnterCandidate old mid s off h
      (record (tally_of s.entry.state s.run.candidates) { current = Some [] }) true
      (replied_record given EnterCandidate old mid s off h).ignored (λ head some. some) (λ c kept. kept))
      refl refl refl refl refl refl)
  noted_goals given FinishCandidate old mid after s off h noted =
      let ignored = (replied_record given FinishCandidate old mid s off h).ignored in
      subst (AreSettledGoals (verdicts X) same nodes results entries None)
      (sym (noted ∙ ap (change_newest finishes) s.is))
      (settled_then given FinishCandidate old mid s off h
      (finishes (s.entry, later_run given FinishCandidate old mid s off h))
      (goes_on given FinishCandidate old mid s off h (record (tally_of s.entry.state s.run.candidates) {
        current = None;
        finished = s.run.candidates ++ unwrap_or s.entry.state.candidate_usages [] ∷ [];
      }) false (ignored ++ false ∷ []) (λ head some. some) (λ c kept. sym (counted_longer ignored c) ∙ kept)) refl refl
      refl refl refl refl)
  noted_goals given (Ignore n) old mid after s off h noted =
      let p = received s.run.progress given.reply s.verdict given.node in
      let test = (may_ignore (nat_lt n (length p.ignored)) (ignored_by p.ignored n) s.in_order).0 in
      let within : n < length p.ignored = grind (arith, nat_tests) in
      let here = ignores_here s.entry (later_run given (Ignore n) old mid s off h) s.below n mid after s.is noted in
      let later : Run C F I R A T = record s.run {
        frame = s.frame;
        progress = requested (received s.run.progress given.reply s.verdict given.node) (Ignore n);
        candidates = slice_set s.run.candidates n [];
      } in
      let counts = ignored_counts (record { 0 = length s.below }) here.candidate s.entry.state here.state
      s.run.candidates (slice_set s.run.candidates n []) here.ignores in
      subst (AreSettledGoals (verdicts X) same nodes results entries None) (sym here.is)
      (settled_then given (Ignore n) old mid s off h (record s.entry { state = here.state }, later)
      (subst (GoesOn (replied_goal given (Ignore n) old mid s off h)) (sym
      (ignoring_run s.entry (later_run given (Ignore n) old mid s off h) s.below here.state later here.ignores.others))
      (goes_on given (Ignore n) old mid s off h (tally_of here.state (slice_set s.run.candidates n [])) p.is_open
      (slice_set p.ignored n true) counts.heads (λ c kept. (counted_before p.ignored n c within kept).0)))
      (ap (λ (x : EntryState C I R A T). x.nested_goals) here.ignores.others) refl here.ignores.in_cycle
      (ap (λ (x : EntryState C I R A T). x.provisional_result) here.ignores.others) refl refl)
  noted_goals given request old mid after s off h noted =
      subst (AreSettledGoals (verdicts X) same nodes results entries None) (sym (noted ∙ s.is))
      (settled_then given request old mid s off h (s.entry, later_run given request old mid s off h)
      (goes_on given request old mid s off h (tally_of s.entry.state s.run.candidates)
      (replied_record given request old mid s off h).is_open (replied_record given request old mid s off h).ignored
      (λ head some. some) (λ c kept. kept)) refl refl refl refl refl refl)

  -- the first nodes stay
  noted_firsts : (given : Received R) (request : Request I R) (old mid after : Goals)
      → HasStepped G X cx given request old mid → NotesCandidate request mid after
      → map cycles_node (runs_of after) ≡ map cycles_node (runs_of old)
  noted_firsts given EnterCandidate old mid after s noted =
      ap (λ l. map cycles_node (runs_of l)) (noted ∙ ap (change_newest enters) s.is)
      ∙ sym (ap (λ l. map cycles_node (runs_of l)) s.was)
  noted_firsts given FinishCandidate old mid after s noted =
      ap (λ l. map cycles_node (runs_of l)) (noted ∙ ap (change_newest finishes) s.is)
      ∙ sym (ap (λ l. map cycles_node (runs_of l)) s.was)
  noted_firsts given (Ignore n) old mid after s noted =
      let later : Run C F I R A T = record s.run {
        frame = s.frame;
        progress = requested (received s.run.progress given.reply s.verdict given.node) (Ignore n);
      } in
      let here = ignores_here s.entry later s.below n mid after s.is noted in
      ap (λ l. map cycles_node (runs_of l)) here.is
      ∙ (ap (λ o. cycles_node o ∷ map cycles_node (runs_of s.below)) (ignoring_run s.entry later s.below here.state
      (record later { candidates = slice_set s.run.candidates n [] }) here.ignores.others)
      ∙ sym (ap (λ l. map cycles_node (runs_of l)) s.was))
  noted_firsts given request old mid after s noted =
      ap (λ l. map cycles_node (runs_of l)) (noted ∙ s.is) ∙ sym (ap (λ l. map cycles_node (runs_of l)) s.was)

  -- the goals after the step, and what it noted
  pub noted_settles : (call : Call I) (met : Bool) (given : Received R) (request : Request I R) (old mid after : Goals)
      → HasStepped G X cx given request old mid
      → AnswerStaysOff (verdicts X) same nodes results entries old given.reply given.node
      → NotesCandidate request mid after → IsSettling (verdicts X) same nodes results entries call old met
      → IsSettling (verdicts X) same nodes results entries call after met
  noted_settles call met given request old mid after s off noted h = record {
    unmet = h.unmet;
    settled = h.settled;
    goals_are = noted_goals given request old mid after s off h.goals_are noted;
    older = subst (RestOnOlder same entries) (sym (noted_firsts given request old mid after s noted)) h.older;
    none_lone = noted_none_lone same results call.goals request mid after noted
        (stepped_none_lone G X cx same results call.goals given request old mid s h.none_lone);
  }

-- what is noted is no answer
pub noted_stays_off : {X F I R A T : Type 0} (says : Verdicts R) (same : I → I → Bool)
    (by_value : (x y : I) → same x y ≡ true → x ≡ y) (nodes : List (CacheNode I R))
    (results : Store I (StoredResult I R T)) (entries : Lists I (ProvisionalCacheEntry X I R A T))
    (items : List (OpenGoal X F I R A T)) → AnswerStaysOff says same nodes results entries items Noted None
noted_stays_off says same by_value nodes results entries items = begin_stays_off says same by_value nodes results
    entries items Noted None (λ r is. let clash : Noted ≡ Answer r = is in cc)

-- the same of the entries, also where the context is named otherwise
pub stepped_entries : {D C V P F I R A T : Type 0} (G : DelegateOf D C V P F I R A T) (X : CxOf C I R A T)
    (same : I → I → Bool) (cx there : C) → there ≡ cx
    → (call : Call I) (given : Received R) (request : Request I R) (results : Store I (StoredResult I R T))
    (old mid after : List (OpenGoal C F I R A T)) (entries : Lists I (ProvisionalCacheEntry C I R A T))
    → HasStepped G X there given request old mid → NotesCandidate request mid after
    → EntriesSuitCall G same cx call results old entries → EntriesSuitCall G same cx call results after entries
stepped_entries G X same cx there is call given request results old mid after entries s noted =
    subst (λ c. HasStepped G X c given request old mid → NotesCandidate request mid after
    → EntriesSuitCall G same cx call results old entries → EntriesSuitCall G same cx call results after entries)
    (sym is)
    (noted_keeps_entries G X same cx call given request results old mid after entries) s noted

-- a question has depth
module _ {D C V P F I R A T : Type 0} (G : DelegateOf D C V P F I R A T) (X : CxOf C I R A T) (same : I → I → Bool)
    (cx : C) (kind : PathKind) (goal : I) (old : Cache C I R T) (e : Evaluation D C V P F I R A T) (starts : ℕ)
    (call : Call I) (ahead : ℕ) (noop : Bool) (needs : CallNeedsTwoRuns G X cx call noop)
    (asked : Requests G X same cx (Evaluate kind goal) call ahead old e starts) where
  depth_there : (depth : Option ℕ) → question_depth G e ≡ depth → is_none depth ≡ false
  depth_there None none = absurd (enclosed_refuses_none G X cx call ahead kind goal starts e.limits_met e.goals
      (sym none) needs.needs.enclosed asked.asked)
  depth_there (Some depth) is = refl

  -- so it meets no limit, also where memory is out
  pub ask_unmet : (met : Bool) → e.limits_met ≡ false
      → met ≡ (e.limits_met || is_none (question_depth G e)) → met ≡ false
  ask_unmet met unmet is =
      is ∙ or_from e.limits_met (is_none (question_depth G e)) unmet (depth_there (question_depth G e) refl)

-- ---- a call begins

-- where nothing is found that is stored of its goal, this is not lone
pub top_is_not_lone : {D C V P F I R A T : Type 0} (G : DelegateOf D C V P F I R A T) (X : CxOf C I R A T) (cx : C)
    (same : I → I → Bool) (call : Call I) (noop : Bool) (results : Store I (StoredResult I R T))
    (goal : I) (root starts : ℕ) (met : Bool)
    → CallNeedsTwoRuns G X cx call noop → LoneRequire same results call.goals → Outset call goal root starts met
    → first_accepted (λ nested. true) (usable same results goal root) ≡ None → IsLone same results goal → ⊥
top_is_not_lone G X cx same call noop results goal root starts met needs require at none lone =
    top_not_lone G X cx call same results needs.needs.enclosed require (λ nested. true) (λ nested empty. refl)
    (subst (λ g. first_accepted (λ nested. true) (usable same results g call.root) ≡ None) (sym at.same_top)
    (subst (λ d. first_accepted (λ nested. true) (usable same results goal d) ≡ None) (sym at.same_root) none))
    (subst (IsLone same results) (sym at.same_top) lone)

-- no limit was met before it
pub begins_unmet : {D C V P F I R A T : Type 0} (G : DelegateOf D C V P F I R A T) (X : CxOf C I R A T) (cx : C)
    (call : Call I) (noop : Bool) (goal : I) (root starts : ℕ) (met : Bool)
    → CallNeedsTwoRuns G X cx call noop → Outset call goal root starts met → met ≡ false
begins_unmet G X cx call noop goal root starts met needs at = sym at.same_limits ∙ needs.unmet

-- the goal is one of its goals
pub begins_unscoped : {D C V P F I R A T : Type 0} (G : DelegateOf D C V P F I R A T) (X : CxOf C I R A T) (cx : C)
    (call : Call I) (noop : Bool) (goal : I) (root starts : ℕ) (met : Bool)
    → CallNeedsTwoRuns G X cx call noop → Outset call goal root starts met → G.scoped cx goal ≡ false
begins_unscoped G X cx call noop goal root starts met needs at =
    subst (λ g. G.scoped cx g ≡ false) at.same_top (needs.needs.unscoped call.top needs.needs.enclosed.within)

-- its goal is pushed
pub begins_settles :
    {D C V P F I R A T : Type 0} (G : DelegateOf D C V P F I R A T) (X : CxOf C I R A T) (same : I → I → Bool)
    (by_value : (x y : I) → same x y ≡ true → x ≡ y) (own : (x : I) → same x x ≡ true) (cx : C) (kind : PathKind)
    (goal : I) (old : Cache C I R T) (e : Evaluation D C V P F I R A T) (is_new : IsNew e)
    (depth : AvailableDepth) (goals : List (OpenGoal C F I R A T)) (held : List V) (nodes : List (CacheNode I R))
    (pushes : Pushes G X cx goal kind depth old.nodes nodes e.goals goals) (fate : Fate R)
    → fates_of goals ≡ record { goal = goal; depth = depth.0; fate = fate } ∷ fates_of e.goals
    → AreSoundResults same (verdicts X) (G.script cx) old.nodes old.results → fate ≡ becomes.Stored
    → (IsLone same old.results goal → ⊥) → (call : Call I) → e.limits_met ≡ false
    → IsSettledStore G X same cx call.goals old.nodes old.results
    → Settles G X same cx call (record { reply = Begin; node = None }) (record old { nodes = nodes })
    (record e { goals = goals; scopes = held })
begins_settles G X same by_value own cx kind goal old e is_new depth goals held nodes pushes fate fates sound stored
    not_lone call unmet store = record {
      settling =
          pushed_settles G X same by_value own cx kind goal old e 0 call
          (new_right G X same cx kind goal old e is_new sound)
          (record {
            unmet = unmet;
            settled = store.settled;
            goals_are =
                subst (AreSettledGoals (verdicts X) same old.nodes old.results e.provisional None)
                (sym is_new.no_goals) tt;
            none_lone = subst (NoneIsLone same old.results call.goals) (sym is_new.no_goals) tt;
            older = subst (λ l. RestOnOlder same e.provisional (map cycles_node (runs_of l)))
                (sym is_new.no_goals) (λ g entry node has head some. tt);
          })
          depth goals nodes pushes fate fates stored not_lone
          (ap (λ l. list_any (λ s. same goal s.0.input) l) is_new.no_goals);
      answer = begin_stays_off (verdicts X) same by_value nodes old.results e.provisional goals Begin None
          (λ r is. let clash : Begin ≡ Answer r = is in cc);
      entries = began_keeps_entries G X same cx kind goal old e is_new depth goals nodes pushes call store.suit;
    }
