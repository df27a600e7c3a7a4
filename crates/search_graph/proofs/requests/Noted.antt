-- A frame's request was put on record, and what it asks of the candidates was done: the goals stay justified, and
-- wait for the next reply.
use Rattle.std.proofs.Common.{◌≡◌, ◌≢◌, ℕ, zero, suc, ◌<◌, nat_lt, Bool, true, false, not, if◌then◌else◌, List, [], ◌∷◌}
use Rattle.std.proofs.Common.{◌++◌, length, length-append, Option, None, Some, is_some, unwrap_or, slice_get, slice_set}
use Rattle.std.proofs.Common.{get_or, refl, sym, ap, ◌∙◌, subst, arith}
use Rattle.std.specs.Option.{IfSome, IsSomeAnd}
use Rattle.std.proofs.lemmas.Bool.Decides.{nat_tests}
use Rattle.std.proofs.lemmas.List.{get_or-set_same, get_or-set_other, length-map, length-set}
use Rattle.std.proofs.lemmas.Option.{slice_get-get_or}
use Rattle.search_context.specs.Delegate.{left_open}
use Rattle.run_records.proofs.Options.{is_none}
use Rattle.search_graph.specs.Below.{DelegateOf, CxOf, NodeId, Request, Evaluate, EnterCandidate, FinishCandidate}
use Rattle.search_graph.specs.Below.{Ignore, Done, Noted, Verdict, Neither, StoredResult, EntryState, OpenGoal}
use Rattle.search_graph.specs.Below.{StackEntry, CacheNode, IsReplyTo, Store, UsagesByHead, Received, Run, enters}
use Rattle.search_graph.specs.Below.{finishes, CanIgnore, CanNote, IgnoresNewest, Ignores, NotesCandidate, is_in_cycle}
use Rattle.search_graph.specs.Below.{IsDefinite, change_newest, RunRecord, answered, counted_by, ignored_by, received}
use Rattle.search_graph.specs.Below.{requested, HasStepped, Stood, Verdicts, verdicts, AreFree, AreJustified, bound}
use Rattle.search_graph.specs.Below.{Call, CallGoesOn, HasAsked, IsCounted, IsDecided, IsFit, IsTallied, limits}
use Rattle.search_graph.specs.Below.{OpenRun, run_of, runs_of, seen, Tally, tally_of}
use Rattle.evaluations.specs.Frames.{Frame}
use Rattle.evaluations.proofs.Mirrors.{noted_waits}
use Rattle.search_rules.proofs.moves.DecidedGoals.{changed_decided}
use Rattle.search_rules.proofs.justified.Justified.{recounted_is_justified}
use Rattle.search_rules.proofs.moves.Moves.{some_runs}
use Rattle.search_rules.proofs.justified.Replies.{replied_is_justified}
use Rattle.search_graph.proofs.requests.IgnoredTallies.{can_ignore, ignored_keeps, ignored_tallied}
use Rattle.search_rules.proofs.counts.Tallies.{entered_regroups, finished_regroups, IsRegrouped}
use Rattle.search_rules.proofs.counts.Tallies.{regrouped_keeps, regrouped_tallied}
use Rattle.search_rules.proofs.answers.Free.{all_free_above}

-- ---- flags and candidates

none_open : (b : Bool) → if◌then◌else◌ {A = Option ℕ} b (Some 1) None ≡ None → b ≡ false
none_open true is = absurd cc
none_open false is = refl

one_open : (b : Bool) → if◌then◌else◌ {A = Option ℕ} b None (Some 2) ≡ None → b ≡ true
one_open true is = refl
one_open false is = absurd cc

-- a candidate that may be ignored is finished, and isn't ignored yet
pub may_ignore : (finished ignored : Bool)
    → if◌then◌else◌ {A = Option ℕ} finished (if◌then◌else◌ {A = Option ℕ} ignored (Some 4) None) (Some 3) ≡ None
    → (finished ≡ true) × (ignored ≡ false)
may_ignore true true is = absurd cc
may_ignore true false is = (refl, refl)
may_ignore false ignored is = absurd cc

pub something_in : {A : Type 0} (o : Option A) (otherwise : A) → is_some o ≡ true → o ≡ Some (unwrap_or o otherwise)
something_in None otherwise is = absurd cc
something_in (Some x) otherwise is = refl

-- one more finished candidate, which isn't ignored, changes nothing of the others
ignored_longer : (ignored : List Bool) (n : ℕ) → ignored_by (ignored ++ false ∷ []) n ≡ ignored_by ignored n
ignored_longer [] zero = refl
ignored_longer [] (suc n) = refl
ignored_longer (b ∷ ignored) zero = refl
ignored_longer (b ∷ ignored) (suc n) = ignored_longer ignored n

pub counted_longer : (ignored : List Bool) (c : Option ℕ) → counted_by (ignored ++ false ∷ []) c ≡ counted_by ignored c
counted_longer ignored None = refl
counted_longer ignored (Some n) = ap not (ignored_longer ignored n)

-- what still counts once a candidate is ignored is another one's, and counted before
pub counted_before : (ignored : List Bool) (n : ℕ) (c : Option ℕ) → n < length ignored
    → counted_by (slice_set ignored n true) c ≡ true → (counted_by ignored c ≡ true) × (c ≢ Some n)
counted_before ignored n None within kept = (refl, λ e. absurd cc)
counted_before ignored n (Some m) within kept =
    let other : m ≢ n = λ same. ignored_is_not_counted (get_or (slice_set ignored n true) m false)
    (ap (λ k. get_or (slice_set ignored n true) k false) same ∙ get_or-set_same ignored n true false within) kept in
    (ap not (sym (get_or-set_other ignored n m true false other)) ∙ kept, λ e. let same : m ≡ n = cc in other same)
  where
    ignored_is_not_counted : (b : Bool) → b ≡ true → not b ≡ true → ⊥
    ignored_is_not_counted true is kept = cc
    ignored_is_not_counted false is kept = cc

-- which candidate is open, and which are ignored, doesn't rest on the verdict of an answer
module _ {I R : Type 0} (p : RunRecord I R) (verdict : Verdict) (target : Option NodeId) where
  pub acted_same : (request : Option (Request I R)) → record (answered p request verdict target) { answers = p.answers }
      ≡ record (answered p request Neither None) { answers = p.answers }
  acted_same (Some (Evaluate kind goal)) = refl
  acted_same request = refl

-- ---- the newest goal that ignores a candidate

module _ {X F I R A T : Type 0} (entry : StackEntry X I R A T) (run : Run X F I R A T)
    (below : List (OpenGoal X F I R A T)) where
  -- a goal that ignores a candidate, as it was before
  pub record IgnoresHere (number : ℕ) (after : List (OpenGoal X F I R A T)) : Type 0 where
    pub candidate : UsagesByHead
    pub state : EntryState X I R A T
    pub is_at : slice_get run.candidates number ≡ Some candidate
    pub is :
        after ≡ (record entry { state = state }, record run { candidates = slice_set run.candidates number [] }) ∷ below
    pub ignores : Ignores (record { 0 = length below }) candidate entry.state state

  pub ignores_here : (number : ℕ) (mid after : List (OpenGoal X F I R A T)) → mid ≡ (entry, run) ∷ below
      → IgnoresNewest number mid after → IgnoresHere number after
  ignores_here number mid after mid_is n =
      let both : (n.entry, n.run) ∷ n.below ≡ (entry, run) ∷ below = sym n.was ∙ mid_is in
      let pair : (n.entry, n.run) ≡ (entry, run) = cc in
      let same_entry : n.entry ≡ entry = ap (λ (x : OpenGoal X F I R A T). x.0) pair in
      let same_run : n.run ≡ run = ap (λ (x : OpenGoal X F I R A T). x.1) pair in
      let same_below : n.below ≡ below = cc in
      record {
        candidate = n.candidate;
        state = n.state;
        is_at = ap (λ (r : Run X F I R A T). slice_get r.candidates number) (sym same_run) ∙ n.is_at;
        is = n.is ∙ (λ i. (
          record (same_entry i) { state = n.state },
          record (same_run i) { candidates = slice_set (same_run i).candidates number [] },
        ) ∷ same_below i);
        ignores =
            subst (λ (e : StackEntry X I R A T). Ignores (record { 0 = length below }) n.candidate e.state n.state)
            same_entry
            (subst (λ (l : List (OpenGoal X F I R A T)).
            Ignores (record { 0 = length l }) n.candidate n.entry.state n.state) same_below n.ignores);
      }

  -- but for what it counts, the goal's run is the same
  pub ignoring_run : (state : EntryState X I R A T) (later : Run X F I R A T)
      → state ≡ record entry.state { heads = state.heads; usages = state.usages }
      → run_of (record entry { state = state }, later)
      ≡ record (run_of (entry, later)) { tally = tally_of state later.candidates }
  ignoring_run state later others = ap (λ (s : EntryState X I R A T).
      record (run_of (record entry { state = s }, later)) { tally = tally_of state later.candidates }) others

module _ {D C V P F I R A T : Type 0} (G : DelegateOf D C V P F I R A T) (X : CxOf C I R A T) (cx : C)
    (nodes : List (CacheNode I R)) where
  abbrev Goals : Type 0
  Goals = List (OpenGoal C F I R A T)

  module _ (given : Received R) (request : Request I R) (old mid : Goals) (s : HasStepped G X cx given request old mid)
      (fit : IsFit (verdicts X) nodes (runs_of old) given.reply given.node)
      (h : AreJustified (verdicts X) nodes (runs_of old)) where
    -- the record with the reply, the run with the request, and the goal with the answer that it got
    abbrev replied_record : RunRecord I R
    replied_record = received s.run.progress given.reply s.verdict given.node

    abbrev later_run : Run C F I R A T
    later_run = record s.run {
      frame = s.frame;
      progress = requested (received s.run.progress given.reply s.verdict given.node) request;
    }

    abbrev replied_goal : OpenRun I R
    replied_goal = record (run_of (s.entry, s.run)) {
      answers = (received s.run.progress given.reply s.verdict given.node).answers;
    }

    got : AreJustified (verdicts X) nodes (replied_goal ∷ runs_of s.below)
    got =
        replied_is_justified G X cx nodes s.entry s.run given.reply given.node s.verdict s.below s.is_verdict
        (subst (λ (v : Goals). IsFit (verdicts X) nodes (runs_of v) given.reply given.node) s.was fit)
        (subst (λ (v : Goals). AreJustified (verdicts X) nodes (runs_of v)) s.was h)

    has_open : is_some s.entry.state.candidate_usages ≡ replied_record.is_open
    has_open = got.tallies.0.open_is ∙ ap (λ (p : RunRecord I R). p.is_open)
        (sym (acted_same s.run.progress s.verdict given.node s.run.progress.request))

    has_finished : length s.run.candidates ≡ length replied_record.ignored
    has_finished = got.tallies.0.finished_are ∙ ap (λ (p : RunRecord I R). length p.ignored)
        (sym (acted_same s.run.progress s.verdict given.node s.run.progress.request))

    counted_as_before : (c : Option ℕ) → counted_by replied_record.ignored c ≡ true
        → counted_by replied_goal.ignored c ≡ true
    counted_as_before c kept = ap (λ (p : RunRecord I R). counted_by p.ignored c)
        (sym (acted_same s.run.progress s.verdict given.node s.run.progress.request)) ∙ kept

    abbrev tally_before : Tally
    tally_before = tally_of s.entry.state s.run.candidates

    tallied_before : IsTallied (length (runs_of s.below)) tally_before
    tallied_before = got.tallies.0.tallied

    many : length (runs_of s.below) ≡ length s.below
    many = length-map s.below run_of

    tallied_here : IsTallied (length s.below) tally_before
    tallied_here = subst (λ n. IsTallied n tally_before) many tallied_before

    -- nothing is requested of candidates
    pub asking_is_justified : AreJustified (verdicts X) nodes (record replied_goal {
      is_open = replied_record.is_open;
      ignored = replied_record.ignored;
      request = Some request;
    } ∷ runs_of s.below)
    asking_is_justified =
        recounted_is_justified (verdicts X) nodes tally_before replied_record.is_open replied_record.ignored
        (Some request) replied_goal (runs_of s.below)
        (record { tallied = tallied_before; open_is = has_open; finished_are = has_finished })
        (λ c kept. (counted_as_before c kept, λ depth path cycle recorded. recorded)) got

    -- each candidate keeps its number
    regrouped_is_justified :
        (current : Option UsagesByHead) (finished : List UsagesByHead) (is_open : Bool) (ignored : List Bool)
        → IsRegrouped tally_before current finished → is_some current ≡ is_open → length finished ≡ length ignored
        → ((c : Option ℕ) → counted_by ignored c ≡ true → counted_by replied_record.ignored c ≡ true)
        → AreJustified (verdicts X) nodes (record replied_goal {
          tally = record tally_before { current = current; finished = finished };
          is_open = is_open;
          ignored = ignored;
          request = Some request;
        } ∷ runs_of s.below)
    regrouped_is_justified current finished is_open ignored r open_is finished_are kept_before =
        recounted_is_justified (verdicts X) nodes (record tally_before { current = current; finished = finished })
        is_open ignored (Some request) replied_goal (runs_of s.below)
        (record {
          tallied = regrouped_tallied (length (runs_of s.below)) tally_before current finished r tallied_before;
          open_is = open_is;
          finished_are = finished_are;
        })
        (λ c kept. (
          counted_as_before c (kept_before c kept),
          regrouped_keeps (length (runs_of s.below)) tally_before current finished r tallied_before c,
        )) got

    -- a candidate is entered
    entered_is_justified : replied_record.is_open ≡ false → AreJustified (verdicts X) nodes (record replied_goal {
      tally = record tally_before { current = Some [] };
      is_open = true;
      ignored = replied_record.ignored;
      request = Some request;
    } ∷ runs_of s.below)
    entered_is_justified closed =
        regrouped_is_justified (Some []) s.run.candidates true replied_record.ignored
        (entered_regroups tally_before (is_none s.entry.state.candidate_usages (has_open ∙ closed))) refl
        has_finished (λ c kept. kept)

    -- the open one is finished
    finished_is_justified : replied_record.is_open ≡ true → AreJustified (verdicts X) nodes (record replied_goal {
      tally = record tally_before {
        current = None;
        finished = s.run.candidates ++ unwrap_or s.entry.state.candidate_usages [] ∷ [];
      };
      is_open = false;
      ignored = replied_record.ignored ++ false ∷ [];
      request = Some request;
    } ∷ runs_of s.below)
    finished_is_justified is_open =
        regrouped_is_justified None (s.run.candidates ++ unwrap_or s.entry.state.candidate_usages [] ∷ []) false
        (replied_record.ignored ++ false ∷ [])
        (finished_regroups tally_before (unwrap_or s.entry.state.candidate_usages [])
        (something_in s.entry.state.candidate_usages [] (has_open ∙ is_open))) refl
        (omega (
          arith,
          length-append s.run.candidates (unwrap_or s.entry.state.candidate_usages [] ∷ []),
          length-append replied_record.ignored (false ∷ []),
          has_finished,
        ))
        (λ c kept. sym (counted_longer replied_record.ignored c) ∙ kept)

    -- a finished one is ignored
    module _ (number : ℕ) (candidate : UsagesByHead) (state : EntryState C I R A T)
        (is_at : slice_get s.run.candidates number ≡ Some candidate)
        (ignores : Ignores (record { 0 = length s.below }) candidate s.entry.state state)
        (within : number < length replied_record.ignored) where
      ignored_is_justified : AreJustified (verdicts X) nodes (record replied_goal {
        tally = tally_of state (slice_set s.run.candidates number []);
        is_open = replied_record.is_open;
        ignored = slice_set replied_record.ignored number true;
        request = Some request;
      } ∷ runs_of s.below)
      ignored_is_justified =
          recounted_is_justified (verdicts X) nodes (tally_of state (slice_set s.run.candidates number []))
          replied_record.is_open (slice_set replied_record.ignored number true)
          (Some request) replied_goal (runs_of s.below)
          (record {
            tallied =
                subst (λ n. IsTallied n (tally_of state (slice_set s.run.candidates number []))) (sym many)
                (ignored_tallied (record { 0 = length s.below }) s.entry.state state s.run.candidates number
                candidate ignores is_at tallied_here);
            open_is = ap (λ (x : EntryState C I R A T). is_some x.candidate_usages) ignores.others ∙ has_open;
            finished_are = length-set s.run.candidates number [] ∙ has_finished
                ∙ sym (length-set replied_record.ignored number true);
          })
          (λ c kept.
          let was = counted_before replied_record.ignored number c within kept in (
            counted_as_before c was.0,
            ignored_keeps (record { 0 = length s.below }) s.entry.state state s.run.candidates number
                candidate ignores is_at tallied_here c was.1,
          )) got

  -- ---- what was requested can be done, and keeps the goals justified

  can_note_at :
      (given : Received R) (request : Request I R) (old mid : Goals) (s : HasStepped G X cx given request old mid)
      (fit : IsFit (verdicts X) nodes (runs_of old) given.reply given.node)
      (h : AreJustified (verdicts X) nodes (runs_of old))
      → CanNote request ((s.entry, later_run given request old mid s fit h) ∷ s.below)
  can_note_at given FinishCandidate old mid s fit h = has_open given FinishCandidate old mid s fit h
      ∙ one_open (replied_record given FinishCandidate old mid s fit h).is_open s.in_order
  can_note_at given (Ignore n) old mid s fit h =
      let p = received s.run.progress given.reply s.verdict given.node in
      let may = may_ignore (nat_lt n (length p.ignored)) (ignored_by p.ignored n) s.in_order in
      let same = has_finished given (Ignore n) old mid s fit h in
      let test = may.0 in
      let within : n < length s.run.candidates = rw same (grind (arith, nat_tests)) in
      let there : slice_get s.run.candidates n ≡ Some (get_or s.run.candidates n []) =
      slice_get-get_or s.run.candidates n [] within in
      subst (λ o. IsSomeAnd o (λ candidate. CanIgnore (record { 0 = length s.below }) candidate s.entry.state))
      (sym there)
      (can_ignore (record { 0 = length s.below }) s.entry.state s.entry.state s.run.candidates n
      (get_or s.run.candidates n []) (tallied_here given (Ignore n) old mid s fit h) there)
  can_note_at given request old mid s fit h = tt

  pub can_note : (given : Received R) (request : Request I R) (old mid : Goals)
      → HasStepped G X cx given request old mid → IsFit (verdicts X) nodes (runs_of old) given.reply given.node
      → AreJustified (verdicts X) nodes (runs_of old) → CanNote request mid
  can_note given request old mid s fit h =
      subst (λ (v : Goals). CanNote request v) (sym s.is) (can_note_at given request old mid s fit h)

  pub noted_is_justified : (given : Received R) (request : Request I R) (old mid after : Goals)
      → HasStepped G X cx given request old mid → IsFit (verdicts X) nodes (runs_of old) given.reply given.node
      → AreJustified (verdicts X) nodes (runs_of old) → NotesCandidate request mid after
      → AreJustified (verdicts X) nodes (runs_of after)
  noted_is_justified given EnterCandidate old mid after s fit h noted =
      subst (λ (v : Goals). AreJustified (verdicts X) nodes (runs_of v)) (sym (noted ∙ ap (change_newest enters) s.is))
      (entered_is_justified given EnterCandidate old mid s fit h
      (none_open (replied_record given EnterCandidate old mid s fit h).is_open s.in_order))
  noted_is_justified given FinishCandidate old mid after s fit h noted =
      subst (λ (v : Goals). AreJustified (verdicts X) nodes (runs_of v))
      (sym (noted ∙ ap (change_newest finishes) s.is))
      (finished_is_justified given FinishCandidate old mid s fit h
      (one_open (replied_record given FinishCandidate old mid s fit h).is_open s.in_order))
  noted_is_justified given (Ignore n) old mid after s fit h noted =
      let p = received s.run.progress given.reply s.verdict given.node in
      let may = may_ignore (nat_lt n (length p.ignored)) (ignored_by p.ignored n) s.in_order in
      let test = may.0 in
      let within : n < length p.ignored = grind (arith, nat_tests) in
      let here = ignores_here s.entry (later_run given (Ignore n) old mid s fit h) s.below n mid after s.is noted in
      let later : Run C F I R A T = record s.run {
        frame = s.frame;
        progress = requested (received s.run.progress given.reply s.verdict given.node) (Ignore n);
        candidates = slice_set s.run.candidates n [];
      } in
      subst (λ (v : Goals). AreJustified (verdicts X) nodes (runs_of v)) (sym here.is)
      (subst (λ (o : OpenRun I R). AreJustified (verdicts X) nodes (o ∷ runs_of s.below))
      (sym (ignoring_run s.entry (later_run given (Ignore n) old mid s fit h) s.below here.state (record s.run {
        frame = s.frame;
        progress = requested (received s.run.progress given.reply s.verdict given.node) (Ignore n);
        candidates = slice_set s.run.candidates n [];
      }) here.ignores.others))
      (ignored_is_justified given (Ignore n) old mid s fit h n here.candidate
      here.state here.is_at here.ignores within))
  noted_is_justified given request old mid after s fit h noted =
      subst (λ (v : Goals). AreJustified (verdicts X) nodes (runs_of v)) (sym (noted ∙ s.is))
      (asking_is_justified given request old mid s fit h)

-- ---- the goals wait for the next reply

module _ {D C V P F I R A T : Type 0} (G : DelegateOf D C V P F I R A T)
    (X : CxOf C I R A T) (cx : C) (call : Call I) where
  -- the newest goal changed, but not what is seen of it
  module _ (ahead : ℕ) (request : Request I R) (item later : OpenGoal C F I R A T) (below : List (OpenGoal C F I R A T))
      (starts : ℕ) (met : Bool) (fits : IsReplyTo (λ _ _. ⊥) (Some request) Noted)
      (same : seen G X cx item ≡ seen G X cx later)
      (stood : (replies : List _) → Stood G X cx item replies → Stood G X cx later replies)
      (step : later.0.step_kind_from_parent ≡ item.0.step_kind_from_parent)
      (decided : IsDecided (verdicts X) item → IsDecided (verdicts X) later) where
    changed_goes_on : HasAsked G X cx call ahead request (item ∷ below) starts met
        → CallGoesOn G X cx call ahead Noted (later ∷ below) starts met
    changed_goes_on h =
        let w = noted_waits (seen G X cx) (Stood G X cx) (G.script cx) (limits G X cx call) (IsCounted G X cx call)
        call.top (bound G X cx call) (some_runs G.FIXPOINT_STEP_LIMIT) ahead starts met item below request Noted later
        fits (record {
          same = λ replies. ap (λ (f : Frame I R). record f { replies = Noted ∷ replies }) same;
          stood = stood;
        }) h.asked in
        record {
          waiting = record {
            waits = w.0;
            keeps = h.keeps;
            decided = λ decisive unmet. (
              changed_decided (verdicts X) item later below step decided (h.decided decisive unmet),
              tt,
            );
          };
          falls = w.1;
        }

  ignoring_seen : (s : OpenGoal C F I R A T) (state : EntryState C I R A T) (finished : List UsagesByHead) (parent : _)
      (candidate : UsagesByHead) → Ignores parent candidate s.0.state state
      → seen G X cx s ≡ seen G X cx (record s.0 { state = state }, record s.1 { candidates = finished })
  ignoring_seen s state finished parent candidate i =
      (λ k. record (seen G X cx s) { in_cycle = sym i.in_cycle k })
      ∙ ap (λ (x : EntryState C I R A T). record (seen G X cx (
        record s.0 { state = x },
        record s.1 { candidates = finished },
      )) { in_cycle = is_in_cycle state }) (sym i.others)

  pub noting_goes_on : (ahead : ℕ) (request : Request I R) (mid after : List (OpenGoal C F I R A T)) (starts : ℕ)
      (met : Bool) → IsReplyTo (λ _ _. ⊥) (Some request) Noted → NotesCandidate request mid after
      → HasAsked G X cx call ahead request mid starts met → CallGoesOn G X cx call ahead Noted after starts met
  noting_goes_on ahead request [] after starts met fits noted h = absurd h.asked.mirror
  noting_goes_on ahead EnterCandidate (s ∷ below) after starts met fits noted h =
      subst (λ v. CallGoesOn G X cx call ahead Noted v starts met) (sym noted)
      (changed_goes_on ahead EnterCandidate s (enters s) below starts met tt refl (λ replies stood. stood) refl
      (λ d. record { replies = d.replies; provisional = d.provisional }) h)
  noting_goes_on ahead FinishCandidate (s ∷ below) after starts met fits noted h =
      subst (λ v. CallGoesOn G X cx call ahead Noted v starts met) (sym noted)
      (changed_goes_on ahead FinishCandidate s (finishes s) below starts met tt refl (λ replies stood. stood) refl
      (λ d. record { replies = d.replies; provisional = d.provisional }) h)
  noting_goes_on ahead (Ignore n) (s ∷ below) after starts met fits noted h =
      let here = ignores_here s.0 s.1 below n (s ∷ below) after refl noted in
      subst (λ v. CallGoesOn G X cx call ahead Noted v starts met) (sym here.is)
      (changed_goes_on ahead (Ignore n) s
      (record s.0 { state = here.state }, record s.1 { candidates = slice_set s.1.candidates n [] }) below starts met tt
      (ignoring_seen s here.state (slice_set s.1.candidates n [])
      (record { 0 = length below }) here.candidate here.ignores)
      (λ replies stood. stood) refl
      (λ d. record {
        replies = d.replies;
        provisional = subst (λ (x : EntryState C I R A T). IfSome x.provisional_result (IsDefinite (verdicts X)))
            (sym here.ignores.others) d.provisional;
      }) h)
  noting_goes_on ahead request (s ∷ below) after starts met fits noted h = absurd fits

-- stored results rest on none of them
module _ {X F I R A T : Type 0} (says : Verdicts R) (same : I → I → Bool) (nodes : List (CacheNode I R))
    (results : Store I (StoredResult I R T)) where
  pub noting_keeps_free : (request : Request I R) (mid after : List (OpenGoal X F I R A T))
      → NotesCandidate request mid after → AreFree says same nodes (runs_of mid) results
      → AreFree says same nodes (runs_of after) results
  noting_keeps_free EnterCandidate (s ∷ below) after noted free =
      subst (λ l. AreFree says same nodes (runs_of l) results) (sym noted)
      (all_free_above says same nodes (run_of s) (run_of (enters s)) (runs_of below) results refl refl refl refl free)
  noting_keeps_free FinishCandidate (s ∷ below) after noted free =
      subst (λ l. AreFree says same nodes (runs_of l) results) (sym noted)
      (all_free_above says same nodes (run_of s) (run_of (finishes s)) (runs_of below) results refl refl refl refl free)
  noting_keeps_free (Ignore n) mid after noted free =
      let was : AreFree says same nodes (run_of (noted.entry, noted.run) ∷ runs_of noted.below) results =
      subst (λ l. AreFree says same nodes (runs_of l) results) noted.was free in
      let later : Run X F I R A T = record noted.run { candidates = slice_set noted.run.candidates n [] } in
      subst (λ l. AreFree says same nodes (runs_of l) results) (sym noted.is)
      (all_free_above says same nodes (run_of (noted.entry, noted.run)) (run_of (
        record noted.entry { state = noted.state },
        record noted.run { candidates = slice_set noted.run.candidates n [] },
      )) (runs_of noted.below) results
      refl (ap (λ (x : EntryState X I R A T). x.provisional_result) (sym noted.ignores.others)) refl
      (ap (λ (x : EntryState X I R A T). x.node) (sym noted.ignores.others)) was)
  noting_keeps_free request mid after noted free =
      subst (λ l. AreFree says same nodes (runs_of l) results) (sym noted) free

-- a request that is neither a question nor the result is about candidates
pub about_candidates : {I R : Type 0} (request : Request I R)
    → ((kind : _) (goal : I) → request ≡ Evaluate kind goal → ⊥) → ((r : R) → request ≡ Done r → ⊥)
    → IsReplyTo (λ _ _. ⊥) (Some request) Noted
about_candidates (Evaluate kind goal) asks done = asks kind goal refl
about_candidates (Done r) asks done = done r refl
about_candidates request asks done = tt

-- after one that is not the result the frame is open, still
pub left_same : {I R F : Type 0} (request : Request I R) → ((r : R) → request ≡ Done r → ⊥) → (frames : List F)
    → left_open request frames ≡ frames
left_same (Done r) done frames = absurd (done r refl)
left_same (Evaluate kind goal) done frames = refl
left_same EnterCandidate done frames = refl
left_same FinishCandidate done frames = refl
left_same (Ignore number) done frames = refl
