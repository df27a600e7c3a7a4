-- What is known stays so where the rules that it rests on do.
use Rattle.std.proofs.Common.{◌≡◌, ◌∙◌, ◌∷◌, ◌++◌, [], Bool, true, false, Contains, IsTrue, List, ap, map}
use Rattle.std.proofs.Common.{refl, subst, sym}
use Rattle.std.specs.Prelude.{◌↔◌}
use Rattle.std.proofs.lemmas.List.Elements.{All-weaker, Contains-append_left, Contains-push}
use Rattle.std.proofs.lemmas.Bool.{false≢true}
use Rattle.list_lemmas.proofs.Members.{Contains-map}
use Rattle.candidate_lists.specs.Candidate.{Proves, Refutes}
use Rattle.rule_tables.specs.Candidate.{Candidate}
use Rattle.rule_tables.specs.declared.rules.Asking.{Asking}
use Rattle.search_context.specs.Question.{Question}
use Rattle.table_runs.proofs.Kept.{shows_on}
use Rattle.table_runs.specs.Right.{SomeGraphShows}
use Rattle.conversations.specs.Answer.{Lending, lent_by}
use Rattle.candidate_lists.specs.Frame.{script_of}
use Rattle.determined.proofs.Kept.{proof_stays, refutation_stays}
use Rattle.conversations.specs.Below.{AreShown, AreSoundFindings, candidates_of, CxOf, Findings, Goal, IsConcerned}
use Rattle.conversations.specs.Below.{KeepsAllOtherCandidates, KeepsCandidates, KeepsOtherCandidates}
use Rattle.conversations.specs.Below.{KeepsOtherNodes, KeepsOtherResults}
use Rattle.conversations.specs.Below.{KeepsOthers, KeepsRule, NodeId, Outcome, question_of, scripts_of, Table}
use Rattle.conversations.specs.Below.{verdicts}
use Rattle.conversations.specs.Known.{IsKnown, IsKnownSince}
use Rattle.open_tables.specs.Table.{asker, Asks, IsAskedBy, itself}
use Rattle.global_cache.proofs.Changed.{AreSoundFindings-changed}

-- ---- goals that are gone

-- no goal that stays asks one that is gone
abbrev pub AskStaying : Table → (Goal → Bool) → Type 0
AskStaying table is_gone =
    (goal asked : Goal) → is_gone goal ≡ false → Asks table goal asked → is_gone asked ≡ false

module _ (table : Table) (changed : List Goal) (is_gone : Goal → Bool)
    (exact : (goal : Goal) → IsTrue (is_gone goal) ↔ IsConcerned table changed goal) where
  not_gone : (goal : Goal) (gone : Bool) → is_gone goal ≡ gone → (IsConcerned table changed goal → ⊥) → gone ≡ false
  not_gone goal true is other = absurd (other ((exact goal).0 is))
  not_gone goal false is other = refl

  pub others_ask_others : AskStaying table is_gone
  others_ask_others goal asked stays asks = not_gone asked (is_gone asked) refl
      (λ concerned. false≢true (sym stays ∙ (exact goal).1 (asker goal asked asks concerned)))

  pub others_are_others : (goal : Goal) → is_gone goal ≡ false → Contains changed goal → ⊥
  others_are_others goal stays has = false≢true (sym stays ∙ (exact goal).1 (itself goal has))

  -- nor did one before these changed
  pub others_asked_others : (before : Table) → KeepsAllOtherCandidates changed before table → AskStaying before is_gone
  others_asked_others before same_others goal asked stays asks = others_ask_others goal asked stays
      (subst (λ cs. IsAskedBy cs asked) (sym (same_others goal (others_are_others goal stays))) asks)

-- ---- their rules

module _ (cs : List Candidate) (is_gone : Goal → Bool)
    (asked_stay : (candidate : Candidate) (asking : Asking) → Contains cs candidate
    → Contains candidate.questions asking → is_gone asking.goal ≡ false)
    (questions kept : List (Question Goal))
    (left : (q : Question Goal) → Contains questions q → is_gone q.goal ≡ false → Contains kept q) where
  question_stays : (candidate : Candidate) → Contains cs candidate → (q : Question Goal)
      → Contains (map question_of candidate.questions) q → is_gone q.goal ≡ false
  question_stays candidate is q has =
      let w = Contains-map question_of candidate.questions q has in
      subst (λ (p : Question Goal). is_gone p.goal ≡ false) w.2 (asked_stay candidate w.0 is w.1)

  proves_by_kept : Proves question_of cs questions → Proves question_of cs kept
  proves_by_kept p = record {
    candidate = p.candidate;
    is_candidate = p.is_candidate;
    within = λ q has. left q (p.within q has) (question_stays p.candidate p.is_candidate q has);
  }

  refutes_by_kept : Refutes question_of cs questions → Refutes question_of cs kept
  refutes_by_kept r candidate is =
      let o = r candidate is in (o.0, o.1, left o.0 o.2 (question_stays candidate is o.0 o.1))

module _ (old new : Table) (is_gone : Goal → Bool)
    (same : (goal : Goal) → is_gone goal ≡ false → candidates_of new goal ≡ candidates_of old goal)
    (staying : AskStaying old is_gone) where
  asked_stay : (goal : Goal) → is_gone goal ≡ false → (candidate : Candidate) (asking : Asking)
      → Contains (candidates_of old goal) candidate → Contains candidate.questions asking → is_gone asking.goal ≡ false
  asked_stay goal stays candidate asking is has = staying goal asking.goal stays (record {
    candidate = candidate;
    is_candidate = is;
    asking = asking;
    is_asking = has;
    same = refl;
  })

  -- by two tables that are these
  module _ (before after : Table) (was : before ≡ old) (is : after ≡ new) where
    pub keeps_proves : KeepsRule is_gone (λ goal. Proves question_of (candidates_of before goal))
        (λ goal. Proves question_of (candidates_of after goal))
    keeps_proves goal questions kept stays left p =
        subst (λ (table : Table). Proves question_of (candidates_of table goal) kept) (sym is)
        (subst (λ cs. Proves question_of cs kept) (sym (same goal stays))
        (proves_by_kept (candidates_of old goal) is_gone (asked_stay goal stays) questions kept left
        (subst (λ (table : Table). Proves question_of (candidates_of table goal) questions) was p)))

    pub keeps_refutes : KeepsRule is_gone (λ goal. Refutes question_of (candidates_of before goal))
        (λ goal. Refutes question_of (candidates_of after goal))
    keeps_refutes goal questions kept stays left r =
        subst (λ (table : Table). Refutes question_of (candidates_of table goal) kept) (sym is)
        (subst (λ cs. Refutes question_of cs kept) (sym (same goal stays))
        (refutes_by_kept (candidates_of old goal) is_gone (asked_stay goal stays) questions kept left
        (subst (λ (table : Table). Refutes question_of (candidates_of table goal) questions) was r)))

-- ---- what is known

-- the table, lent from anywhere
abbrev pub lending : Table → Lending
lending table = record { 0 = record { 0 = record { lender = record { ref_ptr = (0, 0); now = table } } } }

-- no goal is gone
abbrev pub none_gone : Goal → Bool
none_gone goal = false

pub none_ask : (table : Table) → AskStaying table none_gone
none_ask table goal asked stays asks = refl

module _ {A T : Type 0} (X : CxOf Lending Goal Outcome A T) (same : Goal → Goal → Bool) where
  -- what was shown is shown by other rules that all goals keep
  pub shown_on : (before after : Lending) → KeepsRule none_gone (X.proves before) (X.proves after)
      → KeepsRule none_gone (X.refutes before) (X.refutes after) → (shown : List (Goal × (Outcome × NodeId)))
      → AreShown X before shown → AreShown X after shown
  shown_on before after proves refutes shown =
      All-weaker (λ key. SomeGraphShows X before key.0 key.1.0) (λ key. SomeGraphShows X after key.0 key.1.0)
      (λ key. shows_on X before after key.0 key.1.0
      (proof_stays none_gone (X.proves before) (X.proves after) proves key.0 refl)
      (refutation_stays none_gone (X.refutes before) (X.refutes after) refutes key.0 refl)) shown

  -- the context says of goals what the table says that it lends
  module _ (by_proves : (is_gone : Goal → Bool) (before after : Lending)
      → KeepsRule is_gone (λ goal. Proves question_of (candidates_of (lent_by before) goal))
      (λ goal. Proves question_of (candidates_of (lent_by after) goal))
      → KeepsRule is_gone (X.proves before) (X.proves after))
      (by_refutes : (is_gone : Goal → Bool) (before after : Lending)
      → KeepsRule is_gone (λ goal. Refutes question_of (candidates_of (lent_by before) goal))
      (λ goal. Refutes question_of (candidates_of (lent_by after) goal))
      → KeepsRule is_gone (X.refutes before) (X.refutes after)) where
    -- what was shown by one context is shown by another that lends the same candidates
    pub shown_by_both : (before after : Lending) → KeepsCandidates (lent_by before) (lent_by after)
        → (shown : List (Goal × (Outcome × NodeId))) → AreShown X before shown → AreShown X after shown
    shown_by_both before after keeps shown =
        let old = lent_by before in
        let new = lent_by after in
        shown_on before after
        (by_proves none_gone before after
        (keeps_proves old new none_gone (λ goal stays. keeps goal) (none_ask old) old new refl refl))
        (by_refutes none_gone before after
        (keeps_refutes old new none_gone (λ goal stays. keeps goal) (none_ask old) old new refl refl)) shown

    -- what is known stays where each goal has the candidates that it had
    pub known_stays : (old new : Table) (found : Findings Goal Outcome T) (shown : List (Goal × (Outcome × NodeId)))
        → KeepsCandidates old new → IsKnown X same old found shown → IsKnown X same new found shown
    known_stays old new found shown keeps known = record {
      sound = AreSoundFindings-changed same (verdicts X) (scripts_of old) (scripts_of new) none_gone found found
          (record {
            same = λ goal stays replies.
                ap (λ (cs : List Candidate). script_of question_of cs replies) (sym (keeps goal));
            stays = λ goal stays replies kind asked fits asks. refl;
          })
          (record { as_many = refl; kept = λ at n is stays. is; gone = λ at n is gone. absurd (false≢true gone) })
          (λ goal place. refl) known.sound;
      are_shown = λ cx is. shown_by_both (lending old) cx
          (subst (λ (table : Table). KeepsCandidates old table) (sym is) keeps) shown
          (known.are_shown (lending old) refl);
    }

    -- and without what is gone, where those of some goals changed
    pub known_changes : (old new : Table) (changed : List Goal) (is_gone : Goal → Bool)
        (found left : Findings Goal Outcome T) (shown others : List (Goal × (Outcome × NodeId)))
        → IsKnown X same old found shown → KeepsAllOtherCandidates changed old new
        → ((goal : Goal) → IsTrue (is_gone goal) ↔ IsConcerned new changed goal)
        → KeepsOthers is_gone (scripts_of old) (scripts_of new)
        → KeepsOtherNodes is_gone found.nodes left.nodes → KeepsOtherResults same is_gone found.results left.results
        → ((before after : Lending) → KeepsRule is_gone (X.proves before) (X.proves after)
        → KeepsRule is_gone (X.refutes before) (X.refutes after) → AreShown X before shown → AreShown X after others)
        → IsKnown X same new left others
    known_changes old new changed is_gone found left shown others known same_others exact kept nodes results stay =
        let same_kept = λ (goal : Goal) (stays : is_gone goal ≡ false). same_others goal
        (others_are_others new changed is_gone exact goal stays) in
        let staying = others_asked_others new changed is_gone exact old same_others in
        record {
          sound = AreSoundFindings-changed same (verdicts X) (scripts_of old) (scripts_of new) is_gone found left kept
              nodes results known.sound;
          are_shown = λ cx is. stay (lending old) cx
              (by_proves is_gone (lending old) cx
              (keeps_proves old new is_gone same_kept staying old (lent_by cx) refl is))
              (by_refutes is_gone (lending old) cx
              (keeps_refutes old new is_gone same_kept staying old (lent_by cx) refl is))
              (known.are_shown (lending old) refl);
        }

    -- and over what was found out since, by two contexts that lend the table
    pub known_after : (table : Table) (cx other : Lending) (before found : Findings Goal Outcome T)
        (shown more : List (Goal × (Outcome × NodeId))) → IsKnown X same table before shown
        → lent_by cx ≡ table → lent_by other ≡ table
        → AreSoundFindings same (verdicts X) (scripts_of (lent_by other)) found
        → (AreShown X cx shown → AreShown X cx more) → IsKnown X same table found more
    known_after table cx other before found shown more known lent lent_by_other sound shows = record {
      sound = subst (λ (t : Table). AreSoundFindings same (verdicts X) (scripts_of t) found) lent_by_other sound;
      are_shown = λ to is. shown_by_both cx to (λ goal. ap (λ (t : Table). candidates_of t goal) (is ∙ sym lent)) more
          (shows (known.are_shown cx lent));
    }

-- ---- what was known before goals changed

module _ {A T : Type 0} (X : CxOf Lending Goal Outcome A T) (same : Goal → Goal → Bool) where
  -- what is known now
  pub since_now : (changed : List Goal) (table : Table) (found : Findings Goal Outcome T)
      (shown : List (Goal × (Outcome × NodeId))) → IsKnown X same table found shown
      → IsKnownSince X same changed table found shown
  since_now changed table found shown known = record { before = table; keeps = λ goal other. refl; known = known }

  -- no goal changed
  pub since_stays : (changed more : List Goal) (old new : Table) (found : Findings Goal Outcome T)
      (shown : List (Goal × (Outcome × NodeId))) → more ≡ changed → KeepsCandidates old new
      → IsKnownSince X same changed old found shown → IsKnownSince X same more new found shown
  since_stays changed more old new found shown is keeps since = record {
    before = since.before;
    keeps = λ goal other. keeps goal ∙ since.keeps goal (λ has. other (subst (λ l. Contains l goal) (sym is) has));
    known = since.known;
  }

  -- one more did
  pub since_one : (changed more : List Goal) (one : Goal) (old new : Table) (found : Findings Goal Outcome T)
      (shown : List (Goal × (Outcome × NodeId))) → more ≡ changed ++ one ∷ [] → KeepsOtherCandidates one old new
      → IsKnownSince X same changed old found shown → IsKnownSince X same more new found shown
  since_one changed more one old new found shown is keeps since = record {
    before = since.before;
    keeps = λ goal other. keeps goal (λ same_goal. other (subst (λ l. Contains l goal) (sym is)
        (subst (Contains (changed ++ one ∷ [])) (sym same_goal) (Contains-push changed one))))
        ∙ since.keeps goal (λ has. other (subst (λ l. Contains l goal) (sym is)
        (Contains-append_left changed (one ∷ []) goal has)));
    known = since.known;
  }
