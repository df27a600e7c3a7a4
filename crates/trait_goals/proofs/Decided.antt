-- Where all goals are decided, their scripts are decisive, and no question leads out of them.
use Rattle.std.proofs.Common.{◌≡◌, ◌<◌, ℕ, List, [], ◌∷◌, length, map, Contains, Option, None, Some, refl, sym, ap}
use Rattle.std.proofs.Common.{subst, arith}
use Rattle.std.specs.Prelude.{slice_get, is_some, false}
use Rattle.std.proofs.lemmas.Option.{slice_get_within}
use Rattle.list_lemmas.proofs.Members.{Contains-map, Contains-mapped}
use Rattle.path_kinds.specs.declared.path.PathKind.{PathKind}
use Rattle.search_context.specs.Decisive.{IsDecidedKind, IsDecisive}
use Rattle.search_context.specs.Question.{Question}
use Rattle.search_context.specs.Run.{IsOrderly, request_after}
use Rattle.search_context.specs.declared.context.Reply.{Reply}
use Rattle.search_context.specs.declared.context.Request.{Request}
use Rattle.search_context.specs.declared.context.Request.TheVariants.{Evaluate}
use Rattle.delegate_parts.specs.Outcome.{outcome_verdicts}
use Rattle.delegate_parts.specs.declared.outcome.Outcome.{Outcome}
use Rattle.candidate_lists.specs.Candidate as lists
use Rattle.candidate_lists.specs.Frame.{script_of}
use Rattle.candidate_lists.proofs.Decided.{AreUnmarked, asked_of, decisive, orderly}
use Rattle.trait_rules.proofs.Standing.{has_term}
use Rattle.trait_goals.specs.Decided.{AreAllDecided, AsksGoal}
use Rattle.trait_goals.specs.Known.{AreRight, Table, candidates_at, kind_at}
use Rattle.trait_goals.specs.Rule.{asks, candidate_by, candidates_by, candidates_of, unknown_by}
use Rattle.trait_goals.specs.declared.asked.Asked.{Asked}
use Rattle.trait_goals.specs.declared.asked.Candidate.{Candidate}
use Rattle.trait_goals.specs.declared.asked.Candidates.{Candidates}
use Rattle.trait_goals.proofs.Queries.{known_in}

-- no candidate is marked
unmarked_map : (kind : PathKind) (all : List Candidate) →
    AreUnmarked (λ (a : Question ℕ). a) (map (candidate_by kind) all)
unmarked_map kind [] = tt
unmarked_map kind (c ∷ all) = (refl, unmarked_map kind all)

unmarked_unknown : (goal : ℕ) (asked : Option Asked) → AreUnmarked (λ (a : Question ℕ). a) (unknown_by goal asked)
unmarked_unknown goal None = tt
unmarked_unknown goal (Some asked) = (refl, tt)

unmarked_by : (kind : PathKind) (goal : ℕ) (asked : Option Asked) (o : Option Candidates) →
    AreUnmarked (λ (a : Question ℕ). a) (candidates_by kind goal asked o)
unmarked_by kind goal asked None = unmarked_unknown goal asked
unmarked_by kind goal asked (Some known) = unmarked_map kind known.all.items

module _ (table : Table) where
  -- the scripts of all goals
  abbrev pub scripts : ℕ → List (Reply Outcome) → Request ℕ Outcome
  scripts goal = script_of (λ asked. asked) (candidates_of table goal)

  -- no request is out of order
  pub goals_are_orderly : (goal : ℕ) → IsOrderly (scripts goal)
  goals_are_orderly goal = orderly (λ asked. asked) (candidates_of table goal)
      (unmarked_by (kind_at table goal) goal (slice_get table.asked goal) (candidates_at table goal))

  module _ (right : AreRight table) where
    -- what is known is a goal
    pub known_within : (goal : ℕ) (known : Candidates) → candidates_at table goal ≡ Some known →
        goal < length table.asked
    known_within goal known e =
        let w = right.each goal known (known_in (slice_get table.known goal) known e) in
        slice_get_within table.asked goal w.0 w.1

    -- what a goal asks is a goal
    pub asked_within : (goal other : ℕ) → AsksGoal table goal other → other < length table.asked
    asked_within goal other a =
        let at = known_in (slice_get table.known goal) a.known a.is_known in
        let e = right.each goal a.known at in
        let t = has_term table.made right.first e.0.subject (right.inside goal e.0 e.1) in
        let covers = right.right goal e.0 a.known e.1 at t.0 t.1 in
        let by = covers.each a.candidate.questions.items
        (Contains-mapped (λ c. c.questions.items) a.known.all.items a.candidate a.is_candidate) in
        let o = by.is_candidate.only other a.is_question in
        slice_get_within table.asked other o.is_asked.entry o.is_asked.at

    module _ (all : AreAllDecided table) where
      -- the goal asks the other one, by its own kind
      pub record IsOwn (goal : ℕ) (kind : PathKind) (other : ℕ) : Type 0 where
        pub asks_it : AsksGoal table goal other
        pub same_kind : kind ≡ kind_at table goal

      none_unknown : (goal : ℕ) (asked : Option Asked) → slice_get table.asked goal ≡ asked →
          candidates_at table goal ≡ None → (c : lists.Candidate (Question ℕ)) → Contains (unknown_by goal asked) c → ⊥
      none_unknown goal None at e c has = omega (arith, has.1)
      none_unknown goal (Some entry) at e c has =
          let known = all.known goal (slice_get_within table.asked goal entry at) in
          let none : is_some (candidates_at table goal) ≡ false = ap (λ (o : Option Candidates). is_some o) e in cc

      own_by : (goal : ℕ) (o : Option Candidates) → candidates_at table goal ≡ o →
          (c : lists.Candidate (Question ℕ)) (a : Question ℕ) →
          Contains (candidates_by (kind_at table goal) goal (slice_get table.asked goal) o) c → Contains c.questions a →
          IsOwn goal a.kind a.goal
      own_by goal None e c a has asked =
          absurd (none_unknown goal (slice_get table.asked goal) refl e c has)
      own_by goal (Some known) e c a has asked =
          let kind = kind_at table goal in
          let m = Contains-map (candidate_by kind) known.all.items c has in
          let q = Contains-map (asks kind) m.0.questions.items a
          (subst (λ (x : lists.Candidate (Question ℕ)). Contains x.questions a) (sym m.2) asked) in
          record {
            asks_it = record {
              known = known;
              is_known = e;
              candidate = m.0;
              is_candidate = m.1;
              is_question = subst (Contains m.0.questions.items) (ap (λ x. x.goal) q.2) q.1;
            };
            same_kind = sym (ap (λ x. x.kind) q.2);
          }

      own : (goal : ℕ) (c : lists.Candidate (Question ℕ)) (a : Question ℕ) → Contains (candidates_of table goal) c →
          Contains c.questions a → IsOwn goal a.kind a.goal
      own goal c a has asked = own_by goal (candidates_at table goal) refl c a has asked

      -- a script asks what its goal asks
      pub asked_own : (goal : ℕ) (replies : List (Reply Outcome)) (kind : PathKind) (other : ℕ) →
          request_after (scripts goal) replies ≡ Some (Evaluate kind other) → IsOwn goal kind other
      asked_own goal replies kind other e =
          let a = asked_of (λ asked. asked) (candidates_of table goal) replies kind other e in
          subst (λ (x : Question ℕ). IsOwn goal x.kind x.goal) a.same
          (own goal a.candidate a.question a.is_candidate a.is_question)

      decided_by : (goal : ℕ) (kind : PathKind) (other : ℕ) → IsOwn goal kind other → IsDecidedKind kind
      decided_by goal kind other o = subst IsDecidedKind (sym o.same_kind)
          (all.decided goal (known_within goal o.asks_it.known o.asks_it.is_known))

      -- so each goal is decided where no limit is met
      pub goals_are_decisive : IsDecisive outcome_verdicts scripts
      goals_are_decisive = decisive (λ asked. asked) (candidates_of table)
          (λ goal c a has asked. decided_by goal a.kind a.goal (own goal c a has asked))
