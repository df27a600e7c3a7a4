-- The record of a run agrees with the run after each reply and request.
use Rattle.std.proofs.Common.{◌≡◌, ℕ, ◌+◌, ◌<◌, IsSome, ◌==◌, Bool, true, false, ◌||◌, cond, if◌then◌else◌, nat_lt}
use Rattle.std.proofs.Common.{List, [], ◌∷◌, ◌++◌, map, length, ◌⊎◌, Option, Some, None, inl, inr, refl, sym, subst, ap}
use Rattle.std.proofs.Common.{ap₂, ◌∙◌, arith}
use Rattle.std.specs.List.{filter}
use Rattle.std.proofs.lemmas.List.{append-nil, reverse-append, length-append, length-set}
use Rattle.std.proofs.lemmas.Bool.Decides.{nat_tests}
use Rattle.run_records.specs.Below.{Request, Evaluate, EnterCandidate, FinishCandidate, Ignore, Reply, Begin, Answer}
use Rattle.run_records.specs.Below.{Noted, Verdict, Yes, No, Neither, NodeId, PathKind, Progress, Asked, request_after}
use Rattle.run_records.specs.Below.{progress_after, progress_with, order_fault, fault_after, IsInOrder, is_ignored}
use Rattle.run_records.specs.Below.{open_candidate, Fits, Verdicts}
use Rattle.run_records.specs.Words.{RunRecord, no_record, is_same_verdict, asked_of, asked_in, asked_with, open_number}
use Rattle.run_records.specs.Words.{edge_to, answers_with, answers_after, KeepsAnswer, received, requested, answered}
use Rattle.run_records.specs.Words.{fault_of, Agrees, Records, IsSortedAs, IsReplySorted}
use Rattle.search_context.proofs.Filtered.{filtered_more, ignored_after_finish, ignored_after_ignore}
use Rattle.run_records.proofs.Verdicts.{told_by_test}

none_is_no_node : IsSome {T = NodeId} None → ⊥
none_is_no_node is = cc

finished_unless : (m finished a b : ℕ) (ignored : Bool)
    → (if nat_lt m finished then (if ignored then Some a else None) else Some b) ≡ None → m < finished
finished_unless m finished a b ignored orderly = grind (arith, nat_tests)

module _ {I R : Type 0} (test : R → Bool) (w : Verdict) (p : RunRecord I R) (done : Progress I R)
    (same : asked_with w p ≡ map asked_in (filter (λ a. test a.answer) done.asked))
    (kind : PathKind) (goal : I) (r : R) where
  -- the question with this result
  abbrev latest : Asked I R
  latest = record { question = record { kind = kind; goal = goal }; answer = r; candidate = open_candidate done }

  -- an answer has the verdict exactly where its result passes the test,
  same_after_answer : (v : Verdict) (node : NodeId) → is_same_verdict v w ≡ test r → open_number p ≡ open_candidate done
      → asked_with w (record p { answers = answers_with p (edge_to kind goal node) v })
      ≡ map asked_in (filter (λ a. test a.answer) (done.asked ++ latest ∷ []))
  same_after_answer v node sorted number =
      filtered_more asked_of (λ d. is_same_verdict d.verdict w) p.answers
      (record { edge = edge_to kind goal node; verdict = v; candidate = open_number p }) (test r) sorted
      ∙ ap₂ (λ ys c. ys ++ cond (test r) ((record { kind = kind; goal = goal }, c) ∷ []) []) same number
      ∙ sym (filtered_more asked_in (λ (a : Asked I R). test a.answer) done.asked latest (test r) refl)

  -- and a result that fails the test leaves the answers as they were
  same_after_other : test r ≡ false
      → asked_with w p ≡ map asked_in (filter (λ a. test a.answer) (done.asked ++ latest ∷ []))
  same_after_other fails = same ∙ sym (append-nil _)
      ∙ sym (filtered_more asked_in (λ (a : Asked I R). test a.answer) done.asked latest false fails)

-- no request that was made is out of order, nor is the last
last_in_order : {I R : Type 0} (script : List (Reply R) → Request I R) (replies : List (Reply R))
    → IsInOrder script replies → fault_after script replies ≡ None
last_in_order script [] orderly = refl
last_in_order script (r ∷ earlier) orderly = orderly.0

module _ {I R : Type 0} (says : Verdicts R) where
  -- nothing was done yet
  pub records_new : (script : List (Reply R) → Request I R) → Records says script no_record []
  records_new script = record {
    replies_are = refl;
    request_is = refl;
    in_order = tt;
    agrees = record { open_is = refl; finished_are = refl; ignored_are = λ n. refl; yes = refl; no = refl };
  }

  module _ (p : RunRecord I R) (done : Progress I R) (h : Agrees says p done) where
    -- the record and the run tell the same faults
    pub fault_agrees : (request : Request I R) → fault_of p request ≡ order_fault done (Some request)
    fault_agrees EnterCandidate = ap (λ b. if b then Some 1 else None) h.open_is
    fault_agrees FinishCandidate = ap (λ b. if b then None else Some 2) h.open_is
    fault_agrees (Ignore n) =
        ap₂ (λ m b. if nat_lt n m then (if b then Some 4 else None) else Some 3) h.finished_are (sym (h.ignored_are n))
    fault_agrees request = refl

    same_number : open_number p ≡ open_candidate done
    same_number = ap₂ (λ b n. if b then Some n else None) h.open_is h.finished_are

    -- a candidate that may be ignored is finished
    finished_within : (m : ℕ) → order_fault done (Some (Ignore m)) ≡ None → m < length p.ignored
    finished_within m orderly =
        rw h.finished_are (finished_unless m done.finished 4 3 (is_ignored done.ignored m) orderly)

    agrees_counted : (kind : PathKind) (goal : I) (r : R) (v : Verdict) (node : NodeId) (target : Option NodeId)
        → IsSortedAs says r v target → Agrees says (record p { answers = answers_with p (edge_to kind goal node) v })
        (progress_with done (Some (Evaluate kind goal)) (Answer r))
    agrees_counted kind goal r v node target s = record {
      open_is = h.open_is;
      finished_are = h.finished_are;
      ignored_are = h.ignored_are;
      yes = same_after_answer says.is_yes Yes p done h.yes kind goal r v node
          (told_by_test v Yes (says.is_yes r) s.yes) same_number;
      no = same_after_answer says.is_no No p done h.no kind goal r v node
          (told_by_test v No (says.is_no r) s.no) same_number;
    }

    -- the record agrees with the run after each answer,
    agrees_answered : (kind : PathKind) (goal : I) (r : R) (v : Verdict) (target : Option NodeId)
        → IsSortedAs says r v target → Agrees says (answered p (Some (Evaluate kind goal)) v target)
        (progress_with done (Some (Evaluate kind goal)) (Answer r))
    agrees_answered kind goal r Yes (Some node) s = agrees_counted kind goal r Yes node (Some node) s
    agrees_answered kind goal r No (Some node) s = agrees_counted kind goal r No node (Some node) s
    agrees_answered kind goal r Yes None s = absurd (none_is_no_node (s.yes_node (s.yes.0 refl)))
    agrees_answered kind goal r No None s = absurd (none_is_no_node (s.no_node (s.no.0 refl)))
    agrees_answered kind goal r Neither target s = record {
      open_is = h.open_is;
      finished_are = h.finished_are;
      ignored_are = h.ignored_are;
      yes = same_after_other says.is_yes Yes p done h.yes kind goal r
          (sym (told_by_test Neither Yes (says.is_yes r) s.yes));
      no = same_after_other says.is_no No p done h.no kind goal r (sym (told_by_test Neither No (says.is_no r) s.no));
    }

    -- and after each reply to a request that isn't out of order
    agrees_replied : (request : Option (Request I R)) (reply : Reply R) (v : Verdict) (target : Option NodeId)
        → order_fault done request ≡ None → Fits request reply → IsReplySorted says reply v target
        → Agrees says (answered p request v target) (progress_with done request reply)
    agrees_replied None Begin v target orderly fits sorted = h
    agrees_replied (Some (Evaluate kind goal)) (Answer r) v target orderly fits sorted =
        agrees_answered kind goal r v target sorted
    agrees_replied (Some EnterCandidate) Noted v target orderly fits sorted =
        record { open_is = refl; finished_are = h.finished_are; ignored_are = h.ignored_are; yes = h.yes; no = h.no }
    agrees_replied (Some FinishCandidate) Noted v target orderly fits sorted = record {
      open_is = refl;
      finished_are = length-append p.ignored (false ∷ []) ∙ ap (λ n. n + 1) h.finished_are;
      ignored_are = λ n. h.ignored_are n ∙ sym (ignored_after_finish p.ignored n);
      yes = h.yes;
      no = h.no;
    }
    agrees_replied (Some (Ignore m)) Noted v target orderly fits sorted = record {
      open_is = h.open_is;
      finished_are = length-set p.ignored m true ∙ h.finished_are;
      ignored_are = λ n. ap (λ b. m == n || b) (h.ignored_are n)
          ∙ sym (ignored_after_ignore p.ignored m n (finished_within m orderly));
      yes = h.yes;
      no = h.no;
    }
    agrees_replied request reply v target orderly fits sorted = absurd fits

  module _ (script : List (Reply R) → Request I R) (p : RunRecord I R) (earlier : List (Reply R)) (reply : Reply R)
      (v : Verdict) (target : Option NodeId) (h : Records says script p earlier)
      (fits : Fits (request_after script earlier) reply) (sorted : IsReplySorted says reply v target) where
    agrees_received : Agrees says (received p reply v target) (progress_after script (reply ∷ earlier))
    agrees_received =
        let before = agrees_replied p (progress_after script earlier) h.agrees (request_after script earlier) reply v
        target (last_in_order script earlier h.in_order) fits sorted in
        let after =
        subst (λ request. Agrees says (answered p request v target) (progress_after script (reply ∷ earlier)))
        (sym h.request_is) before in
        record {
          open_is = after.open_is;
          finished_are = after.finished_are;
          ignored_are = after.ignored_are;
          yes = after.yes;
          no = after.no;
        }

    -- the record with the reply tells the fault of the request that follows,
    pub fault_is : (request : Request I R) → request ≡ script (reply ∷ earlier)
        → fault_of (received p reply v target) request ≡ fault_after script (reply ∷ earlier)
    fault_is request is =
        fault_agrees (received p reply v target) (progress_after script (reply ∷ earlier)) agrees_received request
        ∙ ap (λ q. order_fault (progress_after script (reply ∷ earlier)) (Some q)) is

    -- and where there is none, the request may be noted
    pub records_received : (request : Request I R) → request ≡ script (reply ∷ earlier)
        → order_fault (progress_after script (reply ∷ earlier)) (Some request) ≡ None
        → Records says script (requested (received p reply v target) request) (reply ∷ earlier)
    records_received request is orderly =
        let now = agrees_received in
        record {
          replies_are = reverse-append p.replies (reply ∷ []) ∙ ap (λ l. reply ∷ l) h.replies_are;
          request_is = ap Some is;
          in_order =
              (sym (ap (λ q. order_fault (progress_after script (reply ∷ earlier)) (Some q)) is) ∙ orderly, h.in_order);
          agrees = record {
            open_is = now.open_is;
            finished_are = now.finished_are;
            ignored_are = now.ignored_are;
            yes = now.yes;
            no = now.no;
          };
        }

module _ {I R : Type 0} (p : RunRecord I R) (v : Verdict) where
  answers_after_question : (kind : PathKind) (input : I) (w : Verdict) (target : Option NodeId)
      → p.request ≡ Some (Evaluate kind input)
      → (answers_after p kind input w target ≡ p.answers) ⊎ KeepsAnswer p w target (answers_after p kind input w target)
  answers_after_question kind input Yes (Some node) is =
      inr (record { kind = kind; input = input; node = node; was = is; target_is = refl; kept = refl })
  answers_after_question kind input No (Some node) is =
      inr (record { kind = kind; input = input; node = node; was = is; target_is = refl; kept = refl })
  answers_after_question kind input w target is = inl refl

  answers_after_request : (target : Option NodeId) (request : Option (Request I R)) → p.request ≡ request
      → ((answered p request v target).answers ≡ p.answers)
      ⊎ KeepsAnswer p v target (answered p request v target).answers
  answers_after_request target (Some (Evaluate kind input)) is = answers_after_question kind input v target is
  answers_after_request target request is = inl refl

  -- a reply adds at most the answer to the last request
  pub answers_received : (reply : Reply R) (target : Option NodeId)
      → ((received p reply v target).answers ≡ p.answers) ⊎ KeepsAnswer p v target (received p reply v target).answers
  answers_received reply target = answers_after_request target p.request refl
