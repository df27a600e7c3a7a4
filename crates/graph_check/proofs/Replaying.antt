-- A run is replayed reply by reply, up to one that doesn't fit, a request that is out of order, or the end.
use Rattle.std.proofs.Common.{◌≡◌, ℕ, ◌+◌, ◌≤◌, Bool, true, false, List, [], ◌∷◌, ◌++◌, map, length, reverse, take}
use Rattle.std.proofs.Common.{drop, Some, None, refl, sym, subst, ap, ◌∙◌}
use Rattle.std.proofs.lemmas.List.{take_all}
use Rattle.graph_check.specs.Below.{Node, Request, Done, Reply, question_of, request_after, progress_after, order_fault}
use Rattle.graph_check.specs.Below.{fault_after, Fits, IsFitting, IsInOrder, IsRunOfSort}
use Rattle.graph_check.specs.Words.{Replayed, nothing_replayed, replied, requested, is_answer, is_orderly}
use Rattle.graph_check.specs.Words.{questions_counted, IsReplayOf, IsLegal, Replays}
use Rattle.graph_check.proofs.Elements.{IsAt, taken_last, reversed_around}
use Rattle.graph_check.proofs.RunRecords.{no_fault, some_fault, agrees_replied, counted_are_answered}

-- no request that was made is out of order, nor is the last
last_in_order : {I R : Type 0} (script : List (Reply R) → Request I R) (replies : List (Reply R))
    → IsInOrder script replies → fault_after script replies ≡ None
last_in_order script [] orderly = refl
last_in_order script (r ∷ earlier) orderly = orderly.0

module _ {I R : Type 0} (script : List (Reply R) → Request I R) (reply : Reply R) (earlier : List (Reply R)) where
  fitting_before : (later : List (Reply R)) → IsFitting script (later ++ reply ∷ earlier)
      → Fits (request_after script earlier) reply
  fitting_before [] fitting = fitting.0
  fitting_before (r ∷ later) fitting = fitting_before later fitting.1

  in_order_before : (later : List (Reply R)) → IsInOrder script (later ++ reply ∷ earlier)
      → fault_after script (reply ∷ earlier) ≡ None
  in_order_before [] orderly = orderly.0
  in_order_before (r ∷ later) orderly = in_order_before later orderly.1

-- a run of the sort can be replayed
pub run_is_legal : {I R : Type 0} {test : R → Bool} {script : List (Reply R) → Request I R} {n : Node I R}
    → IsRunOfSort test script n → IsLegal script (reverse n.replies.items)
run_is_legal run = record { is_fitting = run.ends.is_fitting; is_in_order = run.ends.is_in_order }

-- nothing was done yet
pub replays_nothing : {I R : Type 0} (test : R → Bool) (script : List (Reply R) → Request I R)
    → Replays test script nothing_replayed []
replays_nothing test script = record {
  legal = record { is_fitting = tt; is_in_order = tt };
  request_is = refl;
  agrees = record { open_is = refl; finished_are = refl; ignored_are = λ n. refl; asked_are = refl };
}

module _ {I R : Type 0} {test : R → Bool} {script : List (Reply R) → Request I R} {p : Replayed I R}
    {replies : List (Reply R)} {i : ℕ} {reply : Reply R} (at : IsAt replies i reply)
    (h : Replays test script p (reverse (take i replies))) where
  -- a reply that doesn't fit cannot be replayed, whatever follows
  pub stops_unfit : (Fits p.request reply → ⊥) → IsLegal script (reverse replies) → ⊥
  stops_unfit unfit legal =
      let fitting = subst (IsFitting script) (reversed_around replies i reply at) legal.is_fitting in
      unfit (subst (λ request. Fits request reply) (sym h.request_is)
      (fitting_before script reply (reverse (take i replies)) (reverse (drop (i + 1) replies)) fitting))

  module _ (fits : Fits p.request reply) where
    fits_next : Fits (request_after script (reverse (take i replies))) reply
    fits_next = subst (λ request. Fits request reply) h.request_is fits

    -- one that does may be given to the frame
    pub fitting_next : IsFitting script (reply ∷ reverse (take i replies))
    fitting_next = (fits_next, h.legal.is_fitting)

    module _ {q : Replayed I R} {request : Request I R} (is_of_sort : Bool)
        (received : q ≡ replied p p.request is_of_sort) (sort_is : is_of_sort ≡ is_answer test reply)
        (request_is : request ≡ script (reply ∷ reverse (take i replies))) where
      after : q ≡ replied p p.request (is_answer test reply)
      after = received ∙ ap (λ b. replied p p.request b) sort_is

      agrees_next : IsReplayOf test q (progress_after script (reply ∷ reverse (take i replies)))
      agrees_next =
          let before = agrees_replied test p (progress_after script (reverse (take i replies))) h.agrees
          (request_after script (reverse (take i replies))) reply
          (last_in_order script (reverse (take i replies)) h.legal.is_in_order) fits_next in
          subst (λ x. IsReplayOf test x (progress_after script (reply ∷ reverse (take i replies))))
          (ap (λ request. replied p request (is_answer test reply)) (sym h.request_is) ∙ sym after) before

      same_fault : order_fault (progress_after script (reply ∷ reverse (take i replies))) (Some request)
          ≡ fault_after script (reply ∷ reverse (take i replies))
      same_fault = ap (λ r. order_fault (progress_after script (reply ∷ reverse (take i replies))) (Some r)) request_is

      -- a request that follows it out of order ends the replay too,
      pub stops_disorderly : (in_order : Bool) → in_order ≡ is_orderly q request → in_order ≡ false
          → IsLegal script (reverse replies) → ⊥
      stops_disorderly in_order tells other legal =
          let disorderly = sym tells ∙ other in
          let orderly = subst (IsInOrder script) (reversed_around replies i reply at) legal.is_in_order in
          some_fault test q (progress_after script (reply ∷ reverse (take i replies))) agrees_next request disorderly
          (same_fault ∙ in_order_before script reply (reverse (take i replies))
          (reverse (drop (i + 1) replies)) orderly)

      -- and after any other it goes on
      pub replays_more : (in_order : Bool) → in_order ≡ is_orderly q request → in_order ≡ true → (new : Replayed I R)
          → new ≡ requested q request → Replays test script new (reverse (take (i + 1) replies))
      replays_more in_order tells is new noted =
          let orderly = sym tells ∙ is in
          let now = agrees_next in
          let none = no_fault test q (progress_after script (reply ∷ reverse (take i replies))) now request orderly in
          subst (λ record_now. Replays test script record_now (reverse (take (i + 1) replies))) (sym noted)
          (subst (Replays test script (requested q request)) (sym (taken_last replies i reply at))
          (record {
            legal = record { is_fitting = fitting_next; is_in_order = (sym same_fault ∙ none, h.legal.is_in_order) };
            request_is = ap Some request_is;
            agrees = record {
              open_is = now.open_is;
              finished_are = now.finished_are;
              ignored_are = now.ignored_are;
              asked_are = now.asked_are;
            };
          }))

module _ {I R : Type 0} {test : R → Bool} {script : List (Reply R) → Request I R} {p : Replayed I R} (n : Node I R)
    (i : ℕ) (all : length n.replies.items ≤ i) (h : Replays test script p (reverse (take i n.replies.items))) where
  replays_all : Replays test script p (reverse n.replies.items)
  replays_all = subst (λ l. Replays test script p (reverse l)) (take_all i n.replies.items all) h

  -- what was replayed to the end is a run exactly where it is done, and the edges are those that count
  pub is_run_if : test n.result ≡ true → (p.request ≡ Some (Done n.result))
      → (map question_of n.edges.items ≡ questions_counted p) → IsRunOfSort test script n
  is_run_if sort done edges = record {
    ends = record {
      is_fitting = replays_all.legal.is_fitting;
      is_in_order = replays_all.legal.is_in_order;
      is_done = sym replays_all.request_is ∙ done;
    };
    sort = sort;
    edges = edges ∙ counted_are_answered test p (progress_after script (reverse n.replies.items)) replays_all.agrees;
  }

  pub run_is_done : IsRunOfSort test script n → p.request ≡ Some (Done n.result)
  run_is_done run = replays_all.request_is ∙ run.ends.is_done

  pub run_has_edges : IsRunOfSort test script n → map question_of n.edges.items ≡ questions_counted p
  run_has_edges run =
      run.edges ∙ sym (counted_are_answered test p (progress_after script (reverse n.replies.items)) replays_all.agrees)
