-- Goals with a rank answer their plain values.
use Rattle.std.proofs.Common.{◌≡◌, ℕ, zero, suc, ◌<◌, ◌≤◌, inl, inr, Bool, true, false, List, [], ◌∷◌, Option, Some}
use Rattle.std.proofs.Common.{None, refl, sym, ◌∙◌, subst, arith, ◌≢◌, ◌||◌}
use Rattle.std.proofs.lemmas.Bool.{false_from_ne_true, or_cases, or_parts}
use Rattle.evaluations.specs.Below.{PathKind, Request, Evaluate, EnterCandidate, FinishCandidate, Ignore, Done, Reply}
use Rattle.evaluations.specs.Below.{Begin, Answer, Noted, request_after, IsReplyTo, AreRepliesTo, IsFitting, IsOrderly}
use Rattle.evaluations.specs.Below.{AsksOnly, IsPlainValue, IsPlainTo, HasNoRank, IsPlain, IsBelowRank, fault_after}
use Rattle.evaluations.specs.Words.{Frame, Outcome, Asks, IsAllowed, IsSafeOutcome, IsSafe, AreSafe, IsOnStack}
use Rattle.evaluations.specs.Words.{LeavesOutcome, AsksAt, HasRoom, HaveRoom, answered, fresh, refused, replied}
use Rattle.evaluations.specs.Words.{run_again, stepped}

-- an answer to a question
answer_fits : {I R : Type 0} (P : I → R → Type 0) (q : Option (Request I R)) (kind : PathKind) (goal : I) (r : R)
    → q ≡ Some (Evaluate kind goal) → P goal r → IsReplyTo P q (Answer r)
answer_fits P q kind goal r e h = subst (λ p. IsReplyTo P p (Answer r)) (sym e) h

-- a reply that is allowed for what may be asked
reply_among : {I R : Type 0} (P Q : I → R → Type 0) (among : I → Type 0)
    → ((goal : I) (r : R) → among goal → P goal r → Q goal r)
    → (q : Option (Request I R)) → ((kind : PathKind) (goal : I) → q ≡ Some (Evaluate kind goal) → among goal)
    → (r : Reply R) → IsReplyTo P q r → IsReplyTo Q q r
reply_among P Q among more None asks Begin h = tt
reply_among P Q among more (Some (Evaluate kind goal)) asks (Answer r) h = more goal r (asks kind goal refl) h
reply_among P Q among more (Some EnterCandidate) asks Noted h = tt
reply_among P Q among more (Some FinishCandidate) asks Noted h = tt
reply_among P Q among more (Some (Ignore n)) asks Noted h = tt
reply_among P Q among more _ asks _ h = absurd h

module _ {I R : Type 0} (scripts : I → List (Reply R) → Request I R) where
  -- what a ranked goal asks has a smaller rank
  asked : (n : ℕ) (goal h : I) (kind : PathKind) (replies : List (Reply R)) → IsPlainTo scripts n goal
      → IsFitting (scripts goal) replies → request_after (scripts goal) replies ≡ Some (Evaluate kind h)
      → (m : ℕ) × (suc m ≡ n) × IsPlainTo scripts m h
  asked zero goal h kind replies p fits is = absurd (p.is_ranked replies kind h fits is)
  asked (suc n) goal h kind replies p fits is = (
    n,
    refl,
    record { is_ranked = p.is_ranked replies kind h fits is; is_orderly = p.is_orderly.1 replies kind h fits is },
  )

  -- so a goal that asks one without a rank has none
  no_rank_up : (goal h : I) (kind : PathKind) (replies : List (Reply R)) → IsFitting (scripts goal) replies
      → request_after (scripts goal) replies ≡ Some (Evaluate kind h) → HasNoRank scripts h → HasNoRank scripts goal
  no_rank_up goal h kind replies fits is none n p = let w = asked n goal h kind replies p fits is in none w.0 w.2

  below_rank_up : (goal h : I) (kind : PathKind) (replies : List (Reply R)) (depth available : ℕ)
      → IsFitting (scripts goal) replies → request_after (scripts goal) replies ≡ Some (Evaluate kind h)
      → available ≡ suc depth → IsBelowRank scripts h depth → IsBelowRank scripts goal available
  below_rank_up goal h kind replies depth available fits is next low n p =
      let w = asked n goal h kind replies p fits is in
      let l : depth < w.0 = low w.0 w.2 in
      let e : suc w.0 ≡ n = w.1 in omega arith

  answered_among : (goal : I) (P Q : I → R → Type 0) (among : I → Type 0) → AsksOnly (λ _ h. among h) (scripts goal)
      → ((h : I) (r : R) → among h → P h r → Q h r) → (replies : List (Reply R)) → IsFitting (scripts goal) replies
      → AreRepliesTo P (scripts goal) replies → AreRepliesTo Q (scripts goal) replies
  answered_among goal P Q among only more [] fits h = tt
  answered_among goal P Q among only more (r ∷ earlier) fits h = (
    reply_among P Q among more (request_after (scripts goal) earlier)
        (λ kind g is. only earlier kind g fits.1 is) r h.0,
    answered_among goal P Q among only more earlier fits.1 h.1,
  )

  -- plain answers lead to the plain value
  plain_result : (goal : I) (replies : List (Reply R)) (r : R) → IsFitting (scripts goal) replies
      → AreRepliesTo (IsPlain scripts) (scripts goal) replies
      → request_after (scripts goal) replies ≡ Some (Done r) → IsPlain scripts goal r
  plain_result goal replies r fits h is zero p = record {
    replies = replies;
    is_answered =
        answered_among goal (IsPlain scripts) (λ _ _. ⊥) (λ _. ⊥) p.is_ranked (λ _ _ none _. none) replies fits h;
    is_done = is;
  }
  plain_result goal replies r fits h is (suc n) p = record {
    replies = replies;
    is_answered = answered_among goal (IsPlain scripts) (IsPlainValue scripts n) (λ g. IsPlainTo scripts n g)
        (λ old kind g f e.
        record { is_ranked = p.is_ranked old kind g f e; is_orderly = p.is_orderly.1 old kind g f e })
        (λ g a q v. v n q) replies fits h;
    is_done = is;
  }

  no_rank_is_plain : (goal : I) (r : R) → HasNoRank scripts goal → IsPlain scripts goal r
  no_rank_is_plain goal r none n p = absurd (none n p)

  no_rank_is_above : (goal : I) (depth : ℕ) → HasNoRank scripts goal → IsBelowRank scripts goal depth
  no_rank_is_above goal depth none n p = absurd (none n p)

  -- Safe frames stay safe when a goal is pushed that the newest asks for.
  pub push_keeps_safe :
      (frames : List (Frame I R)) (goal : I) (depth left : ℕ)
      → AsksAt scripts frames goal depth → AreSafe scripts frames → AreSafe scripts (fresh goal depth left ∷ frames)
  push_keeps_safe frames goal depth left asks safe = (
    record {
      fitting = tt;
      values = λ _. tt;
      overflow = λ e. absurd cc;
      before = λ e. absurd cc;
      cycle = λ e. absurd cc;
      within = omega arith;
    },
    asks,
    safe,
  )

  -- They stay safe when the newest takes a step.
  pub step_keeps_safe :
      (f : Frame I R) (below : List (Frame I R)) (left : ℕ)
      → AreSafe scripts (f ∷ below) → AreSafe scripts (stepped f left ∷ below)
  step_keeps_safe f below left safe = (
    record {
      fitting = safe.0.fitting;
      values = safe.0.values;
      overflow = safe.0.overflow;
      before = safe.0.before;
      cycle = safe.0.cycle;
      within = safe.0.within;
    },
    safe.1,
    safe.2,
  )

  -- They stay safe when the newest gets a reply to a request that is no question.
  pub reply_keeps_safe :
      (f : Frame I R) (below : List (Frame I R)) (reply : Reply R)
      → IsReplyTo (λ _ _. ⊥) (request_after (scripts f.goal) f.replies) reply
      → AreSafe scripts (f ∷ below) → AreSafe scripts (replied f reply ∷ below)
  reply_keeps_safe f below reply fits safe = (
    record {
      fitting = (
        reply_among (λ _ _. ⊥) (λ _ _. Unit {0}) (λ _. Unit {0}) (λ _ _ _ _. tt)
            (request_after (scripts f.goal) f.replies) (λ _ _ _. tt) reply fits,
        safe.0.fitting,
      );
      values = λ e. (
        reply_among (λ _ _. ⊥) (IsPlain scripts) (λ _. Unit {0}) (λ _ _ _ h. absurd h)
            (request_after (scripts f.goal) f.replies) (λ _ _ _. tt) reply fits,
        safe.0.values e,
      );
      overflow = safe.0.overflow;
      before = safe.0.before;
      cycle = safe.0.cycle;
      within = safe.0.within;
    },
    safe.1,
    safe.2,
  )

  answer_overflow : (f : Frame I R) (goal : I) (depth : ℕ) (o : Outcome R) → Asks scripts f goal → IsAllowed f depth
      → IsSafeOutcome scripts goal depth o → IsSafe scripts f → (met : Bool) → f.met_overflow ≡ met
      → (f.met_overflow || o.met_overflow) ≡ true → IsBelowRank scripts f.goal f.available
  answer_overflow f goal depth o asks allowed safe_outcome safe true e h = safe.overflow e
  answer_overflow f goal depth o asks allowed safe_outcome safe false e h =
      elim (or_cases f.met_overflow o.met_overflow h) [
        | inl own ↦ safe.overflow own
        | inr its ↦ below_rank_up f.goal goal asks.0 f.replies depth f.available safe.fitting asks.1
            (allowed.is_next e) (safe_outcome.overflow its)
      ]

  -- They stay safe when its question gets a safe answer.
  pub answer_keeps_safe :
      (f : Frame I R) (below : List (Frame I R)) (goal : I) (depth : ℕ) (o : Outcome R)
      → Asks scripts f goal → IsAllowed f depth → IsSafeOutcome scripts goal depth o
      → AreSafe scripts (f ∷ below) → AreSafe scripts (answered f o ∷ below)
  answer_keeps_safe f below goal depth o asks allowed safe_outcome safe =
      let small : o.required ≤ depth = safe_outcome.within in
      let less : depth < f.available = allowed.is_less in
      let old : f.required ≤ f.available = safe.0.within in (
        record {
          fitting = (
            answer_fits (λ _ _. Unit {0}) (request_after (scripts f.goal) f.replies) asks.0 goal o.result asks.1 tt,
            safe.0.fitting,
          );
          values = λ e. let none = or_parts f.met_overflow o.met_overflow e in (
            answer_fits (IsPlain scripts) (request_after (scripts f.goal) f.replies) asks.0 goal
                o.result asks.1 (safe_outcome.value none.1),
            safe.0.values none.0,
          );
          overflow = λ e. answer_overflow f goal depth o asks allowed safe_outcome safe.0 f.met_overflow refl e;
          before = safe.0.before;
          cycle = λ e. elim (or_cases f.in_cycle o.in_cycle e) [
            | inl own ↦ safe.0.cycle own
            | inr its ↦ no_rank_up f.goal goal asks.0 f.replies safe.0.fitting asks.1 (safe_outcome.cycle its)
          ];
          within = omega arith;
        },
        safe.1,
        safe.2,
      )

  -- They stay safe when its question is refused at depth 0.
  pub refusal_keeps_safe :
      (f : Frame I R) (below : List (Frame I R)) (goal : I) (r : R)
      → Asks scripts f goal → f.available ≡ 0
      → AreSafe scripts (f ∷ below) → AreSafe scripts (refused f r ∷ below)
  refusal_keeps_safe f below goal r asks none safe = (
    record {
      fitting = (
        answer_fits (λ _ _. Unit {0}) (request_after (scripts f.goal) f.replies) asks.0 goal r asks.1 tt,
        safe.0.fitting,
      );
      values = λ e. absurd cc;
      overflow = λ _ n p. let w = asked n f.goal goal asks.0 f.replies p safe.0.fitting asks.1 in
          let e : suc w.0 ≡ n = w.1 in omega arith;
      before = safe.0.before;
      cycle = safe.0.cycle;
      within = safe.0.within;
    },
    safe.1,
    safe.2,
  )

  -- They stay safe when the newest goal is run again.
  pub rerun_keeps_safe :
      (f : Frame I R) (below : List (Frame I R)) (left : ℕ)
      → AreSafe scripts (f ∷ below) → AreSafe scripts (run_again f left ∷ below)
  rerun_keeps_safe f below left safe = (
    record {
      fitting = tt;
      values = λ _. tt;
      overflow = λ e. absurd cc;
      before =
          λ e. elim (or_cases f.met_before f.met_overflow e) [ inl b ↦ safe.0.before b | inr m ↦ safe.0.overflow m ];
      cycle = safe.0.cycle;
      within = safe.0.within;
    },
    safe.1,
    safe.2,
  )

  left_value : (f : Frame I R) (o : Outcome R) → LeavesOutcome scripts f o → IsSafe scripts f
      → f.met_overflow ≡ false → IsPlain scripts f.goal o.result
  left_value f o leaves safe calm = elim leaves.result [
    | inl done ↦ plain_result f.goal f.replies o.result safe.fitting (safe.values calm) done
    | inr cycle ↦ no_rank_is_plain f.goal o.result (safe.cycle cycle)
  ]

  -- What a safe frame leaves is a safe answer.
  pub left_is_safe :
      (f : Frame I R) (o : Outcome R)
      → LeavesOutcome scripts f o → IsSafe scripts f → IsSafeOutcome scripts f.goal f.available o
  left_is_safe f o leaves safe =
      let same : o.required ≡ f.required = leaves.required in
      let small : f.required ≤ f.available = safe.within in
      record {
        value = λ e. left_value f o leaves safe (or_parts f.met_overflow f.met_before (sym leaves.met_overflow ∙ e)).0;
        overflow = λ e. elim (or_cases f.met_overflow f.met_before (sym leaves.met_overflow ∙ e)) [
          | inl m ↦ safe.overflow m
          | inr b ↦ safe.before b
        ];
        cycle = λ e. safe.cycle (leaves.in_cycle e);
        within = omega arith;
      }

  -- They stay safe when it is popped, and what it leaves answers the frame below.
  pub pop_keeps_safe :
      (child f : Frame I R) (below : List (Frame I R)) (o : Outcome R)
      → LeavesOutcome scripts child o → AreSafe scripts (child ∷ f ∷ below) → AreSafe scripts (answered f o ∷ below)
  pop_keeps_safe child f below o leaves safe = answer_keeps_safe f below child.goal child.available o safe.1.0 safe.1.1
      (left_is_safe child o leaves safe.0) safe.2

  -- the rank of the newest frame is at most that of each frame below it
  falls : (goal : I) (f : Frame I R) (below : List (Frame I R)) (n : ℕ) → AreSafe scripts (f ∷ below)
      → IsOnStack scripts goal (f ∷ below) → IsPlainTo scripts n goal → (m : ℕ) × (m ≤ n) × IsPlainTo scripts m f.goal
  falls goal f [] n safe on p = elim on [
    | inl e ↦ (n, omega arith, subst (λ g. IsPlainTo scripts n g) (sym e) p)
    | inr none ↦ absurd none
  ]
  falls goal f (g ∷ below) n safe on p = elim on [
    | inl e ↦ (n, omega arith, subst (λ g. IsPlainTo scripts n g) (sym e) p)
    | inr lower ↦
        let w = falls goal g below n safe.2 lower p in
        let less : w.0 ≤ n = w.1 in
        let v = asked w.0 g.goal f.goal safe.1.0.0 g.replies w.2 safe.2.0.fitting safe.1.0.1 in
        let e : suc v.0 ≡ w.0 = v.1 in (v.0, omega arith, v.2)
  ]

  no_rank_under : (goal : I) (f : Frame I R) (below : List (Frame I R)) → AreSafe scripts (f ∷ below)
      → Asks scripts f goal → IsOnStack scripts goal (f ∷ below) → (bound n : ℕ)
      → n < bound → IsPlainTo scripts n goal → ⊥
  no_rank_under goal f below safe asks on zero n small p = omega arith
  no_rank_under goal f below safe asks on (suc bound) n small p =
      let w = falls goal f below n safe on p in
      let less : w.0 ≤ n = w.1 in
      let v = asked w.0 f.goal goal asks.0 f.replies w.2 safe.0.fitting asks.1 in
      let e : suc v.0 ≡ w.0 = v.1 in no_rank_under goal f below safe asks on bound v.0 (omega arith) v.2

  -- A goal that is found on the stack has no rank.
  pub cycle_has_no_rank :
      (f : Frame I R) (below : List (Frame I R)) (goal : I)
      → AreSafe scripts (f ∷ below) → Asks scripts f goal → IsOnStack scripts goal (f ∷ below) → HasNoRank scripts goal
  cycle_has_no_rank f below goal safe asks on n p = no_rank_under goal f below safe asks on (suc n) n (omega arith) p

  -- For a goal without a rank every outcome is safe: that of a cycle, and that of a provisional entry.
  pub unranked_is_safe :
      (goal : I) (depth : ℕ) (o : Outcome R)
      → HasNoRank scripts goal → o.required ≤ depth → IsSafeOutcome scripts goal depth o
  unranked_is_safe goal depth o none within = record {
    value = λ _. no_rank_is_plain goal o.result none;
    overflow = λ _. no_rank_is_above goal depth none;
    cycle = λ _. none;
    within = within;
  }

  no_overflow : (goal : I) (depth n : ℕ) (met : Bool) → IsPlainTo scripts n goal → n ≤ depth
      → (met ≡ true → IsBelowRank scripts goal depth) → met ≡ false
  no_overflow goal depth n met p fits low = false_from_ne_true met (λ e. let l : depth < n = low e n p in omega arith)

  -- Where the rank fits the depth, a safe answer is the plain value, without overflow and without heads.
  pub fitting_is_plain :
      (goal : I) (depth n : ℕ) (o : Outcome R)
      → IsPlainTo scripts n goal → n ≤ depth → IsSafeOutcome scripts goal depth o
      → IsPlainValue scripts n goal o.result × (o.met_overflow ≡ false) × (o.in_cycle ≡ false)
  fitting_is_plain goal depth n o p fits safe =
      let calm : o.met_overflow ≡ false = no_overflow goal depth n o.met_overflow p fits safe.overflow in
      (safe.value calm n p, calm, false_from_ne_true o.in_cycle (λ e. safe.cycle e n p))

  -- A question of a goal whose rank fits is of a goal with a smaller rank, which fits the depth that it gets.
  pub question_is_smaller :
      (f : Frame I R) (goal : I) (depth n : ℕ)
      → IsSafe scripts f → IsPlainTo scripts n f.goal → n ≤ f.available → Asks scripts f goal → IsAllowed f depth
      → (m : ℕ) × (m < n) × IsPlainTo scripts m goal × (m ≤ depth)
  question_is_smaller f goal depth n safe p fits asks allowed =
      let w = asked n f.goal goal asks.0 f.replies p safe.fitting asks.1 in
      let e : suc w.0 ≡ n = w.1 in
      let next : f.available ≡ suc depth =
      allowed.is_next (no_overflow f.goal f.available n f.met_overflow p fits safe.overflow) in
      (w.0, omega arith, w.2, omega arith)

  -- Frames that have room keep it when a goal is pushed.
  pub push_keeps_room :
      (f : Frame I R) (below : List (Frame I R)) (goal : I) (depth left : ℕ)
      → Asks scripts f goal → IsAllowed f depth → AreSafe scripts (f ∷ below) → HaveRoom scripts (f ∷ below)
      → HaveRoom scripts (fresh goal depth left ∷ f ∷ below)
  push_keeps_room f below goal depth left asks allowed safe room =
      let w = question_is_smaller f goal depth room.0.0 safe.0 room.0.1 room.0.2 asks allowed in
      ((w.0, w.2, w.3), room)

  in_order : (n : ℕ) (goal : I) → IsPlainTo scripts n goal → IsOrderly (scripts goal)
  in_order zero goal p = p.is_orderly
  in_order (suc n) goal p = p.is_orderly.0

  -- A frame that has room never asks at depth 0, meets no overflow and no cycle, and requests nothing out of order.
  pub room_is_enough :
      (f : Frame I R)
      → IsSafe scripts f → HasRoom scripts f
      → ((goal : I) → Asks scripts f goal → f.available ≢ 0)
      × (f.met_overflow ≡ false) × (f.met_before ≡ false) × (f.in_cycle ≡ false)
      × (fault_after (scripts f.goal) f.replies ≡ None)
  room_is_enough f safe room = (
    λ goal asks none. let w = asked room.0 f.goal goal asks.0 f.replies room.1 safe.fitting asks.1 in
        let e : suc w.0 ≡ room.0 = w.1 in let l : room.0 ≤ f.available = room.2 in let z : f.available ≡ 0 = none in
        omega arith,
    no_overflow f.goal f.available room.0 f.met_overflow room.1 room.2 safe.overflow,
    no_overflow f.goal f.available room.0 f.met_before room.1 room.2 safe.before,
    false_from_ne_true f.in_cycle (λ e. safe.cycle e room.0 room.1),
    in_order room.0 f.goal room.1 f.replies safe.fitting,
  )
