-- Frames that met no overflow have full depths, and those of an enclosed evaluation are never without depth.
use Rattle.std.proofs.Common.{◌≡◌, ℕ, zero, suc, ◌+◌, ◌<◌, ◌≤◌, inl, inr, false, List, [], ◌∷◌, length, Contains}
use Rattle.std.proofs.Common.{get_or, refl, sym, ◌∙◌, ap, subst, arith, ◌||◌}
use Rattle.std.proofs.lemmas.Bool.{or_from}
use Rattle.std.proofs.lemmas.List.{get_or_default}
use Rattle.search_context.proofs.Pigeonhole.{pigeonhole}
use Rattle.evaluations.specs.Below.{IsFitting, Request, Reply}
use Rattle.evaluations.specs.Words.{Frame, Outcome, Asks, AreDistinct, IsAllowed, IsEnclosed, IsOnStack, HaveFullDepths}
use Rattle.evaluations.specs.Words.{StayEnclosed, answered, fresh, replied, run_again, stepped}

module _ (I R : Type 0) where
  -- ---- depths

  -- another newest frame, with the same depth
  pub changed_depths : (root : ℕ) (f g : Frame I R) (below : List (Frame I R)) → g.available ≡ f.available
      → (f.met_overflow ≡ false → f.met_before ≡ false → (g.met_overflow ≡ false) × (g.met_before ≡ false))
      → HaveFullDepths root (f ∷ below) → HaveFullDepths root (g ∷ below)
  changed_depths root f g below same calm h =
      let c = calm h.1 h.2 in (ap (λ d. d + length below) same ∙ h.0, c.0, c.1, h.3)

  -- one more frame
  pub pushed_depths : (root : ℕ) (f : Frame I R) (below : List (Frame I R)) (goal : I) (depth left : ℕ)
      → IsAllowed f depth → HaveFullDepths root (f ∷ below) → HaveFullDepths root (fresh goal depth left ∷ f ∷ below)
  pushed_depths root f below goal depth left allowed h =
      let next : f.available ≡ suc depth = allowed.is_next h.1 in
      let at : f.available + length below ≡ root = h.0 in
      (omega (arith, at, next), refl, refl, h)

  -- a further run
  pub rerun_depths : (root : ℕ) (f : Frame I R) (below : List (Frame I R)) (left : ℕ) → HaveFullDepths root (f ∷ below)
      → HaveFullDepths root (run_again f left ∷ below)
  rerun_depths root f below left h = (h.0, refl, or_from f.met_before f.met_overflow h.2 h.1, h.3)

  -- what a frame leaves met no overflow
  pub left_calm : (root : ℕ) (f : Frame I R) (below : List (Frame I R)) → HaveFullDepths root (f ∷ below)
      → (f.met_overflow || f.met_before) ≡ false
  left_calm root f below h = or_from f.met_overflow f.met_before h.1 h.2

module _ {I R : Type 0} (scripts : I → List (Reply R) → Request I R) where
  -- ---- different goals are no more than all goals

  -- the place of the goal of the frame at `i` among the goals
  abbrev place_of : (goals : List I) (frames : List (Frame I R)) → AreDistinct scripts goals frames → ℕ → ℕ
  place_of goals [] d i = 0
  place_of goals (f ∷ below) d zero = d.0.0
  place_of goals (f ∷ below) d (suc i) = place_of goals below d.2 i

  module _ (goals : List I) where
    place_within : (frames : List (Frame I R)) (d : AreDistinct scripts goals frames) (i : ℕ) → i < length frames
        → place_of goals frames d i < length goals
    place_within [] d i within = absurd (omega (arith, within))
    place_within (f ∷ below) d zero within = d.0.1
    place_within (f ∷ below) d (suc i) within = place_within below d.2 i (omega (arith, within))

    found_below : (frames : List (Frame I R)) (d : AreDistinct scripts goals frames) (goal : I) (at i : ℕ)
        → i < length frames → at < length goals → get_or goals at goal ≡ goal
        → place_of goals frames d i ≡ at → IsOnStack scripts goal frames
    found_below [] d goal at i within there is same = absurd (omega (arith, within))
    found_below (f ∷ below) d goal at zero within there is same =
        inl (sym d.0.2 ∙ ap (λ k. get_or goals k f.goal) same ∙ get_or_default goals at f.goal goal there ∙ is)
    found_below (f ∷ below) d goal at (suc i) within there is same =
        inr (found_below below d.2 goal at i (omega (arith, within)) there is same)

    places_differ : (frames : List (Frame I R)) (d : AreDistinct scripts goals frames) (i j : ℕ) → i < j
        → j < length frames → place_of goals frames d i ≡ place_of goals frames d j → ⊥
    places_differ [] d i j less within same = absurd (omega (arith, within))
    places_differ (f ∷ below) d i zero less within same = absurd (omega (arith, less))
    places_differ (f ∷ below) d zero (suc j) less within same =
        d.1 (found_below below d.2 f.goal d.0.0 j (omega (arith, within)) d.0.1 d.0.2 (sym same))
    places_differ (f ∷ below) d (suc i) (suc j) less within same =
        places_differ below d.2 i j (omega (arith, less)) (omega (arith, within)) same

    -- so the frames are no more than the goals
    pub few_frames : (frames : List (Frame I R)) → AreDistinct scripts goals frames → length goals < length frames → ⊥
    few_frames frames d more =
        let w = pigeonhole (length goals) (place_of goals frames d)
        (λ i fits. place_within frames d i (omega (arith, fits, more))) in
        places_differ frames d w.0 w.1 w.2 (omega (arith, w.3, more)) w.4

  -- ---- each move stays enclosed

  module _ (goals : List I) (root : ℕ) where
    pub changed_stays : (f g : Frame I R) (below : List (Frame I R)) → g.goal ≡ f.goal → g.available ≡ f.available
        → (f.met_overflow ≡ false → f.met_before ≡ false → (g.met_overflow ≡ false) × (g.met_before ≡ false))
        → StayEnclosed scripts goals root (f ∷ below) → StayEnclosed scripts goals root (g ∷ below)
    changed_stays f g below same_goal same_depth calm h = record {
      depths = changed_depths I R root f g below same_depth calm h.depths;
      distinct =
          subst (λ goal. Contains goals goal × (IsOnStack scripts goal below → ⊥) × AreDistinct scripts goals below)
          (sym same_goal) h.distinct;
    }

    pub first_stays : (goal : I) (left : ℕ) → Contains goals goal
        → StayEnclosed scripts goals root (fresh goal root left ∷ [])
    first_stays goal left within = record { depths = (omega arith, refl, refl, tt); distinct = (within, λ on. on, tt) }

    pub pushed_stays : (f : Frame I R) (below : List (Frame I R)) (goal : I) (depth left : ℕ) → IsAllowed f depth
        → Contains goals goal → (IsOnStack scripts goal (f ∷ below) → ⊥) → StayEnclosed scripts goals root (f ∷ below)
        → StayEnclosed scripts goals root (fresh goal depth left ∷ f ∷ below)
    pushed_stays f below goal depth left allowed within absent h = record {
      depths = pushed_depths I R root f below goal depth left allowed h.depths;
      distinct = (within, absent, h.distinct);
    }

    pub stepped_stays : (f : Frame I R) (below : List (Frame I R)) (left : ℕ)
        → StayEnclosed scripts goals root (f ∷ below) → StayEnclosed scripts goals root (stepped f left ∷ below)
    stepped_stays f below left h = changed_stays f (stepped f left) below refl refl (λ a b. (a, b)) h

    pub replied_stays : (f : Frame I R) (below : List (Frame I R)) (reply : Reply R)
        → StayEnclosed scripts goals root (f ∷ below) → StayEnclosed scripts goals root (replied f reply ∷ below)
    replied_stays f below reply h = changed_stays f (replied f reply) below refl refl (λ a b. (a, b)) h

    pub answered_stays : (f : Frame I R) (below : List (Frame I R)) (o : Outcome R) → o.met_overflow ≡ false
        → StayEnclosed scripts goals root (f ∷ below) → StayEnclosed scripts goals root (answered f o ∷ below)
    answered_stays f below o calm h =
        changed_stays f (answered f o) below refl refl (λ a b. (or_from f.met_overflow o.met_overflow a calm, b)) h

    pub rerun_stays : (f : Frame I R) (below : List (Frame I R)) (left : ℕ)
        → StayEnclosed scripts goals root (f ∷ below) → StayEnclosed scripts goals root (run_again f left ∷ below)
    rerun_stays f below left h =
        changed_stays f (run_again f left) below refl refl (λ a b. (refl, or_from f.met_before f.met_overflow b a)) h

    pub popped_stays : (f : Frame I R) (below : List (Frame I R)) → StayEnclosed scripts goals root (f ∷ below)
        → StayEnclosed scripts goals root below
    popped_stays f below h = record { depths = h.depths.3; distinct = h.distinct.2 }

    -- the newest frame has depth left, so it is refused no question
    pub some_depth : (f : Frame I R) (below : List (Frame I R)) → length goals ≤ root
        → StayEnclosed scripts goals root (f ∷ below) → f.available ≡ 0 → ⊥
    some_depth f below fits h none =
        let at : f.available + length below ≡ root = h.depths.0 in
        few_frames goals (f ∷ below) h.distinct (omega (arith, at, none, fits))

  -- what it asks is one of the goals
  pub asked_within : (goals : List I) (root : ℕ) (top : I) (f : Frame I R) (below : List (Frame I R)) (goal : I)
      → IsEnclosed scripts goals root top → StayEnclosed scripts goals root (f ∷ below)
      → IsFitting (scripts f.goal) f.replies → Asks scripts f goal → Contains goals goal
  asked_within goals root top f below goal e h fits asks =
      e.closed f.goal h.distinct.0 f.replies asks.0 goal fits asks.1
