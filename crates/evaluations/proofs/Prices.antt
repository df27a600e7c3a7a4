-- What it costs to meet a limit.
use Rattle.std.proofs.Common.{◌≡◌, ℕ, ◌+◌, ◌≤◌, inl, inr, Bool, true, false, List, [], ◌∷◌, length, refl, sym, subst}
use Rattle.std.proofs.Common.{arith, ◌||◌}
use Rattle.std.proofs.lemmas.Bool.{or_from}
use Rattle.evaluations.specs.Below.{CountsOne, Reply}
use Rattle.evaluations.specs.Words.{Frame, stepped, replied, answered, HasCounted, HaveFullDepths, frames_started}
use Rattle.evaluations.specs.Words.{IsPriced, IsAllowed, Outcome, fresh, refused, run_again}
use Rattle.evaluations.proofs.Enclosed.{changed_depths, left_calm, pushed_depths, rerun_depths}

-- counting one more, or none
counted_one : (last before now later many : ℕ) → CountsOne last now later → HasCounted last before now many
    → HasCounted last before later (many + 1)
counted_one last before now later many one h = elim one [
  | inl up ↦ elim h [ inl c ↦ inl (omega (arith, up, c)) | inr e ↦ inr (omega (arith, up, e)) ]
  | inr ended ↦ let k = ended.1 in inr (omega (arith, k))
]

counted_fewer : (last before now many fewer : ℕ) → fewer ≤ many
    → HasCounted last before now many → HasCounted last before now fewer
counted_fewer last before now many fewer less h = elim h [ inl c ↦ inl (omega (arith, c)) | inr e ↦ inr e ]

counted_still : (last before now later many : ℕ) → CountsOne last now later
    → HasCounted last before now many → HasCounted last before later many
counted_still last before now later many one h =
    counted_fewer last before later (many + 1) many (omega arith) (counted_one last before now later many one h)

counted_later : (last before now later many : ℕ) → now ≤ later
    → HasCounted last before now many → HasCounted last before later many
counted_later last before now later many more h =
    elim h [ inl c ↦ inl (omega (arith, more, c)) | inr e ↦ inr (omega (arith, more, e)) ]

module _ (I R : Type 0) where
  -- each frame on the stack was started
  all_started : (frames : List (Frame I R)) → length frames ≤ frames_started frames
  all_started [] = omega arith
  all_started (f ∷ below) = let ih = all_started below in omega (arith, ih)

  -- another newest frame, with the same depth and runs
  changed : (price root last before now : ℕ) (met : Bool) (f g : Frame I R) (below : List (Frame I R))
      → g.available ≡ f.available → g.finished_runs ≡ f.finished_runs → (met ≡ false → f.met_overflow ≡ false
      → f.met_before ≡ false → (g.met_overflow ≡ false) × (g.met_before ≡ false))
      → IsPriced price root last before now met (f ∷ below) → IsPriced price root last before now met (g ∷ below)
  changed price root last before now met f g below same_depth same_runs calm h = record {
    not_yet = λ e. let u = h.not_yet e in
        record {
          depths = changed_depths I R root f g below same_depth (calm e) u.depths;
          counted = subst (λ k. HasCounted last before now (k + 1 + frames_started below)) (sym same_runs) u.counted;
        };
    paid = h.paid;
  }

  -- An evaluation begins with one frame, at the root depth.
  pub first_is_priced :
      (price root last before now : ℕ) (goal : I) (left : ℕ)
      → CountsOne last before now
      → IsPriced {I = I} {R = R} price root last before now false (fresh goal root left ∷ [])
  first_is_priced price root last before now goal left one = record {
    not_yet = λ _. record {
      depths = (omega arith, refl, refl, tt);
      counted = counted_one last before before now 0 one (inl (omega arith));
    };
    paid = λ e. absurd cc;
  }

  -- A push keeps the price, where its start is counted.
  pub push_keeps_priced :
      (price root last before now later : ℕ) (met : Bool) (f : Frame I R)
      (below : List (Frame I R)) (goal : I) (depth left : ℕ)
      → IsAllowed f depth → CountsOne last now later
      → IsPriced price root last before now met (f ∷ below)
      → IsPriced price root last before later met (fresh goal depth left ∷ f ∷ below)
  push_keeps_priced price root last before now later met f below goal depth left allowed one h = record {
    not_yet = λ e. let u = h.not_yet e in
        record {
          depths = pushed_depths I R root f below goal depth left allowed u.depths;
          counted = subst (λ k. HasCounted last before later k) (omega arith)
              (counted_one last before now later (frames_started (f ∷ below)) one u.counted);
        };
    paid = λ e. counted_still last before now later price one (h.paid e);
  }

  -- A step keeps the price.
  pub step_keeps_priced :
      (price root last before now : ℕ) (met : Bool) (f : Frame I R) (below : List (Frame I R)) (left : ℕ)
      → IsPriced price root last before now met (f ∷ below)
      → IsPriced price root last before now met (stepped f left ∷ below)
  step_keeps_priced price root last before now met f below left h =
      changed price root last before now met f (stepped f left) below refl refl (λ _ a b. (a, b)) h

  -- A reply keeps the price.
  pub reply_keeps_priced :
      (price root last before now : ℕ) (met : Bool) (f : Frame I R) (below : List (Frame I R)) (reply : Reply R)
      → IsPriced price root last before now met (f ∷ below)
      → IsPriced price root last before now met (replied f reply ∷ below)
  reply_keeps_priced price root last before now met f below reply h =
      changed price root last before now met f (replied f reply) below refl refl (λ _ a b. (a, b)) h

  -- An answer keeps the price, where it met no overflow before a limit was met.
  pub answer_keeps_priced :
      (price root last before now : ℕ) (met : Bool) (f : Frame I R) (below : List (Frame I R)) (o : Outcome R)
      → (met ≡ false → o.met_overflow ≡ false)
      → IsPriced price root last before now met (f ∷ below)
      → IsPriced price root last before now met (answered f o ∷ below)
  answer_keeps_priced price root last before now met f below o calm h = changed price root last before now met f
      (answered f o) below refl refl (λ e a b. (or_from f.met_overflow o.met_overflow a (calm e), b)) h

  -- A further run keeps the price, where its start is counted.
  pub rerun_keeps_priced :
      (price root last before now later : ℕ) (met : Bool) (f : Frame I R) (below : List (Frame I R)) (left : ℕ)
      → CountsOne last now later
      → IsPriced price root last before now met (f ∷ below)
      → IsPriced price root last before later met (run_again f left ∷ below)
  rerun_keeps_priced price root last before now later met f below left one h = record {
    not_yet = λ e. let u = h.not_yet e in
        record {
          depths = rerun_depths I R root f below left u.depths;
          counted = subst (λ k. HasCounted last before later k) (omega arith)
              (counted_one last before now later (frames_started (f ∷ below)) one u.counted);
        };
    paid = λ e. counted_still last before now later price one (h.paid e);
  }

  -- A pop keeps the price, and what the frame leaves met no overflow before a limit was met.
  pub pop_keeps_priced :
      (price root last before now : ℕ) (met : Bool) (f : Frame I R) (below : List (Frame I R))
      → IsPriced price root last before now met (f ∷ below)
      → IsPriced price root last before now met below × (met ≡ false → (f.met_overflow || f.met_before) ≡ false)
  pop_keeps_priced price root last before now met f below h = (
    record {
      not_yet = λ e. let u = h.not_yet e in
          record {
            depths = u.depths.3;
            counted = counted_fewer last before now (frames_started (f ∷ below))
                (frames_started below) (omega arith) u.counted;
          };
      paid = h.paid;
    },
    λ e. left_calm I R root f below (h.not_yet e).depths,
  )

  -- A start that failed keeps the price, whether it counted or not.
  pub later_keeps_priced :
      (price root last before now later : ℕ) (met : Bool) (frames : List (Frame I R))
      → now ≤ later
      → IsPriced price root last before now met frames → IsPriced price root last before later met frames
  later_keeps_priced price root last before now later met frames more h = record {
    not_yet = λ e. let u = h.not_yet e in record {
      depths = u.depths;
      counted = counted_later last before now later (frames_started frames) more u.counted;
    };
    paid = λ e. counted_later last before now later price more (h.paid e);
  }

  -- the price, whether it is paid now or was before
  paid_now : (price root last before now : ℕ) (met : Bool) (f : Frame I R) (below : List (Frame I R))
      → (HaveFullDepths root (f ∷ below) → price ≤ frames_started (f ∷ below))
      → IsPriced price root last before now met (f ∷ below) → HasCounted last before now price
  paid_now price root last before now true f below enough h = h.paid refl
  paid_now price root last before now false f below enough h =
      let u = h.not_yet refl in
      counted_fewer last before now (frames_started (f ∷ below)) price (enough u.depths) u.counted

  -- A question at depth 0 is paid by the frames from the root on.
  pub refusal_is_paid :
      (price root last before now : ℕ) (met : Bool) (f : Frame I R) (below : List (Frame I R)) (r : R)
      → price ≤ root + 1 → f.available ≡ 0
      → IsPriced price root last before now met (f ∷ below)
      → IsPriced price root last before now true (refused f r ∷ below)
  refusal_is_paid price root last before now met f below r fair none h = record {
    not_yet = λ e. absurd cc;
    paid = λ _. paid_now price root last before now met f below (λ d.
        let at : f.available + length below ≡ root = d.0 in let k = all_started below in omega (arith, at, k, fair)) h;
  }

  -- The end of the last run that a goal may have is paid by its runs.
  pub last_run_is_paid :
      (price root last before now : ℕ) (met : Bool) (f : Frame I R) (below : List (Frame I R))
      → price ≤ f.finished_runs + 1
      → IsPriced price root last before now met (f ∷ below)
      → IsPriced price root last before now true (f ∷ below)
  last_run_is_paid price root last before now met f below last_run h = record {
    not_yet = λ e. absurd cc;
    paid = λ _. paid_now price root last before now met f below (λ d. omega (arith, last_run)) h;
  }
