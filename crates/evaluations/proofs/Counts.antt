-- How many frames an evaluation starts.
use Rattle.std.proofs.Common.{◌≡◌, ℕ, zero, suc, ◌+◌, ◌-◌, ◌*◌, ◌<◌, ◌≤◌, ◌∷◌, refl, arith, List, []}
use Rattle.std.proofs.Math.Nat.{mul-le-mul_right, mul-le-mul_left}
use Rattle.evaluations.specs.Below.{frames_within}
use Rattle.evaluations.specs.Words.{fresh, stepped, run_again, frames_below, frames_ahead, steps_in_runs, Frame}
use Rattle.evaluations.specs.Words.{Spends, StaysWithin}

-- one more in front of a product leaves one factor free
one_free : (x y a : ℕ) → x + 1 ≤ y → x * a + a ≤ y * a
one_free x y a h = let k : (x + 1) * a ≤ y * a = mul-le-mul_right a h in omega (arith, k)

within_is : (runs width depth : ℕ) → frames_within runs width depth ≡ runs * (1 + width * frames_below runs width depth)
unfolding frames_within
within_is runs width zero = omega arith
within_is runs width (suc depth) = refl

-- A deeper goal may start more frames.
pub deeper_starts_more :
    (runs width depth deeper : ℕ) → 1 ≤ runs → depth ≤ deeper
    → frames_within runs width depth ≤ frames_within runs width deeper
unfolding frames_within
deeper_starts_more runs width zero zero some h = omega arith
deeper_starts_more runs width zero (suc deeper) some h =
    let k : runs * 1 ≤ runs * (1 + width * frames_within runs width deeper) = mul-le-mul_left runs (omega arith) in
    omega (arith, k)
deeper_starts_more runs width (suc depth) zero some h = absurd (omega arith)
deeper_starts_more runs width (suc depth) (suc deeper) some h =
    let ih : frames_within runs width depth ≤ frames_within runs width deeper =
    deeper_starts_more runs width depth deeper some (omega arith) in
    let k : width * frames_within runs width depth ≤ width * frames_within runs width deeper =
    mul-le-mul_left width ih in
    mul-le-mul_left runs (omega (arith, k))

-- the frames of a question at a lesser depth
question_within : (runs width depth available : ℕ) → 1 ≤ runs → depth < available
    → frames_within runs width depth ≤ frames_below runs width available
question_within runs width depth zero some h = absurd (omega arith)
question_within runs width depth (suc d) some h = deeper_starts_more runs width depth d some (omega arith)

-- a first frame with the frames ahead of it
first_within : (runs width depth first : ℕ) → 1 ≤ runs → first ≤ width
    → 1 + (first * frames_below runs width depth + (runs - 1) * (1 + width * frames_below runs width depth))
    ≤ frames_within runs width depth
first_within runs width depth first some fits =
    let k : first * frames_below runs width depth ≤ width * frames_below runs width depth =
    mul-le-mul_right (frames_below runs width depth) fits in
    let l : (runs - 1) * (1 + width * frames_below runs width depth) + (1 + width * frames_below runs width depth)
    ≤ runs * (1 + width * frames_below runs width depth) =
    one_free (runs - 1) runs (1 + width * frames_below runs width depth) (omega arith) in
    rw (within_is runs width depth) (omega (arith, k, l))

-- fewer frames ahead make up for the steps of a fresh frame
steps_fall : (width ahead less steps fewer : ℕ) → 1 + less ≤ ahead → fewer ≤ steps + width
    → (width + 1) * less + fewer < (width + 1) * ahead + steps
steps_fall width ahead less steps fewer h k =
    let l : (width + 1) * (less + 1) ≤ (width + 1) * ahead = mul-le-mul_left (width + 1) (omega arith) in
    omega (arith, l)

steps_fall_with : (width ahead less steps fewer : ℕ) → less ≤ ahead → fewer < steps
    → (width + 1) * less + fewer < (width + 1) * ahead + steps
steps_fall_with width ahead less steps fewer h k =
    let l : (width + 1) * less ≤ (width + 1) * ahead = mul-le-mul_left (width + 1) h in omega (arith, l)

module _ (I R : Type 0) where
  -- A request that isn't a question, or a question that is answered at once, starts no frame.
  pub step_spends :
      (runs width : ℕ) (f : Frame I R) (below : List (Frame I R)) (left : ℕ)
      → left < f.left → Spends runs width 0 (f ∷ below) (stepped f left ∷ below)
  step_spends runs width f below left less =
      let k : left * frames_below runs width f.available ≤ f.left * frames_below runs width f.available =
      mul-le-mul_right (frames_below runs width f.available) (omega arith) in
      let l : frames_ahead runs width (stepped f left ∷ below) ≤ frames_ahead runs width (f ∷ below) =
      omega (arith, k) in
      record {
        frames = omega (arith, l);
        steps = steps_fall_with width (frames_ahead runs width (f ∷ below))
            (frames_ahead runs width (stepped f left ∷ below)) (steps_in_runs runs width (f ∷ below))
            (steps_in_runs runs width (stepped f left ∷ below)) l (omega arith);
      }

  -- A question that is pushed starts one frame.
  pub question_spends :
      (runs width : ℕ) (f : Frame I R) (below : List (Frame I R)) (goal : I) (depth left first : ℕ)
      → 1 ≤ runs → depth < f.available → left < f.left → first ≤ width
      → Spends runs width 1 (f ∷ below) (fresh goal depth first ∷ stepped f left ∷ below)
  question_spends runs width f below goal depth left first some deep less fits =
      let k : left * frames_below runs width f.available + frames_below runs width f.available
      ≤ f.left * frames_below runs width f.available =
      one_free left f.left (frames_below runs width f.available) (omega arith) in
      let q = question_within runs width depth f.available some deep in
      let a = first_within runs width depth first some fits in
      let l : 1 + frames_ahead runs width (fresh goal depth first ∷ stepped f left ∷ below)
      ≤ frames_ahead runs width (f ∷ below) = omega (arith, k, q, a) in
      record {
        frames = l;
        steps = steps_fall width (frames_ahead runs width (f ∷ below))
            (frames_ahead runs width (fresh goal depth first ∷ stepped f left ∷ below))
            (steps_in_runs runs width (f ∷ below))
            (steps_in_runs runs width (fresh goal depth first ∷ stepped f left ∷ below)) l (omega arith);
      }

  -- A further run starts one frame.
  pub rerun_spends :
      (runs width : ℕ) (f : Frame I R) (below : List (Frame I R)) (left first : ℕ)
      → f.finished_runs + 1 < runs → left < f.left → first ≤ width
      → Spends runs width 1 (f ∷ below) (run_again (stepped f left) first ∷ below)
  rerun_spends runs width f below left first again less fits =
      let k : first * frames_below runs width f.available ≤ width * frames_below runs width f.available =
      mul-le-mul_right (frames_below runs width f.available) fits in
      let m = one_free (runs - (suc f.finished_runs + 1)) (runs - (f.finished_runs + 1))
      (1 + width * frames_below runs width f.available) (omega arith) in
      let l : 1 + frames_ahead runs width (run_again (stepped f left) first ∷ below)
      ≤ frames_ahead runs width (f ∷ below) = omega (arith, k, m) in
      record {
        frames = l;
        steps = steps_fall width (frames_ahead runs width (f ∷ below))
            (frames_ahead runs width (run_again (stepped f left) first ∷ below)) (steps_in_runs runs width (f ∷ below))
            (steps_in_runs runs width (run_again (stepped f left) first ∷ below)) l (omega arith);
      }

  -- A pop starts none.
  pub pop_spends :
      (runs width : ℕ) (f : Frame I R) (below : List (Frame I R)) (left : ℕ)
      → left < f.left → Spends runs width 0 (f ∷ below) below
  pop_spends runs width f below left less = record {
    frames = omega arith;
    steps = steps_fall_with width (frames_ahead runs width (f ∷ below)) (frames_ahead runs width below)
        (steps_in_runs runs width (f ∷ below)) (steps_in_runs runs width below) (omega arith) (omega arith);
  }

  -- An evaluation begins within its bound.
  pub first_stays_within :
      (runs width starts now : ℕ) (goal : I) (depth first : ℕ)
      → 1 ≤ runs → first ≤ width → now ≤ starts + 1
      → StaysWithin {I = I} {R = R} runs width
      (starts + frames_within runs width depth) now (fresh goal depth first ∷ [])
  first_stays_within runs width starts now goal depth first some fits one =
      let a = first_within runs width depth first some fits in omega (arith, a)

  -- A move that takes its starts from those ahead stays within the bound.
  pub move_stays_within :
      (runs width bound starts now started : ℕ) (old new : List (Frame I R))
      → Spends runs width started old new → now ≤ starts + started
      → StaysWithin runs width bound starts old → StaysWithin runs width bound now new
  move_stays_within runs width bound starts now started old new spends counts within =
      let l : started + frames_ahead runs width new ≤ frames_ahead runs width old = spends.frames in omega arith

  -- So no more frames were started than the bound.
  pub starts_are_within :
      (runs width bound starts : ℕ) (frames : List (Frame I R))
      → StaysWithin runs width bound starts frames → starts ≤ bound
  starts_are_within runs width bound starts frames within = omega arith
