-- Places that are each won or lost once it is known which places count: `inner` for inductive questions, `outer` for
-- coinductive ones. A round takes in what is won with the set so far as `inner`, and with `outer` as it is. A stage
-- leaves of `outer` what some round took in. Rounds only grow and stages only shrink, so both come to an end. What
-- the last stage leaves is won, by places that came in before and by places that are left; what a stage took out is
-- lost, by places that were taken out no later.
use Rattle.std.proofs.Common.{◌≡◌, ℕ, zero, suc, ◌<◌, ◌≤◌, Bool, true, false, not, ◌&&◌, ◌||◌, ◌⊎◌, inl, inr}
use Rattle.std.proofs.Common.{refl, arith}
use Rattle.std.proofs.lemmas.Bool.{and_cases, and_left, and_parts, and_right, cases_Bool, not-false, not-true}
use Rattle.std.proofs.lemmas.Bool.{not_from_false, or_cases, or_left, or_right}
use Rattle.determined.proofs.Growth.{came, came_at, came_by, later, stops}

abbrev is_left : {A B : Type 0} → A ⊎ B → Bool
is_left (inl a) = true
is_left (inr b) = false

left_of : {A B : Type 0} (s : A ⊎ B) → is_left s ≡ true → A
left_of (inl a) is = a
left_of (inr b) is = absurd cc

right_of : {A B : Type 0} (s : A ⊎ B) → is_left s ≡ false → B
right_of (inl a) is = absurd cc
right_of (inr b) is = b

or_true : (a b : Bool) → a ≡ false → (a || b) ≡ true → b ≡ true
or_true a b out is = elim (or_cases a b is) [ inl e ↦ absurd cc | inr e ↦ e ]

and_false : (a b : Bool) → a ≡ true → (a && b) ≡ false → b ≡ false
and_false a b is out = elim (and_cases a b out) [ inl e ↦ absurd cc | inr e ↦ e ]

module _ (n : ℕ) (Won Lost : (inner outer : ℕ → Bool) → ℕ → Type 0) where
  -- a place is won by places that came in before, and by places that are won
  pub record IsWon (won : ℕ → Bool) (rank : ℕ → ℕ) (x : ℕ) : Type 0 where
    pub inner : ℕ → Bool
    pub outer : ℕ → Bool
    pub is_won : Won inner outer x
    pub by_inner : (y : ℕ) → inner y ≡ true → (won y ≡ true) × (rank y < rank x)
    pub by_outer : (y : ℕ) → y < n → outer y ≡ true → won y ≡ true

  -- a place is lost by places that fell no later, and by places that fell before
  pub record IsLost (lost : ℕ → Bool) (fall : ℕ → ℕ) (x : ℕ) : Type 0 where
    pub inner : ℕ → Bool
    pub outer : ℕ → Bool
    pub is_lost : Lost inner outer x
    pub by_inner : (y : ℕ) → inner y ≡ false → (lost y ≡ true) × (fall y ≤ fall x)
    pub by_outer : (y : ℕ) → outer y ≡ false → (lost y ≡ true) × (fall y < fall x)

  -- each place is won or lost
  pub record AreSorted : Type 0 where
    pub won : ℕ → Bool
    pub lost : ℕ → Bool
    pub rank : ℕ → ℕ
    pub fall : ℕ → ℕ
    pub either : (x : ℕ) → x < n → (won x ≡ true) ⊎ (lost x ≡ true)
    pub won_at : (x : ℕ) → won x ≡ true → IsWon won rank x
    pub lost_at : (x : ℕ) → x < n → lost x ≡ true → IsLost lost fall x

module _ (n : ℕ) (Won Lost : (inner outer : ℕ → Bool) → ℕ → Type 0)
    (sides : (inner outer : ℕ → Bool) (x : ℕ) → Won inner outer x ⊎ Lost inner outer x) where
  abbrev holds : (inner outer : ℕ → Bool) → ℕ → Bool
  holds inner outer x = is_left (sides inner outer x)

  module _ (outer : ℕ → Bool) where
    abbrev round : ℕ → ℕ → Bool
    round zero x = false
    round (suc k) x = round k x || holds (round k) outer x

    round_grows : (k x : ℕ) → round k x ≡ true → round (suc k) x ≡ true
    round_grows k x is = or_left (round k x) (holds (round k) outer x) is

    abbrev last_round : ℕ
    last_round = (stops round round_grows n).0

    -- what some round took in
    abbrev taken : ℕ → Bool
    taken = round last_round

    abbrev rank : ℕ → ℕ
    rank x = came round round_grows x last_round

    -- what no round takes in is lost
    loses : (x : ℕ) → x < n → taken x ≡ false → holds taken outer x ≡ false
    loses x l out =
        elim (cases_Bool (holds taken outer x)) [
          | inl e ↦ let is = (stops round round_grows n).1 x l (or_right (taken x) (holds taken outer x) e) in absurd cc
          | inr e ↦ e
        ]

  abbrev stage : ℕ → ℕ → Bool
  stage zero x = true
  stage (suc i) x = stage i x && taken (stage i) x

  abbrev gone : ℕ → ℕ → Bool
  gone i x = not (stage i x)

  gone_grows : (i x : ℕ) → gone i x ≡ true → gone (suc i) x ≡ true
  gone_grows i x is =
      not_from_false (stage (suc i) x) (and_left (stage i x) (taken (stage i) x) (not-true (stage i x) is))

  abbrev last_stage : ℕ
  last_stage = (stops gone gone_grows n).0

  -- the places that the last stage leaves, and what they take in
  abbrev left : ℕ → Bool
  left = stage last_stage

  abbrev won : ℕ → Bool
  won = taken left

  abbrev fall : ℕ → ℕ
  fall x = came gone gone_grows x last_stage

  -- the last stage leaves what is won
  left_is_won : (x : ℕ) → x < n → left x ≡ true → won x ≡ true
  left_is_won x l is =
      elim (cases_Bool (stage (suc last_stage) x)) [
        | inl e ↦ (and_parts (left x) (won x) e).1
        | inr e ↦
            let out =
            not-true (left x) ((stops gone gone_grows n).1 x l (not_from_false (stage (suc last_stage) x) e)) in
            absurd cc
      ]

  won_at : (x : ℕ) → won x ≡ true → IsWon n Won Lost won (rank left) x
  won_at x is =
      let w = came_at (round left) (round_grows left) x (last_round left) refl is in
      record {
        inner = round left w.0;
        outer = left;
        is_won = left_of (sides (round left w.0) left x)
            (or_true (round left w.0 x) (holds (round left w.0) left x) w.2 w.3);
        by_inner = λ y here. let by = came_by (round left) (round_grows left) y w.0 (last_round left) here in (
          later (round left) (round_grows left) y w.0 (last_round left) (omega (arith, w.4)) here,
          omega (arith, by, w.1),
        );
        by_outer = left_is_won;
      }

  lost_at : (x : ℕ) → x < n → gone last_stage x ≡ true → IsLost n Won Lost (gone last_stage) fall x
  lost_at x l out =
      let w = came_at gone gone_grows x last_stage refl out in
      let was : stage w.0 x ≡ true = not-false (stage w.0 x) w.2 in
      let none : taken (stage w.0) x ≡ false =
      and_false (stage w.0 x) (taken (stage w.0) x) was (not-true (stage (suc w.0) x) w.3) in
      let falls : (j : ℕ) → j ≤ suc w.0 → (y : ℕ) → stage j y ≡ false → (gone last_stage y ≡ true) × (fall y ≤ j) =
      λ j m y e. (
        later gone gone_grows y j last_stage (omega (arith, w.4)) (not_from_false (stage j y) e),
        came_by gone gone_grows y j last_stage (not_from_false (stage j y) e),
      ) in
      record {
        inner = taken (stage w.0);
        outer = stage w.0;
        is_lost = right_of (sides (taken (stage w.0)) (stage w.0) x) (loses (stage w.0) x l none);
        by_inner = λ y e. let f = falls (suc w.0) (omega arith) y (and_right (stage w.0 y) (taken (stage w.0) y) e) in
            (f.0, omega (arith, f.1, w.1));
        by_outer = λ y e. let f = falls w.0 (omega arith) y e in (f.0, omega (arith, f.1, w.1));
      }

  pub sorted : AreSorted n Won Lost
  sorted = record {
    won = won;
    lost = gone last_stage;
    rank = rank left;
    fall = fall;
    either =
        λ x l. elim (cases_Bool (left x)) [ inl e ↦ inl (left_is_won x l e) | inr e ↦ inr (not_from_false (left x) e) ];
    won_at = won_at;
    lost_at = lost_at;
  }
