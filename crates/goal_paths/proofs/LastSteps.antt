-- Where the last step of each kind is tells the kinds of the steps above any goal.
use Rattle.std.proofs.Common.{◌≡◌, ℕ, ◌+◌, ◌-◌, ◌<◌, ◌≤◌, nat_lt, Bool, true, false, List, [], ◌∷◌, ◌++◌, length, take}
use Rattle.std.proofs.Common.{drop, get_or, Some, refl, sym, ap, ◌∙◌, inl, inr, arith}
use Rattle.std.proofs.lemmas.Bool.{cases_lt}
use Rattle.std.proofs.lemmas.Bool.Decides.{nat_tests}
use Rattle.std.proofs.lemmas.List.{drop-append-le, take-append-le, take_all, get_or_append_left}
use Rattle.std.proofs.lemmas.List.{get_or-take, length-take-le}
use Rattle.std.proofs.Math.ListN.{length-append}
use Rattle.std.proofs.Math.Seq.{get_or-append_seam}
use Rattle.std.proofs.lemmas.Option.{get_or_from_slice_get}
use Rattle.std.specs.List.{slice_get}
use Rattle.goal_paths.specs.Below.{PathKind, Inductive, Unknown, Coinductive, ForcedAmbiguity}
use Rattle.goal_paths.specs.Below.{greater_kind, greatest_kind}
use Rattle.goal_paths.specs.declared.steps.LastSteps.{LastSteps}
use Rattle.goal_paths.specs.Words.{AreLastSteps, kind_by, kind_past, TellsKinds, with_step}
use Rattle.goal_paths.proofs.Cycles.{greatest-push}

-- one more kind is there
joined-inductive : (f c u : Bool) → kind_by f c u ≡ greater_kind (kind_by f c u) Inductive
joined-inductive true c u = refl
joined-inductive false true u = refl
joined-inductive false false true = refl
joined-inductive false false false = refl

joined-unknown : (f c u : Bool) → kind_by f c true ≡ greater_kind (kind_by f c u) Unknown
joined-unknown true c u = refl
joined-unknown false true u = refl
joined-unknown false false true = refl
joined-unknown false false false = refl

joined-coinductive : (f c u : Bool) → kind_by f true u ≡ greater_kind (kind_by f c u) Coinductive
joined-coinductive true c u = refl
joined-coinductive false true u = refl
joined-coinductive false false true = refl
joined-coinductive false false false = refl

joined-forced : (f c u : Bool) → ForcedAmbiguity ≡ greater_kind (kind_by f c u) ForcedAmbiguity
joined-forced true c u = refl
joined-forced false true u = refl
joined-forced false false true = refl
joined-forced false false false = refl

-- below the new step its kind is joined
pub past-joined : (steps : LastSteps) (kind : PathKind) (below count : ℕ) → count ≤ below
    → kind_past (with_step steps kind below) count ≡ greater_kind (kind_past steps count) kind
past-joined steps Inductive below count within =
    joined-inductive (nat_lt count steps.forced_ambiguity) (nat_lt count steps.coinductive) (nat_lt count steps.unknown)
past-joined steps Unknown below count within =
    let there : nat_lt count (below + 1) ≡ true = grind (arith, nat_tests) in
    rw there (joined-unknown (nat_lt count steps.forced_ambiguity)
    (nat_lt count steps.coinductive) (nat_lt count steps.unknown))
past-joined steps Coinductive below count within =
    let there : nat_lt count (below + 1) ≡ true = grind (arith, nat_tests) in
    rw there (joined-coinductive (nat_lt count steps.forced_ambiguity)
    (nat_lt count steps.coinductive) (nat_lt count steps.unknown))
past-joined steps ForcedAmbiguity below count within =
    let there : nat_lt count (below + 1) ≡ true = grind (arith, nat_tests) in
    rw there (joined-forced (nat_lt count steps.forced_ambiguity)
    (nat_lt count steps.coinductive) (nat_lt count steps.unknown))

-- no step is past the end
pub record NonePast (steps : LastSteps) (count : ℕ) : Type 0 where
  pub forced : steps.forced_ambiguity ≤ count
  pub coinductive : steps.coinductive ≤ count
  pub unknown : steps.unknown ≤ count

none_by : (f c u : Bool) → kind_by f c u ≡ Inductive → (f ≡ false) × (c ≡ false) × (u ≡ false)
none_by true c u is = absurd cc
none_by false true u is = absurd cc
none_by false false true is = absurd cc
none_by false false false is = (refl, refl, refl)

pub none_past : (steps : LastSteps) (count : ℕ) → kind_past steps count ≡ Inductive → NonePast steps count
none_past steps count is =
    let none =
    none_by (nat_lt count steps.forced_ambiguity) (nat_lt count steps.coinductive) (nat_lt count steps.unknown) is in
    let f = none.0 in let c = none.1 in let u = none.2 in
    record {
      forced = grind (arith, nat_tests);
      coinductive = grind (arith, nat_tests);
      unknown = grind (arith, nat_tests);
    }

pub past_none : (steps : LastSteps) (count : ℕ) → NonePast steps count → kind_past steps count ≡ Inductive
past_none steps count none =
    let f : nat_lt count steps.forced_ambiguity ≡ false = grind (arith, nat_tests, none.forced) in
    let c : nat_lt count steps.coinductive ≡ false = grind (arith, nat_tests, none.coinductive) in
    let u : nat_lt count steps.unknown ≡ false = grind (arith, nat_tests, none.unknown) in
    rw (f, c, u) refl

pub none_past-step : (steps : LastSteps) (kind : PathKind) (below : ℕ) → NonePast steps below
    → NonePast (with_step steps kind below) (below + 1)
none_past-step steps Inductive below none = record {
  forced = omega (arith, none.forced);
  coinductive = omega (arith, none.coinductive);
  unknown = omega (arith, none.unknown);
}
none_past-step steps Unknown below none =
    record { forced = omega (arith, none.forced); coinductive = omega (arith, none.coinductive); unknown = omega arith }
none_past-step steps Coinductive below none =
    record { forced = omega (arith, none.forced); coinductive = omega arith; unknown = omega (arith, none.unknown) }
none_past-step steps ForcedAmbiguity below none = record {
  forced = omega arith;
  coinductive = omega (arith, none.coinductive);
  unknown = omega (arith, none.unknown);
}

drop_whole : {X : Type 0} (xs : List X) → drop (length xs) xs ≡ []
drop_whole [] = refl
drop_whole (x ∷ xs) = drop_whole xs

-- one step more
pub TellsKinds-step : (steps : LastSteps) (kinds : List PathKind) (kind : PathKind) (below : ℕ) → below ≡ length kinds
    → TellsKinds steps kinds → TellsKinds (with_step steps kind below) (kinds ++ kind ∷ [])
TellsKinds-step steps kinds kind below size tells count within =
    let longer : length (kinds ++ kind ∷ []) ≡ length kinds + 1 = grind (arith, length-append) in
    elim (cases_lt (length kinds) count) [
      | inr inside ↦
          past-joined steps kind below count (omega (arith, inside, size))
          ∙ ap (λ k. greater_kind k kind) (tells count inside)
          ∙ sym (ap greatest_kind (drop-append-le count kinds (kind ∷ []) inside)
          ∙ greatest-push (drop count kinds) kind)
      | inl past ↦
          let last : count ≡ below + 1 = omega (arith, past, size, longer, within) in
          let none : NonePast steps below = none_past steps below
          (ap (kind_past steps) size ∙ tells (length kinds) (omega arith) ∙ ap greatest_kind (drop_whole kinds)) in
          let whole : drop count (kinds ++ kind ∷ []) ≡ [] =
          rw (last ∙ ap (λ n. n + 1) size ∙ sym longer) (drop_whole (kinds ++ kind ∷ [])) in
          ap (kind_past (with_step steps kind below)) last
          ∙ past_none (with_step steps kind below) (below + 1) (none_past-step steps kind below none)
          ∙ sym (ap greatest_kind whole)
    ]

pub AreLastSteps-empty : AreLastSteps [] []
AreLastSteps-empty = record { each = refl; tells = λ place d within. absurd (omega (arith, within)) }

-- the last entry tells the kinds of all
pub last_tells : (all : List LastSteps) (kinds : List PathKind) (last : LastSteps)
    → Some last ≡ slice_get all (length all - 1) → AreLastSteps all kinds → TellsKinds last kinds
last_tells [] kinds last found are = absurd cc
last_tells (x ∷ rest) kinds last found are =
    let all = x ∷ rest in
    let place = length all - 1 in
    let inside : place < length all = omega arith in
    let here : get_or all place last ≡ last = get_or_from_slice_get all place last last (sym found) in
    let whole : take (place + 1) kinds ≡ kinds = take_all (place + 1) kinds (omega (arith, are.each)) in
    rw (here, whole) at (are.tells place last inside)

-- one entry more
pub AreLastSteps-push : (all : List LastSteps) (kinds : List PathKind) (steps : LastSteps) (kind : PathKind)
    → TellsKinds steps (kinds ++ kind ∷ []) → AreLastSteps all kinds
    → AreLastSteps (all ++ steps ∷ []) (kinds ++ kind ∷ [])
AreLastSteps-push all kinds steps kind told are =
    let size : length all ≡ length kinds = are.each in
    let more : length (all ++ steps ∷ []) ≡ length all + 1 = grind (arith, length-append) in
    let longer : length (kinds ++ kind ∷ []) ≡ length kinds + 1 = grind (arith, length-append) in
    record {
      each = omega (arith, more, longer, size);
      tells = λ place d within. elim (cases_lt place (length all)) [
        | inl before ↦
            rw (
              get_or_append_left all (steps ∷ []) d place before,
              take-append-le (place + 1) kinds (kind ∷ []) (omega (arith, before, size)),
            )
            (are.tells place d before)
        | inr last ↦
            let at : place ≡ length all = omega (arith, within, more, last) in
            rw (
              at,
              get_or-append_seam all steps [] d,
              take_all (length all + 1) (kinds ++ kind ∷ []) (omega (arith, longer, size)),
            )
            told
      ];
    }

-- one entry less
pub AreLastSteps-pop : (all : List LastSteps) (kinds rest : List PathKind)
    (kind : PathKind) (left : List LastSteps) (size : ℕ)
    → kinds ≡ rest ++ kind ∷ [] → size ≡ length all → left ≡ take (size - 1) all
    → AreLastSteps all kinds → AreLastSteps left rest
AreLastSteps-pop all kinds rest kind left size is is_size is_left are =
    let longer : length kinds ≡ length rest + 1 = rw is (grind (arith, length-append)) in
    let fewer : length left ≡ length rest =
    rw is_left (length-take-le (size - 1) all (omega (arith, is_size)) ∙ omega (arith, longer, are.each, is_size)) in
    record {
      each = fewer;
      tells = λ place d within.
          let inside : place < length rest = omega (arith, within, fewer) in
          rw (
            is_left,
            get_or-take (size - 1) all place d (omega (arith, inside, longer, are.each, is_size)),
            ← (take-append-le (place + 1) rest (kind ∷ []) (omega (arith, inside))),
            ← is,
          )
          (are.tells place d (omega (arith, inside, longer, are.each)));
    }
