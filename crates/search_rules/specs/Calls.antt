-- An outer call, and the limits of what it may do.
use Rattle.std.specs.Prelude.{◌≡◌, ◌⊎◌, ℕ, ◌+◌, ◌<◌, ◌≤◌, ◌^◌, max, Bool, true, false, Contains, List}
use Rattle.search_rules.specs.Below.{DelegateOf, CxOf, MeetsNone, IsEnclosed, IsPlainTo, Place, frames_within, Limits}

-- An outer call: its goal and depth, the frames started before it, and whether a limit was met before it; whether
-- it is known that no result that met overflow was stored before it, and goals of which that is known; whether
-- each stored result was yes or no; and which depths are known to have been required by the result that was stored
-- for a goal at a place.
pub record Call (I : Type 0) : Type 0 where
  pub top : I
  pub root : ℕ
  pub fits : root < 2 ^ 64
  pub starts : ℕ
  pub limits_met : Bool
  pub without_overflow : Bool
  pub goals : List I
  pub all_definite : Bool
  pub stood : I → Place → ℕ → Bool

-- it is known that no result of the goal that met overflow was stored before the call
abbrev pub HadNoOverflow : {I : Type 0} → Call I → I → Type 0
HadNoOverflow call goal = (call.without_overflow ≡ true) ⊎ Contains call.goals goal

-- the call is one of this goal at this depth
pub record Outset {I : Type 0} (call : Call I) (input : I) (root starts : ℕ) (met : Bool) : Type 0 where
  pub same_top : call.top ≡ input
  pub same_root : call.root ≡ root
  pub same_starts : call.starts ≡ starts
  pub same_limits : call.limits_met ≡ met

module _ {D C V P F I R A T : Type 0} (G : DelegateOf D C V P F I R A T) (X : CxOf C I R A T) (cx : C) where
  -- the most runs of one goal
  abbrev pub runs : ℕ
  runs = max 1 G.FIXPOINT_STEP_LIMIT

  abbrev pub limits : Call I → Limits I
  limits call = record {
    runs = runs;
    width = G.width cx;
    root = call.root;
    last = G.last;
    before = call.starts;
    goals = call.goals;
  }

  -- the most frames that have started when the call ends
  abbrev pub bound : Call I → ℕ
  bound call = call.starts + frames_within runs (G.width cx) call.root

  -- no question leads out of the goals of which it is known that no overflow result was stored, and there is
  -- depth enough for them
  abbrev pub CallIsEnclosed : Call I → Type 0
  CallIsEnclosed call = IsEnclosed (G.script cx) call.goals call.root call.top

  -- each start is counted, and before the call no limit was met and no result that met overflow was
  -- stored that it may use
  abbrev pub IsCounted : Call I → Type 0
  IsCounted call =
      (G.counts ≡ true) × (call.limits_met ≡ false) × ((call.without_overflow ≡ true) ⊎ CallIsEnclosed call)

  -- no overflow is met as long as this holds: starts are counted and no limit is met, or the call is enclosed
  abbrev pub CallMeetsNone : Call I → (met : Bool) → Type 0
  CallMeetsNone call = MeetsNone (G.script cx) (limits call) (IsCounted call) call.top

  -- a limit that was met stays met, and none is met in a call whose goal's rank fits its depth
  pub record KeepsLimits (call : Call I) (met : Bool) : Type 0 where
    pub stays : call.limits_met ≡ true → met ≡ true
    pub plain : (n : ℕ) → IsPlainTo (G.script cx) n call.top → n ≤ call.root → met ≡ call.limits_met
