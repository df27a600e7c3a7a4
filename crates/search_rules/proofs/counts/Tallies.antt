-- What a goal counts of the goals on the stack, and that the parts of it, used outside candidates or by
-- each of them, stay there.
use Rattle.std.proofs.Common.{◌≡◌, ◌≢◌, ◌↔◌, ℕ, zero, suc, ◌+◌, ◌-◌, ◌^◌, ◌≤◌, IsTrue, List, [], ◌∷◌, ◌++◌, slice_get}
use Rattle.std.proofs.Common.{Option, None, Some, option_map, is_some, IsSome, unwrap_or, refl, sym, ap, ◌∙◌, subst}
use Rattle.std.proofs.Common.{inl, inr, arith, ne_eqb, eq-eqb}
use Rattle.std.specs.List.{sum_by}
use Rattle.std.specs.Option.{IsSomeAnd}
use Rattle.std.proofs.lemmas.Bool.{cases_eq, false≢true}
use Rattle.std.proofs.lemmas.List.Sums.{sum_by-cons, sum_by_push}
use Rattle.search_rules.specs.Below.{Includes, StackDepth, PathKind, PathsToNested, CycleHead, HeadUsages, UsagesByHead}
use Rattle.search_rules.specs.Below.{Heads, at_depth, has_rank, count_at, heads_shape, has_kind, count_of, no_usages}
use Rattle.cycle_heads.proofs.Counts.{count_of-usages_by}
use Rattle.cycle_heads.proofs.HeadShapes.{IsIn, count_at-of, cycle_of_rank, has_rank-of, path_of_rank}
use Rattle.search_rules.specs.Words.{Tally, IsCovered, IsTallied, LieBelow, candidate_at, candidates_count, counted}
use Rattle.search_rules.specs.Words.{head_with, heads_of, heads_with, spare, spare_count, spare_heads, usages_of}

-- ---- counts

-- what covers some usages covers fewer, and isn't zero if they are not
pub covers_less : (count n m : ℕ) → IsCovered count n → m ≤ n → IsCovered count m
covers_less count n m (inl stuck) less = inl stuck
covers_less count n m (inr covers) less = inr (omega (arith, covers, less))

pub covers_some : (count n : ℕ) → IsCovered count n → n ≢ 0 → count ≢ 0
covers_some count n (inl stuck) some none = absurd (omega (arith, stuck, none))
covers_some count n (inr covers) some none = some (omega (arith, covers, none))

-- something is spare of a count exactly if it covers one usage more
some_spare : (count n : ℕ) → (spare_count count n ≢ 0) ↔ IsCovered count (n + 1)
some_spare count n = elim (cases_eq count (2 ^ 32 - 1)) [
  | inl stuck ↦
      rw (eq-eqb count (2 ^ 32 - 1) stuck) (λ some. inl stuck, λ covers none. absurd (omega (arith, stuck, none)))
  | inr below ↦ rw (ne_eqb count (2 ^ 32 - 1) below) (
    λ some. inr (omega (arith, some)),
    λ covers none. elim covers [ inl stuck ↦ below stuck | inr more ↦ absurd (omega (arith, more, none)) ],
  )
]

pub spare_is : (t : Tally) (head : StackDepth) (usages : HeadUsages) (kind : PathKind)
    → (count_of (spare t head usages) kind ≢ 0) ↔ IsCovered (count_of usages kind) (candidates_count t head kind + 1)
spare_is t head usages kind =
    subst (λ n. (n ≢ 0) ↔ IsCovered (count_of usages kind) (candidates_count t head kind + 1))
    (sym (count_of-usages_by (λ k. spare_count (count_of usages k) (candidates_count t head k)) kind))
    (some_spare (count_of usages kind) (candidates_count t head kind))

-- no kind is counted where there are no usages
pub none_counted : (kind : PathKind) → count_of no_usages kind ≡ 0
none_counted kind = count_of-usages_by (λ _. 0) kind

-- the count of a kind among usages that may be recorded
abbrev pub of_kind : Option HeadUsages → PathKind → ℕ
of_kind own kind = count_of (unwrap_or own no_usages) kind

-- the usages of a head, if it is one
abbrev pub usages_in : Option CycleHead → Option HeadUsages
usages_in own = option_map (λ known. known.usages) own

-- ---- heads with a part of what is counted

pub counts_by_rank : (usages more : HeadUsages)
    → ((kind : PathKind) → count_of usages kind ≢ 0 → count_of more kind ≢ 0) → (n : ℕ)
    → count_at usages n ≢ 0 → count_at more n ≢ 0
counts_by_rank usages more h n some = let k = cycle_of_rank usages n some in
    subst (λ m. count_at more m ≢ 0) k.1 (λ none. h k.0 k.2 (sym (count_at-of more k.0) ∙ none))

paths_by_rank : (paths more : PathsToNested)
    → ((kind : PathKind) → IsTrue (has_kind paths kind) → IsTrue (has_kind more kind)) → (n : ℕ)
    → IsTrue (has_rank paths n) → IsTrue (has_rank more n)
paths_by_rank paths more h n is =
    let k = path_of_rank paths n is in subst (λ m. IsTrue (has_rank more m)) k.1 (has_rank-of more k.0 ∙ h k.0 k.2)

-- a head has all paths of another
abbrev pub KeepsPaths : CycleHead → CycleHead → Type 0
KeepsPaths head other =
    (kind : PathKind) → IsTrue (has_kind head.paths_to_head kind) → IsTrue (has_kind other.paths_to_head kind)

-- and the part of it all kinds of usages of that other's part
abbrev GrowsInto : (part more : HeadUsages → HeadUsages) → CycleHead → CycleHead → Type 0
GrowsInto part more head other =
    KeepsPaths head other
    × ((kind : PathKind) → count_of (part head.usages) kind ≢ 0 → count_of (more other.usages) kind ≢ 0)

grown_at : (part more : HeadUsages → HeadUsages) (own new : Option CycleHead)
    → ((head : CycleHead) → own ≡ Some head → IsSomeAnd new (GrowsInto part more head)) → (path cycle : ℕ)
    → IsIn (option_map (head_with part) own) path cycle → IsIn (option_map (head_with more) new) path cycle
grown_at part more None new grows path cycle is = absurd (is.1 refl)
grown_at part more (Some head) None grows path cycle is = absurd (grows head refl)
grown_at part more (Some head) (Some other) grows path cycle is = (
  paths_by_rank head.paths_to_head other.paths_to_head (grows head refl).0 path is.0,
  counts_by_rank (part head.usages) (more other.usages) (grows head refl).1 cycle is.1,
)

-- the heads with all that is counted of them
whole : (own : Option CycleHead) → option_map (head_with (λ usages. usages)) own ≡ own
whole None = refl
whole (Some head) = refl

-- a part of each of the same heads
same_heads : (heads : Heads) (part more : StackDepth → HeadUsages → HeadUsages)
    → ((depth : StackDepth) (head : CycleHead) → at_depth heads depth ≡ Some head → (kind : PathKind)
    → count_of (part depth head.usages) kind ≢ 0 → count_of (more depth head.usages) kind ≢ 0)
    → Includes (heads_with heads part) (heads_with heads more)
same_heads heads part more grows depth = grown_at (part (record { 0 = depth })) (more (record { 0 = depth }))
    (at_depth heads (record { 0 = depth })) (at_depth heads (record { 0 = depth }))
    (λ head at. subst (λ o. IsSomeAnd o (GrowsInto (part (record { 0 = depth })) (more (record { 0 = depth })) head))
    (sym at) (λ kind has. has, grows (record { 0 = depth }) head at))

part_within : (heads : Heads) (part : StackDepth → HeadUsages → HeadUsages)
    → ((depth : StackDepth) (head : CycleHead) → at_depth heads depth ≡ Some head → (kind : PathKind)
    → count_of (part depth head.usages) kind ≢ 0 → count_of head.usages kind ≢ 0)
    → Includes (heads_with heads part) (heads_shape heads)
part_within heads part within depth path cycle is =
    subst (λ own. IsIn own path cycle) (whole (at_depth heads (record { 0 = depth })))
    (same_heads heads part (λ _ usages. usages) within depth path cycle is)

-- ---- candidates by number

-- what was used of a goal in the list's element at a place, if there is one, is part of the whole sum
charge_at : (all : List UsagesByHead) (number : ℕ) (head : StackDepth) (kind : PathKind)
    → count_of (usages_of (unwrap_or (slice_get all number) []) head) kind
    ≤ sum_by (λ counts. count_of (usages_of counts head) kind) all
charge_at [] number head kind = rw (none_counted kind) (omega arith)
charge_at (counts ∷ all) zero head kind = omega (arith, sum_by-cons (λ c. count_of (usages_of c head) kind) counts all)
charge_at (counts ∷ all) (suc number) head kind =
    omega (arith, sum_by-cons (λ c. count_of (usages_of c head) kind) counts all, charge_at all number head kind)

pub candidate_within : (t : Tally) (number : ℕ) (head : StackDepth) (kind : PathKind)
    → count_of (usages_of (candidate_at t number) head) kind ≤ candidates_count t head kind
candidate_within t number head kind =
    omega (
      arith,
      charge_at (t.finished ++ unwrap_or t.current [] ∷ []) number head kind,
      sum_by_push (λ c. count_of (usages_of c head) kind) t.finished (unwrap_or t.current []),
    )

-- ---- what a goal counts

module _ (parent : ℕ) (t : Tally) where
  -- at its own place a goal counts its own usages, and elsewhere those of its heads
  pub counted_own : (head : StackDepth) → head.0 ≡ parent → counted parent t head ≡ t.own
  counted_own head own = rw (eq-eqb head.0 parent own) refl

  pub counted_other : (head : StackDepth) → head.0 ≢ parent → counted parent t head ≡ usages_in (at_depth t.heads head)
  counted_other head apart = rw (ne_eqb head.0 parent apart) refl

  -- of a head that is what is recorded of it
  pub counted_head : LieBelow parent t.heads → (head : StackDepth) (known : CycleHead)
      → at_depth t.heads head ≡ Some known → counted parent t head ≡ Some known.usages
  counted_head below head known at =
      let lower = below head (ap is_some at) in counted_other head (omega (arith, lower)) ∙ ap usages_in at

  -- what is spare is counted
  pub spare_within : Includes (spare_heads t) (heads_shape t.heads)
  spare_within = part_within t.heads (spare t) (λ head known at kind some. covers_some (count_of known.usages kind)
      (candidates_count t head kind + 1) ((spare_is t head known.usages kind).0 some) (omega arith))

  -- so is what a candidate used
  pub charge_within : IsTallied parent t → (c : Option ℕ) → Includes (heads_of t c) (heads_shape t.heads)
  charge_within h None = spare_within
  charge_within h (Some number) =
      part_within t.heads (λ head usages. usages_of (candidate_at t number) head) (λ head known at kind some.
      covers_some (count_of known.usages kind) (count_of (usages_of (candidate_at t number) head) kind)
      (covers_less (count_of known.usages kind) (candidates_count t head kind)
      (count_of (usages_of (candidate_at t number) head) kind)
      (subst (λ o. IsCovered (of_kind o kind) (candidates_count t head kind)) (counted_head h.lower head known at)
      (h.covered head kind)) (candidate_within t number head kind)) some)

-- what holds of a goal's own counts, and of those of its heads, holds of all
pub counted_by_place : (parent : StackDepth) (t u : Tally)
    (P : StackDepth → Option HeadUsages → Option HeadUsages → Type 0) → P parent t.own u.own → ((head : StackDepth)
    → head.0 ≢ parent.0 → P head (usages_in (at_depth t.heads head)) (usages_in (at_depth u.heads head)))
    → (head : StackDepth) → P head (counted parent.0 t head) (counted parent.0 u head)
counted_by_place parent t u P own others head = elim (cases_eq head.0 parent.0) [
  | inl same ↦
      let here : parent ≡ head = λ i. record { 0 = sym same i } in
      rw (eq-eqb head.0 parent.0 same) (subst (λ d. P d t.own u.own) here own)
  | inr apart ↦ rw (ne_eqb head.0 parent.0 apart) (others head apart)
]

-- ---- what a move keeps

-- A move keeps the heads with their paths; what a count covered beside what candidates used, it covers after it; and
-- candidates that stay used what they did.
pub record Carries (parent : ℕ) (t u : Tally) (Stays : Option ℕ → Type 0) : Type 0 where
  pub lower : LieBelow parent u.heads
  pub heads : (depth : StackDepth) (head : CycleHead) → at_depth t.heads depth ≡ Some head
      → IsSomeAnd (at_depth u.heads depth) (KeepsPaths head)
  pub covers : (head : StackDepth) (kind : PathKind) (m : ℕ)
      → IsCovered (of_kind (counted parent t head) kind) (candidates_count t head kind + m)
      → IsCovered (of_kind (counted parent u head) kind) (candidates_count u head kind + m)
  pub used : (number : ℕ) → Stays (Some number) → (head : StackDepth) (kind : PathKind)
      → count_of (usages_of (candidate_at t number) head) kind ≢ 0
      → count_of (usages_of (candidate_at u number) head) kind ≢ 0

module _ (parent : ℕ) (t u : Tally) (Stays : Option ℕ → Type 0)
    (move : Carries parent t u Stays) (h : IsTallied parent t) where
  -- what candidates used is covered still
  pub covered_still : (head : StackDepth) (kind : PathKind)
      → IsCovered (of_kind (counted parent u head) kind) (candidates_count u head kind)
  covered_still head kind =
      covers_less (of_kind (counted parent u head) kind)
      (candidates_count u head kind + 0) (candidates_count u head kind)
      (move.covers head kind 0 (covers_less (of_kind (counted parent t head) kind) (candidates_count t head kind)
      (candidates_count t head kind + 0) (h.covered head kind) (omega arith))) (omega arith)

  grows : (part more : HeadUsages → HeadUsages) (head : CycleHead) (new : Option CycleHead)
      → IsSomeAnd new (KeepsPaths head) → ((other : CycleHead) → new ≡ Some other → (kind : PathKind)
      → count_of (part head.usages) kind ≢ 0 → count_of (more other.usages) kind ≢ 0)
      → IsSomeAnd new (GrowsInto part more head)
  grows part more head None paths counts = absurd paths
  grows part more head (Some other) paths counts = (paths, counts other refl)

  -- what was spare stays spare, and what a candidate used stays with it
  pub carried : (c : Option ℕ) → Stays c → Includes (heads_of t c) (heads_of u c)
  carried None stays depth = grown_at (spare t (record { 0 = depth })) (spare u (record { 0 = depth }))
      (at_depth t.heads (record { 0 = depth })) (at_depth u.heads (record { 0 = depth })) (λ head at.
      grows (spare t (record { 0 = depth })) (spare u (record { 0 = depth })) head
      (at_depth u.heads (record { 0 = depth })) (move.heads (record { 0 = depth }) head at) (λ other is kind some.
      (spare_is u (record { 0 = depth }) other.usages kind).1
      (subst (λ o. IsCovered (of_kind o kind) (candidates_count u (record { 0 = depth }) kind + 1))
      (counted_head parent u move.lower (record { 0 = depth }) other is)
      (move.covers (record { 0 = depth }) kind 1
      (subst (λ o. IsCovered (of_kind o kind) (candidates_count t (record { 0 = depth }) kind + 1))
      (sym (counted_head parent t h.lower (record { 0 = depth }) head at))
      ((spare_is t (record { 0 = depth }) head.usages kind).0 some))))))
  carried (Some number) stays depth = grown_at (λ usages. usages_of (candidate_at t number) (record { 0 = depth }))
      (λ usages. usages_of (candidate_at u number) (record { 0 = depth })) (at_depth t.heads (record { 0 = depth }))
      (at_depth u.heads (record { 0 = depth })) (λ head at.
      grows (λ usages. usages_of (candidate_at t number) (record { 0 = depth }))
      (λ usages. usages_of (candidate_at u number) (record { 0 = depth })) head
      (at_depth u.heads (record { 0 = depth })) (move.heads (record { 0 = depth }) head at)
      (λ other is kind some. move.used number stays (record { 0 = depth }) kind some))

-- ---- candidates that are opened or finished

-- a goal's counts, where another candidate may be open and others may be finished
abbrev regrouped : Tally → Option UsagesByHead → List UsagesByHead → Tally
regrouped t current finished = record t { current = current; finished = finished }

-- each number has the candidate that it had
pub record IsRegrouped (t : Tally) (current : Option UsagesByHead) (finished : List UsagesByHead) : Type 0 where
  pub same : (number : ℕ) → candidate_at (regrouped t current finished) number ≡ candidate_at t number
  pub total : (head : StackDepth) (kind : PathKind)
      → candidates_count (regrouped t current finished) head kind ≡ candidates_count t head kind

module _ (parent : ℕ) (t : Tally) (current : Option UsagesByHead) (finished : List UsagesByHead)
    (r : IsRegrouped t current finished) (h : IsTallied parent t) where
  regrouped_carries : Carries parent t (regrouped t current finished) (λ _. Unit {0})
  regrouped_carries = record {
    lower = h.lower;
    heads = λ depth head at. subst (λ o. IsSomeAnd o (KeepsPaths head)) (sym at) (λ kind has. has);
    covers =
        λ head kind m. subst (λ n. IsCovered (of_kind (counted parent t head) kind) (n + m)) (sym (r.total head kind));
    used = λ number stays head kind. subst (λ c. count_of (usages_of c head) kind ≢ 0) (sym (r.same number));
  }

  -- so the goal's counts agree, and candidates used what they did
  pub regrouped_tallied : IsTallied parent (regrouped t current finished)
  regrouped_tallied = record {
    lower = h.lower;
    known = λ number head there. h.known number head (subst (λ c. IsSome (at_depth c head)) (r.same number) there);
    bounded = λ number head kind.
        subst (λ c. count_of (usages_of c head) kind ≤ 2 ^ 32 - 1) (sym (r.same number)) (h.bounded number head kind);
    covered = covered_still parent t (regrouped t current finished) (λ _. Unit {0}) regrouped_carries h;
  }

  pub regrouped_keeps : (c : Option ℕ) → Includes (heads_of t c) (heads_of (regrouped t current finished) c)
  regrouped_keeps c = carried parent t (regrouped t current finished) (λ _. Unit {0}) regrouped_carries h c tt

-- a candidate that is opened used nothing yet
pub entered_regroups : (t : Tally) → t.current ≡ None → IsRegrouped t (Some []) t.finished
entered_regroups t none_open = record {
  same = λ number. ap (λ o. unwrap_or (slice_get (t.finished ++ unwrap_or o [] ∷ []) number) []) (sym none_open);
  total = λ head kind. ap (λ o. count_of (usages_of (unwrap_or o []) head) kind
      + sum_by (λ counts. count_of (usages_of counts head) kind) t.finished) (sym none_open);
}

-- a list with an empty candidate at its end has nothing new
padded : (all : List UsagesByHead) (number : ℕ)
    → unwrap_or (slice_get (all ++ [] ∷ []) number) [] ≡ unwrap_or (slice_get all number) []
padded [] zero = refl
padded [] (suc number) = refl
padded (counts ∷ all) zero = refl
padded (counts ∷ all) (suc number) = padded all number

-- the open candidate keeps its number when it is finished
pub finished_regroups : (t : Tally) (counts : UsagesByHead) → t.current ≡ Some counts
    → IsRegrouped t None (t.finished ++ counts ∷ [])
finished_regroups t counts is_open = record {
  same = λ number. padded (t.finished ++ counts ∷ []) number
      ∙ ap (λ o. unwrap_or (slice_get (t.finished ++ unwrap_or o [] ∷ []) number) []) (sym is_open);
  total = λ head kind.
      let nothing = none_counted kind in
      let whole = sum_by_push (λ c. count_of (usages_of c head) kind) t.finished counts in
      let was = ap (λ o. count_of (usages_of (unwrap_or o []) head) kind) is_open in
      omega (arith, nothing, whole, was);
}

-- ---- a run that begins

-- without candidates all that is counted is spare
without_candidates : (parent : ℕ) (heads : Heads) (own : Option HeadUsages) → LieBelow parent heads
    → IsTallied parent (record { heads = heads; own = own; current = None; finished = [] })
without_candidates parent heads own lower = record {
  lower = lower;
  known = λ number head there. absurd (false≢true (subst (λ c. IsSome (at_depth c head)) (padded [] number) there));
  bounded = λ number head kind. subst (λ c. count_of (usages_of c head) kind ≤ 2 ^ 32 - 1) (sym (padded [] number))
      (let nothing = none_counted kind in omega (arith, nothing));
  covered = λ head kind. inr (let nothing = none_counted kind in omega (arith, nothing));
}

pub rerun_tallied : (parent : ℕ) (t : Tally) → IsTallied parent t
    → IsTallied parent (record t { own = Some no_usages; current = None; finished = [] })
rerun_tallied parent t h = without_candidates parent t.heads (Some no_usages) h.lower

pub rerun_keeps : (t : Tally)
    → Includes (heads_shape t.heads) (spare_heads (record t { own = Some no_usages; current = None; finished = [] }))
rerun_keeps t depth path cycle is =
    same_heads t.heads (λ _ usages. usages) (spare (record t { own = Some no_usages; current = None; finished = [] }))
    (λ head known at kind some. (spare_is (record t { own = Some no_usages; current = None; finished = [] }) head
    known.usages kind).1 (inr (let nothing = none_counted kind in omega (arith, nothing, some))))
    depth path cycle (subst (λ own. IsIn own path cycle) (sym (whole (at_depth t.heads (record { 0 = depth })))) is)

-- a goal that is pushed counts nothing
pub fresh_tallied : (parent : ℕ) → IsTallied parent (record { heads = []; own = None; current = None; finished = [] })
fresh_tallied parent = without_candidates parent [] None (λ head there. absurd (false≢true there))
