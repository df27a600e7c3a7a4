-- What heads record once paths and usages were joined to one of them, in the words of the theory of open graphs.
use Rattle.std.proofs.Common.{◌≡◌, ◌≢◌, ℕ, zero, suc, min, max, IsTrue, Option, Some, None, refl, sym, ap, ◌∙◌}
use Rattle.std.proofs.Common.{subst, arith}
use Rattle.std.proofs.lemmas.Bool.{or_right}
use Rattle.cycle_heads.specs.Words.{CycleHead, HeadUsages, joined_head, has_rank, count_at, head_shape, count_of}
use Rattle.cycle_heads.specs.Words.{sticking_sum, with_nested}
use Rattle.cycle_heads.specs.Below.{PathKind, Inductive, Unknown, Coinductive, ForcedAmbiguity, PathsToNested, rank_of}
use Rattle.cycle_heads.specs.Below.{greater_kind, extended, has_kind}
use Rattle.cycle_heads.proofs.Counts.{count_of-usages_by}
use Rattle.path_kinds.proofs.PathLaws.{has_kind-union}
use Rattle.path_kinds.proofs.PathMembers.{extended-has}
use Rattle.path_kinds.proofs.PathRanks.{each_kind, greater_rank}

-- ---- kinds and their ranks

pub path_of_rank : (paths : PathsToNested) (n : ℕ) → IsTrue (has_rank paths n)
    → (kind : PathKind) × (rank_of kind ≡ n) × IsTrue (has_kind paths kind)
path_of_rank paths zero has = (Inductive, refl, has)
path_of_rank paths (suc zero) has = (Unknown, refl, has)
path_of_rank paths (suc (suc zero)) has = (Coinductive, refl, has)
path_of_rank paths (suc (suc (suc zero))) has = (ForcedAmbiguity, refl, has)
path_of_rank paths (suc (suc (suc (suc n)))) has = absurd cc

pub cycle_of_rank : (usages : HeadUsages) (n : ℕ) → count_at usages n ≢ 0
    → (kind : PathKind) × (rank_of kind ≡ n) × (count_of usages kind ≢ 0)
cycle_of_rank usages zero some = (Inductive, refl, some)
cycle_of_rank usages (suc zero) some = (Unknown, refl, some)
cycle_of_rank usages (suc (suc zero)) some = (Coinductive, refl, some)
cycle_of_rank usages (suc (suc (suc zero))) some = (ForcedAmbiguity, refl, some)
cycle_of_rank usages (suc (suc (suc (suc n)))) some = absurd (some refl)

pub has_rank-of : (paths : PathsToNested) (kind : PathKind) → has_rank paths (rank_of kind) ≡ has_kind paths kind
has_rank-of paths = each_kind (λ kind. has_rank paths (rank_of kind) ≡ has_kind paths kind) refl refl refl refl

pub count_at-of : (usages : HeadUsages) (kind : PathKind) → count_at usages (rank_of kind) ≡ count_of usages kind
count_at-of usages = each_kind (λ kind. count_at usages (rank_of kind) ≡ count_of usages kind) refl refl refl refl

-- ---- joined heads

nested_right : (usages nested : HeadUsages) (kind : PathKind) → count_of nested kind ≢ 0
    → count_of (with_nested usages nested) kind ≢ 0
nested_right usages nested kind some none =
    let sum =
    sym (count_of-usages_by (λ k. sticking_sum (count_of usages k) (min (count_of nested k) 1)) kind) ∙ none in
    some (omega (arith, sum))

-- a head is recorded with a path and a cycle of these kinds
abbrev pub HasBoth : PathsToNested → HeadUsages → PathKind → PathKind → Type 0
HasBoth paths usages path cycle = IsTrue (has_kind paths path) × (count_of usages cycle ≢ 0)

-- the same by ranks, of what may be a head
abbrev pub IsIn : Option CycleHead → ℕ → ℕ → Type 0
IsIn head path cycle = IsTrue ((head_shape head).paths path) × ((head_shape head).usages cycle ≢ 0)

pub in_head : (head : CycleHead) (path cycle : PathKind) → HasBoth head.paths_to_head head.usages path cycle
    → IsIn (Some head) (rank_of path) (rank_of cycle)
in_head head path cycle both = (
  subst IsTrue (sym (has_rank-of head.paths_to_head path)) both.0,
  λ none. both.1 (sym (count_at-of head.usages cycle) ∙ none),
)

-- the kinds of what is recorded
pub record KindsIn (head : CycleHead) (path cycle : ℕ) : Type 0 where
  pub path_kind : PathKind
  pub cycle_kind : PathKind
  pub path_is : rank_of path_kind ≡ path
  pub cycle_is : rank_of cycle_kind ≡ cycle
  pub both : HasBoth head.paths_to_head head.usages path_kind cycle_kind

pub kinds_in_head : (head : CycleHead) (path cycle : ℕ) → IsIn (Some head) path cycle → KindsIn head path cycle
kinds_in_head head path cycle is =
    let p = path_of_rank head.paths_to_head path is.0 in
    let c = cycle_of_rank head.usages cycle is.1 in
    record { path_kind = p.0; cycle_kind = c.0; path_is = p.1; cycle_is = c.1; both = (p.2, c.2) }

-- and records that
pub joined_adds : (own : Option CycleHead) (paths : PathsToNested) (usages : HeadUsages) (path cycle : PathKind)
    → HasBoth paths usages path cycle → IsIn (Some (joined_head own paths usages)) (rank_of path) (rank_of cycle)
joined_adds None paths usages path cycle both = in_head (joined_head None paths usages) path cycle both
joined_adds (Some head) paths usages path cycle both =
    in_head (joined_head (Some head) paths usages) path cycle (
      subst IsTrue (sym (has_kind-union head.paths_to_head paths path))
          (or_right (has_kind head.paths_to_head path) (has_kind paths path) both.0),
      nested_right head.usages usages cycle both.1,
    )

-- paths that are joined after a step have the greater kind
pub joined_after : (own : Option CycleHead) (head : CycleHead) (step : PathKind) (path cycle : ℕ)
    → IsIn (Some head) path cycle
    → IsIn (Some (joined_head own (extended head.paths_to_head step) head.usages)) (max (rank_of step) path) cycle
joined_after own head step path cycle is =
    let k = kinds_in_head head path cycle is in
    let added = joined_adds own (extended head.paths_to_head step) head.usages (greater_kind step k.path_kind)
    k.cycle_kind (extended-has head.paths_to_head step k.path_kind k.both.0, k.both.1) in
    subst (λ c. IsIn (Some (joined_head own (extended head.paths_to_head step) head.usages))
    (max (rank_of step) path) c) k.cycle_is
    (subst (λ p. IsIn (Some (joined_head own (extended head.paths_to_head step) head.usages)) p (rank_of k.cycle_kind))
    (sym (greater_rank step k.path_kind) ∙ ap (max (rank_of step)) k.path_is) added)
