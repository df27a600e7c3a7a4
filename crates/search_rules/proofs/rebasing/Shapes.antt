-- The heads of a rebased entry in the theory's words: those of the goal that is done are inserted, and its
-- own place is taken out.
use Rattle.std.proofs.Common.{◌≡◌, ◌≢◌, ℕ, zero, suc, ◌+◌, ◌-◌, ◌^◌, min, ◌<◌, Bool, true, false, IsTrue, ◌||◌, [], ◌∷◌}
use Rattle.std.proofs.Common.{fold, Option, Some, None, IsSome, option_map, refl, sym, ap, ◌∙◌, subst, ◌⊎◌, inl}
use Rattle.std.proofs.Common.{inr, arith}
use Rattle.std.proofs.lemmas.Bool.{cases_eq, false≢true}
use Rattle.open_graphs.specs.Use as theory
use Rattle.search_rules.specs.Below.{IsInserted, IsJoined, InsertsHeads, InsertsEmpty, IsLeftHead, StackDepth, PathKind}
use Rattle.search_rules.specs.Below.{Inductive, Unknown, Coinductive, ForcedAmbiguity, PathsToNested, CycleHead}
use Rattle.search_rules.specs.Below.{HeadUsages, Heads, at_depth, highest, joined_head, with_head, has_rank, count_at}
use Rattle.search_rules.specs.Below.{head_shape, heads_shape, rank_of, greater_kind, extended_by_each, has_kind}
use Rattle.search_rules.specs.Below.{path_of_no_step, union, count_of, no_usages, sticking_sum, with_nested}
use Rattle.search_rules.specs.Below.{but_highest, with_unused, with_used}
use Rattle.cycle_heads.proofs.Counts.{count_of-usages_by}
use Rattle.cycle_heads.proofs.HeadLists.{at_depth-insert_same, at_depth-insert_other}
use Rattle.cycle_heads.proofs.HeadShapes.{has_rank-of, path_of_rank}
use Rattle.path_kinds.proofs.PathLaws.{has_kind-union}
use Rattle.path_kinds.proofs.PathMembers.{extended-has, extended_by_each-kinds}
use Rattle.path_kinds.proofs.PathRanks.{greater_rank}
use Rattle.search_rules.specs.Words.{depths_of, LieBelow}
use Rattle.search_rules.proofs.rebasing.HeadOrder.{Ascends, at_here, at_later, highest_gone, highest_there}
use Rattle.search_rules.proofs.rebasing.HeadOrder.{insert_ascends, left_ascends, others_stay, same_depth}

-- ---- one head that is joined

-- a path of this kind has this rank
pub rank_has : (paths : PathsToNested) (kind : PathKind) (n : ℕ) → rank_of kind ≡ n
    → IsTrue (has_kind paths kind) → IsTrue (has_rank paths n)
rank_has paths kind n is has =
    subst (λ m. IsTrue (has_rank paths m)) is (subst IsTrue (sym (has_rank-of paths kind)) has)

either_holds : (a b : Bool) → IsTrue a ⊎ IsTrue b → IsTrue (a || b)
either_holds true b is = refl
either_holds false b (inl is) = absurd (false≢true is)
either_holds false b (inr is) = is

union_has : (some more : PathsToNested) (kind : PathKind) → IsTrue (has_kind some kind) ⊎ IsTrue (has_kind more kind)
    → IsTrue (has_kind (union some more) kind)
union_has some more kind is =
    subst IsTrue (sym (has_kind-union some more kind)) (either_holds (has_kind some kind) (has_kind more kind) is)

nested_some : (usages nested : HeadUsages) (kind : PathKind) → (count_of usages kind ≢ 0) ⊎ (count_of nested kind ≢ 0)
    → count_of (with_nested usages nested) kind ≢ 0
nested_some usages nested kind is none = elim is [
  | inl some ↦ absurd (some (omega (arith, sum_is_none)))
  | inr some ↦ absurd (some (omega (arith, sum_is_none)))
]
  where
    sum_is_none : min (count_of usages kind + min (count_of nested kind) 1) (2 ^ 32 - 1) ≡ 0
    sum_is_none =
        sym (count_of-usages_by (λ k. sticking_sum (count_of usages k) (min (count_of nested k) 1)) kind) ∙ none

nested_counted : (usages nested : HeadUsages) (n : ℕ) → (count_at usages n ≢ 0) ⊎ (count_at nested n ≢ 0)
    → count_at (with_nested usages nested) n ≢ 0
nested_counted usages nested zero is = nested_some usages nested Inductive is
nested_counted usages nested (suc zero) is = nested_some usages nested Unknown is
nested_counted usages nested (suc (suc zero)) is = nested_some usages nested Coinductive is
nested_counted usages nested (suc (suc (suc zero))) is = nested_some usages nested ForcedAmbiguity is
nested_counted usages nested (suc (suc (suc (suc n)))) is =
    elim is [ inl some ↦ absurd (some refl) | inr some ↦ absurd (some refl) ]

-- a head that is joined to what may be one keeps what that recorded, and adds its own
joined_inserts : (own : Option CycleHead) (paths : PathsToNested) (usages : HeadUsages) → IsInserted (head_shape own)
    (λ path. IsTrue (has_rank paths path)) (count_at usages) (head_shape (Some (joined_head own paths usages)))
joined_inserts None paths usages = record {
  stays = λ path has. absurd (false≢true has);
  added = λ path has. has;
  counted = λ cycle some. elim some [ inl own ↦ absurd (own refl) | inr more ↦ more ];
}
joined_inserts (Some head) paths usages = record {
  stays = λ path has. let k = path_of_rank head.paths_to_head path has in
      rank_has (union head.paths_to_head paths) k.0 path k.1 (union_has head.paths_to_head paths k.0 (inl k.2));
  added = λ path has. let k = path_of_rank paths path has in
      rank_has (union head.paths_to_head paths) k.0 path k.1 (union_has head.paths_to_head paths k.0 (inr k.2));
  counted = nested_counted head.usages usages;
}

-- what is inserted later takes nothing away
then_inserted : (before next last : theory.Head) (paths more : ℕ → Type 0) (usages more_usages : ℕ → ℕ)
    → IsInserted before paths usages next → IsInserted next more more_usages last → IsInserted before paths usages last
then_inserted before next last paths more usages more_usages first second = record {
  stays = λ path has. second.stays path (first.stays path has);
  added = λ path has. second.stays path (first.added path has);
  counted = λ cycle some. second.counted cycle (inl (first.counted cycle some));
}

-- an insertion of more is one of less
inserts_less : (before after : theory.Head) (paths less : ℕ → Type 0) (usages less_usages : ℕ → ℕ)
    → ((path : ℕ) → less path → paths path) → ((cycle : ℕ) → less_usages cycle ≢ 0 → usages cycle ≢ 0)
    → IsInserted before paths usages after → IsInserted before less less_usages after
inserts_less before after paths less usages less_usages of_paths of_usages inserted = record {
  stays = inserted.stays;
  added = λ path has. inserted.added path (of_paths path has);
  counted =
      λ cycle some. inserted.counted cycle (elim some [ inl own ↦ inl own | inr more ↦ inr (of_usages cycle more) ]);
}

-- ---- all heads of the goal that is done

module _ (paths : CycleHead → PathsToNested) (usages : CycleHead → HeadUsages) where
  -- the heads with others, each with the paths and usages that are given for it
  abbrev pub with_all : Heads → Heads → Heads
  with_all done own = fold (λ heads head. with_head heads head.0 (paths head.1) (usages head.1)) own done

  -- what is joined for a head
  abbrev pub what_joins : CycleHead → CycleHead
  what_joins head = record { paths_to_head = paths head; usages = usages head }

  abbrev next_heads : StackDepth × CycleHead → Heads → Heads
  next_heads e own = with_head own e.0 (paths e.1) (usages e.1)

  next_here : (e : StackDepth × CycleHead) (own : Heads) (depth : StackDepth) → depth.0 ≡ e.0.0
      → at_depth (next_heads e own) depth ≡ Some (joined_head (at_depth own depth) (paths e.1) (usages e.1))
  next_here e own depth is =
      let first : at_depth (next_heads e own) e.0 ≡ Some (joined_head (at_depth own e.0) (paths e.1) (usages e.1)) =
      at_depth-insert_same e.0 (joined_head (at_depth own e.0) (paths e.1) (usages e.1)) own in
      subst (λ d. at_depth (next_heads e own) d ≡ Some (joined_head (at_depth own d) (paths e.1) (usages e.1)))
      (sym (same_depth depth e.0 is)) first

  next_other : (e : StackDepth × CycleHead) (own : Heads) (depth : StackDepth) → depth.0 ≢ e.0.0
      → at_depth (next_heads e own) depth ≡ at_depth own depth
  next_other e own depth other =
      at_depth-insert_other e.0 (joined_head (at_depth own e.0) (paths e.1) (usages e.1)) own depth other

  -- what is inserted at a depth
  abbrev pub Inserts : Option CycleHead → Option CycleHead → Option CycleHead → Type 0
  Inserts own more after =
      IsInserted (head_shape own) (λ path. IsTrue ((head_shape (option_map what_joins more)).paths path))
      (head_shape (option_map what_joins more)).usages (head_shape after)

  pub all_inserted : (done own : Heads) (depth : StackDepth)
      → Inserts (at_depth own depth) (at_depth done depth) (at_depth (with_all done own) depth)
  all_inserted [] own depth = record {
    stays = λ path has. has;
    added = λ path has. absurd (false≢true has);
    counted = λ cycle some. elim some [ inl own ↦ own | inr more ↦ absurd (more refl) ];
  }
  all_inserted (e ∷ es) own depth = elim (cases_eq depth.0 e.0.0) [
    | inl same ↦ subst (λ o. Inserts (at_depth own depth) o (at_depth (with_all es (next_heads e own)) depth))
        (sym (at_here e es depth same)) (then_inserted
        (head_shape (at_depth own depth))
        (head_shape (Some (joined_head (at_depth own depth) (paths e.1) (usages e.1))))
        (head_shape (at_depth (with_all es (next_heads e own)) depth))
        (λ path. IsTrue (has_rank (paths e.1) path))
        (λ path. IsTrue ((head_shape (option_map what_joins (at_depth es depth))).paths path))
        (count_at (usages e.1))
        (head_shape (option_map what_joins (at_depth es depth))).usages
        (joined_inserts (at_depth own depth) (paths e.1) (usages e.1))
        (subst (λ o. Inserts o (at_depth es depth) (at_depth (with_all es (next_heads e own)) depth))
        (next_here e own depth same) (all_inserted es (next_heads e own) depth)))
    | inr other ↦ subst (λ o. Inserts (at_depth own depth) o (at_depth (with_all es (next_heads e own)) depth))
        (sym (at_later e es depth other))
        (subst (λ o. Inserts o (at_depth es depth) (at_depth (with_all es (next_heads e own)) depth))
        (next_other e own depth other) (all_inserted es (next_heads e own) depth))
  ]

  -- the depths are those of both
  pub all_there : (done own : Heads) (depth : StackDepth) → IsSome (at_depth own depth) ⊎ IsSome (at_depth done depth)
      → IsSome (at_depth (with_all done own) depth)
  all_there [] own depth is = elim is [ inl some ↦ some | inr some ↦ absurd (false≢true some) ]
  all_there (e ∷ es) own depth is = elim (cases_eq depth.0 e.0.0) [
    | inl same ↦ all_there es (next_heads e own) depth (inl (subst IsSome (sym (next_here e own depth same)) refl))
    | inr other ↦ all_there es (next_heads e own) depth (elim is [
      | inl some ↦ inl (subst IsSome (sym (next_other e own depth other)) some)
      | inr some ↦ inr (subst IsSome (at_later e es depth other) some)
    ])
  ]

  pub there_of : (done own : Heads) (depth : StackDepth) → IsSome (at_depth (with_all done own) depth)
      → IsSome (at_depth own depth) ⊎ IsSome (at_depth done depth)
  there_of [] own depth some = inl some
  there_of (e ∷ es) own depth some = elim (cases_eq depth.0 e.0.0) [
    | inl same ↦ inr (subst IsSome (sym (at_here e es depth same)) refl)
    | inr other ↦ elim (there_of es (next_heads e own) depth some) [
      | inl next ↦ inl (subst IsSome (next_other e own depth other) next)
      | inr later ↦ inr (subst IsSome (sym (at_later e es depth other)) later)
    ]
  ]

  pub all_ascends : (done own : Heads) → Ascends own → Ascends (with_all done own)
  all_ascends [] own asc = asc
  all_ascends (e ∷ es) own asc = all_ascends es (next_heads e own)
      (insert_ascends e.0 (joined_head (at_depth own e.0) (paths e.1) (usages e.1)) own asc)

  -- ---- without the place of the goal that is done

  module _ (old done : Heads) (top : StackDepth × CycleHead) (popped : ℕ) (asc : Ascends old)
      (top_is : highest old ≡ Some top) (at : top.0.0 ≡ popped) (lower : LieBelow popped done) where
    -- the new heads are those that are left of the old ones and of the goal's
    pub left_there : (depth : StackDepth) → IsSome (at_depth (with_all done (but_highest old)) depth)
        → IsLeftHead popped (depths_of old) (depths_of done) depth.0
    left_there depth some = elim (there_of done (but_highest old) depth some) [
      | inl own ↦ elim (cases_eq depth.0 popped) [
        | inl same ↦ absurd (false≢true (subst IsSome (highest_gone old top asc top_is depth (same ∙ sym at)) own))
        | inr other ↦ (other, inl (subst IsSome (others_stay old top top_is depth (λ same. other (same ∙ at))) own))
      ]
      | inr more ↦ let below = lower depth more in ((λ same. absurd (omega (arith, below, same))), inr more)
    ]

    pub there_left : (depth : ℕ) → IsLeftHead popped (depths_of old) (depths_of done) depth
        → IsSome (at_depth (with_all done (but_highest old)) (record { 0 = depth }))
    there_left depth (other, is) = all_there done (but_highest old) (record { 0 = depth }) (elim is [
      | inl own ↦
          inl (subst IsSome (sym (others_stay old top top_is (record { 0 = depth }) (λ same. other (same ∙ at)))) own)
      | inr more ↦ inr more
    ])

    pub new_ascends : Ascends (with_all done (but_highest old))
    new_ascends = all_ascends done (but_highest old) (left_ascends old asc)

    pub left_inserted : (depth : ℕ) → depth < popped → Inserts (at_depth old (record { 0 = depth }))
        (at_depth done (record { 0 = depth })) (at_depth (with_all done (but_highest old)) (record { 0 = depth }))
    left_inserted depth below =
        subst (λ o. Inserts o (at_depth done (record { 0 = depth }))
        (at_depth (with_all done (but_highest old)) (record { 0 = depth })))
        (others_stay old top top_is (record { 0 = depth }) (λ same. absurd (omega (arith, same, at, below))))
        (all_inserted done (but_highest old) (record { 0 = depth }))

-- ---- the two ways to insert

module _ (old done : Heads) (top : StackDepth × CycleHead) (popped : ℕ) (asc : Ascends old)
    (top_is : highest old ≡ Some top) (at : top.0.0 ≡ popped) (lower : LieBelow popped done) where
  pub inserts_empty : InsertsEmpty popped (heads_shape old) (heads_shape (with_unused done (but_highest old)))
  inserts_empty depth below =
      let more = at_depth done (record { 0 = depth }) in
      let joins = what_joins (λ _. path_of_no_step) (λ _. no_usages) in
      inserts_less (heads_shape old depth) (heads_shape (with_unused done (but_highest old)) depth)
      (λ path. IsTrue ((head_shape (option_map joins more)).paths path)) (λ path. ⊥)
      (head_shape (option_map joins more)).usages (λ cycle. 0)
      (λ path none. absurd none) (λ cycle some. absurd (some refl))
      (left_inserted (λ _. path_of_no_step) (λ _. no_usages) old done top popped asc top_is at lower depth below)

  abbrev joins_used : CycleHead → CycleHead
  joins_used = what_joins (λ head. extended_by_each top.1.paths_to_head head.paths_to_head) (λ head. head.usages)

  -- the head at the place of the goal that is done
  pub popped_head : heads_shape old popped ≡ head_shape (Some top.1)
  popped_head = ap (λ d. head_shape (at_depth old d)) (same_depth (record { 0 = popped }) top.0 (sym at))
      ∙ ap head_shape (highest_there old top asc top_is)

  path_joins : (more : Option CycleHead) (path : ℕ)
      → IsJoined (heads_shape old popped).paths (head_shape more).paths path
      → IsTrue ((head_shape (option_map joins_used more)).paths path)
  path_joins None path joined = absurd (false≢true joined.has_rest)
  path_joins (Some head) path joined =
      let start = path_of_rank top.1.paths_to_head joined.start
      (subst (λ h. IsTrue (h.paths joined.start)) popped_head joined.has_start) in
      let rest = path_of_rank head.paths_to_head joined.rest joined.has_rest in
      rank_has (extended_by_each top.1.paths_to_head head.paths_to_head) (greater_kind rest.0 start.0) path
      (sym (greater_rank rest.0 start.0)
      ∙ (let whole = joined.whole in let first = start.1 in let second = rest.1 in omega (arith, whole, first, second)))
      ((extended_by_each-kinds top.1.paths_to_head head.paths_to_head (greater_kind rest.0 start.0)).1
      (rest.0, rest.2, extended-has top.1.paths_to_head rest.0 start.0 start.2))

  usage_joins : (more : Option CycleHead) (cycle : ℕ) → (head_shape more).usages cycle ≢ 0
      → (head_shape (option_map joins_used more)).usages cycle ≢ 0
  usage_joins None cycle some = some
  usage_joins (Some head) cycle some = some

  pub inserts_heads : InsertsHeads popped (heads_shape old) (heads_shape done)
      (heads_shape (with_used done top.1.paths_to_head (but_highest old)))
  inserts_heads depth below =
      let more = at_depth done (record { 0 = depth }) in
      inserts_less (heads_shape old depth) (heads_shape (with_used done top.1.paths_to_head (but_highest old)) depth)
      (λ path. IsTrue ((head_shape (option_map joins_used more)).paths path))
      (IsJoined (heads_shape old popped).paths (heads_shape done depth).paths)
      (head_shape (option_map joins_used more)).usages (heads_shape done depth).usages
      (path_joins more) (usage_joins more)
      (left_inserted (λ head. extended_by_each top.1.paths_to_head head.paths_to_head) (λ head. head.usages) old done
      top popped asc top_is at lower depth below)
