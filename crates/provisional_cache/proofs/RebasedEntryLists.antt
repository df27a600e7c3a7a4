-- What rebasing leaves of lists of entries are such lists: each entry rests on a head.
use Rattle.std.proofs.Common.{◌≡◌, ◌≢◌, ◌≤◌, Bool, true, false, nat_eq, if◌then◌else◌, length, List, [], ◌∷◌, All}
use Rattle.std.proofs.Common.{Option, Some, None, Result, Ok, Err, OnOk, OnErr, refl, sym, ap, ◌∙◌, subst}
use Rattle.std.proofs.lemmas.List.Elements.{All-nil, All-cons, All-head, All-tail}
use Rattle.std.specs.List.{cons_option, filter_map}
use Rattle.std.specs.Map.{lookup}
use Rattle.std.specs.Option.{option_map, option_and_then, IfSome}
use Rattle.provisional_cache.specs.Below.{StackDepth, CycleHead, HeadUsages, highest, greater_kind}
use Rattle.provisional_cache.specs.Below.{has_usages, StackEntry}
use Rattle.provisional_cache.specs.Words.{ProvisionalCacheEntry, Lists, entries_at, but_highest, from_head}
use Rattle.provisional_cache.specs.Words.{from_new_head, keeps_kinds, rebased, rebased_at, rebased_used, rebased_unused}
use Rattle.provisional_cache.specs.Words.{with_unused, with_used, CanBeRebased}
use Rattle.provisional_cache.specs.Provisional.{AreEntryLists}
use Rattle.provisional_cache.proofs.ProvisionalLists.{heads_at, lists_from}

-- what holds of each thing that f makes holds of all that it leaves
pub All-filter_map : {X Y : Type 0} (P : X → Type 0) (Q : Y → Type 0) (f : X → Option Y)
    → ((x : X) (y : Y) → P x → f x ≡ Some y → Q y)
    → (xs : List X) → All P xs → All Q (filter_map f xs)
All-filter_map P Q f makes [] all = All-nil Q
All-filter_map {X} {Y} P Q f makes (x ∷ xs) all =
    let later : All Q (filter_map f xs) = All-filter_map P Q f makes xs (All-tail P x xs all) in
    let here : P x = All-head P x xs all in
    let R : Option Y → Type 0 = λ o. f x ≡ o → All Q (cons_option o (filter_map f xs)) in
    (elim (f x) as R [
      | Some y ↦ λ is. All-cons Q y (filter_map f xs) (makes x y here is) later
      | None ↦ λ is. later
    ]) refl

module _ {X I R A T : Type 0} (stack : List (StackEntry X I R A T)) (done : StackEntry X I R A T) where
  -- an entry with a new highest head has one
  from_new_head-some : (entry after : ProvisionalCacheEntry X I R A T)
      → from_new_head stack done entry ≡ Some after → after.heads ≢ []
  from_new_head-some entry after is =
      let P : Option (StackDepth × CycleHead) → Type 0 = λ o.
      option_map (λ (head : StackDepth × CycleHead). record entry {
        path_from_head = greater_kind entry.path_from_head (from_head stack done head.0.0);
      }) o ≡ Some after → (o ≡ None → ⊥) × (after.heads ≡ entry.heads) in
      let both = (elim (highest entry.heads) as P [ None ↦ λ e. absurd cc | Some head ↦ λ e. (λ none. cc, cc) ]) is in
      λ none. both.0 (ap highest (sym both.1 ∙ none))

  module _
      (change_entry : HeadUsages → ProvisionalCacheEntry X I R A T → Option (ProvisionalCacheEntry X I R A T)) where
    used-some : (entry after : ProvisionalCacheEntry X I R A T) (head : CycleHead)
        → rebased_used stack done change_entry entry head ≡ Some after → after.heads ≢ []
    used-some entry after head =
        let becomes = λ (e : ProvisionalCacheEntry X I R A T). from_new_head stack done (record e {
          heads = with_used done.state.heads head.paths_to_head (but_highest e.heads);
        }) in
        let P : Option (ProvisionalCacheEntry X I R A T) → Type 0 =
        λ o. option_and_then becomes o ≡ Some after → after.heads ≢ [] in
        let after_change : (o : Option (ProvisionalCacheEntry X I R A T)) → P o = λ o. elim o as P [
          | None ↦ λ e. absurd cc
          | Some s ↦ λ e. from_new_head-some (record s {
            heads = with_used done.state.heads head.paths_to_head (but_highest s.heads);
          }) after e
        ] in
        let Q : Bool → Type 0 = λ b. (if b then option_and_then becomes (change_entry head.usages entry) else None)
        ≡ Some after → after.heads ≢ [] in
        elim (keeps_kinds stack done entry.path_from_head head.paths_to_head) as Q [
          | true ↦ after_change (change_entry head.usages entry)
          | false ↦ λ e. absurd cc
        ]

    pub rebased-some : (entry after : ProvisionalCacheEntry X I R A T) → entry.heads ≢ []
        → rebased stack done change_entry entry ≡ Some after → after.heads ≢ []
    rebased-some entry after some =
        let stays : Some entry ≡ Some after → after.heads ≢ [] =
        λ e. let same : entry ≡ after = cc in subst (λ x. x.heads ≢ []) same some in
        let at : (head : StackDepth × CycleHead)
        → rebased_at stack done change_entry entry (Some head) ≡ Some after → after.heads ≢ [] = λ head.
        let P : Bool → Type 0 =
        λ used. (if used then rebased_used stack done change_entry entry head.1 else rebased_unused stack done entry)
        ≡ Some after → after.heads ≢ [] in
        let moved : (used : Bool) → P used = λ used. elim used as P [
          | true ↦ used-some entry after head.1
          | false ↦
              from_new_head-some (record entry { heads = with_unused done.state.heads (but_highest entry.heads) }) after
        ] in
        let Q : Bool → Type 0 = λ here.
        (if here then (if has_usages head.1.usages then rebased_used stack done change_entry entry head.1
        else rebased_unused stack done entry) else Some entry) ≡ Some after → after.heads ≢ [] in
        (elim (nat_eq head.0.0 (length stack)) as Q [ true ↦ moved (has_usages head.1.usages) | false ↦ stays ]) in
        let R : Option (StackDepth × CycleHead) → Type 0 =
        λ o. rebased_at stack done change_entry entry o ≡ Some after → after.heads ≢ [] in
        elim (highest entry.heads) as R [ None ↦ stays | Some head ↦ at head ]

  module _ (same : I → I → Bool) (old new : Lists I (ProvisionalCacheEntry X I R A T))
      (kept : AreEntryLists same old) where
    -- the entries can be rebased where their heads are on the stack or at the place above it
    pub can_be_rebased :
        ((input : I) → All (λ entry. All (λ head. head.0.0 ≤ length stack) entry.heads) (entries_at same old input))
        → (input : I) → All (CanBeRebased (length stack)) (entries_at same old input)
    can_be_rebased within input =
        λ k d lt. record { some = heads_at same old input kept k d lt; within = within input k d lt }

    pub lists_rebased :
        (change_entry : I → HeadUsages → ProvisionalCacheEntry X I R A T → Option (ProvisionalCacheEntry X I R A T))
        → ((input : I)
        → entries_at same new input ≡ filter_map (rebased stack done (change_entry input)) (entries_at same old input))
        → ((input : I) → IfSome (lookup (same input) new) (λ es. es ≢ []))
        → AreEntryLists same new
    lists_rebased change_entry leaves some =
        lists_from same new
        (λ input. subst (All (λ e. e.heads ≢ [])) (sym (leaves input))
        (All-filter_map (λ e. e.heads ≢ []) (λ e. e.heads ≢ []) (rebased stack done (change_entry input))
        (λ entry after rests is. rebased-some (change_entry input) entry after rests is)
        (entries_at same old input) (heads_at same old input kept)))
        some

    -- and so where a refusal leaves none
    pub rebased_or_none : {E : Type 0}
        (change_entry : I → HeadUsages → ProvisionalCacheEntry X I R A T → Option (ProvisionalCacheEntry X I R A T))
        (r : Result (Unit {0}) E)
        → OnOk r ((input : I)
        → entries_at same new input ≡ filter_map (rebased stack done (change_entry input)) (entries_at same old input))
        → OnOk r ((input : I) → IfSome (lookup (same input) new) (λ es. es ≢ []))
        → OnErr r (new ≡ []) → AreEntryLists same new
    rebased_or_none change_entry (Ok _) leaves some none = lists_rebased change_entry leaves some
    rebased_or_none change_entry (Err _) leaves some none = subst (AreEntryLists same) (sym none) (λ input. tt)
