-- Lists of entries by goal: what is read of a map of lists, and how one of them grows.
use Rattle.std.proofs.Common.{arith, ◌≡◌, ◌≢◌, Bool, true, false, cond, List, [], ◌∷◌, ◌++◌, length, All, Option, Some}
use Rattle.std.proofs.Common.{None, Result, Ok, Err, OnOk, OnErr, refl, sym, ap, ◌∙◌, subst}
use Rattle.std.proofs.lemmas.Map.Made.{lookup-map_values}
use Rattle.std.proofs.lemmas.List.Elements.{All-nil, All-push, All-filter, All-weaker}
use Rattle.std.specs.Cmp.{IsEquivalence}
use Rattle.std.specs.Global.{Vec}
use Rattle.std.specs.List.{filter}
use Rattle.std.specs.Option.{option_map, unwrap_or, IfSome}
use Rattle.std.specs.Map.{lookup, set_value}
use Rattle.provisional_cache.specs.Words.{ProvisionalCacheEntry, Lists, lists_of, entries_at, PutsLast, AppendsEntry}
use Rattle.provisional_cache.specs.Provisional.{IsEntryList, AreEntryLists}

some_at_end : {E : Type 0} (es : List E) (e : E) → es ++ e ∷ [] ≢ []
some_at_end [] e none = cc
some_at_end (x ∷ es) e none = cc

module _ {I E : Type 0} where
  -- the list that is found is that of the vector that is found
  pub list_found : (test : I → Bool) (entries : List (I × Vec E))
      → lookup test (lists_of entries) ≡ option_map (λ v. v.items) (lookup test entries)
  list_found test entries = lookup-map_values (λ v. v.items) test entries

  -- what holds of the entries of each goal holds of each list
  pub each_list : (same : I → I → Bool) (P : E → Type 0) (entries : List (I × Vec E))
      → All (λ e. lookup (same e.0) entries ≡ Some e.1) entries
      → ((input : I) → All P (entries_at same (lists_of entries) input)) → All (λ e. All P e.1.items) entries
  each_list same P entries found each =
      All-weaker (λ e. lookup (same e.0) entries ≡ Some e.1) (λ e. All P e.1.items)
      (λ e here. subst (All P) (ap (λ o. unwrap_or o [])
      (list_found (same e.0) entries ∙ ap (option_map (λ v. v.items)) here)) (each e.0)) entries found

  -- a vector in the place of one with the same items leaves the lists as they are
  pub lists-set_same : (test : I → Bool) (entries : List (I × Vec E)) (v w : Vec E)
      → lookup test entries ≡ Some v → w.items ≡ v.items → lists_of (set_value test entries w) ≡ lists_of entries
  lists-set_same test [] v w found same = refl
  lists-set_same test (e ∷ es) v w found same =
      let P : Bool → Type 0 = λ b. cond b (Some e.1) (lookup test es) ≡ Some v
      → lists_of (cond b ((e.0, w) ∷ es) (e ∷ set_value test es w)) ≡ lists_of (e ∷ es) in
      (elim (test e.0) as P [
        | true ↦
            λ here. let it : e.1 ≡ v = cc in ap (λ list. (e.0, list) ∷ lists_of es) (same ∙ ap (λ u. u.items) (sym it))
        | false ↦ λ later. ap (λ lists. (e.0, e.1.items) ∷ lists) (lists-set_same test es v w later same)
      ]) found

  -- a list that gets one entry more
  pub appends : {same : I → I → Bool} (laws : IsEquivalence same) (old new : Lists I E) (input : I) (entry : E)
      → PutsLast same old new input entry → AppendsEntry same old new input entry
  appends {same} laws old new input entry puts = record {
    here = ap (λ list. unwrap_or list []) (puts input ∙ ap
        (λ b. cond b (Some (entries_at same old input ++ entry ∷ [])) (lookup (same input) old)) (laws.refl input));
    others = λ other apart. ap (λ list. unwrap_or list []) (puts other
        ∙ ap (λ b. cond b (Some (entries_at same old input ++ entry ∷ [])) (lookup (same other) old)) apart);
  }

module _ {X I R A T : Type 0} (same : I → I → Bool) where
  -- the entries of a goal rest on heads
  pub heads_at : (lists : Lists I (ProvisionalCacheEntry X I R A T)) (input : I) → AreEntryLists same lists
      → All (λ e. e.heads ≢ []) (entries_at same lists input)
  heads_at lists input kept =
      let P : Option (List (ProvisionalCacheEntry X I R A T)) → Type 0 =
      λ list. IfSome list IsEntryList → All (λ e. e.heads ≢ []) (unwrap_or list []) in
      (elim (lookup (same input) lists) as P [
        | Some es ↦ λ is_kept. is_kept.heads
        | None ↦ λ _. All-nil (λ e. e.heads ≢ [])
      ]) (kept input)

  -- a list with one entry more is a list of entries, as the others are
  pub lists_with : (old new : Lists I (ProvisionalCacheEntry X I R A T)) (input : I)
      (entry : ProvisionalCacheEntry X I R A T)
      → entry.heads ≢ [] → AreEntryLists same old → PutsLast same old new input entry → AreEntryLists same new
  lists_with old new input entry heads kept puts = λ other.
      let before = entries_at same old input in
      let longer : IsEntryList (before ++ entry ∷ []) = record {
        some = some_at_end before entry;
        heads = All-push (λ e. e.heads ≢ []) before entry (heads_at old input kept) heads;
      } in
      let P : Bool → Type 0 =
      λ b. IfSome (cond b (Some (before ++ entry ∷ [])) (lookup (same other) old)) IsEntryList in
      subst (λ list. IfSome list IsEntryList) (sym (puts other))
      (elim (same input other) as P [ true ↦ longer | false ↦ kept other ])

-- the vector at the input gets a new item at its end
pub puts_last : {I E : Type 0} (same : I → I → Bool) (old new : List (I × Vec E)) (input : I)
    (entry : E) (items : List E) (w : Vec E)
    → unwrap_or (option_map (λ v. v.items) (lookup (same input) old)) [] ≡ items → w.items ≡ items ++ entry ∷ []
    → ((q : I) → lookup (same q) new ≡ cond (same input q) (Some w) (lookup (same q) old))
    → PutsLast same (lists_of old) (lists_of new) input entry
puts_last same old new input entry items w was is updates = λ other.
    let before = entries_at same (lists_of old) input in
    let now : before ≡ items = ap (λ list. unwrap_or list []) (list_found (same input) old) ∙ was in
    let P : Bool → Type 0 = λ b. option_map (λ v. v.items) (cond b (Some w) (lookup (same other) old))
    ≡ cond b (Some (before ++ entry ∷ [])) (lookup (same other) (lists_of old)) in
    list_found (same other) new ∙ ap (option_map (λ v. v.items)) (updates other) ∙ (elim (same input other) as P [
      | true ↦ ap Some (is ∙ ap (λ list. list ++ entry ∷ []) (sym now))
      | false ↦ sym (list_found (same other) old)
    ])

-- a refused growth leaves lists of entries, too
pub lists_after : {X I R A T E : Type 0} (same : I → I → Bool) (old new : Lists I (ProvisionalCacheEntry X I R A T))
    (input : I) (entry : ProvisionalCacheEntry X I R A T)
    → entry.heads ≢ [] → AreEntryLists same old → (r : Result (Unit {0}) E) → OnOk r (PutsLast same old new input entry)
    → OnErr r (new ≡ old) → AreEntryLists same new
lists_after {E = E} same old new input entry heads kept r ok err =
    let P : Result (Unit {0}) E → Type 0 =
    λ r. OnOk r (PutsLast same old new input entry) → OnErr r (new ≡ old) → AreEntryLists same new in
    (elim r as P [
      | Ok _ ↦ λ puts _. lists_with same old new input entry heads kept puts
      | Err _ ↦ λ _ unchanged. subst (AreEntryLists same) (sym unchanged) kept
    ]) ok err

-- what is found at a goal
pub found_at : {I E : Type 0} (same : I → I → Bool) (entries : List (I × Vec E)) (lists : Lists I E) (input : I)
    (o : Option (Vec E)) → lists_of entries ≡ lists → o ≡ lookup (same input) entries
    → unwrap_or (option_map (λ v. v.items) o) [] ≡ entries_at same lists input
found_at same entries lists input o view found =
    ap (λ o. unwrap_or (option_map (λ v. v.items) o) []) found
    ∙ ap (λ list. unwrap_or list []) (sym (list_found (same input) entries))
    ∙ ap (λ ls. entries_at same ls input) view

-- they are lists of entries where each has an entry and each entry rests on a head
pub lists_from : {X I R A T : Type 0} (same : I → I → Bool) (lists : Lists I (ProvisionalCacheEntry X I R A T))
    → ((input : I) → All (λ e. e.heads ≢ []) (entries_at same lists input))
    → ((input : I) → IfSome (lookup (same input) lists) (λ es. es ≢ []))
    → AreEntryLists same lists
lists_from {X} {I} {R} {A} {T} same lists heads some = λ input.
    let P : Option (List (ProvisionalCacheEntry X I R A T)) → Type 0 =
    λ list. All (λ e. e.heads ≢ []) (unwrap_or list []) → IfSome list (λ es. es ≢ []) → IfSome list IsEntryList in
    (elim (lookup (same input) lists) as P [
      | Some es ↦ λ heads some. record { some = some; heads = heads }
      | None ↦ λ heads some. tt
    ]) (heads input) (some input)

-- and so after a filter
pub lists_filtered : {X I R A T : Type 0} (same : I → I → Bool) (keep : ProvisionalCacheEntry X I R A T → Bool)
    (old new : Lists I (ProvisionalCacheEntry X I R A T))
    → AreEntryLists same old → ((input : I) → entries_at same new input ≡ filter keep (entries_at same old input))
    → ((input : I) → IfSome (lookup (same input) new) (λ es. es ≢ []))
    → AreEntryLists same new
lists_filtered same keep old new kept filtered some =
    lists_from same new
    (λ input. subst (All (λ e. e.heads ≢ [])) (sym (filtered input))
    (All-filter keep (λ e. e.heads ≢ []) (entries_at same old input) (heads_at same old input kept)))
    some

-- where no goal has an entry, there is no list
pub none_at_all : {X I R A T : Type 0} {same : I → I → Bool} (laws : IsEquivalence same)
    (lists : Lists I (ProvisionalCacheEntry X I R A T))
    → AreEntryLists same lists → ((input : I) → entries_at same lists input ≡ []) → lists ≡ []
none_at_all laws [] kept none = refl
none_at_all {same = same} laws ((input, entries) ∷ rest) kept none =
    let found : lookup (same input) ((input, entries) ∷ rest) ≡ Some entries =
    ap (λ b. cond b (Some entries) (lookup (same input) rest)) (laws.refl input) in
    let is_kept : IsEntryList entries = subst (λ o. IfSome o IsEntryList) found (kept input) in
    absurd (is_kept.some (ap (λ o. unwrap_or o []) (sym found) ∙ none input))

-- there are no lists exactly where the map has no entry
pub no_lists : {I E : Type 0} (entries : List (I × Vec E)) → length entries ≡ 0 → lists_of entries ≡ []
no_lists [] size = refl
no_lists (e ∷ es) size = absurd (omega arith)

pub no_entries : {I E : Type 0} (entries : List (I × Vec E)) → lists_of entries ≡ [] → length entries ≡ 0
no_entries [] none = refl
no_entries (e ∷ es) none = absurd cc
