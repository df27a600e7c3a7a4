-- The nodes of entries, appended list by list.
use Rattle.std.proofs.Common.{◌≡◌, ℕ, ◌<◌, ◌+◌, length, take, get_or, Bool, true, false, cond, List, [], ◌∷◌, ◌++◌, All}
use Rattle.std.proofs.Common.{Contains, Option, Some, None, Result, Ok, Err, OnOk, sym, ap, ◌∙◌, subst, append_assoc}
use Rattle.std.proofs.lemmas.List.{take_more}
use Rattle.std.proofs.lemmas.List.Elements.{All-nil, All-cons, All-weaker, Contains-append_left, Contains-append_right}
use Rattle.std.proofs.lemmas.List.Elements.{Contains-push, filter_map-append}
use Rattle.std.specs.Global.{Vec}
use Rattle.std.specs.List.{cons_option}
use Rattle.std.specs.Map.{lookup}
use Rattle.std.specs.Option.{unwrap_or, IfSome}
use Rattle.std.specs.Result.{IsErr}
use Rattle.provisional_cache.specs.Words.{ProvisionalCacheEntry, Lists, lists_of, entries_at, nodes_in, nodes_of}
use Rattle.search_context.specs.declared.context.NodeId.{NodeId}

-- what was in a list is still in it after others were appended
pub kept_by_append : {A : Type 0} (old new more : List A) → new ≡ old ++ more
    → (x : A) → Contains old x → Contains new x
kept_by_append old new more is x within =
    subst (λ list. Contains list x) (sym is) (Contains-append_left old more x within)

-- nothing is said of a call that was refused
pub where_ok : {T E : Type 0} (r : Result T E) (P : Type 0) → IsErr r → OnOk r P
where_ok (Ok x) P err = cc
where_ok (Err e) P err = tt

-- the nodes of the first list are appended, and those of the others are left
pub appends_first : {A : Type 0} (whole old new first rest left : List A) → left ≡ first ++ rest → new ≡ old ++ first
    → old ++ left ≡ whole → new ++ rest ≡ whole
appends_first whole old new first rest left is pushed so_far =
    ap (λ list. list ++ rest) pushed ∙ append_assoc old first rest ∙ ap (λ list. old ++ list) (sym is) ∙ so_far

-- a node that is among few is among many
need_more : (few many : List NodeId) → ((n : NodeId) → Contains few n → Contains many n) → (node : Option NodeId)
    → IfSome node (Contains few) → IfSome node (Contains many)
need_more few many more None within = tt
need_more few many more (Some node) within = more node within

module _ {X I R A T : Type 0} where
  all_need_more : (few many : List NodeId) → ((n : NodeId) → Contains few n → Contains many n)
      → (entries : List (ProvisionalCacheEntry X I R A T))
      → All (λ entry. IfSome entry.node (Contains few)) entries
      → All (λ entry. IfSome entry.node (Contains many)) entries
  all_need_more few many more entries = All-weaker (λ entry. IfSome entry.node (Contains few))
      (λ entry. IfSome entry.node (Contains many)) (λ entry. need_more few many more entry.node) entries

  -- each entry's node is among the nodes of the entries
  nodes_are_in : (entries : List (ProvisionalCacheEntry X I R A T))
      → All (λ entry. IfSome entry.node (Contains (nodes_of entries))) entries
  nodes_are_in [] = All-nil (λ (entry : ProvisionalCacheEntry X I R A T). IfSome entry.node (Contains []))
  nodes_are_in (e ∷ es) =
      let P : Option NodeId → Type 0 = λ node. IfSome node (Contains (cons_option node (nodes_of es))) in
      let Q : Option NodeId → Type 0 = λ node. All
      (λ (entry : ProvisionalCacheEntry X I R A T). IfSome entry.node (Contains (cons_option node (nodes_of es)))) es in
      All-cons (λ entry. IfSome entry.node (Contains (nodes_of (e ∷ es)))) e es
      (elim e.node as P [
        | None ↦ tt
        | Some node ↦ Contains-append_left (node ∷ []) (nodes_of es) node (Contains-push [] node)
      ])
      (elim e.node as Q [
        | None ↦ nodes_are_in es
        | Some node ↦ all_need_more (nodes_of es) (node ∷ nodes_of es)
            (Contains-append_right (node ∷ []) (nodes_of es)) es (nodes_are_in es)
      ])

  -- and so among those of all lists
  nodes_at : {K : Type 0} (same : K → K → Bool) (lists : Lists K (ProvisionalCacheEntry X I R A T)) (input : K)
      → All (λ entry. IfSome entry.node (Contains (nodes_in lists))) (entries_at same lists input)
  nodes_at same [] input = All-nil (λ (entry : ProvisionalCacheEntry X I R A T). IfSome entry.node (Contains []))
  nodes_at same (l ∷ ls) input =
      let all = nodes_of l.1 ++ nodes_in ls in
      let P : Bool → Type 0 = λ b.
      All (λ entry. IfSome entry.node (Contains all)) (unwrap_or (cond b (Some l.1) (lookup (same input) ls)) []) in
      elim (same input l.0) as P [
        | true ↦
            all_need_more (nodes_of l.1) all (Contains-append_left (nodes_of l.1) (nodes_in ls)) l.1 (nodes_are_in l.1)
        | false ↦ all_need_more (nodes_in ls) all (Contains-append_right (nodes_of l.1) (nodes_in ls))
            (entries_at same ls input) (nodes_at same ls input)
      ]

  -- where those of all lists were appended, those of a goal's entries are there
  pub nodes_appended : {K : Type 0} (same : K → K → Bool) (lists : Lists K (ProvisionalCacheEntry X I R A T))
      (old new : List NodeId) → new ≡ old ++ nodes_in lists
      → (input : K) → All (λ entry. IfSome entry.node (Contains new)) (entries_at same lists input)
  nodes_appended same lists old new is input =
      subst (λ nodes. All (λ entry. IfSome entry.node (Contains nodes)) (entries_at same lists input)) (sym is)
      (all_need_more (nodes_in lists) (old ++ nodes_in lists) (Contains-append_right old (nodes_in lists))
      (entries_at same lists input) (nodes_at same lists input))

  -- the same where nothing was refused, for the lists that a map has
  pub nodes_on_ok : {K U E : Type 0} (same : K → K → Bool) (entries : List (K × Vec (ProvisionalCacheEntry X I R A T)))
      (lists : Lists K (ProvisionalCacheEntry X I R A T)) → lists_of entries ≡ lists
      → (old new : List NodeId) (r : Result U E) → OnOk r (new ≡ old ++ nodes_in (lists_of entries))
      → OnOk r ((input : K) → All (λ entry. IfSome entry.node (Contains new)) (entries_at same lists input))
  nodes_on_ok same entries lists view old new (Ok u) pushed =
      nodes_appended same lists old new (pushed ∙ ap (λ all. old ++ nodes_in all) view)
  nodes_on_ok same entries lists view old new (Err e) pushed = tt

module _ {X I R A T : Type 0} (entries : List (ProvisionalCacheEntry X I R A T)) (index : ℕ)
    (entry : ProvisionalCacheEntry X I R A T) (below : index < length entries)
    (at : entry ≡ get_or entries index entry) where
  -- the nodes of one entry more
  nodes_more : nodes_of (take (index + 1) entries) ≡ nodes_of (take index entries) ++ cons_option entry.node []
  nodes_more =
      ap nodes_of (take_more entries index entry below)
      ∙ filter_map-append (λ e. e.node) (take index entries) (get_or entries index entry ∷ [])
      ∙ ap (λ e. nodes_of (take index entries) ++ nodes_of (e ∷ [])) (sym at)

  -- the entry's node, if it has one, is appended
  pub appends_next : (old items new : List NodeId) (node : Option NodeId) → entry.node ≡ node
      → items ≡ old ++ nodes_of (take index entries) → new ≡ items ++ cons_option node []
      → new ≡ old ++ nodes_of (take (index + 1) entries)
  appends_next old items new node is so_far pushed =
      pushed
      ∙ ap (λ list. list ++ cons_option node []) so_far
      ∙ append_assoc old (nodes_of (take index entries)) (cons_option node [])
      ∙ ap (λ o. old ++ (nodes_of (take index entries) ++ cons_option o [])) (sym is)
      ∙ ap (λ list. old ++ list) (sym nodes_more)
