-- What is left of a list when the nodes of some goals are let go.
use Rattle.std.proofs.Common.{◌≡◌, ℕ, ◌<◌, Bool, true, false, not, cond, List, Option, None, Some, slice_get, refl, sym}
use Rattle.std.proofs.Common.{◌∙◌, ap, subst, length, ◌≤◌, inl, inr, arith, []}
use Rattle.std.specs.List.{filter}
use Rattle.std.proofs.lemmas.Bool.{cases_Bool}
use Rattle.std.proofs.lemmas.Option.{slice_get_cases, slice_get_past, slice_get_within}
use Rattle.graph_nodes.specs.Words.{AreHeld, CacheNode, Held, is_among, IsGone, IsRising, KeepsOtherNodes}
use Rattle.graph_nodes.specs.Words.{node_if_held, node_of, nodes_below, nodes_of, slot_at, Slot}
use Rattle.graph_nodes.proofs.HeldNodes.{get_below, length-nodes_below}
use Rattle.graph_nodes.proofs.ShownNodes.{left_of, slot_left}

module _ {I R : Type 0} (is_gone : I → Bool) where
  -- the node stays
  abbrev pub is_left : Held I R → Bool
  is_left h = not (is_gone (node_of h.slot).goal)

  -- the node of a slot that is left
  node_stays : (goal : I) (number : ℕ) (o : Option (Slot I R)) → is_gone (node_if_held goal o).goal ≡ false
      → node_if_held goal (left_of is_left number o) ≡ node_if_held goal o
  node_stays goal number None is = refl
  node_stays goal number (Some slot) is = ap (λ b. node_if_held goal (cond (not b) (Some slot) None)) is

  node_goes : (goal : I) (number : ℕ) (o : Option (Slot I R)) → is_gone (node_if_held goal o).goal ≡ true
      → IsGone (Some (node_if_held goal (left_of is_left number o)))
  node_goes goal number None is = (refl, refl)
  node_goes goal number (Some slot) is =
      subst (λ b. IsGone (Some (node_if_held goal (cond (not b) (Some slot) None)))) (sym is) (refl, refl)

  below_are_left : (goal : I) (held : List (Held I R)) (next : ℕ) → IsRising held
      → KeepsOtherNodes is_gone (nodes_below goal held next) (nodes_below goal (filter is_left held) next)
  below_are_left goal held next rising = record {
    as_many = length-nodes_below goal (filter is_left held) next ∙ sym (length-nodes_below goal held next);
    kept = λ at n is stays.
        let same = node_at at n is in
        get_below goal (filter is_left held) next at (within at n is)
        ∙ ap Some (ap (node_if_held goal) (slot_left is_left held rising at)
        ∙ node_stays goal at (slot_at held at) (ap (λ m. is_gone m.goal) same ∙ stays) ∙ same);
    gone = λ at n is goes.
        let same = node_at at n is in
        subst IsGone (sym (get_below goal (filter is_left held) next at (within at n is)
        ∙ ap (λ o. Some (node_if_held goal o)) (slot_left is_left held rising at)))
        (node_goes goal at (slot_at held at) (ap (λ m. is_gone m.goal) same ∙ goes));
  }
    where
      within : (at : ℕ) (n : CacheNode I R) → slice_get (nodes_below goal held next) at ≡ Some n → at < next
      within at n is = subst (λ l. at < l) (length-nodes_below goal held next)
          (slice_get_within (nodes_below goal held next) at n is)

      node_at : (at : ℕ) (n : CacheNode I R) → slice_get (nodes_below goal held next) at ≡ Some n
          → node_if_held goal (slot_at held at) ≡ n
      node_at at n is =
          let both : Some (node_if_held goal (slot_at held at)) ≡ Some n =
          sym (get_below goal held next at (within at n is)) ∙ is in cc

  nodes_are_left : (first_goal : Option I) (held : List (Held I R)) (next : ℕ) → AreHeld first_goal held next
      → KeepsOtherNodes is_gone (nodes_of first_goal held next) (nodes_of first_goal (filter is_left held) next)
  nodes_are_left None held next are =
      record { as_many = refl; kept = λ at n is stays. is; gone = λ at n is goes. absurd cc }
  nodes_are_left (Some goal) held next are = below_are_left goal held next are.rising

  -- the same of a list that these nodes are
  pub others_are_left : (first_goal : Option I) (held left : List (Held I R)) (next : ℕ) (nodes : List (CacheNode I R))
      → nodes_of first_goal held next ≡ nodes → left ≡ filter is_left held → AreHeld first_goal held next
      → KeepsOtherNodes is_gone nodes (nodes_of first_goal left next)
  others_are_left first_goal held left next nodes view is are =
      subst (λ l. KeepsOtherNodes is_gone nodes (nodes_of first_goal l next)) (sym is)
      (subst (λ old. KeepsOtherNodes is_gone old (nodes_of first_goal (filter is_left held) next)) view
      (nodes_are_left first_goal held next are))

-- where no goal is gone, all stays
pub none_goes : {I R : Type 0} (same : I → I → Bool) (goals : List I) (nodes : List (CacheNode I R)) → goals ≡ []
    → KeepsOtherNodes (is_among same goals) nodes nodes
none_goes same goals nodes none = record {
  as_many = refl;
  kept = λ at n is stays. is;
  gone = λ at n is goes. let e : false ≡ true = sym (ap (λ l. is_among same l n.goal) none) ∙ goes in absurd cc;
}

past : {A : Type 0} (xs : List A) (i : ℕ) → slice_get xs i ≡ None → length xs ≤ i
past xs i none = elim (slice_get_cases xs i).1 [
  | inl w ↦ let e : Some w.0 ≡ None = sym w.2 ∙ none in absurd cc
  | inr w ↦ w.0
]

-- Goals are gone, and then these and more.
pub others_then : {I R : Type 0} (some all : I → Bool) → ((goal : I) → some goal ≡ true → all goal ≡ true)
    → (old mid new : List (CacheNode I R)) → KeepsOtherNodes some old mid → KeepsOtherNodes all mid new
    → KeepsOtherNodes all old new
others_then {I} {R} some all more old mid new first second = record {
  as_many = second.as_many ∙ first.as_many;
  kept = λ at n is stays. second.kept at n (first.kept at n is (stays_first n stays)) stays;
  gone = λ at n is goes. elim (cases_Bool (some n.goal)) [
    | inl early ↦ stays_gone at (slice_get mid at) refl (first.gone at n is early)
    | inr not_yet ↦ second.gone at n (first.kept at n is not_yet) goes
  ];
}
  where
    stays_first : (n : CacheNode I R) → all n.goal ≡ false → some n.goal ≡ false
    stays_first n stays = elim (cases_Bool (some n.goal)) [
      | inl early ↦ let e : true ≡ false = sym (more n.goal early) ∙ stays in absurd cc
      | inr is_not ↦ is_not
    ]

    stays_gone : (at : ℕ) (o : Option (CacheNode I R)) → slice_get mid at ≡ o → IsGone o → IsGone (slice_get new at)
    stays_gone at None is gone =
        subst IsGone (sym (slice_get_past new at (omega (arith, second.as_many, past mid at is)))) tt
    stays_gone at (Some n) is gone = elim (cases_Bool (all n.goal)) [
      | inl goes ↦ second.gone at n is goes
      | inr stays ↦ subst IsGone (sym (second.kept at n is stays)) gone
    ]
