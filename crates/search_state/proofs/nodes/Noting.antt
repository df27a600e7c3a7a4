-- The nodes of stored results stay noted.
use Rattle.std.proofs.Common.{◌≡◌, zero, suc, ◌<◌, arith, Bool, true, Contains, inl, inr, List, [], ◌∷◌, ◌⊎◌, None}
use Rattle.std.proofs.Common.{Option, refl, Some, subst, sym, ap, ap₂, ◌∙◌}
use Rattle.std.specs.Prelude.{Err, length, Ok, OnErr, OnOk, Result, take}
use Rattle.std.specs.Option.{IfSome, IsSomeAnd}
use Rattle.std.proofs.Math.Seq.{take-append_seam, take-length}
use Rattle.std.proofs.lemmas.List.Elements.{Contains-append_cases, Contains-append_left, Contains-append_right}
use Rattle.global_cache.proofs.Stores.{put_cases}
use Rattle.global_cache.specs.Store.{Puts}
use Rattle.search_state.specs.Below.{Cache, Fault, NodeId, Place, stored_at, StoredResult}
use Rattle.search_state.specs.Drafts.{AreNotedNodes, KeepsNoted, noted}
use Rattle.search_state.specs.declared.drafts.Drafts.{Drafts}

some_is : {A : Type 0} (P : A → Type 0) (o : Option A) (x : A) → o ≡ Some x → IsSomeAnd o P → P x
some_is P None x is h = absurd h
some_is P (Some y) x is h = let same : y ≡ x = cc in subst P same h

only_one : (node n : NodeId) → Contains (node ∷ []) n → Some node ≡ Some n
only_one node n (zero, within, is) = ap Some is
only_one node n (suc k, within, is) = absurd (omega (arith, within))

pub still_noted : (target : Option NodeId) (nodes : List NodeId) (n : NodeId)
    → Contains nodes n → Contains (noted target nodes) n
still_noted None nodes n has = has
still_noted (Some node) nodes n has = Contains-append_left nodes (node ∷ []) n has

pub target_is_noted : (target : Option NodeId) (nodes roots : List NodeId)
    → ((n : NodeId) → Contains (noted target nodes) n → Contains roots n) → IfSome target (Contains roots)
target_is_noted None nodes roots among = tt
target_is_noted (Some node) nodes roots among =
    among node (Contains-append_right nodes (node ∷ []) node (0, omega arith, refl))

-- what is noted was, or is the new one
pub noted_cases : (target : Option NodeId) (nodes : List NodeId) (n : NodeId) → Contains (noted target nodes) n
    → (target ≡ Some n) ⊎ Contains nodes n
noted_cases None nodes n has = inr has
noted_cases (Some node) nodes n has = elim (Contains-append_cases nodes (node ∷ []) n has) [
  | inl was ↦ inr was
  | inr new ↦ inl (only_one node n new)
]

-- what is noted or was there before the call is so with more nodes
still_rooted : (before after : Drafts) (more : Option NodeId) → after.first ≡ before.first
    → after.stored.items ≡ noted more before.stored.items → (node : Option NodeId)
    → IfSome node (λ n. (n.0 < before.first) ⊎ Contains before.stored.items n)
    → IfSome node (λ n. (n.0 < after.first) ⊎ Contains after.stored.items n)
still_rooted before after more first items None h = tt
still_rooted before after more first items (Some n) h = elim h [
  | inl lower ↦ inl (omega (arith, lower, first))
  | inr has ↦ inr (subst (λ l. Contains l n) (sym items) (still_noted more before.stored.items n has))
]

-- a result is stored, whose node was noted
module _ {C I R T : Type 0} (same : I → I → Bool) (old new : Cache C I R T)
    (by_value : (x y : I) → same x y ≡ true → x ≡ y) (input : I) (place : Place) (stored : StoredResult I R T)
    (puts : Puts same old.results new.results input place stored) where
  noted_put : (before after : Drafts) → after.first ≡ before.first
      → after.stored.items ≡ noted stored.node before.stored.items
      → AreNotedNodes same old before → AreNotedNodes same new after
  noted_put before after first items h =
      λ goal at s there. elim (put_cases same by_value old.results new.results input place stored puts goal at) [
        | inl w ↦
            let both : Some stored ≡ Some s = sym puts.here ∙ (ap₂ (stored_at same new.results) w.0 w.1 ∙ there) in
            let own : stored ≡ s = cc in
            subst (λ x. IfSome x.node (λ n. (n.0 < after.first) ⊎ Contains after.stored.items n)) own
            (if_noted stored.node (target_is_noted stored.node before.stored.items after.stored.items
            (λ n has. subst (λ l. Contains l n) (sym items) has)))
        | inr unchanged ↦ still_rooted before after stored.node first items s.node (h goal at s (sym unchanged ∙ there))
      ]
    where
      if_noted : (node : Option NodeId) → IfSome node (Contains after.stored.items)
          → IfSome node (λ n. (n.0 < after.first) ⊎ Contains after.stored.items n)
      if_noted None h = tt
      if_noted (Some n) h = inr h

-- nothing is stored, and this node is noted, if there is one
pub noted_more : {C I R T : Type 0} (same : I → I → Bool) (cache : Cache C I R T) (before after : Drafts)
    → after.first ≡ before.first → (more : Option NodeId) → after.stored.items ≡ noted more before.stored.items
    → KeepsNoted same cache before cache after
noted_more same cache before after first more items = record {
  first = first;
  noted_are = λ h goal at s there. still_rooted before after more first items s.node (h goal at s there);
}

-- all nodes but the one that was noted last
pub noted_forgotten : (node : Option NodeId) (nodes : List NodeId) → take (length nodes) (noted node nodes) ≡ nodes
noted_forgotten None nodes = take-length nodes
noted_forgotten (Some n) nodes = take-append_seam nodes (n ∷ [])

-- a result was stored, or was not, and its node was noted
pub noted_storing :
    {C I R T : Type 0} (same : I → I → Bool) (old new : Cache C I R T)
    (by_value : (x y : I) → same x y ≡ true → x ≡ y) (input : I) (place : Place) (stored : StoredResult I R T)
    → (before after : Drafts) → after.first ≡ before.first → after.stored.items ≡ noted stored.node before.stored.items
    → (result : Result (Unit {0}) (Fault I R))
    → OnOk result (Puts same old.results new.results input place stored) → OnErr result (new ≡ old)
    → KeepsNoted same old before new after
noted_storing same old new by_value input place stored before after first items (Ok u) puts err = record {
  first = first;
  noted_are = noted_put same old new by_value input place stored puts before after first items;
}
noted_storing same old new by_value input place stored before after first items (Err fault) puts err =
    subst (λ cache. KeepsNoted same old before cache after) (sym err)
    (noted_more same old before after first stored.node items)

-- the stored results stay, and the drafts do
pub noted_same : {C I R T : Type 0} (same : I → I → Bool) (old new : Cache C I R T) (before after : Drafts)
    → after ≡ before → new.results ≡ old.results → KeepsNoted same old before new after
noted_same same old new before after is results = record {
  first = ap (λ (d : Drafts). d.first) is;
  noted_are =
      λ h goal at s there. subst (λ (d : Drafts). IfSome s.node (λ n. (n.0 < d.first) ⊎ Contains d.stored.items n))
      (sym is) (h goal at s (ap (λ r. stored_at same r goal at) (sym results) ∙ there));
}

-- one move after another
pub noted_then : {C I R T : Type 0} (same : I → I → Bool) (old more new : Cache C I R T)
    (before drafts after : Drafts) → KeepsNoted same old before more drafts → KeepsNoted same more drafts new after
    → KeepsNoted same old before new after
noted_then same old more new before drafts after one two =
    record { first = two.first ∙ one.first; noted_are = λ h. two.noted_are (one.noted_are h) }
