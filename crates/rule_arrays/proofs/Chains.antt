-- Chains of askers, and one more link.
use Rattle.std.proofs.Common.{◌≡◌, ◌≢◌, ◌∙◌, ◌+◌, ◌<◌, ◌≤◌, ◌⊎◌, ℕ, List, [], ◌∷◌, ◌++◌, Some, ap, arith, inl, inr}
use Rattle.std.proofs.Common.{length}
use Rattle.std.proofs.Common.{set, slice_get, subst, sym, get_or, length-set}
use Rattle.std.proofs.lemmas.Bool.{cases_eq}
use Rattle.std.proofs.lemmas.List.{get_or-set_other, get_or-set_same, length_push}
use Rattle.std.proofs.lemmas.Option.{slice_get_within}
use Rattle.list_lemmas.proofs.Lists.{get_cases, get_end, get_left}
use Rattle.rule_arrays.specs.Askers.{AddsAskers, AreChains, HasAsker, IsInChain, earlier, here, last_of}
use Rattle.rule_arrays.specs.declared.changes.askers.Askers.{Askers}
use Rattle.rule_arrays.specs.declared.changes.askers.Link.{Link}

-- a chain that has an asker begins at a link
pub begins : (links : List Link) (asker at : ℕ) → IsInChain links asker at → 0 < at
begins links asker at (here _ place link is there same) = omega (arith, is)
begins links asker at (earlier _ place link is there next) = omega (arith, is)

-- the link where it begins has the asker, or the chain of the earlier one has
pub chain_on : (links : List Link) (asker at place : ℕ) (link : Link) → IsInChain links asker at → at ≡ place + 1
    → slice_get links place ≡ Some link → (link.asker ≡ asker) ⊎ IsInChain links asker link.earlier
chain_on links asker at place link (here _ other first is there same) begin found =
    let at_same : other ≡ place = omega (arith, is, begin) in
    let one : Some first ≡ Some link = sym there ∙ ap (slice_get links) at_same ∙ found in
    let is_first : first ≡ link = cc in
    inl (subst (λ l. l.asker ≡ asker) is_first same)
chain_on links asker at place link (earlier _ other first is there next) begin found =
    let at_same : other ≡ place = omega (arith, is, begin) in
    let one : Some first ≡ Some link = sym there ∙ ap (slice_get links) at_same ∙ found in
    let is_first : first ≡ link = cc in
    inr (subst (λ l. IsInChain links asker l.earlier) is_first next)

pub chain_kept : (links more : List Link) (asker at : ℕ) → IsInChain links asker at → IsInChain (links ++ more) asker at
chain_kept links more asker at (here _ place link is there same) =
    here at place link is (get_left links more place link there) same
chain_kept links more asker at (earlier _ place link is there next) =
    earlier at place link is (get_left links more place link there) (chain_kept links more asker link.earlier next)

-- a new link is in no chain that begins before it
pub chain_before : (links : List Link) (new : Link) (asker at : ℕ)
    → ((place : ℕ) (link : Link) → slice_get links place ≡ Some link → link.earlier ≤ place)
    → at ≤ length links → IsInChain (links ++ new ∷ []) asker at → IsInChain links asker at
chain_before links new asker at back within (here _ place link is there same) =
    elim (get_cases links new place link there) [
      | inl old ↦ here at place link is old same
      | inr last ↦ absurd (omega (arith, is, within, last.0))
    ]
chain_before links new asker at back within (earlier _ place link is there next) =
    elim (get_cases links new place link there) [
      | inl old ↦ earlier at place link is old
          (chain_before links new asker link.earlier back
          (omega (arith, back place link old, slice_get_within links place link old)) next)
      | inr last ↦ absurd (omega (arith, is, within, last.0))
    ]

-- some askers are new, and then others
pub adds_more : (P Q R : ℕ → ℕ → Type 0) (a b c : Askers) → AddsAskers P a b → AddsAskers Q b c
    → ((goal asker : ℕ) → R goal asker → P goal asker ⊎ Q goal asker)
    → ((goal asker : ℕ) → P goal asker → R goal asker) → ((goal asker : ℕ) → Q goal asker → R goal asker)
    → AddsAskers R a c
adds_more P Q R a b c first second either one other = record {
  chains = second.chains;
  as_many = second.as_many ∙ first.as_many;
  kept = λ goal asker has. second.kept goal asker (first.kept goal asker has);
  added = λ goal asker within new. elim (either goal asker new) [
    | inl p ↦ second.kept goal asker (first.added goal asker within p)
    | inr q ↦ second.added goal asker (omega (arith, within, first.as_many)) q
  ];
  only = λ goal asker has. elim (second.only goal asker has) [
    | inl before ↦ elim (first.only goal asker before) [ inl old ↦ inl old | inr p ↦ inr (one goal asker p) ]
    | inr q ↦ inr (other goal asker q)
  ];
}

-- One more link, at the head of a goal's chain.
module _ (old new : Askers) (asked goal : ℕ) (chains : AreChains old) (within : asked < length old.last.items)
    (link : Link) (is_asker : link.asker ≡ goal) (is_earlier : link.earlier ≡ last_of old asked)
    (links : new.links.items ≡ old.links.items ++ link ∷ [])
    (last : new.last.items ≡ set old.last.items asked (length old.links.items + 1)) where
  last_here : last_of new asked ≡ length old.links.items + 1
  last_here = ap (λ l. get_or l asked 0) last
      ∙ get_or-set_same old.last.items asked (length old.links.items + 1) 0 within

  last_other : (other : ℕ) → other ≢ asked → last_of new other ≡ last_of old other
  last_other other apart = ap (λ l. get_or l other 0) last
      ∙ get_or-set_other old.last.items asked other (length old.links.items + 1) 0 apart

  longer : length new.links.items ≡ length old.links.items + 1
  longer = ap length links ∙ length_push old.links.items link

  same_chain : (asker at : ℕ) → IsInChain (old.links.items ++ link ∷ []) asker at → IsInChain new.links.items asker at
  same_chain asker at = subst (λ l. IsInChain l asker at) (sym links)

  chain_same : (asker at : ℕ) → IsInChain new.links.items asker at → IsInChain (old.links.items ++ link ∷ []) asker at
  chain_same asker at = subst (λ l. IsInChain l asker at) links

  chains_still : AreChains new
  chains_still = record {
    within = λ other. elim (cases_eq other asked) [
      | inl same ↦ subst (λ o. last_of new o ≤ length new.links.items) (sym same) (omega (arith, last_here, longer))
      | inr apart ↦ omega (arith, last_other other apart, longer, chains.within other)
    ];
    back = λ place it there.
        elim (get_cases old.links.items link place it (ap (λ l. slice_get l place) (sym links) ∙ there)) [
          | inl before ↦ chains.back place it before
          | inr now ↦ subst (λ l. l.earlier ≤ place) now.1
              (omega (arith, is_earlier, now.0, chains.within asked))
        ];
  }

  kept_here : (asker : ℕ) → HasAsker old asked asker → HasAsker new asked asker
  kept_here asker has = same_chain asker (last_of new asked)
      (earlier (last_of new asked) (length old.links.items) link last_here (get_end old.links.items link)
      (subst (IsInChain (old.links.items ++ link ∷ []) asker) (sym is_earlier)
      (chain_kept old.links.items (link ∷ []) asker (last_of old asked) has)))

  kept_other : (other asker : ℕ) → other ≢ asked → HasAsker old other asker → HasAsker new other asker
  kept_other other asker apart has = same_chain asker (last_of new other)
      (subst (IsInChain (old.links.items ++ link ∷ []) asker) (sym (last_other other apart))
      (chain_kept old.links.items (link ∷ []) asker (last_of old other) has))

  only_here : (asker : ℕ) → HasAsker new asked asker → HasAsker old asked asker ⊎ (asker ≡ goal)
  only_here asker has =
      let chain = chain_same asker (last_of new asked) has in
      elim (chain_on (old.links.items ++ link ∷ []) asker (last_of new asked) (length old.links.items) link chain
      last_here (get_end old.links.items link)) [
        | inl same ↦ inr (sym same ∙ is_asker)
        | inr before ↦ inl (chain_before old.links.items link asker (last_of old asked) chains.back
            (chains.within asked) (subst (IsInChain (old.links.items ++ link ∷ []) asker) is_earlier before))
      ]

  only_other : (other asker : ℕ) → other ≢ asked → HasAsker new other asker → HasAsker old other asker
  only_other other asker apart has = chain_before old.links.items link asker (last_of old other) chains.back
      (chains.within other) (subst (IsInChain (old.links.items ++ link ∷ []) asker) (last_other other apart)
      (chain_same asker (last_of new other) has))

  pub adds_one : AddsAskers (λ other asker. (asker ≡ goal) × (other ≡ asked)) old new
  adds_one = record {
    chains = chains_still;
    as_many = ap length last ∙ length-set old.last.items asked (length old.links.items + 1);
    kept = λ other asker has. elim (cases_eq other asked) [
      | inl same ↦ subst (λ o. HasAsker new o asker) (sym same)
          (kept_here asker (subst (λ o. HasAsker old o asker) same has))
      | inr apart ↦ kept_other other asker apart has
    ];
    added = λ other asker _ it. same_chain asker (last_of new other)
        (here (last_of new other) (length old.links.items) link (ap (last_of new) it.1 ∙ last_here)
        (get_end old.links.items link) (is_asker ∙ sym it.0));
    only = λ other asker has. elim (cases_eq other asked) [
      | inl same ↦ elim (only_here asker (subst (λ o. HasAsker new o asker) same has)) [
        | inl before ↦ inl (subst (λ o. HasAsker old o asker) (sym same) before)
        | inr now ↦ inr (now, same)
      ]
      | inr apart ↦ inl (only_other other asker apart has)
    ];
  }
