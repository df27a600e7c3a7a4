-- Chains of links, and one more link.
use Rattle.std.proofs.Common.{◌≡◌, ◌∙◌, ◌+◌, ◌<◌, ◌≤◌, ◌⊎◌, ℕ, List, [], ◌∷◌, ◌++◌, Some, ap, arith, inl, inr}
use Rattle.std.proofs.Common.{length, slice_get, subst, sym}
use Rattle.std.proofs.lemmas.Option.{slice_get_within}
use Rattle.list_lemmas.proofs.Lists.{get_cases, get_left}
use Rattle.askers.specs.Told.{IsInChain, earlier, here}
use Rattle.askers.specs.declared.told.Link.{Link}

module _ {I : Type 0} where
  -- a chain leads to earlier places
  abbrev pub LeadsBack : List (Link I) → Type 0
  LeadsBack links = (place : ℕ) (link : Link I) → slice_get links place ≡ Some link → link.earlier ≤ place

  -- a link in a chain comes before where that begins
  pub chain_below : (links : List (Link I)) (place at : ℕ) → LeadsBack links → IsInChain links place at → place < at
  chain_below links place at back (here _ is) = omega (arith, is)
  chain_below links place at back (earlier _ other link is there next) =
      omega (arith, is, back other link there, chain_below links place link.earlier back next)

  -- a chain begins with the link there, and goes on with the earlier one
  pub chain_on : (links : List (Link I)) (place at other : ℕ) (link : Link I) → IsInChain links place at
      → at ≡ other + 1 → slice_get links other ≡ Some link → (place ≡ other) ⊎ IsInChain links place link.earlier
  chain_on links place at other link (here _ is) begin found = inl (omega (arith, is, begin))
  chain_on links place at other link (earlier _ another first is there next) begin found =
      let at_same : another ≡ other = omega (arith, is, begin) in
      let one : Some first ≡ Some link = sym there ∙ ap (slice_get links) at_same ∙ found in
      let is_first : first ≡ link = cc in
      inr (subst (λ l. IsInChain links place l.earlier) is_first next)

  pub chain_kept : (links more : List (Link I)) (place at : ℕ) → IsInChain links place at
      → IsInChain (links ++ more) place at
  chain_kept links more place at (here _ is) = here at is
  chain_kept links more place at (earlier _ other link is there next) =
      earlier at other link is (get_left links more other link there)
      (chain_kept links more place link.earlier next)

  -- a new link is in no chain that begins before it
  pub chain_before : (links : List (Link I)) (new : Link I) (place at : ℕ) → LeadsBack links → at ≤ length links
      → IsInChain (links ++ new ∷ []) place at → IsInChain links place at
  chain_before links new place at back within (here _ is) = here at is
  chain_before links new place at back within (earlier _ other link is there next) =
      elim (get_cases links new other link there) [
        | inl old ↦ earlier at other link is old
            (chain_before links new place link.earlier back
            (omega (arith, back other link old, slice_get_within links other link old)) next)
        | inr last ↦ absurd (omega (arith, is, within, last.0))
      ]
