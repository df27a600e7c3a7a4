-- The chains of goals, and one more link.
use Rattle.std.proofs.Common.{◌≡◌, ◌∙◌, ◌+◌, ◌≤◌, ℕ, Bool, true, false, cond, List, [], ◌∷◌, ◌++◌, Option, None}
use Rattle.std.proofs.Common.{Some, ap, arith, inl, inr, length, refl, slice_get, subst, sym}
use Rattle.std.specs.Option.{unwrap_or}
use Rattle.std.proofs.lemmas.List.{length_push}
use Rattle.list_lemmas.proofs.Lists.{get_cases, get_end}
use Rattle.askers.specs.Told.{IsExact, IsInChain, IsIndex, earlier, here, last_in}
use Rattle.askers.specs.declared.told.Link.{Link}
use Rattle.askers.proofs.Chains.{chain_before, chain_below, chain_kept, chain_on}

cond_last : (b : Bool) (now : ℕ) (was : Option ℕ)
    → unwrap_or (cond b (Some now) was) 0 ≡ cond b now (unwrap_or was 0)
cond_last true now was = refl
cond_last false now was = refl

module _ {I : Type 0} where
  pub none_indexed : (first last : I → Option ℕ) → ((goal : I) → first goal ≡ None) → ((goal : I) → last goal ≡ None)
      → IsIndex first last []
  none_indexed first last no_first no_last = record {
    within = λ goal. subst (λ o. unwrap_or o 0 ≤ 0) (sym (no_last goal)) (omega arith);
    back = λ place link is. absurd cc;
    found = λ place link is. absurd cc;
    only = λ goal place link chain is. absurd cc;
    begun = λ goal place is. let never : None ≡ Some place = sym (no_first goal) ∙ is in absurd cc;
  }

  -- chains begin where they did
  pub still_indexed : (first last second : I → Option ℕ) (links : List (Link I)) → IsIndex first last links
      → ((goal : I) → last_in second goal ≡ last_in last goal) → IsIndex first second links
  still_indexed first last second links index same = record {
    within = λ goal. subst (λ at. at ≤ length links) (sym (same goal)) (index.within goal);
    back = index.back;
    found = λ place link is. subst (IsInChain links place) (sym (same link.asked)) (index.found place link is);
    only = λ goal place link chain is. index.only goal place link (subst (IsInChain links place) (same goal) chain) is;
    begun = index.begun;
  }

  -- links count from elsewhere on
  pub begun_indexed : (first second last : I → Option ℕ) (links : List (Link I)) → IsIndex first last links
      → ((goal : I) (place : ℕ) → second goal ≡ Some place → place ≤ length links) → IsIndex second last links
  begun_indexed first second last links index within = record {
    within = index.within;
    back = index.back;
    found = index.found;
    only = index.only;
    begun = within;
  }

  -- there, or where they did
  pub begun_within : (same : I → I → Bool) (first second last : I → Option ℕ) (links : List (Link I)) (goal : I)
      (now : Option ℕ) → IsIndex first last links
      → ((other : I) → second other ≡ cond (same goal other) now (first other))
      → ((place : ℕ) → now ≡ Some place → place ≤ length links)
      → (other : I) (place : ℕ) → second other ≡ Some place → place ≤ length links
  begun_within same first second last links goal now index is within other place e =
      by (same goal other) (sym (is other) ∙ e)
    where
      by : (b : Bool) → cond b now (first other) ≡ Some place → place ≤ length links
      by true e = within place e
      by false e = index.begun other place e

  -- One more link, at the head of a goal's chain.
  module _ (same : I → I → Bool) (exact : IsExact same) (own : (x : I) → same x x ≡ true)
      (first last second : I → Option ℕ) (links : List (Link I)) (index : IsIndex first last links) (one : I)
      (link : Link I) (is_asked : link.asked ≡ one) (is_earlier : link.earlier ≡ last_in last one) (end : ℕ)
      (is_end : end ≡ length links + 1)
      (is : (other : I) → second other ≡ cond (same one other) (Some end) (last other)) where
    last_there : (other : I) (b : Bool) → same one other ≡ b → last_in second other ≡ cond b end (last_in last other)
    last_there other b same_is = ap (λ o. unwrap_or o 0) (is other) ∙ cond_last (same one other) end (last other)
        ∙ ap (λ t. cond t end (last_in last other)) same_is

    longer : length (links ++ link ∷ []) ≡ length links + 1
    longer = length_push links link

    within_by : (other : I) (b : Bool) → cond b end (last_in last other) ≤ length (links ++ link ∷ [])
    within_by other true = omega (arith, is_end, longer)
    within_by other false = omega (arith, longer, index.within other)

    -- the chain of this goal goes on with what it had
    chain_here : (place : ℕ) → IsInChain links place (last_in last one) → IsInChain (links ++ link ∷ []) place end
    chain_here place chain = earlier end (length links) link is_end (get_end links link)
        (subst (IsInChain (links ++ link ∷ []) place) (sym is_earlier)
        (chain_kept links (link ∷ []) place (last_in last one) chain))

    found_old : (place : ℕ) (it : Link I) → slice_get links place ≡ Some it → (b : Bool) → same one it.asked ≡ b
        → IsInChain (links ++ link ∷ []) place (cond b end (last_in last it.asked))
    found_old place it old true same_is = chain_here place
        (subst (λ goal. IsInChain links place (last_in last goal)) (sym (exact one it.asked same_is))
        (index.found place it old))
    found_old place it old false same_is =
        chain_kept links (link ∷ []) place (last_in last it.asked) (index.found place it old)

    only_before : (goal : I) (place : ℕ) (it : Link I) → IsInChain links place (last_in last goal)
        → slice_get (links ++ link ∷ []) place ≡ Some it → it.asked ≡ goal
    only_before goal place it chain there = elim (get_cases links link place it there) [
      | inl old ↦ index.only goal place it chain old
      | inr new ↦ absurd (omega (
        arith,
        new.0,
        index.within goal,
        chain_below links place (last_in last goal) index.back chain,
      ))
    ]

    only_by : (goal : I) (place : ℕ) (it : Link I) (b : Bool) → same one goal ≡ b
        → IsInChain (links ++ link ∷ []) place (cond b end (last_in last goal))
        → slice_get (links ++ link ∷ []) place ≡ Some it → it.asked ≡ goal
    only_by goal place it true same_is chain there =
        let goal_is : one ≡ goal = exact one goal same_is in
        elim (chain_on (links ++ link ∷ []) place end (length links) link chain is_end (get_end links link)) [
          | inl last_one ↦
              let two : Some link ≡ Some it =
              sym (get_end links link) ∙ ap (slice_get (links ++ link ∷ [])) (sym last_one) ∙ there in
              let link_is : link ≡ it = cc in
              ap (λ l. l.asked) (sym link_is) ∙ is_asked ∙ goal_is
          | inr before ↦ only_before one place it
              (chain_before links link place (last_in last one) index.back (index.within one)
              (subst (IsInChain (links ++ link ∷ []) place) is_earlier before)) there ∙ goal_is
        ]
    only_by goal place it false same_is chain there = only_before goal place it
        (chain_before links link place (last_in last goal) index.back (index.within goal) chain) there

    pub one_more_indexed : IsIndex first second (links ++ link ∷ [])
    one_more_indexed = record {
      within = λ other. subst (λ at. at ≤ length (links ++ link ∷ []))
          (sym (last_there other (same one other) refl)) (within_by other (same one other));
      back = λ place it there. elim (get_cases links link place it there) [
        | inl old ↦ index.back place it old
        | inr new ↦ subst (λ l. l.earlier ≤ place) new.1 (omega (arith, is_earlier, new.0, index.within one))
      ];
      found = λ place it there. subst (IsInChain (links ++ link ∷ []) place)
          (sym (last_there it.asked (same one it.asked) refl))
          (elim (get_cases links link place it there) [
            | inl old ↦ found_old place it old (same one it.asked) refl
            | inr new ↦
                let asked_is : it.asked ≡ one = ap (λ l. l.asked) (sym new.1) ∙ is_asked in
                let told : same one it.asked ≡ true = ap (same one) asked_is ∙ own one in
                subst (λ b. IsInChain (links ++ link ∷ []) place (cond b end (last_in last it.asked))) (sym told)
                (here end (omega (arith, is_end, new.0)))
          ]);
      only = λ goal place it chain there. only_by goal place it (same one goal) refl
          (subst (IsInChain (links ++ link ∷ []) place) (last_there goal (same one goal) refl) chain) there;
      begun = λ goal place e. omega (arith, longer, index.begun goal place e);
    }
