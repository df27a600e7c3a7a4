-- Goals that get entries, and links for which there is room.
use Rattle.std.proofs.Common.{◌≡◌, ◌∙◌, ◌+◌, ◌<◌, ◌≤◌, ◌∷◌, ◌++◌, [], ℕ, Bool, true, false, cond, List}
use Rattle.std.proofs.Common.{IsSome, None, Option, Some, ap, append_assoc, arith, inl, inr, is_some}
use Rattle.std.proofs.Common.{length, map, refl, slice_get, subst, sym}
use Rattle.std.proofs.Common.{take, vec_capacity, vec_len}
use Rattle.std.specs.HashMap as hash
use Rattle.std.specs.Option.{unwrap_or}
use Rattle.std.proofs.lemmas.Bool.{cases_Bool, cases_eq, le-leb, lt-leb}
use Rattle.std.proofs.lemmas.List.{append-nil, length-map, map-append}
use Rattle.askers.specs.Told.{AreIndexed, HasRoom, HaveEntries, IsExact, IsIndex, KeepsEntries, Links, counted}
use Rattle.askers.specs.Told.{counts}
use Rattle.askers.specs.Told.{counts_from, first_of, last_in, pair_of, pairs_of, told_of}
use Rattle.askers.specs.declared.told.Link.{Link}
use Rattle.askers.specs.declared.told.Told.{Told}
use Rattle.askers.proofs.Counting.{counted_more, counted_same}
use Rattle.askers.proofs.Members.{member_at}

counts_next : (first : Option ℕ) (place : ℕ) → IsSome first → ((n : ℕ) → first ≡ Some n → n ≤ place)
    → counts_from first place ≡ true
counts_next None place some within = absurd cc
counts_next (Some n) place some within = le-leb n place (within n refl)

some_cond : (b : Bool) (now : ℕ) (was : Option ℕ) → IsSome was → IsSome (cond b (Some now) was)
some_cond true now was some = refl
some_cond false now was some = some

pub none_from : (o : Option ℕ) → is_some o ≡ false → o ≡ None
none_from None e = refl
none_from (Some n) e = absurd cc

module _ {I : Type 0} where
  -- ---- one more link

  pub told_more : (first last : I → Option ℕ) (links more : List (Link I)) (link : Link I) → IsIndex first last links
      → IsSome (first link.asker) → more ≡ links ++ link ∷ []
      → counted first 0 (pairs_of more) ≡ counted first 0 (pairs_of links) ++ pair_of link ∷ []
  told_more first last links more link index begun is =
      ap (λ l. counted first 0 (pairs_of l)) is
      ∙ ap (counted first 0) (map-append pair_of links (link ∷ []))
      ∙ counted_more first 0 (length links) (pairs_of links) (pair_of link) (omega (arith, length-map links pair_of))
      ∙ ap (λ b. counted first 0 (pairs_of links) ++ cond b (pair_of link ∷ []) [])
      (counts_next (first link.asker) (length links) begun (index.begun link.asker))

  pub entries_kept : (same : I → I → Bool) (one : I) (last second : I → Option ℕ) (end : ℕ)
      → ((other : I) → second other ≡ cond (same one other) (Some end) (last other))
      → (other : I) → IsSome (last other) → IsSome (second other)
  entries_kept same one last second end is other some =
      subst IsSome (sym (is other)) (some_cond (same one other) end (last other) some)

  -- ---- entries

  -- the first so many of these have entries, and chains begin where they did
  pub record AreEntered (was now : I → Option ℕ) (asked : List I) (count : ℕ) : Type 0 where
    pub same : (goal : I) → last_in now goal ≡ last_in was goal
    pub entered : (at : ℕ) (one : I) → at < count → slice_get asked at ≡ Some one → IsSome (now one)

  pub none_entered : (was : I → Option ℕ) (asked : List I) → AreEntered was was asked 0
  none_entered was asked =
      record { same = λ goal. refl; entered = λ at one none is. absurd (omega (arith, none)) }

  -- a goal that had no entry has this one
  pub entered_kept : (same : I → I → Bool) → IsExact same → (key : I) (entry : ℕ) (was now : I → Option ℕ)
      → was key ≡ None → ((goal : I) → now goal ≡ cond (same key goal) (Some entry) (was goal))
      → KeepsEntries entry was now
  entered_kept same exact key entry was now none is goal = elim (cases_Bool (same key goal)) [
    | inl here ↦ inr (
      subst (λ g. was g ≡ None) (exact key goal here) none,
      is goal ∙ ap (λ b. cond b (Some entry) (was goal)) here,
    )
    | inr apart ↦ inl (is goal ∙ ap (λ b. cond b (Some entry) (was goal)) apart)
  ]

  pub still_last : (was now : I → Option ℕ) → KeepsEntries 0 was now → (goal : I) → last_in now goal ≡ last_in was goal
  still_last was now kept goal = elim (kept goal) [
    | inl same ↦ ap (λ o. unwrap_or o 0) same
    | inr new ↦ ap (λ o. unwrap_or o 0) new.1 ∙ sym (ap (λ o. unwrap_or o 0) new.0)
  ]

  still_some : (entry : ℕ) (was now : I → Option ℕ) → KeepsEntries entry was now → (goal : I) → IsSome (was goal)
      → IsSome (now goal)
  still_some entry was now kept goal some = elim (kept goal) [
    | inl same ↦ subst IsSome (sym same) some
    | inr new ↦ subst IsSome (sym new.1) refl
  ]

  pub one_entered : (was now new : I → Option ℕ) (asked : List I) (count : ℕ) (one : I)
      → AreEntered was now asked count → slice_get asked count ≡ Some one → KeepsEntries 0 now new
      → IsSome (new one) → AreEntered was new asked (count + 1)
  one_entered was now new asked count one so_far is kept some = record {
    same = λ goal. still_last now new kept goal ∙ so_far.same goal;
    entered = λ at other less stands. elim (cases_eq at count) [
      | inl here ↦
          let two : Some one ≡ Some other = sym is ∙ ap (slice_get asked) (sym here) ∙ stands in
          let same : one ≡ other = cc in
          subst (λ x. IsSome (new x)) same some
      | inr apart ↦ still_some 0 now new kept other (so_far.entered at other (omega (arith, less, apart)) stands)
    ];
  }

  pub all_entered : (was now : I → Option ℕ) (asked : List I) (count : ℕ) → length asked ≤ count
      → AreEntered was now asked count → HaveEntries now asked
  all_entered was now asked count past all one has =
      all.entered has.0 one (omega (arith, has.1, past)) (member_at asked one has)

  -- a goal that had no entry counts from the end on
  pub counts_same : (first second : I → Option ℕ) (end : ℕ) → KeepsEntries end first second
      → (place : ℕ) (goal : I) → place < end → counts second place goal ≡ counts first place goal
  counts_same first second end kept place goal less = elim (kept goal) [
    | inl same ↦ ap (λ o. counts_from o place) same
    | inr new ↦ ap (λ o. counts_from o place) new.1 ∙ lt-leb end place less
        ∙ sym (ap (λ o. counts_from o place) new.0)
  ]

  pub begun_entered : (first second last : I → Option ℕ) (links : List (Link I)) (end : ℕ) → IsIndex first last links
      → end ≡ length links → KeepsEntries end first second
      → (goal : I) (place : ℕ) → second goal ≡ Some place → place ≤ length links
  begun_entered first second last links end index is_end kept goal place e = elim (kept goal) [
    | inl same ↦ index.begun goal place (sym same ∙ e)
    | inr new ↦
        let two : Some end ≡ Some place = sym new.1 ∙ e in
        let one : end ≡ place = cc in
        omega (arith, one, is_end)
  ]

  pub told_still : (first second : I → Option ℕ) (links : List (Link I)) (end : ℕ) → end ≡ length links
      → KeepsEntries end first second → counted second 0 (pairs_of links) ≡ counted first 0 (pairs_of links)
  told_still first second links end is_end kept =
      counted_same first second 0 end (pairs_of links) (omega (arith, is_end, length-map links pair_of))
      (counts_same first second end kept)

  -- ---- links of a goal to some

  module _ (same : I → I → Bool) (goal : I) (asked : List I) where
    -- the goal is linked to the first so many of these, and there is room for links to the others
    pub record IsPushing (start now : Told I) (count : ℕ) : Type 0 where
      pub indexed : AreIndexed same now
      pub told : told_of same now ≡ told_of same start ++ map (λ one. (goal, one)) (take count asked)
      pub begun : IsSome (first_of same now goal)
      pub entries : HaveEntries (hash.get same now.last) asked
      pub places : vec_len now.links + length asked ≤ vec_capacity now.links + count

    pub none_pushed : (start : Told I) → AreIndexed same start → HasRoom same start goal asked
        → IsPushing start start 0
    none_pushed start indexed room = record {
      indexed = indexed;
      told = sym (append-nil (told_of same start));
      begun = room.begun;
      entries = room.entries;
      places = omega (arith, room.places);
    }

    pub one_pushed : (start now new : Told I) (count : ℕ) (one : I) → IsPushing start now count
        → take (count + 1) asked ≡ take count asked ++ one ∷ [] → Links same goal one now new
        → IsPushing start new (count + 1)
    one_pushed start now new count one so_far more links = record {
      indexed = links.indexed;
      told = links.told ∙ ap (λ l. l ++ (goal, one) ∷ []) so_far.told
          ∙ append_assoc (told_of same start) (map (λ x. (goal, x)) (take count asked)) ((goal, one) ∷ [])
          ∙ ap (λ l. told_of same start ++ l)
          (sym (map-append (λ x. (goal, x)) (take count asked) (one ∷ [])) ∙ ap (map (λ x. (goal, x))) (sym more));
      begun = subst (λ f. IsSome (hash.get same f goal)) (sym links.first) so_far.begun;
      entries = λ other has. links.entries other (so_far.entries other has);
      places = omega (arith, so_far.places, links.more, links.capacity);
    }
