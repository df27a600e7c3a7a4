-- How names are found by their links.
use Rattle.std.proofs.Common.{◌≡◌, ℕ, zero, suc, ◌+◌, ◌-◌, ◌*◌, ◌/◌, ◌%◌, ◌<◌, ◌≤◌, ◌^◌, true, false}
use Rattle.std.proofs.Common.{List, [], ◌∷◌, ◌++◌}
use Rattle.std.proofs.Common.{length, map, Some, None, refl, ap, sym, ◌∙◌, subst, arith, inl, inr, ◌⊎◌, slice_set}
use Rattle.std.specs.Prelude.{slice_get, ◌↔◌}
use Rattle.std.specs.List.{IsDistinct}
use Rattle.std.specs.Cmp.{on_equiv}
use Rattle.std.specs.Cmp.Lexicographic.{nat_list_eq_equiv}
use Rattle.std.specs.Str.{bytes_eq}
use Rattle.std.proofs.lemmas.List.{get_or-set_same, get_or-set_other}
use Rattle.std.proofs.lemmas.Map.Keys.{IsDistinct-push}
use Rattle.std.proofs.lemmas.Bool.{cases_lt}
use Rattle.std.proofs.lemmas.Option.{slice_get-get_or, slice_get-map, slice_get_within}
use Rattle.std.proofs.lemmas.Slice.Eq.{bytes_eq-Decides}
use Rattle.std.proofs.Math.ListN.{length-append}
use Rattle.std.specs.Option.{option_map}
use Rattle.line_texts.specs.Letters.{head_of, letters_of}
use Rattle.line_texts.specs.Names.{AreFound, AreLinked, LeadsTo, here, link_of, on, same_name, text_of}
use Rattle.line_texts.specs.declared.names.name.Name.{Name}
use Rattle.line_texts.proofs.NameLemmas.{first_place, not_among, place_in_longer, some_same}

-- ---- ways

pub leads_before : (links : List ℕ) (goal slot rest : ℕ) → LeadsTo links goal slot rest → slot < goal
leads_before links goal slot rest (here before is) = before
leads_before links goal slot rest (on before next) =
    let further = leads_before links goal _ _ next in omega (arith, before, further)

pub leads_within : (links : List ℕ) (goal slot rest : ℕ) → LeadsTo links goal slot rest
    → (slot < link_of links slot) × (link_of links slot ≤ goal)
leads_within links goal slot rest (here before is) = (omega (arith, before, is), omega (arith, is))
leads_within links goal slot rest (on before next) =
    let further = leads_before links goal _ _ next in (before, omega (arith, further))

pub leads_on : (links : List ℕ) (goal slot rest : ℕ) → LeadsTo links goal slot rest
    → (link_of links slot ≡ goal → ⊥) → LeadsTo links goal (link_of links slot + rest % 2) (rest / 2)
leads_on links goal slot rest (here before is) other = absurd (other is)
leads_on links goal slot rest (on before next) other = next

same_link : (links : List ℕ) (at new goal slot : ℕ) → (at < link_of links at → new < link_of links at + 2)
    → goal + 2 ≤ new → (slot < link_of links slot) × (link_of links slot ≤ goal)
    → link_of (slice_set links at new) slot ≡ link_of links slot
same_link links at new goal slot free less within = get_or-set_other links at slot new 0 (λ is.
    let taken = free (subst (λ s. s < link_of links s) is within.0) in
    let most = subst (λ s. link_of links s ≤ goal) is within.1 in
    omega (arith, taken, most, less))

-- a slot whose link leads to no name before the new one is on no way to such a name
pub leads_kept : (links : List ℕ) (at new goal slot rest : ℕ) → (at < link_of links at → new < link_of links at + 2)
    → goal + 2 ≤ new → LeadsTo links goal slot rest → LeadsTo (slice_set links at new) goal slot rest
leads_kept links at new goal slot rest free less (here before is) =
    let e = same_link links at new goal slot free less (omega (arith, before, is), omega (arith, is)) in
    here before (e ∙ is)
leads_kept links at new goal slot rest free less (on before next) =
    let further = leads_before links goal _ _ next in
    let e = same_link links at new goal slot free less (before, omega (arith, further)) in
    on (subst (λ l. slot < l) (sym e) before)
    (subst (λ l. LeadsTo (slice_set links at new) goal (l + rest % 2) (rest / 2)) (sym e)
    (leads_kept links at new goal _ _ free less next))

-- whatever the slots from this one on link to, a way from it to the goal is the rest of one from the first slot
abbrev pub IsWay : List ℕ → ℕ → ℕ → ℕ → ℕ → ℕ → Type 0
IsWay links goal first letters slot rest = (later : List ℕ)
    → ((s : ℕ) → s < slot → link_of later s ≡ link_of links s)
    → LeadsTo later goal slot rest → LeadsTo later goal first letters

pub way_on : (links : List ℕ) (goal first letters slot rest : ℕ) → IsWay links goal first letters slot rest
    → slot < link_of links slot → IsWay links goal first letters (link_of links slot + rest % 2) (rest / 2)
way_on links goal first letters slot rest way before = λ later same leads.
    let at : link_of later slot ≡ link_of links slot = same slot (omega (arith, before)) in
    way later (λ s less. same s (omega (arith, less, before))) (on (subst (λ l. slot < l) (sym at) before)
    (subst (λ l. LeadsTo later goal (l + rest % 2) (rest / 2)) (sym at) leads))

pub way_ends : (links : List ℕ) (goal first letters slot rest : ℕ) → IsWay links goal first letters slot rest
    → slot < goal → slot < length links → LeadsTo (slice_set links slot goal) goal first letters
way_ends links goal first letters slot rest way before within = way (slice_set links slot goal)
    (λ s less. get_or-set_other links slot s goal 0 (λ is. omega (arith, less, is)))
    (here before (get_or-set_same links slot goal 0 within))

-- ---- a name is looked for

key_at : (keys : List Name) (n : ℕ) (text : List ℕ) → slice_get (map text_of keys) n ≡ Some text
    → (key : Name) × (slice_get keys n ≡ Some key) × (text_of key ≡ text)
key_at [] n text at = absurd cc
key_at (x ∷ keys) zero text at = (x, refl, some_same (text_of x) text at)
key_at (x ∷ keys) (suc n) text at = key_at keys n text at

-- the ways from a slot on lead to each place of the name
abbrev pub IsAhead : ℕ → List ℕ → List Name → List ℕ → ℕ → ℕ → Type 0
IsAhead heads links keys text slot rest = (n : ℕ) → slice_get (map text_of keys) n ≡ Some text
    → LeadsTo links (heads + 2 * n) slot rest

pub ahead_first : (heads : ℕ) (links : List ℕ) (keys : List Name) (text : List ℕ) → AreFound heads links keys
    → IsAhead heads links keys text (head_of (letters_of text) heads) (letters_of text)
ahead_first heads links keys text found = λ n at.
    let key = key_at keys n text at in
    let within = slice_get_within keys n key.0 key.1 in
    subst (λ t. LeadsTo links (heads + 2 * n) (head_of (letters_of t) heads) (letters_of t)) key.2
    (found.linked.led n key.0 within key.1)

pub ahead_on : (heads : ℕ) (links : List ℕ) (keys : List Name) (text : List ℕ) (slot rest number : ℕ) (known : Name)
    → IsAhead heads links keys text slot rest → number ≡ (link_of links slot - heads) / 2
    → slice_get keys number ≡ Some known → bytes_eq (text_of known) text ≡ false
    → IsAhead heads links keys text (link_of links slot + rest % 2) (rest / 2)
ahead_on heads links keys text slot rest number known ahead is stands other = λ n at.
    leads_on links (heads + 2 * n) slot rest (ahead n at) (λ there.
    let same : n ≡ number = omega (arith, there, is) in
    let key = key_at keys n text at in
    let one : known ≡ key.0 = some_same known key.0 (sym stands ∙ (ap (slice_get keys) (sym same) ∙ key.1)) in
    let equal : bytes_eq (text_of known) text ≡ true =
    (bytes_eq-Decides (text_of known) text).1 (ap text_of one ∙ key.2) in
    cc)

pub not_ahead : (heads : ℕ) (links : List ℕ) (keys : List Name) (text : List ℕ) (slot rest link : ℕ)
    → IsAhead heads links keys text slot rest → link ≡ link_of links slot → (slot < link → ⊥)
    → (n : ℕ) → slice_get (map text_of keys) n ≡ Some text → ⊥
not_ahead heads links keys text slot rest link ahead is ends n at =
    ends (subst (λ l. slot < l) (sym is) (leads_within links (heads + 2 * n) slot rest (ahead n at)).0)

pub not_past : (heads : ℕ) (links : List ℕ) (keys : List Name) (text : List ℕ) (slot rest number : ℕ)
    → IsAhead heads links keys text slot rest → number ≡ (link_of links slot - heads) / 2
    → slice_get keys number ≡ None → (n : ℕ) → slice_get (map text_of keys) n ≡ Some text → ⊥
not_past heads links keys text slot rest number ahead is none n at =
    let key = key_at keys n text at in
    let within = slice_get_within keys n key.0 key.1 in
    let most = (leads_within links (heads + 2 * n) slot rest (ahead n at)).1 in
    let inside : number < length keys = omega (arith, within, most, is) in
    let some = slice_get-get_or keys number key.0 inside in
    cc

-- where no two names are the same, a name has one place
pub only_place : (keys : List Name) (text : List ℕ) (m n : ℕ) → IsDistinct same_name keys
    → slice_get (map text_of keys) m ≡ Some text → (Some m ≡ Some n) ↔ (slice_get (map text_of keys) n ≡ Some text)
only_place keys text m n apart at = (
  λ same. subst (λ k. slice_get (map text_of keys) k ≡ Some text) (some_same m n same) at,
  λ there. ap Some (sym (first_place keys text m apart at) ∙ first_place keys text n apart there),
)

pub text_at : (keys : List Name) (n : ℕ) (key : Name) (text : List ℕ) → slice_get keys n ≡ Some key
    → bytes_eq (text_of key) text ≡ true → slice_get (map text_of keys) n ≡ Some text
text_at keys n key text at same = slice_get-map text_of keys n
    ∙ (ap (option_map text_of) at ∙ ap Some ((bytes_eq-Decides (text_of key) text).0 same))

-- ---- one more name is linked

pub linked_more : (heads : ℕ) (old new : List ℕ) (names all : List Name) (key : Name) (count : ℕ)
    → AreLinked heads old names count → length new ≡ length old
    → ((n : ℕ) (name : Name) → n < count → slice_get all n ≡ Some name → slice_get names n ≡ Some name)
    → slice_get all count ≡ Some key
    → LeadsTo new (heads + 2 * count) (head_of (letters_of (text_of key)) heads) (letters_of (text_of key))
    → ((goal slot rest : ℕ) → goal + 2 ≤ heads + 2 * count → LeadsTo old goal slot rest → LeadsTo new goal slot rest)
    → AreLinked heads new all (count + 1)
linked_more heads old new names all key count linked same before stands leads kept = record {
  room = same ∙ linked.room;
  few = linked.few;
  led = λ n name less at. by n name less at (cases_lt n count);
}
  where
    by : (n : ℕ) (name : Name) → n < count + 1 → slice_get all n ≡ Some name → (n < count) ⊎ (count ≤ n)
        → LeadsTo new (heads + 2 * n) (head_of (letters_of (text_of name)) heads) (letters_of (text_of name))
    by n name less at (inl earlier) =
        kept (heads + 2 * n) _ _ (omega (arith, earlier)) (linked.led n name earlier (before n name earlier at))
    by n name less at (inr last) =
        let is : n ≡ count = omega (arith, less, last) in
        let one : key ≡ name = some_same key name (sym stands ∙ (ap (slice_get all) (sym is) ∙ at)) in
        subst (λ m. LeadsTo new (heads + 2 * m) (head_of (letters_of (text_of name)) heads) (letters_of (text_of name)))
        (sym is) (subst (λ k. LeadsTo new (heads + 2 * count) (head_of (letters_of (text_of k)) heads)
        (letters_of (text_of k))) one leads)

-- one more name is found
pub found_more : (heads : ℕ) (old new : List ℕ) (keys all : List Name) (key : Name) (count : ℕ)
    → AreLinked heads old keys count → IsDistinct same_name keys → count ≡ length keys → count < heads
    → all ≡ keys ++ key ∷ [] → ((n : ℕ) → slice_get (map text_of keys) n ≡ Some (text_of key) → ⊥)
    → length new ≡ length old
    → LeadsTo new (heads + 2 * count) (head_of (letters_of (text_of key)) heads) (letters_of (text_of key))
    → ((goal slot rest : ℕ) → goal + 2 ≤ heads + 2 * count → LeadsTo old goal slot rest → LeadsTo new goal slot rest)
    → AreFound heads new all
found_more heads old new keys all key count linked apart is less is_all none same leads kept =
    let size : length all ≡ count + 1 =
    ap length is_all ∙ (length-append keys (key ∷ []) ∙ ap (λ n. n + 1) (sym is)) in
    record {
      enough = omega (arith, size, less);
      linked = subst (AreLinked heads new all) (sym size) (linked_more heads old new keys all key count linked same
          (λ n name earlier at. before n name earlier (subst (λ xs. slice_get xs n ≡ Some name) is_all at))
          (subst (λ xs. slice_get xs count ≡ Some key) (sym is_all) (at_the_end keys count is)) leads kept);
      distinct = subst (IsDistinct same_name) (sym is_all)
          (IsDistinct-push (on_equiv text_of nat_list_eq_equiv) keys key apart (not_among keys key none));
    }
  where
    at_the_end : (xs : List Name) (n : ℕ) → n ≡ length xs → slice_get (xs ++ key ∷ []) n ≡ Some key
    at_the_end [] n e = rw e refl
    at_the_end (y ∷ xs) zero e = absurd (omega arith)
    at_the_end (y ∷ xs) (suc n) e = at_the_end xs n (omega arith)

    before : (n : ℕ) (name : Name) → n < count → slice_get (keys ++ key ∷ []) n ≡ Some name
        → slice_get keys n ≡ Some name
    before n name earlier at = elim (place_in_longer keys key n name at) [
      | inl old ↦ old
      | inr last ↦ absurd (omega (arith, last.0, earlier, is))
    ]

-- of no names each is found
pub linked_none : (heads : ℕ) (links : List ℕ) (names : List Name) → length links ≡ 3 * heads → heads ≤ 2 ^ 30
    → AreLinked heads links names 0
linked_none heads links names room few =
    record { room = room; few = few; led = λ n name less at. absurd (omega (arith, less)) }

none_distinct : IsDistinct same_name []
unfolding IsDistinct
none_distinct = tt

pub found_none : (links : List ℕ) (names : List Name) → links ≡ [] → names ≡ [] → AreFound 0 links names
found_none links names no_links no_names = rw (no_links, no_names)
    (record { enough = omega arith; linked = linked_none 0 [] [] refl (omega arith); distinct = none_distinct })
