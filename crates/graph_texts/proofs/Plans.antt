-- A walk over a graph, one line further.
use Rattle.std.proofs.Common.{⊎_elim, inl, inr, ◌≡◌, ◌≢◌, ◌∙◌, ◌⊎◌, ◌+◌, ◌<◌, ◌≤◌, add-one, arith, if◌then◌else◌}
use Rattle.std.proofs.Common.{length, nat_le, nat_lt, None, ℕ, Bool, true, false, ◌&&◌, ◌||◌, List, [], ◌∷◌, ◌++◌, ap}
use Rattle.std.proofs.Common.{sym, refl, rules, subst, eq-eqb, eqb-true, nat_eq, slice_set, Some, slice_get, zero}
use Rattle.std.proofs.Common.{suc, replicate}
use Rattle.list_lemmas.proofs.Lists.{get_set_other, get_set_same}
use Rattle.std.proofs.lemmas.Bool.{cases_Bool}
use Rattle.std.proofs.lemmas.List.{append-nil}
use Rattle.std.proofs.lemmas.List.Elements.{filter_map-append}
use Rattle.std.proofs.lemmas.List.Folds.{list_all-append, list_any-append}
use Rattle.std.proofs.lemmas.Map.Keys.{IsDistinct-push}
use Rattle.std.specs.List.{IsDistinct, list_all, list_any}
use Rattle.std.specs.Cmp.{IsEquivalence}
use Rattle.std.proofs.lemmas.Bool.Decides.{nat_tests}
use Rattle.graph_texts.specs.Plan.{AreCutBelow, is_cut, is_cut_below, is_found, is_unseen, left_out, WasSeen, ShowsSeen}
use Rattle.graph_texts.specs.Plan.{place_of, place_shown, places_shown}
use Rattle.graph_texts.specs.declared.plan.Line.{Line}
use Rattle.graph_texts.specs.declared.plan.Line.TheVariants.{Again, Cut, Shown}
use Rattle.graph_texts.specs.declared.plan.Mark.{Mark}
use Rattle.graph_texts.specs.declared.plan.Mark.TheVariants.{Open, Done, Unseen}

and_both : (a b : Bool) → a ≡ true → b ≡ true → (a && b) ≡ true
and_both a b p q = ap (λ x. x && b) p ∙ q

and_parts : (a b : Bool) → (a && b) ≡ true → (a ≡ true) × (b ≡ true)
and_parts true b h = (refl, h)
and_parts false b h = absurd (cc)

or_more : (c a b : Bool) → (c || a) ≡ true → (c || (a || b)) ≡ true
or_more true a b h = refl
or_more false true b h = refl
or_more false false b h = absurd (cc)

or_right : (a : Bool) → (a || true) ≡ true
or_right true = refl
or_right false = refl

-- what is found stays so where more is shown
found_grow : (shown : List ℕ) (place : ℕ) (lines : List Line) → list_all (is_found shown) lines ≡ true
    → list_all (is_found (shown ++ place ∷ [])) lines ≡ true
found_grow shown place [] h = refl
found_grow shown place (line ∷ lines) h =
    let parts = and_parts (is_found shown line) (list_all (is_found shown) lines) h in
    and_both (is_found (shown ++ place ∷ []) line) _
    (ap (λ b. is_cut line || b) (list_any-append (nat_eq (place_of line)) shown (place ∷ [])) ∙ or_more (is_cut line)
    (list_any (nat_eq (place_of line)) shown) (list_any (nat_eq (place_of line)) (place ∷ [])) parts.0)
    (found_grow shown place lines parts.1)

found_push : (shown : List ℕ) (lines : List Line) (line : Line) → list_all (is_found shown) lines ≡ true
    → is_found shown line ≡ true → list_all (is_found shown) (lines ++ line ∷ []) ≡ true
found_push shown lines line all one = list_all-append (is_found shown) lines (line ∷ []) ∙ and_both
    (list_all (is_found shown) lines) (is_found shown line && true) all (and_both (is_found shown line) true one refl)

-- one more line that shows nothing
walk_same : (lines : List Line) (line : Line) (marks : List Mark)
    → places_shown (lines ++ line ∷ []) ≡ places_shown lines → is_found (places_shown lines) line ≡ true
    → ShowsSeen lines marks → ShowsSeen (lines ++ line ∷ []) marks
walk_same lines line marks same here walk = record {
  once = subst (λ places. IsDistinct nat_eq places) (sym same) walk.once;
  found = ap (λ places. list_all (is_found places) (lines ++ line ∷ [])) same
      ∙ found_push (places_shown lines) lines line walk.found here;
  unseen = λ place h. ap (λ places. list_any (nat_eq place) places) same ∙ walk.unseen place h;
  seen = λ place number h. ap (λ places. list_any (nat_eq place) places) same ∙ walk.seen place number h;
}

pub walk_again : (lines : List Line) (marks : List Mark) (place level number : ℕ) (closes : Bool)
    → WasSeen marks place number → ShowsSeen lines marks
    → ShowsSeen (lines ++ Again place level number closes ∷ []) marks
walk_again lines marks place level number closes known walk =
    walk_same lines (Again place level number closes) marks
    (filter_map-append place_shown lines (Again place level number closes ∷ []) ∙ append-nil _)
    (walk.seen place number known) walk

pub walk_cut : (lines : List Line) (marks : List Mark) (place level : ℕ) → ShowsSeen lines marks
    → ShowsSeen (lines ++ Cut place level ∷ []) marks
walk_cut lines marks place level walk = walk_same lines (Cut place level) marks
    (filter_map-append place_shown lines (Cut place level ∷ []) ∙ append-nil _) refl walk

-- the mark of a node after one was marked anew
mark_after : (marks : List Mark) (place q : ℕ) (old new mark : Mark) → slice_get marks place ≡ Some old →
    slice_get (slice_set marks place new) q ≡ Some mark →
    ((slice_get marks q ≡ Some mark) × (nat_eq q place ≡ false)) ⊎ ((mark ≡ new) × (nat_eq q place ≡ true))
mark_after marks place q old new mark before h = ⊎_elim
    (λ t. let marked : slice_get (slice_set marks place new) q ≡ Some new =
    subst (λ p. slice_get (slice_set marks place new) p ≡ Some new) (sym (eqb-true q place t))
    (get_set_same marks place old new before) in
    let both : Some mark ≡ Some new = sym h ∙ marked in inr (cc, t))
    (λ f. let other : q ≢ place = λ e. let bad : true ≡ false = sym (eq-eqb q place e) ∙ f in absurd (cc) in
    inl (sym (get_set_other marks place new q other) ∙ h, f))
    (cases_Bool (nat_eq q place))

-- a node that was unseen is shown, and marked
pub walk_shown : IsEquivalence nat_eq → (lines : List Line) (marks : List Mark) (place level number mark : ℕ) →
    slice_get marks place ≡ Some Unseen →
    ShowsSeen lines marks → ShowsSeen (lines ++ Shown place level number ∷ []) (slice_set marks place (Open mark))
walk_shown laws lines marks place level number mark unseen walk =
    let more : places_shown (lines ++ Shown place level number ∷ []) ≡ places_shown lines ++ place ∷ [] =
    filter_map-append place_shown lines (Shown place level number ∷ []) in
    let any : (q : ℕ) → list_any (nat_eq q) (places_shown (lines ++ Shown place level number ∷ []))
    ≡ (list_any (nat_eq q) (places_shown lines) || (nat_eq q place || false)) =
    λ q. ap (λ places. list_any (nat_eq q) places) more
    ∙ list_any-append (nat_eq q) (places_shown lines) (place ∷ []) in
    let here : (q : ℕ) → nat_eq q place ≡ true
    → list_any (nat_eq q) (places_shown (lines ++ Shown place level number ∷ [])) ≡ true =
    λ q t. any q ∙ ap (λ b. list_any (nat_eq q) (places_shown lines) || (b || false)) t
    ∙ or_right (list_any (nat_eq q) (places_shown lines)) in
    let kept : (q : ℕ) → list_any (nat_eq q) (places_shown lines) ≡ true
    → list_any (nat_eq q) (places_shown (lines ++ Shown place level number ∷ [])) ≡ true =
    λ q t. any q ∙ ap (λ b. b || (nat_eq q place || false)) t in
    record {
      once = subst (λ places. IsDistinct nat_eq places) (sym more)
          (IsDistinct-push laws (places_shown lines) place walk.once (walk.unseen place unseen));
      found = ap (λ places. list_all (is_found places) (lines ++ Shown place level number ∷ [])) more
          ∙ found_push (places_shown lines ++ place ∷ []) lines (Shown place level number)
          (found_grow (places_shown lines) place lines walk.found)
          (sym (ap (λ places. list_any (nat_eq place) places) more) ∙ here place (eq-eqb place place refl));
      unseen = λ q h. ⊎_elim
          (λ old. any q ∙ ap (λ b. b || (nat_eq q place || false)) (walk.unseen q old.0) ∙ ap (λ b. b || false) old.1)
          (λ new. let bad : Unseen ≡ Open mark = new.0 in absurd (cc))
          (mark_after marks place q Unseen (Open mark) Unseen unseen h);
      seen = λ q n h. ⊎_elim
          (λ o. ⊎_elim (λ old. kept q (walk.seen q n (inl old.0))) (λ new. here q new.1)
          (mark_after marks place q Unseen (Open mark) (Open n) unseen o))
          (λ d. ⊎_elim (λ old. kept q (walk.seen q n (inr old.0))) (λ new. here q new.1)
          (mark_after marks place q Unseen (Open mark) (Done n) unseen d))
          h;
    }

-- a node is left: it is shown as before
pub walk_left : (lines : List Line) (marks : List Mark) (place number : ℕ) → slice_get marks place ≡ Some (Open number)
    → ShowsSeen lines marks → ShowsSeen lines (slice_set marks place (Done number))
walk_left lines marks place number before walk =
    let here : (q : ℕ) → nat_eq q place ≡ true → list_any (nat_eq q) (places_shown lines) ≡ true =
    λ q t. subst (λ p. list_any (nat_eq p) (places_shown lines) ≡ true) (sym (eqb-true q place t))
    (walk.seen place number (inl before)) in
    record {
      once = walk.once;
      found = walk.found;
      unseen = λ q h. ⊎_elim (λ old. walk.unseen q old.0) (λ new. let bad : Unseen ≡ Done number = new.0 in absurd (cc))
          (mark_after marks place q (Open number) (Done number) Unseen before h);
      seen = λ q n h. ⊎_elim
          (λ o. ⊎_elim (λ old. walk.seen q n (inl old.0)) (λ new. here q new.1)
          (mark_after marks place q (Open number) (Done number) (Open n) before o))
          (λ d. ⊎_elim (λ old. walk.seen q n (inr old.0)) (λ new. here q new.1)
          (mark_after marks place q (Open number) (Done number) (Done n) before d))
          h;
    }

get-replicate : (n i : ℕ) (a b : Mark) → slice_get (replicate n a) i ≡ Some b → b ≡ a
get-replicate zero i a b h = absurd (cc)
get-replicate (suc n) zero a b h = cc
get-replicate (suc n) (suc i) a b h = get-replicate n i a b h

-- nothing is shown yet
pub walk_begins : (lines : List Line) (marks : List Mark) (count : ℕ) → lines ≡ []
    → marks ≡ replicate count Unseen → ShowsSeen lines marks
unfolding IsDistinct
walk_begins lines marks count none fresh =
    let all_unseen : (place : ℕ) (mark : Mark) → slice_get marks place ≡ Some mark → mark ≡ Unseen =
    λ place mark h. get-replicate count place Unseen mark (sym (ap (λ ms. slice_get ms place) fresh) ∙ h) in
    subst (λ ls. ShowsSeen ls marks) (sym none) (record {
      once = search rules;
      found = refl;
      unseen = λ place h. refl;
      seen = λ place number h. ⊎_elim
          (λ o. let bad : Open number ≡ Unseen = all_unseen place (Open number) o in absurd (cc))
          (λ d. let bad : Done number ≡ Unseen = all_unseen place (Done number) d in absurd (cc)) h;
    })

-- ---- what is left out

deep_push : (most count : ℕ) (lines : List Line) (line : Line) → AreCutBelow most count lines
    → is_cut_below most count line ≡ true → AreCutBelow most count (lines ++ line ∷ [])
deep_push most count lines line all one =
    list_all-append (is_cut_below most count) lines (line ∷ []) ∙ and_both (list_all (is_cut_below most count) lines)
    (is_cut_below most count line && true) all (and_both (is_cut_below most count line) true one refl)

pub shown_deep : (most count : ℕ) (lines : List Line) (place level number : ℕ) → AreCutBelow most count lines
    → level ≤ most → AreCutBelow most count (lines ++ Shown place level number ∷ [])
shown_deep most count lines place level number all within =
    deep_push most count lines (Shown place level number) all (grind (arith, nat_tests))

pub cut_deep : (most count : ℕ) (lines : List Line) (place level : ℕ) → AreCutBelow most count lines → most < level
    → AreCutBelow most count (lines ++ Cut place level ∷ [])
cut_deep most count lines place level all below =
    let deep : nat_lt most level ≡ true = grind (arith, nat_tests) in
    deep_push most count lines (Cut place level) all (ap (λ b. b || nat_le count place) deep)

none_past : {A : Type 0} (xs : List A) (i : ℕ) → slice_get xs i ≡ None → length xs ≤ i
none_past [] i none = omega arith
none_past (x ∷ xs) zero none = absurd cc
none_past (x ∷ xs) (suc i) none = let past = none_past xs i none in omega arith

pub cut_past : (most : ℕ) (marks : List Mark) (lines : List Line) (place level : ℕ)
    → AreCutBelow most (length marks) lines → slice_get marks place ≡ None
    → AreCutBelow most (length marks) (lines ++ Cut place level ∷ [])
cut_past most marks lines place level all none =
    let within = none_past marks place none in
    let past : nat_le (length marks) place ≡ true = grind (arith, nat_tests) in
    deep_push most (length marks) lines (Cut place level) all
    (ap (λ b. nat_lt most level || b) past ∙ or_right (nat_lt most level))

-- one node more that was seen or not
pub left_out_more : (lines : List Line) (marks : List Mark) (place : ℕ) (mark : Mark) →
    ShowsSeen lines marks → slice_get marks place ≡ Some mark →
    left_out (place + 1) lines ≡ left_out place lines + (if is_unseen mark then 1 else 0)
left_out_more lines marks place Unseen walk at =
    ap (λ n. left_out n lines) (add-one place)
    ∙ ap (λ b. left_out place lines + (if b then 0 else 1)) (walk.unseen place at)
left_out_more lines marks place (Open number) walk at =
    ap (λ n. left_out n lines) (add-one place)
    ∙ ap (λ b. left_out place lines + (if b then 0 else 1)) (walk.seen place number (inl at))
left_out_more lines marks place (Done number) walk at =
    ap (λ n. left_out n lines) (add-one place)
    ∙ ap (λ b. left_out place lines + (if b then 0 else 1)) (walk.seen place number (inr at))
