-- Two lists of one length, side by side, from their ends.
use Rattle.std.proofs.Common.{◌≡◌, ℕ, zero, suc, get_or, slice_set, ◌+◌, List, [], ◌∷◌, ◌++◌, length, map, Bool, true}
use Rattle.std.proofs.Common.{false, ◌||◌, None, Result, Ok, Err, OnOk, OnErr, is_some, refl, sym, ap, ap₂, ◌∙◌}
use Rattle.std.proofs.Common.{zero-add, arith}
use Rattle.std.specs.List.{position, list_any}
use Rattle.std.proofs.lemmas.Bool.Decides.{nat_tests}
use Rattle.std.proofs.Math.Bool.{or-false}
use Rattle.std.proofs.lemmas.List.{length-append}
use Rattle.std.proofs.lemmas.List.Sums.{prefix_len-le-length}
use Rattle.goal_changes.specs.Words.{paired}
use Rattle.open_goals.specs.Below.{change_last}
use Rattle.run_records.proofs.Options.{is_none}

turned : (a b c : Bool) → (b || (a || c)) ≡ ((a || b) || c)
turned true true c = refl
turned true false c = refl
turned false true c = refl
turned false false c = refl

module _ {E F : Type 0} where
  pub length-paired : (below : List (E × F)) (es : List E) (fs : List F) → length es ≡ length fs
      → length (paired below es fs) ≡ length below + length fs
  length-paired below [] [] same = omega arith
  length-paired below (e ∷ es) (f ∷ fs) same = omega (arith, length-paired ((e, f) ∷ below) es fs (omega arith))
  length-paired below es fs same = absurd (omega arith)

  pub paired_push : (below : List (E × F)) (es : List E) (fs : List F) (e : E) (f : F) → length es ≡ length fs
      → paired below (es ++ e ∷ []) (fs ++ f ∷ []) ≡ (e, f) ∷ paired below es fs
  paired_push below [] [] e f same = refl
  paired_push below (x ∷ es) (y ∷ fs) e f same = paired_push ((x, y) ∷ below) es fs e f (omega arith)
  paired_push below es fs e f same = absurd (omega arith)

  -- the test is of the first half of each pair
  pub list_any-paired : (test : E → Bool) (below : List (E × F)) (es : List E) (fs : List F) → length es ≡ length fs
      → list_any (λ s. test s.0) (paired below es fs) ≡ (list_any test es || list_any (λ s. test s.0) below)
  list_any-paired test below [] [] same = refl
  list_any-paired test below (e ∷ es) (f ∷ fs) same = list_any-paired test ((e, f) ∷ below) es fs (omega arith)
      ∙ turned (test e) (list_any test es) (list_any (λ s. test s.0) below)
  list_any-paired test below es fs same = absurd (omega arith)

module _ {E I : Type 0} (f : E → I) where
  found-step : (p : I → Bool) (e : E) (es : List E) → is_some (position p (map f es)) ≡ list_any (λ x. p (f x)) es
      → is_some (position p (map f (e ∷ es))) ≡ list_any (λ x. p (f x)) (e ∷ es)
  found-step p e es ih = grind (arith, nat_tests, prefix_len-le-length)

  pub is_some_position_map : (p : I → Bool) (es : List E) → is_some (position p (map f es)) ≡ list_any (λ e. p (f e)) es
  is_some_position_map p [] = refl
  is_some_position_map p (e ∷ es) = found-step p e es (is_some_position_map p es)

  -- what a look-up among the first halves says of the pairs
  pub found_in_paired : {F : Type 0} (p : I → Bool) (es : List E) (fs : List F) (view : List (E × F)) (b : Bool)
      → length es ≡ length fs → paired [] es fs ≡ view → b ≡ is_some (position p (map f es))
      → b ≡ list_any (λ s. p (f s.0)) view
  found_in_paired p es fs view b same is found =
      found ∙ is_some_position_map p es ∙ sym (or-false _)
      ∙ sym (list_any-paired (λ e. p (f e)) [] es fs same) ∙ ap (list_any (λ s. p (f s.0))) is

  pub absent_from_paired : {F : Type 0} (p : I → Bool) (es : List E) (fs : List F) (view : List (E × F))
      → length es ≡ length fs → paired [] es fs ≡ view
      → list_any (λ s. p (f s.0)) view ≡ false → position p (map f es) ≡ None
  absent_from_paired p es fs view same is absent = is_none _ (found_in_paired p es fs view _ same is refl ∙ absent)

module _ {E F : Type 0} where
  pub length_of_view : (es : List E) (fs : List F) (view : List (E × F)) → length es ≡ length fs
      → paired [] es fs ≡ view → (length es ≡ length view) × (length fs ≡ length view)
  length_of_view es fs view same is =
      let whole : length view ≡ length fs = ap length (sym is) ∙ length-paired [] es fs same ∙ zero-add (length fs) in
      (same ∙ sym whole, sym whole)

  pub popped_paired : (es es' : List E) (fs fs' : List F) (e : E) (f : F) (view : List (E × F)) → length es ≡ length fs
      → paired [] es fs ≡ view → es ≡ es' ++ e ∷ [] → fs ≡ fs' ++ f ∷ []
      → (length es' ≡ length fs') × (view ≡ (e, f) ∷ paired [] es' fs')
  popped_paired es es' fs fs' e f view same is first second =
      let shorter : length es' ≡ length fs' =
      omega (arith, same, ap length first, ap length second, length-append es' (e ∷ []), length-append fs' (f ∷ [])) in
      (shorter, sym is ∙ ap₂ (paired []) first second ∙ paired_push [] es' fs' e f shorter)

  pub pushed_paired : (es es' : List E) (fs fs' : List F) (e : E) (f : F) (view : List (E × F)) → length es ≡ length fs
      → paired [] es fs ≡ view → es' ≡ es ++ e ∷ [] → fs' ≡ fs ++ f ∷ []
      → (length es' ≡ length fs') × (paired [] es' fs' ≡ (e, f) ∷ view)
  pushed_paired es es' fs fs' e f view same is first second =
      let longer : length es' ≡ length fs' =
      omega (arith, same, ap length first, ap length second, length-append es (e ∷ []), length-append fs (f ∷ [])) in
      (longer, ap₂ (paired []) first second ∙ paired_push [] es fs e f same ∙ ap (λ l. (e, f) ∷ l) is)

  -- both are pushed, or none
  pub pushed_or_kept : {V R : Type 0} (r : Result V R) (es es' : List E) (fs fs' : List F) (e : E) (f : F)
      (view : List (E × F)) → length es ≡ length fs → paired [] es fs ≡ view
      → OnOk r ((es' ≡ es ++ e ∷ []) × (fs' ≡ fs ++ f ∷ [])) → OnErr r ((es' ≡ es) × (fs' ≡ fs))
      → (length es' ≡ length fs') × OnOk r (paired [] es' fs' ≡ (e, f) ∷ view) × OnErr r (paired [] es' fs' ≡ view)
  pushed_or_kept (Ok v) es es' fs fs' e f view same is pushed kept =
      let both = pushed_paired es es' fs fs' e f view same is pushed.0 pushed.1 in
      (both.0, both.1, tt)
  pushed_or_kept (Err x) es es' fs fs' e f view same is pushed kept =
      (ap length kept.0 ∙ same ∙ sym (ap length kept.1), tt, ap₂ (paired []) kept.0 kept.1 ∙ is)

-- what stands last in two lists of one length, and what the pairs are after either last element is changed
pub record LastPair {E F : Type 0} (below : List (E × F)) (es : List E) (fs : List F) (n : ℕ) (d : F) : Type 0 where
  pub entry : E
  pub rest : List (E × F)
  pub is : paired below es fs ≡ (entry, get_or fs n d) ∷ rest
  pub after_set : (x : F) → paired below es (slice_set fs n x) ≡ (entry, x) ∷ rest
  pub after_change : (g : E → E) → paired below (change_last g es) fs ≡ (g entry, get_or fs n d) ∷ rest
  pub after_both : (g : E → E) (x : F) → paired below (change_last g es) (slice_set fs n x) ≡ (g entry, x) ∷ rest
  pub entry_is : (c : E) → get_or es n c ≡ entry

module _ {E F : Type 0} where
  pub last_pair : (below : List (E × F)) (es : List E) (fs : List F) (n : ℕ) (d : F) → length es ≡ length fs
      → suc n ≡ length fs → LastPair below es fs n d
  last_pair below (e ∷ []) (f ∷ []) zero d same at = record {
    entry = e;
    rest = below;
    is = refl;
    after_set = λ x. refl;
    after_change = λ g. refl;
    after_both = λ g x. refl;
    entry_is = λ c. refl;
  }
  last_pair below (e ∷ e' ∷ es) (f ∷ f' ∷ fs) (suc n) d same at =
      let inner = last_pair ((e, f) ∷ below) (e' ∷ es) (f' ∷ fs) n d (omega arith) (omega arith) in
      record {
        entry = inner.entry;
        rest = inner.rest;
        is = inner.is;
        after_set = inner.after_set;
        after_change = inner.after_change;
        after_both = inner.after_both;
        entry_is = inner.entry_is;
      }
  last_pair below es fs n d same at = absurd (omega arith)
