-- What the rule says of a pair: how it fails, and to what steps lead.
use Rattle.std.proofs.Common.{◌≡◌, ℕ, zero, suc, ◌==◌, ◌<◌, ◌⊎◌, inl, inr, Bool, true, false, cond, List, [], ◌∷◌, map}
use Rattle.std.proofs.Common.{length, get_or, Option, None, Some, Contains, slice_get, refl, sym, ap, ◌∙◌, subst, arith}
use Rattle.std.specs.Option.{is_some, option_map, unwrap_or}
use Rattle.std.proofs.lemmas.List.Elements.{Contains-get_or}
use Rattle.std.proofs.lemmas.Bool.{eq-eqb}
use Rattle.std.proofs.lemmas.Option.{get_or_from_slice_get, slice_get-map, slice_get_within}
use Rattle.list_lemmas.proofs.Members.{Contains-map, first_or_later}
use Rattle.type_order.specs.Below.{All}
use Rattle.type_order.specs.Fields.{has_all, part_of}
use Rattle.type_order.specs.Rule.{alternatives_in, case_between, case_of, fields_in, needs_in, NeedsAll, pair, pairs_in}
use Rattle.type_order.specs.Rule.{pairs_of, part_at}
use Rattle.type_order.specs.Subtypes.{IsBelow, IsRecord, IsSupportedPair, IsUnion}
use Rattle.type_order.specs.Subtypes.IsSupportedPair.{SomeRight}
use Rattle.type_order.specs.declared.delegate.Case.{Case}
use Rattle.type_order.specs.declared.delegate.Case.TheVariants as case
use Rattle.type_order.specs.declared.delegate.Pair.{Pair}
use Rattle.type_order.specs.declared.fields.Field.{Field}
use Rattle.type_order.specs.declared.types.Form.{Form}
use Rattle.type_order.specs.declared.types.Form.TheVariants.{Base, Bottom, Function, Record, Top, Union}
use Rattle.type_order.proofs.Apart.{supported_more}
use Rattle.type_order.proofs.Follows.{all_found, found, member_part}
use Rattle.type_texts.specs.Reasons.{AreApart, Fails, IsStep, IsWhole, record_in}
use Rattle.type_texts.specs.declared.reasons.End.TheVariants as end
use Rattle.type_texts.specs.declared.reasons.Step.TheVariants as step

-- what it says of two forms that they are decided so
abbrev Says : Case → Option Form → Option Form → Type 0
Says case.Holds o p = Unit {0}
Says case.Fails o p =
    AreApart o p ⊎ (IsRecord o (fields_in o) × IsRecord p (fields_in p) × (has_all (fields_in o) (fields_in p) ≡ false))
Says case.SplitsLeft o p = IsUnion o (alternatives_in o)
Says case.SplitsRight o p = IsWhole o × IsUnion p (alternatives_in p)
Says case.BetweenFunctions o p = (a b c d : ℕ) × (o ≡ Some (Function a b)) × (p ≡ Some (Function c d))
Says case.BetweenRecords o p =
    IsRecord o (fields_in o) × IsRecord p (fields_in p) × (has_all (fields_in o) (fields_in p) ≡ true)

says_words : (v w : ℕ) (b : Bool) → (v == w) ≡ b → Says (cond b case.Holds case.Fails) (Some (Base v)) (Some (Base w))
says_words v w true is = tt
says_words v w false is = inl (λ same. let e : (v == w) ≡ true = eq-eqb v w same in absurd cc)

says_between : (o p : Option Form) → Says (case_between o p) o p
says_between (Some Bottom) p = tt
says_between (Some (Base v)) (Some Top) = tt
says_between (Some Top) (Some Top) = tt
says_between (Some (Function a b)) (Some Top) = tt
says_between (Some (Record ls)) (Some Top) = tt
says_between (Some (Union ls)) (Some Top) = tt
says_between None (Some Top) = tt
says_between (Some (Union ls)) (Some (Base w)) = refl
says_between (Some (Union ls)) (Some Bottom) = refl
says_between (Some (Union ls)) (Some (Function c d)) = refl
says_between (Some (Union ls)) (Some (Record rs)) = refl
says_between (Some (Union ls)) (Some (Union rs)) = refl
says_between (Some (Union ls)) None = refl
says_between (Some (Base v)) (Some (Union rs)) = (tt, refl)
says_between (Some Top) (Some (Union rs)) = (tt, refl)
says_between (Some (Function a b)) (Some (Union rs)) = (tt, refl)
says_between (Some (Record ls)) (Some (Union rs)) = (tt, refl)
says_between None (Some (Union rs)) = (tt, refl)
says_between (Some (Base v)) (Some (Base w)) = says_words v w (v == w) refl
says_between (Some (Function a b)) (Some (Function c d)) = (a, b, c, d, refl, refl)
says_between (Some (Record ls)) (Some (Record rs)) = says_records (has_all ls.items rs.items) refl
  where
    says_records : (b : Bool) → has_all ls.items rs.items ≡ b
        → Says (cond b case.BetweenRecords case.Fails) (Some (Record ls)) (Some (Record rs))
    says_records true is = (refl, refl, is)
    says_records false is = inr (refl, refl, is)
says_between o p = inl tt

-- a record, by its fields
is_record : (o : Option Form) (fields : List Field) → record_in o ≡ Some fields → IsRecord o fields
is_record (Some (Record v)) fields e = cc
is_record (Some (Base w)) fields e = absurd cc
is_record (Some Top) fields e = absurd cc
is_record (Some Bottom) fields e = absurd cc
is_record (Some (Function a b)) fields e = absurd cc
is_record (Some (Union v)) fields e = absurd cc
is_record None fields e = absurd cc

its_fields : (o : Option Form) → IsRecord o (fields_in o) → record_in o ≡ Some (fields_in o)
its_fields (Some (Record v)) h = refl
its_fields (Some (Base w)) h = absurd h
its_fields (Some Top) h = absurd h
its_fields (Some Bottom) h = absurd h
its_fields (Some (Function a b)) h = absurd h
its_fields (Some (Union v)) h = absurd h
its_fields None h = absurd h

-- where one is no record, or the left one lacks nothing, what fails is apart
pub apart_unless : (o p : Option Form) → Says case.Fails o p
    → (record_in o ≡ Some (fields_in o) → record_in p ≡ Some (fields_in p) → has_all (fields_in o) (fields_in p) ≡ true)
    → AreApart o p
apart_unless o p (inl apart) h = apart
apart_unless o p (inr w) h = let all = h (its_fields o w.0) (its_fields p w.1) in let some = w.2 in absurd cc

in_place : {A : Type 0} (xs : List A) (k : ℕ) (x : A) → slice_get xs k ≡ Some x → Contains xs x
in_place xs k x e = (k, slice_get_within xs k x e, get_or_from_slice_get xs k x x e)

mapped_back : {A B : Type 0} (f : A → B) (o : Option A) (y : B) → option_map f o ≡ Some y
    → (x : A) × (o ≡ Some x) × (f x ≡ y)
mapped_back f (Some x) y e = (x, refl, cc)
mapped_back f None y e = absurd cc

module _ (forms : List Form) (whole : Pair) where
  abbrev left : Option Form
  left = slice_get forms whole.left

  abbrev right : Option Form
  right = slice_get forms whole.right

  says : (decided : Case) → case_of forms whole ≡ decided → Says decided left right
  says decided is = subst (λ c. Says c left right) is (says_between left right)

  -- ---- how the pair fails

  pub fails_apart : case_of forms whole ≡ case.Fails
      → ((ls rs : List Field) → record_in left ≡ Some ls → record_in right ≡ Some rs → has_all ls rs ≡ true)
      → Fails forms end.Apart whole
  fails_apart is all = apart_unless left right (says case.Fails is) (all (fields_in left) (fields_in right))

  pub lacks_field : (ls rs : List Field) (name : ℕ) → record_in left ≡ Some ls → record_in right ≡ Some rs
      → (part_of ls name ≡ None) × (y : ℕ) × (part_of rs name ≡ Some y) → Fails forms (end.Lacks name) whole
  lacks_field ls rs name e f h = (ls, rs, is_record left ls e, is_record right rs f, h.0, h.1, h.2)

  -- what is below an alternative is below the union
  below_union : (ys : List ℕ) (y : ℕ) → IsUnion right ys → Contains ys y → IsBelow forms whole.left y
      → IsBelow forms whole.left whole.right
  below_union ys y u has below =
      let pairs = (whole.left, whole.right) ∷ below.pairs in
      let later : (l r : ℕ) → Contains below.pairs (l, r) → Contains pairs (l, r) =
      λ l r k. (suc k.0, (let w = k.1 in omega arith), k.2) in
      record {
        pairs = pairs;
        is_simulation = λ l r k. elim (first_or_later (whole.left, whole.right) (l, r) below.pairs k) [
          | inl first ↦ subst (λ p. IsSupportedPair forms pairs p.0 p.1) first
              (SomeRight ys u y has (later whole.left y below.has_pair))
          | inr rest ↦ supported_more forms below.pairs pairs later l r (below.is_simulation l r rest)
        ];
        has_pair = (0, omega arith, refl);
      }

  pub fits_none : case_of forms whole ≡ case.SplitsRight → (IsBelow forms whole.left whole.right → ⊥)
      → Fails forms end.NoAlternative whole
  fits_none is never =
      let s = says case.SplitsRight is in
      (alternatives_in right, s.1, s.0, λ y has below. never (below_union (alternatives_in right) y s.1 has below))

  -- ---- to what steps lead

  module _ (place : ℕ) (part : Pair) (asked : slice_get (pairs_of forms whole) place ≡ Some part) where
    asked_by : (decided : Case) → case_of forms whole ≡ decided
        → slice_get (pairs_in decided whole left right) place ≡ Some part
    asked_by decided is = subst (λ c. slice_get (pairs_in c whole left right) place ≡ Some part) is asked

    to_alternative : case_of forms whole ≡ case.SplitsLeft → IsStep forms step.Alternative whole part
    to_alternative is =
        let w = Contains-map (λ x. pair x whole.right) (alternatives_in left) part
        (in_place (map (λ x. pair x whole.right) (alternatives_in left)) place part (asked_by case.SplitsLeft is)) in (
          alternatives_in left,
          says case.SplitsLeft is,
          subst (Contains (alternatives_in left)) (ap (λ p. p.left) w.2) w.1,
          sym (ap (λ p. p.right) w.2),
        )

    pub to_alternative_else : (decided : Case) → case_of forms whole ≡ decided → (decided ≡ case.BetweenFunctions → ⊥) →
        (decided ≡ case.BetweenRecords → ⊥) →
        NeedsAll forms whole → IsStep forms step.Alternative whole part
    to_alternative_else case.Holds is f r all = let none = asked_by case.Holds is in absurd cc
    to_alternative_else case.Fails is f r all = let any = subst (λ c. needs_in c ≡ All) is all in absurd cc
    to_alternative_else case.SplitsLeft is f r all = to_alternative is
    to_alternative_else case.SplitsRight is f r all = let any = subst (λ c. needs_in c ≡ All) is all in absurd cc
    to_alternative_else case.BetweenFunctions is f r all = absurd (f refl)
    to_alternative_else case.BetweenRecords is f r all = absurd (r refl)

    pub to_argument : case_of forms whole ≡ case.BetweenFunctions → place ≡ 0 → IsStep forms step.Argument whole part
    to_argument is first =
        let (a, b, c, d, e, f) = says case.BetweenFunctions is in
        let at : slice_get (pair c a ∷ pair b d ∷ []) place ≡ Some part =
        subst (λ o. slice_get (pairs_in case.BetweenFunctions whole o (Some (Function c d))) place ≡ Some part) e
        (subst (λ p. slice_get (pairs_in case.BetweenFunctions whole left p) place ≡ Some part) f
        (asked_by case.BetweenFunctions is)) in
        let now : slice_get (pair c a ∷ pair b d ∷ []) 0 ≡ Some part =
        subst (λ k. slice_get (pair c a ∷ pair b d ∷ []) k ≡ Some part) first at in
        let same : pair c a ≡ part = cc in
        subst (IsStep forms step.Argument whole) same (b, d, e, f)

    pub to_result : case_of forms whole ≡ case.BetweenFunctions → (place ≡ 0 → ⊥) → IsStep forms step.Result whole part
    to_result is later =
        let (a, b, c, d, e, f) = says case.BetweenFunctions is in
        let at : slice_get (pair c a ∷ pair b d ∷ []) place ≡ Some part =
        subst (λ o. slice_get (pairs_in case.BetweenFunctions whole o (Some (Function c d))) place ≡ Some part) e
        (subst (λ p. slice_get (pairs_in case.BetweenFunctions whole left p) place ≡ Some part) f
        (asked_by case.BetweenFunctions is)) in
        subst (IsStep forms step.Result whole) (second (pair c a) (pair b d) place later at) (a, c, e, f)
      where
        second : (x y : Pair) (k : ℕ) → (k ≡ 0 → ⊥) → slice_get (x ∷ y ∷ []) k ≡ Some part → y ≡ part
        second x y zero not_first e = absurd (not_first refl)
        second x y (suc zero) not_first e = cc
        second x y (suc (suc k)) not_first e = absurd cc

    pub to_field : (name : ℕ) → case_of forms whole ≡ case.BetweenRecords
        → ((field : Field) → slice_get (fields_in right) place ≡ Some field → name ≡ field.name)
        → IsStep forms (step.Field name) whole part
    to_field name is named =
        let ls = fields_in left in let rs = fields_in right in
        let s = says case.BetweenRecords is in
        let paired : Field → Pair = λ field. pair (part_at ls field.name) (part_at rs field.name) in
        let w = mapped_back paired (slice_get rs place) part
        (sym (slice_get-map paired rs place) ∙ asked_by case.BetweenRecords is) in
        let has = in_place rs place w.0 w.1 in
        let x = found (part_of ls w.0.name) (all_found ls rs w.0 s.2 has) in
        let y = member_part rs w.0 has in
        let at_left : x.0 ≡ part.left = sym (ap (λ o. unwrap_or o 0) x.1) ∙ ap (λ p. p.left) w.2 in
        let at_right : y.0 ≡ part.right = sym (ap (λ o. unwrap_or o 0) y.1) ∙ ap (λ p. p.right) w.2 in
        subst (λ n. IsStep forms (step.Field n) whole part) (sym (named w.0 w.1))
        (ls, rs, s.0, s.1, x.1 ∙ ap Some at_left, y.1 ∙ ap Some at_right)

-- the first field that is lacked
pub lacks_here : (ls rs : List Field) (k : ℕ) (d : Field) → k < length rs →
    is_some (part_of ls (get_or rs k d).name) ≡ false → (name : ℕ) → Some (get_or rs k d).name ≡ Some name →
    (part_of ls name ≡ None) × (y : ℕ) × (part_of rs name ≡ Some y)
lacks_here ls rs k d within none name e =
    let y = member_part rs (get_or rs k d) (Contains-get_or rs k d within) in
    let same : (get_or rs k d).name ≡ name = cc in (
      subst (λ n. part_of ls n ≡ None) same (is_nothing (part_of ls (get_or rs k d).name) none),
      y.0,
      subst (λ n. part_of rs n ≡ Some y.0) same y.1,
    )
  where
    is_nothing : (o : Option ℕ) → is_some o ≡ false → o ≡ None
    is_nothing None h = refl
    is_nothing (Some x) h = absurd cc
