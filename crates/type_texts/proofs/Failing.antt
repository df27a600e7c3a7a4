-- Why a reason is one, and its words.
use Rattle.std.proofs.Common.{◌≡◌, ℕ, ◌+◌, ◌<◌, List, [], ◌∷◌, ◌++◌, length, take, get_or, Option, None, Some, Contains}
use Rattle.std.proofs.Common.{slice_get, refl, sym, ap, ◌∙◌, subst, append_assoc}
use Rattle.std.specs.Global.{Vec}
use Rattle.std.specs.List.{filter_map, flat_map}
use Rattle.std.specs.Prelude.{codes}
use Rattle.std.proofs.lemmas.Grind.{flat_map-append}
use Rattle.std.proofs.lemmas.List.{append-nil, take_more}
use Rattle.std.proofs.lemmas.List.Elements.{filter_map-append}
use Rattle.type_order.specs.Fields.{part_of}
use Rattle.type_order.specs.Rule.{alternatives_in}
use Rattle.type_order.specs.Subtypes.{IsBelow, IsRecord, IsSupportedPair, IsUnion}
use Rattle.type_order.specs.Subtypes.IsSupportedPair.{BottomLeft, TopRight, SameWord, Functions, Records}
use Rattle.type_order.specs.Subtypes.IsSupportedPair.{EachLeft, SomeRight}
use Rattle.type_order.specs.declared.delegate.Pair.{Pair}
use Rattle.type_order.specs.declared.fields.Field.{Field}
use Rattle.type_order.specs.declared.types.Form.{Form}
use Rattle.type_order.specs.declared.types.Form.TheVariants.{Base, Bottom, Function, Record, Top, Union}
use Rattle.type_order.proofs.Apart.{part_below}
use Rattle.type_order.proofs.Transitive.{record_form, union_form}
use Rattle.type_texts.specs.Reasons.{AreApart, Fails, IsStep, IsWhole, Leads, place_words, ReasonsShowIt}
use Rattle.type_texts.specs.Table.{forms_in}
use Rattle.type_texts.specs.declared.reasons.End.{End}
use Rattle.type_texts.specs.declared.reasons.End.TheVariants.{Apart, Lacks, NoAlternative}
use Rattle.type_texts.specs.declared.reasons.Step.{Step}
use Rattle.type_texts.specs.declared.reasons.Step.TheVariants as step

-- one type has one list of fields, or of alternatives
same_fields : (o : Option Form) (xs ys : List Field) → IsRecord o xs → IsRecord o ys → xs ≡ ys
same_fields o xs ys e f = let v = record_form o xs e in sym v.2 ∙ subst (λ t. IsRecord t ys) v.1 f

same_alternatives : (o : Option Form) (xs ys : List ℕ) → IsUnion o xs → IsUnion o ys → xs ≡ ys
same_alternatives o xs ys e f = let v = union_form o xs e in sym v.2 ∙ subst (λ t. IsUnion t ys) v.1 f

in_union : (o : Option Form) (xs : List ℕ) (x : ℕ) → IsUnion o xs → Contains xs x → Contains (alternatives_in o) x
in_union o xs x u has =
    let v = union_form o xs u in
    subst (λ t. Contains (alternatives_in t) x) (sym v.1) (subst (λ ys. Contains ys x) (sym v.2) has)

-- what is apart is neither below the top nor a union
apart_top : (o : Option Form) → AreApart o (Some Top) → ⊥
apart_top (Some (Base v)) h = h
apart_top (Some Top) h = h
apart_top (Some Bottom) h = h
apart_top (Some (Function a b)) h = h
apart_top (Some (Record ls)) h = h
apart_top (Some (Union ls)) h = h
apart_top None h = h

apart_left : (v : Vec ℕ) (p : Option Form) → AreApart (Some (Union v)) p → ⊥
apart_left v (Some (Base w)) h = h
apart_left v (Some Top) h = h
apart_left v (Some Bottom) h = h
apart_left v (Some (Function a b)) h = h
apart_left v (Some (Record rs)) h = h
apart_left v (Some (Union rs)) h = h
apart_left v None h = h

apart_right : (o : Option Form) (w : Vec ℕ) → AreApart o (Some (Union w)) → ⊥
apart_right (Some (Base v)) w h = h
apart_right (Some Top) w h = h
apart_right (Some Bottom) w h = h
apart_right (Some (Function a b)) w h = h
apart_right (Some (Record ls)) w h = h
apart_right (Some (Union ls)) w h = h
apart_right None w h = h

module _ (forms : List Form) where
  -- forms that are apart support no pair
  never_apart : (pairs : List (ℕ × ℕ)) (l r : ℕ) → AreApart (slice_get forms l) (slice_get forms r)
      → IsSupportedPair forms pairs l r → ⊥
  never_apart pairs l r apart (BottomLeft e) = subst (λ o. AreApart o (slice_get forms r)) e apart
  never_apart pairs l r apart (TopRight f) =
      apart_top (slice_get forms l) (subst (AreApart (slice_get forms l)) f apart)
  never_apart pairs l r apart (SameWord word e f) =
      subst (λ o. AreApart o (Some (Base word))) e (subst (AreApart (slice_get forms l)) f apart) refl
  never_apart pairs l r apart (Functions a b c d e f p q) =
      subst (λ o. AreApart o (Some (Function c d))) e (subst (AreApart (slice_get forms l)) f apart)
  never_apart pairs l r apart (Records ls rs e f p) =
      let v = record_form (slice_get forms l) ls e in let w = record_form (slice_get forms r) rs f in
      subst (λ o. AreApart o (Some (Record w.0))) v.1 (subst (AreApart (slice_get forms l)) w.1 apart)
  never_apart pairs l r apart (EachLeft xs u p) =
      let v = union_form (slice_get forms l) xs u in
      apart_left v.0 (slice_get forms r) (subst (λ o. AreApart o (slice_get forms r)) v.1 apart)
  never_apart pairs l r apart (SomeRight ys u y k p) =
      let w = union_form (slice_get forms r) ys u in
      apart_right (slice_get forms l) w.0 (subst (AreApart (slice_get forms l)) w.1 apart)

  -- of two functions the arguments are below each other the other way round, and the results this way
  both_parts : (a b c d l r : ℕ) → slice_get forms l ≡ Some (Function a b) → slice_get forms r ≡ Some (Function c d)
      → IsBelow forms l r → IsBelow forms c a × IsBelow forms b d
  both_parts a b c d l r e f below = by (below.is_simulation l r below.has_pair)
    where
      in_it : (x y : ℕ) → Contains below.pairs (x, y) → IsBelow forms x y
      in_it x y has = record { pairs = below.pairs; is_simulation = below.is_simulation; has_pair = has }

      by : IsSupportedPair forms below.pairs l r → IsBelow forms c a × IsBelow forms b d
      by (BottomLeft g) = absurd cc
      by (TopRight g) = absurd cc
      by (SameWord word g h) = absurd cc
      by (Functions a' b' c' d' g h p q) =
          let first : (c' ≡ c) × (a' ≡ a) = (cc, cc) in
          let second : (b' ≡ b) × (d' ≡ d) = (cc, cc) in (
            subst (λ x. IsBelow forms x a) first.0 (subst (IsBelow forms c') first.1 (in_it c' a' p)),
            subst (λ x. IsBelow forms x d) second.0 (subst (IsBelow forms b') second.1 (in_it b' d' q)),
          )
      by (Records ls rs g h p) = let v = record_form (slice_get forms l) ls g in let is = v.1 in absurd cc
      by (EachLeft xs u p) = let v = union_form (slice_get forms l) xs u in let is = v.1 in absurd cc
      by (SomeRight ys u y k p) = let v = union_form (slice_get forms r) ys u in let is = v.1 in absurd cc

  -- each field of the right record has its fellow below it
  fellows : (ls rs : List Field) (l r : ℕ) → IsRecord (slice_get forms l) ls →
      IsRecord (slice_get forms r) rs → IsBelow forms l r →
      (name y : ℕ) → part_of rs name ≡ Some y → (x : ℕ) × (part_of ls name ≡ Some x) × IsBelow forms x y
  fellows ls rs l r e f below name y has = by (below.is_simulation l r below.has_pair)
    where
      by : IsSupportedPair forms below.pairs l r → (x : ℕ) × (part_of ls name ≡ Some x) × IsBelow forms x y
      by (BottomLeft g) = let v = record_form (slice_get forms l) ls e in let is = v.1 in absurd cc
      by (TopRight g) = let v = record_form (slice_get forms r) rs f in let is = v.1 in absurd cc
      by (SameWord word g h) = let v = record_form (slice_get forms l) ls e in let is = v.1 in absurd cc
      by (Functions a b c d g h p q) = let v = record_form (slice_get forms l) ls e in let is = v.1 in absurd cc
      by (Records ms ns g h p) =
          let w =
          p name y (subst (λ fields. part_of fields name ≡ Some y) (same_fields (slice_get forms r) rs ns f h) has) in (
            w.0,
            subst (λ fields. part_of fields name ≡ Some w.0) (same_fields (slice_get forms l) ms ls g e) w.1,
            record { pairs = below.pairs; is_simulation = below.is_simulation; has_pair = w.2 },
          )
      by (EachLeft xs u p) =
          let v = record_form (slice_get forms l) ls e in let is = v.1 in
          let w = union_form (slice_get forms l) xs u in let other = w.1 in absurd cc
      by (SomeRight ys u z k p) =
          let v = record_form (slice_get forms r) rs f in let is = v.1 in
          let w = union_form (slice_get forms r) ys u in let other = w.1 in absurd cc

  -- a part is below where the pair is
  step_below : (taken : Step) (whole part : Pair) → IsStep forms taken whole part → IsBelow forms whole.left whole.right
      → IsBelow forms part.left part.right
  step_below step.Alternative whole part (xs, u, has, same) below =
      subst (IsBelow forms part.left) (sym same)
      (part_below forms below.pairs below.is_simulation whole.left whole.right part.left below.has_pair
      (in_union (slice_get forms whole.left) xs part.left u has))
  step_below step.Argument whole part (b, d, e, f) below =
      (both_parts part.right b part.left d whole.left whole.right e f below).0
  step_below step.Result whole part (a, c, e, f) below =
      (both_parts a part.left c part.right whole.left whole.right e f below).1
  step_below (step.Field name) whole part (ls, rs, e, f, left, right) below =
      let w = fellows ls rs whole.left whole.right e f below name part.right right in
      let at = w.1 in
      let same : w.0 ≡ part.left = cc in
      subst (λ x. IsBelow forms x part.right) same w.2

  -- so is what steps lead to
  leads_below : (way : List Step) (whole last : Pair) → Leads forms way whole last
      → IsBelow forms whole.left whole.right → IsBelow forms last.left last.right
  leads_below [] whole last same below = subst (λ p. IsBelow forms p.left p.right) same below
  leads_below (taken ∷ way) whole last (part, is, rest) below =
      leads_below way part last rest (step_below taken whole part is below)

  -- what fits no alternative is not below the union
  no_alternative : (ys : List ℕ) (l r : ℕ) → IsUnion (slice_get forms r) ys → IsWhole (slice_get forms l) →
      ((y : ℕ) → Contains ys y → IsBelow forms l y → ⊥) → IsBelow forms l r → ⊥
  no_alternative ys l r u whole none below = by (below.is_simulation l r below.has_pair)
    where
      by : IsSupportedPair forms below.pairs l r → ⊥
      by (BottomLeft g) = subst IsWhole g whole
      by (TopRight g) = let v = union_form (slice_get forms r) ys u in let is = v.1 in absurd cc
      by (SameWord word g h) = let v = union_form (slice_get forms r) ys u in let is = v.1 in absurd cc
      by (Functions a b c d g h p q) = let v = union_form (slice_get forms r) ys u in let is = v.1 in absurd cc
      by (Records ms ns g h p) =
          let v = union_form (slice_get forms r) ys u in let is = v.1 in
          let w = record_form (slice_get forms r) ns h in let other = w.1 in absurd cc
      by (EachLeft xs v p) = let w = union_form (slice_get forms l) xs v in subst IsWhole w.1 whole
      by (SomeRight zs v y k p) =
          none y (subst (λ alternatives. Contains alternatives y) (same_alternatives (slice_get forms r) zs ys v u) k)
          (record { pairs = below.pairs; is_simulation = below.is_simulation; has_pair = p })

  -- a pair that fails as is told is not below
  never_fails : (end : End) (last : Pair) → Fails forms end last → IsBelow forms last.left last.right → ⊥
  never_fails Apart last apart below =
      never_apart below.pairs last.left last.right apart (below.is_simulation last.left last.right below.has_pair)
  never_fails NoAlternative last (ys, u, whole, none) below = no_alternative ys last.left last.right u whole none below
  never_fails (Lacks name) last (ls, rs, e, f, lacks, y, has) below =
      let w = fellows ls rs last.left last.right e f below name y has in let at = w.1 in absurd cc

pub reasons_show : ReasonsShowIt
reasons_show table whole text reason below =
    never_fails (forms_in table) reason.end reason.last reason.fails
    (leads_below (forms_in table) reason.way whole reason.last reason.leads below)

-- ---- the words of a way

-- what is written before the next name
abbrev pub mark_after : List (List ℕ) → List ℕ
mark_after [] = codes " at "
mark_after (name ∷ names) = codes "."

-- one name more
pub one_more_name : (names : List (List ℕ)) (name : List ℕ)
    → place_words (names ++ name ∷ []) ≡ (place_words names ++ mark_after names) ++ name
one_more_name [] name = ap (λ rest. codes " at " ++ rest) (append-nil name)
one_more_name (first ∷ names) name =
    ap (λ rest. codes " at " ++ first ++ rest) (flat_map-append dotted names (name ∷ [])
    ∙ ap (λ rest. flat_map dotted names ++ rest) (append-nil (dotted name))) ∙ regroup
  where
    dotted : List ℕ → List ℕ
    dotted later = codes "." ++ later

    regroup : codes " at " ++ first ++ (flat_map dotted names ++ dotted name)
        ≡ (place_words (first ∷ names) ++ codes ".") ++ name
    regroup = simp append_assoc

-- the words of the first steps, with one step more that has a name
module _ (name_at : Step → Option (List ℕ)) (way : List Step) (i : ℕ) (d : Step) (within : i < length way) where
  next_names : filter_map name_at (take (i + 1) way)
      ≡ filter_map name_at (take i way) ++ filter_map name_at (get_or way i d ∷ [])
  next_names =
      ap (filter_map name_at) (take_more way i d within) ∙ filter_map-append name_at (take i way) (get_or way i d ∷ [])

  pub named_next : (name : List ℕ) → name_at (get_or way i d) ≡ Some name
      → filter_map name_at (take (i + 1) way) ≡ filter_map name_at (take i way) ++ name ∷ []
  named_next name is = next_names ∙ ap (λ rest. filter_map name_at (take i way) ++ rest) (rw is refl)

  -- or that has none
  pub unnamed_next : name_at (get_or way i d) ≡ None
      → filter_map name_at (take (i + 1) way) ≡ filter_map name_at (take i way)
  unnamed_next is = next_names ∙ rw is (append-nil (filter_map name_at (take i way)))

-- another mark stands after a name
pub marked_after : (names : List (List ℕ)) (name : List ℕ) → mark_after (names ++ name ∷ []) ≡ codes "."
marked_after [] name = refl
marked_after (first ∷ names) name = refl

-- the mark and the name are written behind what was
pub written_on : (old text before name after : List ℕ) (names : List (List ℕ)) → text ≡ old ++ place_words names →
    before ≡ mark_after names → after ≡ (text ++ before) ++ name →
    after ≡ old ++ place_words (names ++ name ∷ [])
written_on old text before name after names so_far mark more =
    more ∙ ap (λ t. (t ++ before) ++ name) so_far ∙ ap (λ b. ((old ++ place_words names) ++ b) ++ name) mark ∙ regroup
    ∙ ap (λ rest. old ++ rest) (sym (one_more_name names name))
  where
    regroup : ((old ++ place_words names) ++ mark_after names) ++ name
        ≡ old ++ ((place_words names ++ mark_after names) ++ name)
    regroup = simp append_assoc
