-- Rows that are put goal by goal.
use Rattle.std.proofs.Common.{◌≡◌, ◌≢◌, ℕ, zero, suc, ◌+◌, ◌-◌, ◌<◌, ◌≤◌, ◌^◌, cond, List, [], ◌∷◌, ◌++◌, length, map}
use Rattle.std.proofs.Common.{take, drop, get_or, slice_set, Option, Some, refl, ap, sym, ◌∙◌, subst, arith}
use Rattle.std.proofs.Common.{append_assoc, inl, inr}
use Rattle.std.specs.Prelude.{slice_get, replicate}
use Rattle.std.proofs.Math.Seq.{drop-append_seam, take-length, drop-length}
use Rattle.std.proofs.lemmas.Bool.Decides.{eqb_tells}
use Rattle.std.proofs.lemmas.List.{append-nil, drop-append-le, drop_more, length-append, length-drop, take-append-le}
use Rattle.std.proofs.lemmas.Option.{slice_get_within, slice_get-get_or, get_or_from_slice_get}
use Rattle.std.proofs.lemmas.Simd.{map-map}
use Rattle.line_texts.proofs.NameLemmas.{at_end, slice_get-append_left, some_same}
use Rattle.rule_tables.specs.Candidate.{candidate_with, candidates_with}
use Rattle.rule_tables.specs.Groups.{AreGroups, AreLinked, IsChain, IsGroup, row_of}
use Rattle.rule_tables.specs.Words.{Asking, AreStarts, DraftRule, is_of, number_of, Row, rows_at}
use Rattle.rule_tables.specs.Words.{rows_between, rules_of}

-- Lists with one item changed

set_here : (xs : List ℕ) (n x : ℕ) → n < length xs → slice_get (slice_set xs n x) n ≡ Some x
set_here [] n x l = absurd (omega arith)
set_here (y ∷ xs) zero x l = refl
set_here (y ∷ xs) (suc n) x l = set_here xs n x (omega arith)

set_off : (xs : List ℕ) (n m x : ℕ) → m ≢ n → slice_get (slice_set xs n x) m ≡ slice_get xs m
set_off [] n m x apart = refl
set_off (y ∷ xs) zero zero x apart = absurd (apart refl)
set_off (y ∷ xs) zero (suc m) x apart = refl
set_off (y ∷ xs) (suc n) zero x apart = refl
set_off (y ∷ xs) (suc n) (suc m) x apart = set_off xs n m x (λ e. apart (ap suc e))

length-slice_set : (xs : List ℕ) (n x : ℕ) → length (slice_set xs n x) ≡ length xs
length-slice_set [] n x = refl
length-slice_set (y ∷ xs) zero x = refl
length-slice_set (y ∷ xs) (suc n) x = ap suc (length-slice_set xs n x)

-- Chains

chain_kept : (rules : List DraftRule) (nexts more : List ℕ) (number : ℕ) (chain : List DraftRule)
    → IsChain rules nexts number chain → IsChain rules (nexts ++ more) number chain
chain_kept rules nexts more number [] h = h
chain_kept rules nexts more number (rule ∷ rest) h = (
  h.0,
  h.1,
  h.2,
  h.3,
  h.4,
  slice_get-append_left nexts more h.0 h.4 h.5,
  h.6,
  chain_kept rules nexts more h.4 rest h.7,
)

-- a chain begins among the links
chain_within : (rules : List DraftRule) (nexts : List ℕ) (number : ℕ) (chain : List DraftRule)
    → IsChain rules nexts number chain → number ≤ length nexts
chain_within rules nexts number [] h = let e = h in omega arith
chain_within rules nexts number (rule ∷ rest) h =
    let l = slice_get_within nexts h.0 h.4 h.5 in let e = h.1 in omega arith

chain_by : (rules : List DraftRule) (nexts : List ℕ) (number n : ℕ) (rule : DraftRule) (tail : List DraftRule) →
    (number_of rule.goal ≡ n → IsChain rules nexts number (rule ∷ tail)) →
    (number_of rule.goal ≢ n → IsChain rules nexts number tail) →
    IsChain rules nexts number (cond (is_of n rule) (rule ∷ tail) tail)
chain_by rules nexts number n rule tail here other = elim (eqb_tells (number_of rule.goal) n) [
  | inl w ↦ rw w.0 (here w.1)
  | inr w ↦ rw w.0 (other w.1)
]

zeros : (n m x : ℕ) → slice_get (replicate n 0) m ≡ Some x → x ≡ 0
zeros zero m x e = absurd cc
zeros (suc n) zero x e = sym (some_same 0 x e)
zeros (suc n) (suc m) x e = zeros n m x e

-- no rule is linked yet
pub linked_none : (rules : List DraftRule) (goals : ℕ) (firsts nexts : List ℕ) → firsts ≡ replicate goals 0
    → length firsts ≡ goals → nexts ≡ [] → AreLinked rules 0 goals firsts nexts
linked_none rules goals firsts nexts are count none = record {
  goal_count = count;
  rule_count = ap length none;
  chains = λ n first e.
      let end : drop (length rules - 0) rules ≡ [] = ap (λ m. drop m rules) (omega arith) ∙ drop-length rules in
      subst (λ rest. IsChain rules nexts first (rules_of n rest)) (sym end)
      (zeros goals n first (subst (λ xs. slice_get xs n ≡ Some first) are e));
}

-- one rule more is linked
pub linked_more : (rules : List DraftRule) (count goals : ℕ) (firsts nexts new_firsts new_nexts : List ℕ)
    (d : DraftRule) (place first : ℕ) → AreLinked rules count goals firsts nexts → count < length rules →
    place ≡ number_of (get_or rules (length rules - 1 - count) d).goal → place < length firsts →
    first ≡ get_or firsts place first → new_nexts ≡ nexts ++ first ∷ [] →
    new_firsts ≡ slice_set firsts place (count + 1) →
    AreLinked rules (count + 1) goals new_firsts new_nexts
linked_more rules count goals firsts nexts new_firsts new_nexts d place first h l at inside was pushed set =
    let index = length rules - suc count in
    let rule = get_or rules index d in
    let same_index : length rules - 1 - count ≡ index = omega arith in
    let goal_is : place ≡ number_of rule.goal = at ∙ ap (λ i. number_of (get_or rules i d).goal) same_index in
    let is_rule : slice_get rules index ≡ Some rule = slice_get-get_or rules index d (omega arith) in
    let dropped : drop (length rules - (count + 1)) rules ≡ rule ∷ drop (length rules - count) rules =
    ap (λ i. drop i rules) (omega arith) ∙ drop_more rules index d (omega arith)
    ∙ ap (λ i. rule ∷ drop i rules) (omega arith) in
    let is_first : slice_get firsts place ≡ Some first =
    slice_get-get_or firsts place first inside ∙ ap Some (sym was) in
    let counted = h.rule_count in
    record {
      goal_count = ap length set ∙ length-slice_set firsts place (count + 1) ∙ h.goal_count;
      rule_count = let e = ap length pushed in let f = length-append nexts (first ∷ []) in omega arith;
      chains = λ n number e.
          let changed : slice_get (slice_set firsts place (count + 1)) n ≡ Some number =
          subst (λ xs. slice_get xs n ≡ Some number) set e in
          subst (λ rest. IsChain rules new_nexts number (rules_of n rest)) (sym dropped)
          (chain_by rules new_nexts number n rule (rules_of n (drop (length rules - count) rules))
          (λ mine.
          let here : place ≡ n = goal_is ∙ mine in
          let old = h.chains n first (subst (λ m. slice_get firsts m ≡ Some first) here is_first) in
          let was_within = chain_within rules nexts first (rules_of n (drop (length rules - count) rules)) old in
          let new_number : count + 1 ≡ number = some_same (count + 1) number
          (sym (subst (λ m. slice_get (slice_set firsts place (count + 1)) m ≡ Some (count + 1)) here
          (set_here firsts place (count + 1) inside)) ∙ changed) in (
            count,
            sym new_number ∙ omega arith,
            l,
            is_rule,
            first,
            subst (λ xs. slice_get xs count ≡ Some first) (sym pushed) (at_end nexts first count (sym counted)),
            omega arith,
            subst (λ xs. IsChain rules xs first (rules_of n (drop (length rules - count) rules))) (sym pushed)
                (chain_kept rules nexts (first ∷ []) first _ old),
          ))
          (λ apart.
          let off : slice_get firsts n ≡ Some number =
          sym (set_off firsts place n (count + 1) (λ e. apart (sym goal_is ∙ sym e))) ∙ changed in
          subst (λ xs. IsChain rules xs number (rules_of n (drop (length rules - count) rules))) (sym pushed)
          (chain_kept rules nexts (first ∷ []) number _ (h.chains n number off))));
    }

-- a goal whose rules are all linked
pub chain_of : (rules : List DraftRule) (goals : ℕ) (firsts nexts : List ℕ) (n first : ℕ)
    → AreLinked rules (length rules) goals firsts nexts → slice_get firsts n ≡ Some first
    → IsChain rules nexts first (rules_of n rules)
chain_of rules goals firsts nexts n first h e =
    let none : length rules - length rules ≡ 0 = omega arith in
    subst (λ m. IsChain rules nexts first (rules_of n (drop m rules))) none (h.chains n first e)

-- Going along a chain

-- what is left of a chain, and what the rows come to with it
pub record IsLeft (rules : List DraftRule) (nexts : List ℕ) (number : ℕ) (rows all : List Row) : Type 0 where
  pub left : List DraftRule
  pub is_chain : IsChain rules nexts number left
  pub whole : rows ++ map row_of left ≡ all

-- the rule with a number other than 0
pub record IsOpen (rules : List DraftRule) (nexts : List ℕ) (number : ℕ) (chain : List DraftRule) : Type 0 where
  pub rule : DraftRule
  pub rest : List DraftRule
  pub is : chain ≡ rule ∷ rest
  pub next : ℕ
  pub within : number ≤ length rules
  pub linked : number ≤ length nexts
  pub is_rule : slice_get rules (length rules - number) ≡ Some rule
  pub is_next : slice_get nexts (number - 1) ≡ Some next
  pub smaller : next < number
  pub is_chain : IsChain rules nexts next rest

pub chain_open : (rules : List DraftRule) (nexts : List ℕ) (number : ℕ) (chain : List DraftRule)
    → IsChain rules nexts number chain → 0 < number → IsOpen rules nexts number chain
chain_open rules nexts number [] h l = absurd (let e = h in omega arith)
chain_open rules nexts number (rule ∷ rest) h l =
    let e : number ≡ suc h.0 = h.1 in
    let before : h.0 ≡ number - 1 = omega arith in
    let within = h.2 in
    let linked = slice_get_within nexts h.0 h.4 h.5 in
    let le = h.6 in
    record {
      rule = rule;
      rest = rest;
      is = refl;
      next = h.4;
      within = omega arith;
      linked = omega arith;
      is_rule = subst (λ m. slice_get rules (length rules - m) ≡ Some rule) (sym e) h.3;
      is_next = subst (λ m. slice_get nexts m ≡ Some h.4) before h.5;
      smaller = omega arith;
      is_chain = h.7;
    }

pub left_more : (rules : List DraftRule) (nexts : List ℕ) (number next : ℕ) (d : DraftRule) (rows new all : List Row) →
    0 < number → IsLeft rules nexts number rows all → next ≡ get_or nexts (number - 1) 0 →
    new ≡ rows ++ (get_or rules (length rules - number) d).row ∷ [] → IsLeft rules nexts next new all
left_more rules nexts number next d rows new all l h is pushed =
    let o = chain_open rules nexts number h.left h.is_chain l in
    let rule_is : get_or rules (length rules - number) d ≡ o.rule =
    get_or_from_slice_get rules (length rules - number) o.rule d o.is_rule in
    let next_is : next ≡ o.next = is ∙ get_or_from_slice_get nexts (number - 1) o.next 0 o.is_next in
    record {
      left = o.rest;
      is_chain = subst (λ m. IsChain rules nexts m o.rest) (sym next_is) o.is_chain;
      whole = ap (λ xs. xs ++ map row_of o.rest) (pushed ∙ ap (λ r. rows ++ r.row ∷ []) rule_is)
          ∙ append_assoc rows (o.rule.row ∷ []) (map row_of o.rest)
          ∙ ap (λ xs. rows ++ map row_of xs) (sym o.is) ∙ h.whole;
    }

-- nothing is left of it
end_by : (rules : List DraftRule) (nexts : List ℕ) (number : ℕ) (left : List DraftRule) (rows all : List Row)
    → IsChain rules nexts number left → rows ++ map row_of left ≡ all → number ≤ 0 → rows ≡ all
end_by rules nexts number [] rows all h whole l = sym (append-nil rows) ∙ whole
end_by rules nexts number (rule ∷ rest) rows all h whole l = absurd (let e = h.1 in omega arith)

pub left_none : (rules : List DraftRule) (nexts : List ℕ) (number : ℕ) (rows all : List Row)
    → IsLeft rules nexts number rows all → number ≤ 0 → rows ≡ all
left_none rules nexts number rows all h l = end_by rules nexts number h.left rows all h.is_chain h.whole l

-- Groups

pub groups_none : (rules : List DraftRule) (starts : List ℕ) (rows : List Row) → starts ≡ 0 ∷ []
    → rows ≡ [] → AreGroups rules 0 starts rows
groups_none rules starts rows first none =
    let empty : length rows ≡ 0 = ap length none in
    record {
      count = ap length first;
      last = ap (λ xs. slice_get xs 0) first ∙ ap Some (sym empty);
      few = omega arith;
      groups = λ n l. absurd (omega arith);
    }

group_kept : (starts more : List ℕ) (rows new : List Row) (n : ℕ) (group : List Row) → IsGroup starts rows n group
    → IsGroup (starts ++ more) (rows ++ new) n group
group_kept starts more rows new n group h =
    let ordered = h.ordered in
    let within = h.within in
    let rest = length-drop h.start rows in
    record {
      start = h.start;
      end = h.end;
      is_start = slice_get-append_left starts more n h.start h.is_start;
      is_end = slice_get-append_left starts more (n + 1) h.end h.is_end;
      ordered = ordered;
      within = let e = length-append rows new in omega arith;
      are_rows = ap (take (h.end - h.start)) (drop-append-le h.start rows new (omega arith))
          ∙ take-append-le (h.end - h.start) (drop h.start rows) new (omega arith) ∙ h.are_rows;
    }

-- one goal more has its rows
pub groups_more : (rules : List DraftRule) (goals : ℕ) (starts new_starts : List ℕ) (rows new_rows : List Row) →
    AreGroups rules goals starts rows → new_rows ≡ rows ++ map row_of (rules_of goals rules) →
    new_starts ≡ starts ++ length new_rows ∷ [] →
    length new_rows < 2 ^ 32 → AreGroups rules (goals + 1) new_starts new_rows
groups_more rules goals starts new_starts rows new_rows h pushed started few =
    let group = map row_of (rules_of goals rules) in
    let all = rows ++ group in
    let size : length all ≡ length rows + length group = length-append rows group in
    let counted = h.count in
    let here : slice_get (starts ++ length all ∷ []) (goals + 1) ≡ Some (length all) =
    at_end starts (length all) (goals + 1) (sym counted) in
    let start_is : slice_get (starts ++ length all ∷ []) goals ≡ Some (length rows) =
    slice_get-append_left starts (length all ∷ []) goals (length rows) h.last in
    let count_is : length all - length rows ≡ length group = omega arith in
    let newest : IsGroup (starts ++ length all ∷ []) all goals group = record {
      start = length rows;
      end = length all;
      is_start = start_is;
      is_end = here;
      ordered = omega arith;
      within = omega arith;
      are_rows = ap (take (length all - length rows)) (drop-append_seam rows group)
          ∙ ap (λ m. take m group) count_is ∙ take-length group;
    } in
    let starts_are : new_starts ≡ starts ++ length all ∷ [] = started ∙ ap (λ xs. starts ++ length xs ∷ []) pushed in
    let made : AreGroups rules (goals + 1) (starts ++ length all ∷ []) all = record {
      count = let e = length-append starts (length all ∷ []) in omega arith;
      last = here;
      few = subst (λ xs. length xs < 2 ^ 32) pushed few;
      groups = λ n l. elim (eqb_tells n goals) [
        | inl w ↦
            subst (λ m. IsGroup (starts ++ length all ∷ []) all m (map row_of (rules_of m rules))) (sym w.1) newest
        | inr w ↦ let apart : n ≢ goals = w.1 in
            group_kept starts (length all ∷ []) rows group n (map row_of (rules_of n rules)) (h.groups n (omega arith))
      ];
    } in
    subst (λ xs. AreGroups rules (goals + 1) xs new_rows) (sym starts_are)
    (subst (AreGroups rules (goals + 1) (starts ++ length all ∷ [])) (sym pushed) made)

-- the starts of all goals
pub groups_ordered : (rules : List DraftRule) (goals : ℕ) (starts : List ℕ) (rows : List Row)
    → AreGroups rules goals starts rows → AreStarts starts (length rows)
groups_ordered rules goals starts rows h = λ n start end e f.
    let l = slice_get_within starts (n + 1) end f in
    let counted = h.count in
    let group = h.groups n (omega arith) in
    let start_is : group.start ≡ start = some_same group.start start (sym group.is_start ∙ e) in
    let end_is : group.end ≡ end = some_same group.end end (sym group.is_end ∙ f) in
    let ordered = group.ordered in
    let within = group.within in (omega arith, omega arith)

rows_are : (rows : List Row) (o p : Option ℕ) (start end : ℕ) (group : List Row) → o ≡ Some start → p ≡ Some end
    → take (end - start) (drop start rows) ≡ group → rows_between rows o p ≡ group
rows_are rows o p start end group e f is = rw (e, f) is

-- a goal has the candidates of its rules
pub groups_candidates : (rules : List DraftRule) (goals : ℕ) (starts : List ℕ) (rows : List Row) (askings : List Asking)
    (n : ℕ) → AreGroups rules goals starts rows → n < goals →
    candidates_with askings (rows_at starts rows n) ≡ map (λ rule. candidate_with askings rule.row) (rules_of n rules)
groups_candidates rules goals starts rows askings n h l =
    let group = h.groups n l in
    ap (candidates_with askings) (rows_are rows (slice_get starts n) (slice_get starts (n + 1)) group.start group.end
    (map row_of (rules_of n rules)) group.is_start group.is_end group.are_rows)
    ∙ map-map (candidate_with askings) row_of (rules_of n rules)
