-- Edges are compared one by one with the questions that a record has.
use Rattle.std.proofs.Common.{◌≡◌, ◌↔◌, ◌≤◌, ◌==◌, ℕ, ◌+◌, Bool, true, false, IsTrue, cond, List, [], ◌∷◌, map, drop}
use Rattle.std.proofs.Common.{length, sym, ap, ◌∙◌, subst, arith}
use Rattle.std.proofs.Math.ListN.{drop_of_length-le}
use Rattle.std.proofs.lemmas.Bool.Decides.{nat_tests}
use Rattle.std.proofs.lemmas.List.{drop_more, length-map}
use Rattle.std.specs.List.{filter}
use Rattle.graph_check.specs.Below.{Edge, Question, counted_by, question_of}
use Rattle.graph_check.specs.Words.{Replayed, question_asked, questions_counted}
use Rattle.graph_check.specs.declared.replay.run_record.AskedQuestion.{AskedQuestion}
use Rattle.graph_check.proofs.Elements.{IsAt}

module _ {I R : Type 0} (p : Replayed I R) where
  -- the questions outside ignored candidates, of those from this place on
  abbrev pub questions_from : ℕ → List (Question I)
  questions_from i = map question_asked (filter (λ a. counted_by p.ignored a.candidate) (drop i p.asked))

  -- the edges ask the questions of the record exactly where those that are left ask the questions that are left
  pub record IsLeft (edges left : List (Edge I)) (i : ℕ) : Type 0 where
    pub same : (map question_of edges ≡ questions_counted p) ↔ (map question_of left ≡ questions_from i)

module _ {I R : Type 0} (p : Replayed I R) {edges left : List (Edge I)} {i : ℕ} (asked : AskedQuestion I)
    (at : IsAt p.asked i asked) (so_far : IsLeft p edges left i) (counts : Bool)
    (tells : counts ≡ counted_by p.ignored asked.candidate) where
  abbrev later_asked : List (AskedQuestion I)
  later_asked = filter (λ a. counted_by p.ignored a.candidate) (drop (i + 1) p.asked)

  from_here : questions_from p i ≡ map question_asked (cond counts (asked ∷ later_asked) later_asked)
  from_here =
      ap (λ list. map question_asked (filter (λ a. counted_by p.ignored a.candidate) list))
      (drop_more p.asked i asked at.below ∙ ap (λ a. a ∷ drop (i + 1) p.asked) (sym at.is))
      ∙ ap (λ b. map question_asked (cond b (asked ∷ later_asked) later_asked)) (sym tells)

  -- a question in an ignored candidate is passed over
  pub passed_over : counts ≡ false → IsLeft p edges left (i + 1)
  passed_over none = record {
    same = subst (λ questions. (map question_of edges ≡ questions_counted p) ↔ (map question_of left ≡ questions))
        (from_here ∙ ap (λ b. map question_asked (cond b (asked ∷ later_asked) later_asked)) none) so_far.same;
  }

  module _ (some : counts ≡ true) where
    is_next : questions_from p i ≡ question_asked asked ∷ questions_from p (i + 1)
    is_next = from_here ∙ ap (λ b. map question_asked (cond b (asked ∷ later_asked) later_asked)) some

    -- any other one must be asked by an edge
    pub ends_early : length left ≡ 0 → IsTrue false ↔ (map question_of edges ≡ questions_counted p)
    ends_early none = (
      λ never. cc,
      λ all. absurd (omega (arith, ap length (so_far.same.0 all ∙ is_next), length-map left question_of, none)),
    )

    module _ (edge : Edge I) (later : List (Edge I)) (is : left ≡ edge ∷ later) where
      begins_as : map question_of edges ≡ questions_counted p
          → question_of edge ∷ map question_of later ≡ question_asked asked ∷ questions_from p (i + 1)
      begins_as all = ap (map question_of) (sym is) ∙ so_far.same.0 all ∙ is_next

      -- by the next one
      pub asks_another : (asks : Bool) → (question_of edge ≡ question_asked asked → IsTrue asks) → asks ≡ false
          → IsTrue false ↔ (map question_of edges ≡ questions_counted p)
      asks_another asks says other = (
        λ never. cc,
        λ all. let begins = begins_as all in let same : question_of edge ≡ question_asked asked = cc in
            sym other ∙ says same,
      )

      pub asks_next : question_of edge ≡ question_asked asked → IsLeft p edges later (i + 1)
      asks_next same = record {
        same = (
          λ all. let begins = begins_as all in cc,
          λ rest. so_far.same.1 (ap (map question_of) is ∙ ap (λ q. q ∷ map question_of later) same
              ∙ ap (λ list. question_asked asked ∷ list) rest ∙ sym is_next),
        );
      }

-- at the end no edge may be left
pub all_asked : {I R : Type 0} (p : Replayed I R) (edges left : List (Edge I)) (i : ℕ) → IsLeft p edges left i
    → length p.asked ≤ i → (empty : Bool) → empty ≡ (length left == 0) → IsTrue empty
    ↔ (map question_of edges ≡ questions_counted p)
all_asked p edges [] i so_far all empty tells = (
  λ _. so_far.same.1 (sym (ap (λ list. map question_asked (filter (λ a. counted_by p.ignored a.candidate) list))
      (drop_of_length-le p.asked {i = i} all))),
  λ _. tells,
)
all_asked p edges (e ∷ es) i so_far all empty tells =
    let some : empty ≡ false = grind (arith, nat_tests, tells) in (
      λ is. cc,
      λ same.
          let none =
          so_far.same.0 same ∙ ap (λ list. map question_asked (filter (λ a. counted_by p.ignored a.candidate) list))
          (drop_of_length-le p.asked {i = i} all) in
          cc,
    )
