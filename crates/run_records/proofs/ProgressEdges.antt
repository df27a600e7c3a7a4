-- The edges that the record of a run gives, and the run that its node has.
use Rattle.std.proofs.Common.{◌≡◌, ℕ, Bool, not, List, map, slice_index_or, Option, Some, None, refl, sym, ap, ◌∙◌}
use Rattle.std.specs.List.{filter, All, Contains}
use Rattle.std.proofs.lemmas.Bool.{and_parts}
use Rattle.std.proofs.lemmas.List.Elements.{filter_agree, filter_passes, All-filter, All-map}
use Rattle.std.proofs.lemmas.List.Elements.{All-contains, All-contains_itself}
use Rattle.std.proofs.lemmas.Simd.{map-map}
use Rattle.run_records.specs.Below.{Request, Reply, Verdict, Yes, No, Edge, Question, question_of, Progress, Asked}
use Rattle.run_records.specs.Below.{progress_after, is_counted, questions_answered, counted_by, Verdicts}
use Rattle.run_records.specs.declared.progress.DefiniteAnswer.{DefiniteAnswer}
use Rattle.run_records.specs.Words.{RunRecord, is_same_verdict, asked_of, asked_in, asked_with, edges_of}
use Rattle.run_records.specs.Words.{IsEdgeOfAnswer, Agrees, Records, rests_on}
use Rattle.search_context.proofs.Filtered.{filtered_twice}
use Rattle.run_records.proofs.Verdicts.{same_verdict}

module _ {I R : Type 0} (p : RunRecord I R) (v : Verdict) where
  -- each edge is that of an answer with the verdict
  pub edge_is_of_answer : (e : Edge I) → Contains (edges_of p v) e → IsEdgeOfAnswer p.answers p.ignored v e
  edge_is_of_answer e there =
      let some = filter (rests_on p.ignored v) p.answers in
      let within = All-filter (rests_on p.ignored v) (Contains p.answers) p.answers (All-contains_itself p.answers) in
      let passes = filter_passes (rests_on p.ignored v) p.answers in
      let each : All (λ d. IsEdgeOfAnswer p.answers p.ignored v d.edge) some =
      λ k d below. record {
        answer = slice_index_or some k d;
        is_in = within k d below;
        verdict_is = same_verdict _ _ ((and_parts _ _ (passes k d below)).0);
        edge_is = refl;
        kept = (and_parts _ _ (passes k d below)).1;
      } in
      All-contains (IsEdgeOfAnswer p.answers p.ignored v) (edges_of p v) e
      (All-map (IsEdgeOfAnswer p.answers p.ignored v) (λ d. d.edge) some each) there

module _ {I R : Type 0} (says : Verdicts R) where
  counted_by_number : (p : RunRecord I R) (done : Progress I R) → Agrees says p done → (candidate : Option ℕ)
      → counted_by p.ignored candidate ≡ is_counted done.ignored candidate
  counted_by_number p done h None = refl
  counted_by_number p done h (Some n) = ap not (sym (h.ignored_are n))

  -- the edges of the answers ask the questions whose results pass the test
  questions_are : (w : Verdict) (test : R → Bool) (p : RunRecord I R) (done : Progress I R) → Agrees says p done
      → asked_with w p ≡ map asked_in (filter (λ a. test a.answer) done.asked)
      → map question_of (edges_of p w) ≡ questions_answered test done
  questions_are w test p done h same =
      map-map question_of (λ (d : DefiniteAnswer I). d.edge) (filter (rests_on p.ignored w) p.answers)
      ∙ filtered_twice asked_of (λ d. is_same_verdict d.verdict w) (counted_by p.ignored) p.answers
      ∙ ap (λ (asked : List (Question I × Option ℕ)). map (λ q. q.0) (filter (λ q. counted_by p.ignored q.1) asked))
      same
      ∙ ap (map (λ (q : Question I × Option ℕ). q.0))
      (filter_agree (λ q. counted_by p.ignored q.1) (λ q. is_counted done.ignored q.1)
      (λ q. counted_by_number p done h q.1) (map asked_in (filter (λ (a : Asked I R). test a.answer) done.asked)))
      ∙ sym (filtered_twice asked_in (λ (a : Asked I R). test a.answer) (is_counted done.ignored) done.asked)

  module _ (script : List (Reply R) → Request I R) (p : RunRecord I R) (replies : List (Reply R))
      (h : Records says script p replies) where
    -- a result of yes rests on the questions that were answered yes,
    pub yes_edges_are : map question_of (edges_of p Yes)
        ≡ questions_answered says.is_yes (progress_after script replies)
    yes_edges_are = questions_are Yes says.is_yes p (progress_after script replies) h.agrees h.agrees.yes

    -- and one of no on those that were answered no
    pub no_edges_are : map question_of (edges_of p No) ≡ questions_answered says.is_no (progress_after script replies)
    no_edges_are = questions_are No says.is_no p (progress_after script replies) h.agrees h.agrees.no
