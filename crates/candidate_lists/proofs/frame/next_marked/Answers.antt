use Rattle.std.proofs.Common.{◌≡◌, ◌∙◌, ◌<◌, length, arith, sym}
use Rattle.std.proofs.lemmas.Option.{slice_get_within}
use Rattle.candidate_lists.proofs.Marked.{marked_at, marked_from-drop, marked_from-end, marked_from-here}
use Rattle.candidate_lists.proofs.Marked.{marked_from-next, none_at}
use Rattle.candidate_lists.proofs.frame.next_marked.Goals as goal

pub loop-is_marked-init : goal.loop-is_marked-init
loop-is_marked-init g c =
    (omega arith, marked_from-drop (g.T.CandidateLists.candidates_of c.args.lists c.args.goal) c.args.from)

pub returns-then-is_marked-clause-value : goal.returns-then-is_marked-clause-value
returns-then-is_marked-clause-value g c =
    let cs = g.T.CandidateLists.candidates_of c.args.lists c.args.goal in
    let at = marked_at cs c.loop-is_marked.place c.in-Some.is_marked (sym c.in-Some.ensures.value) in
    sym (marked_from-here cs c.loop-is_marked.place c.args.from at.0 c.loop-is_marked.invariant.0 at.1
    (at.2 ∙ c.if-is_marked.true)) ∙ c.loop-is_marked.invariant.1

pub loop-is_marked-smaller : goal.loop-is_marked-smaller
loop-is_marked-smaller g c =
    let cs = g.T.CandidateLists.candidates_of c.args.lists c.args.goal in
    let at = marked_at cs c.loop-is_marked.place c.in-Some.is_marked (sym c.in-Some.ensures.value) in
    let l : c.loop-is_marked.place < length cs = slice_get_within cs c.loop-is_marked.place at.0 at.1 in
    omega arith

pub loop-is_marked-preserved : goal.loop-is_marked-preserved
loop-is_marked-preserved g c =
    let cs = g.T.CandidateLists.candidates_of c.args.lists c.args.goal in
    let at = marked_at cs c.loop-is_marked.place c.in-Some.is_marked (sym c.in-Some.ensures.value) in
    let le = c.loop-is_marked.invariant.0 in (
      omega arith,
      sym (marked_from-next cs c.loop-is_marked.place c.args.from at.0 at.1 (at.2 ∙ c.if-is_marked.false))
          ∙ c.loop-is_marked.invariant.1,
    )

pub returns-clause-value : goal.returns-clause-value
returns-clause-value g c =
    let cs = g.T.CandidateLists.candidates_of c.args.lists c.args.goal in
    sym (marked_from-end cs c.loop-is_marked.place c.args.from
    (none_at cs c.loop-is_marked.place (sym c.in_default.ensures.value))) ∙ c.loop-is_marked.invariant.1
