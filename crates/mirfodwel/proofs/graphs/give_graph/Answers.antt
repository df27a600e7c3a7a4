use Rattle.std.proofs.Common.{IsSome, refl, subst, sym}
use Rattle.search_context.specs.declared.context.Verdict.TheVariants as verdict
use Rattle.sessions.specs.Below.{outcome_verdicts}
use Rattle.sessions.specs.Rules.{scripts_of}
use Rattle.sessions.specs.Shown.{AreValidFor, AreWordsFrom}
use Rattle.mirfodwel.proofs.Opened.{given, held_of, known_of}
use Rattle.mirfodwel.specs.Given.{AreGraphOf, Given}
use Rattle.mirfodwel.specs.Rows.{nodes_in, rows_in}
use Rattle.mirfodwel.proofs.graphs.give_graph.Goals as goal

pub returns-in-Ok-Some : goal.returns-in-Ok-Some
returns-in-Ok-Some c = let its = c.in-Ok-Some.ensures in let is = c.in-Ok-Some.field-0-is in
    let inside = c.args.inside.now in let handed = c.in-Ok-Some.field-0 in let words = c.in-Ok-Some.words in
    let are : AreGraphOf inside c.args.node words.items = record {
      are_its = held_of handed words is (λ it. AreWordsFrom (nodes_in inside) c.args.node.0 it.items) its.words;
      shows_yes = λ goal has. known_of handed words is
          (λ it. AreValidFor outcome_verdicts verdict.Yes (scripts_of (rows_in inside)) it.items goal)
          (its.valid_yes goal has);
      shows_no = λ goal has. known_of handed words is
          (λ it. AreValidFor outcome_verdicts verdict.No (scripts_of (rows_in inside)) it.items goal)
          (its.valid_no goal has);
    } in
    Given (its.not_whole (subst (λ it. IsSome it) (sym is) refl))
    (given c.hand_out.ensures (subst (AreGraphOf inside c.args.node) (sym c.as_slice.ensures.value) are))
