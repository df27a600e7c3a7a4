use Rattle.std.proofs.Common.{subst}
use Rattle.std.proofs.KnownBytes.{Appends-nil}
use Rattle.std.proofs.lemmas.List.{take_all}
use Rattle.std.specs.Io.KnownBytes.{Appends}
use Rattle.proof_trees.specs.Text.{text_of}
use Rattle.proof_trees.proofs.Written.{one_more}
use Rattle.proof_trees.proofs.writing.write_entries.Goals as goal

pub loop-entry-init : goal.loop-entry-init
loop-entry-init g c = Appends-nil (g.W.Write.contents c.args.out.now)

pub loop-entry-preserved : goal.loop-entry-preserved
loop-entry-preserved g c =
    let contents = g.W.Write.contents in
    let words = g.N.Words in
    one_more (record {
      kind = words.kind_words c.args.words.now;
      goal = words.goal_words c.args.words.now;
      outcome = words.result_words c.args.words.now;
    })
    c.args.entries.now c.loop-entry.entry-index c.entry-item.result (contents c.args.out.now)
    (contents c.loop-entry.out) (contents c.write_entry.new.out)
    c.loop-entry-test.true c.entry-item.is c.loop-entry.invariant c.in_ok-write_entry.ensures

pub returns : goal.returns
returns g c =
    let contents = g.W.Write.contents in
    let words = g.N.Words in
    subst (λ entries. Appends (contents c.args.out.now) (contents c.loop-entry.out) (text_of (record {
      kind = words.kind_words c.args.words.now;
      goal = words.goal_words c.args.words.now;
      outcome = words.result_words c.args.words.now;
    }) entries))
    (take_all c.loop-entry.entry-index c.args.entries.now c.loop-entry-test.false) c.loop-entry.invariant
