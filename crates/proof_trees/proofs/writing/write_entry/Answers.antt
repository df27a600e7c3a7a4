use Rattle.std.proofs.Common.{subst, sym}
use Rattle.std.proofs.KnownBytes.{Appends-nil}
use Rattle.std.specs.Io.KnownBytes.{Appends}
use Rattle.proof_trees.specs.Text.{line_at}
use Rattle.proof_trees.proofs.Written.{line_written}
use Rattle.proof_trees.proofs.writing.write_entry.Goals as goal

pub returns-in-FinishedCandidate : goal.returns-in-FinishedCandidate
returns-in-FinishedCandidate g c =
    let contents = g.W.Write.contents c.args.out.now in
    let words = g.N.Words in
    subst (λ part. Appends contents contents (line_at (record {
      kind = words.kind_words c.args.words.now;
      goal = words.goal_words c.args.words.now;
      outcome = words.result_words c.args.words.now;
    }) c.args.entry.level part))
    (sym c.in-FinishedCandidate.is) (Appends-nil contents)

pub returns : goal.returns
returns g c =
    let contents = g.W.Write.contents in
    let words = g.N.Words in
    line_written (record {
      kind = words.kind_words c.args.words.now;
      goal = words.goal_words c.args.words.now;
      outcome = words.result_words c.args.words.now;
    })
    c.args.entry c.write_all.result (contents c.args.out.now) (contents c.write_indentation.new.out)
    (contents c.write_part.new.out) (contents c.write_all.new.self)
    c.in_default.not-FinishedCandidate c.in_ok-write_indentation.ensures
    c.in_ok-write_part.ensures c.write_all.ensures.bytes
