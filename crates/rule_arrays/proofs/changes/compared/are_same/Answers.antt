use Rattle.std.proofs.Common.{◌∙◌, arith, sym}
use Rattle.std.proofs.lemmas.Bool.{false≢true}
use Rattle.rule_arrays.specs.Table.{candidate_with}
use Rattle.rule_arrays.proofs.Comparing.{same_at}
use Rattle.rule_arrays.proofs.changes.compared.are_same.Goals as goal

pub returns-then-not-is_same : goal.returns-then-not-is_same
returns-then-not-is_same c = (
  λ never. absurd (false≢true never),
  λ same. sym c.if-not-is_same.true ∙ c.is_same.ensures.1
      (same_at (candidate_with c.args.old.questions.now) (candidate_with c.args.new.questions.now)
      c.args.old.rows.now c.args.new.rows.now c.loop-place.place _ _ same (omega arith) (omega arith)),
)
