use Rattle.std.proofs.Common.{arith, ap, refl, sym, ◌∙◌, length}
use Rattle.type_texts.specs.Words.{declared_by, name_in, statement_of}
use Rattle.type_texts.proofs.Declared.{counted_more, counted_same, undeclaring}
use Rattle.type_texts.proofs.Lists.{map_take}
use Rattle.type_texts.proofs.Texts.{statement_at}
use Rattle.type_texts.proofs.reading.line_declaring.Goals as goal
use Rattle.type_texts.proofs.reading.line_declaring.Goals.{in-Type+else-declared-number, in_default}

pub returns-then-declared-number : goal.returns-then-declared-number
returns-then-declared-number c = record {
  before = c.loop-before.before;
  count = refl;
  statement = statement_of c.index-lines-before.result;
  is_at = statement_at c.args.lines.now c.loop-before.before c.index-lines-before.result
      c.loop-before-test.true c.index-lines-before.is;
  name = c.in-Type.name.now;
  declares = ap (λ line. name_in (statement_of line)) c.in-Type.is;
  is_type = sym c.if-declared-number.true ∙ c.loop-before.invariant.counted
      ∙ ap (λ ss. length (declared_by ss)) (map_take statement_of c.loop-before.before c.args.lines.now);
}

pub loop-before-preserved : goal.loop-before-preserved
loop-before-preserved c = elim c.match-line.branch [
  | in-Type+else-declared-number w ↦ record {
    counted = w.declared-is ∙ counted_more c.args.lines.now c.loop-before.before c.index-lines-before.result
        c.loop-before.declared w.in-Type.name.now
        c.loop-before-test.true c.index-lines-before.is
        (ap (λ line. name_in (statement_of line)) w.in-Type.is) c.loop-before.invariant.counted;
    before_it = let more = w.declared-is in let other = w.if-declared-number.false in
        let so_far = c.loop-before.invariant.before_it in omega arith;
  }
  | in_default w ↦ record {
    counted = w.declared-is ∙ counted_same c.args.lines.now c.loop-before.before c.index-lines-before.result
        c.loop-before.declared c.loop-before-test.true c.index-lines-before.is
        (undeclaring c.index-lines-before.result w.in_default.not-Type) c.loop-before.invariant.counted;
    before_it = let same = w.declared-is in let so_far = c.loop-before.invariant.before_it in omega arith;
  }
]
