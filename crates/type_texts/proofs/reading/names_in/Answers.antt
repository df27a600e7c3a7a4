use Rattle.std.proofs.Common.{◌+◌, ◌∙◌, ap, sym, subst}
use Rattle.std.specs.Option.{option_copied}
use Rattle.type_texts.specs.Words.{statement_of}
use Rattle.type_texts.proofs.Declared.{AreDeclaredTo, declared_more, declared_same, is_declared_again}
use Rattle.type_texts.proofs.Short.{short_at, short_declared}
use Rattle.type_texts.proofs.reading.names_in.Goals as goal
use Rattle.type_texts.proofs.reading.names_in.Goals.{in-Some+else-is_some+in_ok-intern, in_default}

pub returns-then-is_some-clause-fault : goal.returns-then-is_some-clause-fault
returns-then-is_some-clause-fault c =
    is_declared_again c.args.lines.now c.loop-before.before c.index-lines-before.result c.loop-before.names
    c.in-Some.name.now c.number.result c.loop-before-test.true c.index-lines-before.is
    (sym c.declared_name.ensures ∙ ap option_copied c.in-Some.is) (sym c.is_some.ensures ∙ c.if-is_some.true)
    c.number.ensures c.loop-before.invariant

pub loop-before-preserved : goal.loop-before-preserved
loop-before-preserved c = elim c.match-declared_name.branch [
  | in-Some+else-is_some+in_ok-intern w ↦
      subst (AreDeclaredTo c.args.lines.now (c.loop-before.before + 1)) (sym w.names-is)
      (declared_more c.args.lines.now c.loop-before.before c.index-lines-before.result c.loop-before.names _
      w.in-Some.name.now w.number.result c.loop-before-test.true c.index-lines-before.is
      (sym c.declared_name.ensures ∙ ap option_copied w.in-Some.is) (sym w.is_some.ensures ∙ w.if-is_some.false)
      w.number.ensures w.in_ok-intern.ensures.names c.loop-before.invariant)
  | in_default w ↦
      subst (AreDeclaredTo c.args.lines.now (c.loop-before.before + 1)) (sym w.names-is)
      (declared_same c.args.lines.now c.loop-before.before c.index-lines-before.result c.loop-before.names
      c.loop-before-test.true c.index-lines-before.is
      (sym c.declared_name.ensures ∙ ap option_copied w.in_default.is) c.loop-before.invariant)
]

pub intern-requires : goal.intern-requires
intern-requires c =
    let short = short_at c.args.lines.now c.loop-before.before c.index-lines-before.result c.requires
    c.loop-before-test.true c.index-lines-before.is in
    short_declared (statement_of c.index-lines-before.result) c.in-Some.name.now short
    (sym c.declared_name.ensures ∙ ap option_copied c.in-Some.is)
