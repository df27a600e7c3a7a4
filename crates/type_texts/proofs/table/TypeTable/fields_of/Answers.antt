use Rattle.std.proofs.Common.{map, subst}
use Rattle.type_texts.specs.Words.{HasUndeclared, named, names_of}
use Rattle.type_texts.proofs.Adding.{fields_more, grows_more, undeclared_field}
use Rattle.type_texts.proofs.Short.{short_field}
use Rattle.type_texts.proofs.table.TypeTable.fields_of.Goals as goal

pub loop-field-preserved : goal.loop-field-preserved
loop-field-preserved c = record {
  fields = fields_more c.loop-field.self c.word_of.new.self _ _ _ _ _ _ c.loop-field-test.true
      c.loop-field.invariant.fields c.in_ok-name.ensures.grows
      (record {
        name = c.in_ok-name.ensures.number;
        part = rw c.in_ok-name.ensures.grows.names c.in_ok-part.ensures.number;
      }) c.in_ok-push.ensures.items;
  grows = grows_more c.args.self.now c.loop-field.self c.word_of.new.self
      c.loop-field.invariant.grows c.in_ok-name.ensures.grows;
}

pub returns-in_err-part-clause-undeclared : goal.returns-in_err-part-clause-undeclared
returns-in_err-part-clause-undeclared c = λ e.
    subst (λ names. HasUndeclared names (map (λ field. field.part) (map named c.args.written.now)))
    c.loop-field.invariant.grows.names
    (undeclared_field (names_of c.loop-field.self) c.args.written.now c.loop-field.field-index _
    c.loop-field-test.true c.in_err-part.ensures.undeclared)

pub word_of-requires : goal.word_of-requires
word_of-requires c = short_field c.args.written.now c.loop-field.field-index _ c.requires c.loop-field-test.true
