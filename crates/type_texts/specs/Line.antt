-- What a line that was read says, without where its names lie in memory.
use Rattle.std.specs.Prelude.{map}
use Rattle.type_texts.specs.declared.line.Line.{Line}
use Rattle.type_texts.specs.declared.line.Line.TheVariants as line
use Rattle.type_texts.specs.declared.written.Written.{Written}
use Rattle.type_texts.specs.declared.written.Written.TheVariants as written
use Rattle.type_texts.specs.declared.written.WrittenField.{WrittenField}
use Rattle.type_texts.specs.Grammar.{Ask, Base, Bottom, Declare, Function, Meaning, NamedField, Nothing, Record}
use Rattle.type_texts.specs.Grammar.{Statement, Top, Union}

abbrev pub named : WrittenField → NamedField
named field = record { name = field.name.now; part = field.part.now }

abbrev pub meaning_of : Written → Meaning
meaning_of (written.Base word) = Base word.now
meaning_of written.Top = Top
meaning_of written.Bottom = Bottom
meaning_of (written.Function argument outcome) = Function argument.now outcome.now
meaning_of (written.Record fields) = Record (map named fields.items)
meaning_of (written.Union names) = Union (map (λ name. name.now) names.items)

abbrev pub statement_of : Line → Statement
statement_of line.PassedOver = Nothing
statement_of (line.Type name means) = Declare name.now (meaning_of means)
statement_of (line.Ask left right) = Ask left.now right.now
