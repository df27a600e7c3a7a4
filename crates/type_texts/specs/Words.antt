-- The words of this crate, from one place.
pub use Rattle.line_texts.specs.Lines.{IsName, lines_of}
pub use Rattle.line_texts.specs.LineWords.{words_left}
pub use Rattle.line_texts.specs.Names.{with_name}
pub use Rattle.type_texts.specs.Grammar.{AreAlternatives, AreDistinct, AreFields, barred, field_words, IsField}
pub use Rattle.type_texts.specs.Grammar.{IsMalformed, Meaning, NamedField, Say, SayNothing, Says, Spell}
pub use Rattle.type_texts.specs.Grammar.{SpellNothing, Statement}
pub use Rattle.type_texts.specs.Guard.{AreComponents, HasStep, IsUnionOfItself, StaysInside}
pub use Rattle.type_texts.specs.Guard.{successor_lists, union_lists}
pub use Rattle.type_texts.specs.Line.{meaning_of, named, statement_of}
pub use Rattle.type_texts.specs.Short.{HasShortName, HasShortParts, HasShortWords}
pub use Rattle.type_texts.specs.Table.{Adds, forms_in, GrowsLabels, HasUndeclared, IsAsked, IsForm, IsNumberOf}
pub use Rattle.type_texts.specs.Table.{IsSameField, IsTableOf, labels_of, name_in, named_in, names_of}
pub use Rattle.type_texts.specs.Table.{parts_in, questions_of}
pub use Rattle.type_texts.specs.Text.{declared_by, DeclaresAgain, DeclaresType, IsDeclaredTwice, IsFirstBadLine}
pub use Rattle.type_texts.specs.Text.{IsUndeclared, IsUnguarded, Reads}
