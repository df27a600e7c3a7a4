use Rattle.std.proofs.Common.{rules}
use Rattle.type_texts.proofs.Refusing.{record_refused}
use Rattle.type_texts.proofs.written.record_of.Goals as goal

pub returns-in_err-fields-clause-malformed : goal.returns-in_err-fields-clause-malformed
returns-in_err-fields-clause-malformed c = λ e. record_refused _ (c.in_err-fields.ensures.malformed (search rules))
