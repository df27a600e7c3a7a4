-- What proves and refutes a goal stays so when more is known, and the two share a question.
use Rattle.std.specs.Prelude.{List}
use Rattle.question_lists.specs.Below.{Question, IsWithin, Overlap}
use Rattle.question_lists.specs.declared.needs.Needs.{Needs}
use Rattle.question_lists.specs.declared.needs.Needs.TheVariants.{All, Any}
use Rattle.question_lists.specs.Needs.{Proves, Refutes}

within_more : {A : Type 0} (xs some more : List A) → IsWithin some more → IsWithin xs some → IsWithin xs more
within_more xs some more h p x has = h x (p x has)

overlap_more : {A : Type 0} (xs some more : List A) → IsWithin some more → Overlap xs some → Overlap xs more
overlap_more xs some more h p = (p.0, p.1, h p.0 p.2)

pub Proves-more : {I : Type 0} (needs : Needs) (questions some more : List (Question I)) → IsWithin some more
    → Proves needs questions some → Proves needs questions more
Proves-more All questions some more h p = within_more questions some more h p
Proves-more Any questions some more h p = overlap_more questions some more h p

pub Refutes-more : {I : Type 0} (needs : Needs) (questions some more : List (Question I)) → IsWithin some more
    → Refutes needs questions some → Refutes needs questions more
Refutes-more All questions some more h p = overlap_more questions some more h p
Refutes-more Any questions some more h p = within_more questions some more h p

pub clash : {I : Type 0} (needs : Needs) (questions held failed : List (Question I)) → Proves needs questions held
    → Refutes needs questions failed → Overlap held failed
clash All questions held failed p r = (r.0, p r.0 r.1, r.2)
clash Any questions held failed p r = (p.0, p.2, r p.0 p.1)
