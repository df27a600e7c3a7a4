-- What proves and refutes a goal stays so when more is known, and what proves it clashes with what refutes it.
use Rattle.std.specs.Prelude.{List}
use Rattle.candidate_lists.specs.Below.{Question, IsWithin, Overlap}
use Rattle.candidate_lists.specs.Candidate.{Candidate, Proves, Refutes}

pub Proves-more : {Q I : Type 0} (question_of : Q → Question I) (cs : List (Candidate Q))
    (some more : List (Question I)) → IsWithin some more → Proves question_of cs some → Proves question_of cs more
Proves-more question_of cs some more h p =
    record { candidate = p.candidate; is_candidate = p.is_candidate; within = λ q w. h q (p.within q w) }

pub Refutes-more : {Q I : Type 0} (question_of : Q → Question I) (cs : List (Candidate Q))
    (some more : List (Question I)) → IsWithin some more → Refutes question_of cs some → Refutes question_of cs more
Refutes-more question_of cs some more h p candidate w = let o = p candidate w in (o.0, o.1, h o.0 o.2)

pub clash : {Q I : Type 0} (question_of : Q → Question I) (cs : List (Candidate Q)) (held failed : List (Question I))
    → Proves question_of cs held → Refutes question_of cs failed → Overlap held failed
clash question_of cs held failed p r = let o = r p.candidate p.is_candidate in (o.0, p.within o.0 o.1, o.2)
