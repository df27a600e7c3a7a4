-- What is told of what a question came to.
use Rattle.std.specs.Prelude.{◌≡◌, ℕ, false, Option, Some, None, is_some, codes, List, [], Result, Ok, Err}
use Rattle.sessions.specs.Below.{Fault, NodeId, Outcome}
use Rattle.delegate_parts.specs.declared.outcome.Outcome.TheVariants.{Maybe, No, Overflow, Yes}
use Rattle.search_context.specs.declared.context.Fault.TheVariants.{Conflict, Memory, Protocol, Validation}
use Rattle.sessions.specs.declared.asking.Asked.{Asked}
use Rattle.mirfodwel.specs.declared.asking.Answer.{Answer}

abbrev pub number_of : Outcome → ℕ
number_of Yes = 0
number_of No = 1
number_of Maybe = 2
number_of Overflow = 3

abbrev pub node_number : Option NodeId → ℕ
node_number None = 0
node_number (Some node) = node.0

abbrev pub fault_number : Fault ℕ Outcome → ℕ
fault_number Memory = 1
fault_number (Conflict goal stored found) = 2
fault_number (Validation goal stored found) = 3
fault_number (Protocol number) = 4

abbrev pub Came : Type 0
Came = Result Asked (Fault ℕ Outcome)

-- the answer that tells what a question came to
abbrev pub answer_of : Came → Answer
answer_of (Ok asked) = record {
  started = asked.started;
  node = node_number asked.node;
  outcome = number_of asked.outcome;
  fault = 0;
  has_graph = is_some asked.node;
  limits_met = asked.limits_met;
}
answer_of (Err fault) = record {
  started = 0;
  node = 0;
  outcome = 2;
  fault = fault_number fault;
  has_graph = false;
  limits_met = false;
}

-- 0 for an answer, and 1 for a fault
abbrev pub status_of : Came → ℕ
status_of (Ok asked) = 0
status_of (Err fault) = 1

-- A question came to something of which this holds, and that is told.
pub record IsTold (Promised : Came → Type 0) (answer : Answer) (status : ℕ) : Type 0 where
  pub came : Came
  pub promised : Promised came
  pub same_answer : answer ≡ answer_of came
  pub same_status : status ≡ status_of came

-- the words that tell the fault that was met last
abbrev pub words_of : Option (Fault ℕ Outcome) → List ℕ
words_of None = []
words_of (Some Memory) = codes "out of memory"
words_of (Some (Conflict goal stored found)) = codes "another result is stored"
words_of (Some (Validation goal stored found)) = codes "validation gave another result"
words_of (Some (Protocol number)) = codes "request out of order"
