-- The words of faults.
use Rattle.std.specs.Prelude.{ℕ, List, codes}
use Rattle.search_context.specs.declared.context.Fault.{Fault}
use Rattle.search_context.specs.declared.context.Fault.TheVariants.{Conflict, Memory, Protocol, Validation}

-- the fault's word
abbrev pub fault_word_of : {I R : Type 0} → Fault I R → List ℕ
fault_word_of Memory = codes "memory"
fault_word_of (Conflict input stored found) = codes "conflict"
fault_word_of (Validation input stored found) = codes "validation"
fault_word_of (Protocol number) = codes "protocol"
