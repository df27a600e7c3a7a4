use Rattle.std.proofs.Common.{◌≡◌, ℕ, ◌<◌, IsTrue, List, Some, nat_eq, length, get_or, sym, ap, ◌∙◌, arith}
use Rattle.std.proofs.lemmas.Bool.Decides.{nat_tests}
use Rattle.std.proofs.lemmas.Option.{slice_get-get_or}
use Rattle.std.specs.Option.{option_map}
use Rattle.graph_nodes.specs.Held.{HasNumber}
use Rattle.graph_nodes.specs.declared.node_list.Held.{Held}
use Rattle.graph_nodes.proofs.held.is_at.Goals as goal

same_number : (m n : ℕ) → IsTrue (nat_eq m n) → m ≡ n
same_number m n is = grind (arith, nat_tests)

number_here : {I R : Type 0} (held : List (Held I R)) (place number : ℕ) (entry : Held I R) → place < length held
    → entry ≡ get_or held place entry → IsTrue (nat_eq entry.number number) → HasNumber held place number
number_here held place number entry below at is =
    ap (option_map (λ h. h.number)) (slice_get-get_or held place entry below)
    ∙ ap (λ h. Some h.number) (sym at)
    ∙ ap Some (same_number entry.number number is)

pub returns-in-Some : goal.returns-in-Some
returns-in-Some g c = number_here c.args.held.now c.args.place c.args.number c.in-Some.entry.now
    c.in-Some.ensures.lookup.3.0 c.in-Some.ensures.lookup.1

pub returns-in-None : goal.returns-in-None
returns-in-None g c = λ is. cc
