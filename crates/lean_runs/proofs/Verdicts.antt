-- Verdicts in the theory's words.
use Rattle.std.proofs.Common.{◌≡◌, ◌≢◌, Bool, true, false, IsTrue, if◌then◌else◌, ◌↔◌, refl, sym}
use Rattle.open_graphs.specs.Graph as theory
use Rattle.graph_nodes.proofs.Definites.{no_verdict, yes_verdict}
use Rattle.lean_runs.specs.Below.{Verdict, Yes, No, Neither, IsNeither, verdict_of, Verdicts}
use Rattle.lean_runs.specs.Words.{verdict_shape}

-- the verdict of an answer in the theory's words
pub verdict_is : {R : Type 0} (says : Verdicts R) (r : R) (v : Verdict) → ((v ≡ Yes) ↔ IsTrue (says.is_yes r))
    → ((v ≡ No) ↔ IsTrue (says.is_no r)) → v ≢ Neither → verdict_shape v ≡ verdict_of says r
verdict_is says r Yes holds fails d = sym (yes_verdict (says.is_yes r) (says.is_no r) (holds.0 refl))
verdict_is says r No holds fails d =
    sym (no_verdict (says.is_yes r) (says.is_no r) (λ y. let e : No ≡ Yes = holds.1 y in absurd cc) (fails.0 refl))
verdict_is says r Neither holds fails d = absurd (d refl)

pub in_theory_definite : (v : Verdict) → v ≢ Neither → verdict_shape v ≢ theory.Neither
in_theory_definite Yes d e = cc
in_theory_definite No d e = cc
in_theory_definite Neither d e = d refl

pub neither_at : (y n : Bool) → y ≡ false → n ≡ false
    → (if y then theory.Yes else if n then theory.No else theory.Neither) ≡ theory.Neither
neither_at true n not_yes not_no = absurd cc
neither_at false true not_yes not_no = absurd cc
neither_at false false not_yes not_no = refl

pub neither_is : {R : Type 0} (says : Verdicts R) (r : R) → IsNeither says.is_yes says.is_no r
    → verdict_of says r ≡ theory.Neither
neither_is says r h = neither_at (says.is_yes r) (says.is_no r) h.not_yes h.not_no
