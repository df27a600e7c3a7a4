use Rattle.std.proofs.Common.{Option, None, Some, sym, refl, ap, subst, ◌∙◌}
use Rattle.std.specs.Option.{IfSome}
use Rattle.std.specs.Prelude.{Contains}
use Rattle.std.proofs.lemmas.Option.{slice_get-get_or}
use Rattle.lean_runs.specs.Below.{edge_to}
use Rattle.lean_runs.proofs.LeanRuns.{edge_leads}
use Rattle.lean_runs.proofs.lean.Replayed.edge_of.Goals as goal

if_some_then : {A : Type 0} (o : Option A) (P Q : A → Type 0) → IfSome o P → ((x : A) → P x → Q x) → IfSome o Q
if_some_then None P Q h from = tt
if_some_then (Some x) P Q h from = from x h

pub returns : goal.returns
returns g c =
    if_some_then c.next_edge.result _ _ c.next_edge.ensures
    (λ further among.
    let found = subst (λ es. Contains es (edge_to c.args.kind c.args.input further)) c.as_slice.ensures.value among in
    edge_leads _ _ _ _ _ _ _ found.0 (edge_to c.args.kind c.args.input further) _ _ (sym c.in_ok-known.ensures.lent)
    (c.has_verdict.ensures c.if-not-has_verdict.false) c.in_ok-known.ensures.is_run
    (slice_get-get_or c.in_ok-known.known.now.edges.items found.0 (edge_to c.args.kind c.args.input further) found.1
    ∙ ap Some found.2) refl)
