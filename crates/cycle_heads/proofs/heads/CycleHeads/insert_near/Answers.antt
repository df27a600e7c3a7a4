use Rattle.std.proofs.Common.{subst, sym, ap, ◌∙◌, IsSome}
use Rattle.std.proofs.lemmas.Bool.{false≢true}
use Rattle.cycle_heads.specs.Words.{place_of}
use Rattle.cycle_heads.proofs.Places.{gap_value}
use Rattle.cycle_heads.proofs.heads.CycleHeads.insert_near.Goals as goal

pub returns-in-Err-clause-known : goal.returns-in-Err-clause-known
returns-in-Err-clause-known c =
    let gap = ap (λ heads. place_of heads c.args.head) (sym c.as_slice.ensures.heads)
    ∙ sym c.place_near-place.ensures ∙ c.in-Err.is in
    let absent = gap_value c.args.head c.args.self.now c.in-Err.index c.as_slice.ensures.rising gap in
    λ known. absurd (false≢true (subst IsSome absent known))
