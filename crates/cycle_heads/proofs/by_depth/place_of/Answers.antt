use Rattle.std.proofs.Common.{rules}
use Rattle.std.proofs.lemmas.List.Sorted.{answers_always}
use Rattle.cycle_heads.proofs.Places.{search_finds_place}
use Rattle.cycle_heads.proofs.by_depth.place_of.Goals as goal

pub returns : goal.returns
returns g c =
    let facts = c.binary_search_by_key.ensures in
    let by_key = facts.position (λ e. e.0) (answers_always _ _ _ (λ f a r g called. search rules)) in
    search_finds_place c.args.depth c.args.entries.now c.requires _ facts.bound by_key
