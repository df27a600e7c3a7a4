use Rattle.std.proofs.Common.{◌∙◌, ap, length, map, refl, slice_set, subst, sym}
use Rattle.std.proofs.lemmas.List.{length-map}
use Rattle.rule_tables.specs.Candidate.{Candidate}
use Rattle.open_tables.specs.Kept.{AddsCandidate}
use Rattle.open_tables.specs.Table.{AreFewer, IsKept, Table, candidate_of, candidates_at, candidates_in}
use Rattle.open_tables.proofs.Keeping.{kept_added}
use Rattle.open_tables.proofs.Places.{added_at, adds_by, on_err, place_in, same_at, was_at}
use Rattle.open_tables.proofs.table.OpenTable.add.Goals as goal

pub invariant_of-self : goal.invariant_of-self
invariant_of-self c =
    let ways = c.self.inside.ways.items in
    let inside : Table = record { names = c.self.inside.names; candidates = map candidates_in ways } in
    let within = place_in inside c.args.self.now c.args.goal c.number-place.result ways c.self.view_is refl
    c.self.invariant.as_many c.requires.known c.number-place.ensures in
    let same = same_at ways c.number-place.result c.index_mut.result.now c.add_way.new.ways within
    c.index_mut.ensures.value c.in_err-add_way.ensures.same in
    subst (λ cs. IsKept (record { names = c.self.inside.names; candidates = cs }) c.add_way.new.askers) (sym same)
    (subst (IsKept inside) (sym c.in_err-add_way.ensures.unasked) c.self.invariant)

pub returns-in_err-add_way-clause-err : goal.returns-in_err-add_way-clause-err
returns-in_err-add_way-clause-err c =
    let ways = c.self.inside.ways.items in
    let inside : Table = record { names = c.self.inside.names; candidates = map candidates_in ways } in
    let within = place_in inside c.args.self.now c.args.goal c.number-place.result ways c.self.view_is refl
    c.self.invariant.as_many c.requires.known c.number-place.ensures in
    let same = same_at ways c.number-place.result c.index_mut.result.now c.add_way.new.ways within
    c.index_mut.ensures.value c.in_err-add_way.ensures.same in
    on_err c.from_residual.result
    (ap (λ cs. record { names = c.self.inside.names; candidates = cs }) same ∙ c.self.view_is)

pub invariant_of-self-2 : goal.invariant_of-self-2
invariant_of-self-2 c =
    let ways = c.self.inside.ways.items in
    let inside : Table = record { names = c.self.inside.names; candidates = map candidates_in ways } in
    let new : Table = record {
      names = c.self.inside.names;
      candidates = map candidates_in (slice_set ways c.number-place.result c.add_way.new.ways);
    } in
    let within = place_in inside c.args.self.now c.args.goal c.number-place.result ways c.self.view_is refl
    c.self.invariant.as_many c.requires.known c.number-place.ensures in
    let added = added_at ways c.number-place.result c.index_mut.result.now c.add_way.new.ways _ within
    c.index_mut.ensures.value c.in_ok-add_way.ensures.ways in
    let written : Candidate = record { is_marked = c.args.is_marked; questions = c.args.questions.items } in
    kept_added inside new c.args.goal written c.self.inside.askers c.add_way.new.askers c.self.invariant
    (adds_by inside new c.args.goal written c.number-place.result c.number-place.ensures refl added)
    added.as_many
    (subst (λ n. AreFewer n (length c.args.questions.items))
    (sym (length-map c.index_mut.result.now.items candidate_of)
    ∙ ap length (sym (was_at ways c.number-place.result c.index_mut.result.now within c.index_mut.ensures.value))
    ∙ ap (λ n. length (candidates_at (map candidates_in ways) n)) c.number-place.ensures)
    c.in_ok-add_way.ensures.few)
    c.in_ok-add_way.ensures.asks

pub returns-clause-ok : goal.returns-clause-ok
returns-clause-ok c =
    let ways = c.self.inside.ways.items in
    let inside : Table = record { names = c.self.inside.names; candidates = map candidates_in ways } in
    let new : Table = record {
      names = c.self.inside.names;
      candidates = map candidates_in (slice_set ways c.number-place.result c.add_way.new.ways);
    } in
    let within = place_in inside c.args.self.now c.args.goal c.number-place.result ways c.self.view_is refl
    c.self.invariant.as_many c.requires.known c.number-place.ensures in
    let added = added_at ways c.number-place.result c.index_mut.result.now c.add_way.new.ways _ within
    c.index_mut.ensures.value c.in_ok-add_way.ensures.ways in
    let written : Candidate = record { is_marked = c.args.is_marked; questions = c.args.questions.items } in
    subst (λ table. AddsCandidate c.args.goal written table new) c.self.view_is
    (adds_by inside new c.args.goal written c.number-place.result c.number-place.ensures refl added)
