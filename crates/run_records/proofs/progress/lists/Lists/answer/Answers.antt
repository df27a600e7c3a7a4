use Rattle.std.proofs.Common.{◌∙◌, Some, ap, sym}
use Rattle.std.specs.Prelude.{slice_get}
use Rattle.std.proofs.lemmas.Option.{slice_get-get_or}
use Rattle.run_records.proofs.progress.lists.Lists.answer.Goals as goal

pub returns : goal.returns
returns g c =
    ap Some (c.unpacked.ensures ∙ c.in_ok-packed.ensures.lookup.1)
    ∙ sym (slice_get-get_or c.deref.result.now c.args.place c.in_ok-packed.packed.now c.in_ok-packed.ensures.lookup.3.0)
    ∙ ap (λ answers. slice_get answers c.args.place) c.deref.ensures.value
    ∙ ap (λ done. slice_get done.answers c.args.place) c.self.view_is
