use Rattle.std.proofs.Common.{◌<◌, ap, arith, length, refl, set, sym}
use Rattle.std.proofs.lemmas.Option.{get_or_from_slice_get, slice_get_read}
use Rattle.rule_arrays.proofs.Chains.{adds_one}
use Rattle.rule_arrays.proofs.changes.askers.Askers.add.Goals as goal

pub returns-in_ok-push : goal.returns-in_ok-push
returns-in_ok-push c =
    let last = c.args.self.now.last.items in
    let earlier = c.index-earlier.result.now in
    let within : c.args.asked < length last = omega arith in
    adds_one c.args.self.now _ c.args.asked c.args.goal c.requires.chains within
    (record { asker = c.args.goal; earlier = earlier }) refl
    (sym (get_or_from_slice_get last c.args.asked earlier 0
    (slice_get_read last (length last) c.args.asked earlier refl within c.index-earlier.ensures)))
    c.in_ok-push.ensures.items
    (ap (set last c.args.asked) (omega (arith, c.len-count.ensures)))
