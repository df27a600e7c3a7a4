use Rattle.std.proofs.Common.{◌≡◌, ◌∙◌, ◌+◌, ◌-◌, ◌/◌, ◌%◌, false, ap, length, refl, rules, subst, sym}
use Rattle.std.proofs.lemmas.Option.{slice_get_past, slice_get_read}
use Rattle.std.specs.Str.{bytes_eq}
use Rattle.line_texts.specs.Names.{text_of}
use Rattle.line_texts.proofs.LinkLemmas.{IsAhead, ahead_first, ahead_on, not_past, only_place, text_at}
use Rattle.line_texts.proofs.names.links.find.Goals as goal

pub loop-slot-init : goal.loop-slot-init
loop-slot-init c = (
  c.link_at-link.ensures,
  rw (c.head_of-slot.ensures.value, c.letters-rest.ensures)
      (ahead_first c.args.heads c.args.links.now c.args.names.now (text_of c.args.name.now) c.requires.found),
)

pub returns-in_err-known : goal.returns-in_err-known
returns-in_err-known c = λ n. (
  λ some. absurd (let none = c.from_residual.ensures in cc),
  λ at. absurd (not_past c.args.heads c.args.links.now c.args.names.now (text_of c.args.name.now) c.loop-slot.slot
      c.loop-slot.rest (c.saturating_sub-number.result / 2) c.loop-slot.invariant.1
      (ap (λ m. m / 2) c.saturating_sub-number.ensures ∙ ap (λ l. (l - c.args.heads) / 2) c.loop-slot.invariant.0)
      (slice_get_past c.args.names.now (c.saturating_sub-number.result / 2) c.in_err-known.ensures.lookup.3) n at),
)

pub returns-then-eq : goal.returns-then-eq
returns-then-eq c = λ n. only_place c.args.names.now (text_of c.args.name.now) (c.saturating_sub-number.result / 2) n
    c.requires.found.distinct (text_at c.args.names.now (c.saturating_sub-number.result / 2) c.in_ok-known.known.now
    (text_of c.args.name.now) (slice_get_read c.args.names.now (length c.args.names.now)
    (c.saturating_sub-number.result / 2) c.in_ok-known.known.now refl c.in_ok-known.ensures.lookup.3.0
    c.in_ok-known.ensures.lookup.1) (search rules))

pub loop-slot-preserved : goal.loop-slot-preserved
loop-slot-preserved c =
    let links = c.args.links.now in
    let text = text_of c.args.name.now in
    let other : bytes_eq (text_of c.in_ok-known.known.now) text ≡ false = search rules in
    let on = ahead_on c.args.heads links c.args.names.now text c.loop-slot.slot c.loop-slot.rest
    (c.saturating_sub-number.result / 2) c.in_ok-known.known.now c.loop-slot.invariant.1
    (ap (λ m. m / 2) c.saturating_sub-number.ensures ∙ ap (λ l. (l - c.args.heads) / 2) c.loop-slot.invariant.0)
    (slice_get_read c.args.names.now (length c.args.names.now) (c.saturating_sub-number.result / 2)
    c.in_ok-known.known.now refl c.in_ok-known.ensures.lookup.3.0 c.in_ok-known.ensures.lookup.1) other in (
      c.link_at-link-in-loop-slot.ensures,
      subst (λ l. IsAhead c.args.heads links c.args.names.now text (l + c.loop-slot.rest % 2) (c.loop-slot.rest / 2))
          (sym c.loop-slot.invariant.0) on,
    )
