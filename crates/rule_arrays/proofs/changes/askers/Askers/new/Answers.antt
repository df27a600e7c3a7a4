use Rattle.std.proofs.Common.{◌≡◌, ◌<◌, ◌∙◌, ℕ, ap, arith, get_or, inl, inr, length, replicate, subst}
use Rattle.std.proofs.lemmas.Bool.{cases_lt}
use Rattle.std.proofs.lemmas.List.{get_or-replicate, get_or_past, length-replicate}
use Rattle.rule_arrays.specs.Askers.{AreAskers}
use Rattle.rule_arrays.specs.Changes.{Asks}
use Rattle.rule_arrays.specs.Compared.{table_in}
use Rattle.rule_arrays.proofs.Asking.{all_added}
use Rattle.rule_arrays.proofs.changes.askers.Askers.new.Goals as goal

none_last : (count goal : ℕ) → get_or {A = ℕ} (replicate {A = ℕ} count 0) goal 0 ≡ 0
none_last count goal = elim (cases_lt goal count) [
  | inl less ↦ get_or-replicate count goal 0 0 less
  | inr past ↦ get_or_past (replicate count 0) goal 0 (omega (arith, past, length-replicate {A = ℕ} count 0))
]

pub returns : goal.returns
returns c =
    let items = c.in_ok-vec.ensures.items_if_clones_equal (λ y e. e) in
    let end : c.loop-place.place ≡ c.args.count =
    omega (arith, c.loop-place-test.false, c.loop-place.auto.place-end) in
    subst (λ n. AreAskers (λ asked goal. (goal < n) × Asks (table_in c.args.rows) goal asked) c.args.asked
    c.loop-place.askers) end
    (all_added (λ asked goal. (goal < c.loop-place.place) × Asks (table_in c.args.rows) goal asked)
    (record { last = c.in_ok-vec.field-0; links = c.in_ok-with_capacity.field-0 }) c.loop-place.askers c.args.asked
    (λ goal. ap (λ l. get_or l goal 0) items ∙ none_last c.args.asked goal)
    (ap (length {A = ℕ}) items ∙ length-replicate {A = ℕ} c.args.asked 0)
    c.loop-place.invariant)
