use Rattle.search_graph.proofs.law.keeps_laws.Goals as goal

pub returns : goal.returns
returns g c = record {
  by_value = g.met.D.Cx.Cx.same_input;
  own = g.met.D.Cx.Input.Eq.laws.refl;
  own_result = g.met.D.Cx.Result.Eq.laws.refl;
  divides = g.met.D.Delegate.divides;
  one_sort = g.met.D.Cx.Cx.one_sort;
  clash = g.met.D.Cx.Cx.clash;
  yes_is_proved = g.met.D.Delegate.yes_is_proved;
  no_is_refuted = g.met.D.Delegate.no_is_refuted;
  initial_sort = g.met.D.Delegate.initial_sort;
  stack_overflow = g.met.D.Delegate.stack_overflow_is_neither;
  ambiguous = g.met.D.Delegate.ambiguous_is_neither;
}
