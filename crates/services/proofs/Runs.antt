-- What a service can do in words of its own, and as a goal. So what has a proof graph can run, and what has a
-- refutation graph can't.
use Rattle.std.proofs.Common.{◌≡◌, ℕ, Bool, true, false, List, [], map, slice_get, Contains, Option, None, Some, refl}
use Rattle.std.proofs.Common.{sym, ap, ◌∙◌, subst, arith}
use Rattle.std.specs.Option.{IsSomeAnd, option_map_or}
use Rattle.search_context.proofs.Graphs.{Contains-map, Contains-mapped}
use Rattle.question_lists.specs.Meanings.{clash}
use Rattle.question_lists.proofs.Mixed.{derivable_from, never_both, refutable_from}
use Rattle.services.specs.Below.{All, Any, Coinductive, Derives, GraphNode, IsDerivable, IsNotCoinductive, IsProofGraph}
use Rattle.services.specs.Below.{IsRefutationGraph, NodeId, Proves, Question, Refutes, derive}
use Rattle.services.specs.Rule.{asks, kind_by, needs_of, questions_of}
use Rattle.services.specs.Running.{CanRun, Need, Service, Starts, start}

first_by : (comes_first : Bool) → IsNotCoinductive (kind_by comes_first) → comes_first ≡ true
first_by true other = refl
first_by false other = absurd (other refl)

beside_by : (comes_first : Bool) → kind_by comes_first ≡ Coinductive → comes_first ≡ false
beside_by true is = absurd cc
beside_by false is = refl

not_beside : (comes_first : Bool) → comes_first ≡ true → IsNotCoinductive (kind_by comes_first)
not_beside true is e = cc
not_beside false is e = cc

module _ (services : List Service) where
  abbrev pub proves : ℕ → List (Question ℕ) → Type 0
  proves number held = Proves (needs_of services number) (questions_of services number) held

  abbrev pub refutes : ℕ → List (Question ℕ) → Type 0
  refutes number failed = Refutes (needs_of services number) (questions_of services number) failed

  -- the rule, where this stands at the service's place
  abbrev proves_at : Option Service → List (Question ℕ) → Type 0
  proves_at o held = Proves (option_map_or (λ _. All) o Any) (map asks (option_map_or (λ s. s.needs.items) o [])) held

  module _ (running : List ℕ) where
    starts_in : (number : ℕ) (o : Option Service) → slice_get services number ≡ o →
        (held : List (Question ℕ)) → proves_at o held →
        ((q : Question ℕ) → Contains held q → q.kind ≡ Coinductive → Contains running q.goal) →
        ((q : Question ℕ) → Contains held q → IsNotCoinductive q.kind → Starts services running q.goal) →
        Starts services running number
    starts_in number None e held some beside first = absurd (omega (arith, some.1.1))
    starts_in number (Some service) e held all beside first =
        let among = λ (need : Need) (has : Contains service.needs.items need).
        all (asks need) (Contains-mapped asks service.needs.items need has) in
        start service e (λ need has is. first (asks need) (among need has) (not_beside need.comes_first is))
        (λ need has is. beside (asks need) (among need has) (ap kind_by is))

    starts_by : (number : ℕ) → Derives proves running number → Starts services running number
    starts_by number (derive held proved beside first) = starts_in number (slice_get services number) refl held proved
        beside (λ q has is. starts_by q.goal (first q has is))

    derived_by : (number : ℕ) → Starts services running number → Derives proves running number
    derived_by number (start service is first beside) =
        derive (map asks service.needs.items)
        (subst (λ o. proves_at o (map asks service.needs.items)) (sym is) (λ q has. has))
        (λ q has k.
        let m = Contains-map asks service.needs.items q has in
        subst (λ x. Contains running x.goal) m.2
        (beside m.0 m.1 (beside_by m.0.comes_first (ap (λ x. x.kind) m.2 ∙ k))))
        (λ q has other.
        let m = Contains-map asks service.needs.items q has in
        subst (λ x. Derives proves running x.goal) m.2 (derived_by m.0.service
        (first m.0 m.1 (first_by m.0.comes_first (subst (λ x. IsNotCoinductive x.kind) (sym m.2) other)))))

  -- a service can run exactly if its goal is derivable
  runs_by : (number : ℕ) → IsDerivable proves number → CanRun services number
  runs_by number d = record {
    running = d.given;
    all_start = λ other is. starts_by d.given other (d.are_derived other is);
    starts = starts_by d.given number d.is_derived;
  }

  derivable_by : (number : ℕ) → CanRun services number → IsDerivable proves number
  derivable_by number c = record {
    given = c.running;
    are_derived = λ other is. derived_by c.running other (c.all_start other is);
    is_derived = derived_by c.running number c.starts;
  }

  module _ (nodes : List (GraphNode ℕ)) (number : ℕ) where
    pub runs_at_node : (o : Option NodeId)
        → IsSomeAnd o (λ root. IsProofGraph proves nodes root.0 number) → CanRun services number
    runs_at_node None h = absurd h
    runs_at_node (Some root) h = runs_by number (derivable_from proves nodes root.0 number h)

    pub stuck_at_node : (o : Option NodeId)
        → IsSomeAnd o (λ root. IsRefutationGraph refutes nodes root.0 number) → CanRun services number → ⊥
    stuck_at_node None h c = absurd h
    stuck_at_node (Some root) h c =
        never_both proves refutes (λ other. clash (needs_of services other) (questions_of services other)) number
        (derivable_by number c) (refutable_from refutes nodes root.0 number h)
