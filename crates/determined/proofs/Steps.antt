-- Steps between places with numbers. Where inductive steps lower the number and coinductive ones are free, each closed
-- walk is coinductive; where no step raises it and coinductive ones lower it, each closed walk is inductive.
use Rattle.std.proofs.Common.{◌≡◌, ℕ, ◌<◌, ◌≤◌, ◌⊎◌, inl, inr, refl, ap₂, arith}
use Rattle.determined.specs.Below.{Coinductive, Inductive, PathKind, greater_kind}
use Rattle.determined.proofs.Built.{AreSteps}

module _ (number : ℕ → ℕ) where
  abbrev pub WonSteps : ℕ → PathKind → ℕ → Type 0
  WonSteps a k b = (k ≡ Coinductive) ⊎ ((k ≡ Inductive) × (number b < number a))

  abbrev pub WonGoes : ℕ → PathKind → ℕ → Type 0
  WonGoes a k b = (k ≡ Coinductive) ⊎ ((k ≡ Inductive) × (number b ≤ number a))

  won_joins : (a b c : ℕ) (k l : PathKind) → WonSteps a k b → WonGoes b l c → WonSteps a (greater_kind k l) c
  won_joins a b c k l (inl e) (inl f) = inl (ap₂ greater_kind e f)
  won_joins a b c k l (inl e) (inr f) = inl (ap₂ greater_kind e f.0)
  won_joins a b c k l (inr e) (inl f) = inl (ap₂ greater_kind e.0 f)
  won_joins a b c k l (inr e) (inr f) = inr (ap₂ greater_kind e.0 f.0, omega (arith, e.1, f.1))

  pub won_steps : AreSteps Coinductive WonSteps WonGoes
  won_steps = record {
    stays = λ a. inr (refl, omega arith);
    goes = λ a b k s. elim s [ inl e ↦ inl e | inr e ↦ inr (e.0, omega (arith, e.1)) ];
    joins = won_joins;
    closes = λ a k s. elim s [ inl e ↦ e | inr e ↦ absurd (omega (arith, e.1)) ];
  }

  abbrev pub LostSteps : ℕ → PathKind → ℕ → Type 0
  LostSteps a k b = ((k ≡ Inductive) × (number b ≤ number a)) ⊎ ((k ≡ Coinductive) × (number b < number a))

  lost_joins : (a b c : ℕ) (k l : PathKind) → LostSteps a k b → LostSteps b l c → LostSteps a (greater_kind k l) c
  lost_joins a b c k l (inl e) (inl f) = inl (ap₂ greater_kind e.0 f.0, omega (arith, e.1, f.1))
  lost_joins a b c k l (inl e) (inr f) = inr (ap₂ greater_kind e.0 f.0, omega (arith, e.1, f.1))
  lost_joins a b c k l (inr e) (inl f) = inr (ap₂ greater_kind e.0 f.0, omega (arith, e.1, f.1))
  lost_joins a b c k l (inr e) (inr f) = inr (ap₂ greater_kind e.0 f.0, omega (arith, e.1, f.1))

  pub lost_steps : AreSteps Inductive LostSteps LostSteps
  lost_steps = record {
    stays = λ a. inl (refl, omega arith);
    goes = λ a b k s. s;
    joins = lost_joins;
    closes = λ a k s. elim s [ inl e ↦ e.0 | inr e ↦ absurd (omega (arith, e.1)) ];
  }
