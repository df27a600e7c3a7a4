-- What the reading keeps as it goes on.
use Rattle.std.proofs.Common.{◌≡◌, ◌≤◌, ℕ, List, [], ◌∷◌, ◌++◌, length, set, subst, sym, arith}
use Rattle.std.proofs.lemmas.List.{length-set, length_push}
use Rattle.trait_rules.specs.Numbered.{Keeps}
use Rattle.trait_rules.specs.declared.made.Made.{Made}
use Rattle.trait_rules.specs.declared.rules.Rules.{Rules}
use Rattle.trait_rules.specs.declared.rules.Trait.{Trait as KnownTrait}
use Rattle.trait_texts.specs.declared.declarations.Question.{Question}
use Rattle.trait_texts.specs.WellFormed.{AreAsked, Each, IsAbout, IsTold, IsWellFormed}
use Rattle.trait_texts.proofs.Each.{each_weaker, keeps_within}

-- more types
pub told_types : (rules : Rules) (made more : List Made) (questions : List Question) → IsTold rules made questions
    → Keeps made more → IsTold rules more questions
told_types rules made more questions h k = record {
  sound = h.sound;
  asked = each_weaker _ _ questions (λ n q p. (keeps_within made more k q.subject p.0, p.1)) h.asked;
}

-- other constructors
pub told_constructors : (rules rules' : Rules) (made : List Made) (questions : List Question)
    → IsTold rules made questions → rules'.traits.items ≡ rules.traits.items → Each IsAbout rules'.constructors.items
    → IsTold rules' made questions
told_constructors rules rules' made questions h same each = record {
  sound = record {
    constructors = each;
    traits = subst (λ ts. Each (λ _ (t : KnownTrait). Each (λ _ rule. IsWellFormed rule) t.blanket.items) ts)
        (sym same) h.sound.traits;
  };
  asked = subst (λ ts. AreAsked (length ts) (length made) questions) (sym same) h.asked;
}

-- other traits, of which there may be more
pub told_traits : (rules rules' : Rules) (made : List Made) (questions : List Question)
    → IsTold rules made questions → rules'.constructors.items ≡ rules.constructors.items
    → Each (λ _ (t : KnownTrait). Each (λ _ rule. IsWellFormed rule) t.blanket.items) rules'.traits.items
    → length rules.traits.items ≤ length rules'.traits.items → IsTold rules' made questions
told_traits rules rules' made questions h same each more = record {
  sound = record { constructors = subst (λ cs. Each IsAbout cs) (sym same) h.sound.constructors; traits = each };
  asked = each_weaker _ _ questions (λ n q p. (p.0, omega (arith, p.1, more))) h.asked;
}

pub length_set_le : {A : Type 0} (xs : List A) (i : ℕ) (y : A) → length xs ≤ length (set xs i y)
length_set_le xs i y = omega (arith, length-set xs i y)

pub length_push_le : {A : Type 0} (xs ys : List A) (y : A) → ys ≡ xs ++ y ∷ [] → length xs ≤ length ys
length_push_le {A} xs ys y is = subst (λ (l : List A). length xs ≤ length l) (sym is) (omega (arith, length_push xs y))
