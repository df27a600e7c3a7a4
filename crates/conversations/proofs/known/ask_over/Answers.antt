use Rattle.std.proofs.Common.{◌≡◌, ◌∙◌, ap, refl, Some, subst, sym}
use Rattle.conversations.specs.Answer.{Lending, lent_by}
use Rattle.conversations.specs.Below.{Cache, Goal, IsOpenTableOf, name_of, Outcome, Table}
use Rattle.conversations.proofs.Staying.{known_after}
use Rattle.conversations.proofs.Taking.{rightly}
use Rattle.conversations.proofs.known.ask_over.Goals as goal

pub returns-clause-known : goal.returns-clause-known
returns-clause-known c =
    let lent : lent_by c.over-cache.result.cx ≡ c.args.table.now =
    ap (λ (k : Cache Lending Goal Outcome (Unit {0})). lent_by k.cx) c.over-cache.ensures in
    known_after _ _ (λ is_gone before after h. h) (λ is_gone before after h. h) c.args.table.now c.over-cache.result.cx
    c.ask-came.new.cache.cx c.args.found c.into_findings.result c.args.shown.now c.ask-came.new.shown c.requires.known
    lent (ap lent_by (c.ask-came.ensures.answered (λ builder. (refl, refl))).same_context ∙ lent)
    c.into_findings.ensures.sound c.ask-came.ensures.remembered

pub returns-clause-answered : goal.returns-clause-answered
returns-clause-answered c = λ changes name is_table is_name.
    let lent : lent_by c.over-cache.result.cx ≡ c.args.table.now =
    ap (λ (k : Cache Lending Goal Outcome (Unit {0})). lent_by k.cx) c.over-cache.ensures in
    record {
      cx = c.over-cache.result.cx;
      is_table = subst (IsOpenTableOf changes) (sym lent) is_table;
      goal = c.args.goal;
      is_goal = subst (λ (t : Table). name_of t c.args.goal ≡ Some name) (sym lent) is_name;
      right = rightly _ c.over-cache.result.cx c.args.goal c.ask-came.result c.ask-came.ensures.right
          (c.ask-came.ensures.shown (c.requires.known.are_shown c.over-cache.result.cx lent));
      before = c.over-cache.result;
      after = c.ask-came.new.cache;
      is_context = refl;
      is_sound = rw c.over-cache.ensures
          (record { runs = c.requires.known.sound.runs; results = c.requires.known.sound.results });
      answered = c.ask-came.ensures.answered (λ builder. (refl, refl));
    }
