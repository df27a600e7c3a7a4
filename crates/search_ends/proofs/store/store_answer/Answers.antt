use Rattle.search_rules.proofs.rebasing.Lists.{headless}
use Rattle.std.proofs.Common.{◌∙◌, OnOk, refl, sym, ap, subst}
use Rattle.search_ends.specs.Below.{highest, IfCompared, entry_of, IsPlainAt, IsPlainValue, IsStored, Memory}
use Rattle.search_context.proofs.Ranks.{one_plain_value}
use Rattle.search_ends.proofs.results.Storing.{equal_results, puts_nothing, stores_compared, stores_entry}
use Rattle.search_ends.proofs.results.Storing.{stores_none, stores_result}
use Rattle.search_ends.specs.Words.{PutsAnswer, Stores}
use Rattle.provisional_cache.specs.Provisional.{AppendsEntry}
use Rattle.search_ends.proofs.store.store_answer.Goals.{then-ENABLE_PROVISIONAL_CACHE+in_ok-insert_entry}
use Rattle.search_ends.proofs.store.store_answer.Goals.{else-ENABLE_PROVISIONAL_CACHE+in-None-1}
use Rattle.search_ends.proofs.store.store_answer.Goals.{else-ENABLE_PROVISIONAL_CACHE+in-Some-1}
use Rattle.search_ends.proofs.store.store_answer.Goals as goal

pub store_for_good-requires-clause-no_heads : goal.store_for_good-requires-clause-no_heads
store_for_good-requires-clause-no_heads g c =
    headless c.args.answer c.opt_highest_cycle_head_index.result c.opt_highest_cycle_head_index.ensures c.in_default.is

pub returns-in-Stored-clause-puts : goal.returns-in-Stored-clause-puts
returns-in-Stored-clause-puts g c =
    subst (λ f. PutsAnswer g.D.Cx.Input.PartialEq.eq c.args.input c.args.answer f c.args.cache.now
    c.store_for_good.new.cache) (sym c.in-Stored.is) c.store_for_good.ensures.puts

pub returns-in-NotStored-clause-puts : goal.returns-in-NotStored-clause-puts
returns-in-NotStored-clause-puts g c =
    puts_nothing g.D.Cx.Input.PartialEq.eq c.args.input c.args.answer c.args.fate c.args.cache.now

pub returns-in-Compared-clause-puts : goal.returns-in-Compared-clause-puts
returns-in-Compared-clause-puts g c =
    puts_nothing g.D.Cx.Input.PartialEq.eq c.args.input c.args.answer c.args.fate c.args.cache.now

pub returns-in-Compared-clause-stores : goal.returns-in-Compared-clause-stores
returns-in-Compared-clause-stores g c =
    stores_compared g.D.Delegate g.D.Cx.Cx g.D.Cx.Input.PartialEq.eq c.args.step c.args.input c.args.answer c.args.fate
    c.args.evaluation.now c.args.cache.now c.compare.result _ refl c.in-Compared.stored c.in-Compared.is
    (ap highest (headless c.args.answer c.opt_highest_cycle_head_index.result c.opt_highest_cycle_head_index.ensures
    c.in_default.is)) c.compare.ensures.same

pub compare-requires-clause-no_heads : goal.compare-requires-clause-no_heads
compare-requires-clause-no_heads g c =
    headless c.args.answer c.opt_highest_cycle_head_index.result c.opt_highest_cycle_head_index.ensures c.in_default.is

-- the result is the one that is stored, if that is the plain one as it is
pub returns-in-Compared-clause-plain : goal.returns-in-Compared-clause-plain
returns-in-Compared-clause-plain g c = λ n plain success stored.
    equal_results c.compare.result Memory c.args.answer.result c.in-Compared.stored
    (one_plain_value (g.D.Delegate.script c.args.cache.now.cx) n c.args.input c.args.answer.result c.in-Compared.stored
    (subst (λ place. IsPlainAt (g.D.Delegate.script c.args.cache.now.cx) c.args.input place c.args.answer.result)
    success c.requires.may.storable.plain n plain)
    (subst (λ fate. IfCompared fate (IsPlainValue (g.D.Delegate.script c.args.cache.now.cx) n c.args.input))
    c.in-Compared.is stored))
    c.compare.ensures.differs

pub returns-clause-stores : goal.returns-clause-stores
returns-clause-stores g c =
    elim c.if-ENABLE_PROVISIONAL_CACHE.branch [
      | then-ENABLE_PROVISIONAL_CACHE+in_ok-insert_entry w ↦
          subst (λ after. Stores g.D.Delegate g.D.Cx.Cx g.D.Cx.Input.PartialEq.eq c.args.step c.args.input c.args.answer
          c.args.fate c.args.evaluation.now after c.args.cache.now) (sym w.evaluation-is)
          (stores_entry g.D.Delegate g.D.Cx.Cx g.D.Cx.Input.PartialEq.eq g.met.D.Cx.Cx.same_input c.args.step
          c.args.input c.args.answer c.args.fate c.args.evaluation.now _ c.args.cache.now c.in-Some.head
          (sym c.in-Some.is ∙ c.opt_highest_cycle_head_index.ensures)
          (sym c.ENABLE_PROVISIONAL_CACHE.ensures ∙ w.if-ENABLE_PROVISIONAL_CACHE.true)
          (subst (λ stack. AppendsEntry g.D.Cx.Input.PartialEq.eq c.args.evaluation.now.provisional
          w.insert_entry.new.provisional c.args.input (entry_of stack c.in-Some.head.0 c.args.step c.args.answer))
          w.stack-stack.ensures w.in_ok-insert_entry.ensures.kept))
      | else-ENABLE_PROVISIONAL_CACHE+in-None-1 w ↦ stores_none g.D.Delegate g.D.Cx.Cx g.D.Cx.Input.PartialEq.eq
          g.met.D.Cx.Cx.same_input c.args.step c.args.input c.args.answer c.args.fate c.args.evaluation.now _
          c.args.cache.now c.in-Some.head (sym c.in-Some.is ∙ c.opt_highest_cycle_head_index.ensures)
          (sym c.ENABLE_PROVISIONAL_CACHE.ensures ∙ w.if-ENABLE_PROVISIONAL_CACHE.false) w.evaluation-is
      | else-ENABLE_PROVISIONAL_CACHE+in-Some-1 w ↦ stores_none g.D.Delegate g.D.Cx.Cx g.D.Cx.Input.PartialEq.eq
          g.met.D.Cx.Cx.same_input c.args.step c.args.input c.args.answer c.args.fate c.args.evaluation.now _
          c.args.cache.now c.in-Some.head (sym c.in-Some.is ∙ c.opt_highest_cycle_head_index.ensures)
          (sym c.ENABLE_PROVISIONAL_CACHE.ensures ∙ w.if-ENABLE_PROVISIONAL_CACHE.false) w.evaluation-is
    ]

pub returns-in-Stored-clause-stores : goal.returns-in-Stored-clause-stores
returns-in-Stored-clause-stores g c =
    stores_result g.D.Delegate g.D.Cx.Cx g.D.Cx.Input.PartialEq.eq c.args.step c.args.input c.args.answer c.args.fate
    c.args.evaluation.now c.store_for_good.new.cache c.store_for_good.result _ refl c.in-Stored.is
    (ap highest (headless c.args.answer c.opt_highest_cycle_head_index.result
    c.opt_highest_cycle_head_index.ensures c.in_default.is))
    (subst (λ cx. OnOk c.store_for_good.result (IsStored g.D.Cx.Input.PartialEq.eq (g.D.Cx.Cx.token cx)
    c.store_for_good.new.cache.results c.args.input c.args.answer))
    (sym (ap (λ cache. cache.cx) c.store_for_good.ensures.puts.cache.rest)) c.store_for_good.ensures.is_stored)
