-- The names in a table that was read.
use Rattle.std.proofs.Common.{◌≡◌, ℕ, ap, Bool, cond, false, List, [], ◌∷◌, ◌++◌, map, subst, suc, sym, true, zero}
use Rattle.std.specs.Prelude.{fold, slice_get}
use Rattle.std.specs.List.{AllByRecursion, AllZip, flat_map, list_any}
use Rattle.std.specs.Option.{unwrap_or}
use Rattle.std.specs.Str.{bytes_eq}
use Rattle.line_texts.specs.Lines.{lines_of}
use Rattle.line_texts.specs.Names.{with_name}
use Rattle.rule_tables.specs.Grammar.{Ask, IsQuestion, NamedQuestion, Nothing, Rule, Says, Statement}
use Rattle.rule_tables.specs.Rules.{names_of, number_of}
use Rattle.rule_tables.specs.Table.{names_in}
use Rattle.rule_tables.specs.Text.{Reads}
use Rattle.rule_tables.specs.declared.rules.Goal.{Goal}
use Rattle.rule_tables.specs.declared.rules.Rules.{Rules}
use Rattle.rule_tables.proofs.TableLemmas.{AreDistinct, mentions_distinct}
use Rattle.graph_data.proofs.Lists.{AllByRecursion-append}
use Rattle.graph_data.proofs.Plain.{ArePlain, plain_is_utf8, plain_name}
use Rattle.graph_texts.specs.Words.{goal_text}
use Rattle.graph_data.specs.Data.{HaveOwnNames, HaveTexts}

-- ---- they are ASCII

names_asked : (words : List (List ℕ)) (questions : List NamedQuestion) → AllZip IsQuestion words questions
    → AllByRecursion ArePlain (map (λ q. q.name) questions)
names_asked [] [] h = tt
names_asked [] (q ∷ questions) h = absurd h
names_asked (word ∷ words) [] h = absurd h
names_asked (word ∷ words) (q ∷ questions) h = (plain_name q.name h.0.is_name, names_asked words questions h.1)

names_said : (lines : List (List ℕ)) (statements : List Statement) → AllZip Says lines statements
    → AllByRecursion ArePlain (flat_map names_in statements)
names_said [] [] h = tt
names_said [] (s ∷ statements) h = absurd h
names_said (line ∷ lines) [] h = absurd h
names_said (line ∷ lines) (Nothing ∷ statements) h = names_said lines statements h.1
names_said (line ∷ lines) (Rule is_marked name questions ∷ statements) h = (
  plain_name name h.0.is_name,
  AllByRecursion-append ArePlain (map (λ q. q.name) questions) (flat_map names_in statements)
      (names_asked h.0.asked questions h.0.are_questions) (names_said lines statements h.1),
)
names_said (line ∷ lines) (Ask depth name ∷ statements) h =
    (plain_name name h.0.is_name, names_said lines statements h.1)

with_plain : (names : List (List ℕ)) (name : List ℕ) (known : Bool) → ArePlain name → AllByRecursion ArePlain names
    → AllByRecursion ArePlain (cond known names (names ++ name ∷ []))
with_plain names name true one all = all
with_plain names name false one all = AllByRecursion-append ArePlain names (name ∷ []) all (one, tt)

mentioned_plain : (more names : List (List ℕ)) → AllByRecursion ArePlain more → AllByRecursion ArePlain names
    → AllByRecursion ArePlain (fold with_name names more)
mentioned_plain [] names some all = all
mentioned_plain (name ∷ more) names some all = mentioned_plain more (with_name names name) some.1
    (with_plain names name (list_any (bytes_eq name) names) some.0 all)

plain_at : (names : List (List ℕ)) (n : ℕ) → AllByRecursion ArePlain names → ArePlain (unwrap_or (slice_get names n) [])
plain_at [] n all = tt
plain_at (name ∷ names) zero all = all.0
plain_at (name ∷ names) (suc n) all = plain_at names n all.1

pub have_texts : (text : List ℕ) (rules : Rules) → Reads text rules → HaveTexts (names_of rules)
have_texts text rules reads =
    let all = subst (AllByRecursion ArePlain) (sym reads.table.names) (mentioned_plain
    (flat_map names_in reads.statements) [] (names_said (lines_of text) reads.statements reads.lines) tt) in
    λ goal. plain_is_utf8 (goal_text (names_of rules) goal) (plain_at (names_of rules) (number_of goal) all)

-- ---- no two are the same

pub have_own_names : (text : List ℕ) (rules : Rules) → Reads text rules → HaveOwnNames (names_of rules)
have_own_names text rules reads =
    let distinct : AreDistinct (names_of rules) =
    subst AreDistinct (sym reads.table.names) (mentions_distinct (flat_map names_in reads.statements)) in
    λ a b name e f. same_goal a b (distinct (number_of a) (number_of b) name e f) where
      same_goal : (a b : Goal) → number_of a ≡ number_of b → a ≡ b
      same_goal a b same = ap (λ n. record { 0 = n }) same
