use Rattle.std.proofs.Common.{◌≡◌, ◌≤◌, ◌<◌, ◌+◌, ◌∷◌, ◌∙◌, ap, arith, length, map, refl, rules, subst, sym}
use Rattle.std.proofs.lemmas.List.{length-append, length-map}
use Rattle.std.proofs.lemmas.Option.{slice_get_within}
use Rattle.std.proofs.lemmas.Simd.{map-map}
use Rattle.std.proofs.lemmas.Slice.Zip.{AllZip-long}
use Rattle.rule_tables.specs.Candidate.{candidate_with}
use Rattle.rule_tables.specs.Draft.{names_of}
use Rattle.rule_tables.specs.Words.{AreAsked, EndsWithin, IsAsked, IsKnown, Mentions, named, number_of, Row}
use Rattle.rule_tables.proofs.Adding.{adds_rule, asked_last, candidates_here, candidates_off, pushed_by}
use Rattle.rule_tables.proofs.TableLemmas.{mentions_more, name_kept}
use Rattle.rule_tables.proofs.draft.Draft.add_rule.Goals as goal

pub invariant_of-self : goal.invariant_of-self
invariant_of-self c =
    let mid = c.ask.new.self in
    let asked = c.in_ok-ask.ensures in
    let goal = c.in_ok-goal.goal in
    let is = name_kept c.goal_named.new.self mid _ goal c.args.name.now asked.mentions c.in_ok-goal.ensures.goal in
    let known : number_of goal < length mid.names = slice_get_within mid.names (number_of goal) c.args.name.now is in
    let more = AllZip-long (IsAsked (names_of mid)) asked.more (map named c.args.questions.now) asked.asked in
    let count = length-map c.args.questions.now named in
    let all = ap length asked.askings in
    let parts = length-append c.goal_named.new.self.askings.items asked.more in
    let first : c.len-first.result ≡ length c.goal_named.new.self.askings.items = search rules in
    let within : c.len-first.result + length c.args.questions.now ≤ length mid.askings.items = omega arith in
    let before : c.len-else-len.result ≡ length mid.rules.items = search rules in
    let known_all = pushed_by (IsKnown (length mid.names)) _ mid.rules.items c.push.new.self.items _
    c.push.ensures.items mid.known known in
    let within_all = pushed_by (EndsWithin (length mid.askings.items)) _ mid.rules.items c.push.new.self.items _
    c.push.ensures.items mid.within within in
    record {
      countable = mid.countable;
      few = omega (arith, known_all.1, before, c.if-len-2.false);
      known = known_all.0;
      within = within_all.0;
    }

pub overflow_cast-row-2 : goal.overflow_cast-row-2
overflow_cast-row-2 c =
    let asked = c.in_ok-ask.ensures in
    let more =
    AllZip-long (IsAsked (names_of c.ask.new.self)) asked.more (map named c.args.questions.now) asked.asked in
    let count = length-map c.args.questions.now named in
    let all = ap length asked.askings in
    let parts = length-append c.goal_named.new.self.askings.items asked.more in
    let tested : c.len.result ≡ length c.ask.new.self.askings.items = search rules in
    omega (arith, more, count, all, parts, tested, c.if-len.false)

pub returns : goal.returns
returns c =
    let old = c.args.self.now in
    let mid = c.ask.new.self in
    let goal = c.in_ok-goal.goal in
    let asked = c.in_ok-ask.ensures in
    let questions = c.args.questions.now in
    let is = name_kept c.goal_named.new.self mid _ goal c.args.name.now asked.mentions c.in_ok-goal.ensures.goal in
    let mentions = mentions_more old c.goal_named.new.self mid _ _ c.in_ok-goal.ensures.mentions asked.mentions in
    let more = AllZip-long (IsAsked (names_of mid)) asked.more (map named questions) asked.asked in
    let count : length questions ≡ length asked.more = sym (length-map questions named) ∙ more in
    let first : c.len-first.result ≡ length c.goal_named.new.self.askings.items = search rules in
    let last = asked_last mid.askings.items c.goal_named.new.self.askings.items asked.more c.len-first.result
    (length questions) asked.askings first count in
    let row : Row = record { first = c.len-first.result; count = length questions; is_marked = c.args.is_marked } in
    adds_rule old mid _ c.args.is_marked c.args.name.now (map named questions) goal
    (candidate_with mid.askings.items row)
    (subst (λ names. Mentions old mid (c.args.name.now ∷ names)) (sym (map-map (λ q. q.name) named questions)) mentions)
    is (record {
      is_marked = refl;
      questions = subst (λ qs. AreAsked (names_of mid) qs (map named questions)) (sym last) asked.asked;
    }) refl refl
    (λ g same. candidates_here (λ r. candidate_with mid.askings.items r.row) mid.rules.items c.push.new.self.items
    (record { goal = goal; row = row }) (number_of g) c.in_ok-push.ensures.items (sym same))
    (λ g apart. candidates_off (λ r. candidate_with mid.askings.items r.row) mid.rules.items c.push.new.self.items
    (record { goal = goal; row = row }) (number_of g) c.in_ok-push.ensures.items (λ e. apart (sym e)))
