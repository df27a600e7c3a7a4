use Rattle.std.proofs.Common.{◌≡◌, ◌≤◌, ap, arith, false, refl}
use Rattle.reach.specs.Program.{blocks_of}
use Rattle.reach.proofs.Exact.{is_plain, not_written_by, written_by}
use Rattle.reach.proofs.analysis.Analysis.may_be_written.Goals as goal

pub returns-in-Yes-clause-exact : goal.returns-in-Yes-clause-exact
returns-in-Yes-clause-exact g c =
    let program = g.P.Lends.lent_by c.args.self.now.cache.cx.0.0.lender in
    let deep : c.args.block ≤ c.renew.new.self.root_depth =
    let e = ap (λ g. g.root_depth) c.renew.ensures in omega (arith, e) in
    let value = c.in-Ok.ensures.plain c.args.block
    (is_plain (blocks_of program) program.go_down
    (record { block = c.args.block; variable = c.args.variable })) deep in (
      λ _. written_by (blocks_of program) (record { block = c.args.block; variable = c.args.variable })
          c.in-Ok.answer.result value c.in-Yes.is,
      λ _. refl,
    )

pub returns-in_default : goal.returns-in_default
returns-in_default g c =
    let program = g.P.Lends.lent_by c.args.self.now.cache.cx.0.0.lender in
    let deep : c.args.block ≤ c.renew.new.self.root_depth =
    let e = ap (λ g. g.root_depth) c.renew.ensures in omega (arith, e) in
    let value = c.in-Ok.ensures.plain c.args.block
    (is_plain (blocks_of program) program.go_down (record { block = c.args.block; variable = c.args.variable })) deep in
    record {
      exact = (
        λ e. absurd cc,
        λ w. absurd (not_written_by (blocks_of program) (record { block = c.args.block; variable = c.args.variable })
            c.in-Ok.answer.result value c.in_default.not-Yes w),
      );
      same_program = ap (λ cx. blocks_of (g.P.Lends.lent_by cx.0.0.lender)) c.in-Ok.ensures.same_context;
    }
