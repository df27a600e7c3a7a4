use Rattle.std.proofs.Common.{arith, ◌∙◌, ap, drop, length, length-drop, slice_get}
use Rattle.graph_nodes.specs.Words.{kept}
use Rattle.graph_nodes.proofs.KeptNodes.{cut_is, whole_end}
use Rattle.graph_nodes.proofs.marking.keep_from.Goals as goal

pub returns : goal.returns
returns g c =
    let part = whole_end c.deref_mut.result.now c.args.place ∙ ap (drop c.args.place) c.deref_mut.ensures.value in
    let within = c.keep_marked-count.ensures.within in
    let auto = c.keep_marked-count.auto.items in
    c.truncate.ensures.items
    ∙ cut_is c.args.items.now.items c.deref_mut.result.now c.args.place c.keep_marked-count.result c.args.items.now.len
    c.keep_marked-count.new.items _ _ (kept c.args.marked.now (drop c.args.place c.args.items.now.items))
    c.deref_mut.ensures.value c.requires.within (omega arith)
    (c.keep_marked-count.ensures.count ∙ ap (λ l. length (kept c.args.marked.now l)) part)
    (omega (arith, within, auto))
    (omega (arith, within, ap length part, length-drop c.args.place c.args.items.now.items, c.requires.within))
    (λ i lt. c.keep_marked-count.ensures.kept i lt ∙ ap (λ l. slice_get (kept c.args.marked.now l) i) part)
