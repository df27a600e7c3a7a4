use Rattle.graph_data.proofs.Written.{page_written}
use Rattle.graph_pages.proofs.page.finish_data.Goals as goal

pub returns-clause-written : goal.returns-clause-written
returns-clause-written g c = λ rules claims begun.
    let text = rw c.as_slice.ensures.value at c.in_ok-write_all.ensures.bytes in
    page_written rules c.args.writer c.write_end.new.writer c.into_inner-text.result.items claims _ _ _ begun
    c.in_ok-write_end.ensures c.into_inner-text.ensures.items
    c.into_inner-text.ensures.reads_back c.into_inner-text.ensures.utf8
    text c.in_ok-write_all-2.ensures.bytes
