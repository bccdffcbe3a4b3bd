use Rattle.conley_json.proofs.WrittenLemmas.{value_more, reads_more}
use Rattle.conley_json.proofs.written.VecWritten.write.Goals as goal

pub loop-part-preserved : goal.loop-part-preserved
loop-part-preserved g c =
    let parts = c.deref-part-items.result.now in
    record {
      value = rw c.in_ok-push.ensures.items (value_more g.T.Written.data_of g.T.Form.form g.T.Form.meaning parts c.loop-part.part-index c.part-item.result
          c.loop-part-test.true c.part-item.is c.loop-part.items.items c.in_ok-write.field-0 c.in_ok-write.ensures.value c.loop-part.invariant.value);
      reads = rw c.in_ok-push.ensures.items (reads_more g.T.Written.data_of g.T.Form.form g.T.Form.meaning parts c.loop-part.part-index c.part-item.result
          c.loop-part-test.true c.part-item.is c.loop-part.items.items c.in_ok-write.field-0 c.in_ok-write.ensures.reads c.loop-part.invariant.reads);
    }
