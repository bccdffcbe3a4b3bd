use Rattle.std.proofs.Common.{◌≡◌, Some, map, take}
use Rattle.serde_json.specs.View.{items_of, items_view}
use Rattle.conley_json.specs.Form.{all_of}
use Rattle.conley_json.proofs.written.VecWritten.write.Given as goal

-- the items so far are those written for the first parts, and read back as them
abbrev pub invariant-loop-part : goal.invariant-loop-part
invariant-loop-part g l = record {
  value : items_view l.items.items ≡ items_of (map g.T.Written.data_of (take l.part-index l.part-items));
  reads : all_of g.T.Form.form (items_view l.items.items) ≡ Some (map g.T.Form.meaning (take l.part-index l.part-items));
}
