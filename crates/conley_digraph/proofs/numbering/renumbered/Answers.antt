-- one node more
use Rattle.std.proofs.Common.{arith, ◌≡◌, ◌<◌, length, sym, ◌∙◌}
use Rattle.std.specs.Prelude.{None, Some, slice_index, slice_index_or}
use Rattle.std.proofs.Math.ListN.{length-set}
use Rattle.std.proofs.lemmas.List.{get_or_read}
use Rattle.conley_digraph.proofs.NumberingLemmas.{none_unless, renamed_same, renamed_more}
use Rattle.conley_digraph.proofs.numbering.renumbered.Goals as goal
use Rattle.conley_digraph.proofs.numbering.renumbered.Goals.{in-Some+in_ok-push, in_default+in_ok-push-2}

pub loop-number-preserved : goal.loop-number-preserved
loop-number-preserved c =
    let numbers = c.args.numbers.now in
    let state = c.loop-number.invariant in
    let number = slice_index numbers c.loop-number.number-index in
    let within : number < length c.loop-number.renamed.items = omega (
      arith,
      c.requires.below c.loop-number.number-index 0 c.loop-number-test.true,
      state.table,
    ) in
    let at : c.index.result.now ≡ slice_index_or c.loop-number.renamed.items number None =
    get_or_read c.loop-number.renamed.items number c.index.result.now within c.index.ensures None in
    elim c.match-index.branch [
      | in-Some+in_ok-push w ↦ rw (w.renamed-is, w.class_of-is, w.next-is, w.in_ok-push.ensures.items) (record {
        so_far = renamed_same numbers c.loop-number.class_of.items c.loop-number.renamed.items c.loop-number.next c.loop-number.number-index state.so_far
            w.in-Some.class (sym at ∙ w.in-Some.is);
        table = state.table;
      })
      | in_default+in_ok-push-2 w ↦ rw (w.renamed-is, w.class_of-is, w.next-is, w.in_ok-push-2.ensures.items) (record {
        so_far = renamed_more numbers c.loop-number.class_of.items c.loop-number.renamed.items c.loop-number.next c.loop-number.number-index state.so_far
            within (sym at ∙ none_unless c.index.result.now w.in_default.not-Some);
        table = length-set c.loop-number.renamed.items number (Some c.loop-number.next) ∙ state.table;
      })
    ]
