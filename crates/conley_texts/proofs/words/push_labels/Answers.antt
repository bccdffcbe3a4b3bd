use Rattle.std.proofs.Common.{◌∙◌, ◌++◌, List, ℕ, [], ap, sym, map, take, get_or, append_assoc}
use Rattle.std.proofs.Transfers.{starts_with_of_append, starts_with_trans}
use Rattle.std.specs.Prelude.{◌||◌, slice_index_or}
use Rattle.conley_texts.specs.Words.{behind, joined, is_some}
use Rattle.conley_texts.proofs.JoinLemmas.{joined_more, some_more}
use Rattle.conley_texts.proofs.words.push_labels.Goals as goal

pub loop-x-preserved : goal.loop-x-preserved
loop-x-preserved c =
    let old = c.args.text.now.items in
    let i = c.loop-x.x-index in
    let f : ℕ → List ℕ = (λ x. slice_index_or c.args.complex.now.1.labels x []) in
    let before = map f (take i c.args.cells.now) in
    let here = get_or c.args.cells.now i 0 in
    record {
      text = (c.in_ok-push_word.ensures.text ∙ ap (λ t. c.loop-x.text.items ++ behind c.loop-x.some t) (c.as_bytes.ensures.value ∙ c.label.ensures.label))
          ∙ ap (λ t. t ++ behind c.loop-x.some (f here)) c.loop-x.invariant.text ∙ ap (λ b. (old ++ joined c.args.some before) ++ behind b (f here))
          c.loop-x.invariant.some
          ∙ append_assoc old (joined c.args.some before) (behind (c.args.some || is_some before) (f here))
          ∙ ap (λ t. old ++ t) (sym (joined_more f c.args.cells.now i 0 c.args.some c.loop-x-test.true));
      some = some_more f c.args.cells.now i c.args.some c.loop-x-test.true;
    }

pub returns-in_err-push_word-clause-kept : goal.returns-in_err-push_word-clause-kept
returns-in_err-push_word-clause-kept c =
    starts_with_trans _ _ _ c.in_err-push_word.ensures.kept (starts_with_of_append _ _ _ c.loop-x.invariant.text)
