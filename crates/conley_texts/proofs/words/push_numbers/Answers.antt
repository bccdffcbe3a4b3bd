use Rattle.std.proofs.Common.{◌∙◌, ◌++◌, List, ℕ, ap, sym, map, take, get_or, append_assoc}
use Rattle.std.proofs.Transfers.{starts_with_of_append, starts_with_trans}
use Rattle.std.specs.Prelude.{◌||◌, decimal}
use Rattle.conley_texts.specs.Words.{behind, joined, is_some}
use Rattle.conley_texts.proofs.JoinLemmas.{joined_more, some_more}
use Rattle.conley_texts.proofs.words.push_numbers.Goals as goal

pub loop-number-preserved : goal.loop-number-preserved
loop-number-preserved c =
    let old = c.args.text.now.items in
    let i = c.loop-number.number-index in
    let f : ℕ → List ℕ = decimal in
    let before = map f (take i c.args.numbers.now) in
    let here = get_or c.args.numbers.now i 0 in
    record {
      text = c.in_ok-push_number.ensures.text ∙ ap (λ t. t ++ behind c.loop-number.some (f here)) c.loop-number.invariant.text
          ∙ ap (λ b. (old ++ joined c.args.some before) ++ behind b (f here)) c.loop-number.invariant.some
          ∙ append_assoc old (joined c.args.some before) (behind (c.args.some || is_some before) (f here))
          ∙ ap (λ t. old ++ t) (sym (joined_more f c.args.numbers.now i 0 c.args.some c.loop-number-test.true));
      some = some_more f c.args.numbers.now i c.args.some c.loop-number-test.true;
    }

pub returns-in_err-push_number-clause-kept : goal.returns-in_err-push_number-clause-kept
returns-in_err-push_number-clause-kept c =
    starts_with_trans _ _ _ c.in_err-push_number.ensures.kept (starts_with_of_append _ _ _ c.loop-number.invariant.text)
