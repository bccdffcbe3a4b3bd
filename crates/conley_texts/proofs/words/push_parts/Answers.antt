use Rattle.std.proofs.Common.{◌∙◌, ◌++◌, ap, sym, subst, take, false, append_assoc}
use Rattle.std.proofs.Transfers.{starts_with_of_append, starts_with_trans}
use Rattle.std.specs.Prelude.{◌||◌}
use Rattle.std.specs.List.{flat_map}
use Rattle.conley_texts.specs.Words.{words_of, IsWritten, joined, is_some}
use Rattle.conley_texts.proofs.JoinLemmas.{line_more, some_parts, written_at}
use Rattle.conley_texts.proofs.words.push_parts.Goals as goal

pub push_words-requires : goal.push_words-requires
push_words-requires c = let item = c.part-item.result in subst IsWritten (sym c.part-item.is)
    (written_at c.args.parts.now c.loop-part.part-index item c.loop-part-test.true c.requires)

pub loop-part-preserved : goal.loop-part-preserved
loop-part-preserved c =
    let old = c.args.text.now.items in
    let i = c.loop-part.part-index in
    let item = c.part-item.result in
    let before = flat_map words_of (take i c.args.parts.now) in
    record {
      text = c.in_ok-some.ensures.text ∙ ap (λ t. t ++ joined c.loop-part.some (words_of item)) c.loop-part.invariant.text
          ∙ ap (λ b. (old ++ joined false before) ++ joined b (words_of item)) c.loop-part.invariant.some
          ∙ append_assoc old (joined false before) (joined (is_some before) (words_of item))
          ∙ ap (λ p. old ++ (joined false before ++ joined (is_some before) (words_of p))) c.part-item.is
          ∙ ap (λ t. old ++ t) (sym (line_more words_of c.args.parts.now i item c.loop-part-test.true));
      some = c.in_ok-some.ensures.some ∙ ap (λ b. b || is_some (words_of item)) c.loop-part.invariant.some
          ∙ ap (λ p. is_some before || is_some (words_of p)) c.part-item.is
          ∙ sym (some_parts words_of c.args.parts.now i item c.loop-part-test.true);
    }

pub returns-in_err-some-clause-kept : goal.returns-in_err-some-clause-kept
returns-in_err-some-clause-kept c =
    starts_with_trans _ _ _ c.in_err-some.ensures.kept (starts_with_of_append _ _ _ c.loop-part.invariant.text)
