use Rattle.std.proofs.Common.{◌≡◌, ◌++◌, [], ◌∷◌, string_bytes, length, sym, ◌∙◌, ap, subst, arith}
use Rattle.std.proofs.lemmas.List.{map-append, append_assoc}
use Rattle.conley_lefschetz.specs.Listing.{bytes_of}
use Rattle.conley_lefschetz.specs.Making.{FindsDuplicate}
use Rattle.conley_lefschetz.specs.declared.error.ComplexError.{ComplexError}
use Rattle.conley_lefschetz.specs.declared.error.ComplexError.TheVariants.{DuplicateLabel}
use Rattle.conley_lefschetz.proofs.TextLemmas.{length-bytes_of}
use Rattle.conley_lefschetz.proofs.LabelLemmas.{distinct_push, duplicate_first}
use Rattle.conley_lefschetz.proofs.labels.number_labels.Goals as goal

pub returns-in-Some-2-clause-err : goal.returns-in-Some-2-clause-err
returns-in-Some-2-clause-err c = λ error e.
    let n = rw (c.in-Some-2.is, c.loop-label.invariant.numbered) at c.in_ok-i.ensures in
    let whole : c.loop-label.yielded ++ c.in-Some.label ∷ c.next.new.self.rest.items ≡ c.args.labels.items =
    ap (λ r. c.loop-label.yielded ++ r) (sym c.in-Some.ensures.steps.0) ∙ c.loop-label.invariant.rest in
    let texts : bytes_of c.args.labels.items ≡ bytes_of c.loop-label.yielded ++ string_bytes c.in-Some.label ∷ bytes_of c.next.new.self.rest.items =
    sym (ap bytes_of whole) ∙ map-append string_bytes c.loop-label.yielded (c.in-Some.label ∷ c.next.new.self.rest.items) in
    let found = duplicate_first (bytes_of c.loop-label.yielded) (string_bytes c.in-Some.label) c.loop-label.invariant.distinct (bytes_of c.args.labels.items)
    (bytes_of c.next.new.self.rest.items) texts c.in-Some-2.i n in
    let j : length (bytes_of c.loop-label.yielded) ≡ c.len-j.result = omega (
      arith,
      c.len-j.ensures.len,
      ap length c.loop-label.invariant.numbered,
      length-bytes_of c.loop-label.numbers.keys,
    ) in
    let same : DuplicateLabel c.in-Some-2.i c.len-j.result ≡ error = cc in
    subst (λ (fault : ComplexError). FindsDuplicate (bytes_of c.args.labels.items) fault) same (rw j at found)

pub loop-label-preserved : goal.loop-label-preserved
loop-label-preserved c =
    let n = rw c.in_default.is at c.in_ok-i.ensures in
    let grown = map-append string_bytes c.loop-label.yielded (c.in-Some.label ∷ []) in
    record {
      rest = append_assoc c.loop-label.yielded (c.in-Some.label ∷ []) c.next.new.self.rest.items
          ∙ ap (λ r. c.loop-label.yielded ++ r) (sym c.in-Some.ensures.steps.0) ∙ c.loop-label.invariant.rest;
      numbered = n.0 ∙ ap (λ ks. ks ++ string_bytes c.in-Some.label ∷ []) c.loop-label.invariant.numbered ∙ sym grown;
      distinct = rw grown (distinct_push (bytes_of c.loop-label.yielded) (string_bytes c.in-Some.label) c.loop-label.invariant.distinct
          (rw (← c.loop-label.invariant.numbered) n.1));
    }
