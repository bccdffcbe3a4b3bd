use Rattle.std.proofs.Common.{◌≡◌, ◌+◌, ◌++◌, ◌∷◌, [], ℤ, List, Vec, Global, sym, ◌∙◌, ap, arith, append_assoc}
use Rattle.std.specs.Prelude.{map}
use Rattle.std.specs.List.{range_with_len}
use Rattle.std.proofs.lemmas.List.{map-append}
use Rattle.std.proofs.lemmas.List.FromFn.{map-range_with_len_more}
use Rattle.conley_lists.specs.Lists.{items_of}
use Rattle.conley_trial.specs.Squares.{unit_pair, unit_square}
use Rattle.conley_trial.proofs.squares.put_column.Goals as goal

pub loop-j-preserved : goal.loop-j-preserved
loop-j-preserved c =
    let before = items_of c.args.squares.now.items in
    let row = map (unit_square c.args.i) (range_with_len 0 c.loop-j.j) in
    let last : 0 + c.loop-j.j ≡ c.loop-j.j = omega arith in
    ap items_of c.in_ok-push.ensures.items ∙ map-append (λ (r : Vec (ℤ × ℤ) Global). r.items) c.loop-j.squares.items (c.in_ok-vec.field-0 ∷ [])
    ∙ ap (λ (l : List (List (ℤ × ℤ))). l ++ c.in_ok-vec.field-0.items ∷ []) c.loop-j.invariant
    ∙ ap (λ (s : List (ℤ × ℤ)). (before ++ row) ++ s ∷ []) (c.in_ok-vec.ensures.items ∙ ap (λ p. p ∷ c.unit_pair-in-loop-j.result ∷ []) c.unit_pair.ensures
    ∙ ap (λ p. unit_pair c.args.i ∷ p ∷ []) c.unit_pair-in-loop-j.ensures)
    ∙ append_assoc before row (unit_square c.args.i c.loop-j.j ∷ [])
    ∙ ap (λ (l : List (List (ℤ × ℤ))). before ++ l) (sym (map-range_with_len_more (unit_square c.args.i) 0 c.loop-j.j c.loop-j.j last))
