use Rattle.std.proofs.Common.{arith, ◌≡◌, ◌<◌, ◌/◌, [], length, get_or, ap, sym, ◌∙◌, refl}
use Rattle.std.proofs.lemmas.Nat.Bits.{shr_and_one}
use Rattle.std.proofs.lemmas.List.{get_or_default}
use Rattle.conley_lists.specs.Lists.{items_of}
use Rattle.conley_order.specs.ClassRows.{ClassRows, is_at_or_below}
use Rattle.conley_lists.proofs.ListLemmas.{row_of, length-items_of}
use Rattle.conley_order.proofs.reach_rows.ReachRowsGrading.below.Goals as goal
use Rattle.conley_order.proofs.reach_rows.ReachRowsGrading.below.Goals.{After-index-row}

-- the word that is read stands in the row
in_row : (c : After-index-row) → (get_or (items_of c.self.inside.rows.items) c.class_of.result [] ≡ c.index-row.result.now.items)
    × (c.class_of-class.result / 64 < length c.index-row.result.now.items)
in_row c =
    let rows = c.self.inside.rows.items in
    let count : length (items_of rows) ≡ length c.args.self.now.rows = ap (λ (r : ClassRows). length r.rows) c.self.view_is in
    let lt : c.class_of.result < length rows = omega (arith, c.class_of.ensures.bound, count, length-items_of rows) in
    let row = row_of rows c.class_of.result c.index-row.result.now lt c.index-row.ensures in
    let wide = c.self.invariant.width c.class_of.result [] (omega (arith, c.class_of.ensures.bound, count)) in
    let wide' = rw row at wide in
    (row, omega (arith, wide', c.class_of-class.ensures.bound, count))

pub index-requires : goal.index-requires
index-requires c = omega (arith, (in_row (goal.at.index-requires c).After-index-row).1, c.index-row.result.now.ok.0)

pub returns : goal.returns
returns c =
    let r = in_row (goal.at.returns c).After-index-row in
    let word = get_or_default c.index-row.result.now.items (c.class_of-class.result / 64) 0 c.index.result.now r.1 ∙ sym c.index.ensures in
    let fields = ap (λ (q : ClassRows). is_at_or_below q c.args.a c.args.b) (sym c.self.view_is) in
    let of_a : get_or c.self.inside.class_of.items c.args.a 0 ≡ c.class_of-class.result = ap (λ (q : ClassRows). get_or q.class_of c.args.a 0) c.self.view_is
    ∙ sym c.class_of-class.ensures.class in
    let of_b : get_or c.self.inside.class_of.items c.args.b 0 ≡ c.class_of.result = ap (λ (q : ClassRows). get_or q.class_of c.args.b 0) c.self.view_is
    ∙ sym c.class_of.ensures.class in
    rw (fields, of_a, of_b, r.0, word, shr_and_one) refl
