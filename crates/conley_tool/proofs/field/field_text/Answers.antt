-- one more line
use Rattle.std.proofs.Common.{arith, ◌≡◌, ◌↔◌, ◌<◌, ◌++◌, ◌∷◌, [], ℕ, List, length, sym, ◌∙◌, ap, subst, if◌then◌else◌, codes}
use Rattle.std.specs.Prelude.{IsTrue}
use Rattle.std.proofs.lemmas.List.{append-nil}
use Rattle.conley_lists.proofs.ListLemmas.{All-from_contained}
use Rattle.conley_field.specs.Arithmetic.{Arithmetic}
use Rattle.conley_field.specs.Prime.{residues}
use Rattle.conley_lefschetz.specs.Conley.{IsRegular}
use Rattle.conley_input.specs.ProblemMeaning.{meaning_of}
use Rattle.conley_input.proofs.CellLemmas.{arithmetic_of-residues}
use Rattle.conley_texts.specs.Line.{line, text_of}
use Rattle.conley_texts.specs.Words.{labels_of}
use Rattle.conley_texts.proofs.LineLemmas.{text_of-append}
use Rattle.conley_tool.proofs.PartLineLemmas.{part_line, lines_more}
use Rattle.conley_tool.proofs.field.field_text.Goals as goal

pub cells_of-cells-requires : goal.cells_of-cells-requires
cells_of-cells-requires c = (c.count-p-end.ensures.count c.loop-p.p).0 c.loop-p-test.true

pub is_regular-requires-clause-cells : goal.is_regular-requires-clause-cells
is_regular-requires-clause-cells c = record {
  ascending = c.cells_of-cells.ensures.ascending;
  cells = All-from_contained (λ x. x < length c.args.problem.now.complex.1.faces) c.cells_of-cells.result.now
      (λ x h. omega (arith, ((c.cells_of-cells.ensures.cells x).0 h).0, c.requires.field.count));
}

pub is_regular-requires-clause-closed : goal.is_regular-requires-clause-closed
is_regular-requires-clause-closed c = c.requires.field.closed c.loop-p.p c.cells_of-cells.result.now (record { same = c.cells_of-cells.ensures.cells })

pub push_part-requires : goal.push_part-requires
push_part-requires c =
    All-from_contained (λ x. x < length c.args.problem.now.complex.1.dims) c.cells_of-cells.result.now (λ x h.
    omega (arith, ((c.cells_of-cells.ensures.cells x).0 h).0, c.requires.field.count, c.requires.laws.complex.faces_count, c.requires.laws.complex.dims_count))

pub loop-p-preserved : goal.loop-p-preserved
loop-p-preserved c =
    let problem = meaning_of c.args.problem.now in
    let cells : List ℕ = c.cells_of-cells.result.now in
    let lines = c.loop-p.invariant.0 in
    let words : List (List ℕ) = (if c.in_ok-regular.regular then codes "regular" else codes "critical") ∷ labels_of c.args.problem.now.complex.1.labels cells in
    let regular : IsTrue c.in_ok-regular.regular ↔ IsRegular (residues problem.order) problem.complex cells =
    subst (λ (F : Arithmetic). IsTrue c.in_ok-regular.regular ↔ IsRegular F c.args.problem.now.complex.1 cells)
    (arithmetic_of-residues c.args.problem.now.complex.0) c.in_ok-regular.ensures in
    let told = part_line problem c.loop-p.p cells c.in_ok-regular.regular c.cells_of-cells.ensures.ascending (record { same = c.cells_of-cells.ensures.cells })
    regular in
    let more : text_of (lines ++ words ∷ []) ≡ text_of lines ++ line words = text_of-append lines (words ∷ [])
    ∙ ap (λ (t : List ℕ). text_of lines ++ t) (append-nil (line words)) in (
      lines ++ words ∷ [],
      lines_more problem c.loop-p.p lines words c.loop-p.invariant.1 told,
      c.in_ok-push_part.ensures ∙ ap (λ (t : List ℕ). t ++ line words) c.loop-p.invariant.2 ∙ sym more,
    )

pub returns : goal.returns
returns c =
    let before = c.loop-p.invariant.1 in
    let all : c.loop-p.p ≡ c.count-p-end.result = omega (arith, c.loop-p-test.false, c.loop-p.auto.p-end) in (
      c.loop-p.invariant.0,
      record {
        count = λ q. (
          (λ lt. (c.count-p-end.ensures.count q).0 (omega (arith, lt, all, before.0))),
          (λ is. let lt = (c.count-p-end.ensures.count q).1 is in omega (arith, lt, all, before.0)),
        );
        each = λ q lt. before.1 q (omega (arith, lt, before.0));
      },
      c.loop-p.invariant.2,
    )
