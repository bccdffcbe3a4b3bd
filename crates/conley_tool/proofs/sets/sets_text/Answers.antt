-- one more line
use Rattle.std.proofs.Common.{arith, ◌≡◌, ◌<◌, ◌++◌, ◌∷◌, [], ℕ, List, length, get_or, map, sym, ◌∙◌, ap, subst, refl, string_bytes}
use Rattle.std.proofs.lemmas.List.{append-nil, get_or-map, length-map}
use Rattle.conley_field.specs.Arithmetic.{Arithmetic}
use Rattle.conley_field.specs.AnyField.{arithmetic_of}
use Rattle.conley_field.specs.Prime.{residues}
use Rattle.conley_faces.specs.Face.{IsCellList}
use Rattle.conley_input.specs.Problem.{NamedSet}
use Rattle.conley_input.specs.declared.sets.NamedSet.{NamedSet as MadeSet}
use Rattle.conley_input.specs.ProblemMeaning.{meaning_of, meaning_of_set}
use Rattle.conley_input.proofs.CellLemmas.{arithmetic_of-residues}
use Rattle.conley_isolation.specs.Report.{IsReport, findings_of}
use Rattle.conley_texts.specs.Line.{line, text_of}
use Rattle.conley_texts.proofs.LineLemmas.{text_of-append}
use Rattle.conley_tool.specs.Sets.{set_words, IsSetLine}
use Rattle.conley_tool.proofs.SetLineLemmas.{lines_more}
use Rattle.conley_tool.proofs.sets.sets_text.Goals as goal

pub report-requires-clause-set : goal.report-requires-clause-set
report-requires-clause-set c =
    let sets : List MadeSet = c.args.problem.now.sets.items in
    let named = c.named-item.result in
    let i : ℕ = c.loop-named.named-index in
    let lt : i < length sets = omega (arith, c.loop-named-test.true, c.deref-named-items.ensures.len) in
    let item : named ≡ get_or sets i named = c.named-item.is ∙ ap (λ (l : List MadeSet). get_or l i named) c.deref-named-items.ensures.value in
    let here : get_or (map meaning_of_set sets) i (meaning_of_set named) ≡ meaning_of_set named =
    get_or-map meaning_of_set sets i named (meaning_of_set named) lt ∙ ap meaning_of_set (sym item) in
    let list = c.requires.sets i (meaning_of_set named) (omega (arith, lt, length-map sets meaning_of_set)) in
    subst (λ (l : List ℕ). IsCellList c.args.problem.now.complex.1.faces l) (sym c.deref.ensures.value)
    (subst (λ (s : NamedSet). IsCellList c.args.problem.now.complex.1.faces s.cells) here list)

pub loop-named-preserved : goal.loop-named-preserved
loop-named-preserved c =
    let problem = meaning_of c.args.problem.now in
    let sets : List MadeSet = c.args.problem.now.sets.items in
    let named = c.named-item.result in
    let i : ℕ = c.loop-named.named-index in
    let lt : i < length sets = omega (arith, c.loop-named-test.true, c.deref-named-items.ensures.len) in
    let item : named ≡ get_or sets i named = c.named-item.is ∙ ap (λ (l : List MadeSet). get_or l i named) c.deref-named-items.ensures.value in
    let here : get_or (map meaning_of_set sets) i (meaning_of_set named) ≡ meaning_of_set named =
    get_or-map meaning_of_set sets i named (meaning_of_set named) lt ∙ ap meaning_of_set (sym item) in
    let told = findings_of c.in_ok-told.told in
    let words : List (List ℕ) = set_words c.args.problem.now.complex.1.labels (string_bytes named.name) told in
    let report : IsReport (residues problem.order) problem.complex problem.part_of named.cells.items told =
    subst (λ (F : Arithmetic). IsReport F problem.complex problem.part_of named.cells.items told) (arithmetic_of-residues c.args.problem.now.complex.0)
    (subst (λ (l : List ℕ). IsReport (arithmetic_of c.args.problem.now.complex.0) problem.complex problem.part_of l told) c.deref.ensures.value
    c.in_ok-told.ensures) in
    let told_here : IsSetLine problem (get_or (map meaning_of_set sets) i (meaning_of_set named)) words =
    subst (λ (s : NamedSet). IsSetLine problem s words) (sym here) (told, report, refl) in
    let lines = c.loop-named.invariant.0 in
    let more : text_of (lines ++ words ∷ []) ≡ text_of lines ++ line words = text_of-append lines (words ∷ [])
    ∙ ap (λ (t : List ℕ). text_of lines ++ t) (append-nil (line words)) in (
      lines ++ words ∷ [],
      lines_more problem (map meaning_of_set sets) i (meaning_of_set named) lines words (omega (arith, lt, length-map sets meaning_of_set))
          c.loop-named.invariant.1 told_here,
      c.in_ok-push_set.ensures ∙ ap (λ (t : List ℕ). t ++ line words) c.loop-named.invariant.2 ∙ sym more,
    )
