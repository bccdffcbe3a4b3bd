-- one more line
use Rattle.std.proofs.Common.{arith, [], ◌≡◌, ◌<◌, ◌++◌, ℕ, List, map, length, get_or, sym, ◌∙◌, ap, subst}
use Rattle.std.specs.Prelude.{All}
use Rattle.std.proofs.lemmas.List.{take_all, append-nil}
use Rattle.conley_lists.specs.Lists.{items_of}
use Rattle.conley_lists.proofs.ListLemmas.{row_of, length-items_of, All-from_contained}
use Rattle.conley_transitions.specs.Classes.{AreRecurrenceClasses}
use Rattle.conley_texts.specs.Line.{line, text_of}
use Rattle.conley_texts.specs.Words.{labels_of}
use Rattle.conley_texts.proofs.LineLemmas.{text_more}
use Rattle.conley_tool.proofs.classes.classes_text.Goals as goal

pub push_line-requires : goal.push_line-requires
push_line-requires c =
    let classes = c.in_ok-classes.classes.items in
    let lt : c.loop-k.k < length classes = omega (arith, c.loop-k-test.true, c.len-k-end.ensures) in
    let is = c.deref.ensures.value ∙ sym (row_of classes c.loop-k.k c.index.result.now lt c.index.ensures) in
    let faces = c.faces-faces.ensures.faces in (
      subst (λ (l : List ℕ). All (λ x. x < length c.args.problem.now.complex.1.dims) l) (sym is)
          (All-from_contained (λ x. x < length c.args.problem.now.complex.1.dims) (get_or (items_of classes) c.loop-k.k []) (λ x h.
          omega (
            arith,
            c.in_ok-classes.ensures.cells c.loop-k.k x h,
            c.requires.field.count,
            c.requires.laws.complex.faces_count,
            c.requires.laws.complex.dims_count,
          ))),
      tt,
    )

pub loop-k-preserved : goal.loop-k-preserved
loop-k-preserved c =
    let labels : List (List ℕ) = c.args.problem.now.complex.1.labels in
    let classes = c.in_ok-classes.classes.items in
    let lists : List (List ℕ) = items_of classes in
    let k : ℕ = c.loop-k.k in
    let lt : k < length classes = omega (arith, c.loop-k-test.true, c.len-k-end.ensures) in
    let is = c.deref.ensures.value ∙ sym (row_of classes k c.index.result.now lt c.index.ensures) in
    let cells : List ℕ = get_or lists k [] in
    let put : c.push_line.new.text.items ≡ c.loop-k.text.items ++ line (labels_of labels c.deref.result.now) =
    c.in_ok-push_line.ensures.line ∙ ap (λ (ws : List (List ℕ)). c.loop-k.text.items ++ line ws) (append-nil (labels_of labels c.deref.result.now)) in
    put ∙ ap (λ (l : List ℕ). c.loop-k.text.items ++ line (labels_of labels l)) is ∙ ap (λ (t : List ℕ). t ++ line (labels_of labels cells)) c.loop-k.invariant
    ∙ sym (text_more (labels_of labels) lists k [] (omega (arith, lt, length-items_of classes)))

pub returns : goal.returns
returns c =
    let classes = c.in_ok-classes.classes.items in
    let lines = λ (l : List (List ℕ)). text_of (map (labels_of c.args.problem.now.complex.1.labels) l) in
    let whole = take_all c.loop-k.k (items_of classes) (omega (arith, c.loop-k-test.false, c.len-k-end.ensures, length-items_of classes)) in
    let same = subst (λ (f : List (List ℕ)). AreRecurrenceClasses f c.args.problem.now.partition (items_of classes)) c.faces-faces.ensures.faces
    c.in_ok-classes.ensures in
    (items_of classes, same, c.loop-k.invariant ∙ ap lines whole)
