use Rattle.std.proofs.Common.{◌≡◌, ◌<◌, ℕ, List, String, map, length, ap, sym, ◌∙◌, subst}
use Rattle.std.specs.Prelude.{Any, IsTrue, ◌↔◌}
use Rattle.std.specs.declared.alloc.Global.{Global}
use Rattle.conley_lefschetz.specs.Listing.{bytes_of}
use Rattle.conley_json.specs.Meaning.{own}
use Rattle.conley_input.specs.File.{Complex, lefschetz, simplicial}
use Rattle.conley_input.specs.Listing.{labels_of}
use Rattle.conley_input.specs.Meaning.{cell_texts, complex_of}
use Rattle.conley_input.proofs.file.ComplexFile.is_longer.Goals as goal

pub returns-in-Lefschetz : goal.returns-in-Lefschetz
returns-in-Lefschetz c =
    let same : complex_of c.args.self.now ≡ lefschetz (cell_texts c.deref.result.now) (own c.in-Lefschetz.field-1) =
    ap complex_of c.in-Lefschetz.is ∙ ap (λ (cells : List (String Global × ℕ)). lefschetz (cell_texts cells) (own c.in-Lefschetz.field-1))
    (sym c.deref.ensures.value) in
    subst (λ (l : Complex). IsTrue c.any_cell_longer.result ↔ Any (λ label. c.args.most < length label) (labels_of l)) (sym same) c.any_cell_longer.ensures

pub returns-in-Simplicial : goal.returns-in-Simplicial
returns-in-Simplicial c =
    let same : complex_of c.args.self.now ≡ simplicial (bytes_of c.deref-in-Simplicial.result.now) (map own c.in-Simplicial.field-1.items) =
    ap complex_of c.in-Simplicial.is ∙ ap (λ (labels : List (String Global)). simplicial (bytes_of labels) (map own c.in-Simplicial.field-1.items))
    (sym c.deref-in-Simplicial.ensures.value) in
    subst (λ (l : Complex). IsTrue c.any_longer.result ↔ Any (λ label. c.args.most < length label) (labels_of l)) (sym same) c.any_longer.ensures
