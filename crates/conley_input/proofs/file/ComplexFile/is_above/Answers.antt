use Rattle.std.proofs.Common.{◌≡◌, ◌<◌, ℕ, List, String, ap, sym, ◌∙◌, subst}
use Rattle.std.specs.Prelude.{Any, IsTrue, ◌↔◌}
use Rattle.std.specs.declared.alloc.Global.{Global}
use Rattle.conley_json.specs.Meaning.{own, texts}
use Rattle.conley_lists.specs.Lists.{items_of}
use Rattle.conley_input.specs.File.{Complex, lefschetz, simplicial}
use Rattle.conley_input.specs.Listing.{dims_of}
use Rattle.conley_input.specs.Meaning.{cell_texts, complex_of}
use Rattle.conley_input.proofs.CellLemmas.{own-lists}
use Rattle.conley_input.proofs.file.ComplexFile.is_above.Goals as goal

pub returns-in-Lefschetz : goal.returns-in-Lefschetz
returns-in-Lefschetz c =
    let same : complex_of c.args.self.now ≡ lefschetz (cell_texts c.deref.result.now) (own c.in-Lefschetz.field-1) =
    ap complex_of c.in-Lefschetz.is ∙ ap (λ (cells : List (String Global × ℕ)). lefschetz (cell_texts cells) (own c.in-Lefschetz.field-1))
    (sym c.deref.ensures.value) in
    subst (λ (l : Complex). IsTrue c.any_above.result ↔ Any (λ dim. c.args.most < dim) (dims_of l)) (sym same) c.any_above.ensures

pub returns-in-Simplicial : goal.returns-in-Simplicial
returns-in-Simplicial c =
    let same : complex_of c.args.self.now ≡ simplicial (texts c.in-Simplicial.field-0) (items_of c.deref-in-Simplicial.result.now) =
    ap complex_of c.in-Simplicial.is ∙ ap (simplicial (texts c.in-Simplicial.field-0)) (own-lists c.in-Simplicial.simplices.items
    ∙ ap items_of (sym c.deref-in-Simplicial.ensures.value)) in
    subst (λ (l : Complex). IsTrue c.any_larger.result ↔ Any (λ dim. c.args.most < dim) (dims_of l)) (sym same) c.any_larger.ensures
