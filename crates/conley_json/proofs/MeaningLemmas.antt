-- Lists that were read, item by item.
use Rattle.std.proofs.Common.{◌≡◌, ◌<◌, ◌∙◌, ℕ, List, [], Vec, String, map, length, get_or, sym, ap}
use Rattle.std.specs.declared.alloc.Global.{Global}
use Rattle.std.proofs.lemmas.List.{get_or-map}
use Rattle.conley_json.specs.Meaning.{texts}

pub texts_at : (lists : List (Vec (String Global) Global)) (k : ℕ) (list : Vec (String Global) Global) → k < length lists → list ≡ get_or lists k list
    → get_or (map texts lists) k [] ≡ texts list
texts_at lists k list lt is = get_or-map texts lists k list [] lt ∙ ap texts (sym is)
