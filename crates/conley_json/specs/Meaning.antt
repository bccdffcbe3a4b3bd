-- What lists that were read mean, without their places in memory.
--     texts v     the bytes of texts
--     own v       numbers, and tuples of them, which are their own meaning
use Rattle.std.specs.Prelude.{ℕ, List, map, Vec, String, string_bytes}
use Rattle.std.specs.declared.alloc.Global.{Global}

abbrev pub texts : Vec (String Global) Global → List (List ℕ)
texts v = map string_bytes v.items

abbrev pub own : {A : Type 0} → Vec A Global → List A
own v = map (λ x. x) v.items
