-- The JSON value that is written for a part: the counterpart of the forms.
--     whole n            a whole number
--     list_as f xs       a list, each item by f
--     pair_as f g p      a list of two
--     triple_as f g h t  a list of three
use Rattle.std.specs.Prelude.{ℕ, List, map}
use Rattle.serde_json.specs.Data.{Data, array, number, unsigned, item, no_items}
use Rattle.serde_json.specs.View.{items_of}

abbrev pub whole : ℕ → Data
whole n = number (unsigned n)

abbrev pub list_as : {A : Type 0} → (A → Data) → List A → Data
list_as f xs = array (items_of (map f xs))

abbrev pub pair_as : {A B : Type 0} → (A → Data) → (B → Data) → A × B → Data
pair_as f g p = array (item (f p.0) (item (g p.1) no_items))

abbrev pub triple_as : {A B C : Type 0} → (A → Data) → (B → Data) → (C → Data) → A × B × C → Data
triple_as f g h t = array (item (f t.0) (item (g t.1) (item (h t.2) no_items)))
