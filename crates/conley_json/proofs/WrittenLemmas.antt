-- One item more at the end of a list that is written.
use Rattle.std.proofs.Common.{◌≡◌, ◌<◌, ℕ, ◌+◌, List, [], ◌∷◌, ◌++◌, take, length, get_or, map, Option, Some, None, refl, ap, sym, ◌∙◌}
use Rattle.std.specs.Prelude.{option_map, option_and_then}
use Rattle.std.proofs.lemmas.List.{take_more, map-append}
use Rattle.serde_json.specs.Data.{Data, Items, no_items, item}
use Rattle.serde_json.specs.View.{view, items_of, items_view}
use Rattle.serde_json.specs.declared.value.Value.{Value}
use Rattle.conley_json.specs.Form.{all_of}

abbrev after_items : Items → Data → Items
after_items no_items d = item d no_items
after_items (item e es) d = item e (after_items es d)

items_of-push : (ds : List Data) (d : Data) → items_of (ds ++ d ∷ []) ≡ after_items (items_of ds) d
items_of-push [] d = refl
items_of-push (e ∷ ds) d = ap (item e) (items_of-push ds d)

module _ {A : Type 0} (form : Data → Option A) where
  then_all : (e : Data) (es : Items) (xs : List A) → option_and_then (λ x. option_map (λ xs. x ∷ xs) (all_of form es)) (form e) ≡ Some xs →
      (y : A) × (ys : List A) × (form e ≡ Some y) × (all_of form es ≡ Some ys) × (y ∷ ys ≡ xs)
  then_all e es xs h = by (form e) (all_of form es) refl refl h
    where
      by : (a : Option A) (b : Option (List A)) → form e ≡ a → all_of form es ≡ b → option_and_then (λ x. option_map (λ xs. x ∷ xs) b) a ≡ Some xs →
          (y : A) × (ys : List A) × (form e ≡ Some y) × (all_of form es ≡ Some ys) × (y ∷ ys ≡ xs)
      by None b p q k = cc
      by (Some y) None p q k = cc
      by (Some y) (Some ys) p q k = let same : y ∷ ys ≡ xs = cc in (y, ys, p, q, same)

  pub all_of-after : (es : Items) (d : Data) (xs : List A) (x : A) → all_of form es ≡ Some xs → form d ≡ Some x
      → all_of form (after_items es d) ≡ Some (xs ++ x ∷ [])
  all_of-after no_items d xs x so_far here = let e : [] ≡ xs = cc in rw here (ap (λ (ys : List A). Some (ys ++ x ∷ [])) e)
  all_of-after (item e es) d xs x so_far here =
      let p = then_all e es xs so_far in
      rw (p.2, all_of-after es d p.1 x p.3 here) (ap (λ (ys : List A). Some (ys ++ x ∷ [])) p.4)

module _ {T A : Type 0} (data_of : T → Data) (form : Data → Option A) (meaning : T → A) (parts : List T) (k : ℕ) (part : T) (lt : k < length parts)
    (is : part ≡ get_or parts k part) where
  more : {B : Type 0} (f : T → B) → map f (take (k + 1) parts) ≡ map f (take k parts) ++ f part ∷ []
  more f = ap (map f) (take_more parts k part lt ∙ ap (λ (t : T). take k parts ++ t ∷ []) (sym is)) ∙ map-append f (take k parts) (part ∷ [])

  pub value_more : (items : List Value) (v : Value) → view v ≡ data_of part → items_view items ≡ items_of (map data_of (take k parts))
      → items_view (items ++ v ∷ []) ≡ items_of (map data_of (take (k + 1) parts))
  value_more items v here so_far =
      ap items_of (map-append view items (v ∷ [])) ∙ items_of-push (map view items) (view v)
      ∙ ap (λ es. after_items es (view v)) so_far ∙ ap (after_items (items_of (map data_of (take k parts)))) here
      ∙ sym (ap items_of (more data_of) ∙ items_of-push (map data_of (take k parts)) (data_of part))

  pub reads_more : (items : List Value) (v : Value) → form (view v) ≡ Some (meaning part) → all_of form (items_view items) ≡ Some (map meaning (take k parts))
      → all_of form (items_view (items ++ v ∷ [])) ≡ Some (map meaning (take (k + 1) parts))
  reads_more items v here so_far =
      ap (all_of form) (ap items_of (map-append view items (v ∷ [])) ∙ items_of-push (map view items) (view v))
      ∙ all_of-after form (items_view items) (view v) (map meaning (take k parts)) (meaning part) so_far here
      ∙ ap (λ xs. Some xs) (sym (more meaning))
