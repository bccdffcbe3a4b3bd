-- Cells that are added to those found.
use Rattle.std.proofs.Common.{◌≡◌, ◌≢◌, inl, inr, ◌<◌, ℕ, zero, suc, List, [], ◌∷◌, ◌++◌, Bool, true, false, Vec, Global, Some, length, get_or, refl, sym, ◌∙◌, ap, subst, arith, cond}
use Rattle.std.specs.Prelude.{Contains, bytes_eq}
use Rattle.std.specs.List.{list_any, slice_get, position, position_or_len}
use Rattle.conley_lefschetz.proofs.ColumnLemmas.{position_found}
use Rattle.conley_lefschetz.proofs.TextLemmas.{position_or_len-map}
use Rattle.std.proofs.lemmas.Option.{get_or_from_slice_get, slice_get_within}
use Rattle.std.proofs.lemmas.Bool.{or_cases, or_left, or_right, false≢true}
use Rattle.std.proofs.lemmas.List.{map-append, get_or_append_left, length-append, get_or_default, get_or-map}
use Rattle.std.proofs.lemmas.List.Elements.{All-nil, All-append, All-weaker, Contains-append_left, Contains-append_right, Contains-push, Contains-push_cases}
use Rattle.std.proofs.lemmas.List.Quantifiers.{all_pairs_push}
use Rattle.std.proofs.lemmas.Slice.Eq.{bytes_eq-Decides}
use Rattle.conley_lists.specs.Lists.{items_of}
use Rattle.conley_generated.specs.Making.{Grows, AddsCell, AddsCells, faces_of}
use Rattle.conley_generated.specs.Rule.{only_cells}
use Rattle.conley_lists.proofs.ContainsLemmas.{Contains-rest, Contains-cases}
use Rattle.conley_generated.proofs.CellLemmas.{Contains-empty, test_true}

-- a cell that is added at the end
pub grows_push : (old : List (List ℕ)) (s : List ℕ) → ¬ Contains old s → Grows old (old ++ s ∷ []) (s ∷ [])
grows_push old s none = record {
  apart = λ apart. all_pairs_push (λ (t : List ℕ) (u : List ℕ). t ≢ u) old s apart (λ k d lt e. none (k, lt, get_or_default old k s d lt ∙ e));
  longer = omega (arith, length-append old (s ∷ []));
  kept = λ k lt. get_or_append_left old (s ∷ []) [] k lt;
  only = λ t c. elim (Contains-push_cases old s t c) [ inl there ↦ inl there | inr e ↦ inr (0, omega arith, e) ];
  all = λ k d lt. one k d lt;
}
  where
    one : (k : ℕ) (d : List ℕ) → k < length (s ∷ []) → Contains (old ++ s ∷ []) (get_or (s ∷ []) k d)
    one zero d lt = Contains-push old s
    one (suc k) d lt = absurd (omega (arith, lt))

-- a cell that stood there
pub grows_same : (old : List (List ℕ)) (s : List ℕ) → Contains old s → Grows old old (s ∷ [])
grows_same old s there = record {
  apart = λ apart. apart;
  longer = omega arith;
  kept = λ k lt. refl;
  only = λ t c. inl c;
  all = λ k d lt. one k d lt;
}
  where
    one : (k : ℕ) (d : List ℕ) → k < length (s ∷ []) → Contains old (get_or (s ∷ []) k d)
    one zero d lt = there
    one (suc k) d lt = absurd (omega (arith, lt))

pub grows_none : (old : List (List ℕ)) → Grows old old []
grows_none old = record { apart = λ apart. apart; longer = omega arith; kept = λ k lt. refl; only = λ t c. inl c; all = All-nil (Contains old) }

-- what stood there is there still
pub grows_keeps : (old new cells : List (List ℕ)) → Grows old new cells → (s : List ℕ) → Contains old s → Contains new s
grows_keeps old new cells grows s c =
    let lt : c.0 < length new = omega (arith, c.1, grows.longer) in
    (c.0, lt, get_or_default new c.0 s [] lt ∙ grows.kept c.0 c.1 ∙ get_or_default old c.0 [] s c.1 ∙ c.2)

pub grows_on : (a b c xs ys : List (List ℕ)) → Grows a b xs → Grows b c ys → Grows a c (xs ++ ys)
grows_on a b c xs ys first second = record {
  apart = λ apart. second.apart (first.apart apart);
  longer = omega (arith, first.longer, second.longer);
  kept = λ k lt. second.kept k (omega (arith, lt, first.longer)) ∙ first.kept k lt;
  only = λ s there. elim (second.only s there) [
    | inl before ↦ elim (first.only s before) [ inl old ↦ inl old | inr new ↦ inr (Contains-append_left xs ys s new) ]
    | inr new ↦ inr (Contains-append_right xs ys s new)
  ];
  all = All-append (Contains c) xs ys (All-weaker (Contains b) (Contains c) (λ s there. grows_keeps b c ys second s there) xs first.all) second.all;
}

-- ---- a set of cells in memory

pub contains_tested : (keys : List (Vec ℕ Global)) (s : List ℕ) → list_any (λ (key : Vec ℕ Global). bytes_eq s key.items) keys ≡ true
    → Contains (items_of keys) s
contains_tested [] s e = absurd (false≢true e)
contains_tested (key ∷ keys) s e = elim (or_cases (bytes_eq s key.items) (list_any (λ (key : Vec ℕ Global). bytes_eq s key.items) keys) e) [
  | inl here ↦ (0, omega arith, sym ((bytes_eq-Decides s key.items).0 here))
  | inr later ↦ Contains-rest key.items (items_of keys) s (contains_tested keys s later)
]

pub tested_contains : (keys : List (Vec ℕ Global)) (s : List ℕ) → Contains (items_of keys) s
    → list_any (λ (key : Vec ℕ Global). bytes_eq s key.items) keys ≡ true
tested_contains [] s c = Contains-empty s c
tested_contains (key ∷ keys) s c = elim (Contains-cases key.items (items_of keys) s c) [
  | inl e ↦ or_left (bytes_eq s key.items) (list_any (λ (key : Vec ℕ Global). bytes_eq s key.items) keys) (test_true s key.items e)
  | inr later ↦ or_right (bytes_eq s key.items) (list_any (λ (key : Vec ℕ Global). bytes_eq s key.items) keys) (tested_contains keys s later)
]

pub adds_cell : (keys new : List (Vec ℕ Global)) (cell : Vec ℕ Global)
    → new ≡ cond (list_any (λ (key : Vec ℕ Global). bytes_eq cell.items key.items) keys) keys (keys ++ cell ∷ [])
    → AddsCell (items_of keys) (items_of new) cell.items
adds_cell keys new cell is = by (list_any (λ (key : Vec ℕ Global). bytes_eq cell.items key.items) keys) refl is
  where
    by : (b : Bool) → list_any (λ (key : Vec ℕ Global). bytes_eq cell.items key.items) keys ≡ b → new ≡ cond b keys (keys ++ cell ∷ [])
        → AddsCell (items_of keys) (items_of new) cell.items
    by true e same =
        let there = contains_tested keys cell.items e in
        record {
          grows = subst (λ (n : List (List ℕ)). Grows (items_of keys) n (cell.items ∷ [])) (sym (ap items_of same))
              (grows_same (items_of keys) cell.items there);
          fresh = λ none. absurd (none there);
        }
    by false e same =
        let none : Contains (items_of keys) cell.items → ⊥ = λ c. false≢true (sym e ∙ tested_contains keys cell.items c) in
        let grown : items_of new ≡ items_of keys ++ cell.items ∷ [] = ap items_of same ∙ map-append (λ (key : Vec ℕ Global). key.items) keys (cell ∷ []) in
        record {
          grows = subst (λ (n : List (List ℕ)). Grows (items_of keys) n (cell.items ∷ [])) (sym grown) (grows_push (items_of keys) cell.items none);
          fresh = λ _. grown;
        }

-- ---- one after another

-- too many before all were added
pub stops : (a c some rest cells : List (List ℕ)) (most : ℕ) → Grows a c some → some ++ rest ≡ cells → most < length c → AddsCells a c cells most false
stops a c some rest cells most grows whole more = record {
  some = some;
  grows = grows;
  among = λ s there. subst (λ (l : List (List ℕ)). Contains l s) whole (Contains-append_left some rest s there);
  all = λ e. absurd (false≢true e);
  few = λ e _. absurd (false≢true e);
  more = λ _. more;
}

-- the faces without their signs, of faces in memory
pub only_cells-append : (xs ys : List (Vec ℕ Global × Bool)) → only_cells (faces_of (xs ++ ys)) ≡ only_cells (faces_of xs) ++ only_cells (faces_of ys)
only_cells-append xs ys =
    ap only_cells (map-append (λ (face : Vec ℕ Global × Bool). (face.0.items, face.1)) xs ys)
    ∙ map-append (λ (face : List ℕ × Bool). face.0) (faces_of xs) (faces_of ys)

pub items_of-append : (xs ys : List (Vec ℕ Global)) → items_of (xs ++ ys) ≡ items_of xs ++ items_of ys
items_of-append xs ys = map-append (λ (cell : Vec ℕ Global). cell.items) xs ys

-- a cell that is read by its number
pub cell_read : (keys : List (Vec ℕ Global)) (k : ℕ) (cell : Vec ℕ Global) (items : List ℕ) → slice_get keys k ≡ Some cell → items ≡ cell.items
    → get_or (items_of keys) k [] ≡ items
cell_read keys k cell items e same =
    get_or-map (λ (key : Vec ℕ Global). key.items) keys k cell [] (slice_get_within keys k cell e)
    ∙ ap (λ (key : Vec ℕ Global). key.items) (get_or_from_slice_get keys k cell cell e) ∙ sym same

-- the number of a cell, as a set in memory finds it
pub number_found : (keys : List (Vec ℕ Global)) (s : List ℕ) (k : ℕ) → position (λ (key : Vec ℕ Global). bytes_eq s key.items) keys ≡ Some k
    → position_or_len (bytes_eq s) (items_of keys) ≡ k
number_found keys s k e =
    position_or_len-map (λ (key : Vec ℕ Global). key.items) (bytes_eq s) keys ∙ position_found (λ (key : Vec ℕ Global). bytes_eq s key.items) keys k (sym e)
