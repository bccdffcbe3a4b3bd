-- The lists of parts and those of named sets, taken apart again, and one named set more.
use Rattle.std.proofs.Common.{◌≡◌, ◌+◌, ◌<◌, ℕ, List, [], ◌∷◌, ◌++◌, Vec, String, string_bytes, map, take, drop, length, get_or, refl, sym, ◌∙◌, ap, subst, arith}
use Rattle.std.specs.Prelude.{All, Contains}
use Rattle.std.specs.declared.alloc.Global.{Global}
use Rattle.std.proofs.lemmas.List.{get_or_append_left, get_or-append-add, map-append, length-map, get_or-map, take_more}
use Rattle.conley_lefschetz.specs.Listing.{bytes_of}
use Rattle.conley_json.specs.Meaning.{texts}
use Rattle.conley_lists.specs.Lists.{items_of, ListedStep, IsOrderedCopy}
use Rattle.conley_lists.proofs.ListLemmas.{step_begins}
use Rattle.conley_faces.specs.Face.{IsCellList}
use Rattle.conley_mvf.proofs.WholeLemmas.{cell_lists}
use Rattle.conley_input.specs.Listing.{numbers_of, cells_in}
use Rattle.conley_input.specs.ProblemMeaning.{meaning_of_set}
use Rattle.conley_input.specs.Problem as spec
use Rattle.conley_input.specs.declared.sets.NamedSet.{NamedSet}

-- the first lists are those of the parts, the others those of the sets
taken_apart : (labels : List (List ℕ)) (parts sets : List (Vec (String Global) Global)) (lists : List (Vec ℕ Global))
    → items_of lists ≡ cells_in labels (map texts (parts ++ sets))
    → (items_of (take (length parts) lists) ≡ cells_in labels (map texts parts)) × (items_of (drop (length parts) lists) ≡ cells_in labels (map texts sets))
taken_apart labels [] sets lists e = (refl, e)
taken_apart labels (p ∷ parts) sets [] e = absurd (omega (arith, ap length e))
taken_apart labels (p ∷ parts) sets (l ∷ lists) e =
    let first : l.items ≡ numbers_of labels (length labels) (texts p) = cc in
    let rest = taken_apart labels parts sets lists (cc) in
    let others : items_of (take (length parts) lists) ≡ cells_in labels (map texts parts) = rest.0 in
    (cc, rest.1)

-- numbers that are cells in all lists are so in the first and in the last
within_first : (n : ℕ) (a b : List (List ℕ)) → ((k x : ℕ) → ListedStep (a ++ b) k x → x < n) → (k x : ℕ) → ListedStep a k x → x < n
within_first n a b within k x s = within k x (subst (λ row. Contains row x) (sym (get_or_append_left a b [] k (step_begins a k x s))) s)

within_last : (n : ℕ) (a b : List (List ℕ)) → ((k x : ℕ) → ListedStep (a ++ b) k x → x < n) → (k x : ℕ) → ListedStep b k x → x < n
within_last n a b within k x s = within (length a + k) x (subst (λ row. Contains row x) (sym (get_or-append-add a b k [])) s)

pub texts_are : (parts sets now : List (Vec (String Global) Global)) → now ≡ parts ++ sets → map texts now ≡ map texts parts ++ map texts sets
texts_are parts sets now all = ap (λ (ls : List (Vec (String Global) Global)). map texts ls) all ∙ map-append texts parts sets

-- lists of labels that were numbered together, and what was taken of them
module _ (labels : List (List ℕ)) (n count : ℕ) (parts sets now : List (Vec (String Global) Global)) (lists first others : List (Vec ℕ Global))
    (all : now ≡ parts ++ sets) (count_is : count ≡ length parts)
    (numbered : items_of lists ≡ cells_in labels (map texts now)) (within : (k x : ℕ) → ListedStep (items_of lists) k x → x < n)
    (of_first : first ≡ take count lists) (of_others : others ≡ drop count lists) where
  both : items_of lists ≡ cells_in labels (map texts (parts ++ sets))
  both = numbered ∙ ap (λ (ls : List (Vec (String Global) Global)). cells_in labels (map texts ls)) all

  pub first_are : items_of first ≡ cells_in labels (map texts parts)
  first_are = ap (λ (ls : List (Vec ℕ Global)). items_of ls) (of_first ∙ ap (λ i. take i lists) count_is) ∙ (taken_apart labels parts sets lists both).0

  pub others_are : items_of others ≡ cells_in labels (map texts sets)
  others_are = ap (λ (ls : List (Vec ℕ Global)). items_of ls) (of_others ∙ ap (λ i. drop i lists) count_is) ∙ (taken_apart labels parts sets lists both).1

  within_both : (k x : ℕ) → ListedStep (cells_in labels (map texts parts) ++ cells_in labels (map texts sets)) k x → x < n
  within_both = subst (λ ls. (k x : ℕ) → ListedStep ls k x → x < n)
      (both ∙ ap (λ ts. cells_in labels ts) (map-append texts parts sets) ∙ map-append (numbers_of labels (length labels)) (map texts parts) (map texts sets))
      within

  pub first_within : (k x : ℕ) → ListedStep (items_of first) k x → x < n
  first_within = subst (λ ls. (k x : ℕ) → ListedStep ls k x → x < n) (sym first_are) (within_first n (cells_in labels (map texts parts))
      (cells_in labels (map texts sets)) within_both)

  pub others_within : (k x : ℕ) → ListedStep (items_of others) k x → x < n
  others_within = subst (λ ls. (k x : ℕ) → ListedStep ls k x → x < n) (sym others_are) (within_last n (cells_in labels (map texts parts))
      (cells_in labels (map texts sets)) within_both)

-- ---- one named set more

abbrev pub set_names : List NamedSet → List (List ℕ)
set_names sets = map (λ (set : NamedSet). string_bytes set.name) sets

abbrev pub set_lists : List NamedSet → List (Vec ℕ Global)
set_lists sets = map (λ (set : NamedSet). set.cells) sets

pub names_more : (sets : List NamedSet) (set : NamedSet) (names : List (String Global)) (k : ℕ) (name : String Global) → k < length names
    → name ≡ get_or names k name
    → set_names sets ≡ bytes_of (take k names) → string_bytes set.name ≡ string_bytes name → set_names (sets ++ set ∷ []) ≡ bytes_of (take (k + 1) names)
names_more sets set names k name lt is so_far same =
    let more : take (k + 1) names ≡ take k names ++ name ∷ [] = take_more names k name lt ∙ ap (λ (t : String Global). take k names ++ t ∷ []) (sym is) in
    map-append (λ (set : NamedSet). string_bytes set.name) sets (set ∷ [])
    ∙ ap (λ xs. xs ++ string_bytes set.name ∷ []) so_far
    ∙ ap (λ t. bytes_of (take k names) ++ t ∷ []) same
    ∙ sym (ap bytes_of more ∙ map-append string_bytes (take k names) (name ∷ []))

pub sets_more : (sets : List NamedSet) (set : NamedSet) → set_lists (sets ++ set ∷ []) ≡ set_lists sets ++ set.cells ∷ []
sets_more sets set = map-append (λ (set : NamedSet). set.cells) sets (set ∷ [])

-- what named sets mean
pub names_meant : (sets : List NamedSet) → map (λ (set : spec.NamedSet). set.name) (map meaning_of_set sets) ≡ set_names sets
names_meant [] = refl
names_meant (set ∷ sets) = ap (λ rest. string_bytes set.name ∷ rest) (names_meant sets)

pub lists_meant : (sets : List NamedSet) → map (λ (set : spec.NamedSet). set.cells) (map meaning_of_set sets) ≡ items_of (set_lists sets)
lists_meant [] = refl
lists_meant (set ∷ sets) = ap (λ rest. set.cells.items ∷ rest) (lists_meant sets)

pub cells_count : (labels : List (List ℕ)) (lists : List (Vec (String Global) Global)) → length (cells_in labels (map texts lists)) ≡ length lists
cells_count labels lists = length-map (map texts lists) (numbers_of labels (length labels)) ∙ length-map lists texts

-- sets that have cells alone
pub cells_are_lists : (faces lists : List (List ℕ)) (sets : List spec.NamedSet) → IsOrderedCopy (map (λ (set : spec.NamedSet). set.cells) sets) lists
    → ((k x : ℕ) → ListedStep lists k x → x < length faces)
    → All (λ (set : spec.NamedSet). IsCellList faces set.cells) sets
cells_are_lists faces lists sets copy within = λ k d lt.
    subst (IsCellList faces) (get_or-map (λ (set : spec.NamedSet). set.cells) sets k d [] lt)
    (cell_lists faces (map (λ (set : spec.NamedSet). set.cells) sets) lists copy within k)
