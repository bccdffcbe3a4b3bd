-- From what the searches over parts find to the refusals.
use Rattle.std.proofs.Common.{◌≡◌, ◌<◌, ℕ, List, [], ◌++◌, Some, None, get_or, sym, ◌∙◌, ap, subst, arith}
use Rattle.std.specs.Prelude.{slice_index}
use Rattle.std.proofs.lemmas.Grind.{get_or_default_zero}
use Rattle.conley_lists.specs.Lists.{ListedStep}
use Rattle.conley_first.specs.First.{IsFirst}
use Rattle.conley_first.specs.Places.{FindsFirst}
use Rattle.conley_lefschetz.specs.Complex.{Layout}
use Rattle.conley_mvf.specs.Fault as parts
use Rattle.conley_mvf.specs.declared.error.PartError.{PartError}
use Rattle.conley_input.specs.File.{File}
use Rattle.conley_input.specs.Listing.{IsComplexIn, cells_in, lists_of}
use Rattle.conley_input.specs.Problem.{IsListedAs}
use Rattle.conley_input.specs.Refusals.{IsUnknown, IsUnknownIn, FailsAsParts, IsFirstRefusal, IsClear}
use Rattle.conley_input.specs.declared.error.FileFault.TheVariants.{UnknownCell}
use Rattle.conley_input.proofs.CellLemmas.{complex_once}
use Rattle.conley_input.proofs.RefusalLemmas.{clear_unknown, first_unknown}

-- what is said of the complex of the file is said of this one
module _ (file : File) (c : Layout) (is : IsComplexIn file c) where
  in_unknown : (l p : ℕ) → IsUnknownIn file l p → IsUnknown c.labels (lists_of file) l p
  in_unknown l p u = subst (λ (d : Layout). IsUnknown d.labels (lists_of file) l p) (complex_once file u.0 c u.1 is) u.2

  pub in_parts : (error : PartError) → FailsAsParts file error → parts.Fails c.faces (cells_in c.labels file.field.parts) error
  in_parts error f = subst (λ (d : Layout). parts.Fails d.faces (cells_in d.labels file.field.parts) error) (complex_once file f.0 c f.1 is) f.2

  pub first_in_parts : (error : PartError) → parts.IsFirstFault c.faces (cells_in c.labels file.field.parts) error
      → IsFirst parts.number parts.place (FailsAsParts file) error
  first_in_parts error f = record { holds = (c, is, f.holds); first = λ other before h. f.first other before (in_parts other h) }

-- numbers of cells are known
pub none_unknown : (n : ℕ) (lists : List (List ℕ)) → ((k x : ℕ) → ListedStep lists k x → x < n) → (l p : ℕ) → ¬ parts.IsUnknown n lists l p
none_unknown n lists within l p f = omega (
  arith,
  f.1,
  within l (slice_index (get_or lists l []) p)
      (p, f.0, get_or_default_zero (get_or lists l []) p (slice_index (get_or lists l []) p) f.0),
)

-- labels of parts and of named sets of the file
module _ (file : File) (c : Layout) (parts sets : List (List (List ℕ))) (is : IsListedAs file c parts sets) (clear : IsClear file 10) where
  lists_are : parts ++ sets ≡ lists_of file
  lists_are = ap (λ (ps : List (List (List ℕ))). ps ++ sets) is.of_parts ∙ ap (λ (ss : List (List (List ℕ))). file.field.parts ++ ss) is.of_sets

  -- no label is unknown
  pub known : FindsFirst (IsUnknown c.labels (parts ++ sets)) None → IsClear file 11
  known none = clear_unknown file clear (λ l p f. none l p (subst (λ (ps : List (List (List ℕ))). IsUnknown c.labels ps l p) (sym lists_are)
      (in_unknown file c is.complex l p f)))

  -- the first label that no cell has
  pub unknown_first : (l p : ℕ) → FindsFirst (IsUnknown c.labels (parts ++ sets)) (Some (l, p)) → IsFirstRefusal file (UnknownCell l p)
  unknown_first l p found =
      let found' = subst (λ (ps : List (List (List ℕ))). FindsFirst (IsUnknown c.labels ps) (Some (l, p))) lists_are found in
      first_unknown file clear l p (c, is.complex, found'.0) (λ l' p' before f. found'.1 l' p' before (in_unknown file c is.complex l' p' f))
