-- The problem that stands for a file, from what was made of it.
use Rattle.std.proofs.Common.{◌≡◌, ◌<◌, ℕ, List, Bool, map, length, sym, ◌∙◌, ap, subst, arith}
use Rattle.std.specs.Prelude.{All}
use Rattle.conley_json.specs.Meaning.{texts}
use Rattle.conley_field.specs.Prime.{residues}
use Rattle.conley_lists.specs.Lists.{items_of, ListedStep, IsOrderedCopy}
use Rattle.conley_faces.specs.Face.{IsCellList}
use Rattle.conley_lefschetz.specs.Complex.{Layout, IsLayout}
use Rattle.conley_mvf.specs.Partition.{IsPartition, IsMultivectorField}
use Rattle.conley_input.specs.File.{File}
use Rattle.conley_input.specs.Listing.{IsComplexIn, cells_in}
use Rattle.conley_input.specs.Problem.{IsFieldOf, IsListedAs, ArePartsFor, AreNamedSets, ReadsFile, IsSound}
use Rattle.conley_input.specs.ProblemMeaning.{meaning_of_set}
use Rattle.conley_input.specs.Problem as spec
use Rattle.conley_input.specs.Refusals.{Fails}
use Rattle.conley_input.specs.declared.error.FileFault.{FileFault}
use Rattle.conley_input.specs.declared.file.FieldFile.{FieldFile}
use Rattle.conley_input.specs.declared.file.ProblemFile.{ProblemFile}
use Rattle.conley_input.specs.declared.file.SetsFile.{SetsFile}
use Rattle.conley_input.specs.declared.sets.NamedSet.{NamedSet}
use Rattle.conley_input.specs.Meaning.{file_of}
use Rattle.conley_input.proofs.SetLemmas.{set_names, set_lists, names_meant, lists_meant, cells_are_lists}

-- what was read of a file, as what the file lists
module _ (file : ProblemFile) (layout : Layout) (field : FieldFile) (sets : SetsFile) (complex : IsComplexIn (file_of file) layout)
    (same_field : field ≡ file.field) (same_sets : sets ≡ file.sets) where
  pub listed_as : IsListedAs (file_of file) layout (map texts field.parts.items) (map texts sets.lists.items)
  listed_as = record {
    complex = complex;
    of_parts = ap (λ (f : FieldFile). map texts f.parts.items) same_field;
    of_sets = ap (λ (s : SetsFile). map texts s.lists.items) same_sets;
  }

  pub field_as : (cells : List (List ℕ)) → cells ≡ cells_in layout.labels (map texts field.parts.items) → IsFieldOf (file_of file) field.is_hull layout cells
  field_as cells are = record {
    kind = sym (ap (λ (f : FieldFile). f.is_hull) same_field);
    complex = complex;
    parts = are ∙ ap (λ (f : FieldFile). cells_in layout.labels (map texts f.parts.items)) same_field;
  }

  pub names_as : (names : List (List ℕ)) → names ≡ texts sets.names → names ≡ texts file.sets.names
  names_as names are = are ∙ ap (λ (s : SetsFile). texts s.names) same_sets

  pub sets_as : (cells : List (List ℕ)) → cells ≡ cells_in layout.labels (map texts sets.lists.items)
      → cells ≡ cells_in layout.labels (map texts file.sets.lists.items)
  sets_as cells are = are ∙ ap (λ (s : SetsFile). cells_in layout.labels (map texts s.lists.items)) same_sets

module _ (file : File) (order : ℕ) (layout : Layout) (part_of : List ℕ) (sets : List NamedSet) (hull : Bool) (parts cells : List (List ℕ))
    (order_is : order ≡ file.scalars) (of : IsFieldOf file hull layout parts)
    (accepted : (fault : FileFault) → ¬ Fails file fault) (are : ArePartsFor hull layout.faces parts part_of) (field : IsMultivectorField layout.faces part_of)
    (numbering : IsPartition part_of)
    (names : set_names sets ≡ file.sets.names) (copy : IsOrderedCopy (items_of (set_lists sets)) cells)
    (cells_are : cells ≡ cells_in layout.labels file.sets.lists)
    (within : (k x : ℕ) → ListedStep cells k x → x < length layout.dims) where
  copies : IsOrderedCopy (map (λ (set : spec.NamedSet). set.cells) (map meaning_of_set sets)) cells
  copies = subst (λ ls. IsOrderedCopy ls cells) (sym (lists_meant sets)) copy

  cells_alone : All (λ (set : spec.NamedSet). IsCellList layout.faces set.cells) (map meaning_of_set sets)
  cells_alone =
      let count : length layout.dims ≡ length layout.faces = omega (arith, of.complex.laws.complex.dims_count, of.complex.laws.complex.faces_count) in
      cells_are_lists layout.faces cells (map meaning_of_set sets) copies (λ k x s. omega (arith, within k x s, count))

  named : AreNamedSets file layout (map meaning_of_set sets)
  named = record {
    names = names_meant sets ∙ names;
    labels = subst (λ ls. IsOrderedCopy (map (λ (set : spec.NamedSet). set.cells) (map meaning_of_set sets)) ls) cells_are copies;
    cells = cells_alone;
  }

  of_kind : ArePartsFor file.field.is_hull layout.faces (cells_in layout.labels file.field.parts) part_of
  of_kind = subst (λ kind. ArePartsFor kind layout.faces (cells_in layout.labels file.field.parts) part_of) (sym of.kind)
      (subst (λ ls. ArePartsFor hull layout.faces ls part_of) of.parts are)

  pub built : ReadsFile file (record { order = order; complex = layout; part_of = part_of; sets = map meaning_of_set sets })
  built = record {
    accepted = accepted;
    stands = record { order = order_is; complex = of.complex; parts = of_kind; field = field; numbering = numbering; sets = named };
  }

  pub built_sound : IsSound (record { order = order; complex = layout; part_of = part_of; sets = map meaning_of_set sets })
  built_sound = record {
    laws = subst (λ o. IsLayout (residues o) layout) (sym order_is) of.complex.laws;
    field = field;
    partition = numbering;
    sets =
        cells_alone;
  }
