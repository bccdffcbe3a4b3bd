-- The refusals of what a file lists. Each says of one place that something is wrong there.
--     PassesLimit file limit least the limit with this number is passed, and least is the least that passes it
--     IsBadLabel labels k          the label at this place breaks the rule of labels
--     FailsIn F complex fault      of labels, incidences, simplices, axes, cubes and the boundary: the complex can't be made of what is listed
--     IsBadName file k             the name of a set breaks the rule of labels; names are counted on from the labels of the complex
--     IsUnknownIn file list at     no cell has the label at this list and place; named sets are counted on from the parts
--     FailsAsParts file error      what is listed as parts makes no partition
--     FailsAsWhole file error      the same, of a field that is given whole
--     Fails file fault             the sentence of the refusal, at its place
--     IsFirstIn F complex fault    of those of the complex it fails, and none that fails stands before it
--     IsFirstRefusal file fault    of all it fails, and none that fails stands before it
--     IsClear file n               none with a number below n fails
-- A complex is refused as the libraries of complexes refuse it, and parts as a partition is: those sentences are theirs.
use Rattle.std.specs.Prelude.{◌≡◌, ◌⊎◌, ◌+◌, ◌<◌, ◌&&◌, ◌==◌, nat_lt, nat_le, not, ℕ, List, [], Bool, false, None, Any, length, slice_index_or}
use Rattle.std.specs.List.{list_all}
use Rattle.conley_field.specs.Arithmetic.{Arithmetic}
use Rattle.conley_field.specs.Prime.{is_prime_order}
use Rattle.conley_first.specs.First as first
use Rattle.conley_lefschetz.specs.Complex.{Layout}
use Rattle.conley_lefschetz.specs.Fault as of_cells
use Rattle.conley_lefschetz.specs.declared.error.ComplexError.TheVariants as cells_error
use Rattle.conley_simplicial.specs.Fault as of_simplices
use Rattle.conley_simplicial.specs.declared.error.SimplicialError.TheVariants as simplices_error
use Rattle.conley_cubical.specs.Fault as of_cubes
use Rattle.conley_cubical.specs.declared.error.CubicalError.TheVariants as cubes_error
use Rattle.conley_mvf.specs.Fault as of_parts
use Rattle.conley_mvf.specs.declared.error.PartError.{PartError}
use Rattle.conley_mvf.specs.declared.error.PartError.TheVariants as part_error
use Rattle.conley_input.specs.File.{File, Complex, lefschetz, simplicial, cubical}
use Rattle.conley_input.specs.RefusalOrder.{number, place}
use Rattle.conley_input.specs.Limits.{most_cells, most_listed, most_sets, most_dimension, most_bytes, most_generated}
use Rattle.conley_input.specs.Listing.{scalars_of, labels_of, dims_of, count_of, cell_listing, IsComplexIn, cell_of, cells_in, lists_of}
use Rattle.conley_input.specs.declared.error.FileFault.{FileFault}
use Rattle.conley_input.specs.declared.error.FileFault.TheVariants.{NotJson, BadShape, UnknownField, TooMany, BadLabel, DuplicateLabel, BadIncidence, BadSimplex, BadAxes, BadCube, TooManyCells, NotBoundary, UnknownCell, RepeatedCell, EmptyPart, NotLocallyClosed}

-- ---- limits

-- a row of the table of limits: its number, the most, and whether that is passed
abbrev pub PassesRow : ℕ → ℕ → Type 0 → ℕ → ℕ → Type 0
PassesRow row most passes limit least = (limit ≡ row) × (least ≡ most + 1) × passes

-- a label with more bytes than the most
abbrev pub HasLonger : ℕ → List (List ℕ) → Type 0
HasLonger most labels = Any (λ label. most < length label) labels

abbrev pub PassesLimit : File → ℕ → ℕ → Type 0
PassesLimit file limit least =
    PassesRow 1 most_cells (most_cells < length (labels_of file.complex)) limit least
    ⊎ PassesRow 2 most_listed (most_listed < count_of file.complex) limit least
    ⊎ PassesRow 3 most_sets (most_sets < length file.sets.names) limit least
    ⊎ PassesRow 4 most_dimension (Any (λ dim. most_dimension < dim) (dims_of file.complex)) limit least
    ⊎ PassesRow 5 most_bytes (HasLonger most_bytes (labels_of file.complex) ⊎ HasLonger most_bytes file.sets.names) limit least

-- ---- the complex

-- a byte of a label: neither below 33 nor 127
abbrev pub is_label_byte : ℕ → Bool
is_label_byte b = nat_le 33 b && not (b == 127)

abbrev pub is_label : List ℕ → Bool
is_label label = nat_lt 0 (length label) && list_all is_label_byte label

abbrev pub IsBadLabel : List (List ℕ) → ℕ → Type 0
IsBadLabel labels k = (k < length labels) × (is_label (slice_index_or labels k []) ≡ false)

-- each kind has refusals of its own
abbrev pub FailsIn : Arithmetic → Complex → FileFault → Type 0
FailsIn F (lefschetz cells incidences) (BadLabel k) = IsBadLabel (labels_of (lefschetz cells incidences)) k
FailsIn F (lefschetz cells incidences) (DuplicateLabel i j) = of_cells.Fails F (cell_listing F cells incidences) (cells_error.DuplicateLabel i j)
FailsIn F (lefschetz cells incidences) (BadIncidence k why) = of_cells.Fails F (cell_listing F cells incidences) (cells_error.BadIncidence k why)
FailsIn F (lefschetz cells incidences) (NotBoundary x z) = of_cells.Fails F (cell_listing F cells incidences) (cells_error.NotBoundary x z)
FailsIn F (simplicial vertices simplices) (BadLabel k) = of_simplices.Fails vertices simplices most_generated (simplices_error.BadLabel k)
FailsIn F (simplicial vertices simplices) (DuplicateLabel i j) = of_simplices.Fails vertices simplices most_generated (simplices_error.DuplicateLabel i j)
FailsIn F (simplicial vertices simplices) (BadSimplex k) = of_simplices.Fails vertices simplices most_generated (simplices_error.BadSimplex k)
FailsIn F (simplicial vertices simplices) (TooManyCells least) = of_simplices.Fails vertices simplices most_generated (simplices_error.TooManyCells least)
FailsIn F (cubical axes cubes) (BadAxes told) = of_cubes.Fails axes cubes most_generated (cubes_error.BadAxes told)
FailsIn F (cubical axes cubes) (BadCube k) = of_cubes.Fails axes cubes most_generated (cubes_error.BadCube k)
FailsIn F (cubical axes cubes) (TooManyCells least) = of_cubes.Fails axes cubes most_generated (cubes_error.TooManyCells least)
FailsIn F listed fault = ⊥

abbrev pub IsFirstIn : Arithmetic → Complex → FileFault → Type 0
IsFirstIn F listed fault = first.IsFirst number place (FailsIn F listed) fault

-- the name in place i of the sets
abbrev pub IsBadName : File → ℕ → Type 0
IsBadName file k = (i : ℕ) × (k ≡ length (labels_of file.complex) + i) × IsBadLabel file.sets.names i

-- ---- the parts and the named sets

-- no cell has the label at this list and place
abbrev pub IsUnknown : List (List ℕ) → List (List (List ℕ)) → ℕ → ℕ → Type 0
IsUnknown labels lists list at = (at < length (slice_index_or lists list [])) × (cell_of labels (slice_index_or (slice_index_or lists list []) at []) ≡ None)

-- no cell of the complex of the file has the label
abbrev pub IsUnknownIn : File → ℕ → ℕ → Type 0
IsUnknownIn file list at = (c : Layout) × IsComplexIn file c × IsUnknown c.labels (lists_of file) list at

-- the listed parts make no partition of the cells of the complex of the file
abbrev pub FailsAsParts : File → PartError → Type 0
FailsAsParts file error = (c : Layout) × IsComplexIn file c × of_parts.Fails c.faces (cells_in c.labels file.field.parts) error

abbrev pub FailsAsWhole : File → PartError → Type 0
FailsAsWhole file error = (file.field.is_hull ≡ false) × FailsAsParts file error

-- ---- the table

-- those of the form are no matter of what is listed
abbrev pub Fails : File → FileFault → Type 0
Fails file NotJson = ⊥
Fails file (BadShape member) = ⊥
Fails file (UnknownField order) = (file.scalars ≡ order) × (is_prime_order order ≡ false)
Fails file (TooMany limit least) = PassesLimit file limit least
Fails file (BadLabel k) = FailsIn (scalars_of file) file.complex (BadLabel k) ⊎ IsBadName file k
Fails file (DuplicateLabel i j) = FailsIn (scalars_of file) file.complex (DuplicateLabel i j)
Fails file (BadIncidence k why) = FailsIn (scalars_of file) file.complex (BadIncidence k why)
Fails file (BadSimplex k) = FailsIn (scalars_of file) file.complex (BadSimplex k)
Fails file (BadAxes axes) = FailsIn (scalars_of file) file.complex (BadAxes axes)
Fails file (BadCube k) = FailsIn (scalars_of file) file.complex (BadCube k)
Fails file (TooManyCells least) = FailsIn (scalars_of file) file.complex (TooManyCells least)
Fails file (NotBoundary x z) = FailsIn (scalars_of file) file.complex (NotBoundary x z)
Fails file (UnknownCell list at) = IsUnknownIn file list at
Fails file (RepeatedCell list at) = FailsAsWhole file (part_error.Repeated list at)
Fails file (EmptyPart k) = FailsAsParts file (part_error.EmptyPart k)
Fails file (NotLocallyClosed k x y z) = FailsAsWhole file (part_error.Gap k x y z)

abbrev pub IsFirstRefusal : File → FileFault → Type 0
IsFirstRefusal file fault = first.IsFirst number place (Fails file) fault

abbrev pub IsClear : File → ℕ → Type 0
IsClear file n = first.IsClear number place (Fails file) n
