-- The refusal of a file of which no complex can be made, and of one whose parts make no partition.
--     cells_error error        of listed cells
--     simplices_error error    of vertices and simplices
--     cubes_error error        of axes and cubes
--     part_error error         of parts
use Rattle.conley_lefschetz.specs.declared.error.ComplexError.{ComplexError}
use Rattle.conley_lefschetz.specs.declared.error.ComplexError.TheVariants as cells
use Rattle.conley_simplicial.specs.declared.error.SimplicialError.{SimplicialError}
use Rattle.conley_simplicial.specs.declared.error.SimplicialError.TheVariants as simplices
use Rattle.conley_cubical.specs.declared.error.CubicalError.{CubicalError}
use Rattle.conley_cubical.specs.declared.error.CubicalError.TheVariants as cubes
use Rattle.conley_mvf.specs.declared.error.PartError.{PartError}
use Rattle.conley_mvf.specs.declared.error.PartError.TheVariants as part
use Rattle.conley_input.specs.declared.error.FileFault.TheVariants as fault
use Rattle.conley_input.specs.declared.error.InputError.{InputError}
use Rattle.conley_input.specs.declared.error.InputError.TheVariants.{Bad, NoMemory}

abbrev pub cells_error : ComplexError → InputError
cells_error (cells.DuplicateLabel i j) = Bad (fault.DuplicateLabel i j)
cells_error (cells.BadIncidence k why) = Bad (fault.BadIncidence k why)
cells_error (cells.NotBoundary x z) = Bad (fault.NotBoundary x z)
cells_error cells.NoMemory = NoMemory

abbrev pub simplices_error : SimplicialError → InputError
simplices_error (simplices.BadLabel k) = Bad (fault.BadLabel k)
simplices_error (simplices.DuplicateLabel i j) = Bad (fault.DuplicateLabel i j)
simplices_error (simplices.BadSimplex k) = Bad (fault.BadSimplex k)
simplices_error (simplices.TooManyCells least) = Bad (fault.TooManyCells least)
simplices_error simplices.NoMemory = NoMemory

abbrev pub cubes_error : CubicalError → InputError
cubes_error (cubes.BadAxes axes) = Bad (fault.BadAxes axes)
cubes_error (cubes.BadCube k) = Bad (fault.BadCube k)
cubes_error (cubes.TooManyCells least) = Bad (fault.TooManyCells least)
cubes_error cubes.NoMemory = NoMemory

abbrev pub part_error : PartError → InputError
part_error (part.Unknown list at) = Bad (fault.UnknownCell list at)
part_error (part.Repeated list at) = Bad (fault.RepeatedCell list at)
part_error (part.EmptyPart k) = Bad (fault.EmptyPart k)
part_error (part.Gap k x y z) = Bad (fault.NotLocallyClosed k x y z)
part_error part.NoMemory = NoMemory
