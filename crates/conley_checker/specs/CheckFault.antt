-- What want of memory becomes.
--     no_memory e error    the error is `NoMemory`
use Rattle.std.specs.Prelude.{◌≡◌}
use Rattle.std.specs.declared.alloc.AllocError.{AllocError}
use Rattle.conley_checker.specs.declared.check_error.CheckError.{CheckError}
use Rattle.conley_checker.specs.declared.check_error.CheckError.TheVariants.{NoMemory}

abbrev pub no_memory : AllocError → CheckError → Type 0
no_memory e error = error ≡ NoMemory
