-- A depot in memory, as its callers see it.
--     file_of depot name      the bytes of the file of a name, if there is one
--     next depot              the number of the next fetch, counted from 0
--     failing depot           the number of the fetch that is told to fail
--     fault_count depot       how many fetches failed as they were told
--     HasSameFiles old new    all but the number of the fetch that is told to fail is as before
-- The wording is this project's own.
use Rattle.std.specs.Prelude.{◌≡◌, ℕ, List, Option, option_map}
use Rattle.std.specs.BTreeMap.{get_by_text}
use Rattle.conley_outside.specs.declared.memory_depot.MemoryDepot.{MemoryDepot}

-- a name is a list of bytes
abbrev pub file_of : MemoryDepot → List ℕ → Option (List ℕ)
file_of depot name = option_map (λ file. file.items) (get_by_text depot.files name)

-- none after every number of 64 bits is past
abbrev pub next : MemoryDepot → Option ℕ
next depot = depot.next

-- none where no fetch is told to fail
abbrev pub failing : MemoryDepot → Option ℕ
failing depot = depot.fail_at

-- in 64 bits
abbrev pub fault_count : MemoryDepot → ℕ
fault_count depot = depot.faults

-- the same files, the same number of fetches and of faults
pub record HasSameFiles (old new : MemoryDepot) : Type 0 where
  pub files : file_of new ≡ file_of old
  pub next : next new ≡ next old
  pub faults : fault_count new ≡ fault_count old
