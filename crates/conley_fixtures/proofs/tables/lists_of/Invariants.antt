use Rattle.std.proofs.Common.{◌≡◌, ◌≤◌, ◌*◌, length}
use Rattle.conley_lists.specs.Lists.{items_of, entries_of}
use Rattle.conley_fixtures.proofs.tables.lists_of.Given as goal

abbrev pub invariant-loop-row : goal.invariant-loop-row
invariant-loop-row l = (length l.lists.items ≡ l.row-index) × (length (entries_of (items_of l.lists.items)) ≤ 100 * l.row-index)
