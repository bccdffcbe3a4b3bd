use Rattle.conley_lists.proofs.PairLemmas.{same_pair, same_pair-true, same_pair-itself}
use Rattle.conley_lefschetz.proofs.IncidenceLemmas.{notes}
use Rattle.conley_lefschetz.proofs.incidences.note_cells.Goals as goal

pub returns : goal.returns
returns c = notes same_pair same_pair-true same_pair-itself c.args.stood.now.keys c.insert.new.self.keys c.args.x c.args.y c.in_ok-insert.field-0
    c.in_ok-insert.ensures.added c.in_ok-insert.ensures.keys
