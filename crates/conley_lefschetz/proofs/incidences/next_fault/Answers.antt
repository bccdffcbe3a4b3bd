use Rattle.std.proofs.Common.{arith, refl, inr}
use Rattle.conley_lefschetz.proofs.incidences.next_fault.Goals as goal

pub returns-then-branch : goal.returns-then-branch
returns-then-branch c = record {
  fault = λ ne. absurd (ne refl);
  least = λ other lt. absurd (omega arith);
  none = λ _. c.fault_alone-why.ensures.none c.if-why-ne0.false;
  few = omega arith;
  fresh = λ _. c.in_ok-note_cells.ensures.fresh c.if-branch.true;
  noted = λ _. c.in_ok-note_cells.ensures.noted c.if-branch.true;
}

pub returns : goal.returns
returns c = record {
  fault = λ _. inr (refl, c.in_ok-note_cells.ensures.stood c.if-branch.false);
  least = λ other _. c.fault_alone-why.ensures.none c.if-why-ne0.false other;
  none = λ e. absurd (omega arith);
  few = omega arith;
  fresh = λ e. absurd (omega arith);
  noted = λ e. absurd (omega arith);
}
