use Rattle.std.proofs.Common.{arith, Bor, List, ℕ, []}
use Rattle.std.proofs.lemmas.Grind.{common_steps}
use Rattle.std.proofs.lemmas.Result.{err_from_is_err_and}
use Rattle.conley_outside.proofs.GainsLemmas.{gains-gains}
use Rattle.conley_texts.proofs.PieceLemmas.{GainsPrefix-piece}
use Rattle.conley_texts.proofs.put.put_pieces.Goals as goal

pub loop-piece-preserved : goal.loop-piece-preserved
loop-piece-preserved g c = record {
  written = grind (arith, common_steps, gains-gains);
  later = omega (arith, c.in_ok-put_whole.ensures.cause.later);
}

pub returns-in_err-put_whole-clause-err : goal.returns-in_err-put_whole-clause-err
returns-in_err-put_whole-clause-err g c =
    let p = err_from_is_err_and c.from_residual.result c.from_residual.ensures.1 in
    let nothing : Bor (List ℕ) = record { ref_ptr = (0, 0); now = [] } in
    rw (p.1) (GainsPrefix-piece (λ (piece : Bor (List ℕ)). piece.now) c.args.pieces.now c.loop-piece.piece-index nothing _ _ _ (omega arith)
    c.loop-piece.invariant.written c.in_err-put_whole.ensures.err)
