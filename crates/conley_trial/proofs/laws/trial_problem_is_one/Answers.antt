use Rattle.conley_trial.proofs.OnceLemmas.{problem_once}
use Rattle.conley_trial.proofs.laws.trial_problem_is_one.Goals as goal

pub returns : goal.returns
returns c = problem_once
