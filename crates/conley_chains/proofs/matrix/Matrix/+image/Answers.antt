use Rattle.std.proofs.Common.{arith, length-take, length-drop, ℕ, length, ◌/◌, ◌-◌, ◌<◌, ◌≡◌, ◌∙◌, ap, List, take, drop}
use Rattle.std.proofs.lemmas.List.{take_all}
use Rattle.std.proofs.lemmas.List.Elements.{All-take, All-drop}
use Rattle.conley_algebra.specs.Entries.{image_of}
use Rattle.conley_chains.specs.Chain.{coefficient}
use Rattle.conley_chains.specs.Matrix.{entry, column_count}
use Rattle.conley_chains.proofs.ChainLemmas.{IsChain-take, IsChain-drop}
use Rattle.conley_chains.proofs.MatrixLemmas.{image-halves}
use Rattle.conley_chains.proofs.matrix.Matrix.+image.Goals as goal

pub image-requires : goal.image-requires
image-requires g t c κs within =
    let es = c.args.entries.now in
    let half = length c.args.entries.now / 2 in (
      omega (arith, length-take half es),
      (
        within,
        (
          IsChain-take half es c.requires.chain,
          (
            All-take (λ (e : ℕ × ℕ). e.0 < column_count c.args.self.now) half es c.requires.fits,
            (c.requires.codes, All-take (λ (e : ℕ × ℕ). e.1 < (g.F.Field.arithmetic c.args.field.now).order) half es c.requires.chain_codes),
          ),
        ),
      ),
    )

pub image-requires-2 : goal.image-requires-2
image-requires-2 g t c κs within =
    let es = c.args.entries.now in
    let half = length c.args.entries.now / 2 in
    let rest = drop half es in (
      omega (arith, length-take (length es - half) rest, length-drop half es),
      (
        within,
        (
          IsChain-take (length es - half) rest (IsChain-drop half es c.requires.chain),
          (
            All-take (λ (e : ℕ × ℕ). e.0 < column_count c.args.self.now) (length es - half) rest
                (All-drop (λ (e : ℕ × ℕ). e.0 < column_count c.args.self.now) half es c.requires.fits),
            (
              c.requires.codes,
              All-take (λ (e : ℕ × ℕ). e.1 < (g.F.Field.arithmetic c.args.field.now).order) (length es - half) rest
                  (All-drop (λ (e : ℕ × ℕ). e.1 < (g.F.Field.arithmetic c.args.field.now).order) half es c.requires.chain_codes),
            ),
          ),
        ),
      ),
    )

pub returns-clause-image : goal.returns-clause-image
returns-clause-image g t c row =
    let F = g.F.Field.arithmetic c.args.field.now in
    let m = c.args.self.now in
    let es = c.args.entries.now in
    let half = length c.args.entries.now / 2 in
    let rest : take (length es - half) (drop half es) ≡ drop half es = take_all (length es - half) (drop half es) (omega (arith, length-drop half es)) in
    c.in_ok-sum.ensures.sum row
    ∙ ap (λ (one : ℕ). F.add (coefficient c.in_ok-first.first row) (F.mul one (coefficient c.in_ok-rest.rest row))) c.one.ensures
    ∙ image-halves (g.met.F.Field.is_field c.args.field.now) m es half row (coefficient c.in_ok-first.first row) (coefficient c.in_ok-rest.rest row)
    c.requires.chain c.requires.chain_codes
    (c.in_ok-first.ensures.image row) (c.in_ok-rest.ensures.image row ∙ ap (λ (xs : List (ℕ × ℕ)). image_of F (column_count m) (entry m) (coefficient xs) row)
    rest)
