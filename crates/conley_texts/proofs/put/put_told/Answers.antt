-- the line in three pieces: the word with the name, the numbers, the line feed
use Rattle.std.proofs.Common.{◌∙◌, ◌∷◌, ◌++◌, [], List, ℕ, ap, subst}
use Rattle.std.specs.Prelude.{decimal}
use Rattle.std.specs.List.{flat_map}
use Rattle.std.proofs.lemmas.Result.{err_from_is_err_and}
use Rattle.conley_first.specs.Told.{kept}
use Rattle.conley_first.specs.declared.told.Told.{Told}
use Rattle.conley_outside.specs.Sink.{gains, GainsPrefix}
use Rattle.conley_outside.proofs.GainsLemmas.{gains-gains, GainsPrefix-after, GainsPrefix-before}
use Rattle.conley_texts.proofs.JoinLemmas.{told_line}
use Rattle.conley_texts.proofs.put.put_told.Goals as goal

abbrev name_of : List ℕ → Told → List ℕ
name_of word told = word ++ (32 ∷ told.letter ∷ decimal told.number)

abbrev numbers_of : Told → List ℕ
numbers_of told = flat_map (λ n. 32 ∷ decimal n) (kept told)

pub returns-in_err-put_name-clause-err : goal.returns-in_err-put_name-clause-err
returns-in_err-put_name-clause-err g c =
    let p = err_from_is_err_and c.from_residual.result c.from_residual.ensures.1 in
    let told = c.args.told.now in
    let word = c.args.word.now in
    let P : List ℕ → Type 0 = λ t. GainsPrefix (g.S.Sink.written c.args.sink.now) t (g.S.Sink.written c.put_name.new.sink) in
    rw (p.1) (subst P (told_line word (told.letter ∷ decimal told.number) (kept told))
    (GainsPrefix-before _ _ (name_of word told) (numbers_of told ++ 10 ∷ []) c.in_err-put_name.ensures.err))

pub returns-in_err-put_numbers-clause-err : goal.returns-in_err-put_numbers-clause-err
returns-in_err-put_numbers-clause-err g c =
    let p = err_from_is_err_and c.from_residual-in_err-put_numbers.result c.from_residual-in_err-put_numbers.ensures.1 in
    let told = c.args.told.now in
    let word = c.args.word.now in
    let P : List ℕ → Type 0 = λ t. GainsPrefix (g.S.Sink.written c.args.sink.now) t (g.S.Sink.written c.put_numbers.new.sink) in
    let Q : List ℕ → Type 0 = λ ns. GainsPrefix (g.S.Sink.written c.put_name.new.sink) (flat_map (λ n. 32 ∷ decimal n) ns)
    (g.S.Sink.written c.put_numbers.new.sink) in
    rw (p.1) (subst P (told_line word (told.letter ∷ decimal told.number) (kept told))
    (GainsPrefix-after _ _ _ (name_of word told) (numbers_of told ++ 10 ∷ []) c.in_ok-put_name.ensures.ok
    (GainsPrefix-before _ _ (numbers_of told) (10 ∷ []) (subst Q c.kept.ensures c.in_err-put_numbers.ensures.err))))

pub returns-in_err-put_whole-clause-err : goal.returns-in_err-put_whole-clause-err
returns-in_err-put_whole-clause-err g c =
    let p = err_from_is_err_and c.from_residual-in_err-put_whole.result c.from_residual-in_err-put_whole.ensures.1 in
    let told = c.args.told.now in
    let word = c.args.word.now in
    let P : List ℕ → Type 0 = λ t. GainsPrefix (g.S.Sink.written c.args.sink.now) t (g.S.Sink.written c.put_whole.new.sink) in
    let numbers = c.in_ok-put_numbers.ensures.ok ∙ ap (λ ns. gains (g.S.Sink.written c.put_name.new.sink) (flat_map (λ n. 32 ∷ decimal n) ns)) c.kept.ensures in
    rw (p.1) (subst P (told_line word (told.letter ∷ decimal told.number) (kept told))
    (GainsPrefix-after _ _ _ (name_of word told) (numbers_of told ++ 10 ∷ []) c.in_ok-put_name.ensures.ok
    (GainsPrefix-after _ _ _ (numbers_of told) (10 ∷ []) numbers c.in_err-put_whole.ensures.err)))

pub returns-clause-ok : goal.returns-clause-ok
returns-clause-ok g c =
    let told = c.args.told.now in
    let word = c.args.word.now in
    let old = g.S.Sink.written c.args.sink.now in
    let numbers = c.in_ok-put_numbers.ensures.ok ∙ ap (λ ns. gains (g.S.Sink.written c.put_name.new.sink) (flat_map (λ n. 32 ∷ decimal n) ns)) c.kept.ensures in
    c.in_ok-put_whole.ensures.ok ∙ ap (λ w. gains w (10 ∷ [])) numbers ∙ gains-gains (g.S.Sink.written c.put_name.new.sink) (numbers_of told) (10 ∷ [])
    ∙ ap (λ w. gains w (numbers_of told ++ 10 ∷ [])) c.in_ok-put_name.ensures.ok ∙ gains-gains old (name_of word told) (numbers_of told ++ 10 ∷ [])
    ∙ ap (gains old) (told_line word (told.letter ∷ decimal told.number) (kept told))
