use Rattle.std.proofs.Common.{◌≡◌, ◌++◌, ◌∷◌, [], List, ℕ, Bool, Vec, Global, sym, ◌∙◌, ap, subst, arith, append_assoc}
use Rattle.std.specs.Prelude.{Contains, map}
use Rattle.std.proofs.lemmas.List.{map-append, append-nil, nil_from_length}
use Rattle.std.proofs.lemmas.List.Elements.{All-contains, Contains-append_right}
use Rattle.conley_lists.specs.Lists.{items_of}
use Rattle.conley_generated.specs.Rule.{only_cells}
use Rattle.conley_generated.specs.Making.{faces_of, triple_of}
use Rattle.conley_lists.proofs.ContainsLemmas.{Contains-first}
use Rattle.conley_generated.proofs.GrowLemmas.{only_cells-append}
use Rattle.conley_generated.proofs.incidences.add_incidences.Goals as goal

pub loop-face-init : goal.loop-face-init
loop-face-init g c = record { rest = c.into_iter-face-iterator.ensures.into_iter_gives.0; added = sym (append-nil c.args.incidences.now.items) }

pub number_of-y-requires-clause-there : goal.number_of-y-requires-clause-there
number_of-y-requires-clause-there g c =
    let one : Vec ℕ Global × Bool = (c.in-Some.face, c.in-Some.minus) in
    let cells = items_of c.args.numbers.now.keys in
    let rest : List (Vec ℕ Global × Bool) = c.next.new.self.rest.items in
    let whole : c.loop-face.yielded ++ one ∷ rest ≡ c.args.faces.items = ap (λ r. c.loop-face.yielded ++ r) (sym c.in-Some.ensures.steps.0)
    ∙ c.loop-face.invariant.rest in
    let split : only_cells (faces_of c.args.faces.items) ≡ only_cells (faces_of c.loop-face.yielded) ++ c.in-Some.face.items ∷ only_cells (faces_of rest) =
    sym (ap (λ l. only_cells (faces_of l)) whole) ∙ only_cells-append c.loop-face.yielded (one ∷ rest) in
    subst (Contains cells) (sym c.deref.ensures.value)
    (All-contains (Contains cells) (only_cells (faces_of c.args.faces.items)) c.in-Some.face.items c.requires.there
    (subst (λ (l : List (List ℕ)). Contains l c.in-Some.face.items) (sym split)
    (Contains-append_right (only_cells (faces_of c.loop-face.yielded)) (c.in-Some.face.items ∷ only_cells (faces_of rest)) c.in-Some.face.items
    (Contains-first c.in-Some.face.items (only_cells (faces_of rest))))))

pub loop-face-preserved : goal.loop-face-preserved
loop-face-preserved g c =
    let one : Vec ℕ Global × Bool = (c.in-Some.face, c.in-Some.minus) in
    let F = g.F.Field.arithmetic c.args.field.now in
    let cells = items_of c.args.numbers.now.keys in
    let memory : Vec ℕ Global × Bool → List ℕ × Bool = λ face. (face.0.items, face.1) in
    let triple : ℕ × ℕ × ℕ = triple_of F cells c.args.x (c.in-Some.face.items, c.in-Some.minus) in
    let same : ◌≡◌ {A = ℕ × ℕ × ℕ} (c.args.x, c.number_of-y.result, c.sign_of.result) triple =
    more c.args.x c.number_of-y.result c.sign_of.result triple.1 triple.2 (c.number_of-y.ensures
    ∙ ap (λ s. (triple_of F cells c.args.x (s, c.in-Some.minus)).1) c.deref.ensures.value) c.sign_of.ensures in
    record {
      rest = append_assoc c.loop-face.yielded (one ∷ []) c.next.new.self.rest.items ∙ ap (λ r. c.loop-face.yielded ++ r) (sym c.in-Some.ensures.steps.0)
          ∙ c.loop-face.invariant.rest;
      added = c.in_ok-push.ensures.items ∙ ap (λ (t : ℕ × ℕ × ℕ). c.loop-face.incidences.items ++ t ∷ []) same
          ∙ ap (λ l. l ++ triple ∷ []) c.loop-face.invariant.added
          ∙ append_assoc c.args.incidences.now.items (map (triple_of F cells c.args.x) (faces_of c.loop-face.yielded)) (triple ∷ [])
          ∙ ap (λ l. c.args.incidences.now.items ++ l) (sym (ap (map (triple_of F cells c.args.x)) (map-append memory c.loop-face.yielded (one ∷ []))
          ∙ map-append (triple_of F cells c.args.x) (faces_of c.loop-face.yielded) (memory one ∷ [])));
    }
  where
    more : (x y a y' a' : ℕ) → y ≡ y' → a ≡ a' → ◌≡◌ {A = ℕ × ℕ × ℕ} (x, y, a) (x, y', a')
    more x y a y' a' e f = cc

pub returns : goal.returns
returns g c =
    let F = g.F.Field.arithmetic c.args.field.now in
    let cells = items_of c.args.numbers.now.keys in
    let none = nil_from_length c.loop-face.face-iterator.rest.items (omega (arith, c.in-None.ensures.steps.0, c.loop-face.face-iterator.rest.ok.0)) in
    let whole : c.loop-face.yielded ≡ c.args.faces.items = sym (append-nil c.loop-face.yielded) ∙ ap (λ r. c.loop-face.yielded ++ r) (sym none)
    ∙ c.loop-face.invariant.rest in
    c.loop-face.invariant.added ∙ ap (λ l. c.args.incidences.now.items ++ map (triple_of F cells c.args.x) (faces_of l)) whole
