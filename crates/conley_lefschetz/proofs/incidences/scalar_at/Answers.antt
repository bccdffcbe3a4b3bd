use Rattle.std.proofs.Common.{◌≡◌, ◌<◌, ◌≤◌, ℕ, List, Bool, length, map, sym, ◌∙◌, ap, arith}
use Rattle.std.specs.Prelude.{◌==◌, ◌&&◌}
use Rattle.std.specs.List.{position_or_len}
use Rattle.std.proofs.lemmas.List.{get_or_default, get_or_past, length-map}
use Rattle.conley_chains.specs.Faults.{triple_at}
use Rattle.conley_lefschetz.specs.Making.{cells_in_triple}
use Rattle.conley_lefschetz.specs.Listing.{incidence_of}
use Rattle.conley_lefschetz.proofs.ColumnLemmas.{incidence_of-at, position_found, position_missed}
use Rattle.conley_lefschetz.proofs.TextLemmas.{position_or_len-map}
use Rattle.conley_lefschetz.proofs.incidences.scalar_at.Goals as goal

-- the test of a place
abbrev is_at : ℕ → ℕ → ℕ × ℕ → Bool
is_at x y q = (x == q.0) && (y == q.1)

scalar_of : (keys : List (ℕ × ℕ)) (is : List (ℕ × ℕ × ℕ)) → keys ≡ map cells_in_triple is → (x y : ℕ)
    → incidence_of is x y ≡ (triple_at is (position_or_len (is_at x y) keys)).2
scalar_of keys is same x y = incidence_of-at is x y ∙ ap (λ n. (triple_at is n).2) (sym (ap (position_or_len (is_at x y)) same
    ∙ position_or_len-map cells_in_triple (is_at x y) is))

pub returns-in-Some : goal.returns-in-Some
returns-in-Some c =
    let is = c.args.incidences.now in
    let n : position_or_len (is_at c.args.x c.args.y) c.args.places.now.keys ≡ c.in-Some.j =
    position_found (is_at c.args.x c.args.y) c.args.places.now.keys c.in-Some.j c.in-Some.ensures.index in
    let lt : c.in-Some.j < length is = omega (arith, c.in-Some.ensures.within, ap length c.requires, length-map is cells_in_triple) in
    sym (scalar_of c.args.places.now.keys is c.requires c.args.x c.args.y ∙ ap (λ k. (triple_at is k).2) n
    ∙ ap (λ (i : ℕ × ℕ × ℕ). i.2) (get_or_default is c.in-Some.j (0, 0, 0) c.index-incidences-j.result lt))

pub returns-in-None : goal.returns-in-None
returns-in-None c =
    let is = c.args.incidences.now in
    let n : length c.args.places.now.keys ≤ position_or_len (is_at c.args.x c.args.y) c.args.places.now.keys =
    position_missed (is_at c.args.x c.args.y) c.args.places.now.keys c.in-None.ensures.index in
    let past : triple_at is (position_or_len (is_at c.args.x c.args.y) c.args.places.now.keys) ≡ (0, 0, 0) =
    get_or_past is _ (0, 0, 0) (omega (arith, n, ap length c.requires, length-map is cells_in_triple)) in
    c.of.ensures ∙ sym (scalar_of c.args.places.now.keys is c.requires c.args.x c.args.y ∙ ap (λ (i : ℕ × ℕ × ℕ). i.2) past)
