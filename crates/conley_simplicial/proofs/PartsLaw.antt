-- A simplex with k vertices has 2^k - 1 parts that aren't empty.
use Rattle.std.proofs.Common.{◌≡◌, ◌≢◌, inr, ◌+◌, ◌*◌, ◌^◌, ◌<◌, ◌≤◌, ℕ, zero, suc, List, [], ◌∷◌, ◌++◌, length, map, get_or, ap, arith, length-append}
use Rattle.std.specs.Prelude.{All, Contains}
use Rattle.std.proofs.Math.Nat.{pow-suc}
use Rattle.std.proofs.lemmas.List.{length-map}
use Rattle.std.proofs.lemmas.List.Elements.{All-head, All-cons, All-append, All-map, All-weaker, All-contains, All-nil}
use Rattle.conley_lists.proofs.ContainsLemmas.{Contains-first, Contains-rest}
use Rattle.conley_lists.specs.Lists.{AreApart}
use Rattle.conley_generated.proofs.CellLemmas.{pairs_append, pairs_head, pairs_tail, behind_apart, apart_cons}
use Rattle.conley_simplicial.specs.Simplex.{IsSimplex}
use Rattle.conley_simplicial.specs.Fault.{AreMore}
use Rattle.conley_simplicial.proofs.FaceLemmas.{Ascends, Less, ascends_to, ascends_cons}

abbrev parts : List ℕ → List (List ℕ)
parts [] = []
parts (v ∷ s) = parts s ++ map (λ t. v ∷ t) ([] ∷ parts s)

many : (k : ℕ) (s : List ℕ) → k ≤ length s → 2 ^ k ≤ length (parts s) + 1
many zero s le = omega arith
many (suc k) [] le = absurd (omega (arith, le))
many (suc k) (v ∷ s) le =
    let rest = many k s (omega (arith, le)) in
    let long = length-append (parts s) (map (λ t. v ∷ t) ([] ∷ parts s)) in
    let mapped = length-map ([] ∷ parts s) (λ (t : List ℕ). v ∷ t) in
    let double : 2 ^ suc k ≡ 2 ^ k * 2 = pow-suc 2 k in
    omega (arith, rest, long, mapped, double)

record IsSome (s t : List ℕ) : Type 0 where
  ascends : Ascends t
  within : All (Contains s) t
  some : 0 < length t

alone : (v : ℕ) → Ascends (v ∷ [])
alone v i j d less lt = absurd (omega (arith, less, lt))

parts_some : (s : List ℕ) → Ascends s → All (IsSome s) (parts s)
parts_some [] up = All-nil (IsSome [])
parts_some (v ∷ s) up =
    let rest = parts_some s (pairs_tail Less v s up) in
    All-append (IsSome (v ∷ s)) (parts s) (map (λ t. v ∷ t) ([] ∷ parts s))
    (All-weaker (IsSome s) (IsSome (v ∷ s)) (λ t some. record {
      ascends = some.ascends;
      within =
          All-weaker (Contains s) (Contains (v ∷ s)) (λ w c. Contains-rest v s w c) t some.within;
      some = some.some;
    }) (parts s) rest)
    (All-cons (IsSome (v ∷ s)) (v ∷ []) (map (λ t. v ∷ t) (parts s))
    (record { ascends = alone v; within = All-cons (Contains (v ∷ s)) v [] (Contains-first v s) (All-nil (Contains (v ∷ s))); some = omega arith })
    (All-map (IsSome (v ∷ s)) (λ (t : List ℕ). v ∷ t) (parts s) (All-weaker (IsSome s) (λ t. IsSome (v ∷ s) (v ∷ t)) (λ t some. record {
      ascends = ascends_cons v t (All-weaker (Contains s) (Less v) (λ w c. All-contains (Less v) s w (pairs_head Less v s up) c) t some.within) some.ascends;
      within = All-cons (Contains (v ∷ s)) v t (Contains-first v s) (All-weaker (Contains s) (Contains (v ∷ s)) (λ w c. Contains-rest v s w c) t some.within);
      some = omega arith;
    }) (parts s) rest)))

parts_apart : (s : List ℕ) → Ascends s → AreApart (parts s)
parts_apart [] up = λ i j d less lt. absurd (omega (arith, lt))
parts_apart (v ∷ s) up =
    let rest = pairs_tail Less v s up in
    pairs_append (λ (t : List ℕ) (u : List ℕ). t ≢ u) (parts s) (map (λ t. v ∷ t) ([] ∷ parts s)) (parts_apart s rest)
    (behind_apart v ([] ∷ parts s) (apart_cons [] (parts s) (All-weaker (IsSome s) (λ t. [] ≢ t) (λ t some e. absurd (omega (arith, some.some, ap length e)))
    (parts s) (parts_some s rest)) (parts_apart s rest)))
    (λ i d lt. All-map (λ u. get_or (parts s) i d ≢ u) (λ (t : List ℕ). v ∷ t) ([] ∷ parts s) (λ j e lt' same.
    not_head (get_or (parts s) i d) (get_or ([] ∷ parts s) j e) (parts_some s rest i d lt).within same))
  where
    not_head : (t u : List ℕ) → All (Contains s) t → t ≢ v ∷ u
    not_head [] u within e = cc
    not_head (w ∷ t) u within e =
        let same : w ≡ v = cc in
        let above = All-contains (Less v) s w (pairs_head Less v s up) (All-head (Contains s) w t within) in
        absurd (omega (arith, same, above))

-- more than 27 vertices of one listed simplex have too many parts
pub long_has_more : (n : ℕ) (simplices : List (List ℕ)) (most k : ℕ) (s : List ℕ) → most < 2 ^ 27 → k < length simplices → Ascends s
    → All (Contains (get_or simplices k [])) s → 27 < length s → AreMore n simplices most
long_has_more n simplices most k s few lt up within long = record {
  some = parts s;
  apart = parts_apart s up;
  are = All-weaker (IsSome s) (IsSimplex n simplices) (λ t some. record {
    ascending = ascends_to t some.ascends;
    some = some.some;
    among = inr (
      k,
      lt,
      All-weaker (Contains s) (Contains (get_or simplices k [])) (λ v c. All-contains (Contains (get_or simplices k [])) s v within c) t
          some.within,
    );
  }) (parts s) (parts_some s up);
  more = omega (arith, few, many 28 s (omega (arith, long)));
}
