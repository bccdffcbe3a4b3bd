-- The numbers from a on, and lists made from them.
use Rattle.std.proofs.Common.{◌≡◌, ◌+◌, ◌-◌, ◌*◌, ◌<◌, ◌≤◌, ℕ, zero, suc, List, [], ◌∷◌, ◌++◌, length, sym, ◌∙◌, ap, subst, arith}
use Rattle.std.specs.Prelude.{Contains, map}
use Rattle.std.specs.List.{flat_map, range_with_len}
use Rattle.std.specs.List.Sorted.{IsStrictlyIncreasing}
use Rattle.std.proofs.Common.{inl, inr, length-append}
use Rattle.std.proofs.lemmas.List.{flat_map_more}
use Rattle.std.proofs.lemmas.List.Elements.{Contains-append_left, Contains-append_right}
use Rattle.std.proofs.lemmas.List.FromFn.{length-range_with_len, get_or-range_with_len, length-map-range_with_len}
use Rattle.conley_lists.proofs.ContainsLemmas.{Contains-cases}

pub range_has : (a n y : ℕ) → a ≤ y → y < a + n → Contains (range_with_len a n) y
range_has a n y low high =
    let lt : y - a < n = omega arith in
    (y - a, omega (arith, length-range_with_len a n), get_or-range_with_len a n (y - a) y lt ∙ omega arith)

pub range_only : (n y : ℕ) → Contains (range_with_len 0 n) y → y < n
range_only n y c =
    let lt : c.0 < n = omega (arith, c.1, length-range_with_len 0 n) in
    omega (arith, get_or-range_with_len 0 n c.0 y lt, c.2)

pub range_ascends : (n : ℕ) → IsStrictlyIncreasing (range_with_len 0 n)
range_ascends n k lt =
    let next : k + 1 < n = omega (arith, length-range_with_len 0 n) in
    let here : k < n = omega arith in
    omega (arith, get_or-range_with_len 0 n k 0 here, get_or-range_with_len 0 n (k + 1) 0 next)

-- one number more
pub range_more : (a n : ℕ) → range_with_len a (suc n) ≡ range_with_len a n ++ (a + n) ∷ []
range_more a zero = let e : a ≡ a + 0 = omega arith in ap (λ q. q ∷ []) e
range_more a (suc n) =
    let e : (a + 1) + n ≡ a + suc n = omega arith in
    ap (λ (q : List ℕ). a ∷ q) (range_more (a + 1) n ∙ ap (λ q. range_with_len (a + 1) n ++ q ∷ []) e)

pub flat_range_more : {A : Type 0} (f : ℕ → List A) (n : ℕ) → flat_map f (range_with_len 0 (n + 1)) ≡ flat_map f (range_with_len 0 n) ++ f n
flat_range_more f n =
    let one : n + 1 ≡ suc n = omega arith in
    let last : 0 + n ≡ n = omega arith in
    ap (λ m. flat_map f (range_with_len 0 m)) one ∙ ap (flat_map f) (range_more 0 n) ∙ ap (λ m. flat_map f (range_with_len 0 n ++ m ∷ [])) last
    ∙ sym (flat_map_more f [] (range_with_len 0 n) n)

-- rows of equal length
pub length-rows : {A : Type 0} (f : ℕ → ℕ → A) (b m a n : ℕ) → length (flat_map (λ i. map (f i) (range_with_len b m)) (range_with_len a n)) ≡ n * m
length-rows f b m a zero = omega arith
length-rows f b m a (suc n) =
    let row = length-map-range_with_len (f a) b m in
    let rest = length-rows f b m (a + 1) n in
    let both = length-append (map (f a) (range_with_len b m)) (flat_map (λ i. map (f i) (range_with_len b m)) (range_with_len (a + 1) n)) in
    omega arith

-- what stands in a row stands in the rows
pub flat_has : {X A : Type 0} (f : X → List A) (xs : List X) (x : X) (y : A) → Contains xs x → Contains (f x) y → Contains (flat_map f xs) y
flat_has f [] x y c d = absurd (omega (arith, c.1))
flat_has f (z ∷ xs) x y c d = elim (Contains-cases z xs x c) [
  | inl e ↦ Contains-append_left (f z) (flat_map f xs) y (subst (λ q. Contains (f q) y) e d)
  | inr later ↦ Contains-append_right (f z) (flat_map f xs) y (flat_has f xs x y later d)
]
