-- Images of vectors, and sums whose terms stand at listed places.
use Rattle.std.proofs.Common.{◌≡◌, ◌≢◌, ℕ, zero, suc, ◌<◌, ◌==◌, cond, ap, sym, ◌∙◌, arith, refl, inl, inr}
use Rattle.std.proofs.lemmas.Bool.{cases_eq, eq-eqb, ne_eqb}
use Rattle.conley_field.specs.Arithmetic.{Arithmetic, IsField}
use Rattle.conley_algebra.specs.Sum.{sum_below}
use Rattle.conley_algebra.specs.Entries.{Vector, Entries, image_of, product_of, plus_of, SameEntries}
use Rattle.conley_algebra.specs.Homology.{combination}
use Rattle.conley_algebra.proofs.SumLemmas as sums
use Rattle.conley_algebra.proofs.MatrixLemmas as matrices

module _ {F : Arithmetic} (laws : IsField F) where
  pub term_zero : (x y : ℕ) → (x ≢ 0 → y ≢ 0 → ⊥) → F.mul x y ≡ 0
  term_zero x y never = elim (cases_eq x 0) [
    | inl none ↦ ap (λ t. F.mul t y) none ∙ sums.zero-mul laws y
    | inr some ↦ elim (cases_eq y 0) [ inl none ↦ ap (F.mul x) none ∙ sums.mul-zero laws x | inr other ↦ absurd (never some other) ]
  ]

  -- the image of an image
  pub image-image : (m n : ℕ) (a b : Entries) (v : Vector) (row : ℕ) → image_of F m a (image_of F n b v) row ≡ image_of F n (product_of F m a b) v row
  image-image m n a b v row = sym (ap (λ (e : Entries). e row 0) (matrices.product-assoc laws m n a b (λ k column. v k)))

  pub image-plus : (n : ℕ) (a b : Entries) (v : Vector) (row : ℕ) → image_of F n (plus_of F a b) v row ≡ F.add (image_of F n a v row) (image_of F n b v row)
  image-plus n a b v row = ap (λ (e : Entries). e row 0) (matrices.plus-product laws n a b (λ k column. v k))

  pub image-congr : (n : ℕ) (a b : Entries) (v : Vector) (row : ℕ) → SameEntries a b → image_of F n a v row ≡ image_of F n b v row
  image-congr n a b v row same = sums.sum_below-congr laws n _ _ (λ k below. ap (λ t. F.mul t (v k)) (same row k))

  pub image-add : (n : ℕ) (a : Entries) (u v : Vector) (row : ℕ) → image_of F n a (λ x. F.add (u x) (v x)) row ≡ F.add (image_of F n a u row)
      (image_of F n a v row)
  image-add n a u v row = ap (λ (e : Entries). e row 0) (matrices.product-plus laws n a (λ k column. u k) (λ k column. v k))

  pub image-mul : (n : ℕ) (a : Entries) (c : ℕ) (v : Vector) (row : ℕ) → image_of F n a (λ x. F.mul c (v x)) row ≡ F.mul c (image_of F n a v row)
  image-mul n a c v row =
      sums.sum_below-congr laws n _ _ (λ k below. sym (laws.mul_assoc (a row k) c (v k)) ∙ ap (λ t. F.mul t (v k)) (laws.mul_comm (a row k) c)
      ∙ laws.mul_assoc c (a row k) (v k))
      ∙ sym (sums.mul-sum_below laws n c (λ k. F.mul (a row k) (v k)))

  pub image-zero : (n : ℕ) (a : Entries) (row : ℕ) → image_of F n a (λ x. 0) row ≡ 0
  image-zero n a row = sums.sum_below-zero laws n _ (λ k below. sums.mul-zero laws (a row k))

  pub image-combination : (n r : ℕ) (a : Entries) (z : ℕ → Vector) (c : Vector) (row : ℕ) → image_of F n a (combination F r z c) row ≡ sum_below F r
      (λ i. F.mul (c i) (image_of F n a (z i) row))
  image-combination n r a z c row =
      sums.sum_below-congr laws n _ _ (λ k below. sums.mul-sum_below laws r (a row k) (λ i. F.mul (c i) (z i k)))
      ∙ sums.sum_below-exchange laws n r (λ k i. F.mul (a row k) (F.mul (c i) (z i k)))
      ∙ sums.sum_below-congr laws r _ _ (λ i below.
      sums.sum_below-congr laws n _ _ (λ k k_below. sym (laws.mul_assoc (a row k) (c i) (z i k)) ∙ ap (λ t. F.mul t (z i k)) (laws.mul_comm (a row k) (c i))
      ∙ laws.mul_assoc (c i) (a row k) (z i k))
      ∙ sym (sums.mul-sum_below laws n (c i) (λ k. F.mul (a row k) (z i k))))

  -- an entry of an image that isn't zero comes from some place
  pub image-not_zero : (n : ℕ) (a : Entries) (v : Vector) (row : ℕ) → image_of F n a v row ≢ 0 → (x : ℕ) × ((a row x ≢ 0) × (v x ≢ 0))
  image-not_zero n a v row not_zero =
      let some : (x : ℕ) × ((x < n) × (F.mul (a row x) (v x) ≢ 0)) = sums.sum_below-not_zero laws n (λ k. F.mul (a row k) (v k)) not_zero in
      (some.0, (sums.mul-not_zero_left laws (a row some.0) (v some.0) some.1.1, sums.mul-not_zero_right laws (a row some.0) (v some.0) some.1.1))

  without : (ℕ → ℕ) → ℕ → ℕ → ℕ
  without f place k = cond (k == place) 0 (f k)

  without-at : (f : ℕ → ℕ) (place k : ℕ) → k ≡ place → without f place k ≡ 0
  unfolding without
  without-at f place k same = ap (λ b. cond b 0 (f k)) (eq-eqb k place same)

  without-other : (f : ℕ → ℕ) (place k : ℕ) → k ≢ place → without f place k ≡ f k
  unfolding without
  without-other f place k other = ap (λ b. cond b 0 (f k)) (ne_eqb k place other)

  -- a sum whose terms are zero but at the listed places
  pub sum_by_list : (n r : ℕ) (list : ℕ → ℕ) (f : ℕ → ℕ) → ((i : ℕ) → i < r → list i < n) → ((i j : ℕ) → i < r → j < r → list i ≡ list j → i ≡ j)
      → ((k : ℕ) → k < n → f k ≢ 0 → (i : ℕ) × ((i < r) × (list i ≡ k))) → sum_below F n f ≡ sum_below F r (λ i. f (list i))
  sum_by_list n zero list f within distinct support =
      sums.sum_below-zero laws n f (λ k below. elim (cases_eq (f k) 0) [
        | inl none ↦ none
        | inr
            some ↦ (let found = support k below some in let none : found.0 < 0 = found.1.0 in absurd (omega arith))
      ])
  sum_by_list n (suc r) list f within distinct support =
      sums.sum_below-one_more laws n (without f (list r)) f (list r) (f (list r)) (within r (omega arith)) (without-at f (list r) (list r) refl) refl
      (λ k differs. sym (without-other f (list r) k differs))
      ∙ ap (λ t. F.add t (f (list r)))
      (sum_by_list n r list (without f (list r)) (λ i below. within i (omega arith)) (λ i j i_below j_below same. distinct i j (omega arith) (omega arith)
      same) narrowed
      ∙ sums.sum_below-congr laws r _ _ (λ i below. without-other f (list r) (list i) (λ same.
      (let e : i ≡ r = distinct i r (omega arith) (omega arith) same in absurd (omega arith)))))
    where
      narrowed : (k : ℕ) → k < n → without f (list r) k ≢ 0 → (i : ℕ) × ((i < r) × (list i ≡ k))
      narrowed k below some = elim (cases_eq k (list r)) [
        | inl same ↦ absurd (some (without-at f (list r) k same))
        | inr other ↦
            let found = support k below (λ none. some (without-other f (list r) k other ∙ none)) in
            let within_more : found.0 < suc r = found.1.0 in
            let not_last : found.0 ≢ r = (λ e. other (sym (found.1.1) ∙ ap list e)) in
            (found.0, (omega arith, found.1.1))
      ]
