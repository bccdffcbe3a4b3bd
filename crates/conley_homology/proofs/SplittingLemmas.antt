-- Chains whose boundaries end at different cells split the complex: those that are cycles and at whose cells no boundary ends are a basis of homology.
use Rattle.std.proofs.Common.{◌≡◌, ◌≢◌, ℕ, ◌+◌, ◌<◌, ◌==◌, Bool, true, cond, ap, sym, ◌∙◌, arith, refl, inl, inr, ◌⊎◌, subst, Option, Some, None}
use mathlib.Core.Path.{fun_ext}
use Rattle.std.proofs.lemmas.Bool.{cases_eq, eq-eqb, ne_eqb}
use Rattle.std.proofs.lemmas.Option.{none-some}
use Rattle.conley_field.specs.Arithmetic.{Arithmetic, IsField}
use Rattle.conley_algebra.specs.Sum.{sum_below}
use Rattle.conley_algebra.specs.Entries.{Vector, Entries, image_of, product_of, OnlyWhere}
use Rattle.conley_algebra.specs.Homology.{combination, IsExpressed, IsChainOn, IsRelativeCycle, IsRelativeBoundary, IsHomologyBasis}
use Rattle.conley_algebra.proofs.SumLemmas as sums
use Rattle.conley_algebra.specs.Listing.{IsListing}
use Rattle.conley_algebra.proofs.ImageLemmas.{sum_by_list, image-combination, image-image, image-not_zero}
use Rattle.conley_homology.specs.Reduced.{IsUpTo, IsReduced, IsFree}
use Rattle.conley_homology.proofs.TriangularLemmas.{IsTriangular, AreCoordinates, triangular-once, triangular-zero, coordinates}

-- one of two, by whether there is a number
pub pick : Option ℕ → ℕ → (ℕ → ℕ) → ℕ
pick None none some = none
pick (Some i) none some = some i

pub option_cases : (o : Option ℕ) → (o ≡ None) ⊎ ((i : ℕ) × (o ≡ Some i))
option_cases None = inl refl
option_cases (Some i) = inr (i, refl)

pub pick-none : (o : Option ℕ) (none : ℕ) (some : ℕ → ℕ) → o ≡ None → pick o none some ≡ none
unfolding pick
pick-none o none some is = ap (λ q. pick q none some) is

pub pick-some : (o : Option ℕ) (i none : ℕ) (some : ℕ → ℕ) → o ≡ Some i → pick o none some ≡ some i
unfolding pick
pick-some o i none some is = ap (λ q. pick q none some) is

module _ {F : Arithmetic} (laws : IsField F) (n : ℕ) (d : Entries) (dim : ℕ → ℕ) (squares : (x z : ℕ) → product_of F n d d x z ≡ 0)
    (one_down : OnlyWhere (λ y x. dim x ≡ dim y + 1) d)
    (m : ℕ) (place : ℕ → ℕ) (distinct : (i j : ℕ) → i < m → j < m → place i ≡ place j → i ≡ j)
    (v r : ℕ → Vector) (owner : ℕ → Option ℕ) (reduced : IsReduced F n d dim m place v r owner) where
  -- the vector at each cell: the boundary that ends there, or else the chain
  w : ℕ → Vector
  w q x = pick (owner q) (v q x) (λ i. r i x)

  w-none : (q x : ℕ) → owner q ≡ None → w q x ≡ v q x
  unfolding w
  w-none q x is = pick-none (owner q) (v q x) (λ i. r i x) is

  w-some : (q i x : ℕ) → owner q ≡ Some i → w q x ≡ r i x
  unfolding w
  w-some q i x is = pick-some (owner q) i (v q x) (λ i. r i x) is

  r_codes : (p i x : ℕ) → p < m → owner p ≡ Some i → r i x < F.order
  r_codes p i x below is =
      let o = reduced.owns p i below is in
      subst (λ t. t < F.order) (sym ((reduced.column i o.0 o.1).is x)) (sums.sum_below-below laws n _)

  -- the boundary of chain i is one dimension down
  r_level : (p i x : ℕ) → p < m → owner p ≡ Some i → r i x ≢ 0 → dim (place i) ≡ dim x + 1
  r_level p i x below is some =
      let o = reduced.owns p i below is in
      let column = reduced.column i o.0 o.1 in
      let at = image-not_zero laws n d (v i) x (λ none. some (column.is x ∙ none)) in
      sym (column.level at.0 at.1.1) ∙ one_down x at.0 at.1.0

  triangular : IsTriangular F m place w
  triangular = record {
    codes = λ q x below. elim (option_cases (owner q)) [
      | inl none ↦ rw (w-none q x none) ((reduced.column q below none).codes x)
      | inr o ↦ rw (w-some q o.0 x o.1) (r_codes q o.0 x below o.1)
    ];
    lead = λ q below. elim (option_cases (owner q)) [
      | inl none ↦ rw (w-none q (place q) none) (reduced.column q below none).lead
      | inr o ↦ rw (w-some q o.0 (place q) o.1) (reduced.owns q o.0 below o.1).2.lead
    ];
    support = λ q x below some. elim (option_cases (owner q)) [
      | inl none ↦ (reduced.column q below none).support x (λ h. some (w-none q x none ∙ h))
      | inr o ↦ (reduced.owns q o.0 below o.1).2.support x (λ h. some (w-some q o.0 x o.1 ∙ h))
    ];
    distinct = distinct;
  }

  w_level : (q x : ℕ) → q < m → w q x ≢ 0 → dim x ≡ dim (place q)
  w_level q x below some = elim (option_cases (owner q)) [
    | inl none ↦ (reduced.column q below none).level x (λ h. some (w-none q x none ∙ h))
    | inr o ↦
        let here = r_level q o.0 x below o.1 (λ h. some (w-some q o.0 x o.1 ∙ h)) in
        let lead = r_level q o.0 (place q) below o.1 (reduced.owns q o.0 below o.1).2.lead in
        omega arith
  ]

  -- one boundary ends at one cell
  ends_once : (p q i : ℕ) → p < m → q < m → owner p ≡ Some i → owner q ≡ Some i → p ≡ q
  ends_once p q i p_below q_below p_is q_is =
      let at_p = (reduced.owns p i p_below p_is).2 in
      let at_q = (reduced.owns q i q_below q_is).2 in
      let first = at_q.support (place p) at_p.lead in
      let second = at_p.support (place q) at_q.lead in
      let first_below : first.0 < q + 1 = first.1.0 in
      let second_below : second.0 < p + 1 = second.1.0 in
      let first_same : p ≡ first.0 = distinct p first.0 p_below (omega arith) first.1.1 in
      let second_same : q ≡ second.0 = distinct q second.0 q_below (omega arith) second.1.1 in
      omega arith

  -- the boundary of the vector at p
  s : ℕ → Vector
  s p x = pick (owner p) (r p x) (λ i. 0)

  image-w : (p x : ℕ) → p < m → image_of F n d (w p) x ≡ s p x
  unfolding s
  image-w p x below = elim (option_cases (owner p)) [
    | inl none ↦
        ap (λ (t : Vector). image_of F n d t x) (fun_ext (λ y. w-none p y none)) ∙ sym ((reduced.column p below none).is x)
        ∙ sym (pick-none (owner p) (r p x) (λ i. 0) none)
    | inr o ↦
        let own = reduced.owns p o.0 below o.1 in
        ap (λ (t : Vector). image_of F n d t x) (fun_ext (λ y. w-some p o.0 y o.1 ∙ (reduced.column o.0 own.0 own.1).is y))
        ∙ image-image laws n n d d (v o.0) x
        ∙ sums.sum_below-zero laws n _ (λ k k_below. ap (λ t. F.mul t (v o.0 k)) (squares x k) ∙ sums.zero-mul laws (v o.0 k))
        ∙ sym (pick-some (owner p) o.0 (r p x) (λ i. 0) o.1)
  ]

  -- 1 where column p owns cell q
  link : Entries
  link q p = pick (owner q) 0 (λ i. cond (i == p) 1 0)

  link-none : (q p : ℕ) → owner q ≡ None → link q p ≡ 0
  unfolding link
  link-none q p is = pick-none (owner q) 0 (λ i. cond (i == p) 1 0) is

  link-same : (q p : ℕ) → owner q ≡ Some p → link q p ≡ 1
  unfolding link
  link-same q p is = pick-some (owner q) p 0 (λ i. cond (i == p) 1 0) is ∙ ap (λ b. cond b 1 0) (eq-eqb p p refl)

  link-other : (q i p : ℕ) → owner q ≡ Some i → i ≢ p → link q p ≡ 0
  unfolding link
  link-other q i p is other = pick-some (owner q) i 0 (λ i. cond (i == p) 1 0) is ∙ ap (λ b. cond b 1 0) (ne_eqb i p other)

  link_some : (q p : ℕ) → link q p ≢ 0 → owner q ≡ Some p
  link_some q p some = elim (option_cases (owner q)) [
    | inl none ↦ absurd (some (link-none q p none))
    | inr o ↦ elim (cases_eq o.0 p) [
      | inl same ↦ o.1 ∙ ap (λ (t : ℕ). Some t) same
      | inr other ↦ absurd (some (link-other q o.0 p o.1 other))
    ]
  ]

  never : (q p : ℕ) → (owner q ≡ Some p → ⊥) → link q p ≡ 0
  never q p no_owner = elim (cases_eq (link q p) 0) [ inl none ↦ none | inr some ↦ absurd (no_owner (link_some q p some)) ]

  term_zero : (q p x : ℕ) → (owner q ≡ Some p → ⊥) → F.mul (link q p) (w q x) ≡ 0
  term_zero q p x no_owner = ap (λ t. F.mul t (w q x)) (never q p no_owner) ∙ sums.zero-mul laws (w q x)

  one-mul : (x : ℕ) → x < F.order → F.mul 1 x ≡ x
  one-mul x below = laws.mul_comm 1 x ∙ laws.mul_one x below

  s-links : (p x : ℕ) → p < m → s p x ≡ sum_below F m (λ q. F.mul (link q p) (w q x))
  unfolding s
  s-links p x below = elim (option_cases (owner p)) [
    | inr o ↦
        pick-some (owner p) o.0 (r p x) (λ i. 0) o.1
        ∙ sym (sums.sum_below-zero laws m _ (λ q q_below. term_zero q p x (λ is. none-some o.0 (sym (reduced.owns q p q_below is).1 ∙ o.1))))
    | inl none ↦ pick-none (owner p) (r p x) (λ i. 0) none ∙ elim (reduced.ends p below none) [
      | inl at ↦
          sym (w-some at.0 p x at.1.1) ∙ sym (one-mul (w at.0 x) (triangular.codes at.0 x at.1.0))
          ∙ ap (λ t. F.mul t (w at.0 x)) (sym (link-same at.0 p at.1.1))
          ∙ sym (sums.sum_below-single laws m (λ q. F.mul (link q p) (w q x)) at.0 at.1.0 (laws.mul_below (link at.0 p) (w at.0 x))
          (λ q q_below differs. term_zero q p x (λ is. differs (ends_once q at.0 p q_below at.1.0 is at.1.1))))
      | inr zero ↦ zero x ∙ sym (sums.sum_below-zero laws m _ (λ q q_below. term_zero q p x (λ is. (reduced.owns q p q_below is).2.lead (zero (place q)))))
    ]
  ]

  -- the scalars of a boundary
  along : Vector → Vector
  along c q = image_of F m link c q

  along_codes : (c : Vector) (q : ℕ) → along c q < F.order
  unfolding along
  along_codes c q = sums.sum_below-below laws m (λ p. F.mul (link q p) (c p))

  along-none : (c : Vector) (q : ℕ) → owner q ≡ None → along c q ≡ 0
  unfolding along
  along-none c q none = sums.sum_below-zero laws m _ (λ p p_below. ap (λ t. F.mul t (c p)) (link-none q p none) ∙ sums.zero-mul laws (c p))

  along-some : (c : Vector) (q i : ℕ) → ((j : ℕ) → c j < F.order) → q < m → owner q ≡ Some i → along c q ≡ c i
  unfolding along
  along-some c q i codes below is =
      sums.sum_below-single laws m (λ p. F.mul (link q p) (c p)) i (reduced.owns q i below is).0 (laws.mul_below (link q i) (c i))
      (λ p p_below differs. ap (λ t. F.mul t (c p)) (link-other q i p is (λ e. differs (sym e))) ∙ sums.zero-mul laws (c p))
      ∙ ap (λ t. F.mul t (c i)) (link-same q i is) ∙ one-mul (c i) (codes i)

  -- the boundary of a combination of the vectors is one
  image-by_w : (c : Vector) (x : ℕ) → image_of F n d (combination F m w c) x ≡ combination F m w (along c) x
  unfolding along
  image-by_w c x =
      image-combination laws n m d w c x
      ∙ sums.sum_below-congr laws m _ _ (λ p below. ap (F.mul (c p)) (image-w p x below ∙ s-links p x below)
      ∙ sums.mul-sum_below laws m (c p) (λ q. F.mul (link q p) (w q x)))
      ∙ sums.sum_below-exchange laws m m (λ p q. F.mul (c p) (F.mul (link q p) (w q x)))
      ∙ sums.sum_below-congr laws m _ _ (λ q below.
      sums.sum_below-congr laws m _ _ (λ p p_below. sym (laws.mul_assoc (c p) (link q p) (w q x)) ∙ ap (λ t. F.mul t (w q x)) (laws.mul_comm (c p) (link q p)))
      ∙ sym (sums.sum_below-mul laws m (λ p. F.mul (link q p) (c p)) (w q x)))

  -- the part of the vector at q that is a boundary, the chain of which it is the boundary, and the other part
  t : ℕ → Vector
  t q x = pick (owner q) 0 (λ i. r i x)

  y : ℕ → Vector
  y q x = pick (owner q) 0 (λ i. v i x)

  e : ℕ → Vector
  e q x = pick (owner q) (v q x) (λ i. 0)

  w-parts : (q x : ℕ) → q < m → w q x ≡ F.add (e q x) (t q x)
  unfolding e t
  w-parts q x below = elim (option_cases (owner q)) [
    | inl none ↦
        w-none q x none ∙ sym (laws.add_zero (v q x) ((reduced.column q below none).codes x))
        ∙ sym (ap (λ a. F.add a (pick (owner q) 0 (λ i. r i x))) (pick-none (owner q) (v q x) (λ i. 0) none)
        ∙ ap (F.add (v q x)) (pick-none (owner q) 0 (λ i. r i x) none))
    | inr o ↦
        w-some q o.0 x o.1 ∙ sym (laws.add_zero (r o.0 x) (r_codes q o.0 x below o.1)) ∙ laws.add_comm (r o.0 x) 0
        ∙ sym (ap (λ a. F.add a (pick (owner q) 0 (λ i. r i x))) (pick-some (owner q) o.0 (v q x) (λ i. 0) o.1)
        ∙ ap (F.add 0) (pick-some (owner q) o.0 0 (λ i. r i x) o.1))
  ]

  image-y : (q x : ℕ) → q < m → image_of F n d (y q) x ≡ t q x
  unfolding y t
  image-y q x below = elim (option_cases (owner q)) [
    | inl none ↦
        ap (λ (a : Vector). image_of F n d a x) (fun_ext (λ z. pick-none (owner q) 0 (λ i. v i z) none))
        ∙ sums.sum_below-zero laws n _ (λ k k_below. sums.mul-zero laws (d x k)) ∙ sym (pick-none (owner q) 0 (λ i. r i x) none)
    | inr o ↦
        let own = reduced.owns q o.0 below o.1 in
        ap (λ (a : Vector). image_of F n d a x) (fun_ext (λ z. pick-some (owner q) o.0 0 (λ i. v i z) o.1)) ∙ sym ((reduced.column o.0 own.0 own.1).is x)
        ∙ sym (pick-some (owner q) o.0 0 (λ i. r i x) o.1)
  ]

  y_support : (q x : ℕ) → q < m → y q x ≢ 0 → IsUpTo place m x
  unfolding y
  y_support q x below some = elim (option_cases (owner q)) [
    | inl none ↦ absurd (some (pick-none (owner q) 0 (λ i. v i x) none))
    | inr o ↦
        let own = reduced.owns q o.0 below o.1 in
        let at = (reduced.column o.0 own.0 own.1).support x (λ h. some (pick-some (owner q) o.0 0 (λ i. v i x) o.1 ∙ h)) in
        let at_below : at.0 < o.0 + 1 = at.1.0 in
        let own_below : o.0 < m = own.0 in
        (at.0, (omega arith, at.1.1))
  ]

  module _ (inside : ℕ → Bool) (cells : (i : ℕ) → i < m → inside (place i) ≡ true) (all_cells : (x : ℕ) → inside x ≡ true → IsUpTo place m x)
      (k b : ℕ) (list : ℕ → ℕ) (listing : IsListing m (IsFree dim place r owner k) b list) where
    Inside : ℕ → Type 0
    Inside x = inside x ≡ true

    Nowhere : ℕ → Type 0
    Nowhere x = ⊥

    z : ℕ → Vector
    z i = v (list i)

    up_to_inside : (x : ℕ) → IsUpTo place m x → inside x ≡ true
    up_to_inside x at = ap inside at.1.1 ∙ cells at.0 at.1.0

    nothing : (u : Vector) → ((x : ℕ) → u x ≢ 0 → ⊥) → (x : ℕ) → u x ≡ 0
    nothing u none_at x = elim (cases_eq (u x) 0) [ inl none ↦ none | inr some ↦ absurd (none_at x some) ]

    member : (i : ℕ) → i < b → IsRelativeCycle F n d (λ x. inside x ≡ true) (λ x. ⊥) (v (list i)) × ((x : ℕ) → v (list i) x ≢ 0 → dim x ≡ k)
    member i below =
        let free = listing.holds i below in
        let within = listing.within i below in
        let column = reduced.column (list i) within free.0 in (
          record {
            chain = record {
              codes = column.codes;
              only = λ x some. (let at = column.support x some in let at_below : at.0 < list i + 1 = at.1.0 in up_to_inside x (at.0, (omega arith, at.1.1)));
            };
            on_mouth = record { codes = λ x. sums.sum_below-below laws n _; only = λ x some. some (sym (column.is x) ∙ free.1 x) };
          },
          λ x some. column.level x some ∙ free.2,
        )

    -- chains on the set have scalars
    scalars : (Q : ℕ → Type 0) → ((i x : ℕ) → i < m → w i x ≢ 0 → Q (place i) → Q x) → (u : Vector) → IsChainOn F (λ x. inside x ≡ true) u
        → ((x : ℕ) → u x ≢ 0 → Q x) → AreCoordinates F m place w Q u
    scalars Q homogeneous u chain only = coordinates laws m place w Q u triangular homogeneous chain.codes (λ x some. all_cells x (chain.only x some)) only

    of_level : (i x : ℕ) → i < m → w i x ≢ 0 → dim (place i) ≡ k → dim x ≡ k
    of_level i x below some is = w_level i x below some ∙ is

    module _ (u : Vector) (cycle : IsRelativeCycle F n d (λ x. inside x ≡ true) (λ x. ⊥) u) (level : (x : ℕ) → u x ≢ 0 → dim x ≡ k) where
      a : AreCoordinates F m place w (λ x. dim x ≡ k) u
      a = scalars (λ x. dim x ≡ k) of_level u cycle.chain level

      -- the scalars at cells that own are zero
      a_owner : (q i : ℕ) → q < m → owner q ≡ Some i → a.scalars i ≡ 0
      a_owner q i below is =
          sym (along-some a.scalars q i a.codes below is)
          ∙ triangular-zero laws m place w (along a.scalars) triangular (along_codes a.scalars)
          (λ x. sym (image-by_w a.scalars x) ∙ ap (λ (c : Vector). image_of F n d c x) (sym (fun_ext a.is)) ∙ nothing (image_of F n d u) cycle.on_mouth.only x)
          q below

      listed : (x q : ℕ) → q < m → F.mul (a.scalars q) (e q x) ≢ 0 → (i : ℕ) × ((i < b) × (list i ≡ q))
      unfolding e
      listed x q below some =
          let a_some = sums.mul-not_zero_left laws (a.scalars q) (e q x) some in
          let e_some = sums.mul-not_zero_right laws (a.scalars q) (e q x) some in
          elim (option_cases (owner q)) [
            | inr o ↦ absurd (e_some (pick-some (owner q) o.0 (v q x) (λ i. 0) o.1))
            | inl none ↦ elim (reduced.ends q below none) [
              | inl at ↦ absurd (a_some (a_owner at.0 q at.1.0 at.1.1))
              | inr zero ↦ listing.all q below (none, zero, a.only q below a_some)
            ]
          ]

      free_part : (x : ℕ) → combination F m e a.scalars x ≡ combination F b (λ i. v (list i)) (λ i. a.scalars (list i)) x
      unfolding e
      free_part x =
          sum_by_list laws m b list (λ q. F.mul (a.scalars q) (e q x)) listing.within listing.distinct (listed x)
          ∙ sums.sum_below-congr laws b _ _ (λ i below. ap (F.mul (a.scalars (list i))) (pick-none (owner (list i)) (v (list i) x) (λ j. 0)
          (listing.holds i below).0))

      parts : (x : ℕ) → u x ≡ F.add (combination F b (λ i. v (list i)) (λ i. a.scalars (list i)) x) (combination F m t a.scalars x)
      parts x =
          a.is x
          ∙ sums.sum_below-congr laws m _ _ (λ q below. ap (F.mul (a.scalars q)) (w-parts q x below) ∙ laws.mul_add (a.scalars q) (e q x) (t q x))
          ∙ sums.sum_below-add laws m (λ q. F.mul (a.scalars q) (e q x)) (λ q. F.mul (a.scalars q) (t q x))
          ∙ ap (λ h. F.add h (combination F m t a.scalars x)) (free_part x)

      rest-is_boundary : IsRelativeBoundary F n d (λ x. inside x ≡ true) (λ x. ⊥) (combination F m t a.scalars)
      rest-is_boundary = record {
        of = combination F m y a.scalars;
        of_chain = record {
          codes = λ x. sums.sum_below-below laws m _;
          only = λ x some.
              let at = sums.sum_below-not_zero laws m (λ q. F.mul (a.scalars q) (y q x)) some in
              up_to_inside x (y_support at.0 x at.1.0 (sums.mul-not_zero_right laws (a.scalars at.0) (y at.0 x) at.1.1));
        };
        part = λ x. 0;
        part_chain = record { codes = λ x. sums.zero_below laws; only = λ x some. some refl };
        is = λ x.
            sym (laws.add_zero (combination F m t a.scalars x) (sums.sum_below-below laws m _))
            ∙ ap (λ h. F.add h 0) (sym (image-combination laws n m d y a.scalars x ∙ sums.sum_below-congr laws m _ _
            (λ q below. ap (F.mul (a.scalars q)) (image-y q x below))));
      }

      expressed : IsExpressed F (IsRelativeBoundary F n d (λ x. inside x ≡ true) (λ x. ⊥)) b (λ i. v (list i)) u (λ i. a.scalars (list i))
      expressed = record { codes = λ i. a.codes (list i); rest = combination F m t a.scalars; in_B = rest-is_boundary; is = parts }

      -- scalars by cell
      spread : Vector → Vector
      spread c q = sum_below F b (λ i. F.mul (cond (list i == q) 1 0) (c i))

      spread-at : (c : Vector) (i : ℕ) → ((j : ℕ) → c j < F.order) → i < b → spread c (list i) ≡ c i
      unfolding spread
      spread-at c i codes below =
          sums.sum_below-single laws b (λ j. F.mul (cond (list j == list i) 1 0) (c j)) i below (laws.mul_below _ _)
          (λ j j_below differs. ap (λ h. F.mul (cond h 1 0) (c j)) (ne_eqb (list j) (list i) (λ same. differs (listing.distinct j i j_below below same)))
          ∙ sums.zero-mul laws (c j))
          ∙ ap (λ h. F.mul (cond h 1 0) (c i)) (eq-eqb (list i) (list i) refl) ∙ one-mul (c i) (codes i)

      spread-combination : (c : Vector) (x : ℕ) → combination F b (λ i. v (list i)) c x ≡ combination F m w (spread c) x
      unfolding spread
      spread-combination c x =
          sums.sum_below-congr laws b _ _ (λ i below. single i below)
          ∙ sums.sum_below-exchange laws b m (λ i q. F.mul (F.mul (cond (list i == q) 1 0) (c i)) (w q x))
          ∙ sums.sum_below-congr laws m _ _ (λ q below. sym (sums.sum_below-mul laws b (λ i. F.mul (cond (list i == q) 1 0) (c i)) (w q x)))
        where
          single : (i : ℕ) → i < b → F.mul (c i) (v (list i) x) ≡ sum_below F m (λ q. F.mul (F.mul (cond (list i == q) 1 0) (c i)) (w q x))
          single i below = sym (
              sums.sum_below-single laws m (λ q. F.mul (F.mul (cond (list i == q) 1 0) (c i)) (w q x)) (list i) (listing.within i below) (laws.mul_below _ _)
              (λ q q_below differs. ap (λ h. F.mul (F.mul (cond h 1 0) (c i)) (w q x)) (ne_eqb (list i) q (λ same. differs (sym same)))
              ∙ ap (λ h. F.mul h (w q x)) (sums.zero-mul laws (c i)) ∙ sums.zero-mul laws (w q x))
              ∙ ap (λ h. F.mul (F.mul (cond h 1 0) (c i)) (w (list i) x)) (eq-eqb (list i) (list i) refl)
              ∙ laws.mul_assoc 1 (c i) (w (list i) x) ∙ one-mul (F.mul (c i) (w (list i) x)) (laws.mul_below (c i) (w (list i) x))
              ∙ ap (F.mul (c i)) (w-none (list i) x (listing.holds i below).0))

      -- the scalar of a cycle is the one that the chain has at its cell
      determined : (c : Vector) → IsExpressed F (IsRelativeBoundary F n d (λ x. inside x ≡ true) (λ x. ⊥)) b (λ i. v (list i)) u c → (i : ℕ) → i < b
          → c i ≡ a.scalars (list i)
      determined c is i below = sym (
          triangular-once laws m place w a.scalars (λ q. F.add (spread c q) (along of.scalars q)) triangular a.codes (λ q. laws.add_below _ _) same (list i)
          (listing.within i below)
          ∙ ap (F.add (spread c (list i))) (along-none of.scalars (list i) (listing.holds i below).0) ∙ ap (λ h. F.add h 0) (spread-at c i is.codes below)
          ∙ laws.add_zero (c i) (is.codes i))
        where
          of : AreCoordinates F m place w (λ x. Unit {0}) is.in_B.of
          of = scalars (λ x. Unit {0}) (λ i x below some unit. unit) is.in_B.of is.in_B.of_chain (λ x some. tt)

          rest : (x : ℕ) → is.rest x ≡ combination F m w (along of.scalars) x
          rest x =
              is.in_B.is x ∙ ap (F.add (image_of F n d is.in_B.of x)) (nothing is.in_B.part is.in_B.part_chain.only x)
              ∙ laws.add_zero (image_of F n d is.in_B.of x) (sums.sum_below-below laws n _)
              ∙ ap (λ (h : Vector). image_of F n d h x) (fun_ext of.is) ∙ image-by_w of.scalars x

          same : (x : ℕ) → combination F m w a.scalars x ≡ combination F m w (λ q. F.add (spread c q) (along of.scalars q)) x
          same x =
              sym (a.is x) ∙ is.is x ∙ ap (F.add (combination F b (λ i. v (list i)) c x)) (rest x)
              ∙ ap (λ h. F.add h (combination F m w (along of.scalars) x)) (spread-combination c x)
              ∙ sym (sums.sum_below-congr laws m _ _ (λ q below. sums.add-mul laws (spread c q) (along of.scalars q) (w q x))
              ∙ sums.sum_below-add laws m (λ q. F.mul (spread c q) (w q x)) (λ q. F.mul (along of.scalars q) (w q x)))

    -- the free cells' chains are a basis of homology
    pub reduced-IsHomologyBasis : IsHomologyBasis F n d dim (λ x. inside x ≡ true) (λ x. ⊥) k b (λ i. v (list i))
    reduced-IsHomologyBasis = record {
      members = member;
      spans = λ u cycle_u. (λ i. (a u cycle_u.0 cycle_u.1).scalars (list i), expressed u cycle_u.0 cycle_u.1);
      once = λ u c c' cycle_u by_c by_c' i below. determined u cycle_u.0 cycle_u.1 c by_c i below ∙ sym (determined u cycle_u.0 cycle_u.1 c' by_c' i below);
    }
