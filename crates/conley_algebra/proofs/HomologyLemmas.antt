-- Relative cycles and boundaries are spaces, so the numbers of homology are well defined.
use Rattle.std.proofs.Common.{◌≡◌, ◌≢◌, ℕ, ◌<◌, ap, sym, ◌∙◌, refl, inl, inr, ◌⊎◌}
use Rattle.std.proofs.lemmas.Bool.{cases_eq}
use Rattle.conley_field.specs.Arithmetic.{Arithmetic, IsField}
use Rattle.conley_algebra.specs.Entries.{Vector, Entries, image_of}
use Rattle.conley_algebra.specs.Homology.{IsChainOn, IsRelativeCycle, IsRelativeBoundary, IsHomologyBasis}
use Rattle.conley_algebra.specs.Subspace.{IsSubspace}
use Rattle.conley_algebra.proofs.SumLemmas as sums
use Rattle.conley_algebra.proofs.ImageLemmas as images
use Rattle.conley_algebra.proofs.BasisLemmas.{same_length}

module _ {F : Arithmetic} (laws : IsField F) where
  -- a sum that isn't zero has a part that isn't
  some_part : (x y : ℕ) → F.add x y ≢ 0 → (x ≢ 0) ⊎ (y ≢ 0)
  some_part x y some = elim (cases_eq x 0) [
    | inr other ↦ inl other
    | inl none ↦ inr (λ e. some (ap (λ t. F.add t y) none ∙ ap (F.add 0) e ∙ sums.add_zero_zero laws))
  ]

  only_zero : (P : Type 0) (x : ℕ) → x ≡ 0 → x ≢ 0 → P
  only_zero P x none some = absurd (some none)

  -- what holds where a vector isn't zero
  add_only : (P : ℕ → Type 0) (u v : Vector) → ((x : ℕ) → u x ≢ 0 → P x) → ((x : ℕ) → v x ≢ 0 → P x) → (x : ℕ) → F.add (u x) (v x) ≢ 0 → P x
  add_only P u v left right x some = elim (some_part (u x) (v x) some) [ inl h ↦ left x h | inr h ↦ right x h ]

  mul_only : (P : ℕ → Type 0) (c : ℕ) (v : Vector) → ((x : ℕ) → v x ≢ 0 → P x) → (x : ℕ) → F.mul c (v x) ≢ 0 → P x
  mul_only P c v only x some = only x (sums.mul-not_zero_right laws c (v x) some)

  chains : (P : ℕ → Type 0) → IsSubspace F (IsChainOn F P)
  chains P = record {
    zero_in = record { codes = λ x. sums.zero_below laws; only = λ x some. absurd (some refl) };
    add_in = λ u v left right. record { codes = λ x. laws.add_below (u x) (v x); only = add_only P u v left.only right.only };
    mul_in = λ c v below is. record { codes = λ x. laws.mul_below c (v x); only = mul_only P c v is.only };
  }

  -- a chain with the same codes
  same_chain : (P : ℕ → Type 0) (u v : Vector) → ((x : ℕ) → v x ≡ u x) → ((x : ℕ) → v x < F.order) → IsChainOn F P u → IsChainOn F P v
  same_chain P u v same codes is = record { codes = codes; only = λ x some. is.only x (λ none. some (same x ∙ none)) }

  module _ (n : ℕ) (boundary : Entries) (dim : ℕ → ℕ) (closure mouth : ℕ → Type 0) (k : ℕ) where
    pub cycles : IsSubspace F (λ v. IsRelativeCycle F n boundary closure mouth v × ((x : ℕ) → v x ≢ 0 → dim x ≡ k))
    cycles = record {
      zero_in = (
        record {
          chain = (chains closure).zero_in;
          on_mouth = same_chain mouth (λ x. 0) (image_of F n boundary (λ x. 0)) (images.image-zero laws n boundary) (λ x. sums.sum_below-below laws n _)
              ((chains mouth).zero_in);
        },
        λ x some. absurd (some refl),
      );
      add_in = λ u v left right. (
        record {
          chain = (chains closure).add_in u v left.0.chain right.0.chain;
          on_mouth = same_chain mouth _ (image_of F n boundary (λ x. F.add (u x) (v x))) (images.image-add laws n boundary u v)
              (λ x. sums.sum_below-below laws n _)
              ((chains mouth).add_in (image_of F n boundary u) (image_of F n boundary v) left.0.on_mouth right.0.on_mouth);
        },
        add_only (λ x. dim x ≡ k) u v left.1 right.1,
      );
      mul_in = λ c v below is. (
        record {
          chain = (chains closure).mul_in c v below is.0.chain;
          on_mouth = same_chain mouth _ (image_of F n boundary (λ x. F.mul c (v x))) (images.image-mul laws n boundary c v) (λ x. sums.sum_below-below laws n _)
              ((chains mouth).mul_in c (image_of F n boundary v) below is.0.on_mouth);
        },
        mul_only (λ x. dim x ≡ k) c v is.1,
      );
    }

    pub boundaries : IsSubspace F (IsRelativeBoundary F n boundary closure mouth)
    boundaries = record {
      zero_in = record {
        of = λ x. 0;
        of_chain = (chains closure).zero_in;
        part = λ x. 0;
        part_chain = (chains mouth).zero_in;
        is = λ x. sym (ap (λ t. F.add t 0) (images.image-zero laws n boundary x) ∙ sums.add_zero_zero laws);
      };
      add_in = λ u v left right. record {
        of = λ x. F.add (left.of x) (right.of x);
        of_chain = (chains closure).add_in left.of right.of left.of_chain right.of_chain;
        part = λ x. F.add (left.part x) (right.part x);
        part_chain = (chains mouth).add_in left.part right.part left.part_chain right.part_chain;
        is = λ x. ap (λ t. F.add t (v x)) (left.is x) ∙ ap (F.add (F.add (image_of F n boundary left.of x) (left.part x))) (right.is x)
            ∙ sums.add_swap laws (image_of F n boundary left.of x) (left.part x) (image_of F n boundary right.of x) (right.part x)
            ∙ ap (λ t. F.add t (F.add (left.part x) (right.part x))) (sym (images.image-add laws n boundary left.of right.of x));
      };
      mul_in = λ c v below is. record {
        of = λ x. F.mul c (is.of x);
        of_chain = (chains closure).mul_in c is.of below is.of_chain;
        part = λ x. F.mul c (is.part x);
        part_chain = (chains mouth).mul_in c is.part below is.part_chain;
        is = λ x. ap (F.mul c) (is.is x) ∙ laws.mul_add c (image_of F n boundary is.of x) (is.part x)
            ∙ ap (λ t. F.add t (F.mul c (is.part x))) (sym (images.image-mul laws n boundary c is.of x));
      };
    }

    -- any two lists that meet the definition have one length
    pub one_length : (r s : ℕ) (z w : ℕ → Vector) → IsHomologyBasis F n boundary dim closure mouth k r z → IsHomologyBasis F n boundary dim closure mouth k s w
        → r ≡ s
    one_length r s z w first second =
        same_length laws (λ v. IsRelativeCycle F n boundary closure mouth v × ((x : ℕ) → v x ≢ 0 → dim x ≡ k)) (IsRelativeBoundary F n boundary closure mouth)
        cycles boundaries r s z w first second
