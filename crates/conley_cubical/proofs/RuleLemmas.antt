-- Cubes keep the laws of faces, and their complex is the one that is defined.
use Rattle.std.proofs.Common.{◌≡◌, ◌+◌, ℕ, ℤ, List, [], map, get_or, ◌∙◌, arith}
use Rattle.std.specs.Prelude.{Contains}
use Rattle.std.proofs.lemmas.List.Elements.{All-weaker}
use Rattle.conley_field.specs.Arithmetic.{Arithmetic, IsField}
use Rattle.conley_lefschetz.specs.Complex.{Layout}
use Rattle.conley_generated.specs.Rule.{IsRule, only_cells}
use Rattle.conley_generated.specs.Generated.{IsUnder, IsGenerated, AreMoreUnder}
use Rattle.conley_generated.proofs.CellLemmas.{most_cells}
use Rattle.conley_cubical.specs.Cube.{IsCube, codes_of, dim_of}
use Rattle.conley_cubical.specs.Fault.{AreMore}
use Rattle.conley_cubical.specs.Cubical.{IsCubicalComplex}
use Rattle.conley_cubical.specs.Making.{faces_of_cube, rule_of_cubes, IsInside}
use Rattle.conley_cubical.proofs.SquareLaw.{square_zero}
use Rattle.conley_cubical.proofs.FaceLemmas.{IsFacePart, faces_are_parts, faces_apart}
use Rattle.conley_cubical.proofs.LabelLaw.{labels_once}
use Rattle.conley_cubical.proofs.UnderLemmas.{under_cube, cube_under}
use Rattle.conley_cubical.proofs.ValueLaw.{value_upper, value_lower, value_other}

pub cubes_rule : (axes : ℕ) → IsRule (IsInside axes) rule_of_cubes
cubes_rule axes = record {
  cells = λ s is. All-weaker (IsFacePart s) (IsInside axes) (λ t part. record {
    count = part.count ∙ is.count;
    few = is.few;
    some = is.some;
    inside =
        part.inside is.inside;
  }) (only_cells (faces_of_cube s)) (faces_are_parts s);
  down = λ s is. All-weaker (IsFacePart s) (λ t. dim_of s ≡ dim_of t + 1) (λ t part. part.down) (only_cells (faces_of_cube s)) (faces_are_parts s);
  apart = λ s is. faces_apart s;
  square = λ F laws s z is. square_zero laws s z;
  labels = λ s t is is' e. labels_once s t (omega (arith, is.count, is.some)) (omega (arith, is'.count, is'.some)) is.inside is'.inside e;
}

module _ (cubes : List (List (ℤ × ℤ))) where
  pub more_cubes : (most : ℕ) → AreMoreUnder rule_of_cubes (map codes_of cubes) most → AreMore cubes most
  more_cubes most more = record {
    some = more.some;
    apart = more.apart;
    are = All-weaker (IsUnder rule_of_cubes (map codes_of cubes)) (IsCube cubes) (under_cube cubes) more.some more.under;
    more = more.more;
  }

  module _ {F : Arithmetic} (laws : IsField F) (most : ℕ) (c : Layout) (made : IsGenerated F rule_of_cubes (map codes_of cubes) most c) where
    pub cubical_complex : IsCubicalComplex F cubes c
    cubical_complex = record {
      cells = made.cells;
      are = record {
        ordered = made.are.ordered;
        all = λ s. ((λ there. under_cube cubes s ((made.are.all s).0 there)), (λ is. (made.are.all s).1 (cube_under cubes s is)));
      };
      labels_are = made.labels;
      dims_are = made.dims;
      values = record {
        upper = λ x y k lt lt' within wide e. made.boundary x y lt lt' ∙ value_upper laws (get_or made.cells x []) (get_or made.cells y []) k within wide e;
        lower = λ x y k lt lt' within wide e. made.boundary x y lt lt' ∙ value_lower laws (get_or made.cells x []) (get_or made.cells y []) k within wide e;
        none = λ x y lt lt' other. made.boundary x y lt lt' ∙ value_other laws (get_or made.cells x []) (get_or made.cells y []) other;
        beyond = made.beyond;
      };
    }

    -- and there are no more
    pub no_more : ¬ AreMore cubes most
    no_more more =
        let fits = most_cells made.cells more.some more.apart (All-weaker (IsCube cubes) (Contains made.cells)
        (λ s is. (made.are.all s).1 (cube_under cubes s is)) more.some more.are) in
        absurd (omega (arith, fits, made.few, more.more))
