use Rattle.std.proofs.Common.{◌≡◌, ℕ, length, sym, ap, ◌∙◌, arith, subst}
use Rattle.conley_chains.specs.Matrix.{IsTable}
use Rattle.conley_graded.specs.Structure.{generators_of}
use Rattle.conley_chains.proofs.TransposeLemmas.{IsTable-transposed}
use Rattle.conley_reduction.proofs.KeptLemmas.{AreParts, numbers-within, numbers-few, renumbered-reduction, renumbered-strict, renumbered-filtered}
use Rattle.conley_reduction.proofs.renumbering.renumbered.Goals as goal

pub bases_of-requires : goal.bases_of-requires
bases_of-requires g c =
    let lists = rw c.deref.ensures.value at c.in_ok-numbers.ensures in
    rw c.as_slice-kept.ensures.value (numbers-within (generators_of c.args.graded.now) c.args.work.left.items c.args.work.w.items c.args.work.phi.items
    c.args.work.psi.items c.args.work.gamma.items c.requires.work c.in_ok-numbers.numbers.items lists)

pub dims_of-requires : goal.dims_of-requires
dims_of-requires g c =
    let lists = rw c.deref.ensures.value at c.in_ok-numbers.ensures in
    rw c.as_slice-kept.ensures.value (numbers-within (generators_of c.args.graded.now) c.args.work.left.items c.args.work.w.items c.args.work.phi.items
    c.args.work.psi.items c.args.work.gamma.items c.requires.work c.in_ok-numbers.numbers.items lists)

pub part_of-requires-clause-rows_ascend : goal.part_of-requires-clause-rows_ascend
part_of-requires-clause-rows_ascend g c = rw c.as_slice-kept.ensures.value (rw c.deref.ensures.value at c.in_ok-numbers.ensures).ascending

pub part_of-requires-clause-rows_few : goal.part_of-requires-clause-rows_few
part_of-requires-clause-rows_few g c =
    let lists = rw c.deref.ensures.value at c.in_ok-numbers.ensures in
    let few = numbers-few (generators_of c.args.graded.now) c.args.work.left.items c.args.work.w.items c.args.work.phi.items c.args.work.psi.items
    c.args.work.gamma.items c.requires.work c.in_ok-numbers.numbers.items lists in
    rw c.as_slice-kept.ensures.value (omega (arith, few, c.requires.few))

pub part_of-requires-clause-places_within : goal.part_of-requires-clause-places_within
part_of-requires-clause-places_within g c =
    let lists = rw c.deref.ensures.value at c.in_ok-numbers.ensures in
    rw (c.as_slice-kept.ensures.value, c.count-n.ensures.count) (numbers-within (generators_of c.args.graded.now) c.args.work.left.items c.args.work.w.items
    c.args.work.phi.items c.args.work.psi.items c.args.work.gamma.items c.requires.work c.in_ok-numbers.numbers.items lists)

pub part_of-requires-2-clause-rows_ascend : goal.part_of-requires-2-clause-rows_ascend
part_of-requires-2-clause-rows_ascend g c = rw c.as_slice-all.ensures.value c.in_ok-every.ensures.ascending

pub part_of-requires-2-clause-places_within : goal.part_of-requires-2-clause-places_within
part_of-requires-2-clause-places_within g c =
    let lists = rw c.deref.ensures.value at c.in_ok-numbers.ensures in
    rw (c.as_slice-kept.ensures.value, c.count-n.ensures.count) (numbers-within (generators_of c.args.graded.now) c.args.work.left.items c.args.work.w.items
    c.args.work.phi.items c.args.work.psi.items c.args.work.gamma.items c.requires.work c.in_ok-numbers.numbers.items lists)

pub part_of-requires-3-clause-rows_ascend : goal.part_of-requires-3-clause-rows_ascend
part_of-requires-3-clause-rows_ascend g c = rw c.as_slice-all.ensures.value c.in_ok-every.ensures.ascending

pub part_of-requires-3-clause-places_within : goal.part_of-requires-3-clause-places_within
part_of-requires-3-clause-places_within g c =
    let lists = rw c.deref.ensures.value at c.in_ok-numbers.ensures in
    rw (c.as_slice-kept.ensures.value, c.count-n.ensures.count) (numbers-within (generators_of c.args.graded.now) c.args.work.left.items c.args.work.w.items
    c.args.work.phi.items c.args.work.psi.items c.args.work.gamma.items c.requires.work c.in_ok-numbers.numbers.items lists)

pub transpose-requires : goal.transpose-requires
transpose-requires g c =
    let lists = rw c.deref.ensures.value at c.in_ok-numbers.ensures in
    let few = numbers-few (generators_of c.args.graded.now) c.args.work.left.items c.args.work.w.items c.args.work.phi.items c.args.work.psi.items
    c.args.work.gamma.items c.requires.work c.in_ok-numbers.numbers.items lists in
    rw (c.in_ok-psi_rows.ensures.table.columns, c.as_slice-kept.ensures.value) (omega (arith, few, c.requires.few))

pub new-complex-requires : goal.new-complex-requires
new-complex-requires g c =
    let s = c.args.graded.now in
    rw (c.field-field.ensures, c.grading.ensures)
    (renumbered-filtered (g.met.F.Field.is_field s.field) _ _ s.base s.dims s.matrix c.count-n.ensures.filtered c.args.work.left.items c.args.work.w.items
    c.args.work.phi.items c.args.work.psi.items c.args.work.gamma.items
    c.requires.work c.requires.strict c.as_slice-kept.result.now c.as_slice-all.result.now c.in_ok-base.base.items c.in_ok-dims.dims.items
    c.in_ok-matrix.matrix c.in_ok-phi.phi c.in_ok-psi.psi c.in_ok-gamma2.gamma2 c.in_ok-gamma.gamma (record {
      lists = rw c.as_slice-kept.ensures.value (rw c.deref.ensures.value at c.in_ok-numbers.ensures);
      all_count = ap length c.as_slice-all.ensures.value ∙ c.in_ok-every.ensures.count ∙ c.count-n.ensures.count;
      all_items = rw c.as_slice-all.ensures.value (rw c.count-n.ensures.count at c.in_ok-every.ensures.items);
      bases = c.in_ok-base.ensures;
      dimensions = c.in_ok-dims.ensures;
      matrix_table = rw c.field-field.ensures at c.in_ok-matrix.ensures.table;
      phi_table = rw c.field-field.ensures at c.in_ok-phi.ensures.table;
      psi_table = IsTable-transposed (rw c.field-field.ensures at c.in_ok-psi_rows.ensures.table) c.in_ok-psi.ensures.table;
      matrix_entries = c.in_ok-matrix.ensures.entries;
      phi_entries = c.in_ok-phi.ensures.entries;
      psi_entries = λ i j i_within j_within. c.in_ok-psi.ensures.entries i j ∙ c.in_ok-psi_rows.ensures.entries j i j_within i_within;
      gamma_entries = rw c.from_columns.ensures at c.in_ok-gamma.ensures.entries;
      gamma2_entries = c.in_ok-gamma2.ensures.entries;
    }))

pub from_columns-requires : goal.from_columns-requires
from_columns-requires g c = rw c.count-n.ensures.count c.requires.work.gamma_columns.keeps_rows

pub transpose-requires-2 : goal.transpose-requires-2
transpose-requires-2 g c = rw c.from_columns.ensures (rw c.requires.work.gamma_columns.count (omega (arith, c.requires.few)))

pub returns : goal.returns
returns g c =
    let s = c.args.graded.now in
    let work = c.args.work in
    let all_count : length c.as_slice-all.result.now ≡ length s.base = ap length c.as_slice-all.ensures.value ∙ c.in_ok-every.ensures.count
    ∙ c.count-n.ensures.count in
    let parts : AreParts (g.F.Field.arithmetic s.field) s.base s.dims work.left.items work.w.items work.phi.items work.psi.items c.as_slice-kept.result.now
    c.as_slice-all.result.now c.in_ok-base.base.items c.in_ok-dims.dims.items
    c.in_ok-matrix.matrix c.in_ok-phi.phi c.in_ok-psi.psi c.in_ok-gamma2.gamma2 work.gamma.items c.in_ok-gamma.gamma = record {
      lists = rw c.as_slice-kept.ensures.value (rw c.deref.ensures.value at c.in_ok-numbers.ensures);
      all_count = all_count;
      all_items = rw c.as_slice-all.ensures.value (rw c.count-n.ensures.count at c.in_ok-every.ensures.items);
      bases = c.in_ok-base.ensures;
      dimensions = c.in_ok-dims.ensures;
      matrix_table = rw c.field-field.ensures at c.in_ok-matrix.ensures.table;
      phi_table = rw c.field-field.ensures at c.in_ok-phi.ensures.table;
      psi_table = IsTable-transposed (rw c.field-field.ensures at c.in_ok-psi_rows.ensures.table) c.in_ok-psi.ensures.table;
      matrix_entries = c.in_ok-matrix.ensures.entries;
      phi_entries = c.in_ok-phi.ensures.entries;
      psi_entries = λ i j i_within j_within. c.in_ok-psi.ensures.entries i j ∙ c.in_ok-psi_rows.ensures.entries j i j_within i_within;
      gamma_entries = rw c.from_columns.ensures at c.in_ok-gamma.ensures.entries;
      gamma2_entries = c.in_ok-gamma2.ensures.entries;
    } in
    let base_count = sym c.in_ok-base.ensures.count in
    let gamma = c.requires.work.gamma_columns in
    let turned = rw c.from_columns.ensures at c.in_ok-gamma.ensures in
    rw c.new-complex.ensures (record {
      field = c.field-field.ensures;
      grading = c.grading.ensures;
      strict = renumbered-strict (g.met.F.Field.is_field s.field) _ _ s.base s.dims s.matrix c.count-n.ensures.filtered work.left.items work.w.items
          work.phi.items work.psi.items work.gamma.items
          c.requires.work c.requires.strict _ _ _ _ _ _ _ _ _ parts;
      tables = record {
        phi = subst (λ (m : ℕ). IsTable (g.F.Field.arithmetic s.field) m (length c.in_ok-base.base.items) c.in_ok-phi.phi) all_count
            (subst (λ (n : ℕ). IsTable (g.F.Field.arithmetic s.field) (length c.as_slice-all.result.now) n c.in_ok-phi.phi) base_count parts.phi_table);
        psi = subst (λ (m : ℕ). IsTable (g.F.Field.arithmetic s.field) (length c.in_ok-base.base.items) m c.in_ok-psi.psi) all_count
            (subst (λ (n : ℕ). IsTable (g.F.Field.arithmetic s.field) n (length c.as_slice-all.result.now) c.in_ok-psi.psi) base_count parts.psi_table);
        gamma = subst (λ (n : ℕ). IsTable (g.F.Field.arithmetic s.field) n (length s.base) c.in_ok-gamma.gamma) gamma.count
            (subst (λ (n : ℕ). IsTable (g.F.Field.arithmetic s.field) (length work.gamma.items) n c.in_ok-gamma.gamma) c.count-n.ensures.count
            (turned.table (g.F.Field.arithmetic s.field) gamma.codes));
        gamma2 = subst (λ (n : ℕ). IsTable (g.F.Field.arithmetic s.field) n n c.in_ok-gamma2.gamma2) base_count
            (c.in_ok-gamma2.ensures.table (g.F.Field.arithmetic s.field));
      };
      reduction = renumbered-reduction (g.met.F.Field.is_field s.field) _ _ s.base s.dims s.matrix c.count-n.ensures.filtered work.left.items work.w.items
          work.phi.items work.psi.items work.gamma.items
          c.requires.work c.requires.strict _ _ _ _ _ _ _ _ _ parts;
    })
