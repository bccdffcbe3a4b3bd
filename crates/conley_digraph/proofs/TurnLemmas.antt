-- A turn of the last node of the path, by what its calls did.
use Rattle.std.proofs.Common.{◌≡◌, ◌≢◌, inl, inr, ◌+◌, ◌-◌, ◌<◌, ◌≤◌, ℕ, List, [], ◌∷◌, ◌++◌, Vec, Global, length, get_or, set, take, refl, sym, ap, ◌∙◌, subst, arith}
use Rattle.std.specs.Prelude.{All, Contains, slice_index, sum, vec_len}
use Rattle.std.specs.List.Sorted.{IsStrictlyIncreasing}
use Rattle.std.proofs.lemmas.List.{get_or_append_left, get_or_default, get_or_read}
use Rattle.std.proofs.lemmas.List.Sums.{sum_by-set}
use Rattle.std.proofs.lemmas.List.Elements.{Contains-append_left, Contains-get_or, Contains-push_cases}
use Rattle.conley_walk.specs.Walk.{Reaches}
use Rattle.conley_lists.specs.Lists.{items_of, ListedStep, IsDigraph}
use Rattle.conley_lists.proofs.ListLemmas.{row_of, length-items_of}
use Rattle.conley_digraph.specs.declared.search.Search.{Search}
use Rattle.conley_digraph.specs.declared.search.Stage.{Stage}
use Rattle.conley_digraph.specs.declared.search.Stage.TheVariants.{New, Open, Closed}
use Rattle.conley_digraph.specs.Search.{stage_of, IsMet, IsPassed, IsSearch, IsSearchOf}
use Rattle.conley_digraph.specs.Turn.{PassesAt, Passes, Closes, KeepsStack, Leaves, IsTurned}
use Rattle.conley_digraph.proofs.StackLemmas.{split_last, before_last}
use Rattle.conley_digraph.proofs.MeetLemmas.{meet_search, meet_keeps, meet_passed}
use Rattle.conley_digraph.proofs.MergeLemmas.{merge_search, merge_passed}
use Rattle.conley_digraph.proofs.LookLemmas.{is_node, look_at, bound_to_last, head_reached, leave_search}
use Rattle.conley_digraph.proofs.CloseLemmas.{close_search, close_keeps}

-- fewer turns of one node
pub fewer_turns : (turns : List ℕ) (x t : ℕ) → x < length turns → t < slice_index turns x → sum (set turns x t) < sum turns
fewer_turns turns x t lx less = omega (arith, sum_by-set (λ (n : ℕ). n) turns x t 0 lx, less)

-- the search's lists by other names
pub search_along : (lists : List (List ℕ)) (stages stages' : List Stage) (turns turns' stack stack' bounds bounds' path path' roots roots' : List ℕ) →
    stages' ≡ stages → turns' ≡ turns → stack' ≡ stack → bounds' ≡ bounds → path' ≡ path → roots' ≡ roots →
    IsSearch lists stages turns stack bounds path roots → IsSearch lists stages' turns' stack' bounds' path' roots'
search_along lists stages stages' turns turns' stack stack' bounds bounds' path path' roots roots' e f g h i j s = rw (e, f, g, h, i, j) s

-- the last place of the path, as it is read
module _ (steps : List (Vec ℕ Global)) (o : Search) (s : IsSearchOf (items_of steps) o) (some : 0 < length o.path.items) (len q : ℕ)
    (len_is : len ≡ vec_len o.path) (q_read : q ≡ get_or o.path.items (len - 1) q) where
  abbrev lists : List (List ℕ)
  lists = items_of steps

  abbrev rest : List ℕ
  rest = take (length o.path.items - 1) o.path.items

  is_last : q ≡ get_or o.path.items (length o.path.items - 1) 0
  is_last =
      let whole : len ≡ length o.path.items = omega (arith, len_is, o.path.ok.0) in
      get_or_read o.path.items (len - 1) q (omega (arith, whole, some)) q_read 0 ∙ ap (λ (k : ℕ). get_or o.path.items (k - 1) 0) whole

  on_path : Contains o.path.items q
  on_path = subst (Contains o.path.items) (sym is_last) (Contains-get_or o.path.items (length o.path.items - 1) 0 (omega arith))

  pub on_stack : q < length o.stack.items
  on_stack = s.bounds_are.on_stack q on_path

  path_is : o.path.items ≡ rest ++ q ∷ []
  path_is = split_last o.path.items some ∙ ap (λ (p : ℕ). rest ++ p ∷ []) (sym is_last)

  by_last : IsSearch lists o.stages.items o.turns.items o.stack.items o.bounds.items (rest ++ q ∷ []) o.roots.items
  by_last = subst (λ p. IsSearch lists o.stages.items o.turns.items o.stack.items o.bounds.items p o.roots.items) path_is s

  pub some_bound : 0 < length o.bounds.items
  some_bound = let c = s.bounds_are.first (omega (arith, on_stack)) in omega (arith, c.1)

  pub all_nodes : All (λ x. x < length o.stages.items) o.stack.items
  all_nodes k d lt = omega (
    arith,
    get_or_default o.stack.items k d 0 lt,
    is_node lists o.stages.items o.turns.items o.stack.items o.bounds.items o.path.items
        o.roots.items s k lt,
    s.stages_are.count,
  )

  -- its node
  module _ (x : ℕ) (x_read : x ≡ get_or o.stack.items q x) where
    at : slice_index o.stack.items q ≡ x
    at = sym (get_or_read o.stack.items q x on_stack x_read 0)

    pub last_node : x < length steps
    last_node = omega (
      arith,
      length-items_of steps,
      ap (λ (z : ℕ). z) at,
      is_node lists o.stages.items o.turns.items o.stack.items o.bounds.items o.path.items
          o.roots.items s q on_stack,
    )

    pub in_turns : x < vec_len o.turns
    in_turns = omega (arith, last_node, length-items_of steps, s.turns_are.count, o.turns.ok.0)

    reached : (y : ℕ) → ListedStep lists x y → (r : ℕ) → r < length o.stack.items → Reaches (ListedStep lists) (slice_index o.stack.items r) y
    reached y step = head_reached lists o.stages.items o.turns.items o.stack.items o.bounds.items rest o.roots.items q by_last y
        (subst (λ z. ListedStep lists z y) (sym at) step)

    -- the turns that it wants
    module _ (w : ℕ) (w_read : w ≡ get_or o.turns.items x w) where
      turns_are : slice_index o.turns.items x ≡ w
      turns_are = sym (get_or_read o.turns.items x w (omega (arith, in_turns, o.turns.ok.0)) w_read 0)

      pub wants : 0 < w
      wants = omega (arith, s.turns_are.wants q on_path, ap (slice_index o.turns.items) at, turns_are)

      is : slice_index o.turns.items x ≡ (w - 1) + 1
      is = omega (arith, wants, turns_are)

      less : sum (set o.turns.items x (w - 1)) < sum o.turns.items
      less = fewer_turns o.turns.items x (w - 1) (omega (arith, in_turns, o.turns.ok.0)) (omega (arith, is))

      -- its next head
      module _ (more : 0 < w - 1) (row : Vec ℕ Global) (row_read : row ≡ get_or steps x row) where
        row_is : get_or lists x [] ≡ row.items
        row_is = row_of steps x row last_node row_read

        in_items : w - 1 - 1 < length row.items
        in_items = omega (arith, ap length row_is, turns_are, s.turns_are.bound x (omega (arith, last_node, length-items_of steps)), more)

        pub in_row : w - 1 - 1 < vec_len row
        in_row = omega (arith, in_items, row.ok.0)

        module _ (y : ℕ) (y_read : y ≡ get_or row.items (w - 1 - 1) y) (digraph : IsDigraph lists) where
          head : y ≡ slice_index (get_or lists x []) (w - 1 - 1)
          head = get_or_read row.items (w - 1 - 1) y in_items y_read 0 ∙ ap (λ l. get_or l (w - 1 - 1) 0) (sym row_is)

          step : ListedStep lists x y
          step = subst (Contains (get_or lists x [])) (sym head) (Contains-get_or (get_or lists x []) (w - 1 - 1) 0 (omega (arith, in_items, ap length row_is)))

          ly : y < length lists
          ly = digraph x y step

          pub in_stages : y < length o.stages.items
          in_stages = omega (arith, ly, s.stages_are.count)

          -- is looked at
          module _ (n : Search) (v : Vec ℕ Global) (set_is : v.items ≡ set o.turns.items x (w - 1)) where
            by_stage : (stage : Stage) → stage_of o.stages.items y ≡ stage → PassesAt stage (record o { turns = v }) n y → IsTurned lists o n
            by_stage New e meets =
                let fresh = reached y step in
                let met = meet_search lists o.stages.items o.turns.items o.stack.items o.bounds.items o.path.items o.roots.items s y ly e fresh in
                let passed = meet_passed lists o.stages.items o.turns.items o.stack.items o.bounds.items o.path.items o.roots.items s y ly e fresh q on_stack in
                record {
                  search = search_along lists _ n.stages.items _ n.turns.items _ n.stack.items _ n.bounds.items _ n.path.items _ n.roots.items meets.stages
                      (meets.turns ∙ set_is) meets.stack meets.bounds meets.path meets.roots
                      (look_at lists (set o.stages.items y (Open (length o.stack.items))) o.turns.items (o.stack.items ++ y ∷ [])
                      (o.bounds.items ++ length o.stack.items ∷ []) (o.path.items ++ length o.stack.items ∷ []) o.roots.items met
                      q x (get_or_append_left o.stack.items (y ∷ []) 0 q on_stack ∙ at) (Contains-append_left o.path.items (length o.stack.items ∷ []) q
                      on_path) (w - 1) more is
                      (subst (IsPassed (set o.stages.items y (Open (length o.stack.items))) (o.bounds.items ++ length o.stack.items ∷ []) q) head passed));
                  met = λ z m. subst (λ st. IsMet st z) (sym meets.stages) (meet_keeps lists o.stages.items o.turns.items o.stack.items o.bounds.items
                      o.path.items o.roots.items s y ly e fresh z m);
                  turns = subst (λ l. sum l < sum o.turns.items) (sym (meets.turns ∙ set_is)) less;
                }
            by_stage (Open p) e did =
                let there = s.stages_are.open_at y p e in
                let circle = λ (r : ℕ) (lr : r < length o.stack.items). subst (λ z. Reaches (ListedStep lists) (slice_index o.stack.items r) z) (sym there.1)
                (reached y step r lr) in
                let merged = merge_search lists o.stages.items o.turns.items o.stack.items o.bounds.items o.path.items o.roots.items s p there.0 circle
                n.bounds.items did.1 in
                let passed = merge_passed lists o.stages.items o.turns.items o.stack.items o.bounds.items o.path.items o.roots.items s p there.0 circle
                n.bounds.items did.1 q y e in
                record {
                  search = search_along lists _ n.stages.items _ n.turns.items _ n.stack.items n.bounds.items n.bounds.items _ n.path.items _ n.roots.items
                      did.0.stages (did.0.turns ∙ set_is) did.0.stack refl did.0.path did.0.roots
                      (look_at lists o.stages.items o.turns.items o.stack.items n.bounds.items o.path.items o.roots.items merged q x at on_path (w - 1) more is
                      (subst (IsPassed o.stages.items n.bounds.items q) head passed));
                  met = λ z m. subst (λ st. IsMet st z) (sym did.0.stages) m;
                  turns = subst (λ l. sum l < sum o.turns.items) (sym (did.0.turns ∙ set_is)) less;
                }
            by_stage (Closed k) e did = record {
              search = search_along lists _ n.stages.items _ n.turns.items _ n.stack.items _ n.bounds.items _ n.path.items _ n.roots.items did.0.stages
                  (did.0.turns ∙ set_is) did.0.stack did.1 did.0.path did.0.roots
                  (look_at lists o.stages.items o.turns.items o.stack.items o.bounds.items o.path.items o.roots.items s q x at on_path (w - 1) more is
                  (subst (IsPassed o.stages.items o.bounds.items q) head (inl (k, e))));
              met = λ z m. subst (λ st. IsMet st z) (sym did.0.stages) m;
              turns = subst (λ l. sum l < sum o.turns.items) (sym (did.0.turns ∙ set_is)) less;
            }

            pub pass_turned : Passes (record o { turns = v }) n y → IsTurned lists o n
            pass_turned passes = by_stage (stage_of o.stages.items y) refl passes

      -- the node is left
      module _ (none : w - 1 ≤ 0) (n : Search) (v : Vec ℕ Global) (set_is : v.items ≡ set o.turns.items x (w - 1)) where
        zero_turns : w - 1 ≡ 0
        zero_turns = omega (arith, none)

        is_one : slice_index o.turns.items (slice_index o.stack.items q) ≡ 1
        is_one = omega (arith, ap (slice_index o.turns.items) at, is, zero_turns)

        set_none : v.items ≡ set o.turns.items (slice_index o.stack.items q) 0
        set_none = set_is ∙ ap (λ z. set o.turns.items z (w - 1)) (sym at) ∙ ap (λ k. set o.turns.items (slice_index o.stack.items q) k) zero_turns

        closed_turned : slice_index o.bounds.items (length o.bounds.items - 1) ≡ q → Closes (record o { turns = v }) n q → IsTurned lists o n
        closed_turned e closes =
            let bounds_is : o.bounds.items ≡ take (length o.bounds.items - 1) o.bounds.items ++ q ∷ [] =
            split_last o.bounds.items some_bound ∙ ap (λ (b : ℕ). take (length o.bounds.items - 1) o.bounds.items ++ b ∷ []) e in
            let s' = subst (λ bs. IsSearch lists o.stages.items o.turns.items o.stack.items bs (rest ++ q ∷ []) o.roots.items) bounds_is by_last in
            record {
              search = search_along lists n.stages.items n.stages.items _ n.turns.items _ n.stack.items _ n.bounds.items _ n.path.items _ n.roots.items refl
                  (closes.turns ∙ set_none) closes.stack closes.bounds closes.path closes.roots
                  (close_search lists o.stages.items o.turns.items o.stack.items (take (length o.bounds.items - 1) o.bounds.items) rest o.roots.items q s'
                  is_one n.stages.items closes.stages);
              met = close_keeps lists o.stages.items o.turns.items o.stack.items (take (length o.bounds.items - 1) o.bounds.items) rest o.roots.items q s'
                  is_one n.stages.items closes.stages;
              turns = subst (λ l. sum l < sum o.turns.items) (sym (closes.turns ∙ set_is)) less;
            }

        -- the last bound is none of this place, so no bound is
        inner : slice_index o.bounds.items (length o.bounds.items - 1) ≢ q → (b : ℕ) → Contains o.bounds.items b → Contains rest b
        inner ne b c = elim (Contains-push_cases rest q b (by_last.bounds_are.on_path b c)) [
          | inl d ↦ d
          | inr e ↦
              let last = get_or o.bounds.items (length o.bounds.items - 1) 0 in
              let up = subst IsStrictlyIncreasing (split_last o.bounds.items some_bound) s.bounds_are.bounds_rise in
              let c' = subst (λ bs. Contains bs b) (split_last o.bounds.items some_bound) c in
              let le = bound_to_last lists o.stages.items o.turns.items o.stack.items o.bounds.items rest o.roots.items q by_last
              last (Contains-get_or o.bounds.items (length o.bounds.items - 1) 0 (omega (arith, some_bound))) in
              elim (Contains-push_cases (take (length o.bounds.items - 1) o.bounds.items) last b c') [
                | inl d ↦ absurd (omega (arith, before_last (take (length o.bounds.items - 1) o.bounds.items) last up b d, e, le))
                | inr f ↦ absurd (ne (f ∙ sym e))
              ]
        ]

        left_turned : slice_index o.bounds.items (length o.bounds.items - 1) ≢ q → KeepsStack (record o { turns = v }) n → IsTurned lists o n
        left_turned ne keeps = record {
          search = search_along lists _ n.stages.items _ n.turns.items _ n.stack.items _ n.bounds.items _ n.path.items _ n.roots.items keeps.stages
              (keeps.turns ∙ set_none) keeps.stack keeps.bounds keeps.path keeps.roots
              (leave_search lists o.stages.items o.turns.items o.stack.items o.bounds.items rest o.roots.items q by_last is_one (inner ne));
          met = λ z m. subst (λ st. IsMet st z) (sym keeps.stages) m;
          turns = subst (λ l. sum l < sum o.turns.items) (sym (keeps.turns ∙ set_is)) less;
        }

        pub leave_turned : Leaves (record o { turns = v }) n q → IsTurned lists o n
        leave_turned (inl w) = closed_turned w.0 w.1
        leave_turned (inr w) = left_turned w.0 w.1
