use Rattle.std.proofs.Common.{◌≡◌, ℕ, List, length, map, Vec, String, string_bytes}
use Rattle.std.specs.declared.alloc.Global.{Global}
use Rattle.conley_json.specs.Meaning.{texts}
use Rattle.conley_input.proofs.file.apart.Given as goal

abbrev pub invariant-loop-name : goal.invariant-loop-name
invariant-loop-name l = record {
  names : texts l.names ≡ map (λ (set : List ℕ × List (List ℕ)). set.0) (map (λ (set : String Global × Vec (String Global) Global).
      (string_bytes set.0, texts set.1)) l.yielded);
  count : length l.names.items ≡ length l.lists.items;
  lists : map texts l.lists.items ≡ map (λ (set : List ℕ × List (List ℕ)). set.1) (map (λ (set : String Global × Vec (String Global) Global).
      (string_bytes set.0, texts set.1)) l.yielded);
}
