-- Texts, one more line at a time.
use Rattle.std.proofs.Common.{◌≡◌, ℕ, ◌+◌, ◌<◌, List, [], ◌∷◌, ◌++◌, length, map, take, get_or, ◌∙◌, ap}
use Rattle.std.proofs.lemmas.List.{append-nil, take_more, map-append}
use Rattle.std.proofs.lemmas.Grind.{flat_map-append}
use Rattle.conley_texts.specs.Line.{line, text_of}

pub text_of-append : (a b : List (List (List ℕ))) → text_of (a ++ b) ≡ text_of a ++ text_of b
text_of-append a b = flat_map-append line a b

-- one more line, made from one more item of a list
pub text_more : {X : Type 0} (f : X → List (List ℕ)) (xs : List X) (i : ℕ) (d : X) → i < length xs →
    text_of (map f (take (i + 1) xs)) ≡ text_of (map f (take i xs)) ++ line (f (get_or xs i d))
text_more f xs i d h =
    ap (λ ys. text_of (map f ys)) (take_more xs i d h) ∙ ap text_of (map-append f (take i xs) (get_or xs i d ∷ []))
    ∙ flat_map-append line (map f (take i xs)) (f (get_or xs i d) ∷ []) ∙ ap (λ t. text_of (map f (take i xs)) ++ t) (append-nil (line (f (get_or xs i d))))
