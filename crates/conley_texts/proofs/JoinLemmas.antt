-- Words of a line, one after another.
use Rattle.std.proofs.Common.{◌≡◌, ℕ, zero, suc, ◌+◌, ◌<◌, List, [], ◌∷◌, ◌++◌, Bool, true, false, length, map, take, get_or, refl, sym, ◌∙◌, ap, append_assoc, add-one, arith}
use Rattle.std.specs.Prelude.{◌||◌, decimal}
use Rattle.std.specs.List.{join_with_byte, flat_map}
use Rattle.std.proofs.lemmas.List.{append-nil, take_more, map-append}
use Rattle.std.proofs.lemmas.Grind.{flat_map-append}
use Rattle.conley_texts.specs.Line.{line}
use Rattle.conley_texts.specs.Words.{IsWritten, AreWritten, behind, joined, is_some}
use Rattle.conley_texts.specs.declared.words.Words.{Words}

pub join_behind : (word : List ℕ) (words : List (List ℕ)) → join_with_byte 32 (word ∷ words) ≡ word ++ joined true words
join_behind word [] = sym (append-nil word)
join_behind word (next ∷ words) = ap (λ t. word ++ (32 ∷ t)) (join_behind next words)

pub joined-append : (some : Bool) (a b : List (List ℕ)) → joined some (a ++ b) ≡ joined some a ++ joined (some || is_some a) b
joined-append true a b = flat_map-append (λ word. 32 ∷ word) a b
joined-append false [] b = refl
joined-append false (word ∷ words) b =
    join_behind word (words ++ b) ∙ ap (λ t. word ++ t) (flat_map-append (λ w. 32 ∷ w) words b) ∙ sym (append_assoc word (joined true words) (joined true b))
    ∙ ap (λ t. t ++ joined true b) (sym (join_behind word words))

joined-one : (some : Bool) (word : List ℕ) → joined some (word ∷ []) ≡ behind some word
joined-one true word = ap (λ t. 32 ∷ t) (append-nil word)
joined-one false word = refl

pub is_some-append : (a b : List (List ℕ)) → is_some (a ++ b) ≡ is_some a || is_some b
is_some-append [] b = refl
is_some-append (word ∷ words) b = refl

-- one more word, made from one more item of a list
pub joined_more : {X : Type 0} (f : X → List ℕ) (xs : List X) (i : ℕ) (d : X) (some : Bool) → i < length xs →
    joined some (map f (take (i + 1) xs)) ≡ joined some (map f (take i xs)) ++ behind (some || is_some (map f (take i xs))) (f (get_or xs i d))
joined_more f xs i d some h =
    ap (λ ys. joined some (map f ys)) (take_more xs i d h) ∙ ap (joined some) (map-append f (take i xs) (get_or xs i d ∷ []))
    ∙ joined-append some (map f (take i xs)) (f (get_or xs i d) ∷ []) ∙ ap (λ t. joined some (map f (take i xs)) ++ t)
    (joined-one (some || is_some (map f (take i xs))) (f (get_or xs i d)))

-- there is a word once one is made
pub some_more : {X : Type 0} (f : X → List ℕ) (xs : List X) (i : ℕ) (some : Bool) → i < length xs → true ≡ some || is_some (map f (take (i + 1) xs))
some_more f [] i some h = absurd (omega arith)
some_more f (x ∷ xs) i true h = refl
some_more f (x ∷ xs) i false h = sym (ap (λ k. is_some (map f (take k (x ∷ xs)))) (add-one i))

parts_more : {X : Type 0} (f : X → List (List ℕ)) (xs : List X) (i : ℕ) (d : X) → i < length xs
    → flat_map f (take (i + 1) xs) ≡ flat_map f (take i xs) ++ f (get_or xs i d)
parts_more f xs i d h = ap (flat_map f) (take_more xs i d h) ∙ flat_map-append f (take i xs) (get_or xs i d ∷ [])
    ∙ ap (λ t. flat_map f (take i xs) ++ t) (append-nil (f (get_or xs i d)))

-- the words of one more part
pub line_more : {X : Type 0} (f : X → List (List ℕ)) (xs : List X) (i : ℕ) (d : X) (within : i < length xs)
    → joined false (flat_map f (take (i + 1) xs)) ≡ joined false (flat_map f (take i xs)) ++ joined (is_some (flat_map f (take i xs))) (f (get_or xs i d))
line_more f xs i d h =
    ap (joined false) (parts_more f xs i d h) ∙ joined-append false (flat_map f (take i xs)) (f (get_or xs i d))

pub some_parts : {X : Type 0} (f : X → List (List ℕ)) (xs : List X) (i : ℕ) (d : X)
    → i < length xs → is_some (flat_map f (take (i + 1) xs)) ≡ is_some (flat_map f (take i xs)) || is_some (f (get_or xs i d))
some_parts f xs i d h = ap is_some (parts_more f xs i d h) ∙ is_some-append (flat_map f (take i xs)) (f (get_or xs i d))

-- one part of a line
pub written_at : (parts : List Words) (i : ℕ) (d : Words) → i < length parts → AreWritten parts → IsWritten (get_or parts i d)
written_at [] i d h all = absurd (omega arith)
written_at (words ∷ parts) zero d h all = all.0
written_at (words ∷ parts) (suc i) d h all = written_at parts i d (omega arith) all.1

-- numbers behind spaces
joined-numbers : (numbers : List ℕ) → joined true (map decimal numbers) ≡ flat_map (λ n. 32 ∷ decimal n) numbers
joined-numbers [] = refl
joined-numbers (n ∷ numbers) = ap (λ t. 32 ∷ (decimal n ++ t)) (joined-numbers numbers)

-- the pieces of the line of a fault
pub told_line : (word name numbers : List ℕ) → (word ++ (32 ∷ name)) ++ (flat_map (λ n. 32 ∷ decimal n) numbers ++ 10 ∷ []) ≡ line
    (word ∷ name ∷ map decimal numbers)
told_line word name numbers =
    ap (λ t. (word ++ (32 ∷ name)) ++ (t ++ 10 ∷ [])) (sym (joined-numbers numbers)) ∙ sym (append_assoc (word ++ (32 ∷ name))
    (joined true (map decimal numbers)) (10 ∷ []))
    ∙ ap (λ t. t ++ 10 ∷ []) (append_assoc word (32 ∷ name) (joined true (map decimal numbers)) ∙ sym (join_behind word (name ∷ map decimal numbers)))
