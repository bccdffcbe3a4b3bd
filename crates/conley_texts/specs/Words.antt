-- The words of a line, by what they are made from.
--     labels_of labels cells    the labels of cells
--     words_of words            the words
--     IsWritten words           each cell that they name has a label
--     AreWritten parts          so of each part of a line
-- What the writer says of a line that is begun; no clause of another crate cites it.
--     behind some word          a word that stands behind others, or is the first
--     joined some words         words that stand behind others, or are the first
--     is_some words             there is a word
use Rattle.std.specs.Prelude.{ℕ, List, [], ◌∷◌, ◌<◌, All, Bool, true, false, map, length, decimal, slice_index_or}
use Rattle.std.specs.List.{join_with_byte, flat_map}
use Rattle.conley_texts.specs.declared.words.Words.{Words}
use Rattle.conley_texts.specs.declared.words.Words.TheVariants.{Word, Number, Numbers, Labels}

abbrev pub labels_of : List (List ℕ) → List ℕ → List (List ℕ)
labels_of labels cells = map (λ x. slice_index_or labels x []) cells

abbrev pub words_of : Words → List (List ℕ)
words_of (Word word) = word.now ∷ []
words_of (Number number) = decimal number ∷ []
words_of (Numbers numbers) = map decimal numbers.now
words_of (Labels complex cells) = labels_of complex.now.1.labels cells.now

abbrev pub IsWritten : Words → Type 0
IsWritten (Labels complex cells) = All (λ x. x < length complex.now.1.dims) cells.now
IsWritten _ = Unit {0}

abbrev pub AreWritten : List Words → Type 0
AreWritten [] = Unit {0}
AreWritten (words ∷ parts) = IsWritten words × AreWritten parts

abbrev pub behind : Bool → List ℕ → List ℕ
behind true word = 32 ∷ word
behind false word = word

abbrev pub joined : Bool → List (List ℕ) → List ℕ
joined true words = flat_map (λ word. 32 ∷ word) words
joined false words = join_with_byte 32 words

abbrev pub is_some : List (List ℕ) → Bool
is_some [] = false
is_some (word ∷ words) = true
