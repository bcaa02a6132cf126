-- What a script says: lines, and the words of each.
--
-- line_feed    the byte that ends a line; the last line may lack it
-- blank        the byte between two words
-- cut_at       the parts of a list that a mark divides; `rest` is what remains where the list ends
-- part         how long the part before the first mark is
-- lines_of     the lines of a script; where nothing follows a line feed, no further line does
-- words_of     the words of a line; a word between two neighbouring blanks, or beside a blank at an end, is empty
-- script_of    a script as a list of lines, each a list of words
use Rattle.std.specs.Prelude.{ℕ, cond, not, List, [], ◌∷◌, map, ◌==◌}
use Rattle.std.specs.List.{prefix_len}

abbrev pub line_feed : ℕ
line_feed = 10

abbrev pub blank : ℕ
blank = 32

-- one byte more at the front of the first part
abbrev pub onto_first : ℕ → List (List ℕ) → List (List ℕ)
onto_first b [] = (b ∷ []) ∷ []
onto_first b (part ∷ parts) = (b ∷ part) ∷ parts

abbrev pub cut_at : ℕ → List (List ℕ) → List ℕ → List (List ℕ)
cut_at mark rest [] = rest
cut_at mark rest (b ∷ bs) = cond (b == mark) ([] ∷ cut_at mark rest bs) (onto_first b (cut_at mark rest bs))

abbrev pub part : ℕ → List ℕ → ℕ
part mark bs = prefix_len (λ b. not (b == mark)) bs

abbrev pub lines_of : List ℕ → List (List ℕ)
lines_of bytes = cut_at line_feed [] bytes

abbrev pub words_of : List ℕ → List (List ℕ)
words_of line = cut_at blank ([] ∷ []) line

abbrev pub script_of : List ℕ → List (List (List ℕ))
script_of bytes = map words_of (lines_of bytes)
