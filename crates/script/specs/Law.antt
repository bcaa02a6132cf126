-- What lines and words have to do with the bytes of a script.
--
-- Clear        no byte is the mark
-- AllClear     no part has the mark in it
-- ended        parts, each with the mark after it
-- parted       parts with the mark between them
-- EndsSome     there is a last part, and it is not empty
-- LinesLaw     the lines, each with a line feed after it, are the script; where the last one lacks it, it is not empty
-- WordsLaw     the words, with blanks between them, are the line
-- CutLaw       a script is its lines, and each line is its words
use Rattle.std.specs.Prelude.{◌≡◌, ℕ, ◌<◌, false, ◌⊎◌, List, [], ◌∷◌, ◌++◌, length, ◌==◌}
use Rattle.script.specs.Text.{blank, line_feed, lines_of, words_of}

abbrev pub Clear : ℕ → List ℕ → Type 0
Clear mark [] = Unit {0}
Clear mark (b ∷ bs) = ((b == mark) ≡ false) × Clear mark bs

abbrev pub AllClear : ℕ → List (List ℕ) → Type 0
AllClear mark [] = Unit {0}
AllClear mark (part ∷ parts) = Clear mark part × AllClear mark parts

abbrev pub ended : ℕ → List (List ℕ) → List ℕ
ended mark [] = []
ended mark (part ∷ parts) = part ++ (mark ∷ ended mark parts)

abbrev pub parted : ℕ → List (List ℕ) → List ℕ
parted mark [] = []
parted mark (part ∷ []) = part
parted mark (part ∷ (next ∷ parts)) = part ++ (mark ∷ parted mark (next ∷ parts))

abbrev pub EndsSome : List (List ℕ) → Type 0
EndsSome [] = ⊥
EndsSome (part ∷ []) = 0 < length part
EndsSome (part ∷ (next ∷ parts)) = EndsSome (next ∷ parts)

pub record LinesLaw (script : List ℕ) (lines : List (List ℕ)) : Type 0 where
  pub whole : (ended line_feed lines ≡ script) ⊎ ((parted line_feed lines ≡ script) × EndsSome lines)
  pub clear : AllClear line_feed lines

pub record WordsLaw (line : List ℕ) (words : List (List ℕ)) : Type 0 where
  pub some : 0 < length words
  pub whole : parted blank words ≡ line
  pub clear : AllClear blank words

pub record CutLaw (script : List ℕ) : Type 0 where
  pub lines : LinesLaw script (lines_of script)
  pub words : (line : List ℕ) → WordsLaw line (words_of line)
