-- What a reader still has to hand out.
--
-- lines_left   the lines that a script has yet to hand out, each as its words
-- words_left   the words that a line has yet to hand out
-- Hands        a reader hands out the first of what is left and keeps the rest, and nothing where nothing is left
use Rattle.std.specs.Prelude.{◌≡◌, ℕ, List, [], ◌∷◌, Some, None, Option}
use Rattle.std.specs.Option.{option_map_or}
use Rattle.script.specs.Text.{script_of, words_of}
use Rattle.script.specs.declared.readers.Line.{Line}
use Rattle.script.specs.declared.readers.Script.{Script}

abbrev pub lines_left : Script → List (List (List ℕ))
lines_left s = script_of s.rest.now

abbrev pub words_left : Line → List (List ℕ)
words_left l = option_map_or (λ rest. words_of rest.now) l.rest []

abbrev pub Hands : {X : Type 0} → List X → Option X → List X → Type 0
Hands before None after = (before ≡ []) × (after ≡ [])
Hands before (Some x) after = before ≡ x ∷ after
