-- How the pages of a chip are counted, for any map and any function that gives the pages.
--
-- tally        how many numbers of a range a test picks
-- is_live      a page is live if the map names it for its label
-- is_dead      a page is dead if it is neither free nor live
-- frees, lives, deads    how many pages of a range are free, live, dead
use Rattle.std.specs.Prelude.{ℕ, zero, suc, ◌+◌, Bool, true, false, cond, not, Some, None, Option, ◌==◌}
use Rattle.chip.specs.Meaning.{Page, free, spoiled, written}
use Rattle.chip.specs.Calls.{is_free}

-- how many of the n numbers from q on does p pick
abbrev pub tally : (ℕ → Bool) → ℕ → ℕ → ℕ
tally p q zero = 0
tally p q (suc n) = tally p q n + cond (p (q + n)) 1 0

-- the map's entry for a label is this page
abbrev pub names : Option ℕ → ℕ → Bool
names None q = false
names (Some r) q = r == q

abbrev pub is_live : (ℕ → Option ℕ) → ℕ → Page → Bool
is_live maps q free = false
is_live maps q spoiled = false
is_live maps q (written l d) = names (maps l) q

abbrev pub is_dead : (ℕ → Option ℕ) → ℕ → Page → Bool
is_dead maps q free = false
is_dead maps q spoiled = true
is_dead maps q (written l d) = not (names (maps l) q)

-- of the n pages from q on
abbrev pub frees : (ℕ → Page) → ℕ → ℕ → ℕ
frees page = tally (λ q. is_free (page q))

abbrev pub lives : (ℕ → Option ℕ) → (ℕ → Page) → ℕ → ℕ → ℕ
lives maps page = tally (λ q. is_live maps q (page q))

abbrev pub deads : (ℕ → Option ℕ) → (ℕ → Page) → ℕ → ℕ → ℕ
deads maps page = tally (λ q. is_dead maps q (page q))
