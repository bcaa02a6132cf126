use Rattle.std.proofs.Common.{◌≡◌, ℕ, ◌+◌, ◌<◌, ◌≤◌, false, get_or}
use Rattle.chip.specs.Meaning.{free}
use Rattle.chip.specs.Calls.{is_free}
use Rattle.history.specs.Work.{round}
use Rattle.pages.specs.Search.{over, Sized}
use Rattle.pages.proofs.tables.Tables.place.Given as goal

-- the pages looked at so far are passed over or not free
abbrev pub invariant-loop : goal.invariant-loop
invariant-loop g l =
    (l.counter ≤ l.end)
    × (g.C.Chip.means l.chip ≡ g.C.Chip.means l.initial.chip)
    × (Sized (g.C.Chip.means l.initial.chip).pages l.self
    → (l.page ≡ round l.end (l.self.start + l.counter))
    × ((j : ℕ) → j < l.counter → over l.self.geometry.pages_per_block l.skip (round l.end (l.self.start + j)) ≡ false
    → is_free (get_or (g.C.Chip.means l.initial.chip).pages (round l.end (l.self.start + j)) free) ≡ false))
