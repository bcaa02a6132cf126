-- Why a run that needs a recycle always gets one, and what it leaves: over chip meaning, books and tables.
use Rattle.std.proofs.lemmas.Grind.{common_steps}
use Rattle.std.proofs.Common.{◌≡◌, ℕ, ◌+◌, ◌-◌, ◌*◌, ◌<◌, ◌≤◌, true, ◌≢◌, List, [], length, Some, Option, sym, ap, ◌∙◌, arith, rules}
use Rattle.chip.specs.Meaning.{Page, Meaning}
use Rattle.plan.specs.Yield.{yield_rule}
use Rattle.ledger.specs.Books.{Books, tokens, highest, ran_once}
use Rattle.ledger.specs.Fair.{FairBooks}
use Rattle.ledger.specs.Steps.{owes}
use Rattle.ledger.specs.Settled.{SettledBut}
use Rattle.ledger.proofs.Settles.{below_owing}
use Rattle.ledger.proofs.Tokens.{tokens_capped, collector_within, tokens_ran}
use Rattle.history.specs.Pages.{lives, deads}
use Rattle.history.specs.History.{History}
use Rattle.history.specs.Work.{Emptying, begun, passed, copied}
use Rattle.history.proofs.Counts.{kinds_sum, lives_le}
use Rattle.history.proofs.Room.{many_dead}
use Rattle.pages.specs.declared.tables.Tables.{Tables}
use Rattle.pages.specs.Tied.{maps_of, page_in}
use Rattle.pages.specs.Recycle.{per_block, all_free, CanRecycle, Recycled}
use Rattle.store.specs.State.{paid_for, SoundAt}

-- the yield rule with its subtractions where the rule has them
rule_apart : (blocks size numbers high α : ℕ) → 1 ≤ α → yield_rule blocks size numbers high α ≡ true → numbers + high + (α - 1) + (α - 1) * blocks < blocks * size
rule_apart blocks size numbers high α some rule = search rules

module _ (m : Meaning) (b : Books) (t : Tables) (s : SoundAt m b t) where
  pub same_per : b.frame.pages_per_block ≡ per_block t
  same_per = s.per_block ∙ s.shape.pages

  pub same_blocks : b.frame.blocks ≡ t.geometry.blocks
  same_blocks = s.blocks ∙ s.shape.blocks

  size : length m.pages ≡ b.frame.blocks * b.frame.pages_per_block
  size = search rules

  module _ (i : ℕ) (fair : FairBooks b) (owed : 0 < owes b i) (but : SettledBut i b) (short : all_free m < tokens b + b.frame.alpha) where
    -- more than (α − 1) pages to a block are dead
    many : (b.frame.alpha - 1) * b.frame.blocks < deads (maps_of t) (page_in m.pages) 0 (length m.pages)
    many =
        let f = b.frame in
        let N = f.blocks in
        let π = f.pages_per_block in
        let page = page_in m.pages in
        let kinds = kinds_sum (maps_of t) page 0 (length m.pages) in
        let live = lives_le (maps_of t) page (length m.pages) f.numbers s.labels in
        let cap = tokens_capped b fair (below_owing b i fair but owed) in
        many_dead N π f.numbers f.alpha (highest b) (all_free m) (lives (maps_of t) page 0 (length m.pages)) (deads (maps_of t) page 0 (length m.pages)) (tokens b)
        (rule_apart N π f.numbers (highest b) f.alpha fair.yields fair.rule) (kinds ∙ size) live short cap

    pub can_recycle : CanRecycle m t b.frame.alpha
    can_recycle = grind (arith, common_steps, collector_within, many)

-- ---- labels stay in range

moved_labels : (n l : ℕ) (maps next : ℕ → Option ℕ) → ((k q : ℕ) → maps k ≡ Some q → k < n) → (q₀ : ℕ) → maps l ≡ Some q₀ → ((k : ℕ) → k ≢ l → next k ≡ maps k)
    → (k q : ℕ) → next k ≡ Some q → k < n
moved_labels n l maps next within q₀ named others k q is = search rules

emptied_labels : (n : ℕ) {size b : ℕ} {h : History} {maps : ℕ → Option ℕ} {pages : List Page} {start i copies : ℕ} {t : History} {now : ℕ → Option ℕ} {left : List Page} {from : ℕ}
    → Emptying size b h maps pages start i copies t now left from → ((k q : ℕ) → maps k ≡ Some q → k < n) → (k q : ℕ) → now k ≡ Some q → k < n
emptied_labels n begun within = within
emptied_labels n (passed e dead) within = emptied_labels n e within
emptied_labels n (copied {now = now} {next = next} l d e named is put) within = moved_labels n l now next (emptied_labels n e within) _ named put.others

-- ---- after a run

module _ (m : Meaning) (b : Books) (t : Tables) (s : SoundAt m b t) (i : ℕ) (there : i < length b.seats) where
  -- without a recycle: there were pages to spare
  pub sound_ran : tokens b + b.frame.alpha ≤ all_free m → SoundAt m (ran_once b i) t
  sound_ran wide = grind (arith, common_steps, tokens_ran)

pub tokens_paid_for : (b : Books) (n : ℕ) → n ≤ b.spare → tokens (paid_for n b) + n ≡ tokens b
tokens_paid_for b n within = omega (arith, within)

module _ (m : Meaning) (b : Books) (t : Tables) (s : SoundAt m b t) (i : ℕ) (there : i < length b.seats) (copies tries : ℕ) (n : Meaning) (u : Tables) (r : Recycled m t b.frame.alpha copies tries n u) where
  payable : tries - copies ≤ b.spare
  payable = omega (arith, r.failed, s.spare)

  pub sound_recycled : SoundAt n (ran_once (paid_for (tries - copies) b) i) u
  sound_recycled =
      let kinds = kinds_sum (maps_of t) (page_in m.pages) (r.block * per_block t) (per_block t) in
      let paid = tokens_paid_for b (tries - copies) payable in
      let gained = tokens_ran (paid_for (tries - copies) b) i there in
      let e = r.answers [] in
      record {
        tied = r.tied;
        shape =
            record {
              blocks = r.sizes.blocks ∙ s.shape.blocks ∙ ap (λ g. g.blocks) (sym r.geometry);
              pages = r.sizes.per_block ∙ s.shape.pages ∙ ap (λ g. g.pages_per_block) (sym r.geometry);
            };
        blocks = s.blocks ∙ sym r.sizes.blocks;
        per_block = s.per_block ∙ sym r.sizes.per_block;
        page_size = s.page_size ∙ sym r.sizes.page_size;
        numbers = s.numbers;
        labels = λ l q named. emptied_labels b.frame.numbers e.1 s.labels l q (ap (λ f. f l) (sym r.map) ∙ named);
        spare = omega (arith, r.failed, r.tried, s.spare);
        room = omega (arith, kinds, paid, gained, r.gained, r.enough, r.copied, r.tried, s.room);
      }
