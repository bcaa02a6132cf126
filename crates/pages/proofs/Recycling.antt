-- A whole recycle, over plain values.
use Rattle.std.proofs.lemmas.Grind.{common_steps}
use Rattle.std.proofs.Common.{◌≡◌, ℕ, ◌+◌, ◌-◌, ◌*◌, ◌<◌, ◌≤◌, true, List, [], ◌∷◌, length, get_or, take, sum, sym, ap, ◌∙◌, inl, inr, arith, rules}
use Rattle.chip.specs.Meaning.{Meaning, Shaped}
use Rattle.chip.specs.Calls.{wiped, with_block_free}
use Rattle.chooser.specs.Law.{askable, Answers}
use Rattle.chooser.proofs.Askable.{askable_from}
use Rattle.history.specs.Pages.{is_dead, frees, deads}
use Rattle.history.specs.History.{asked}
use Rattle.history.specs.Work.{Emptied as EmptiedBlock, after_wipe}
use Rattle.history.proofs.Tally.{tally_le, tally_same}
use Rattle.history.proofs.Counts.{kinds_sum, deads_sum}
use Rattle.history.proofs.Chip.{block_range, block_fits, frees_wiped}
use Rattle.history.proofs.Recycle.{Copying}
use Rattle.history.proofs.Laws.{emptying_copying}
use Rattle.pages.specs.declared.tables.Tables.{Tables}
use Rattle.pages.specs.Tied.{maps_of, page_in}
use Rattle.pages.specs.Recycle.{per_block, free_in, dead_count, all_free, CanEmpty, EmptiedTo, SameBlocks, CanWipe, Wiped, CanRecycle, Recycled}

pub few_bytes : (m : Meaning) → Shaped m → m.page_size ≤ 512
few_bytes m (inl empty) = search rules
few_bytes m (inr range) = range.few_bytes

-- ---- the question and the block

module _ (m : Meaning) (t : Tables) (α : ℕ) (can : CanRecycle m t α) where
  abbrev pub counts : List ℕ
  counts = take (t.geometry.blocks - 0) t.dead

  long : length counts ≡ t.geometry.blocks
  long = search rules

  each : (b : ℕ) → b < t.geometry.blocks → get_or counts b 0 ≡ dead_count m t b
  each b there = grind (arith, common_steps)

  pub is_question : askable counts ≡ true
  is_question =
      askable_from counts (omega (arith, long, t.geometry.sized.0)) (omega (arith, long, t.geometry.sized.1))
      (λ b there.
      let n = tally_le (λ q. is_dead (maps_of t) q (page_in m.pages q)) (b * per_block t) (per_block t) in
      omega (arith, each b (omega (arith, long, there)), n, t.geometry.sized.3))

  all_dead : sum counts ≡ deads (maps_of t) (page_in m.pages) 0 (length m.pages)
  all_dead = grind (arith, common_steps, deads_sum)

  module _ {S : Type 0} (before : S) (b : ℕ) (after : S) (answer : Answers counts before b after) where
    pub there : b < t.geometry.blocks
    there = search rules

    pub enough : α ≤ dead_count m t b
    enough = grind (arith, common_steps, all_dead, is_question)

    pub can_empty : (buffer : ℕ) → m.page_size ≤ buffer → CanEmpty m t b buffer
    can_empty buffer wide = grind (arith, common_steps, kinds_sum, enough)

-- ---- after the copies

module _ (m : Meaning) (t : Tables) (b copies tries : ℕ) (n : Meaning) (u : Tables) (e : EmptiedTo m t b (per_block t) copies tries n u) (block : b < t.geometry.blocks) (shape : SameBlocks m t) where
  same_per : per_block u ≡ per_block t
  same_per = ap (λ g. g.pages_per_block) e.geometry

  copying : Copying (b * per_block t) (per_block t) (maps_of t) (page_in m.pages) (per_block t) copies (maps_of u) (page_in n.pages)
  copying = emptying_copying t.geometry.sized.2 (omega arith) (e.answers []).1

  -- the block holds no live page
  none_live : EmptiedBlock (per_block t) b (maps_of u)
  none_live l q named inside = grind (arith, common_steps, block_range, copying)

  pub can_wipe : CanWipe n u b
  can_wipe = grind (arith, common_steps, none_live)

  held_same : frees (page_in n.pages) (b * per_block t) (per_block t) ≡ free_in m t b
  held_same = grind (arith, common_steps, tally_same, copying)

  module _ (α : ℕ) (worth : α ≤ dead_count m t b) where
    pages_so : (with_block_free n b).pages ≡ wiped (per_block t) b n.pages
    pages_so = search rules

    gained_so : (o : Meaning) → o ≡ with_block_free n b → length o.pages ≡ length n.pages → all_free o + tries + free_in m t b ≡ all_free m + per_block t
    gained_so o is same =
        let fits = block_fits (per_block t) b t.geometry.blocks block in
        let size = e.tied.sized.long ∙ ap (λ g. g.blocks * g.pages_per_block) e.geometry in
        let w = frees_wiped (per_block t) b (length n.pages) n.pages (omega (arith, fits, size)) (omega (arith, fits, size)) in
        let p : frees (page_in o.pages) 0 (length o.pages) ≡ frees (page_in (wiped (per_block t) b n.pages)) 0 (length n.pages) =
        ap (frees (page_in o.pages) 0) same ∙ ap (λ x. frees (page_in x) 0 (length n.pages)) (ap (λ (x : Meaning). x.pages) is ∙ pages_so) in
        omega (arith, w, p, held_same, e.taken)

    pub recycled : (o : Meaning) (v : Tables) → Wiped n u b o v → Recycled m t α copies tries o v
    recycled o v w =
        let same : length o.pages ≡ length n.pages =
        w.tied.sized.long ∙ ap (λ (x : Tables). x.geometry.blocks * x.geometry.pages_per_block) w.tables ∙ sym e.tied.sized.long in
        record {
          block = b;
          there = block;
          enough = worth;
          copied = copying.count;
          tried = e.tried;
          failed = ap (λ (x : Meaning). x.allowance + tries) w.chip ∙ e.failed;
          gained = gained_so o w.chip same;
          sizes =
              record {
                blocks = ap (λ (x : Meaning). x.blocks) w.chip ∙ e.sizes.blocks;
                per_block = ap (λ (x : Meaning). x.per_block) w.chip ∙ e.sizes.per_block;
                page_size = ap (λ (x : Meaning). x.page_size) w.chip ∙ e.sizes.page_size;
              };
          geometry = ap (λ (x : Tables). x.geometry) w.tables ∙ e.geometry;
          tied = w.tied;
          left = n;
          passed = u;
          pages = ap (λ (x : Meaning). x.pages) w.chip ∙ pages_so;
          map = ap maps_of w.tables;
          start = ap (λ (x : Tables). x.start) w.tables ∙ ap (λ p. wiped_start p) same_per;
          answers = λ h. e.answers (asked b ∷ h);
        }
      where
        wiped_start : ℕ → ℕ
        wiped_start p = after_wipe p b u.start
