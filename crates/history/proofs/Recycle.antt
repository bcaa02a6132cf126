-- A recycle, page by page: each live page of a block is copied out of it, and then none is left.
use Rattle.std.proofs.Common.{◌≡◌, ℕ, ◌+◌, ◌*◌, ◌/◌, ◌<◌, ◌≤◌, Bool, true, false, ◌≢◌, ◌⊎◌, List, get_or, Some, Option, sym, refl, ap, ◌∙◌, arith, get_or-set_other}
use native.Mathlib.Decide.{ℕ_discrete}
use Rattle.std.proofs.lemmas.Bool.{both_ways, eq-eqb, ne_eqb, eqb-false}
use Rattle.chip.specs.Meaning.{Page, free, spoiled, written}
use Rattle.chip.specs.Calls.{is_free}
use Rattle.history.specs.Pages.{is_live, frees, lives}
use Rattle.history.specs.History.{History, last_saved}
use Rattle.history.specs.Promise.{Kept}
use Rattle.history.specs.Work.{Tried, none, again, Written, Emptied, in_block}
use Rattle.history.proofs.Tally.{tally_le, tally_more, tally_more_yes, tally_mono, tally_same}
use Rattle.history.proofs.Counts.{live_kept, live_moved, live_by_map}
use Rattle.history.proofs.Chip.{block_range, block_from, block_outside}
use Rattle.history.proofs.Sound.{mapped_written}

-- the first i pages mark a on have been passed, and `copies` of them copied out of the n pages mark a on
pub record Copying (a n : ℕ) (maps : ℕ → Option ℕ) (page : ℕ → Page) (i copies : ℕ) (now : ℕ → Option ℕ) (after : ℕ → Page) : Type 0 where
  pub same : (k : ℕ) → a ≤ k → k < a + n → after k ≡ page k
  pub done : (k : ℕ) → a ≤ k → k < a + i → is_live now k (after k) ≡ false
  pub left : (k : ℕ) → a + i ≤ k → k < a + n → is_live now k (after k) ≡ is_live maps k (page k)
  pub count : copies ≡ lives maps page a i

module _ (a n : ℕ) (maps : ℕ → Option ℕ) (page : ℕ → Page) where
  pub copying_none : Copying a n maps page 0 0 maps page
  copying_none = record { same = λ k low high. refl; done = λ k low high. absurd (omega arith); left = λ k low high. refl; count = refl }

  module _ (i copies : ℕ) (now : ℕ → Option ℕ) (after : ℕ → Page) (within : i < n) (c : Copying a n maps page i copies now after) where
    -- a page that is not live is passed
    pub copying_pass : is_live now (a + i) (after (a + i)) ≡ false → Copying a n maps page (i + 1) copies now after
    copying_pass dead =
        let was = c.left (a + i) (omega arith) (omega arith) in
        let t = tally_more (λ k. is_live maps k (page k)) a i in
        let e = c.count in
        record {
          same = c.same;
          done = λ k low high. elim (ℕ_discrete k (a + i)) [ yes here ↦ ap (λ x. is_live now x (after x)) here ∙ dead | no apart ↦ c.done k low (omega arith) ];
          left = λ k low high. c.left k (omega arith) high;
          count = grind (arith, was, t, e, dead);
        }

    -- a live page is copied to a page elsewhere
    pub copying_copy : (l q : ℕ) (d : List ℕ) (next : ℕ → Option ℕ) (new : ℕ → Page) → after (a + i) ≡ written l d → now l ≡ Some (a + i)
        → next l ≡ Some q → ((m : ℕ) → m ≢ l → next m ≡ now m) → (q < a) ⊎ (a + n ≤ q) → ((k : ℕ) → a ≤ k → k < a + n → new k ≡ after k)
        → Copying a n maps page (i + 1) (copies + 1) next new
    copying_copy l q d next new is named mapped rest out stay =
        let was = c.left (a + i) (omega arith) (omega arith) in
        let live = live_by_map now (a + i) l d (after (a + i)) is named in
        let t = tally_more (λ k. is_live maps k (page k)) a i in
        let e = c.count in
        let kept : (k : ℕ) → a ≤ k → k < a + n → k ≢ a + i → is_live next k (new k) ≡ is_live now k (after k) =
        λ k low high apart. live_kept after new now next l q mapped rest k (stay k low high) (omega arith) (λ f. apart (cc)) in
        record {
          same = λ k low high. stay k low high ∙ c.same k low high;
          done = λ k low high.
              elim (ℕ_discrete k (a + i)) [
                | yes here ↦ (ap (λ x. is_live next x (new x)) here ∙ live_moved after new now next l q mapped rest (a + i) d (stay (a + i) (omega arith) (omega arith)) (omega arith) is)
                | no apart ↦ (kept k low (omega arith) apart ∙ c.done k low (omega arith))
              ];
          left = λ k low high. kept k (omega arith) high (omega arith) ∙ c.left k (omega arith) high;
          count = grind (arith, was, t, e, live);
        }

    -- a live page is one more to be copied
    pub copying_due : is_live now (a + i) (after (a + i)) ≡ true → copies < lives maps page a n
    copying_due live =
        let was = c.left (a + i) (omega arith) (omega arith) in
        let t = tally_more_yes (λ k. is_live maps k (page k)) a i (sym was ∙ live) in
        let m = tally_mono (λ k. is_live maps k (page k)) a (i + 1) n (omega arith) in
        omega (arith, t, m, c.count)

    pub copying_frees : frees after a n ≡ frees page a n
    copying_frees = tally_same (λ k. is_free (after k)) (λ k. is_free (page k)) a n (λ k low high. ap is_free (c.same k low high))

    pub copying_fewer : copies ≤ i
    copying_fewer = omega (arith, c.count, tally_le (λ k. is_live maps k (page k)) a i)

-- at the end the block holds no live page
pub copying_all : (size b copies : ℕ) (maps now : ℕ → Option ℕ) (page : ℕ → Page) (h : History) (pages : List Page) → 0 < size
    → Copying (b * size) size maps page size copies now (λ q. get_or pages q free) → Kept h now pages
    → Emptied size b now × (copies ≡ lives maps page (b * size) size)
copying_all size b copies maps now page h pages some c kept = (emptied, c.count)
  where
    emptied : Emptied size b now
    emptied l q named inside =
        let r = block_range size q b some inside in
        let w = mapped_written now pages l q (last_saved l h) named (kept l) in
        both_ways _ (c.done q r.0 r.1) (live_by_map now q l w.0 (get_or pages q free) w.1 named)

-- ---- a write that passes over a range leaves it
module _ {over : ℕ → Bool} {l : ℕ} {d : List ℕ} {h : History} {pages : List Page} {start : ℕ} where
  tried_outside : {n : ℕ} {t : History} {left : List Page} {from : ℕ} (k : ℕ) → over k ≡ true → Tried over l d h pages start n t left from → get_or left k free ≡ get_or pages k free
  tried_outside k skipped none = refl
  tried_outside k skipped (again {left = left} q r at) =
      get_or-set_other left q k spoiled free (λ e. both_ways (over q) at.allowed (ap over (sym e) ∙ skipped)) ∙ tried_outside k skipped r

  pub written_outside : {tries : ℕ} {h' : History} {maps maps' : ℕ → Option ℕ} {pages' : List Page} {start' : ℕ} (k : ℕ) → over k ≡ true → Written over l d tries h maps pages start h' maps' pages' start' → get_or pages' k free ≡ get_or pages k free
  written_outside k skipped w =
      ap (λ x. get_or x k free) w.put ∙ get_or-set_other w.left w.place k (written l d) free (λ e. both_ways (over w.place) w.placed.allowed (ap over (sym e) ∙ skipped))
      ∙ tried_outside k skipped w.tried

-- ---- which pages a block has

pub skips : (size b k : ℕ) → b * size ≤ k → k < b * size + size → in_block size b k ≡ true
skips size b k low high = eq-eqb (k / size) b (block_from size k b low high)

pub not_in_block : (size b k : ℕ) → 0 < size → (k < b * size) ⊎ (b * size + size ≤ k) → in_block size b k ≡ false
not_in_block size b k some out = ne_eqb (k / size) b (λ same. let r = block_range size k b some same in omega arith)

pub in_block_outside : (size b k : ℕ) → in_block size b k ≡ false → (k < b * size) ⊎ (b * size + size ≤ k)
in_block_outside size b k out = block_outside size k b (eqb-false (k / size) b out)

module _ {over : ℕ → Bool} {l : ℕ} {d : List ℕ} {h : History} {pages : List Page} {start : ℕ} where
  -- the free pages of a range that is passed over stay
  pub tried_frees_skipped : {k : ℕ} {t : History} {left : List Page} {from : ℕ} (a n : ℕ) → ((i : ℕ) → a ≤ i → i < a + n → over i ≡ true) → Tried over l d h pages start k t left from
      → frees (λ q. get_or left q free) a n ≡ frees (λ q. get_or pages q free) a n
  tried_frees_skipped {left = left} a n skipped r =
      tally_same (λ q. is_free (get_or left q free)) (λ q. is_free (get_or pages q free)) a n (λ i low high. ap is_free (tried_outside i (skipped i low high) r))

  pub written_frees_skipped : {tries : ℕ} {h' : History} {maps maps' : ℕ → Option ℕ} {pages' : List Page} {start' : ℕ} (a n : ℕ) → ((i : ℕ) → a ≤ i → i < a + n → over i ≡ true)
      → Written over l d tries h maps pages start h' maps' pages' start' → frees (λ q. get_or pages' q free) a n ≡ frees (λ q. get_or pages q free) a n
  written_frees_skipped {pages' = pages'} a n skipped w =
      tally_same (λ q. is_free (get_or pages' q free)) (λ q. is_free (get_or pages q free)) a n (λ i low high. ap is_free (written_outside i (skipped i low high) w))
