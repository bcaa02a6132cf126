-- The erase of a block without live pages, over plain values.
use Rattle.std.proofs.lemmas.Grind.{common_steps}
use Rattle.std.proofs.Common.{◌≡◌, ℕ, ◌+◌, ◌-◌, ◌*◌, ◌/◌, ◌^◌, ◌<◌, ◌≤◌, min, List, length, get_or, set, sym, refl, ap, ◌∙◌, subst, inl, inr, arith, length-set, get_or-set_other, get_or-set_same, rules}
use native.Mathlib.Decide.{ℕ_discrete}
use native.Mathlib.Nat.{min-eq_left}
use Rattle.std.proofs.lemmas.Bool.{cases_Bool}
use Rattle.chip.specs.Meaning.{Page, Meaning}
use Rattle.chip.specs.Calls.{wiped, with_block_free, erased}
use Rattle.history.specs.Pages.{is_live, is_dead, frees, lives, deads}
use Rattle.history.specs.Work.{after_wipe, Emptied}
use Rattle.history.proofs.Tally.{tally_none, tally_same, tally_le}
use Rattle.history.proofs.Counts.{kinds_sum, live_named}
use Rattle.history.proofs.Chip.{block_from, block_outside, length_wiped, wiped_inside, wiped_outside, frees_wiped}
use Rattle.pages.specs.declared.tables.Tables.{Tables}
use Rattle.pages.specs.Search.{total}
use Rattle.pages.specs.Tied.{maps_of, page_in, Tied}
use Rattle.pages.specs.Recycle.{per_block, wiped_tables, CanWipe, Wiped}

module _ {most : ℕ} {pages : List Page} {t : Tables} (k : Tied most pages t) (b : ℕ) (there : b < t.geometry.blocks) (none_live : Emptied (per_block t) b (maps_of t)) where
  fits : b * per_block t + per_block t ≤ length pages
  fits = search rules

  -- no page of the block is live
  lives_none : lives (maps_of t) (page_in pages) (b * per_block t) (per_block t) ≡ 0
  lives_none =
      tally_none (λ q. is_live (maps_of t) q (page_in pages q)) (b * per_block t) (per_block t)
      (λ q low high.
      elim (cases_Bool (is_live (maps_of t) q (page_in pages q))) [
        | inl live ↦ (let w = live_named (maps_of t) q (page_in pages q) live in absurd (none_live w.0 q w.3 (block_from (per_block t) q b low high)))
        | inr dead ↦ dead
      ])

  -- what was counted as dead becomes free
  frees_on : t.free + get_or t.dead b 0 ≡ frees (page_in (wiped (per_block t) b pages)) 0 (length (wiped (per_block t) b pages))
  frees_on =
      let w = frees_wiped (per_block t) b (length pages) pages fits fits in
      let kinds = kinds_sum (maps_of t) (page_in pages) (b * per_block t) (per_block t) in
      let d = k.dead_pages b there in
      let n = ap (frees (page_in (wiped (per_block t) b pages)) 0) (length_wiped (per_block t) b pages fits) in
      omega (arith, w, kinds, d, n, lives_none, k.free_pages)

  outside : (q : ℕ) → (q / per_block t ≡ b → ⊥) → page_in (wiped (per_block t) b pages) q ≡ page_in pages q
  outside q apart = grind (arith, common_steps, wiped_outside, fits, block_outside)

  dead_on : (c : ℕ) → c < t.geometry.blocks → get_or (set t.dead b 0) c 0 ≡ deads (maps_of t) (page_in (wiped (per_block t) b pages)) (c * per_block t) (per_block t)
  dead_on c within =
      elim (ℕ_discrete c b) [
        | yes same ↦ (ap (λ x. get_or (set t.dead b 0) x 0) same ∙ get_or-set_same t.dead b 0 0 (omega (arith, there, t.geometry.sized.1, k.counters))
            ∙ sym (ap (λ x. deads (maps_of t) (page_in (wiped (per_block t) b pages)) (x * per_block t) (per_block t)) same
            ∙ tally_none (λ q. is_dead (maps_of t) q (page_in (wiped (per_block t) b pages) q)) (b * per_block t) (per_block t)
            (λ q low high. ap (is_dead (maps_of t) q) (wiped_inside (per_block t) b pages fits q low high))))
        | no apart ↦ (get_or-set_other t.dead b c 0 0 apart ∙ k.dead_pages c within
            ∙ sym (tally_same (λ q. is_dead (maps_of t) q (page_in (wiped (per_block t) b pages) q)) (λ q. is_dead (maps_of t) q (page_in pages q)) (c * per_block t) (per_block t)
            (λ q low high. ap (is_dead (maps_of t) q) (outside q (λ e. apart (sym (block_from (per_block t) q c low high) ∙ e))))))
      ]

  start_on : after_wipe (per_block t) b t.start < total t.geometry
  start_on = search rules

  pub tied_wiped : Tied most (wiped (per_block t) b pages) (wiped_tables t b)
  tied_wiped =
      record {
        sized = record { long = length_wiped (per_block t) b pages fits ∙ k.sized.long; starts = start_on };
        numbers = k.numbers;
        counters = length-set t.dead b 0 ∙ k.counters;
        labelled = λ l q named.
            let w = k.labelled l q named in (
              omega (arith, w.0, length_wiped (per_block t) b pages fits),
              (w.1.0, outside q (none_live l q named) ∙ w.1.1, w.1.2),
            );
        free_pages = frees_on;
        dead_pages = dead_on;
      }

  -- no count is near the end of its type
  pub free_fits : t.free + get_or t.dead b 0 < 65536
  free_fits = grind (arith, common_steps, tally_le)

-- an erase of the block
module _ (m : Meaning) (t : Tables) (b : ℕ) (can : CanWipe m t b) where
  same_pages : wiped m.per_block b m.pages ≡ wiped (per_block t) b m.pages
  same_pages = ap (λ p. wiped p b m.pages) can.shape.pages

  wiped_both : Wiped m t b (with_block_free m b) (wiped_tables t b)
  wiped_both =
      record {
        chip = refl;
        tables = refl;
        tied = subst (λ x. Tied m.page_size x (wiped_tables t b)) (sym same_pages) (tied_wiped can.tied b can.block can.emptied);
      }

  pub wiped_so : (n : Meaning) (u : Tables) → n ≡ erased m b → u ≡ wiped_tables t b → Wiped m t b n u
  wiped_so n u is done = grind (arith, common_steps, wiped_both)

pub small_sum : (r a b : ℕ) → r ≡ min (a + b) (2 ^ 16 - 1) → a + b < 65536 → r ≡ a + b
small_sum r a b is fits = is ∙ min-eq_left (omega arith)

pub tables_so : (t : Tables) (b space start : ℕ) → space ≡ t.free + get_or t.dead b 0 → start ≡ after_wipe (per_block t) b t.start
    → ◌≡◌ {A = Tables} (record { map = t.map; dead = set t.dead b 0; free = space; start = start; geometry = t.geometry }) (wiped_tables t b)
tables_so t b space start e f = search rules
