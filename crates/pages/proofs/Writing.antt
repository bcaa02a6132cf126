-- The steps of the loop of tries, over plain values.
use Rattle.std.proofs.lemmas.Grind.{common_steps}
use Rattle.std.proofs.Common.{◌≡◌, ℕ, suc, ◌+◌, ◌-◌, ◌*◌, ◌/◌, ◌<◌, ◌≤◌, true, false, ◌⊎◌, List, ◌∷◌, length, get_or, set, Some, None, Ok, Option, sym, refl, ap, ◌∙◌, subst, inl, inr, add-one, arith, length-set, get_or-set_other, get_or-set_same, rules}
use Rattle.std.proofs.lemmas.Bool.{both_ways, eqb-false, ne_eqb}
use Rattle.chip.specs.Meaning.{Page, spoiled, Meaning, Shaped}
use Rattle.chip.specs.Calls.{is_free, programmed, Programmed}
use Rattle.history.specs.Pages.{frees}
use Rattle.history.specs.History.{History, programmed as entry}
use Rattle.history.specs.Work.{Place, next_page, in_block, Tried, none, again}
use Rattle.history.proofs.Tally.{tally_none}
use Rattle.history.proofs.Counts.{frees_set, frees_set_elsewhere, free_outside}
use Rattle.history.proofs.Chip.{block_fits, block_outside, block_range}
use Rattle.pages.specs.declared.tables.Tables.{Tables}
use Rattle.pages.specs.Search.{total, over, Found}
use Rattle.pages.specs.Tied.{page_in, spoilt, settled, Tied}
use Rattle.pages.specs.Write.{held, Skips, CanWrite, SameSize, Wrote}
use Rattle.pages.proofs.Truth.{tied_spoilt, tied_settled}

pub few_failures : (m : Meaning) → Shaped m → m.allowance ≤ 65535
few_failures m (inl empty) = search rules
few_failures m (inr range) = range.few_failures

-- after so many failed tries
pub record Trying (m : Meaning) (t : Tables) (skip : Option ℕ) (l : ℕ) (d : List ℕ) (tries : ℕ) (n : Meaning) (u : Tables) : Type 0 where
  pub can : CanWrite n u skip l (length d)
  pub same_map : u.map ≡ t.map
  pub geometry : u.geometry ≡ t.geometry
  pub sizes : SameSize m n
  pub answers : (h : History) → ((h' : History) × Tried (over t.geometry.pages_per_block skip) l d h m.pages t.start tries h' n.pages u.start)

pub trying_none : (m : Meaning) (t : Tables) (skip : Option ℕ) (l : ℕ) (d : List ℕ) → CanWrite m t skip l (length d) → Trying m t skip l d 0 m t
trying_none m t skip l d can =
    record { can = can; same_map = refl; geometry = refl; sizes = record { blocks = refl; per_block = refl; page_size = refl }; answers = λ h. (h, none) }

-- a page at its place is not in the block that is passed over, so that block's free pages stay
held_on : (u : Tables) (skip : Option ℕ) (pages : List Page) (q : ℕ) (x : Page) → over u.geometry.pages_per_block skip q ≡ false → held u skip (set pages q x) ≡ held u skip pages
held_on u None pages q x out = refl
held_on u (Some b) pages q x out =
    let per = u.geometry.pages_per_block in
    frees_set_elsewhere pages q (b * per) per x (block_outside per q b (eqb-false (q / per) b out))

-- some page outside a block is free
some_place : {most : ℕ} (u : Tables) (skip : Option ℕ) (pages : List Page) → Tied most pages u → Skips u skip → held u skip pages < frees (page_in pages) 0 (length pages)
    → ((k : ℕ) → k < length pages → over u.geometry.pages_per_block skip k ≡ false → is_free (page_in pages k) ≡ false) → ⊥
some_place u None pages tied skips room closed = grind (arith, common_steps, tally_none)
some_place u (Some b) pages tied skips room closed =
    let per = u.geometry.pages_per_block in
    let fits = block_fits per b u.geometry.blocks skips in
    let w = free_outside (page_in pages) (b * per) per (length pages) (omega (arith, fits, tied.sized.long)) room in
    both_ways (is_free (page_in pages w.0)) (closed w.0 w.1 (apart w.0 w.3)) w.2
  where
    apart : (k : ℕ) → (k < b * u.geometry.pages_per_block) ⊎ (b * u.geometry.pages_per_block + u.geometry.pages_per_block ≤ k) → in_block u.geometry.pages_per_block b k ≡ false
    apart k out =
        ne_eqb (k / u.geometry.pages_per_block) b
        (λ same. let r = block_range u.geometry.pages_per_block k b u.geometry.sized.2 same in omega (arith, r.0, r.1, out))

pub trying_stuck : (n : Meaning) (u : Tables) (skip : Option ℕ) (l size : ℕ) → CanWrite n u skip l size → Found (over u.geometry.pages_per_block skip) n.pages u.start None → ⊥
trying_stuck n u skip l size can found = some_place u skip n.pages can.tied can.skips (omega (arith, can.room)) found

-- ---- one try more

module _ (m : Meaning) (t : Tables) (skip : Option ℕ) (l : ℕ) (d : List ℕ) (tries : ℕ) (n : Meaning) (u : Tables) (y : Trying m t skip l d tries n u)
    (q : ℕ) (p : Place (over u.geometry.pages_per_block skip) n.pages u.start q) where
  long : total u.geometry ≡ length n.pages
  long = sym y.can.tied.sized.long

  -- the place, as the write began to look for it
  placed : Place (over t.geometry.pages_per_block skip) n.pages u.start q
  placed = search rules

  failed_room : 1 ≤ n.allowance → n.allowance - 1 + held u skip (set n.pages q spoiled) < frees (page_in (set n.pages q spoiled)) 0 (length (set n.pages q spoiled))
  failed_room may =
      let f = frees_set n.pages q 0 (length n.pages) spoiled p.there p.room refl (omega arith) (omega (arith, p.there)) in
      let e = ap (frees (page_in (set n.pages q spoiled)) 0) (length-set n.pages q spoiled) in
      let o = held_on u skip n.pages q spoiled p.allowed in
      omega (arith, f, e, o, y.can.room, may)

  failed_on : 1 ≤ n.allowance → Trying m t skip l d (tries + 1) (programmed n q l d false) (spoilt u q)
  failed_on may =
      record {
        can =
            record {
              tied = tied_spoilt y.can.tied p;
              known = y.can.known;
              fits = y.can.fits;
              skips = skips_on skip y.can.skips;
              room = room_on skip (failed_room may);
            };
        same_map = y.same_map;
        geometry = y.geometry;
        sizes = record { blocks = y.sizes.blocks; per_block = y.sizes.per_block; page_size = y.sizes.page_size };
        answers = λ h.
            let r = y.answers h in (
              entry q l d false ∷ r.0,
              rw (add-one tries) (subst (λ x. Tried (over t.geometry.pages_per_block skip) l d h m.pages t.start (suc tries) (entry q l d false ∷ r.0) (set n.pages q spoiled) (next_page x q)) (sym long) (again q r.1 placed)),
            );
      }
    where
      skips_on : (s : Option ℕ) → Skips u s → Skips (spoilt u q) s
      skips_on None h = h
      skips_on (Some b) h = h

      room_on : (s : Option ℕ) → n.allowance - 1 + held u s (set n.pages q spoiled) < frees (page_in (set n.pages q spoiled)) 0 (length (set n.pages q spoiled))
          → n.allowance - 1 + held (spoilt u q) s (set n.pages q spoiled) < frees (page_in (set n.pages q spoiled)) 0 (length (set n.pages q spoiled))
      room_on None h = h
      room_on (Some b) h = h

  pub trying_more : (o after : Meaning) (v : Tables) → o ≡ n → Programmed o q l d (Ok false) after → v ≡ spoilt u q → Trying m t skip l d (tries + 1) after v
  trying_more o after v same did is = grind (arith, common_steps, failed_on)

  -- and the good one
  good_on : n.allowance + tries ≡ m.allowance → Wrote m t skip l d (tries + 1) (programmed n q l d true) (settled u l q)
  good_on counted =
      record {
        failed = omega (arith, counted);
        sizes = record { blocks = y.sizes.blocks; per_block = y.sizes.per_block; page_size = y.sizes.page_size };
        geometry = y.geometry;
        tied = tied_settled y.can.tied p l d y.can.known y.can.fits;
        answers = λ h.
            let r = y.answers h in (
              entry q l d true ∷ r.0,
              record {
                failed = tries;
                made = refl;
                before = r.0;
                left = n.pages;
                from = u.start;
                tried = r.1;
                place = q;
                placed = placed;
                answers = refl;
                put = refl;
                onward = ap (λ x. next_page x q) long;
                mapped = get_or-set_same u.map l (Some q) None (omega (arith, y.can.known, y.can.tied.numbers));
                others = λ k apart. get_or-set_other u.map l k (Some q) None apart ∙ ap (λ x. get_or x k None) y.same_map;
              },
            );
      }

  pub trying_good : (o after : Meaning) (v : Tables) → n.allowance + tries ≡ m.allowance → o ≡ n → Programmed o q l d (Ok true) after → v ≡ settled u l q → Wrote m t skip l d (tries + 1) after v
  trying_good o after v counted same did is = grind (arith, common_steps, good_on)

-- a failed program takes one from the allowance
pub failed_allowance : (m n o : Meaning) (q l tries : ℕ) (d : List ℕ) (after : Meaning) → n.allowance + tries ≡ m.allowance → o ≡ n → Programmed o q l d (Ok false) after
    → after.allowance + (tries + 1) ≡ m.allowance
failed_allowance m n o q l tries d after counted same did = search rules
