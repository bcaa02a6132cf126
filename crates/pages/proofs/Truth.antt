-- The tables go on to tell the truth when a program was tried at its place.
use Rattle.std.proofs.lemmas.Grind.{common_steps}
use Rattle.std.proofs.Common.{◌≡◌, ℕ, ◌+◌, ◌-◌, ◌*◌, ◌<◌, ◌≤◌, Bool, false, ◌≢◌, List, length, get_or, set, Some, None, Option, sym, refl, ap, ◌∙◌, subst, arith, length-set, get_or-set_other, get_or-set_same, rules}
use native.Mathlib.Decide.{ℕ_discrete}
use Rattle.chip.specs.Meaning.{Page, free, spoiled, written}
use Rattle.chip.specs.Calls.{is_free}
use Rattle.history.specs.Pages.{frees, deads}
use Rattle.history.specs.Work.{Place, next_page}
use Rattle.history.proofs.Tally.{tally_le}
use Rattle.history.proofs.Counts.{frees_set}
use Rattle.history.proofs.Chip.{block_range, block_outside}
use Rattle.history.proofs.Sound.{written_stays}
use Rattle.pages.specs.declared.tables.Tables.{Tables}
use Rattle.pages.specs.Search.{total, Sized}
use Rattle.pages.specs.Tied.{maps_of, page_in, block_of, buried, spoilt, superseded, settled, Countable, Replaceable, Labelled, Tied}
use Rattle.pages.proofs.Deads.{deads_failed, deads_failed_elsewhere, deads_good, deads_superseded}

module _ {most : ℕ} {pages : List Page} {t : Tables} (k : Tied most pages t) where
  -- no count of dead pages is near the end of its type
  pub countable : (q : ℕ) → q < length pages → Countable t q
  countable q there = grind (arith, common_steps, tally_le)

  pub replaceable : (l : ℕ) → l < 1920 → Replaceable t l
  replaceable l known = grind (arith, common_steps, countable)

  -- where a dead page more is counted
  buried_here : (q b : ℕ) → q < length pages → b ≡ block_of t q → get_or (buried t q) b 0 ≡ get_or t.dead b 0 + 1
  buried_here q b there same = grind (arith, common_steps)

  buried_elsewhere : (q b : ℕ) → (b ≡ block_of t q → ⊥) → get_or (buried t q) b 0 ≡ get_or t.dead b 0
  buried_elsewhere q b apart = search rules

  module _ {passed : ℕ → Bool} {q : ℕ} (p : Place passed pages t.start q) where
    some_pages : 0 < t.geometry.pages_per_block
    some_pages = t.geometry.sized.2

    within : (b : ℕ) → b ≡ block_of t q → (b * t.geometry.pages_per_block ≤ q) × (q < b * t.geometry.pages_per_block + t.geometry.pages_per_block)
    within b same = grind (arith, common_steps)

    sized_on : (x : Page) (u : Tables) → u.geometry ≡ t.geometry → u.start ≡ next_page (total t.geometry) q → Sized (set pages q x) u
    sized_on x u same moved = search rules

    frees_on : (x : Page) → is_free x ≡ false → t.free - 1 ≡ frees (page_in (set pages q x)) 0 (length (set pages q x))
    frees_on x taken =
        let f = frees_set pages q 0 (length pages) x p.there p.room taken (omega arith) (omega (arith, p.there)) in
        let l = length-set pages q x in
        ap (λ n. n - 1) k.free_pages ∙ (let g : frees (page_in pages) 0 (length pages) - 1 ≡ frees (page_in (set pages q x)) 0 (length pages) = omega (arith, f) in g) ∙ ap (frees (page_in (set pages q x)) 0) (sym l)

    labelled_on : (x : Page) → Labelled most (set pages q x) (maps_of t)
    labelled_on x l r named =
        let w = k.labelled l r named in
        (rw (length-set pages q x) w.0, (w.1.0, written_stays pages q r l w.1.0 x p.room w.1.1, w.1.2))

    pub tied_spoilt : Tied most (set pages q spoiled) (spoilt t q)
    tied_spoilt =
        record {
          sized = sized_on spoiled (spoilt t q) refl refl;
          numbers = k.numbers;
          counters = length-set t.dead (block_of t q) (get_or t.dead (block_of t q) 0 + 1) ∙ k.counters;
          labelled = labelled_on spoiled;
          free_pages = frees_on spoiled refl;
          dead_pages = dead;
        }
      where
        dead : (b : ℕ) → b < t.geometry.blocks
            → get_or (buried t q) b 0 ≡ deads (maps_of t) (page_in (set pages q spoiled)) (b * t.geometry.pages_per_block) t.geometry.pages_per_block
        dead b there =
            let per = t.geometry.pages_per_block in
            elim (ℕ_discrete b (block_of t q)) [
              | yes same ↦ (let w = within b same in buried_here q b p.there same ∙ ap (λ n. n + 1) (k.dead_pages b there) ∙ sym (deads_failed pages q p.there p.room (maps_of t) (b * per) per w.0 w.1))
              | no apart ↦ (buried_elsewhere q b apart ∙ k.dead_pages b there
                  ∙ sym (deads_failed_elsewhere pages q p.there p.room (maps_of t) (b * per) per (block_outside per q b (λ e. apart (sym e)))))
            ]

    module _ (l : ℕ) (d : List ℕ) (known : l < 1920) (small : length d ≤ most) where
      mapped : maps_of (settled t l q) l ≡ Some q
      mapped = search rules

      rest : (m : ℕ) → m ≢ l → maps_of (settled t l q) m ≡ maps_of t m
      rest m apart = get_or-set_other t.map l m (Some q) None apart

      labelled_settled : Labelled most (set pages q (written l d)) (maps_of (settled t l q))
      labelled_settled m r named =
          elim (ℕ_discrete m l) [
            | yes same ↦ (let e : maps_of (settled t l q) l ≡ Some r = ap (maps_of (settled t l q)) (sym same) ∙ named in let f : q ≡ r = cc (e, mapped) in (
              subst (λ x. x < length (set pages q (written l d))) f (rw (length-set pages q (written l d)) p.there),
              (d, ap (page_in (set pages q (written l d))) (sym f) ∙ get_or-set_same pages q (written l d) free p.there ∙ ap (λ x. written x d) (sym same), small),
            ))
            | no apart ↦ (let w = labelled_on (written l d) m r (sym (rest m apart) ∙ named) in w)
          ]

      dead_settled : (o : Option ℕ) → maps_of t l ≡ o → (b : ℕ) → b < t.geometry.blocks
          → get_or (superseded t o) b 0 ≡ deads (maps_of (settled t l q)) (page_in (set pages q (written l d))) (b * t.geometry.pages_per_block) t.geometry.pages_per_block
      dead_settled None is b there = grind (arith, common_steps, deads_good, mapped, rest)
      dead_settled (Some old) is b there =
          let per = t.geometry.pages_per_block in
          let w = k.labelled l old is in
          elim (ℕ_discrete b (block_of t old)) [
            | yes same ↦ (let r = block_range per old b some_pages (sym same) in buried_here old b w.0 same ∙ ap (λ n. n + 1) (k.dead_pages b there)
                ∙ sym (deads_superseded pages q p.there p.room (maps_of t) (maps_of (settled t l q)) l d mapped rest (b * per) per old w.1.0 is w.1.1 r.0 r.1))
            | no apart ↦ (let out = block_outside per old b (λ e. apart (sym e)) in buried_elsewhere old b apart ∙ k.dead_pages b there
                ∙ sym (deads_good pages q p.there p.room (maps_of t) (maps_of (settled t l q)) l d mapped rest (b * per) per
                (λ x low high named. let e : x ≡ old = cc (is, named) in omega (arith, e, out))))
          ]

      superseded_length : (o : Option ℕ) → length (superseded t o) ≡ 64
      superseded_length None = k.counters
      superseded_length (Some old) = search rules

      pub tied_settled : Tied most (set pages q (written l d)) (settled t l q)
      tied_settled =
          record {
            sized = sized_on (written l d) (settled t l q) refl refl;
            numbers = length-set t.map l (Some q) ∙ k.numbers;
            counters = superseded_length (maps_of t l);
            labelled = labelled_settled;
            free_pages = frees_on (written l d) refl;
            dead_pages = dead_settled (maps_of t l) refl;
          }
