-- What a flawed chip means that was just made, and after a program that was good or that failed.
use Rattle.std.proofs.Common.{◌≡◌, ℕ, ◌-◌, ◌≤◌, true, false, List, length, drop, Some, None, Option, Ok, MatchOption, sym, refl, ap, ◌∙◌, arith}
use native.Mathlib.Nat.{sub-zero}
use Rattle.chip.specs.declared.gaps.Gaps.{Gaps}
use Rattle.chip.specs.declared.plain.Plain.{Plain}
use Rattle.chip.specs.declared.size.Size.{Size}
use Rattle.chip.specs.Meaning.{Meaning}
use Rattle.chip.specs.Calls.{asks_program, with_page, Programmed}
use Rattle.chip.specs.Gaps.{good_gaps}
use Rattle.chip.specs.Slot.{slot_of, failed_slot}
use Rattle.chip.specs.Makes.{means_of, size_for, plain_means, made_flawed, Touched}
use Rattle.chip.specs.Shaping.{made_laid}
use Rattle.chip.proofs.Placing.{means_none, means_for}
use Rattle.chip.proofs.Slots.{page_of_slot, page_of_failed}
use Rattle.chip.proofs.Touching.{swap_left, touched_means}

-- `told` is what was made of the gaps, and `got` the size and the gaps that the chip takes on
module _ (s zeros : Size) (none : Gaps) (gaps memory : List ℕ) (empty : zeros.blocks ≡ 0) where
  pub means_made : (told : Option Gaps) (got : Size × Gaps)
      → MatchOption told (good_gaps gaps ≡ false) (λ g. (good_gaps gaps ≡ true) × (8 - g.next ≡ length gaps) × (drop g.next g.table ≡ gaps))
      → MatchOption told (got ≡ (zeros, none)) (λ g. got ≡ (s, g))
      → means_of (size_for got.0 (length memory)) (8 - got.1.next) memory ≡ made_flawed s.blocks s.pages_per_block s.page_size gaps memory
  means_made None got bad is = rw (is, bad) (means_for zeros (8 - none.next) memory ∙ means_none zeros (8 - none.next) memory empty)
  means_made (Some g) got good is = rw (is, means_for s (8 - g.next) memory, good.0, good.1) refl

module _ (p p' : Plain) (left left' q label : ℕ) (d : List ℕ) (asks : asks_program (plain_means p) q (length d) ≡ None) where
  abbrev before : Meaning
  before = means_of p.size left p.memory.now

  abbrev after : Meaning
  after = means_of p'.size left' p'.memory.now

  abbrev size : ℕ
  size = p.size.page_size

  asks_still : asks_program before q (length d) ≡ None
  asks_still = swap_left (λ m. asks_program m q (length d)) p.size left 0 p.memory.now refl ∙ asks

  pub programmed_good : length d ≤ size → left' ≡ left → Touched p q (slot_of size label d) p' → Programmed before q label d (Ok true) after
  programmed_good fits' e t = (
    asks_still,
    tt,
    touched_means left left' 0 p p' q (slot_of size label d) (e ∙ sym (sub-zero left)) t
        ∙ ap (λ x. with_page before q x 0) (page_of_slot size label d fits'),
  )

  pub programmed_failed : 1 ≤ left → left' ≡ left - 1 → Touched p q (failed_slot size) p' → Programmed before q label d (Ok false) after
  programmed_failed some e t =
      let allowed =
      ap (λ m. m.allowance) (made_laid p.size.blocks p.size.pages_per_block size left p.memory.now t.whole) in (
        asks_still,
        omega (arith, allowed),
        touched_means left left' 1 p p' q (failed_slot size) e t
            ∙ ap (λ x. with_page before q x 1) (page_of_failed size),
      )
