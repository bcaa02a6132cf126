-- What a chip in memory means after one of its slots or blocks was touched, for any make.
use Rattle.std.proofs.Common.{◌≡◌, ℕ, ◌-◌, ◌≤◌, Bool, true, false, cond, ltb, List, length, Ok, Err, Result, sym, refl, ap, ◌∙◌, subst}
use Rattle.std.proofs.lemmas.Bool.{le-ltb, cond-false}
use Rattle.chip.specs.declared.plain.Plain.{Plain}
use Rattle.chip.specs.declared.size.Size.{Size}
use Rattle.chip.specs.declared.words.Refusal.{Refusal}
use Rattle.chip.specs.Meaning.{Meaning, nothing}
use Rattle.chip.specs.Calls.{with_page, with_block_free, erased}
use Rattle.chip.specs.Slot.{laid, fits, page_of}
use Rattle.chip.specs.Makes.{means_of, Touched, Blanked, Untouched, Wiped}
use Rattle.chip.proofs.Placing.{means_written, means_erased, told_erased}

-- ---- what does not look at the allowance is the same whatever that is

swap_when : {X : Type 0} (F : Meaning → X) (t : Bool) (x y : Meaning) → F x ≡ F y → F (cond t x nothing) ≡ F (cond t y nothing)
swap_when F true x y e = e
swap_when F false x y e = refl

pub swap_left : {X : Type 0} (F : Meaning → X) (s : Size) (left left' : ℕ) (memory : List ℕ)
    → F (laid s.blocks s.pages_per_block s.page_size left memory) ≡ F (laid s.blocks s.pages_per_block s.page_size left' memory)
    → F (means_of s left memory) ≡ F (means_of s left' memory)
swap_left F s left left' memory e = swap_when F (fits s.blocks s.pages_per_block s.page_size (length memory)) _ _ e

-- ---- what was touched

pub touched_means : (left left' cost : ℕ) (p p' : Plain) (q : ℕ) (slot : List ℕ) → left' ≡ left - cost
    → Touched p q slot p'
    → means_of p'.size left' p'.memory.now ≡ with_page (means_of p.size left p.memory.now) q (page_of p.size.page_size slot) cost
touched_means left left' cost p p' q slot costs t =
    ap (λ s. means_of s left' p'.memory.now) t.size
    ∙ ap (means_of p.size left') t.bytes
    ∙ means_written p.size left p.memory.now t.whole q cost left' slot t.there t.fills costs

pub blanked_means : (left : ℕ) (p p' : Plain) (b : ℕ) → Blanked p b p'
    → means_of p'.size left p'.memory.now ≡ with_block_free (means_of p.size left p.memory.now) b
blanked_means left p p' b t =
    ap (λ s. means_of s left p'.memory.now) t.size
    ∙ ap (means_of p.size left) t.bytes
    ∙ means_erased p.size left p.memory.now t.whole b t.there

pub untouched_means : (left : ℕ) (p p' : Plain) → Untouched p p' → means_of p'.size left p'.memory.now ≡ means_of p.size left p.memory.now
untouched_means left p p' t = ap (λ s. means_of s left p'.memory.now) t.0 ∙ ap (means_of p.size left) t.1

-- ---- what an erase leaves

pub wiped_means : (left : ℕ) (p p' : Plain) (b : ℕ) (r : Result (Unit {0}) Refusal) → Wiped p b r p'
    → means_of p'.size left p'.memory.now ≡ erased (means_of p.size left p.memory.now) b
wiped_means left p p' b (Ok done) t = blanked_means left p p' b t ∙ told_erased p.size left p.memory.now t.whole b t.there
wiped_means left p p' b (Err e) t =
    let m = means_of p.size left p.memory.now in
    let none : ltb b m.blocks ≡ false = le-ltb b m.blocks (subst (λ n. n ≤ b) (swap_left (λ z. z.blocks) p.size 0 left p.memory.now refl) t.1) in
    untouched_means left p p' t.2 ∙ sym (cond-false (ltb b m.blocks) (with_block_free m b) m none)
