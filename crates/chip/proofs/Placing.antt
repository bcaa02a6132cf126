-- Where the pages of a chip in memory lie, and what is asked of them.
use Rattle.std.proofs.Common.{◌≡◌, ℕ, ◌+◌, ◌-◌, ◌*◌, ◌<◌, ◌≤◌, Bool, true, false, cond, ltb, leb, List, ◌++◌, length, take, drop, set, replicate, Some, None, Ok, Err, Option, Result, sym, refl, ap, ◌∙◌, inl, inr, mul_assoc, arith}
use borrow.Rule.Slice.PartMut.{put_mid}
use Rattle.std.proofs.lemmas.List.{length-replicate, length-take, length-drop, drop-drop}
use Rattle.std.proofs.lemmas.Bool.{cases_Bool, cond-true, cond-false, lt-ltb, le-leb, lt-leb}
use Rattle.std.specs.declared.ops.Range.{Range}
use Rattle.chip.specs.declared.size.Size.{Size}
use Rattle.chip.specs.declared.words.Refusal.{Refusal}
use Rattle.chip.specs.declared.words.Refusal.TheVariants.{NotThere, WrongKind, TooLong}
use Rattle.chip.specs.Meaning.{Page, free, spoiled, written, Meaning, nothing, page_at}
use Rattle.chip.specs.Calls.{is_free, asks_program, with_page, with_block_free, kind_of, kind_told, erase_told, erased, fetched_page, fetched, fetched_into, in_front, data_of}
use Rattle.chip.specs.Slot.{wide, room, all_ones, page_of, fetched_onto, slot_at, with_slot, blank_block, pages_of, fits, laid}
use Rattle.chip.specs.Makes.{means_of, size_for, Whole, Within, BlockWithin}
use Rattle.chip.specs.Shaping.{length_pages, fit, made_laid, made_nothing, made_zeros}
use Rattle.chip.proofs.Windows.{length_patched}
use Rattle.chip.proofs.Slots.{page_at_slot, slot_inside, block_inside, pages_with_slot, pages_with_block}

free_when : (t s : Bool) (l : ℕ) (d : List ℕ) → is_free (cond t free (cond s (written l d) spoiled)) ≡ t
free_when true s l d = refl
free_when false true l d = refl
free_when false false l d = refl

is_free_page : (size : ℕ) (slot : List ℕ) → is_free (page_of size slot) ≡ all_ones slot
unfolding page_of
is_free_page size slot = free_when (all_ones slot) _ _ _

module _ (s : Size) (left : ℕ) (memory : List ℕ) where
  abbrev size : ℕ
  size = s.page_size

  abbrev count : ℕ
  count = s.blocks * s.pages_per_block

  abbrev meant : Meaning
  meant = means_of s left memory

  abbrev slot : ℕ → List ℕ
  slot q = slot_at size q memory

  abbrev good : Bool
  good = fits s.blocks s.pages_per_block size (length memory)

  means_nothing : good ≡ false → meant ≡ nothing
  means_nothing other = made_nothing s.blocks s.pages_per_block size left memory other

  pub no_pages : good ≡ false → (q : ℕ) → length meant.pages ≤ q
  no_pages other q = omega (arith, ap (λ m. length m.pages) (means_nothing other))

  -- ---- memory of the right length

  module _ (whole : Whole s (length memory)) where
    pub means_laid : meant ≡ laid s.blocks s.pages_per_block size left memory
    means_laid = made_laid s.blocks s.pages_per_block size left memory whole

    long : length memory ≡ count * wide size
    long = sym (fit s.blocks s.pages_per_block size (length memory) whole).long_is

    pub length_meant : length meant.pages ≡ count
    length_meant = ap (λ m. length m.pages) means_laid ∙ length_pages count size memory

    pub page_meant : (q : ℕ) → q < count → page_at meant q ≡ page_of size (slot q)
    page_meant q l = ap (λ m. page_at m q) means_laid ∙ page_at_slot count size q memory spoiled l

    pub size_meant : meant.page_size ≡ size
    size_meant = ap (λ m. m.page_size) means_laid

    pub within : (q : ℕ) (at : Range ℕ) → q < count → at.start ≡ q * wide size → at.end ≡ at.start + wide size → Within s (length memory) q at
    within q at l e f =
        let inside = slot_inside count size q memory long l in
        record { whole = whole; there = l; begins = e; wide_slot = f; ends = omega arith }

    pub block_within : (b : ℕ) (at : Range ℕ) → b < s.blocks → at.start ≡ b * (s.pages_per_block * wide size)
        → at.end ≡ at.start + s.pages_per_block * wide size → BlockWithin s (length memory) b at
    block_within b at l e f =
        let from = e ∙ sym (mul_assoc b s.pages_per_block (wide size)) in
        let inside = block_inside s.blocks s.pages_per_block size b memory long l in
        record { whole = whole; there = l; begins = from; wide_block = f; ends = omega arith }

    -- ---- the questions of a program

    module _ (q bytes : ℕ) (there : q < count) where
      abbrev asks_of : Bool → Bool → Bool → Option Refusal
      asks_of is-there free' fit = cond is-there (cond free' (cond fit None (Some TooLong)) (Some WrongKind)) (Some NotThere)

      asked : asks_program meant q bytes ≡ asks_of true (all_ones (slot q)) (leb bytes size)
      asked =
          ap (λ t. asks_of t (is_free (page_at meant q)) (leb bytes meant.page_size)) (lt-ltb q (length meant.pages) (omega (arith, length_meant)))
          ∙ ap (λ t. asks_of true t (leb bytes meant.page_size)) (ap is_free (page_meant q there) ∙ is_free_page size (slot q))
          ∙ ap (λ n. asks_of true (all_ones (slot q)) (leb bytes n)) size_meant

      pub asks_not_free : all_ones (slot q) ≡ false → asks_program meant q bytes ≡ Some WrongKind
      asks_not_free e = asked ∙ ap (λ t. asks_of true t (leb bytes size)) e

      pub asks_too_long : all_ones (slot q) ≡ true → size < bytes → asks_program meant q bytes ≡ Some TooLong
      asks_too_long e h = asked ∙ ap (λ t. asks_of true t (leb bytes size)) e ∙ ap (asks_of true true) (lt-leb bytes size h)

      pub asks_nothing : all_ones (slot q) ≡ true → bytes ≤ size → asks_program meant q bytes ≡ None
      asks_nothing e h = asked ∙ ap (λ t. asks_of true t (leb bytes size)) e ∙ ap (asks_of true true) (le-leb bytes size h)

    -- ---- what is told of a page

    module _ (q : ℕ) (there : q < count) where
      inside : ltb q (length meant.pages) ≡ true
      inside = lt-ltb q (length meant.pages) (omega (arith, length_meant))

      pub told_kind : Ok (kind_of (page_of size (slot q))) ≡ kind_told meant q
      told_kind =
          ap (λ x. Ok (kind_of x)) (sym (page_meant q there))
          ∙ ap (λ t. cond t (Ok (kind_of (page_at meant q))) (Err NotThere)) (sym inside)

      pub told_fetch : (room : ℕ) → fetched_page (page_of size (slot q)) room ≡ fetched meant q room
      told_fetch room =
          ap (λ x. fetched_page x room) (sym (page_meant q there)) ∙ ap (λ t. cond t (fetched_page (page_at meant q) room) (Err NotThere)) (sym inside)

      pub told_into : (r : Result (ℕ × ℕ) Refusal) (buffer : List ℕ) → fetched_onto (page_of size (slot q)) r buffer ≡ fetched_into meant q r buffer
      told_into (Ok told) buffer = ap (λ x. in_front (data_of x) buffer) (sym (page_meant q there))
      told_into (Err e) buffer = refl

    module _ (b : ℕ) (there : b < s.blocks) where
      found : ltb b meant.blocks ≡ true
      found = lt-ltb b meant.blocks (omega (arith, ap (λ m. m.blocks) means_laid))

      pub told_erase : Ok tt ≡ erase_told meant b
      told_erase = ap (λ t. cond t (Ok tt) (Err NotThere)) (sym found)

      pub told_erased : with_block_free meant b ≡ erased meant b
      told_erased = ap (λ t. cond t (with_block_free meant b) meant) (sym found)

  -- ---- a page or a block that is not there

  pub least_pages : (q : ℕ) → count ≤ q → length meant.pages ≤ q
  least_pages q l =
      elim (cases_Bool good) [
        | inl whole ↦ omega (arith, length_meant whole, l)
        | inr other ↦ no_pages other q
      ]

  pub no_blocks : good ≡ false → (b : ℕ) → meant.blocks ≤ b
  no_blocks other b = omega (arith, ap (λ m. m.blocks) (means_nothing other))

  pub least_blocks : (b : ℕ) → s.blocks ≤ b → meant.blocks ≤ b
  least_blocks b l =
      elim (cases_Bool good) [
        | inl whole ↦ omega (arith, ap (λ m. m.blocks) (means_laid whole), l)
        | inr other ↦ no_blocks other b
      ]

-- ---- what the code leaves in memory, and what that means

module _ (s : Size) (memory : List ℕ) where
  -- a slot where it lies
  module _ (q : ℕ) (at : Range ℕ) (in' : Within s (length memory) q at) where
    span : at.end - at.start ≡ wide s.page_size
    span = let e = in'.wide_slot in omega arith

    pub room_read : room (take (at.end - at.start) (drop at.start memory)) ≡ s.page_size
    room_read = let e = in'.wide_slot in let l = in'.ends in rw span (simp (length-take, length-drop) (omega arith))

    pub put_slot : (left new : List ℕ) → left ≡ new → put_mid at.start (at.end - at.start) memory left ≡ with_slot s.page_size q new memory
    put_slot left new e =
        rw (e, span, in'.begins)
        (ap (λ z. take (q * wide s.page_size) memory ++ (new ++ z)) (drop-drop (wide s.page_size) (q * wide s.page_size) memory))

-- ---- what the size means that a chip takes on

pub means_none : (s : Size) (left : ℕ) (memory : List ℕ) → s.blocks ≡ 0 → means_of s left memory ≡ nothing
unfolding fits
means_none s left memory e = rw e

pub means_for : (s : Size) (left : ℕ) (memory : List ℕ) → means_of (size_for s (length memory)) left memory ≡ means_of s left memory
means_for s left memory =
    let none : Size = record { blocks = 0; pages_per_block = 0; page_size = 0 } in
    elim (cases_Bool (fits s.blocks s.pages_per_block s.page_size (length memory))) [
      | inl whole ↦ ap (λ z. means_of z left memory) (cond-true (fits s.blocks s.pages_per_block s.page_size (length memory)) s none whole)
      | inr other ↦
          ap (λ z. means_of z left memory) (cond-false (fits s.blocks s.pages_per_block s.page_size (length memory)) s none other)
          ∙ made_zeros left memory
          ∙ sym (made_nothing s.blocks s.pages_per_block s.page_size left memory other)
    ]

module _ (s : Size) (left : ℕ) (memory : List ℕ) (whole : Whole s (length memory)) where
  abbrev n : ℕ
  n = s.blocks

  abbrev per : ℕ
  per = s.pages_per_block

  abbrev big : ℕ
  big = s.page_size

  abbrev with_pages : ℕ → List Page → Meaning
  with_pages a ps = record { blocks = n; per_block = per; page_size = big; allowance = a; pages = ps }

  full : length memory ≡ n * per * wide big
  full = sym (fit n per big (length memory) whole).long_is

  -- memory of the same length fits as well
  still : (new : List ℕ) → length new ≡ length memory → Whole s (length new)
  still new e = ap (fits n per big) e ∙ whole

  pub means_written : (q cost left' : ℕ) (slot' : List ℕ) → q < n * per → length slot' ≡ wide big → left' ≡ left - cost
      → means_of s left' (with_slot big q slot' memory) ≡ with_page (means_of s left memory) q (page_of big slot') cost
  means_written q cost left' slot' there fills costs =
      means_laid s left' (with_slot big q slot' memory)
      (still (with_slot big q slot' memory) (length_patched memory slot' (q * wide big) (wide big) (slot_inside (n * per) big q memory full there) fills))
      ∙ ap (with_pages left') (pages_with_slot (n * per) big q slot' memory full there fills)
      ∙ ap (λ a. with_pages a (set (pages_of (n * per) big memory) q (page_of big slot'))) costs
      ∙ ap (λ m. with_page m q (page_of big slot') cost) (sym (means_laid s left memory whole))

  pub means_erased : (b : ℕ) → b < n → means_of s left (blank_block big per b memory) ≡ with_block_free (means_of s left memory) b
  means_erased b there =
      means_laid s left (blank_block big per b memory)
      (still (blank_block big per b memory)
      (length_patched memory (replicate (per * wide big) 255) (b * per * wide big) (per * wide big) (block_inside n per big b memory full there)
      (length-replicate (per * wide big) 255)))
      ∙ ap (with_pages left) (pages_with_block n per big b memory full there)
      ∙ ap (λ m. with_block_free m b) (sym (means_laid s left memory whole))
