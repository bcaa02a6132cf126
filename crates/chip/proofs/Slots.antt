-- The laws of the slot layout.
use Rattle.std.proofs.Common.{◌≡◌, ℕ, zero, suc, ◌+◌, ◌-◌, ◌*◌, ◌<◌, ◌≤◌, true, List, length, get_or, take, drop, set, replicate, sym, refl, ap, ◌∙◌, inl, inr, add-zero, mul-le-mul_right, suc-mul, add-mul, add_comm, div-add-mod', zero-mul, arith}
use Rattle.std.proofs.lemmas.List.{length-append, length-replicate, length-set, get_or-set_same, get_or-set_other, take_at, take-replicate, drop-replicate, take_all, drop-drop, ext_get_or, places}
use Rattle.std.proofs.lemmas.Bool.{cases_eq, cases_lt, le-leb}
use Rattle.chip.specs.Shaping.{length_pages}
use Rattle.chip.proofs.Windows.{length_patched, byte_outside, window_below, window_above, window_inside}
use Rattle.chip.specs.Meaning.{Page, free, spoiled, written}
use Rattle.chip.specs.Calls.{wiped}
use Rattle.chip.specs.Slot.{wide, high, low, slot_of, free_slot, failed_slot, all_ones, page_of, slot_at, with_slot, blank_block, pages_of, Layout}

all_ones_blank : (n : ℕ) → all_ones (replicate n 255) ≡ true
all_ones_blank zero = refl
all_ones_blank (suc n) = all_ones_blank n

pub page_of_free : (size : ℕ) → page_of size (free_slot size) ≡ free
unfolding page_of
page_of_free size = rw (all_ones_blank (wide size))

pub page_of_failed : (size : ℕ) → page_of size (failed_slot size) ≡ spoiled
unfolding page_of
page_of_failed size = let e : wide size ≡ suc (15 + size) = omega arith in rw e

two_of : (n : ℕ) → high n * 256 + low n ≡ n
two_of n = div-add-mod' n 256

pub page_of_slot : (size label : ℕ) (d : List ℕ) → length d ≤ size → page_of size (slot_of size label d) ≡ written label d
unfolding page_of
page_of_slot size label d fits =
    rw (two_of (length d), two_of label, le-leb (length d) size fits, take_at d (replicate (size - length d) 255) (length d) refl)

pub length_slot : (size label : ℕ) (d : List ℕ) → length d ≤ size → length (slot_of size label d) ≡ wide size
length_slot size label d fits = simp (length-append, length-replicate) (omega arith)

-- ---- slots in memory

-- one slot further on
next_slot : (q w : ℕ) → w + q * w ≡ suc q * w
next_slot q w = add_comm w (q * w) ∙ sym (suc-mul q w)

pub page_at_slot : (n size q : ℕ) (m : List ℕ) (x : Page) → q < n → get_or (pages_of n size m) q x ≡ page_of size (slot_at size q m)
page_at_slot zero size q m x l = absurd (omega arith)
page_at_slot (suc n) size zero m x l = rw (zero-mul (wide size))
page_at_slot (suc n) size (suc q) m x l =
    page_at_slot n size q (drop (wide size) m) x (omega arith)
    ∙ ap (λ z. page_of size (take (wide size) z)) (drop-drop (q * wide size) (wide size) m)
    ∙ ap (λ k. page_of size (take (wide size) (drop k m))) (next_slot q (wide size))

-- memories with the same slots mean the same pages
same_pages : (n size : ℕ) (m : List ℕ) (ps : List Page) → length ps ≡ n
    → ((q : ℕ) → q < n → page_of size (slot_at size q m) ≡ get_or ps q free) → pages_of n size m ≡ ps
same_pages n size m ps long each =
    ext_get_or free (pages_of n size m) ps (length_pages n size m ∙ sym long)
    (λ q l. let k : q < n = rw (length_pages n size m) at l in page_at_slot n size q m free k ∙ each q k)

-- ---- one slot is touched

pub slot_inside : (n size q : ℕ) (m : List ℕ) → length m ≡ n * wide size → q < n → q * wide size + wide size ≤ length m
slot_inside n size q m long here = omega (arith, next_slot q (wide size), mul-le-mul_right {m = suc q} {n = n} (wide size) here)

module _ (n size q : ℕ) (slot m : List ℕ) (long : length m ≡ n * wide size) (here : q < n) (full : length slot ≡ wide size) where
  inside : q * wide size + wide size ≤ length m
  inside = slot_inside n size q m long here

  same_slot : slot_at size q (with_slot size q slot m) ≡ slot
  same_slot =
      ap (λ j. take (wide size) (drop j (with_slot size q slot m))) (sym (add-zero (q * wide size)))
      ∙ window_inside m slot (q * wide size) (wide size) inside full 0 (wide size) (omega arith)
      ∙ take_all (wide size) slot (omega arith)

  other_slot : (k : ℕ) → (k ≡ q → ⊥) → slot_at size k (with_slot size q slot m) ≡ slot_at size k m
  other_slot k apart =
      elim (cases_lt k q) [
        | inl below ↦
            window_below m slot (q * wide size) (wide size) inside full (k * wide size) (wide size)
            (omega (arith, next_slot k (wide size), mul-le-mul_right {m = suc k} {n = q} (wide size) below))
        | inr above ↦
            window_above m slot (q * wide size) (wide size) inside full (k * wide size) (wide size)
            (omega (arith, next_slot q (wide size), mul-le-mul_right {m = suc q} {n = k} (wide size) (omega arith)))
      ]

  pub pages_with_slot : pages_of n size (with_slot size q slot m) ≡ set (pages_of n size m) q (page_of size slot)
  pages_with_slot =
      same_pages n size (with_slot size q slot m) (set (pages_of n size m) q (page_of size slot))
      (length-set (pages_of n size m) q (page_of size slot) ∙ length_pages n size m)
      (λ k l.
      elim (cases_eq k q) [
        | inl same ↦
            let in' : q < length (pages_of n size m) = rw (length_pages n size m) here in
            rw same (ap (page_of size) same_slot ∙ sym (get_or-set_same (pages_of n size m) q (page_of size slot) free in'))
        | inr apart ↦
            ap (page_of size) (other_slot k apart)
            ∙ sym (page_at_slot n size k m free l)
            ∙ sym (get_or-set_other (pages_of n size m) q k (page_of size slot) free apart)
      ])

  pub bytes_outside : (k : ℕ)
      → (k < q * wide size → get_or (with_slot size q slot m) k 0 ≡ get_or m k 0)
      × (q * wide size + wide size ≤ k → get_or (with_slot size q slot m) k 0 ≡ get_or m k 0)
  bytes_outside k = byte_outside m slot (q * wide size) (wide size) inside full k 0

-- ---- one block is erased

module _ (n per_block size b : ℕ) (m : List ℕ) (long : length m ≡ n * per_block * wide size) (here : b < n) where
  abbrev first : ℕ
  first = b * per_block

  last_page : first + per_block ≤ n * per_block
  last_page = omega (arith, next_slot b per_block, mul-le-mul_right {m = suc b} {n = n} per_block here)

  pub block_inside : first * wide size + per_block * wide size ≤ length m
  block_inside = omega (arith, add-mul first per_block (wide size), mul-le-mul_right {m = first + per_block} {n = n * per_block} (wide size) last_page)

  abbrev wide_block : ℕ
  wide_block = per_block * wide size

  abbrev blank : List ℕ
  blank = replicate wide_block 255

  full_blank : length blank ≡ wide_block
  full_blank = length-replicate wide_block 255

  slot_before : (q : ℕ) → q < first → slot_at size q (blank_block size per_block b m) ≡ slot_at size q m
  slot_before q l =
      window_below m blank (first * wide size) wide_block block_inside full_blank (q * wide size) (wide size)
      (omega (arith, next_slot q (wide size), mul-le-mul_right {m = suc q} {n = first} (wide size) l))

  slot_after : (q : ℕ) → first + per_block ≤ q → slot_at size q (blank_block size per_block b m) ≡ slot_at size q m
  slot_after q l =
      window_above m blank (first * wide size) wide_block block_inside full_blank (q * wide size) (wide size)
      (omega (arith, add-mul first per_block (wide size), mul-le-mul_right {m = first + per_block} {n = q} (wide size) l))

  slot_within : (i : ℕ) → i < per_block → slot_at size (first + i) (blank_block size per_block b m) ≡ free_slot size
  slot_within i l =
      let ends : i * wide size + wide size ≤ wide_block = omega (arith, next_slot i (wide size), mul-le-mul_right {m = suc i} {n = per_block} (wide size) l) in
      ap (λ j. take (wide size) (drop j (blank_block size per_block b m))) (add-mul first i (wide size))
      ∙ window_inside m blank (first * wide size) wide_block block_inside full_blank (i * wide size) (wide size) ends
      ∙ ap (take (wide size)) (drop-replicate (i * wide size) wide_block 255)
      ∙ take-replicate (wide size) (wide_block - i * wide size) 255 (omega arith)

  abbrev old : List Page
  old = pages_of (n * per_block) size m

  long_old : length old ≡ n * per_block
  long_old = length_pages (n * per_block) size m

  page_within : (q : ℕ) → first ≤ q → q < first + per_block → page_of size (slot_at size q (blank_block size per_block b m)) ≡ free
  page_within q from to =
      let e : q ≡ first + (q - first) = omega arith in
      ap (λ k. page_of size (slot_at size k (blank_block size per_block b m))) e
      ∙ ap (page_of size) (slot_within (q - first) (omega arith))
      ∙ page_of_free size

  block_fits : first + per_block ≤ length old
  block_fits = omega (arith, last_page, long_old)

  abbrev frees : List Page
  frees = replicate per_block free

  wiped_within : (q : ℕ) → first ≤ q → q < first + per_block → free ≡ get_or (wiped per_block b old) q free
  wiped_within q from to = let h = block_fits in grind (arith, places)

  pub pages_with_block : pages_of (n * per_block) size (blank_block size per_block b m) ≡ wiped per_block b old
  pages_with_block =
      same_pages (n * per_block) size (blank_block size per_block b m) (wiped per_block b old)
      (length_patched old frees first per_block block_fits (length-replicate per_block free) ∙ long_old)
      (λ q l.
      let far = byte_outside old frees first per_block block_fits (length-replicate per_block free) q free in
      elim (cases_lt q first) [
        | inl below ↦ ap (page_of size) (slot_before q below) ∙ sym (page_at_slot (n * per_block) size q m free l) ∙ sym (far.0 below)
        | inr from ↦
            elim (cases_lt q (first + per_block)) [
              | inl to ↦ page_within q from to ∙ wiped_within q from to
              | inr above ↦ ap (page_of size) (slot_after q above) ∙ sym (page_at_slot (n * per_block) size q m free l) ∙ sym (far.1 above)
            ]
      ])

pub layout : Layout
layout =
    record {
      reads_back = page_of_slot;
      erased_is_free = page_of_free;
      failed_is_spoiled = page_of_failed;
      written_fills = length_slot;
      one_page = pages_with_slot;
      no_byte_outside = λ n size q k slot m long here full. bytes_outside n size q slot m long here full k;
      one_block = pages_with_block;
    }
