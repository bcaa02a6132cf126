-- What a few bytes of a slot tell of the page that it means.
use Rattle.std.proofs.Common.{fold, suc, ◌≡◌, ℕ, ◌<◌, ◌≤◌, Bool, true, false, cond, eqb, leb, List, [], ◌∷◌, ◌++◌, length, get_or, take, drop, Ok, Err, refl, ap, ◌∙◌, inl, inr, arith}
use lib.Bits.{bit_and}
use Rattle.std.proofs.lemmas.Nat.{and_le_l, and_le_r}
use Rattle.std.proofs.lemmas.List.{length-take, length-drop}
use Rattle.std.proofs.lemmas.Bool.{cases_eq, cases_Bool, eq-eqb, ne_eqb, le-leb, lt-leb, eqb-true, leb-true, false≢true}
use Rattle.chip.specs.declared.words.Refusal.TheVariants.{WrongKind, TooLong}
use Rattle.chip.specs.Meaning.{free, spoiled, written}
use Rattle.chip.specs.Calls.{fetched_page, data_of, in_front}
use Rattle.chip.specs.Slot.{room, two, all_ones, is_written, page_of}

-- ---- whether every byte is 0xFF

and_ones : (a b : ℕ) → a ≤ 255 → b ≤ 255 → eqb (bit_and a b) 255 ≡ cond (eqb a 255) (eqb b 255) false
and_ones a b small-a small_b =
    elim (cases_eq a 255) [
      | inl full-a ↦
          elim (cases_eq b 255) [
            | inl full-b ↦ rw (full-a, full-b)
            | inr less-b ↦
                let less : bit_and a b ≡ 255 → ⊥ = λ e. omega (arith, and_le_r a b, e, less-b) in
                rw (ne_eqb (bit_and a b) 255 less, eq-eqb a 255 full-a, ne_eqb b 255 less-b)
          ]
      | inr less-a ↦
          let less : bit_and a b ≡ 255 → ⊥ = λ e. less-a (omega (arith, and_le_l a b, e)) in rw (ne_eqb (bit_and a b) 255 less, ne_eqb a 255 less-a)
    ]

ones_from : (xs : List ℕ) (a : ℕ) → a ≤ 255 → ((i : ℕ) → get_or xs i 0 < 256)
    → eqb (fold (λ c b. bit_and c b) a xs) 255 ≡ cond (eqb a 255) (all_ones xs) false
ones_from [] a small each = elim (eqb a 255) as (λ t. t ≡ cond t true false) [ true ↦ refl | false ↦ refl ]
ones_from (x ∷ xs) a small each =
    let byte : x ≤ 255 = (let h = each 0 in omega arith) in
    let less : bit_and a x ≤ 255 = omega (arith, and_le_l a x, small) in
    ones_from xs (bit_and a x) less (λ i. each (suc i))
    ∙ ap (λ t. cond t (all_ones xs) false) (and_ones a x small byte)
    ∙ elim (eqb a 255) as (λ t. cond (cond t (eqb x 255) false) (all_ones xs) false ≡ cond t (cond (eqb x 255) (all_ones xs) false) false) [ true ↦ refl | false ↦ refl ]

pub ones_in_common : (xs : List ℕ) → ((i : ℕ) → get_or xs i 0 < 256) → eqb (fold (λ c b. bit_and c b) 255 xs) 255 ≡ all_ones xs
ones_in_common xs each = ones_from xs 255 (omega arith) each

pub not_all_ones : (xs : List ℕ) → 0 < length xs → (get_or xs 0 0 ≡ 255 → ⊥) → all_ones xs ≡ false
not_all_ones [] l ne = absurd (omega arith)
not_all_ones (x ∷ xs) l ne = rw (ne_eqb x 255 ne)

-- ---- what the page is

cond_parts : (s t : Bool) → cond s t false ≡ true → (s ≡ true) × (t ≡ true)
cond_parts true t e = (refl, e)
cond_parts false t e = absurd (false≢true e)

pub written_parts : (size : ℕ) (slot : List ℕ) → is_written size slot ≡ true → (get_or slot 0 0 ≡ 1) × (two slot 1 ≤ size)
written_parts size slot e = let parts = cond_parts (eqb (get_or slot 0 0) 1) (leb (two slot 1) size) e in (eqb-true (get_or slot 0 0) 1 parts.0, leb-true (two slot 1) size parts.1)

module _ (size : ℕ) (slot : List ℕ) (some : 16 ≤ length slot) where
  pub page_written : is_written size slot ≡ true → page_of size slot ≡ written (two slot 3) (take (two slot 1) (drop 16 slot))
  unfolding page_of
  page_written e = rw (not_all_ones slot (omega arith) (λ z. omega (arith, z, (written_parts size slot e).0)), e)

  pub page_free : all_ones slot ≡ true → page_of size slot ≡ free
  unfolding page_of
  page_free e = rw e

  pub page_spoiled : is_written size slot ≡ false → all_ones slot ≡ false → page_of size slot ≡ spoiled
  unfolding page_of
  page_spoiled e f = rw (f, e)

-- ---- what a fetch answers

module _ (slot : List ℕ) (some : 16 ≤ length slot) where
  abbrev size : ℕ
  size = room slot

  pub fetched_unwritten : (buffer : ℕ) → is_written size slot ≡ false → Err WrongKind ≡ fetched_page (page_of size slot) buffer
  fetched_unwritten buffer e =
      elim (cases_Bool (all_ones slot)) [
        | inl blank ↦ rw (page_free size slot some blank)
        | inr other ↦ rw (page_spoiled size slot some e other)
      ]

  abbrev bytes : List ℕ
  bytes = take (two slot 1) (drop 16 slot)

  long : is_written size slot ≡ true → length bytes ≡ two slot 1
  long e = let h = (written_parts size slot e).1 in simp (length-take, length-drop) (omega arith)

  pub fetched_too_long : (buffer : ℕ) → is_written size slot ≡ true → buffer < two slot 1 → Err TooLong ≡ fetched_page (page_of size slot) buffer
  fetched_too_long buffer e h = let l = long e in rw (page_written size slot some e, lt-leb (length bytes) buffer (omega arith))

  pub fetched_whole : (buffer : ℕ) → is_written size slot ≡ true → two slot 1 ≤ buffer → Ok (two slot 3, two slot 1) ≡ fetched_page (page_of size slot) buffer
  fetched_whole buffer e h = let l = long e in rw (page_written size slot some e, le-leb (length bytes) buffer (omega arith), l)

  pub fetched_bytes : (buffer : List ℕ) → is_written size slot ≡ true → bytes ++ drop (two slot 1) buffer ≡ in_front (data_of (page_of size slot)) buffer
  fetched_bytes buffer e = let l = long e in rw (page_written size slot some e, l)
