-- That a chip in memory has the shape that every chip has: the proof that its make owes to the trait.
--
-- Fit            what it means that sizes fit memory
-- made_laid      memory that fits means its slots; `made_nothing` other memory means no pages
-- made_shaped    so a chip in memory is nothing, or in range with all its pages
use Rattle.std.specs.Prelude.{◌≡◌, ℕ, zero, suc, ◌-◌, ◌*◌, ◌<◌, ◌≤◌, true, false, ◌&&◌, List, length, drop, ◌==◌, nat_le, nat_lt, refl}
use Rattle.std.proofs.Common.{inl, inr, sym, ap, subst, arith}
use Rattle.std.proofs.lemmas.Bool.{cases_Bool, and_parts, ltb-true, leb-true, eqb-true, cond-true, cond-false}
use Rattle.chip.specs.declared.flawed.Flawed.{Flawed}
use Rattle.chip.specs.declared.plain.Plain.{Plain}
use Rattle.chip.specs.Meaning.{nothing, InRange, Shaped}
use Rattle.chip.specs.Slot.{wide, laid, pages_of, in_range, taken, fits, made}
use Rattle.chip.specs.Makes.{plain_means, flawed_means}

pub length_pages : (n size : ℕ) (m : List ℕ) → length (pages_of n size m) ≡ n
length_pages zero size m = refl
length_pages (suc n) size m = ap suc (length_pages n size (drop (wide size) m))

pub record Fit (n per_block size long : ℕ) : Type 0 where
  pub some_blocks : 0 < n
  pub few_blocks : n ≤ 64
  pub some_pages : 1 < per_block
  pub few_pages : per_block ≤ 32
  pub some_bytes : 0 < size
  pub few_bytes : size ≤ 512
  pub long_is : taken n per_block size ≡ long

pub fit : (n per_block size long : ℕ) → fits n per_block size long ≡ true → Fit n per_block size long
unfolding fits
fit n per_block size long e =
    let all = and_parts (in_range n per_block size) (taken n per_block size == long) e in
    let range = and_parts (nat_lt 0 n && nat_le n 64) ((nat_lt 1 per_block && nat_le per_block 32) && (nat_lt 0 size && nat_le size 512)) all.0 in
    let blocks = and_parts (nat_lt 0 n) (nat_le n 64) range.0 in
    let rest = and_parts (nat_lt 1 per_block && nat_le per_block 32) (nat_lt 0 size && nat_le size 512) range.1 in
    let pages = and_parts (nat_lt 1 per_block) (nat_le per_block 32) rest.0 in
    let bytes = and_parts (nat_lt 0 size) (nat_le size 512) rest.1 in
    record {
      some_blocks = ltb-true 0 n blocks.0;
      few_blocks = leb-true n 64 blocks.1;
      some_pages = ltb-true 1 per_block pages.0;
      few_pages = leb-true per_block 32 pages.1;
      some_bytes = ltb-true 0 size bytes.0;
      few_bytes = leb-true size 512 bytes.1;
      long_is = eqb-true (taken n per_block size) long all.1;
    }

module _ (n per_block size left : ℕ) (memory : List ℕ) where
  pub made_laid : fits n per_block size (length memory) ≡ true → made n per_block size left memory ≡ laid n per_block size left memory
  made_laid e = cond-true (fits n per_block size (length memory)) (laid n per_block size left memory) nothing e

  pub made_nothing : fits n per_block size (length memory) ≡ false → made n per_block size left memory ≡ nothing
  made_nothing e = cond-false (fits n per_block size (length memory)) (laid n per_block size left memory) nothing e

  laid_in_range : left ≤ 65535 → Fit n per_block size (length memory) → InRange (laid n per_block size left memory)
  laid_in_range few f =
      record {
        some_blocks = f.some_blocks;
        few_blocks = f.few_blocks;
        some_pages = f.some_pages;
        few_pages = f.few_pages;
        some_bytes = f.some_bytes;
        few_bytes = f.few_bytes;
        few_failures = few;
        all_pages = length_pages (n * per_block) size memory;
      }

  pub made_shaped : left ≤ 65535 → Shaped (made n per_block size left memory)
  made_shaped few =
      elim (cases_Bool (fits n per_block size (length memory))) [
        | inl good ↦ inr (subst InRange (sym (made_laid good)) (laid_in_range few (fit n per_block size (length memory) good)))
        | inr bad ↦ inl (made_nothing bad)
      ]

-- a chip of zeros is nothing, whatever its memory
pub made_zeros : (left : ℕ) (memory : List ℕ) → made 0 0 0 left memory ≡ nothing
unfolding fits
made_zeros left memory = refl

pub plain_shaped : (c : Plain) → Shaped (plain_means c)
plain_shaped c = made_shaped c.size.blocks c.size.pages_per_block c.size.page_size 0 c.memory.now (omega arith)

pub flawed_shaped : (c : Flawed) → Shaped (flawed_means c)
flawed_shaped c =
    made_shaped c.plain.size.blocks c.plain.size.pages_per_block c.plain.size.page_size (8 - c.gaps.next) c.plain.memory.now (omega arith)
