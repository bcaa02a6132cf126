-- Why there is always room: free pages, tokens and dead pages, over plain numbers.
-- Φ free, Λ live and D dead pages on the whole chip; ρ the sum of all accounts.
use Rattle.std.proofs.Common.{◌≡◌, ℕ, ◌+◌, ◌-◌, ◌*◌, ◌<◌, ◌≤◌, Bool, true, false, lt_of_mul-lt-mul_right, arith}

-- ---- yield: a chosen block has enough dead pages

-- with Φ below ρ + α, more than (α − 1) pages to a block are dead
pub many_dead : (blocks size numbers yield high Φ Λ D ρ : ℕ)
    → numbers + high + (yield - 1) + (yield - 1) * blocks < blocks * size
    → Φ + Λ + D ≡ blocks * size → Λ ≤ numbers → Φ < ρ + yield → ρ ≤ high
    → (yield - 1) * blocks < D
many_dead blocks size numbers yield high Φ Λ D ρ rule kinds labels few cap = omega arith

-- so a block that is not below the average has at least α
pub enough_dead : (blocks yield D c : ℕ) → (yield - 1) * blocks < D → D ≤ c * blocks → yield ≤ c
enough_dead blocks yield D c many fair =
    let h : yield - 1 < c = lt_of_mul-lt-mul_right blocks (omega arith) in
    omega arith

-- and few live pages
pub few_live : (size yield f l c : ℕ) → f + l + c ≡ size → yield ≤ c → l + f ≤ size - yield
few_live size yield f l c kinds enough = omega arith

-- ---- a write: failed tries and then a good one

-- free pages, spare tokens, and failures that the chip may still have
pub record Stock : Type 0 where
  pub frees : ℕ
  pub spare : ℕ
  pub allowance : ℕ

-- a program answers whether it was good
abbrev pub tried : Bool → Stock → Stock
tried true s = record { frees = s.frees - 1; spare = s.spare; allowance = s.allowance }
tried false s = record { frees = s.frees - 1; spare = s.spare - 1; allowance = s.allowance - 1 }

-- `held` pages are passed over: those of the block being emptied
pub record Room (held : ℕ) (s : Stock) : Type 0 where
  pub place : held + 1 + s.spare ≤ s.frees
  pub paid : s.allowance ≤ s.spare

-- what is left of the free pages when every spare token is spent
abbrev pub margin : Stock → ℕ
margin s = s.frees - s.spare

-- after n failed tries: what a loop of tries keeps
pub record Trying (s : Stock) (n : ℕ) (t : Stock) : Type 0 where
  pub frees : t.frees + n ≡ s.frees
  pub spare : t.spare + n ≡ s.spare
  pub allowance : t.allowance + n ≡ s.allowance

-- after n tries of which the last was good
pub record Wrote (s : Stock) (n : ℕ) (t : Stock) : Type 0 where
  pub frees : t.frees + n ≡ s.frees
  pub spare : t.spare + n ≡ s.spare + 1
  pub allowance : t.allowance + n ≡ s.allowance + 1
  pub paid : t.allowance ≤ t.spare
  pub solvent : t.spare ≤ t.frees

pub trying_none : (s : Stock) → Trying s 0 s
trying_none s = record { frees = omega arith; spare = omega arith; allowance = omega arith }

-- a failed try leaves as much room, so there is a place for the next
pub trying_room : (held n : ℕ) (s t : Stock) → Room held s → Trying s n t → Room held t
trying_room held n s t r y = record { place = omega arith; paid = omega arith }

pub trying_more : (held n : ℕ) (s t : Stock) → Room held s → Trying s n t → 0 < t.allowance → Trying s (n + 1) (tried false t)
trying_more held n s t r y h =
    let p = trying_room held n s t r y in
    record { frees = omega arith; spare = omega arith; allowance = omega arith }

pub trying_good : (held n : ℕ) (s t : Stock) → Room held s → Trying s n t → Wrote s (n + 1) (tried true t)
trying_good held n s t r y =
    let p = trying_room held n s t r y in
    record { frees = omega arith; spare = omega arith; allowance = omega arith; paid = omega arith; solvent = omega arith }

-- the tries are at most one more than the failures that were left, and a write costs one page of the margin
pub wrote_tries : (s : Stock) (n : ℕ) (t : Stock) → Wrote s n t → n ≤ s.allowance + 1
wrote_tries s n t w = omega arith

pub wrote_margin : (s : Stock) (n : ℕ) (t : Stock) → s.spare ≤ s.frees → Wrote s n t → margin t + 1 ≡ margin s
wrote_margin s n t h w = omega arith

-- ---- a recycle: copies, and then the erase

-- after n copies
pub record Copied (s : Stock) (n : ℕ) (t : Stock) : Type 0 where
  pub margin : margin t + n ≡ margin s
  pub paid : t.allowance ≤ t.spare
  pub solvent : t.spare ≤ t.frees

pub copied_none : (s : Stock) → s.allowance ≤ s.spare → s.spare ≤ s.frees → Copied s 0 s
copied_none s h k = record { margin = omega arith; paid = h; solvent = k }

pub copied_more : (s : Stock) (n tries : ℕ) (t u : Stock) → Copied s n t → Wrote t tries u → Copied s (n + 1) u
copied_more s n tries t u c w = record { margin = omega arith; paid = w.paid; solvent = w.solvent }

-- a block of `size` pages has f free, l live and c dead pages; while a copy is due there is a place outside it
pub copied_room : (size yield f l c : ℕ) (s : Stock) (n : ℕ) (t : Stock)
    → f + l + c ≡ size → yield ≤ c → size - yield ≤ margin s → Copied s n t → n < l → Room f t
copied_room size yield f l c s n t kinds enough wide y due = record { place = omega arith; paid = y.paid }

-- the erase of a block with f free pages
pub erased_margin : (size f : ℕ) (t u : Stock) → u.frees + f ≡ t.frees + size → u.spare ≡ t.spare → t.spare ≤ t.frees → f ≤ size → margin u ≡ margin t + (size - f)
erased_margin size f t u more same solvent h = omega arith

-- the margin gains what was dead
pub recycled_margin : (size f l c : ℕ) (s t u : Stock)
    → f + l + c ≡ size → Copied s l t → u.frees + f ≡ t.frees + size → u.spare ≡ t.spare → margin u ≡ margin s + c
recycled_margin size f l c s t u kinds y more same = omega arith

-- the same from the counts of a whole recycle: free pages, spare tokens, and the tries that were made for l copies
pub recycled_gains : (size f l c tries Φ Φ' spare spare' : ℕ) → f + l + c ≡ size → Φ' + tries + f ≡ Φ + size → spare' + tries ≡ spare + l → Φ' + spare ≡ Φ + c + spare'
recycled_gains size f l c tries Φ Φ' spare spare' kinds gained paid = omega arith

-- ---- tokens: τ is all that the accounts but the spare one hold

-- as long as every token has a page, a token buys a place
pub token_room : (τ : ℕ) (s : Stock) → s.allowance ≤ s.spare → τ + s.spare ≤ s.frees → 0 < τ → Room 0 s
token_room τ s paid backed some = record { place = omega arith; paid = paid }

-- and the token that paid is gone with the page
pub wrote_backed : (τ : ℕ) (s : Stock) (n : ℕ) (t : Stock) → τ + 1 + s.spare ≤ s.frees → Wrote s n t → τ + t.spare ≤ t.frees
wrote_backed τ s n t backed w = omega arith

-- a recycle pays for the tokens of its run
pub recycled_backed : (τ yield c : ℕ) (s u : Stock) → τ + s.spare ≤ s.frees → yield ≤ c → margin u ≡ margin s + c → u.spare ≤ u.frees → τ + yield + u.spare ≤ u.frees
recycled_backed τ yield c s u backed enough gained solvent = omega arith
