-- How many numbers of a range a test picks.
use Rattle.std.proofs.Common.{◌≡◌, ℕ, zero, suc, ◌+◌, ◌-◌, ◌*◌, ◌<◌, ◌≤◌, Bool, true, false, cond, ◌&&◌, ltb, ◌≢◌, List, length, get_or, take, sum, sym, refl, ap, ◌∙◌, inl, inr, add-zero, add_assoc, add-suc, suc-mul, zero-add, zero-mul, add-one, arith}
use native.Mathlib.Decide.{ℕ_discrete}
use Rattle.std.proofs.lemmas.Bool.{cases_Bool}
use Rattle.std.proofs.lemmas.Bool.Decides.{nat_tests}
use Rattle.std.proofs.lemmas.List.Sums.{sum_by_more}
use Rattle.history.specs.Pages.{tally}

module _ (p : ℕ → Bool) where
  pub tally_more : (q n : ℕ) → tally p q (n + 1) ≡ tally p q n + cond (p (q + n)) 1 0
  tally_more q n = rw add-one

  pub tally_more_yes : (q n : ℕ) → p (q + n) ≡ true → tally p q (n + 1) ≡ tally p q n + 1
  tally_more_yes q n h = let t = tally_more q n in grind arith

  pub tally_more_no : (q n : ℕ) → p (q + n) ≡ false → tally p q (n + 1) ≡ tally p q n
  tally_more_no q n h = let t = tally_more q n in grind arith

  pub tally_le : (q n : ℕ) → tally p q n ≤ n
  tally_le q zero = omega arith
  tally_le q (suc n) = let t = tally_le q n in grind (arith, nat_tests)

  pub tally_split : (q m n : ℕ) → tally p q (m + n) ≡ tally p q m + tally p (q + m) n
  tally_split q m zero = simp add-zero
  tally_split q m (suc n) = let t = tally_split q m n in simp (add-suc, add_assoc q m n) (omega arith)

  pub tally_mono : (q m n : ℕ) → m ≤ n → tally p q m ≤ tally p q n
  tally_mono q m n h =
      let t = tally_split q m (n - m) in
      let e : m + (n - m) ≡ n = omega arith in
      let f = ap (tally p q) e in
      omega (arith, t, f)

  -- something is picked, so there is a first place to look at
  pub tally_some : (q n : ℕ) → 0 < tally p q n → (k : ℕ) × (q ≤ k) × (k < q + n) × (p k ≡ true)
  tally_some q zero h = absurd (omega arith)
  tally_some q (suc n) h =
      elim (cases_Bool (p (q + n))) [
        | inl here ↦ (q + n, omega arith, omega arith, here)
        | inr not-here ↦ (let t = tally_some q n (grind (arith, h)) in (t.0, t.1, omega arith, t.3))
      ]

  -- nothing is picked
  pub tally_none : (q n : ℕ) → ((k : ℕ) → q ≤ k → k < q + n → p k ≡ false) → tally p q n ≡ 0
  tally_none q zero h = refl
  tally_none q (suc n) h =
      let t = tally_none q n (λ k a b. h k a (omega arith)) in
      let e = h (q + n) (omega arith) (omega arith) in
      grind arith

  pub tally_none_at : (q n : ℕ) → tally p q n ≡ 0 → (k : ℕ) → q ≤ k → k < q + n → p k ≡ false
  tally_none_at q zero h k a b = absurd (omega arith)
  tally_none_at q (suc n) h k a b =
      elim (ℕ_discrete k (q + n)) [
        | yes same ↦ grind arith
        | no apart ↦ tally_none_at q n (grind arith) k a (omega arith)
      ]

  -- all are picked
  pub tally_all : (q n : ℕ) → ((k : ℕ) → q ≤ k → k < q + n → p k ≡ true) → tally p q n ≡ n
  tally_all q zero h = refl
  tally_all q (suc n) h =
      let t = tally_all q n (λ k a b. h k a (omega arith)) in
      let e = h (q + n) (omega arith) (omega arith) in
      grind arith

  module _ (r : ℕ → Bool) where
    pub tally_same : (q n : ℕ) → ((k : ℕ) → q ≤ k → k < q + n → p k ≡ r k) → tally p q n ≡ tally r q n
    tally_same q zero h = refl
    tally_same q (suc n) h =
        let t = tally_same q n (λ k a b. h k a (omega arith)) in
        let e = h (q + n) (omega arith) (omega arith) in
        cc

    -- two tests that agree but at one place
    pub tally_but_one : (q n i : ℕ) → q ≤ i → i < q + n → ((k : ℕ) → q ≤ k → k < q + n → k ≢ i → p k ≡ r k)
        → tally p q n + cond (r i) 1 0 ≡ tally r q n + cond (p i) 1 0
    tally_but_one q zero i a b h = absurd (omega arith)
    tally_but_one q (suc n) i a b h =
        elim (ℕ_discrete i (q + n)) [
          | yes same ↦ (let t = tally_same q n (λ k c d. h k c (omega arith) (omega arith)) in
              let e : p (q + n) ≡ p i = cc in let f : r (q + n) ≡ r i = cc in grind arith)
          | no apart ↦ (let t = tally_but_one q n i a (omega arith) (λ k c d. h k c (omega arith)) in
              let e = h (q + n) (omega arith) (omega arith) (λ e. apart (sym e)) in grind arith)
        ]

    -- so the tallies differ by one at most
    pub tally_near : (q n i : ℕ) → ((k : ℕ) → q ≤ k → k < q + n → k ≢ i → p k ≡ r k) → tally p q n ≤ tally r q n + 1
    tally_near q zero i h = omega arith
    tally_near q (suc n) i h =
        elim (ℕ_discrete i (q + n)) [
          | yes same ↦ (let t = tally_same q n (λ k c d. h k c (omega arith) (omega arith)) in grind arith)
          | no apart ↦ (let t = tally_near q n i (λ k c d. h k c (omega arith)) in
              let e = h (q + n) (omega arith) (omega arith) (λ e. apart (sym e)) in grind arith)
        ]

-- of three tests just one picks each number
pub tally_three : (p r s : ℕ → Bool) (q n : ℕ) → ((k : ℕ) → q ≤ k → k < q + n → cond (p k) 1 0 + cond (r k) 1 0 + cond (s k) 1 0 ≡ 1)
    → tally p q n + tally r q n + tally s q n ≡ n
tally_three p r s q zero h = refl
tally_three p r s q (suc n) h =
    let t = tally_three p r s q n (λ k a b. h k a (omega arith)) in
    let e = h (q + n) (omega arith) (omega arith) in
    omega arith

-- numbers that have labels of their own below m are at most m
module _ (p : ℕ → Bool) (label place : ℕ → ℕ) where
  abbrev below : ℕ → ℕ → Bool
  below m k = p k && ltb (label k) m

  one_label : (n m : ℕ) → ((k : ℕ) → k < n → p k ≡ true → place (label k) ≡ k) → tally (below (suc m)) 0 n ≤ tally (below m) 0 n + 1
  one_label n m own = tally_near (below (suc m)) (below m) 0 n (place m) (λ k a b apart. let o = own k (omega arith) in grind (arith, nat_tests, o))

  labels : (n m : ℕ) → ((k : ℕ) → k < n → p k ≡ true → place (label k) ≡ k) → tally (below m) 0 n ≤ m
  labels n zero own = let t = tally_none (below 0) 0 n (λ k a b. grind (arith, nat_tests)) in omega arith
  labels n (suc m) own = let t = labels n m own in let s = one_label n m own in omega arith

  pub tally_labels : (n m : ℕ) → ((k : ℕ) → k < n → p k ≡ true → place (label k) ≡ k) → ((k : ℕ) → k < n → p k ≡ true → label k < m) → tally p 0 n ≤ m
  tally_labels n m own within =
      let t = labels n m own in
      let s = tally_same p (below m) 0 n (λ k a b. let w = within k (omega arith) in grind (arith, nat_tests, w)) in
      omega arith

-- a range block by block
module _ (p : ℕ → Bool) (size : ℕ) where
  pub tally_block : (b : ℕ) → tally p 0 (b * size + size) ≡ tally p 0 (b * size) + tally p (b * size) size
  tally_block b = tally_split p 0 (b * size) size ∙ simp zero-add

  pub tally_blocks : (counts : List ℕ) (n : ℕ) → n ≤ length counts → ((b : ℕ) → b < n → get_or counts b 0 ≡ tally p (b * size) size) → sum (take n counts) ≡ tally p 0 (n * size)
  tally_blocks counts zero fits each = simp zero-mul
  tally_blocks counts (suc n) fits each =
      let t = tally_blocks counts n (omega arith) (λ b h. each b (omega arith)) in
      let e = each n (omega arith) in
      let s = tally_block n in
      let m = sum_by_more (λ x. x) counts n 0 (omega arith) in
      cc (suc-mul n size, add-one n)
