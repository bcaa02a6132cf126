-- Sums over the seats, when one seat changes. Assumes nothing.
use Rattle.std.proofs.Common.{◌≡◌, ℕ, zero, suc, ◌+◌, ◌<◌, ◌≤◌, List, [], ◌∷◌, length, get_or, take, set, refl, le_of_suc-le-suc, not-suc-le-zero, add-one, arith}
use Rattle.ledger.specs.declared.frame.Frame.{Frame}
use Rattle.ledger.specs.declared.seat.Seat.{Seat}
use Rattle.ledger.specs.Seats.{nobody}
use Rattle.ledger.specs.Books.{held, lent, extra}
use Rattle.ledger.specs.Shares.{holds, had, adds}

-- a sum F of g over a list: one element changed changes it by the difference
module _ {X : Type 0} (g : X → ℕ) (F : List X → ℕ) (step : (x : X) (xs : List X) → F (x ∷ xs) ≡ g x + F xs) where
  pub sum_set : (xs : List X) (i : ℕ) (y d : X) → i < length xs → F (set xs i y) + g (get_or xs i d) ≡ F xs + g y
  sum_set [] i y d h = absurd (not-suc-le-zero h)
  sum_set (x ∷ xs) zero y d h = omega (arith, step x xs, step y xs)
  sum_set (x ∷ xs) (suc i) y d h = omega (arith, step x xs, step x (set xs i y), sum_set xs i y d (le_of_suc-le-suc h))

  pub sum_has : (xs : List X) (i : ℕ) (d : X) → i < length xs → g (get_or xs i d) ≤ F xs
  sum_has [] i d h = absurd (not-suc-le-zero h)
  sum_has (x ∷ xs) zero d h = omega (arith, step x xs)
  sum_has (x ∷ xs) (suc i) d h = omega (arith, step x xs, sum_has xs i d (le_of_suc-le-suc h))

  -- a sum from the front, one element on
  pub sum_more : F [] ≡ 0 → (xs : List X) (i : ℕ) (d : X) → i < length xs → F (take (i + 1) xs) ≡ F (take i xs) + g (get_or xs i d)
  sum_more none xs i d h = rw (add-one i) (up none xs i d h)
    where
      up : F [] ≡ 0 → (xs : List X) (i : ℕ) (d : X) → i < length xs → F (take (suc i) xs) ≡ F (take i xs) + g (get_or xs i d)
      up none [] i d h = absurd (not-suc-le-zero h)
      up none (x ∷ xs) zero d h = omega (arith, step x [], none)
      up none (x ∷ xs) (suc i) d h = omega (arith, step x (take (suc i) xs), step x (take i xs), up none xs i d (le_of_suc-le-suc h))

pub held_set : (xs : List Seat) (i : ℕ) (s : Seat) → i < length xs → held (set xs i s) + holds (get_or xs i nobody) ≡ held xs + holds s
held_set xs i s h = sum_set holds held (λ _ _. refl) xs i s nobody h

pub held_has : (xs : List Seat) (i : ℕ) → i < length xs → holds (get_or xs i nobody) ≤ held xs
held_has xs i h = sum_has holds held (λ _ _. refl) xs i nobody h

pub lent_set : (f : Frame) (xs : List Seat) (i : ℕ) (s : Seat) → i < length xs → lent f (set xs i s) + had f (get_or xs i nobody) ≡ lent f xs + had f s
lent_set f xs i s h = sum_set (had f) (lent f) (λ _ _. refl) xs i s nobody h

pub extra_set : (α : ℕ) (xs : List Seat) (i : ℕ) (s : Seat) → i < length xs → extra α (set xs i s) + adds α (get_or xs i nobody) ≡ extra α xs + adds α s
extra_set α xs i s h = sum_set (adds α) (extra α) (λ _ _. refl) xs i s nobody h

pub held_more : (xs : List Seat) (i : ℕ) → i < length xs → held (take (i + 1) xs) ≡ held (take i xs) + holds (get_or xs i nobody)
held_more xs i h = sum_more holds held (λ _ _. refl) refl xs i nobody h

pub extra_more : (α : ℕ) (xs : List Seat) (i : ℕ) → i < length xs → extra α (take (i + 1) xs) ≡ extra α (take i xs) + adds α (get_or xs i nobody)
extra_more α xs i h = sum_more (adds α) (extra α) (λ _ _. refl) refl xs i nobody h
