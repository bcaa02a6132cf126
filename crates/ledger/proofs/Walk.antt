-- A whole tick of a seat is `passed`, and a walk over the seats passes each. Assumes nothing.
use Rattle.std.proofs.Common.{rules, ◌≡◌, ℕ, zero, suc, ◌+◌, ◌-◌, ◌<◌, ◌≤◌, true, false, List, [], ◌∷◌, map, length, get_or, set, sym, refl, ap, ◌∙◌, le_of_suc-le-suc, not-suc-le-zero, add-one}
use Rattle.std.proofs.lemmas.List.{set-set}
use Rattle.ledger.specs.declared.seat.Seat.{Seat}
use Rattle.ledger.specs.Seats.{nobody, in_use, one_later, due, ran, ran_times, turned, passed}
use Rattle.ledger.specs.Walk.{walked}

-- ---- one seat

pub no_runs : (α : ℕ) (s : Seat) → s ≡ ran_times α 0 s
no_runs α s = search rules

pub one_more_run : (α n : ℕ) (s : Seat) → ran α (ran_times α n s) ≡ ran_times α (n + 1) s
one_more_run α n s = search rules

-- its clock, the runs that are due then, and the end of its meta-period: a tick
pub passed_used : (α : ℕ) (s : Seat) → in_use s ≡ true → turned (ran_times α (due (one_later s) - s.runs) (one_later s)) ≡ passed α s
passed_used α s used = search rules

pub passed_unused : (α : ℕ) (s : Seat) → in_use s ≡ false → passed α s ≡ s
passed_unused α s empty = search rules

-- ---- the seats

pub walked_none : (α : ℕ) (xs : List Seat) → walked α 0 xs ≡ xs
walked_none α [] = refl
walked_none α (x ∷ xs) = refl

pub walked_all : (α n : ℕ) (xs : List Seat) → length xs ≤ n → walked α n xs ≡ map (passed α) xs
walked_all α zero [] long = refl
walked_all α (suc n) [] long = refl
walked_all α zero (x ∷ xs) long = absurd (not-suc-le-zero long)
walked_all α (suc n) (x ∷ xs) long = ap (λ (ys : List Seat). passed α x ∷ ys) (walked_all α n xs (le_of_suc-le-suc long))

pub walked_length : (α n : ℕ) (xs : List Seat) → length (walked α n xs) ≡ length xs
walked_length α zero [] = refl
walked_length α (suc n) [] = refl
walked_length α zero (x ∷ xs) = refl
walked_length α (suc n) (x ∷ xs) = ap suc (walked_length α n xs)

-- the seat that is next has not been touched
pub walked_next : (α n : ℕ) (xs : List Seat) → get_or (walked α n xs) n nobody ≡ get_or xs n nobody
walked_next α zero [] = refl
walked_next α (suc n) [] = refl
walked_next α zero (x ∷ xs) = refl
walked_next α (suc n) (x ∷ xs) = walked_next α n xs

step : (α n : ℕ) (xs : List Seat) → set (walked α n xs) n (passed α (get_or xs n nobody)) ≡ walked α (suc n) xs
step α zero [] = refl
step α (suc n) [] = refl
step α zero (x ∷ xs) = ap (λ (ys : List Seat). passed α x ∷ ys) (sym (walked_none α xs))
step α (suc n) (x ∷ xs) = ap (λ (ys : List Seat). passed α x ∷ ys) (step α n xs)

pub walked_more : (α n : ℕ) (xs : List Seat) → set (walked α n xs) n (passed α (get_or xs n nobody)) ≡ walked α (n + 1) xs
walked_more α n xs = rw (add-one n) (step α n xs)

-- ---- a seat's tick, over the list of seats

module _ (α i : ℕ) (xs : List Seat) (there : i < length xs) where
  -- the seats after so many runs of a seat's tick
  abbrev pub after_runs : ℕ → List Seat
  after_runs n = set xs i (ran_times α n (one_later (get_or xs i nobody)))

  pub none_yet : set xs i (one_later (get_or xs i nobody)) ≡ after_runs 0
  none_yet = ap (set xs i) (no_runs α (one_later (get_or xs i nobody)))

  pub seat_after_runs : (n : ℕ) → get_or (after_runs n) i nobody ≡ ran_times α n (one_later (get_or xs i nobody))
  seat_after_runs n = search rules

  pub one_run_on : (n : ℕ) → set (after_runs n) i (ran α (get_or (after_runs n) i nobody)) ≡ after_runs (n + 1)
  one_run_on n =
      ap (λ (x : Seat). set (after_runs n) i (ran α x)) (seat_after_runs n)
      ∙ set-set xs i _ _
      ∙ ap (set xs i) (one_more_run α n (one_later (get_or xs i nobody)))

  pub tick_ends :
      in_use (get_or xs i nobody) ≡ true → (n : ℕ) → n ≡ due (one_later (get_or xs i nobody)) - (get_or xs i nobody).runs →
      set (after_runs n) i (turned (get_or (after_runs n) i nobody)) ≡ set xs i (passed α (get_or xs i nobody))
  tick_ends used n all =
      ap (λ (x : Seat). set (after_runs n) i (turned x)) (seat_after_runs n)
      ∙ set-set xs i _ _
      ∙ ap (λ (m : ℕ). set xs i (turned (ran_times α m (one_later (get_or xs i nobody))))) all
      ∙ ap (set xs i) (passed_used α (get_or xs i nobody) used)
