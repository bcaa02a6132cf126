-- One seat of a list moves, or a tick passes for all: the step of every seat.
use Rattle.std.proofs.Common.{◌≡◌, ℕ, ◌+◌, ◌<◌, ◌≤◌, List, map, length, get_or, set, sym, refl, ap, ◌∙◌, subst, inl, inr, add-one, arith, get_or-set_other, get_or-set_same}
use native.Mathlib.Decide.{ℕ_discrete}
use lib.ListN.{get_or-map}
use Rattle.std.proofs.lemmas.List.{get_or_past}
use Rattle.std.proofs.lemmas.Bool.{cases_lt}
use Rattle.ledger.specs.declared.frame.Frame.{Frame}
use Rattle.ledger.specs.declared.seat.Status.TheVariants.{Empty}
use Rattle.ledger.specs.declared.seat.Seat.{Seat}
use Rattle.ledger.specs.Seats.{nobody, passed}
use Rattle.history.specs.History.{hands_back, save, Deed, did, ticked, refused, sum_first}
use Rattle.history.specs.Moves.{DeedStep, SaveRefused, Step}

module _ (f : Frame) (xs : List Seat) (j : ℕ) (y : Seat) (there : j < length xs) where
  same_seat : get_or (set xs j y) j nobody ≡ y
  same_seat = get_or-set_same xs j y nobody there

  other_seat : (i : ℕ) → (j ≡ i → ⊥) → get_or (set xs j y) i nobody ≡ get_or xs i nobody
  other_seat i apart = get_or-set_other xs j i y nobody (λ e. apart (sym e))

  pub deed_moves : (d : Deed) → DeedStep f j d (get_or xs j nobody) y → (i : ℕ) → Step f i (did j d) (get_or xs i nobody) (get_or (set xs j y) i nobody)
  deed_moves d m i =
      let here : DeedStep f j d (get_or xs j nobody) (get_or (set xs j y) j nobody) = subst (λ z. DeedStep f j d (get_or xs j nobody) z) (sym same_seat) m in
      ((λ same. subst (λ x. DeedStep f x d (get_or xs x nobody) (get_or (set xs j y) x nobody)) same here), other_seat i)

  pub save_refused_moves : (n : ℕ) (b : List ℕ) (why : ℕ) → SaveRefused f j (hands_back why) (get_or xs j nobody) y
      → (i : ℕ) → Step f i (refused (save j n b) why) (get_or xs i nobody) (get_or (set xs j y) i nobody)
  save_refused_moves n b why m i =
      let here : SaveRefused f j (hands_back why) (get_or xs j nobody) (get_or (set xs j y) j nobody) = subst (λ z. SaveRefused f j (hands_back why) (get_or xs j nobody) z) (sym same_seat) m in
      ((λ same. subst (λ x. SaveRefused f x (hands_back why) (get_or xs x nobody) (get_or (set xs j y) x nobody)) same here), other_seat i)

-- ---- a tick, seat after seat

-- the first i seats have had their tick
pub record Ticking (α : ℕ) (xs : List Seat) (i : ℕ) (zs : List Seat) : Type 0 where
  pub long : length zs ≡ length xs
  pub done : (k : ℕ) → k < i → get_or zs k nobody ≡ passed α (get_or xs k nobody)
  pub rest : (k : ℕ) → i ≤ k → get_or zs k nobody ≡ get_or xs k nobody

pub ticking_none : (α : ℕ) (xs : List Seat) → Ticking α xs 0 xs
ticking_none α xs = record { long = refl; done = λ k low. absurd (omega arith); rest = λ k low. refl }

-- what holds of the seats as the loop found them: the turn of seat i changed no other seat
pub ticking_more : (α : ℕ) (xs : List Seat) (i : ℕ) (zs ys : List Seat) → Ticking α xs i zs → length ys ≡ length zs
    → get_or ys i nobody ≡ passed α (get_or zs i nobody) → ((k : ℕ) → (k ≡ i → ⊥) → get_or ys k nobody ≡ get_or zs k nobody)
    → Ticking α xs (i + 1) ys
ticking_more α xs i zs ys t long here others =
    record {
      long = long ∙ t.long;
      done = λ k low.
          elim (ℕ_discrete k i) [
            | yes same ↦ ap (λ x. get_or ys x nobody) same ∙ here ∙ ap (passed α) (t.rest i (omega arith)) ∙ sym (ap (λ x. passed α (get_or xs x nobody)) same)
            | no apart ↦ others k apart ∙ t.done k (omega arith)
          ];
      rest = λ k low. others k (omega arith) ∙ t.rest k (omega arith);
    }

pub ticking_all : (f : Frame) (xs zs : List Seat) (n r c t : ℕ) → Ticking f.alpha xs (length xs) zs → (i : ℕ) → Step f i (ticked n r c t) (get_or xs i nobody) (get_or zs i nobody)
ticking_all f xs zs n r c t all i =
    elim (cases_lt i (length xs)) [
      | inl within ↦ all.done i within
      | inr past ↦ all.rest i past ∙ get_or_past xs i nobody past ∙ sym (ap (passed f.alpha) (get_or_past xs i nobody past))
    ]

-- the same for the whole list at once
pub tick_moves : (f : Frame) (xs : List Seat) (n r c t : ℕ) (i : ℕ) → Step f i (ticked n r c t) (get_or xs i nobody) (get_or (map (passed f.alpha) xs) i nobody)
tick_moves f xs n r c t i = get_or-map (passed f.alpha) xs i nobody

pub sum_more : (n : ℕ) (g : ℕ → ℕ) → sum_first (n + 1) g ≡ sum_first n g + g n
sum_more n g = rw (add-one n) refl

pub no_seats : (xs : List Seat) → ((i : ℕ) → i < length xs → (get_or xs i nobody).status ≡ Empty) → (i : ℕ) → (get_or xs i nobody).status ≡ Empty
no_seats xs none i =
    elim (cases_lt i (length xs)) [
      | inl within ↦ none i within
      | inr past ↦ ap (λ x. x.status) (get_or_past xs i nobody past)
    ]
